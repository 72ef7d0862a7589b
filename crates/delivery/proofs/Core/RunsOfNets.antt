-- A net is a run of the machine, so that the laws of the machine's runs are laws of nets.
use Rattle.delivery.proofs.Words.All.{◌≡◌, ℕ, Bool, true, false, List, [], ◌∷◌, ◌++◌, Option, Some, None, refl, sym, ap, subst, ◌∙◌, zero, suc, not, ◌&&◌, codes, if◌then◌else◌, option_to_list, option_map_or, filter, get_or, In, ProposeFault, IsSound, RawFrame, Action, action_by, is_known, field, has_destination, World, topic_at, Move, Answer, answers_of, final_world, added_clocks, Errs, Lost, Event, Outcome, TopicList, account_of, CoreStep, Reading, frame_in, has_effect, Core, core_of, moves, names_at, session_at, frame_move, topic_moves, is_faulted, is_no_memory, is_cut, KeptRun}
use Rattle.stomp_session.specs.declared.action.Action.TheVariants as actions
use Rattle.delivery.specs.NetLaws.{moves_of, run_of_net, is_told, NetsAreRuns, NetsAreTied, NetsAreSound, NothingOddComes, NoneFailsTwice}
use Rattle.delivery.proofs.Theorem.NeverRefused.{none_is_pending_twice}
use Rattle.delivery.proofs.Theorem.StepLaws.{odd_never_comes}
use Rattle.delivery.proofs.Theorem.TopicsAreSound.{topics_are_sound}
use Rattle.delivery.proofs.Theorem.TopicsAreTied.{topics_are_tied}
use Rattle.delivery.proofs.Core.Said.{said, said_from}
use Rattle.delivery.proofs.Core.AccountOfRun.{all_moves, run_of, world_is, account_is}

-- the moves are those of the machine's run
moves_are : (topics : TopicList) (capacity : ℕ) (steps : List CoreStep) → all_moves topics capacity steps ≡ moves_of topics capacity steps
moves_are topics capacity [] = refl
moves_are topics capacity (step ∷ older) =
    ap (λ (ms : List Move). ms ++ moves (core_of topics capacity older) step.event step.reading step.outcome) (moves_are topics capacity older)

run_is : (net : KeptRun) → run_of net.topics net.capacity net.steps ≡ run_of_net net
run_is net = ap (λ (ms : List Move). record { capacity = net.capacity; log_limit = 65536; clocks = net.topics.clocks; events = ms }) (moves_are net.topics net.capacity net.steps)

-- what an account says of the machine's answers
said_is : (past : List Answer) → said past ≡ filter is_told past
said_is [] = refl
said_is (Answer.Refused why ∷ past) = said_is past
said_is (Answer.Done ∷ past) = said_is past
said_is (o ∷ past) = ap (λ z. o ∷ z) (said_is past)

-- ---- a topic that is made begins at 0

added_append : (es fs : List Move) → added_clocks (es ++ fs) ≡ added_clocks es ++ added_clocks fs
added_append [] fs = refl
added_append (Move.AddsTopic clock ∷ es) fs = ap (λ (z : List ℕ). clock ∷ z) (added_append es fs)
added_append (e ∷ es) fs = added_append es fs

-- each of these numbers is 0
abbrev AreZero : List ℕ → Type 0
AreZero clocks = (i : ℕ) → get_or clocks i 0 ≡ 0

zero_append : (xs ys : List ℕ) → AreZero xs → AreZero ys → AreZero (xs ++ ys)
zero_append [] ys h g i = g i
zero_append (x ∷ xs) ys h g zero = h zero
zero_append (x ∷ xs) ys h g (suc i) = zero_append xs ys (λ j. h (suc j)) g i

-- behind others they change nothing
zero_behind : (xs ys : List ℕ) → AreZero ys → (i : ℕ) → get_or (xs ++ ys) i 0 ≡ get_or xs i 0
zero_behind [] ys h i = h i
zero_behind (x ∷ xs) ys h zero = refl
zero_behind (x ∷ xs) ys h (suc i) = zero_behind xs ys h i

zero_added : (es fs : List Move) → AreZero (added_clocks es) → AreZero (added_clocks fs) → AreZero (added_clocks (es ++ fs))
zero_added es fs h g = subst AreZero (sym (added_append es fs)) (zero_append (added_clocks es) (added_clocks fs) h g)

zero_by_action : (k : Core) (c : ℕ) (action : Action) → AreZero (added_clocks (option_to_list (frame_move k c action)))
zero_by_action k c actions.Nothing i = refl
zero_by_action k c _ i = refl

zero_if : (b : Bool) (es fs : List Move) → AreZero (added_clocks es) → AreZero (added_clocks fs) → AreZero (added_clocks (if b then es else fs))
zero_if true es fs h g = h
zero_if false es fs h g = g

one_zero : AreZero (0 ∷ [])
one_zero zero = refl
one_zero (suc i) = refl

no_zero : AreZero []
no_zero i = refl

zero_by_frame : (k : Core) (c : ℕ) (read : Option RawFrame) → AreZero
    (added_clocks (option_map_or (λ (f : RawFrame). topic_moves (names_at k) f ++ option_to_list (frame_move k c (action_by f.command (session_at k c) f))) read []))
zero_by_frame k c None = no_zero
zero_by_frame k c (Some f) =
    zero_added (topic_moves (names_at k) f) (option_to_list (frame_move k c (action_by f.command (session_at k c) f)))
    (zero_if (has_destination f.command && not (is_known (field (codes "destination") f) (names_at k))) (Move.AddsTopic 0 ∷ []) [] one_zero no_zero)
    (zero_by_action k c (action_by f.command (session_at k c) f))

zero_by_event : (k : Core) (e : Event) (rd : Reading) (o : Outcome) → AreZero (added_clocks (moves k e rd o))
zero_by_event k Event.Open rd o = zero_if (is_no_memory o) [] (Move.Opens ∷ []) no_zero no_zero
zero_by_event k (Event.Next c) rd o = zero_if (is_faulted o) (Errs c ∷ []) _ no_zero (zero_if (has_effect o) _ [] (zero_by_frame k c (frame_in rd)) no_zero)
zero_by_event k (Event.Decide c) rd o = zero_if (is_cut o) (Lost c ∷ []) [] no_zero no_zero
zero_by_event k (Event.Take s) rd o = zero_if (is_no_memory o) [] (Move.Takes s ∷ []) no_zero no_zero
zero_by_event k e rd o = no_zero

zero_by_run : (topics : TopicList) (capacity : ℕ) (steps : List CoreStep) → AreZero (added_clocks (moves_of topics capacity steps))
zero_by_run topics capacity [] = no_zero
zero_by_run topics capacity (step ∷ older) =
    let k = core_of topics capacity older in
    zero_added (moves_of topics capacity older) (moves k step.event step.reading step.outcome) (zero_by_run topics capacity older)
    (zero_by_event k step.event step.reading step.outcome)

-- ---- nets

-- each net is a run of the machine
pub nets_are_runs : NetsAreRuns
nets_are_runs net r is = record {
  core = world_is net.topics net.capacity net.steps ∙ ap (λ q. final_world q) (run_is net);
  account = account_is net.topics net.capacity net.steps is.is_run
      ∙ (ap (λ q. said (answers_of q)) (run_is net) ∙ said_is (answers_of (run_of_net net)));
  opening = λ t. zero_behind net.topics.clocks (added_clocks (moves_of net.topics net.capacity net.steps)) (zero_by_run net.topics net.capacity net.steps) t.0;
}

pub nets_are_tied : NetsAreTied
nets_are_tied net r is t = topics_are_tied (run_of_net net) t

pub nets_are_sound : NetsAreSound
nets_are_sound net r is t = subst (λ (w : World). IsSound (topic_at w t)) (sym (nets_are_runs net r is).core) (topics_are_sound (run_of_net net) t).0

pub nothing_odd_comes : NothingOddComes
nothing_odd_comes net r is why i = odd_never_comes (run_of_net net) why i

pub none_fails_twice : NoneFailsTwice
none_fails_twice net r is id i =
    let told : account_of net.topics.names net.steps ≡ said (answers_of (run_of_net net)) = account_is net.topics net.capacity net.steps is.is_run ∙ ap (λ q. said (answers_of q)) (run_is net) in
    none_is_pending_twice (run_of_net net) id
    (said_from (Answer.Failed id ProposeFault.Twice) (answers_of (run_of_net net)) (subst (λ z. In (Answer.Failed id ProposeFault.Twice) z) told i))
