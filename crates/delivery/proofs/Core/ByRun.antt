-- Runs one event after another, so that what is shown of one event may use the laws of the run before it.
use Rattle.std.proofs.Common.{◌≡◌, ℕ, List, [], ◌∷◌, ◌++◌, refl, sym, subst}
use Rattle.delivery.proofs.Words.All.{World, start, Move, Answer, world_after, answer_to, run, answers_from, Run, answers_of, final_world}

-- the world after two lists of events
pub run_append : (es fs : List Move) (w : World) → run (es ++ fs) w ≡ run fs (run es w)
run_append [] fs w = refl
run_append (e ∷ es) fs w = run_append es fs (world_after w e)

-- what is answered to them
pub answers_append : (es fs : List Move) (w : World) (past : List Answer) → answers_from (es ++ fs) w past ≡ answers_from fs (run es w) (answers_from es w past)
answers_append [] fs w past = refl
answers_append (e ∷ es) fs w past = answers_append es fs (world_after w e) (answer_to w e ∷ past)

-- the run with these events after it
abbrev pub longer : Run → List Move → Run
longer r es = record r { events = r.events ++ es }

go : (P : List Answer → World → Type 0) → ((r : Run) (e : Move) → P (answers_of r) (final_world r) → P (answer_to (final_world r) e ∷ answers_of r) (world_after (final_world r) e))
    → (es : List Move) (r : Run) → P (answers_of r) (final_world r) → P (answers_from es (final_world r) (answers_of r)) (run es (final_world r))
go P step [] r h = h
go P step (e ∷ es) r h =
    let s = start r.capacity r.log_limit r.clocks in let q = longer r (e ∷ []) in
    let a : answers_of q ≡ answer_to (final_world r) e ∷ answers_of r = answers_append r.events (e ∷ []) s [] in
    let b : final_world q ≡ world_after (final_world r) e = run_append r.events (e ∷ []) s in
    let k : P (answers_of q) (final_world q) =
    subst (λ z. P z (final_world q)) (sym a) (subst (λ z. P (answer_to (final_world r) e ∷ answers_of r) z) (sym b) (step r e h)) in
    subst (λ z. P (answers_from es z (answer_to (final_world r) e ∷ answers_of r)) (run es z)) b
    (subst (λ z. P (answers_from es (final_world q) z) (run es (final_world q))) a (go P step es q k))

-- what holds at the start, and is kept by each event after a run, holds of each run
pub by_run : (P : List Answer → World → Type 0) → ((capacity log_limit : ℕ) (clocks : List ℕ) → P [] (start capacity log_limit clocks))
    → ((r : Run) (e : Move) → P (answers_of r) (final_world r) → P (answer_to (final_world r) e ∷ answers_of r) (world_after (final_world r) e))
    → (r : Run) → P (answers_of r) (final_world r)
by_run P first step r = go P step r.events (record r { events = [] }) (first r.capacity r.log_limit r.clocks)
