-- What a net keeps: it is delivered, and it grows by a step.
use Rattle.delivery.proofs.Words.All.{◌≡◌, ℕ, ◌-◌, ◌≤◌, List, [], ◌∷◌, ◌++◌, map, length, reverse, refl, sym, ap, subst, ◌∙◌, append_assoc, append-nil, map-append, take, SendersState, max_topics, World, Event, Outcome, Kept, TopicList, KeptRun, HasTaken, HasAnswered, IsDelivered, HasReport, CoreStep, kept_of, names_after, IsCoreRun, Core, core_of, names_at, new_core, Report, report_of, Delivery, kept_run, reading_at, steps_of, KeepsBoth, KeepsRun, AreClients, MakesBoth, IsReached, step_of, View, view_of, report_in}
use Rattle.std.proofs.lemmas.List.{reverse-append}
use Rattle.std.proofs.lemmas.Grind.{reverse_onto}
use Rattle.delivery.proofs.Core.AccountOfRun.{run_of, world_is, core_is}
use Rattle.delivery.proofs.Core.DeliveryOfRun.{delivery}
use Rattle.delivery.proofs.Core.NamesKnown.{names_first}
use Rattle.delivery.proofs.Core.StepsOfRun.{steps_turned}
use Rattle.delivery.proofs.Theorem.SpansAsAnswered.{known}
use Rattle.delivery.proofs.Views.Runs.ReportOfView.{reported}

-- what a net holds has the opening names first, and the capacity that it began with
pub names_kept : (topics : TopicList) (capacity : ℕ) (kept : List Kept) (held : View) → KeepsRun topics capacity kept held → take (length topics.clocks) held.names ≡ topics.names
names_kept topics capacity kept held keeps =
    let names : held.names ≡ names_after topics.names keeps.steps =
    ap (λ (v : View). v.names) keeps.view ∙ ap (λ (k : Core). names_at k) (core_is topics capacity keeps.steps) in
    (λ i. take (keeps.as_many i) (names i)) ∙ names_first topics.names keeps.steps

pub capacity_kept : (topics : TopicList) (capacity : ℕ) (kept : List Kept) (held : View) → KeepsRun topics capacity kept held → held.capacity ≡ capacity
capacity_kept topics capacity kept held keeps =
    ap (λ (v : View). v.capacity) keeps.view
    ∙ (ap (λ (w : World). w.capacity) (world_is topics capacity keeps.steps)
    ∙ (known (run_of topics capacity keeps.steps)).same)

-- ---- its report

-- the steps of a net are those of its kept run
abbrev pub AreSteps : KeptRun → Type 0
AreSteps net = net.steps ≡ steps_of (reverse net.kept)

-- what a net keeps are its steps
pub steps_kept : (net : KeptRun) (held : View) → AreSteps net → (keeps : KeepsRun net.topics net.capacity net.kept held) → keeps.steps ≡ net.steps
steps_kept net held are keeps = steps_turned net.topics net.capacity keeps.steps keeps.is_run ∙ (ap (λ (run : List Kept). steps_of (reverse run)) (sym keeps.are_kept) ∙ sym are)

-- the report of what a net holds is delivered
pub is_delivered : (net : KeptRun) (held : View) → AreSteps net → KeepsRun net.topics net.capacity net.kept held → IsDelivered net (report_in held)
is_delivered net held are keeps =
    let k = core_of net.topics net.capacity keeps.steps in let same : keeps.steps ≡ net.steps = steps_kept net held are keeps in
    let is_report : report_in held ≡ report_of k = ap report_in keeps.view ∙ reported k in
    let run : Delivery net.topics net.capacity net.steps (report_in held) =
    subst (λ (r : Report). Delivery net.topics net.capacity net.steps r) (sym is_report)
    (subst (λ (steps : List CoreStep). Delivery net.topics net.capacity steps (report_of k)) same (delivery net.topics net.capacity keeps.steps keeps.as_many keeps.is_run)) in
    record {
      kept = keeps.are_kept ∙ ap kept_run same;
      read = run.read;
      delivered = run.delivered;
      written = run.written;
      answered = record {
        as_many = keeps.as_many;
        is_run = subst (λ (steps : List CoreStep). IsCoreRun net.topics net.capacity steps) same keeps.is_run;
        is_report = is_report ∙ ap (λ (steps : List CoreStep). report_of (core_of net.topics net.capacity steps)) same;
      };
    }

-- so the report of its core is
pub has_report : (net : KeptRun) (held : View) → AreSteps net → KeepsRun net.topics net.capacity net.kept held → HasReport net
has_report net held are keeps = let is = is_delivered net held are keeps in subst (IsDelivered net) is.answered.is_report is

-- the last of what a net keeps was a step of its core
pub has_answered : (old new : KeptRun) (held : View) (e : Event) (o : Outcome) → AreSteps old → AreSteps new → KeepsRun new.topics new.capacity new.kept held
    → new.topics ≡ old.topics → new.capacity ≡ old.capacity → new.kept ≡ old.kept ++ record { event = e; outcome = o } ∷ [] → HasAnswered e o old new
has_answered old new held e o were are keeps topics capacity kept =
    let one : Kept = record { event = e; outcome = o } in let step = step_of e (reading_at old.steps e o) o in
    let turned : reverse new.kept ≡ one ∷ reverse old.kept = ap (λ (run : List Kept). reverse run) kept ∙ reverse-append old.kept (one ∷ []) in
    let steps : new.steps ≡ step ∷ old.steps =
    are ∙ (ap steps_of turned ∙ ap (λ (ss : List CoreStep). step_of e (reading_at ss e o) o ∷ ss) (sym were)) in
    let is = is_delivered new held are keeps in
    let run : IsCoreRun old.topics old.capacity (step ∷ old.steps) =
    subst (λ (ss : List CoreStep). IsCoreRun old.topics old.capacity ss) steps
    (subst (λ (n : ℕ). IsCoreRun old.topics n new.steps) capacity (subst (λ (t : TopicList). IsCoreRun t new.capacity new.steps) topics is.answered.is_run)) in
    record { step = step; is_kept = refl; is_new = steps; may = run.0 }

-- ---- a step

-- what an event is answered and what is held then, of whatever core what was held is the view, and whose the senders are
abbrev pub Answers : View → SendersState → Event → Outcome → View → SendersState → Type 0
Answers held clients e o new later = (k : Core) → IsReached k → held ≡ view_of k → AreClients k clients → MakesBoth k e o new later

-- the kept run with the event and its outcome at its end is one of a core, and what is held then is its view
grown : (topics : TopicList) (capacity : ℕ) (kept : List Kept) (held new : View) (clients later : SendersState) (e : Event) (o : Outcome)
    → KeepsBoth topics capacity kept held clients → Answers held clients e o new later → KeepsBoth topics capacity (kept ++ record { event = e; outcome = o } ∷ []) new later
grown topics capacity kept held new clients later e o both answers =
    let keeps = both.run in let k = core_of topics capacity keeps.steps in
    let makes = answers k (record { topics = topics; capacity = capacity; steps = keeps.steps; as_many = keeps.as_many; is = refl; run = keeps.is_run }) keeps.view both.claimed in
    let step = step_of e makes.reading o in record {
      run = record {
        as_many = keeps.as_many;
        few = keeps.few;
        steps = step ∷ keeps.steps;
        are_kept = ap (λ (older : List Kept). older ++ kept_of step ∷ []) keeps.are_kept
            ∙ sym (reverse_onto (map kept_of keeps.steps) (kept_of step) []);
        is_run = (makes.may, keeps.is_run);
        view = makes.view;
      };
      claimed = makes.claimed;
    }

-- the topics that a net began with, where this is held
abbrev pub opening_of : List ℕ → View → TopicList
opening_of clocks held = record { names = take (length clocks) held.names; clocks = clocks }

-- the same of the names and the capacity that are held then
pub step_kept : (clocks : List ℕ) (kept : List Kept) (held new : View) (clients later : SendersState) (e : Event) (o : Outcome)
    → KeepsBoth (opening_of clocks held) held.capacity kept held clients → Answers held clients e o new later
    → KeepsBoth (opening_of clocks new) new.capacity (kept ++ record { event = e; outcome = o } ∷ []) new later
step_kept clocks kept held new clients later e o keeps answers =
    let topics : TopicList = opening_of clocks held in let both = grown topics held.capacity kept held new clients later e o keeps answers in
    let run = kept ++ record { event = e; outcome = o } ∷ [] in
    subst (λ (n : ℕ). KeepsBoth (opening_of clocks new) n run new later)
    (sym (capacity_kept topics held.capacity run new both.run))
    (subst (λ (names : List (List ℕ)). KeepsBoth (record { names = names; clocks = clocks }) held.capacity run new later)
    (sym (names_kept topics held.capacity run new both.run)) both)

-- the opening names and the capacity stay
pub names_stay : (clocks : List ℕ) (kept : List Kept) (held new : View) (clients later : SendersState) (e : Event) (o : Outcome)
    → KeepsBoth (opening_of clocks held) held.capacity kept held clients → Answers held clients e o new later → take (length clocks) new.names ≡ take (length clocks) held.names
names_stay clocks kept held new clients later e o keeps answers =
    let topics : TopicList = opening_of clocks held in
    names_kept topics held.capacity (kept ++ record { event = e; outcome = o } ∷ []) new (grown topics held.capacity kept held new clients later e o keeps answers).run

pub capacity_stays : (clocks : List ℕ) (kept : List Kept) (held new : View) (clients later : SendersState) (e : Event) (o : Outcome)
    → KeepsBoth (opening_of clocks held) held.capacity kept held clients → Answers held clients e o new later → new.capacity ≡ held.capacity
capacity_stays clocks kept held new clients later e o keeps answers =
    let topics : TopicList = opening_of clocks held in
    capacity_kept topics held.capacity (kept ++ record { event = e; outcome = o } ∷ []) new (grown topics held.capacity kept held new clients later e o keeps answers).run

-- a net before its first event keeps the run of no step
pub new_kept : (topics : TopicList) (capacity : ℕ) (held : View) → length topics.clocks ≡ length topics.names → length topics.clocks ≤ max_topics
    → held ≡ view_of (new_core topics capacity)
    → (opening_of topics.clocks held ≡ topics) × KeepsBoth (opening_of topics.clocks held) held.capacity [] held (record { begun = 0; kept = [] })
new_kept topics capacity held as_many few is =
    let keeps : KeepsRun topics capacity [] held = record { as_many = as_many; few = few; steps = []; are_kept = refl; is_run = tt; view = is } in
    let opening : opening_of topics.clocks held ≡ topics =
    ap (λ (names : List (List ℕ)). record { names = names; clocks = topics.clocks }) (names_kept topics capacity [] held keeps) in (
      opening,
      subst (λ (n : ℕ). KeepsBoth (opening_of topics.clocks held) n [] held (record { begun = 0; kept = [] })) (sym (capacity_kept topics capacity [] held keeps))
          (subst (λ (t : TopicList). KeepsBoth t capacity [] held (record { begun = 0; kept = [] })) (sym opening)
          (record { run = keeps; claimed = record { begun = refl; count = refl; found = λ id. refl } })),
    )

-- ---- events in turn

-- none was taken, and only the spare room has changed
pub taken_none : (old new : KeptRun) → new ≡ record old { spare = new.spare } → HasTaken [] old new
taken_none old new same = record {
  added = [];
  are_events = refl;
  is_new = same
      ∙ (λ i. record old { kept = sym (append-nil old.kept) i; steps = ap (λ (net : KeptRun). net.steps) (sym same) i; spare = new.spare });
}

-- one more was taken
pub taken_more : (events : List Event) (old mid new : KeptRun) (e : Event) (o : Outcome) → HasTaken events old mid
    → new ≡ record mid { kept = mid.kept ++ record { event = e; outcome = o } ∷ []; steps = new.steps; spare = mid.spare - 1 } → HasTaken (events ++ e ∷ []) old new
taken_more events old mid new e o taken is =
    let one : Kept = record { event = e; outcome = o } in
    let kept : mid.kept ++ one ∷ [] ≡ old.kept ++ (taken.added ++ one ∷ []) =
    ap (λ (net : KeptRun). net.kept ++ one ∷ []) taken.is_new ∙ append_assoc old.kept taken.added (one ∷ []) in
    record {
      added = taken.added ++ one ∷ [];
      are_events = map-append (λ (k : Kept). k.event) taken.added (one ∷ []) ∙ ap (λ (es : List Event). es ++ e ∷ []) taken.are_events;
      is_new = is
          ∙ (λ i. record {
            topics = (taken.is_new i).topics;
            capacity = (taken.is_new i).capacity;
            kept = kept i;
            steps = new.steps;
            spare = ap (λ (net : KeptRun). net.spare) (sym is) i;
          });
    }
