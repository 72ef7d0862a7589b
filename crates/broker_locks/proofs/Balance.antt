-- What a place keeps.
use Rattle.std.proofs.Common.{◌≡◌, ◌≤◌, ◌<◌, ◌+◌, ◌==◌, ◌&&◌, max, if◌then◌else◌, ℕ, Bool, true, false, suc, List, [], ◌∷◌, length, Option, Some, None, Result, Ok, Err, OnOk, OnErr, IfSome, cond, ◌++◌, refl, sym, ap, subst, ◌∙◌, arith}
use Rattle.std.proofs.Common.{remove}
use Rattle.std.specs.List.{list_any}
use Rattle.std.specs.Option.{option_map}
use Rattle.std.proofs.lemmas.List.{length_push}
use Rattle.std.proofs.lemmas.Bool.Decides.{nat_tests}
use Rattle.std.proofs.lemmas.List.Edits.{length-remove}
use Rattle.mcast_txn.specs.declared.id.Topic.{Topic}
use Rattle.mcast_txn.specs.declared.id.TxnId.{TxnId}
use Rattle.mcast_txn.specs.declared.stamp.Stamp.{Stamp}
use Rattle.mcast_txn.specs.Ballot.{Decision}
use Rattle.mcast_txn.specs.Lists.{In}
use Rattle.mcast_txn.specs.TopicSet.{names}
use Rattle.mcast_txn.specs.Transaction.{TopicPart}
use Rattle.mcast_txn.proofs.Inserting.{insert_length}
use Rattle.mcast_txn.proofs.Orders.{same_topics}
use Rattle.sub_queue.specs.Shown.{Gauge, Shown}
use Rattle.mcast_group.specs.declared.fault.ProposeFault.TheVariants.{Twice}
use Rattle.mcast_group.specs.declared.fault.LearnFault.{LearnFault}
use Rattle.mcast_group.specs.CellGroup.{CellGroupState, CellTurns, IsRead, ProposalState, cell_group_after_cancel, cell_group_after_propose}
use Rattle.mcast_group.specs.Group.{GroupState, Turns, group_after_release, group_after_releases, group_after_subscribe, group_after_tries, group_after_unsubscribe, result_of}
use Rattle.mcast_group.specs.Machine.{Entry, Pending, TopicState, after_cancel, after_drain, after_learn, after_propose, after_subscribe, after_unsubscribe, end_of, find_entry, new_topic, cancel_fault, cancel_fault_of, find_pending, propose_fault, subscribe_fault, after_release, after_tries, after_try, decided_stamp, due_part, learn_fault, parts_without, row_of, with_stamp}
use Rattle.mcast_group.specs.Sound.{IsSound, RisesById}
use Rattle.mcast_group.proofs.Allowed.{keeps_sound}
use Rattle.mcast_group.proofs.Indices.{without_at}
use Rattle.mcast_group.proofs.Parts.{due_is, found_part, map_length, after_release_if}
use Rattle.mcast_group.proofs.Releasing.{placed_at}
use Rattle.broker_locks.specs.Place.{IsBalanced, PlaceState, cells_after_drain, is_part_at, new_place, place_after_subscribe, place_after_unsubscribe, place_fault, place_subscribe_fault, rows_since, source_answers}
use Rattle.broker_locks.specs.Inner.KeptRows.{RowsKept, place_with, trace_kept}
use Rattle.broker_locks.specs.KeptTrace.{KeepsTrace, KeptTrace, kept_after_unsubscribe, no_trace, was_used}
use Rattle.broker_locks.specs.declared.kept_span.KeptSpan.{KeptSpan}
use Rattle.broker_locks.proofs.PlaceTraces.{Traced, kept_ended, kept_same, kept_subscribed, rows_drained, rows_ended, rows_subscribed, traced_alike, traced_drained, traced_ended, traced_new, traced_subscribed, used_alike}
use Rattle.broker_locks.proofs.TraceKept.{trace_releases, trace_tries}
use Rattle.mcast_group.specs.declared.fault.SubFault.TheVariants.{SubInUse}

-- parts and held rows, taken together
abbrev both : TopicState → ℕ
both x = length x.pending + length x.held

-- one part less
pub without_shorter : (ps : List Pending) (p : Pending) → RisesById ps → In p ps → length (parts_without p.part.id ps) + 1 ≡ length ps
without_shorter ps p rises at =
    let placed = placed_at p ps at in
    let e = without_at ps placed.index p rises placed.within (placed.is p) in
    ap (λ (l : List Pending). length l + 1) e ∙ remove_shorter ps placed.index placed.within
  where
    remove_shorter : (xs : List Pending) (i : ℕ) → i < length xs → length (remove xs i) + 1 ≡ length xs
    remove_shorter xs i h = omega (arith, length-remove xs i h)

module _ (takes : Entry → Bool) where
  -- a release moves a part to the log
  release_both : (x : TopicState) → IsSound x → both (after_release takes x) ≡ both x
  release_both x sound = go (due_part x) refl
    where
      go : (o : Option Pending) → due_part x ≡ o → both (after_release_if takes x o) ≡ both x
      go None e = refl
      go (Some p) e = omega (arith, without_shorter x.pending p sound.by_id (due_is x p e).least.stands, length_push x.held (row_of p))

  -- and changes no clock, and no row that is held
  release_clock : (x : TopicState) → (after_release takes x).clock ≡ x.clock
  release_clock x = go (due_part x)
    where
      go : (o : Option Pending) → (after_release_if takes x o).clock ≡ x.clock
      go None = refl
      go (Some p) = refl

  release_held : (x : TopicState) → length x.held ≤ length (after_release takes x).held
  release_held x = go (due_part x)
    where
      go : (o : Option Pending) → length x.held ≤ length (after_release_if takes x o).held
      go None = omega arith
      go (Some p) = omega (arith, length_push x.held (row_of p))

-- What a turn keeps of a topic.
pub record Keeps (x y : TopicState) : Type 0 where
  pub sound : IsSound y
  pub both : length y.pending + length y.held ≡ length x.pending + length x.held
  pub held : length x.held ≤ length y.held
  pub clock : x.clock ≤ y.clock

keeps_trans : (x y z : TopicState) → Keeps x y → Keeps y z → Keeps x z
keeps_trans x y z a b = record { sound = b.sound; both = b.both ∙ a.both; held = omega (arith, a.held, b.held); clock = omega (arith, a.clock, b.clock) }

keeps_releases : (ts : List (Entry → Bool)) (g : GroupState) → IsSound g.topic → Keeps g.topic (group_after_releases ts g).topic
keeps_releases [] g sound = record { sound = sound; both = refl; held = omega arith; clock = omega arith }
keeps_releases (t ∷ ts) g sound =
    let next = keeps_sound.releases t g.topic sound in
    keeps_trans g.topic (after_release t g.topic) (group_after_releases ts (group_after_release t g)).topic
    (record { sound = next; both = release_both t g.topic sound; held = release_held t g.topic; clock = omega (arith, release_clock t g.topic) })
    (keeps_releases ts (group_after_release t g) next)

keeps_try : (id : TxnId) (found : Option Decision) (x : TopicState) → IsSound x → Keeps x (after_try id found x)
keeps_try id None x sound = record { sound = sound; both = refl; held = omega arith; clock = omega arith }
keeps_try id (Some v) x sound = go (learn_fault id v x) refl
  where
    go : (o : Option LearnFault) → learn_fault id v x ≡ o → Keeps x (elim o [ None ↦ after_learn id (decided_stamp v) x | Some fault ↦ x ])
    go (Some fault) e = record { sound = sound; both = refl; held = omega arith; clock = omega arith }
    go None e = record {
      sound = keeps_sound.learns id v x sound e;
      both = ap (λ (k : ℕ). k + length x.held) (map_length (with_stamp id (decided_stamp v)) x.pending);
      held = omega arith;
      clock = omega arith;
    }

keeps_tries : (find : TxnId → Option Decision) (ps : List Pending) (x : TopicState) → IsSound x → Keeps x (after_tries find ps x)
keeps_tries find [] x sound = record { sound = sound; both = refl; held = omega arith; clock = omega arith }
keeps_tries find (p ∷ ps) x sound =
    let one = keeps_try p.part.id (find p.part.id) x sound in
    keeps_trans x (after_try p.part.id (find p.part.id) x) (after_tries find ps (after_try p.part.id (find p.part.id) x)) one
    (keeps_tries find ps (after_try p.part.id (find p.part.id) x) one.sound)

-- a turn keeps a sound topic, and moves parts to the log
pub turn_keeps : (may : Shown → Bool → Type 0) (finds : TopicPart → Option Decision → Type 0) (g new : GroupState) → IsSound g.topic → Turns may finds g new → Keeps g.topic new.topic
turn_keeps may finds g new sound turns =
    let tried = keeps_tries turns.find g.topic.pending g.topic sound in
    let released = keeps_releases turns.releases.0 (group_after_tries turns.find g) tried.sound in
    let is : new.topic ≡ (group_after_releases turns.releases.0 (group_after_tries turns.find g)).topic = ap (λ (z : GroupState). z.topic) turns.releases.3 in
    subst (λ (y : TopicState). Keeps g.topic y) (sym is) (keeps_trans g.topic (group_after_tries turns.find g).topic _ tried released)

-- a turn keeps a trace that of its topic
pub turn_traced : (may : Shown → Bool → Type 0) (finds : TopicPart → Option Decision → Type 0) (g new : GroupState) (kept : KeptTrace) → IsSound g.topic → Turns may finds g new
    → KeepsTrace g.topic kept → KeepsTrace new.topic kept
turn_traced may finds g new kept sound turns t =
    let tried = keeps_tries turns.find g.topic.pending g.topic sound in
    let is : new.topic ≡ (group_after_releases turns.releases.0 (group_after_tries turns.find g)).topic = ap (λ (z : GroupState). z.topic) turns.releases.3 in
    subst (λ (y : TopicState). KeepsTrace y kept) (sym is)
    (trace_releases kept turns.releases.0 (group_after_tries turns.find g) tried.sound (trace_tries kept turns.find g.topic.pending g.topic t))

pub traced_turned : (k : Option RowsKept) (may : Shown → Bool → Type 0) (finds : TopicPart → Option Decision → Type 0) (g new : GroupState) → IsSound g.topic → Turns may finds g new
    → Traced g.topic k → Traced new.topic k
traced_turned None may finds g new sound turns t = tt
traced_turned (Some k) may finds g new sound turns t =
    let u = turn_traced may finds g new (trace_kept g.topic.held k) sound turns t in
    subst (KeepsTrace new.topic) (sym (kept_same k g.topic.held new.topic u)) u

-- and the kept trace is the same
pub kept_turned : (k : Option RowsKept) (may : Shown → Bool → Type 0) (finds : TopicPart → Option Decision → Type 0) (g new : GroupState) → IsSound g.topic → Turns may finds g new
    → Traced g.topic k → option_map (trace_kept new.topic.held) k ≡ option_map (trace_kept g.topic.held) k
kept_turned None may finds g new sound turns t = refl
kept_turned (Some k) may finds g new sound turns t =
    ap (λ (z : KeptTrace). Some z) (kept_same k g.topic.held new.topic (turn_traced may finds g new (trace_kept g.topic.held k) sound turns t))

-- ---- each call of a place

-- a part that is of the topic has it
pub part_topic : (t : Topic) (part : TopicPart) → is_part_at t part ≡ true → part.topic ≡ t
part_topic t part is = same_topics part.topic t (go (part.topic.0 == t.0) refl is)
  where
    go : (b : Bool) → (part.topic.0 == t.0) ≡ b → b && names t part.topics ≡ true → part.topic.0 ≡ t.0
    go true e h = grind (arith, nat_tests)
    go false e h = cc

-- where a part isn't of the topic, there is a fault
pub allowed_is_part : (floor : Stamp) (part : TopicPart) (place : PlaceState) → place_fault floor part place ≡ None → is_part_at place.cells.group.topic.topic part ≡ true
allowed_is_part floor part place e = go (is_part_at place.cells.group.topic.topic part) refl e
  where
    go : (b : Bool) → is_part_at place.cells.group.topic.topic part ≡ b → (if b then propose_fault floor part place.cells.group.topic else Some Twice) ≡ None
        → is_part_at place.cells.group.topic.topic part ≡ true
    go true is h = is
    go false is h = cc

-- a part that may be cancelled is pending
cancels_one : (id : TxnId) (x : TopicState) → RisesById x.pending → cancel_fault id x ≡ None → length (parts_without id x.pending) + 1 ≡ length x.pending
cancels_one id x rises e = go (find_pending id x.pending) refl e
  where
    go : (o : Option Pending) → find_pending id x.pending ≡ o → cancel_fault_of o ≡ None → length (parts_without id x.pending) + 1 ≡ length x.pending
    go None f h = cc
    go (Some p) f h =
        let at = found_part id x.pending p f in
        subst (λ (i : TxnId). length (parts_without i x.pending) + 1 ≡ length x.pending) at.is (without_shorter x.pending p rises at.stands)

-- what isn't refused has no fault
pub no_fault : {F : Type 0} (o : Option F) → Ok tt ≡ result_of o → o ≡ None
no_fault None e = refl
no_fault (Some f) e = cc

-- one part less is pending, and so one may be counted
pub cancel_counts : (place : PlaceState) (id : TxnId) → IsBalanced place → cancel_fault id place.cells.group.topic ≡ None → place.cancelled + 1 ≤ place.tickets
cancel_counts place id b allowed = omega (arith, b.balance, cancels_one id place.cells.group.topic b.sound.by_id allowed)

-- after a turn: no more is released than there are tickets
pub turn_counts : (place : PlaceState) (new : CellGroupState) (count : ℕ) → IsBalanced place → CellTurns source_answers place.cells new
    → count ≡ rows_since place.cells new → place.released + count ≤ place.tickets
turn_counts place new count b turns e =
    let k = turn_keeps source_answers (IsRead place.cells.waiting turns.taken) place.cells.group new.group b.sound turns.turns in
    omega (arith, b.balance, k.both, k.held, e)

-- a new place
pub balanced_new : (topic : Topic) (log_limit clock : ℕ) (keep_trace : Bool) → IsBalanced (new_place topic log_limit clock keep_trace)
balanced_new topic log_limit clock keep_trace = record { sound = keeps_sound.opens topic log_limit clock; balance = refl; clock = omega arith; trace = go keep_trace }
  where
    go : (b : Bool) → IfSome (cond b (Some no_trace) None) (KeepsTrace (new_topic topic log_limit clock))
    go true = traced_new (new_topic topic log_limit clock) refl refl
    go false = tt

-- a subscription of a place that keeps this
module _ (g : CellGroupState) (t r c : ℕ) (number : ℕ) where
  pub allowed_some : (kept : RowsKept) → list_any (λ (s : KeptSpan). s.number == number) kept.spans ≡ false → subscribe_fault number g.group.topic ≡ None
      → place_subscribe_fault number (place_with g t r c (Some kept)) ≡ None
  allowed_some kept free allowed = let e = used_alike (kept.drained ++ g.group.topic.held) number kept.spans ∙ free in rw e allowed

  pub fault_some : (kept : RowsKept) → (if list_any (λ (s : KeptSpan). s.number == number) kept.spans then Some SubInUse else subscribe_fault number g.group.topic)
      ≡ place_subscribe_fault number (place_with g t r c (Some kept))
  fault_some kept = ap (λ (b : Bool). if b then Some SubInUse else subscribe_fault number g.group.topic) (sym (used_alike (kept.drained ++ g.group.topic.held) number kept.spans))

  pub viewed_subscribed : (gauge : Gauge) (kept : RowsKept) → place_with (record g { group = group_after_subscribe number gauge g.group }) t r c (Some (rows_subscribed number g.group.topic.frontier kept)) ≡ place_after_subscribe number gauge (place_with g t r c (Some kept))
  viewed_subscribed gauge kept =
      ap (λ (z : KeptTrace). record { cells = record g { group = group_after_subscribe number gauge g.group }; tickets = t; released = r; cancelled = c; kept = Some z }) (kept_subscribed kept g.group.topic.held number g.group.topic.frontier)

-- the place of these fields
module _ (g : CellGroupState) (t r c : ℕ) (k : Option RowsKept) (b : IsBalanced (place_with g t r c k)) where
  -- after a ticket
  pub balanced_proposed : (new : CellGroupState) (floor : Stamp) (proposal : ProposalState) → is_part_at g.group.topic.topic proposal.part ≡ true → propose_fault floor proposal.part g.group.topic ≡ None
      → new ≡ cell_group_after_propose floor proposal g → IsBalanced (place_with new (t + 1) r c k)
  balanced_proposed new floor proposal is allowed e =
      let x = g.group.topic in
      let part = proposal.part in
      let more : length (after_propose floor part x).pending ≡ suc (length x.pending) = insert_length _ _ x.pending in
      let up : x.clock ≤ max x.clock floor.n = omega arith in
      subst (λ (z : CellGroupState). IsBalanced (place_with z (t + 1) r c k)) (sym e) (record {
        sound = keeps_sound.proposes floor part x b.sound (part_topic x.topic part is) allowed;
        balance = omega (arith, b.balance, more);
        clock = omega (arith, b.clock, up);
        trace = traced_alike k x (after_propose floor part x) refl refl refl b.trace;
      })

  -- after a cancelling
  pub balanced_cancelled : (new : CellGroupState) (id : TxnId) → cancel_fault id g.group.topic ≡ None
      → new ≡ cell_group_after_cancel id g → IsBalanced (place_with new t r (c + 1) k)
  balanced_cancelled new id allowed e =
      let x = g.group.topic in
      subst (λ (z : CellGroupState). IsBalanced (place_with z t r (c + 1) k)) (sym e) (record {
        sound = keeps_sound.cancels id x b.sound;
        balance = omega (arith, b.balance, cancels_one id x b.sound.by_id allowed);
        clock = b.clock;
        trace = traced_alike k x (after_cancel id x) refl refl refl b.trace;
      })

  -- after a turn
  pub balanced_turned : (new : CellGroupState) (count : ℕ) → CellTurns source_answers g new → count ≡ rows_since g new → IsBalanced (place_with new t (r + count) c k)
  balanced_turned new count turns e =
      let z = turn_keeps source_answers (IsRead g.waiting turns.taken) g.group new.group b.sound turns.turns in
      record {
        sound = z.sound;
        balance = omega (arith, b.balance, z.both, z.held, e);
        clock = omega (arith, b.clock, z.clock);
        trace = traced_turned k source_answers (IsRead g.waiting turns.taken) g.group new.group b.sound turns.turns b.trace;
      }

  -- after a drain
  pub balanced_drained : (more : Option RowsKept) (new : CellGroupState) → new ≡ cells_after_drain g → more ≡ option_map (rows_drained g.group.topic.held) k → IsBalanced (place_with new t r c more)
  balanced_drained more new e is =
      subst (λ (z : CellGroupState). IsBalanced (place_with z t r c more)) (sym e)
      (subst (λ (o : Option RowsKept). IsBalanced (place_with (cells_after_drain g) t r c o)) (sym is)
      (record { sound = keeps_sound.drains g.group.topic b.sound; balance = b.balance; clock = b.clock; trace = go k b.trace }))
    where
      go : (o : Option RowsKept) → Traced g.group.topic o → Traced (after_drain g.group.topic) (option_map (rows_drained g.group.topic.held) o)
      go None h = tt
      go (Some o) h = traced_drained o g.group.topic h

  -- after a drain into a trace, or one that found no memory
  pub balanced_tried : {A E : Type 0} (o : Result A E) (kept more : RowsKept) (new : CellGroupState) → k ≡ Some kept → OnOk o (more ≡ rows_drained g.group.topic.held kept)
      → OnOk o (new ≡ cells_after_drain g) → OnErr o ((more ≡ kept) × (new ≡ g)) → IsBalanced (place_with new t r c (Some more))
  balanced_tried (Ok a) kept more new some rows e err =
      balanced_drained (Some more) new e (ap (λ (z : RowsKept). Some z) rows ∙ sym (ap (λ (o : Option RowsKept). option_map (rows_drained g.group.topic.held) o) some))
  balanced_tried (Err f) kept more new some rows e err =
      subst (λ (z : CellGroupState). IsBalanced (place_with z t r c (Some more))) (sym err.1)
      (subst (λ (o : Option RowsKept). IsBalanced (place_with g t r c o)) (some ∙ ap (λ (z : RowsKept). Some z) (sym err.0)) b)

  -- after a drain where no trace is kept, or one that found no memory
  pub balanced_given : {A E : Type 0} (o : Result A E) (new : CellGroupState) → k ≡ None → OnOk o (new ≡ cells_after_drain g) → OnErr o (new ≡ g) → IsBalanced (place_with new t r c k)
  balanced_given (Ok a) new none e err =
      balanced_drained k new e (none ∙ sym (ap (λ (o : Option RowsKept). option_map (rows_drained g.group.topic.held) o) none))
  balanced_given (Err f) new none e err = subst (λ (z : CellGroupState). IsBalanced (place_with z t r c k)) (sym err) b

  -- after a subscription began, or was refused
  pub balanced_subscribed : {A B : Type 0} (o : Result A B) (new : CellGroupState) (more : Option RowsKept) (number : ℕ) (gauge : Gauge)
      → OnOk o (place_subscribe_fault number (place_with g t r c k) ≡ None) → OnOk o (new ≡ record g { group = group_after_subscribe number gauge g.group })
      → OnOk o (more ≡ option_map (rows_subscribed number g.group.topic.frontier) k) → OnErr o ((new ≡ g) × (more ≡ k)) → IsBalanced (place_with new t r c more)
  balanced_subscribed (Ok a) new more number gauge allowed ok is err =
      subst (λ (z : CellGroupState). IsBalanced (place_with z t r c more)) (sym ok)
      (subst (λ (z : Option RowsKept). IsBalanced (place_with (record g { group = group_after_subscribe number gauge g.group }) t r c z)) (sym is)
      (record { sound = keeps_sound.subscribes number g.group.topic b.sound (free k allowed).0; balance = b.balance; clock = b.clock; trace = go k b.trace allowed }))
    where
      free : (z : Option RowsKept) → place_subscribe_fault number (place_with g t r c z) ≡ None → (subscribe_fault number g.group.topic ≡ None) × (was_used number (option_map (trace_kept g.group.topic.held) z) ≡ false)
      free z e = by (was_used number (option_map (trace_kept g.group.topic.held) z)) e
        where
          by : (w : Bool) → (if w then Some SubInUse else subscribe_fault number g.group.topic) ≡ None → (subscribe_fault number g.group.topic ≡ None) × (w ≡ false)
          by true h = cc
          by false h = (h, refl)

      go : (z : Option RowsKept) → Traced g.group.topic z → place_subscribe_fault number (place_with g t r c z) ≡ None → Traced (after_subscribe number g.group.topic) (option_map (rows_subscribed number g.group.topic.frontier) z)
      go None h e = tt
      go (Some z) h e =
          let f = free (Some z) e in
          traced_subscribed z number g.group.topic h (sym (used_alike (z.drained ++ g.group.topic.held) number z.spans) ∙ f.1) f.0
  balanced_subscribed (Err f) new more number gauge allowed ok is err =
      subst (λ (z : CellGroupState). IsBalanced (place_with z t r c more)) (sym err.0)
      (subst (λ (z : Option RowsKept). IsBalanced (place_with g t r c z)) (sym err.1) b)

  -- after one ended
  pub balanced_unsubscribed : (new : CellGroupState) (more : Option RowsKept) (number : ℕ) (e : Entry) (to : Stamp) → find_entry number g.group.topic.subscriptions ≡ Some e → to ≡ (end_of g.group.topic.frontier e).to
      → new ≡ record g { group = group_after_unsubscribe number g.group } → more ≡ option_map (rows_ended number to) k → IsBalanced (place_with new t r c more)
  balanced_unsubscribed new more number e to found ends ok is =
      subst (λ (z : CellGroupState). IsBalanced (place_with z t r c more)) (sym ok)
      (subst (λ (z : Option RowsKept). IsBalanced (place_with (record g { group = group_after_unsubscribe number g.group }) t r c z)) (sym is)
      (record { sound = keeps_sound.unsubscribes number g.group.topic b.sound; balance = b.balance; clock = b.clock; trace = go k b.trace }))
    where
      go : (z : Option RowsKept) → Traced g.group.topic z → Traced (after_unsubscribe number g.group.topic) (option_map (rows_ended number to) z)
      go None h = tt
      go (Some z) h = traced_ended z number to g.group.topic e b.sound h found ends

  -- and so it is seen
  pub viewed_unsubscribed : (new : CellGroupState) (more : Option RowsKept) (number : ℕ) (e : Entry) (to : Stamp) → find_entry number g.group.topic.subscriptions ≡ Some e → to ≡ (end_of g.group.topic.frontier e).to
      → new ≡ record g { group = group_after_unsubscribe number g.group } → more ≡ option_map (rows_ended number to) k → place_with new t r c more ≡ place_after_unsubscribe number (place_with g t r c k)
  viewed_unsubscribed new more number e to found ends ok is =
      ap (λ (z : CellGroupState). place_with z t r c more) ok
      ∙ (ap (λ (z : Option RowsKept). place_with (record g { group = group_after_unsubscribe number g.group }) t r c z) is
      ∙ ap (λ (o : Option KeptTrace). record { cells = record g { group = group_after_unsubscribe number g.group }; tickets = t; released = r; cancelled = c; kept = o }) (go k b.trace))
    where
      go : (z : Option RowsKept) → Traced g.group.topic z → option_map (trace_kept g.group.topic.held) (option_map (rows_ended number to) z) ≡ option_map (kept_after_unsubscribe number g.group.topic) (option_map (trace_kept g.group.topic.held) z)
      go None h = refl
      go (Some z) h = ap (λ (y : KeptTrace). Some y) (kept_ended z number to g.group.topic e b.sound h found ends)
