-- Outlets that count.
use Rattle.std.proofs.Common.{◌≡◌, ℕ, ◌==◌, Bool, true, false, cond, inl, inr, List, [], ◌∷◌, map, length, Option, Some, None, refl, sym, ap, subst, ◌∙◌}
use Rattle.std.proofs.lemmas.Bool.{eq-eqb, ne_eqb}
use Rattle.mcast_txn.specs.declared.id.TxnId.{TxnId}
use Rattle.mcast_txn.specs.declared.stamp.Stamp.{Stamp}
use Rattle.mcast_txn.specs.Lists.{In}
use Rattle.mcast_txn.specs.Ballot.{Decision}
use Rattle.mcast_txn.specs.Span.{Item}
use Rattle.sub_queue.specs.Shown.{Gauge, has_room}
use Rattle.mcast_group.specs.Machine.{TopicState, Entry, Pending, entry_after, due_part, item_of, after_release, after_release_of, after_releases, after_try, after_tries, learn_fault, after_learn, decided_stamp}
use Rattle.mcast_group.specs.declared.fault.LearnFault.{LearnFault}
use Rattle.mcast_group.specs.Group.{GroupState, AnswersEach, MayAnswer, group_after_releases, group_after_release, gauge_at, shows, group_after_tries}
use Rattle.mcast_group.specs.Sound.{NumbersDiffer}
use Rattle.mcast_group.specs.Counted.{CountedReleases, CountedTurns, counted, takes_in, takes_of, takes_with}
use Rattle.mcast_group.proofs.Queues.{delivered_number}
use Rattle.mcast_group.proofs.Releasing.{differ_same}
use Rattle.mcast_group.proofs.Parts.{after_release_if}

-- ---- two answers that agree where they are asked

same_answer : (t u : Entry → Bool) (f : Stamp) (i : Item) (e : Entry) → (e.to ≡ None → t e ≡ u e) → entry_after t f i e ≡ entry_after u f i e
same_answer t u f i e h = go e.to refl
  where
    closed : (v : Entry → Bool) (end : Stamp) → e.to ≡ Some end → entry_after v f i e ≡ e
    closed v end k = rw k refl

    go : (o : Option Stamp) → e.to ≡ o → entry_after t f i e ≡ entry_after u f i e
    go None k = ap (λ (b : Bool). entry_after (λ _. b) f i e) (h k)
    go (Some end) k = closed t end k ∙ sym (closed u end k)

same_all : (t u : Entry → Bool) (f : Stamp) (i : Item) (es : List Entry) → ((e : Entry) → In e es → e.to ≡ None → t e ≡ u e) → map (entry_after t f i) es ≡ map (entry_after u f i) es
same_all t u f i [] h = refl
same_all t u f i (e ∷ es) h =
    let a = same_answer t u f i e (h e (inl refl)) in
    let b = same_all t u f i es (λ x k. h x (inr k)) in
    rw (a, b) refl

-- a release is the same with answers that agree at each open entry
pub release_same : (t u : Entry → Bool) (x : TopicState) → ((p : Pending) → due_part x ≡ Some p → (e : Entry) → In e x.subscriptions → e.to ≡ None → t e ≡ u e) → after_release t x ≡ after_release u x
release_same t u x h = go (due_part x) refl
  where
    go : (o : Option Pending) → due_part x ≡ o → after_release_if t x o ≡ after_release_if u x o
    go None k = refl
    go (Some p) k =
        let s = same_all t u x.frontier (item_of p) x.subscriptions (h p k) in
        ap (λ (es : List Entry). record (after_release_of t p x) { subscriptions = es }) s

-- ---- the answer of those that count

-- where outlets count, each open entry is answered as takes_with says
pub counts_so : (t : Entry → Bool) (es : List Entry) (gauges : List Gauge) → NumbersDiffer es → MayAnswer counted t es gauges → (e : Entry) → In e es → e.to ≡ None → t e ≡ takes_with es gauges e
counts_so t [] gauges h a e k o = absurd k
counts_so t (d ∷ es) [] h a e k o = absurd a
counts_so t (d ∷ es) (r ∷ gauges) h a e (inl k) o =
    let m : (e.number == d.number) ≡ true = subst (λ (z : Entry). (z.number == d.number) ≡ true) k (eq-eqb d.number d.number refl) in
    subst (λ (z : Entry). t z ≡ has_room (shows z r)) k (a.0 (subst (λ (z : Entry). z.to ≡ None) (sym k) o)) ∙ sym (here e m)
  where
    here : (e : Entry) → (e.number == d.number) ≡ true → takes_with (d ∷ es) (r ∷ gauges) e ≡ has_room (shows e r)
    here e m = ap (λ (b : Bool). takes_in (cond b (Some r) (gauge_at e.number es gauges)) e) m
counts_so t (d ∷ es) (r ∷ gauges) h a e (inr k) o =
    let m : (e.number == d.number) ≡ false = ne_eqb e.number d.number (h.0 e k) in
    counts_so t es gauges h.1 a.1 e k o ∙ sym (later e m)
  where
    later : (e : Entry) → (e.number == d.number) ≡ false → takes_with (d ∷ es) (r ∷ gauges) e ≡ takes_with es gauges e
    later e m = ap (λ (b : Bool). takes_in (cond b (Some r) (gauge_at e.number es gauges)) e) m

-- a release to outlets that count is the machine's, with their answers
pub counted_releases : CountedReleases
counted_releases g new h r =
    r.2 ∙ ap (λ (x : TopicState). record { topic = x; gauges = g.gauges }) (release_same r.0 (takes_of g) g.topic (λ p k. counts_so r.0 g.topic.subscriptions g.gauges h (r.1 p k)))

-- ---- a turn

-- the subscriptions have these numbers
gauge_same : (n : ℕ) (es : List Entry) (gauges : List Gauge) (t : Entry → Bool) (f : Stamp) (i : Item) → gauge_at n (map (entry_after t f i) es) gauges ≡ gauge_at n es gauges
gauge_same n [] gauges t f i = refl
gauge_same n (e ∷ es) [] t f i = refl
gauge_same n (e ∷ es) (r ∷ gauges) t f i =
    let k = delivered_number t f i e in let ih = gauge_same n es gauges t f i in rw (k, ih) refl

differ_given : (t : Entry → Bool) (f : Stamp) (i : Item) (es : List Entry) → NumbersDiffer es → NumbersDiffer (map (entry_after t f i) es)
differ_given t f i es h = differ_same (entry_after t f i) (delivered_number t f i) es h

differ_released : (t : Entry → Bool) (x : TopicState) → NumbersDiffer x.subscriptions → NumbersDiffer (after_release t x).subscriptions
differ_released t x h = go (due_part x)
  where
    go : (o : Option Pending) → NumbersDiffer (after_release_if t x o).subscriptions
    go None = h
    go (Some p) = differ_given t x.frontier (item_of p) x.subscriptions h

gauge_released : (n : ℕ) (gauges : List Gauge) (t : Entry → Bool) (x : TopicState) → gauge_at n (after_release t x).subscriptions gauges ≡ gauge_at n x.subscriptions gauges
gauge_released n gauges t x = go (due_part x)
  where
    go : (o : Option Pending) → gauge_at n (after_release_if t x o).subscriptions gauges ≡ gauge_at n x.subscriptions gauges
    go None = refl
    go (Some p) = gauge_same n x.subscriptions gauges t x.frontier (item_of p)

-- releases to outlets that count are the machine's, with their answers
pub counted_times : (u : Entry → Bool) (ts : List (Entry → Bool)) (g : GroupState) → NumbersDiffer g.topic.subscriptions → ((e : Entry) → takes_of g e ≡ u e) → AnswersEach counted ts g → group_after_releases ts g ≡ record { topic = after_releases u (length ts) g.topic; gauges = g.gauges }
counted_times u [] g h k a = refl
counted_times u (t ∷ ts) g h k a =
    let same : after_release t g.topic ≡ after_release u g.topic = release_same t u g.topic (λ p d e i o. counts_so t g.topic.subscriptions g.gauges h (a.0 p d) e i o ∙ k e) in
    counted_times u ts (group_after_release t g) (differ_released t g.topic h) (λ e. ap (λ (o : Option Gauge). takes_in o e) (gauge_released e.number g.gauges t g.topic) ∙ k e) a.1
    ∙ ap (λ (x : TopicState). record { topic = after_releases u (length ts) x; gauges = g.gauges }) same

tried_subs : (id : TxnId) (o : Option Decision) (x : TopicState) → (after_try id o x).subscriptions ≡ x.subscriptions
tried_subs id None x = refl
tried_subs id (Some v) x = go (learn_fault id v x)
  where
    go : (o : Option LearnFault) → let y : TopicState = elim o [ None ↦ after_learn id (decided_stamp v) x | Some fault ↦ x ] in y.subscriptions ≡ x.subscriptions
    go None = refl
    go (Some fault) = refl

-- tries to learn leave the subscriptions
pub tried_all_subs : (find : TxnId → Option Decision) (ps : List Pending) (x : TopicState) → (after_tries find ps x).subscriptions ≡ x.subscriptions
tried_all_subs find [] x = refl
tried_all_subs find (p ∷ ps) x = tried_all_subs find ps (after_try p.part.id (find p.part.id) x) ∙ tried_subs p.part.id (find p.part.id) x

-- a turn with outlets that count is the machine's, with their answers
pub counted_turns : CountedTurns
counted_turns find g new h r =
    let y = group_after_tries find g in
    let subs = tried_all_subs find g.topic.pending g.topic in
    let same = counted_times (takes_of g) r.0 y (subst NumbersDiffer (sym subs) h) (λ e. ap (λ (es : List Entry). takes_in (gauge_at e.number es g.gauges) e) subs) r.2 in
    r.3 ∙ (same ∙ ap (λ (n : ℕ). record { topic = after_releases (takes_of g) n y.topic; gauges = g.gauges }) r.1)
