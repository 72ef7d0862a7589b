-- What a step at one topic keeps.
use Rattle.std.proofs.Common.{◌≡◌, ℕ, ◌<◌, ◌≤◌, Bool, true, inl, inr, List, [], ◌∷◌, ◌++◌, map, set, Option, Some, None, refl, sym, ap, subst, ◌∙◌, arith}
use Rattle.delivery.proofs.Words.All.{part_at, TopicPart, topics_of, Transaction, CommitRow, In, names, Decision, Topic, TxnId, Stamp, LogRow, Item, IsQueueOf, TopicState, Pending, Entry, new_topic, key, after_learn, learn_fault, entry_after, after_release_of, after_release, row_of, item_of, after_turn, decided_stamp, same_stamps, id_equal, id_same, same_topics, In-append_left, In-push, In-map, In-map_cases, at_set, push_one, Waits, Waits-without, others, some_same, delivered_number, More, More-same, release_keeps, turn_keeps, log_row, item_at, World, Undecided, Leftover, SenderState, Subscription}
use Rattle.mcast_group.specs.Machine.{parts_without}
use Rattle.mcast_group.proofs.Parts.{Waits-told, each_told, Due, due_is}
use Rattle.mcast_group.proofs.Queues.{Queue-closed, delivered_from, In-delivered_cases, More-then, More-delivered}
use Rattle.mcast_group.proofs.Keeping.{Learns, learns_is, Sound-learned, Sound-released, next_of}
use Rattle.delivery.proofs.Machine.Invariant.{row, Consistent, Uncommitted, Ticketed, Committed, Logged, Tied, topic_in, Flies, IsLeft, Serves, sender_in, sub_in, HasEntry, Owned, IsClosed, Subscribes, Inv, Holds}

-- ---- the commit list and the tickets

-- a transaction is committed with one stamp
pub one_row : (ts cs : List CommitRow) → Consistent ts cs → (r q : CommitRow) → In r cs → In q cs → r.txn ≡ q.txn → r ≡ q
one_row ts cs all r q h k e =
    let a = all.greatest r q h (all.from_ticket q k) (sym e) in let b = all.greatest q r k (all.from_ticket r h) e in let same = same_stamps r.stamp q.stamp a b in
    ap (λ (x : Transaction). row x r.stamp) e ∙ ap (row q.txn) same

-- two committed rows of one id are the same row
pub one_commit : (ts cs : List CommitRow) → Consistent ts cs → (r q : CommitRow) → In r cs → In q cs → r.txn.id ≡ q.txn.id → r ≡ q
one_commit ts cs all r q h k e = one_row ts cs all r q h k (all.one_id r q (all.from_ticket r h) (all.from_ticket q k) (id_same r.txn.id q.txn.id e))

-- the committed row of a pending part that has learnt, as its log row and its item
pub record PartRow (cs : List CommitRow) (p : Pending) : Type 0 where
  pub row : CommitRow
  pub stands : In row cs
  pub id_is : row.txn.id ≡ p.part.id
  pub log_is : log_row row ≡ row_of p
  pub item_is : item_at p.part.topic row ≡ item_of p
  pub named : names p.part.topic (topics_of row.txn.sends) ≡ true

abbrev log_of : Transaction → Stamp → LogRow
log_of txn stamp = record { id = txn.id; topics = topics_of txn.sends; stamp = stamp }

abbrev log_of_part : TopicPart → Stamp → LogRow
log_of_part part stamp = record { id = part.id; topics = part.topics; stamp = stamp }

abbrev item_of_part : TopicPart → Stamp → Item
item_of_part part stamp = record { id = part.id; stamp = stamp; sends = part.sends }

-- the key of a part that has learnt a stamp is that stamp
pub key_learnt : (p : Pending) (s : Stamp) → p.learnt ≡ Some s → key p ≡ s
key_learnt p s e = ap (λ (o : Option Stamp). key (record p { learnt = o })) e

-- the key of a part that has learnt no stamp is its ticket
pub key_unlearnt : (p : Pending) → p.learnt ≡ None → key p ≡ record { n = p.number; topic = p.part.topic }
key_unlearnt p e = ap (λ (o : Option Stamp). key (record p { learnt = o })) e

-- a pending part that has learnt a committed stamp has its committed row
pub part_row : (ts cs : List CommitRow) (p : Pending) (s : Stamp) → Consistent ts cs → Ticketed ts p.part p.number → p.learnt ≡ Some s → Committed cs p.part.id s → PartRow cs p
part_row ts cs p s all t e c =
    let a = t.ticket.txn in let ids : a.id ≡ c.row.txn.id = ap (λ (z : TopicPart). z.id) t.part_is ∙ sym c.id_is in
    let txn : a ≡ c.row.txn = all.one_id t.ticket c.row t.stands (all.from_ticket c.row c.stands) (id_same a.id c.row.txn.id ids) in
    let k : c.row.stamp ≡ key p = c.stamp_is ∙ sym (key_learnt p s e) in
    let part : part_at c.row.txn.id c.row.txn.sends p.part.topic ≡ p.part = ap (λ (z : Transaction). part_at z.id z.sends p.part.topic) (sym txn) ∙ t.part_is in
    record {
      row = c.row;
      stands = c.stands;
      id_is = c.id_is;
      log_is = ap (log_of c.row.txn) k ∙ ap (λ (z : TopicPart). log_of_part z (key p)) part;
      item_is = ap (item_of_part (part_at c.row.txn.id c.row.txn.sends p.part.topic)) k ∙ ap (λ (z : TopicPart). item_of_part z (key p)) part;
      named = subst (λ (z : Transaction). names p.part.topic (topics_of z.sends) ≡ true) txn t.named;
    }

-- a pending part's key is a ticket of its own transaction
key_case : (ts cs : List CommitRow) (p : Pending) → Consistent ts cs → (t : Ticketed ts p.part p.number) → ((s : Stamp) → p.learnt ≡ Some s → Committed cs p.part.id s) → (o : Option Stamp) → p.learnt ≡ o → In (row t.ticket.txn (key p)) ts
key_case ts cs p all t c None e = subst (λ z. In (row t.ticket.txn z) ts) (t.stamp_is ∙ sym (key_unlearnt p e)) t.stands
key_case ts cs p all t c (Some s) e =
    let k = c s e in let ids : t.ticket.txn.id ≡ k.row.txn.id = ap (λ (z : TopicPart). z.id) t.part_is ∙ sym k.id_is in
    let txn = all.one_id t.ticket k.row t.stands (all.from_ticket k.row k.stands) (id_same t.ticket.txn.id k.row.txn.id ids) in
    subst (λ z. In (row z (key p)) ts) (sym txn) (subst (λ z. In (row k.row.txn z) ts) (k.stamp_is ∙ sym (key_learnt p s e)) (all.from_ticket k.row k.stands))

-- the key of each part that is pending at t is a ticket of its own transaction
pub key_ticket : (ts cs : List CommitRow) (t : Topic) (x : TopicState) (p : Pending) → Consistent ts cs → (h : Tied ts cs t x) → (i : In p x.pending) → In (row (h.ticketed p i).ticket.txn (key p)) ts
key_ticket ts cs t x p all h i = key_case ts cs p all (h.ticketed p i) (h.decided p i) p.learnt refl

-- ---- steps

-- the entries of y are those of x, with the same numbers and beginnings
pub record Entries (x y : TopicState) : Type 0 where
  pub step : Entry → Entry
  pub are : y.subscriptions ≡ map step x.subscriptions
  pub number : (e : Entry) → (step e).number ≡ e.number
  pub from : (e : Entry) → (step e).from ≡ e.from
  pub grows : (e : Entry) → More e.accepted (step e).accepted

-- each value of a list by itself
pub map_same : {X : Type 0} (xs : List X) → xs ≡ map (λ x. x) xs
map_same [] = refl
map_same (x ∷ xs) = ap (λ z. x ∷ z) (map_same xs)

-- by one function, and then by another
pub map_map : {X : Type 0} (f g : X → X) (xs : List X) → map g (map f xs) ≡ map (λ x. g (f x)) xs
map_map f g [] = refl
map_map f g (x ∷ xs) = ap (λ z. g (f x) ∷ z) (map_map f g xs)

-- Entries holds where the subscriptions stay
pub Entries-same : (x y : TopicState) → y.subscriptions ≡ x.subscriptions → Entries x y
Entries-same x y e = record { step = λ z. z; are = e ∙ map_same x.subscriptions; number = λ z. refl; from = λ z. refl; grows = λ z. More-same z.accepted }

Entries-then : (x y z : TopicState) → Entries x y → Entries y z → Entries x z
Entries-then x y z a b = record {
  step = λ e. b.step (a.step e);
  are = b.are ∙ (ap (map b.step) a.are ∙ map_map a.step b.step x.subscriptions);
  number = λ e. b.number (a.step e) ∙ a.number e;
  from = λ e. b.from (a.step e) ∙ a.from e;
  grows = λ e. More-then e.accepted (a.step e).accepted (b.step (a.step e)).accepted (a.grows e) (b.grows (a.step e));
}

-- from x to y at topic t
pub record Keeps (ts cs : List CommitRow) (t : Topic) (x y : TopicState) : Type 0 where
  pub tied : Tied ts cs t y
  pub waits : (id : TxnId) → Uncommitted cs id → Waits id x.pending → Waits id y.pending
  pub entries : Entries x y
  pub queues : (from end : Stamp) (accepted : List Item) → IsQueueOf x.base x.frontier x.held from (Some end) accepted → IsQueueOf y.base y.frontier y.held from (Some end) accepted

-- Keeps holds from a topic to itself
pub Keeps-same : (ts cs : List CommitRow) (t : Topic) (x : TopicState) → Tied ts cs t x → Keeps ts cs t x x
Keeps-same ts cs t x h = record { tied = h; waits = λ id u v. v; entries = Entries-same x x refl; queues = λ from end accepted q. q }

-- Keeps is transitive
pub Keeps-then : (ts cs : List CommitRow) (t : Topic) (x y z : TopicState) → Keeps ts cs t x y → Keeps ts cs t y z → Keeps ts cs t x z
Keeps-then ts cs t x y z a b = record {
  tied = b.tied;
  waits = λ id u v. b.waits id u (a.waits id u v);
  entries = Entries-then x y z a.entries b.entries;
  queues = λ from end accepted q. b.queues from end accepted (a.queues from end accepted q);
}

-- a topic is tied after it learnt a committed stamp
pub Tied-learned : (ts cs : List CommitRow) (t : Topic) (x : TopicState) (id : TxnId) (v : Decision) → Tied ts cs t x → Learns id v x → Committed cs v.id (decided_stamp v) → Tied ts cs t (after_learn id (decided_stamp v) x)
Tied-learned ts cs t x id v h l c = record {
  topic = h.topic;
  given = λ a k e. let m : a.stamp.n ≤ x.clock = h.given a k e in omega arith;
  ticketed = each_told id (decided_stamp v) x.pending (λ q. Ticketed ts q.part q.number) (λ p k e. h.ticketed p k) (λ p k e. h.ticketed p k);
  decided = each_told id (decided_stamp v) x.pending (λ q. (s : Stamp) → q.learnt ≡ Some s → Committed cs q.part.id s) (λ p k e. h.decided p k)
      (λ p k e s d. record {
        row = c.row;
        stands = c.stands;
        id_is = c.id_is ∙ (l.verdict ∙ sym (id_equal p.part.id id e));
        stamp_is = c.stamp_is ∙ some_same (decided_stamp v) s d;
      });
  logged = h.logged;
  placed = λ q k e. elim (h.placed q k e) [ inl i ↦ inl i | inr w ↦ inr (Waits-told id (decided_stamp v) q.txn.id x.pending w) ];
  items = h.items;
  undrained = h.undrained;
  sound = Sound-learned id v x h.sound l;
}

-- Keeps holds of a topic that learns a committed stamp
pub Keeps-learned : (ts cs : List CommitRow) (t : Topic) (x : TopicState) (id : TxnId) (v : Decision) → Tied ts cs t x → learn_fault id v x ≡ None → Committed cs v.id (decided_stamp v) → Keeps ts cs t x (after_learn id (decided_stamp v) x)
Keeps-learned ts cs t x id v h e c = record {
  tied = Tied-learned ts cs t x id v h (learns_is id v x e) c;
  waits = λ other u w. Waits-told id (decided_stamp v) other x.pending w;
  entries = Entries-same x (after_learn id (decided_stamp v) x) refl;
  queues = λ from end accepted q. q;
}

-- a topic is tied after the part that was due is released
pub Tied-released : (ts cs : List CommitRow) (t : Topic) (x : TopicState) (takes : Entry → Bool) (p : Pending) → Consistent ts cs → Tied ts cs t x → Due p x → Tied ts cs t (after_release_of takes p x)
Tied-released ts cs t x takes p all h due =
    let i = due.least.stands in let r = part_row ts cs p due.stamp all (h.ticketed p i) due.learnt (h.decided p i due.stamp due.learnt) in
    let here : p.part.topic ≡ t = h.sound.own p i ∙ h.topic in
    record {
      topic = h.topic;
      given = h.given;
      ticketed = λ q k. h.ticketed q (others p.part.id q x.pending k).stands;
      decided = λ q k. h.decided q (others p.part.id q x.pending k).stands;
      logged = push_one (λ (l : LogRow). Logged cs t l) x.held (row_of p) h.logged
          (record { row = r.row; stands = r.stands; is = r.log_is; named = subst (λ z. names z (topics_of r.row.txn.sends) ≡ true) here r.named });
      placed = λ q k e. elim (h.placed q k e) [
        | inl l ↦ inl (In-append_left (log_row q) x.held (row_of p ∷ []) l)
        | inr w ↦ elim (Waits-without p.part.id q.txn.id x.pending w) [
          | inl s ↦ inl (subst (λ z. In z (x.held ++ row_of p ∷ []))
              (sym (ap log_row (one_commit ts cs all q r.row k r.stands (id_equal q.txn.id p.part.id s ∙ sym r.id_is)) ∙ r.log_is))
              (In-push (row_of p) x.held))
          | inr v ↦ inr v
        ]
      ];
      items = λ e k j l. let m = In-map_cases (entry_after takes x.frontier (item_of p)) e x.subscriptions k in
          elim (In-delivered_cases takes x.frontier (item_of p) m.from j (subst (λ (z : Entry). In j z.accepted) (sym m.is) l)) [
            | inl o ↦ h.items m.from m.stands j o
            | inr d ↦ record { row = r.row; stands = r.stands; is = ap (λ z. item_at z r.row) (sym here) ∙ (r.item_is ∙ d); named = subst (λ z. names z (topics_of r.row.txn.sends) ≡ true) here r.named }
          ];
      undrained = h.undrained;
      sound = Sound-released takes p x h.sound due;
    }

released_waits : (ts cs : List CommitRow) (t : Topic) (x : TopicState) (p : Pending) → Consistent ts cs → Tied ts cs t x → Due p x → (id : TxnId) → Uncommitted cs id → Waits id x.pending → Waits id (parts_without p.part.id x.pending)
released_waits ts cs t x p all h due id u w =
    elim (Waits-without p.part.id id x.pending w) [
      | inl s ↦ (let c = h.decided p due.least.stands due.stamp due.learnt in
          absurd (u c.row c.stands (id_same c.row.txn.id id (c.id_is ∙ sym (id_equal id p.part.id s)))))
      | inr k ↦ k
    ]

-- Keeps holds of releasing the part that is due
pub Keeps-released : (ts cs : List CommitRow) (t : Topic) (x : TopicState) (takes : Entry → Bool) (p : Pending) → Consistent ts cs → Tied ts cs t x → Due p x → Keeps ts cs t x (after_release_of takes p x)
Keeps-released ts cs t x takes p all h due = record {
  tied = Tied-released ts cs t x takes p all h due;
  waits = released_waits ts cs t x p all h due;
  entries = record {
    step = entry_after takes x.frontier (item_of p);
    are = refl;
    number = delivered_number takes x.frontier (item_of p);
    from = delivered_from takes x.frontier (item_of p);
    grows = More-delivered takes x.frontier (item_of p);
  };
  queues = λ from end accepted q. Queue-closed x.base x.frontier x.held from end accepted (row_of p) (item_of p) (next_of x p h.sound due.least.stands) q;
}

-- Keeps holds of a release
pub Keeps-release : (ts cs : List CommitRow) (t : Topic) (takes : Entry → Bool) (x : TopicState) → Consistent ts cs → Tied ts cs t x → Keeps ts cs t x (after_release takes x)
Keeps-release ts cs t takes x all h = release_keeps (Keeps ts cs t x) takes x (Keeps-same ts cs t x h) (λ p e. Keeps-released ts cs t x takes p all h (due_is x p e))

-- what is found is a verdict of the commit list
abbrev pub Finds : List CommitRow → (TxnId → Option Decision) → Type 0
Finds cs find = (id : TxnId) (v : Decision) → find id ≡ Some v → Committed cs v.id (decided_stamp v)

-- Keeps holds of a turn
pub Keeps-turned : (ts cs : List CommitRow) (t : Topic) (takes : Entry → Bool) (find : TxnId → Option Decision) (x : TopicState) → Consistent ts cs → Finds cs find → Tied ts cs t x → Keeps ts cs t x (after_turn takes find x)
Keeps-turned ts cs t takes find x all finds h =
    turn_keeps (Keeps ts cs t x) takes find
    (λ y id v f e k. Keeps-then ts cs t x y (after_learn id (decided_stamp v) y) k (Keeps-learned ts cs t y id v k.tied e (finds id v f)))
    (λ y p e k. Keeps-then ts cs t x y (after_release_of takes p y) k (Keeps-released ts cs t y takes p all k.tied (due_is y p e)))
    x (Keeps-same ts cs t x h)

-- ---- in the world

-- what is read of the topics after one was written
pub at_topic : (P : Topic → TopicState → Type 0) (topics : List TopicState) (t u : Topic) (y : TopicState) → P t y → P u (topic_in topics u) → P u (topic_in (set topics t.0 y) u)
at_topic P topics t u y h k = at_set (P u) topics t.0 u.0 y (new_topic u 0 0) (λ e. subst (λ z. P z y) (sym (same_topics u t e)) h) k

-- so too where what was there before is known
pub at_topic_from : (P : Topic → TopicState → Type 0) (topics : List TopicState) (t u : Topic) (y : TopicState) → (P t (topic_in topics t) → P t y) → P u (topic_in topics u) → P u (topic_in (set topics t.0 y) u)
at_topic_from P topics t u y h k =
    at_set (P u) topics t.0 u.0 y (new_topic u 0 0)
    (λ e. subst (λ z. P z y) (sym (same_topics u t e)) (h (subst (λ z. P z (topic_in topics z)) (same_topics u t e) k))) k

-- an undecided transaction has no row in the commit list
pub flies_uncommitted : (ts cs : List CommitRow) (topics : List TopicState) (s seq : ℕ) (floor : Stamp) (f : Undecided) → Flies ts cs topics s seq floor f → Uncommitted cs f.txn.id
flies_uncommitted ts cs topics s seq floor f h r k e =
    let d = id_equal r.txn.id f.txn.id e in let l : r.txn.id.seq < f.txn.id.seq = h.newest r k (ap (λ (z : TxnId). z.sender.0) d ∙ h.sender) in
    let m : r.txn.id.seq ≡ f.txn.id.seq = ap (λ (z : TxnId). z.seq) d in absurd (omega arith)

-- a sender whose parts wait on
pub Serves-waiting : (ts cs : List CommitRow) (topics others : List TopicState) (s : ℕ) (x : SenderState)
    → ((f : Undecided) → x.flight ≡ Some f → Flies ts cs topics s x.seq x.floor f → (t : Topic) → Waits f.txn.id (topic_in topics t).pending → Waits f.txn.id (topic_in others t).pending)
    → ((k : Leftover) → In k x.leftovers → IsLeft cs topics s x.seq k → Waits k.id (topic_in topics k.ticket.topic).pending → Waits k.id (topic_in others k.ticket.topic).pending)
    → Serves ts cs topics s x → Serves ts cs others s x
Serves-waiting ts cs topics others s x flight left h = record {
  used = h.used;
  floored = h.floored;
  flying = λ f e. let g = h.flying f e in record {
    sender = g.sender;
    seq_le = g.seq_le;
    newest = g.newest;
    same = g.same;
    higher = g.higher;
    given_in = g.given_in;
    given_all = g.given_all;
    given_apart = g.given_apart;
    waits = λ a k d. flight f e g a.stamp.topic (g.waits a k d);
    some = g.some;
    some_named = g.some_named;
  };
  left = λ k i. let g = h.left k i in record { sender = g.sender; seq_le = g.seq_le; uncommitted = g.uncommitted; waits = left k i g g.waits };
  left_older = h.left_older;
  left_apart = h.left_apart;
}

-- the senders, where no uncommitted part is lost
pub Serves-topics : (ts cs : List CommitRow) (topics others : List TopicState) (s : ℕ) (x : SenderState) → ((id : TxnId) (t : Topic) → Uncommitted cs id → Waits id (topic_in topics t).pending → Waits id (topic_in others t).pending) → Serves ts cs topics s x → Serves ts cs others s x
Serves-topics ts cs topics others s x keep =
    Serves-waiting ts cs topics others s x (λ f e g t. keep f.txn.id t (flies_uncommitted ts cs topics s x.seq x.floor f g)) (λ k i g. keep k.id k.ticket.topic g.uncommitted)

entry_step : (x y : TopicState) (s : ℕ) (from : Stamp) → Entries x y → HasEntry s from x → HasEntry s from y
entry_step x y s from en h = record {
  entry = en.step h.entry;
  stands = subst (λ z. In (en.step h.entry) z) (sym en.are) (In-map en.step h.entry x.subscriptions h.stands);
  number = en.number h.entry ∙ h.number;
  from_is = en.from h.entry ∙ h.from_is;
}

owned_step : (subs : List Subscription) (t : Topic) (x y : TopicState) → Entries x y → ((e : Entry) → In e x.subscriptions → Owned subs t e.number e.from) → (e : Entry) → In e y.subscriptions → Owned subs t e.number e.from
owned_step subs t x y en h e i =
    let m = In-map_cases en.step e x.subscriptions (subst (λ z. In e z) en.are i) in
    let n : m.from.number ≡ e.number = sym (en.number m.from) ∙ ap (λ (z : Entry). z.number) m.is in
    let f : m.from.from ≡ e.from = sym (en.from m.from) ∙ ap (λ (z : Entry). z.from) m.is in
    subst (λ z. Owned subs t z e.from) n (subst (λ z. Owned subs t m.from.number z) f (h m.from m.stands))

one_step : (x y : TopicState) → Entries x y → ((e f : Entry) → In e x.subscriptions → In f x.subscriptions → e.number ≡ f.number → e ≡ f) → (e f : Entry) → In e y.subscriptions → In f y.subscriptions → e.number ≡ f.number → e ≡ f
one_step x y en h e f i j d =
    let m = In-map_cases en.step e x.subscriptions (subst (λ z. In e z) en.are i) in let n = In-map_cases en.step f x.subscriptions (subst (λ z. In f z) en.are j) in
    let a : m.from.number ≡ e.number = sym (en.number m.from) ∙ ap (λ (z : Entry). z.number) m.is in
    let b : n.from.number ≡ f.number = sym (en.number n.from) ∙ ap (λ (z : Entry). z.number) n.is in
    sym m.is ∙ (ap en.step (h m.from n.from m.stands n.stands (a ∙ (d ∙ sym b))) ∙ n.is)

-- subscriptions agree with a topic whose entries only grow, and which keeps closed queues
pub Subscribes-topic : (cs : List CommitRow) (topics : List TopicState) (subs : List Subscription) (t : Topic) (y : TopicState) → Entries (topic_in topics t) y → ((from end : Stamp) (accepted : List Item) → let x = topic_in topics t in IsQueueOf x.base x.frontier x.held from (Some end) accepted → IsQueueOf y.base y.frontier y.held from (Some end) accepted) → Subscribes cs topics subs → Subscribes cs (set topics t.0 y) subs
Subscribes-topic cs topics subs t y en queues h = record {
  live = λ s l c. at_topic_from (λ u z. HasEntry s (sub_in subs s).from z) topics t (sub_in subs s).topic y
      (entry_step (topic_in topics t) y s (sub_in subs s).from en) (h.live s l c);
  owned = λ u. at_topic_from (λ v z. (e : Entry) → In e z.subscriptions → Owned subs v e.number e.from) topics t u y
      (owned_step subs t (topic_in topics t) y en) (h.owned u);
  one = λ u. at_topic_from (λ v z. (e f : Entry) → In e z.subscriptions → In f z.subscriptions → e.number ≡ f.number → e ≡ f) topics t u y
      (one_step (topic_in topics t) y en) (h.one u);
  closed = λ s end e. at_topic_from (λ v z. IsClosed cs (sub_in subs s).from end v z) topics t (sub_in subs s).topic y
      (λ k. record { queue = queues (sub_in subs s).from end.to end.accepted k.queue; items = k.items }) (h.closed s end e);
}

-- a step of one topic keeps all
pub topic_step : (ts : List CommitRow) (w : World) (t : Topic) (y : TopicState) → Holds ts w → Keeps ts w.commits t (topic_in w.topics t) y → Inv ts w.commits w.verdicts (set w.topics t.0 y) w.senders w.subscriptions
topic_step ts w t y inv k = record {
  consistent = inv.consistent;
  tied = λ u. at_topic (λ v z. Tied ts w.commits v z) w.topics t u y k.tied (inv.tied u);
  serves = λ s. Serves-topics ts w.commits w.topics (set w.topics t.0 y) s (sender_in w.senders s)
      (λ id u n. at_topic_from (λ v z. Waits id z.pending) w.topics t u y (k.waits id n)) (inv.serves s);
  voted = inv.voted;
  counted = inv.counted;
  subscribes = Subscribes-topic w.commits w.topics w.subscriptions t y k.entries k.queues inv.subscribes;
}
