-- Each topic of a run is tied to the tickets that it gave, and each sender's floor to the commit list.
use Rattle.delivery.proofs.Words.All.{◌≡◌, ℕ, true, false, ◌⊎◌, inl, inr, List, [], ◌∷◌, refl, sym, ap, subst, ◌∙◌, true≢false, zero_stamp, stamp_lt, TopicPart, topics_of, part_at, Transaction, CommitRow, In, names, Topic, TxnId, Stamp, LogRow, Pending, key, id_same, id_itself, le_lt, In-push_cases, not_head, Waits, log_row, topic_at, sender_at, Answer, txn_of_id, commits_of, Run, answers_of, final_world, Decided, Cancelled}
use Rattle.delivery.specs.Machine.Moves.Answer.{Ticket}
use Rattle.delivery.specs.Theorem.Tied
use Rattle.delivery.specs.Theorem.Tied.{IsWaiting, IsAccountedFor, HasTicket}
use Rattle.delivery.proofs.Words.Steps.{row, key_ticket, tickets, reached}
use Rattle.delivery.proofs.Machine.AnswerLemmas.{made_id, In-ticket}
use Rattle.delivery.proofs.Theorem.SeqsCount.{seqs_count}
use Rattle.delivery.proofs.Machine.MadeOnce.{made_is}
use Rattle.delivery.proofs.Theorem.SettledLeavesNoneOut.{settling_run}
use Rattle.delivery.proofs.Theorem.NumbersRise.{number_le, rising_run}
use Rattle.delivery.proofs.Theorem.TicketsAreKept.{IsSomewhere, accounted}
use Rattle.delivery.proofs.Theorem.FloorsAreStamps.{floors}

-- ---- tickets and decisions as outcomes and as rows

-- a ticket that was given, with its transaction
record Given (id : TxnId) (ticket : Stamp) (ts : List CommitRow) : Type 0 where
  it : CommitRow
  stands : In it ts
  id_is : it.txn.id ≡ id
  stamp_is : it.stamp ≡ ticket

given_more : (id : TxnId) (ticket : Stamp) (ts : List CommitRow) (a : CommitRow) → Given id ticket ts → Given id ticket (a ∷ ts)
given_more id ticket ts a h = record { it = h.it; stands = inr h.stands; id_is = h.id_is; stamp_is = h.stamp_is }

given_case : (id i : TxnId) (x ticket : Stamp) (past : List Answer) → (In (Ticket id x) past → Given id x (tickets past)) → In (Ticket id x) (Ticket i ticket ∷ past) → Given id x (row (txn_of_id i past) ticket ∷ tickets past)
given_case id i x ticket past ih (inl e) =
    let a : i ≡ id = cc in let b : ticket ≡ x = cc in record { it = row (txn_of_id i past) ticket; stands = inl refl; id_is = made_id i past ∙ a; stamp_is = b }
given_case id i x ticket past ih (inr k) = given_more id x (tickets past) (row (txn_of_id i past) ticket) (ih k)

given : (id : TxnId) (x : Stamp) (past : List Answer) → In (Ticket id x) past → Given id x (tickets past)
given id x [] k = absurd k
given id x (Ticket i ticket ∷ past) k = given_case id i x ticket past (given id x past) k
given id x (o ∷ past) k = given id x past (not_head (Ticket id x) _ past (λ e. cc) k)

-- a committed row was decided
decided_case : (r : CommitRow) (i : TxnId) (s : Stamp) (past : List Answer) → (In r (commits_of past) → In (Decided r.txn.id r.stamp) past) → In r (commits_of past) ⊎ (row (txn_of_id i past) s ≡ r) → In (Decided r.txn.id r.stamp) (Decided i s ∷ past)
decided_case r i s past ih (inl k) = inr (ih k)
decided_case r i s past ih (inr d) = inl (ap (λ z. Decided z s) (sym (made_id i past)) ∙ ap (λ (z : CommitRow). Decided z.txn.id z.stamp) d)

decided_of : (r : CommitRow) (past : List Answer) → In r (commits_of past) → In (Decided r.txn.id r.stamp) past
decided_of r [] k = absurd k
decided_of r (Decided i s ∷ past) k = decided_case r i s past (decided_of r past) (In-push_cases r (row (txn_of_id i past) s) (commits_of past) k)
decided_of r (o ∷ past) k = inr (decided_of r past k)

-- ---- a pending part

-- the transaction of a ticket is what was made under its id
ticket_made : (r : Run) (a : CommitRow) → In a (tickets (answers_of r)) → txn_of_id a.txn.id (answers_of r) ≡ a.txn
ticket_made r a i = made_is (answers_of r) (seqs_count r) a.txn ((settling_run r).ticket_flew a i)

-- a pending part's transaction isn't in the log: its key is above the frontier, and its stamp would be at least its key
logged_below : (r : Run) (t : Topic) (p : Pending) (l : LogRow) → In p (topic_at (final_world r) t).pending → In l (topic_at (final_world r) t).held → l.id ≡ p.part.id → Prim.⊥
logged_below r t p l i j e =
    let w = final_world r in let h = (reached r).inv in let x = topic_at w t in let tied = h.tied t in
    let a = tied.ticketed p i in let at = key_ticket (tickets (answers_of r)) w.commits t x p h.consistent tied i in let g = tied.logged l j in
    let ids : a.ticket.txn.id ≡ g.row.txn.id = ap (λ (z : TopicPart). z.id) a.part_is ∙ (sym e ∙ ap (λ (z : LogRow). z.id) (sym g.is)) in
    let txn = h.consistent.one_id a.ticket g.row a.stands (h.consistent.from_ticket g.row g.stands) (id_same a.ticket.txn.id g.row.txn.id ids) in
    let least : stamp_lt g.row.stamp (key p) ≡ false = h.consistent.greatest g.row (row a.ticket.txn (key p)) g.stands at txn in
    let here : g.row.stamp ≡ l.stamp = ap (λ (z : LogRow). z.stamp) g.is in let past : stamp_lt x.frontier l.stamp ≡ false = tied.sound.past l j in
    let above : stamp_lt x.frontier (key p) ≡ true = tied.sound.above p i in let low : stamp_lt l.stamp (key p) ≡ true = le_lt l.stamp x.frontier (key p) past above in
    true≢false (sym low ∙ subst (λ z. stamp_lt z (key p) ≡ false) here least)

waiting : (r : Run) (t : Topic) (p : Pending) → In p (topic_at (final_world r) t).pending → IsWaiting r t p
waiting r t p i =
    let w = final_world r in let h = reached r in let tied = h.inv.tied t in let a = tied.ticketed p i in let here : p.part.topic ≡ t = tied.sound.own p i ∙ tied.topic in
    let id : a.ticket.txn.id ≡ p.part.id = ap (λ (z : TopicPart). z.id) a.part_is in
    let stamp : a.ticket.stamp ≡ record { n = p.number; topic = t } = a.stamp_is ∙ ap (λ (z : Topic). at p.number z) here in
    let flew = ticket_made r a.ticket a.stands in record {
      part = sym (ap (λ (z : Transaction). part_at p.part.id z.sends t) (ap (λ (z : TxnId). txn_of_id z (answers_of r)) (sym id) ∙ flew)
          ∙ (ap (λ (z : TxnId). part_at z a.ticket.txn.sends t) (sym id)
          ∙ (ap (part_at a.ticket.txn.id a.ticket.txn.sends) (sym here) ∙ a.part_is)));
      ticket = subst (λ z. In (Ticket z (at p.number t)) (answers_of r)) id
          (subst (λ z. In (Ticket a.ticket.txn.id z) (answers_of r)) stamp (In-ticket a.ticket (answers_of r) a.stands));
      uncancelled = λ k. true≢false (sym (id_itself p.part.id) ∙ (settling_run r).gone t p p.part.id i k);
      unlogged = λ l j e. logged_below r t p l i j e;
      learnt = λ s e. let c = tied.decided p i s e in
          subst (λ z. In (Decided z s) (answers_of r)) c.id_is (subst (λ z. In (Decided c.row.txn.id z) (answers_of r)) c.stamp_is
          (decided_of c.row (answers_of r) (subst (λ z. In c.row z) (sym h.commits) c.stands)));
    }
  where
    at : ℕ → Topic → Stamp
    at n u = record { n = n; topic = u }

-- ---- where a ticket's part is

-- the pending part of a ticket's transaction has that ticket's number
by_ticket : (r : Run) (t : Topic) (a : CommitRow) → In a (tickets (answers_of r)) → a.stamp.topic ≡ t → Waits a.txn.id (topic_at (final_world r) t).pending → (p : Pending) × In p (topic_at (final_world r) t).pending × (p.part.id ≡ a.txn.id) × (p.number ≡ a.stamp.n)
by_ticket r t a i here v =
    let h = (reached r).inv in let tied = h.tied t in let p = v.part in let b = tied.ticketed p v.stands in
    let id : b.ticket.txn.id ≡ a.txn.id = ap (λ (z : TopicPart). z.id) b.part_is ∙ v.is in
    let txn = h.consistent.one_id b.ticket a b.stands i (id_same b.ticket.txn.id a.txn.id id) in
    let topic : b.ticket.stamp.topic ≡ a.stamp.topic = ap (λ (z : Stamp). z.topic) b.stamp_is ∙ (tied.sound.own p v.stands ∙ (tied.topic ∙ sym here)) in
    let same = (accounted r).one b.ticket a b.stands i txn topic in (p, v.stands, v.is, ap (λ (z : Stamp). z.n) (sym b.stamp_is) ∙ ap (λ (z : CommitRow). z.stamp.n) same)

kept_by : (r : Run) (t : Topic) (a : CommitRow) → In a (tickets (answers_of r)) → a.stamp.topic ≡ t → IsSomewhere (answers_of r) (final_world r).senders (final_world r).commits a → IsAccountedFor r t a.txn.id a.stamp
kept_by r t a i here (inl (s, f, e, d)) =
    let g = ((reached r).inv.serves s).flying f e in let v = g.waits a i (sym d) in
    inr (inr (by_ticket r t a i here (subst (λ z. Waits z (topic_at (final_world r) t).pending) (ap (λ (z : Transaction). z.id) d)
    (subst (λ z. Waits f.txn.id (topic_at (final_world r) z).pending) here v))))
kept_by r t a i here (inr (inl (q, k, d))) =
    let n = subst (λ (z : Transaction). names t (topics_of z.sends) ≡ true) (sym d) (subst (λ z. names z (topics_of a.txn.sends) ≡ true) here ((accounted r).named a i)) in
    elim (((reached r).inv.tied t).placed q k n) [
      | inl l ↦ inr (inl (log_row q, l, ap (λ (z : Transaction). z.id) d))
      | inr v ↦ inr (inr (by_ticket r t a i here (subst (λ (z : Transaction). Waits z.id (topic_at (final_world r) t).pending) d v)))
    ]
kept_by r t a i here (inr (inr (inl (s, k, j, d, e)))) =
    let v = (((reached r).inv.serves s).left k j).waits in let u : k.ticket.topic ≡ t = ap (λ (z : Stamp). z.topic) e ∙ here in
    inr (inr (by_ticket r t a i here (subst (λ z. Waits z (topic_at (final_world r) t).pending) d
    (subst (λ z. Waits k.id (topic_at (final_world r) z).pending) u v))))
kept_by r t a i here (inr (inr (inr k))) = inl (subst (λ z. In (Cancelled a.txn.id z) (answers_of r)) here k)

kept : (r : Run) (t : Topic) (id : TxnId) (ticket : Stamp) → In (Ticket id ticket) (answers_of r) → ticket.topic ≡ t → IsAccountedFor r t id ticket
kept r t id ticket i here =
    let g = given id ticket (answers_of r) i in
    subst (λ z. IsAccountedFor r t id z) g.stamp_is (subst (λ z. IsAccountedFor r t z g.it.stamp) g.id_is
    (kept_by r t g.it g.stands (ap (λ (z : Stamp). z.topic) g.stamp_is ∙ here) ((accounted r).somewhere g.it g.stands)))

-- ---- a committed transaction's tickets

has_ticket : (r : Run) (t : Topic) (q : CommitRow) → In q (commits_of (answers_of r)) → names t (topics_of q.txn.sends) ≡ true → HasTicket r t q
has_ticket r t q i n =
    let h = reached r in let all = h.inv.consistent in let j = subst (λ z. In q z) h.commits i in
    let k = (accounted r).complete q j t n in record {
      ticket = k.it.stamp;
      given = subst (λ (z : Transaction). In (Ticket z.id k.it.stamp) (answers_of r)) k.txn_is (In-ticket k.it (answers_of r) k.stands);
      topic = k.topic_is;
      least = all.greatest q k.it j k.stands k.txn_is;
      own = λ e. ap (λ (z : CommitRow). z.stamp) ((accounted r).one k.it q k.stands (all.from_ticket q j) k.txn_is (k.topic_is ∙ sym e));
    }

-- ---- all together

-- each topic of a run is tied to the tickets that it gave
pub topics_are_tied : Tied.TopicsAreTied
topics_are_tied r t =
    let rise = rising_run r in record {
      rising = rise.rising t;
      opening = λ n i. rise.above t n i;
      clock = λ n i. number_le (answers_of r) (final_world r) t n (reached r) i;
      opened = rise.opened t;
      pending = λ p i. waiting r t p i;
      accounted = λ id ticket i e. kept r t id ticket i e;
      tickets = λ q i n. has_ticket r t q i n;
    }

-- each sender's floor is the stamp of its last row, and below its undecided transaction's tickets
pub senders_are_floored : Tied.SendersAreFloored
senders_are_floored r s =
    let h = reached r in let w = final_world r in record {
      floor = floors r s ∙ ap (λ z. Tied.floor_after s zero_stamp z) (sym h.commits);
      above = λ f ticket e i.
          let g = given f.txn.id ticket (answers_of r) i in let k = (h.inv.serves s).flying f e in
          subst (λ z. stamp_lt (sender_at w s).floor z ≡ true) g.stamp_is (k.higher g.it g.stands (k.same g.it g.stands (id_same g.it.txn.id f.txn.id g.id_is)));
    }
