-- What stands in the list of outcomes.
use Rattle.delivery.proofs.Words.All.{◌≡◌, Bool, true, false, cond, inl, inr, List, [], ◌∷◌, ◌++◌, refl, sym, ap, subst, ◌∙◌, true≢false, stamp_lt, greatest, CommitRow, same_id, In, TxnId, Stamp, id_equal, id_same, In-append_left, In-push, not_head, Answer, txn_of_id, commits_of, answers_of, final_world, Begun, Decided}
use Rattle.delivery.specs.Machine.Moves.Answer.{Ticket}
use Rattle.mcast_txn.proofs.Greatest.{is_greatest}
use Rattle.delivery.specs.Machine.Runs.{tickets_of}
use Rattle.delivery.specs.Theorem.Laws
use Rattle.delivery.proofs.Words.Steps.{row, tickets, reached}

-- what was made of an id has that id
pub made_id : (id : TxnId) (past : List Answer) → (txn_of_id id past).id ≡ id
made_id id [] = refl
made_id id (Begun txn ∷ past) = (elim (same_id txn.id id) as (λ (b : Bool). same_id txn.id id ≡ b → (cond b txn (txn_of_id id past)).id ≡ id) [ true ↦ λ e. id_equal txn.id id e | false ↦ λ e. (made_id id past) ]) refl
made_id id (o ∷ past) = made_id id past

-- a ticket of this transaction
pub record TicketOf (id : TxnId) (ticket : Stamp) (ts : List CommitRow) : Type 0 where
  pub it : CommitRow
  pub stands : In it ts
  pub id_is : it.txn.id ≡ id
  pub stamp_is : it.stamp ≡ ticket

TicketOf-more : (id : TxnId) (ticket : Stamp) (ts : List CommitRow) (a : CommitRow) → TicketOf id ticket ts → TicketOf id ticket (a ∷ ts)
TicketOf-more id ticket ts a h = record { it = h.it; stands = inr h.stands; id_is = h.id_is; stamp_is = h.stamp_is }

of_case : (id i : TxnId) (x ticket : Stamp) (past : List Answer) (b : Bool) → same_id i id ≡ b → (In x (tickets_of id past) → TicketOf id x (tickets past)) → In x (cond b (ticket ∷ tickets_of id past) (tickets_of id past)) → TicketOf id x (row (txn_of_id i past) ticket ∷ tickets past)
of_case id i x ticket past true e ih (inl d) = record { it = row (txn_of_id i past) ticket; stands = inl refl; id_is = made_id i past ∙ id_equal i id e; stamp_is = d }
of_case id i x ticket past true e ih (inr k) = TicketOf-more id x (tickets past) (row (txn_of_id i past) ticket) (ih k)
of_case id i x ticket past false e ih k = TicketOf-more id x (tickets past) (row (txn_of_id i past) ticket) (ih k)

-- each ticket that a transaction was given is among the past's tickets
pub ticket_of : (id : TxnId) (x : Stamp) (past : List Answer) → In x (tickets_of id past) → TicketOf id x (tickets past)
ticket_of id x [] k = absurd k
ticket_of id x (Ticket i ticket ∷ past) k = of_case id i x ticket past (same_id i id) refl (ticket_of id x past) k
ticket_of id x (o ∷ past) k = ticket_of id x past k

to_case : (id i : TxnId) (a : CommitRow) (ticket : Stamp) (past : List Answer) (b : Bool) → same_id i id ≡ b → (In a (tickets past) → In a.stamp (tickets_of id past)) → In a (row (txn_of_id i past) ticket ∷ tickets past) → a.txn.id ≡ id → In a.stamp (cond b (ticket ∷ tickets_of id past) (tickets_of id past))
to_case id i a ticket past true e ih (inl d) n = inl (ap (λ (z : CommitRow). z.stamp) d)
to_case id i a ticket past true e ih (inr k) n = inr (ih k)
to_case id i a ticket past false e ih (inl d) n = absurd (true≢false (sym (id_same i id (sym (made_id i past) ∙ (ap (λ (z : CommitRow). z.txn.id) d ∙ n))) ∙ e))
to_case id i a ticket past false e ih (inr k) n = ih k

-- each of the past's tickets of a transaction is among those that it was given
pub to_tickets : (id : TxnId) (a : CommitRow) (past : List Answer) → In a (tickets past) → a.txn.id ≡ id → In a.stamp (tickets_of id past)
to_tickets id a [] k n = absurd k
to_tickets id a (Ticket i ticket ∷ past) k n = to_case id i a ticket past (same_id i id) refl (λ j. to_tickets id a past j n) k n
to_tickets id a (o ∷ past) k n = to_tickets id a past k n

-- a ticket that was given stands in the list
In-ticket_case : (a : CommitRow) (i : TxnId) (ticket : Stamp) (past : List Answer) → (In a (tickets past) → In (Ticket a.txn.id a.stamp) past) → In a (row (txn_of_id i past) ticket ∷ tickets past) → In (Ticket a.txn.id a.stamp) (Ticket i ticket ∷ past)
In-ticket_case a i ticket past ih (inl d) = inl (ap (λ z. Ticket z ticket) (sym (made_id i past)) ∙ ap (λ (z : CommitRow). Ticket z.txn.id z.stamp) d)
In-ticket_case a i ticket past ih (inr k) = inr (ih k)

-- each of the past's tickets was answered as its transaction's
pub In-ticket : (a : CommitRow) (past : List Answer) → In a (tickets past) → In (Ticket a.txn.id a.stamp) past
In-ticket a [] k = absurd k
In-ticket a (Ticket i ticket ∷ past) k = In-ticket_case a i ticket past (In-ticket a past) k
In-ticket a (o ∷ past) k = inr (In-ticket a past k)

-- a decision stands in the commit list
pub record CommitOf (id : TxnId) (stamp : Stamp) (cs : List CommitRow) : Type 0 where
  pub it : CommitRow
  pub stands : In it cs
  pub id_is : it.txn.id ≡ id
  pub stamp_is : it.stamp ≡ stamp

decided_case : (id i : TxnId) (stamp s : Stamp) (past : List Answer) → (In (Decided id stamp) past → CommitOf id stamp (commits_of past)) → In (Decided id stamp) (Decided i s ∷ past) → CommitOf id stamp (commits_of past ++ row (txn_of_id i past) s ∷ [])
decided_case id i stamp s past ih (inl d) = record {
  it = row (txn_of_id i past) s;
  stands = In-push (row (txn_of_id i past) s) (commits_of past);
  id_is = made_id i past ∙ (let k : i ≡ id = cc in k);
  stamp_is = cc;
}
decided_case id i stamp s past ih (inr k) =
    let h = ih k in record { it = h.it; stands = In-append_left h.it (commits_of past) (row (txn_of_id i past) s ∷ []) h.stands; id_is = h.id_is; stamp_is = h.stamp_is }

-- a transaction that was decided is in the commit list, with its stamp
pub commit_of : (id : TxnId) (stamp : Stamp) (past : List Answer) → In (Decided id stamp) past → CommitOf id stamp (commits_of past)
commit_of id stamp [] k = absurd k
commit_of id stamp (Decided i s ∷ past) k = decided_case id i stamp s past (commit_of id stamp past) k
commit_of id stamp (o ∷ past) k = commit_of id stamp past (not_head (Decided id stamp) _ past (λ e. cc) k)

-- a decided transaction's stamp is the greatest of its tickets
pub stamp_is_greatest : Laws.StampIsGreatest
stamp_is_greatest r id stamp k =
    let h = reached r in let past = answers_of r in let c = commit_of id stamp past k in let i : In c.it (final_world r).commits = subst (λ z. In c.it z) h.commits c.stands in
    let t = h.inv.consistent.from_ticket c.it i in
    subst (λ z. z ≡ greatest (tickets_of id past)) c.stamp_is
    (is_greatest (tickets_of id past) c.it.stamp (to_tickets id c.it past t c.id_is)
    (λ y j. let a = ticket_of id y past j in
    subst (λ z. stamp_lt c.it.stamp z ≡ false) a.stamp_is
    (h.inv.consistent.greatest c.it a.it i a.stands
    (h.inv.consistent.one_id a.it c.it a.stands t (id_same a.it.txn.id c.it.txn.id (a.id_is ∙ sym c.id_is))))))
