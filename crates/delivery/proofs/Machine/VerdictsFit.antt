-- The verdict of a pending part is its own, and clashes with none.
use Rattle.delivery.proofs.Words.All.{◌≡◌, Bool, true, false, not, ◌&&◌, ◌⊎◌, inl, inr, List, [], ◌∷◌, Option, Some, None, refl, sym, ap, ◌∙◌, list_any, true≢false, not-true, and_parts, and_from, or_from, TopicPart, Transaction, CommitRow, same_id, In, Decision, Topic, TxnId, Stamp, LearnFault, TopicState, Pending, HasOneRowEach, key, find_pending, learn_fault, decided_stamp, id_same, any_found, any_from, found_part, not_true, World, verdict_in, find_verdict}
use Rattle.mcast_txn.proofs.Orders.{same_stamp_is, same_stamp_from}
use Rattle.mcast_group.specs.Fitting.{Fits, FoundHaveOneRowEach}
use Rattle.mcast_group.specs.Machine.{has_row, is_foreign, has_learnt_other, clashes, learn_fault_of}
use Rattle.mcast_txn.specs.Stamp.{same_stamp}
use Rattle.delivery.proofs.Words.Steps.{row, topic_in, Holds, one_commit, key_ticket, verdict_found}

-- the verdict of a pending part
pub record OwnVerdict (v : Decision) (p : Pending) (x : TopicState) : Type 0 where
  pub one_row : HasOneRowEach v
  pub own : is_foreign v p ≡ false
  pub learnt : (s : Stamp) → p.learnt ≡ Some s → s ≡ decided_stamp v
  pub alone : clashes v p x.pending ≡ false

learnt_case : (v : Decision) (p : Pending) → ((s : Stamp) → p.learnt ≡ Some s → s ≡ decided_stamp v) → (o : Option Stamp) → p.learnt ≡ o → has_learnt_other (decided_stamp v) o ≡ false
learnt_case v p h None e = refl
learnt_case v p h (Some s) e = rw (same_stamp_from s (decided_stamp v) (h s e)) refl

-- a verdict of a pending part's transaction is the part's own
pub own_verdict : (ts : List CommitRow) (w : World) (t : Topic) (p : Pending) (v : Decision) → Holds ts w → In p (topic_in w.topics t).pending → In v w.verdicts → v.id ≡ p.part.id → OwnVerdict v p (topic_in w.topics t)
own_verdict ts w t p v inv i j e =
    let x = topic_in w.topics t in let k = inv.tied t in let all = inv.consistent in let g = inv.voted v j in let a = k.ticketed p i in
    let ids : a.ticket.txn.id ≡ g.row.txn.id = ap (λ (z : TopicPart). z.id) a.part_is ∙ (sym e ∙ sym g.id_is) in let from = all.from_ticket g.row g.stands in
    let txn : a.ticket.txn ≡ g.row.txn = all.one_id a.ticket g.row a.stands from (id_same a.ticket.txn.id g.row.txn.id ids) in
    let here : Stamp = record { n = p.number; topic = p.part.topic } in
    let found = any_from (same_stamp here) a.ticket.stamp v.rows (g.all a.ticket a.stands txn) (same_stamp_from here a.ticket.stamp (sym a.stamp_is)) in
    let learnt : (s : Stamp) → p.learnt ≡ Some s → s ≡ decided_stamp v = λ s d.
    (let c = k.decided p i s d in
    sym c.stamp_is ∙ (ap (λ (z : CommitRow). z.stamp) (one_commit ts w.commits all c.row g.row c.stands g.stands (c.id_is ∙ (sym e ∙ sym g.id_is))) ∙ g.stamp_is)) in
    record {
      one_row = g.one_row;
      own = ap not (and_from (same_id v.id p.part.id) (has_row here v.rows) (id_same v.id p.part.id e) found);
      learnt = learnt;
      alone = or_from (has_learnt_other (decided_stamp v) p.learnt) (list_any (λ (q : Pending). not (same_id q.part.id p.part.id) && same_stamp (key q) (decided_stamp v)) x.pending)
          (learnt_case v p learnt p.learnt refl)
          (not_true (list_any (λ (q : Pending). not (same_id q.part.id p.part.id) && same_stamp (key q) (decided_stamp v)) x.pending) refl (λ n.
          let f = any_found (λ (q : Pending). not (same_id q.part.id p.part.id) && same_stamp (key q) (decided_stamp v)) x.pending n in
          let parts = and_parts (not (same_id f.it.part.id p.part.id)) (same_stamp (key f.it) (decided_stamp v)) f.passes in let b = k.ticketed f.it f.stands in
          let same : b.ticket.txn ≡ g.row.txn = all.one_txn (row b.ticket.txn (key f.it)) g.row
          (key_ticket ts w.commits t x f.it all k f.stands) from (same_stamp_is (key f.it) (decided_stamp v) parts.1 ∙ sym g.stamp_is) in
          let d : f.it.part.id ≡ p.part.id = ap (λ (z : TopicPart). z.id) (sym b.part_is) ∙ (ap (λ (z : Transaction). z.id) same ∙ (g.id_is ∙ e)) in
          true≢false (sym (id_same f.it.part.id p.part.id d) ∙ not-true (same_id f.it.part.id p.part.id) parts.0)));
    }

-- ---- learning what is found is refused only where nothing is pending

learn_found : (ts : List CommitRow) (w : World) (t : Topic) (id : TxnId) (v : Decision) → Holds ts w → In v w.verdicts → v.id ≡ id → (o : Option Pending) → find_pending id (topic_in w.topics t).pending ≡ o → (learn_fault_of v (topic_in w.topics t).pending o ≡ None) ⊎ (learn_fault_of v (topic_in w.topics t).pending o ≡ Some LearnFault.NotPending)
learn_found ts w t id v inv i e None f = inr refl
learn_found ts w t id v inv i e (Some p) f =
    let k = found_part id (topic_in w.topics t).pending p f in let o = own_verdict ts w t p v inv k.stands i (e ∙ sym k.is) in inl (rw (o.own, o.alone) refl)

-- a verdict that the core finds is learnt, or refused because nothing of it is pending
pub learn_fault_is : (ts : List CommitRow) (w : World) (t : Topic) (id : TxnId) (v : Decision) → Holds ts w → verdict_in w id ≡ Some v → (learn_fault id v (topic_in w.topics t) ≡ None) ⊎ (learn_fault id v (topic_in w.topics t) ≡ Some LearnFault.NotPending)
learn_fault_is ts w t id v inv e = let f = verdict_found id w.verdicts v e in learn_found ts w t id v inv f.0 f.1 (find_pending id (topic_in w.topics t).pending) refl

-- ---- where each pending part is committed, the verdicts fit

-- a verdict of this id is found
pub record FindsVerdict (id : TxnId) (vs : List Decision) : Type 0 where
  pub verdict : Decision
  pub found : find_verdict id vs ≡ Some verdict

finds_case : (id : TxnId) (v : Decision) (vs : List Decision) (b : Bool) → (b ≡ false → FindsVerdict id vs) → same_id v.id id ≡ b → FindsVerdict id (v ∷ vs)
finds_case id v vs true ih e = record { verdict = v; found = rw e refl }
finds_case id v vs false ih e = let h = ih refl in record { verdict = h.verdict; found = rw e h.found }

-- where the list has a verdict of this id, one is found
pub finds_verdict : (id : TxnId) (vs : List Decision) (v : Decision) → In v vs → v.id ≡ id → FindsVerdict id vs
finds_verdict id [] v i e = absurd i
finds_verdict id (u ∷ vs) v (inl k) e = finds_case id u vs true (λ n. absurd (true≢false n)) (id_same u.id id (ap (λ (z : Decision). z.id) k ∙ e))
finds_verdict id (u ∷ vs) v (inr k) e = finds_case id u vs (same_id u.id id) (λ n. finds_verdict id vs v k e) refl

-- the part's transaction is committed
pub record HasCommit (cs : List CommitRow) (id : TxnId) : Type 0 where
  pub row : CommitRow
  pub stands : In row cs
  pub id_is : row.txn.id ≡ id

-- where each pending part's transaction is committed, what the core finds fits the topic
pub fits : (ts : List CommitRow) (w : World) (t : Topic) → Holds ts w → ((p : Pending) → In p (topic_in w.topics t).pending → HasCommit w.commits p.part.id) → Fits (verdict_in w) (topic_in w.topics t)
fits ts w t inv all = record {
  each = λ p i.
      let c = all p i in let vote = inv.counted c.row c.stands in let f = finds_verdict p.part.id w.verdicts vote.verdict vote.stands (vote.id_is ∙ c.id_is) in
      let g = verdict_found p.part.id w.verdicts f.verdict f.found in let o = own_verdict ts w t p f.verdict inv i g.0 g.1 in
      record { verdict = f.verdict; found = f.found; own = o.own; learnt = o.learnt };
  differ = λ p q v u i j e f s.
      let a = verdict_found p.part.id w.verdicts v e in let b = verdict_found q.part.id w.verdicts u f in let g = inv.voted v a.0 in let h = inv.voted u b.0 in
      let txn = inv.consistent.one_txn g.row h.row (inv.consistent.from_ticket g.row g.stands) (inv.consistent.from_ticket h.row h.stands)
      (g.stamp_is ∙ (s ∙ sym h.stamp_is)) in
      id_same p.part.id q.part.id (sym a.1 ∙ (sym g.id_is ∙ (ap (λ (z : Transaction). z.id) txn ∙ (h.id_is ∙ b.1))));
}

-- each verdict of the core has one row for a topic
pub found_one_row : (ts : List CommitRow) (w : World) (t : Topic) → Holds ts w → FoundHaveOneRowEach (verdict_in w) (topic_in w.topics t).pending
found_one_row ts w t inv p v i e = (inv.voted v (verdict_found p.part.id w.verdicts v e).0).one_row
