-- The seq of each transaction counts its sender's.
use Rattle.delivery.proofs.Words.All.{◌≡◌, ℕ, ◌+◌, List, ◌∷◌, length, Option, ap, refl, ◌∙◌, unwrap_or, Transaction, Answer, answer_to, answers_of, final_world, txn_count, Numbered, Begun}
use Rattle.delivery.specs.Theorem.Laws
use Rattle.delivery.proofs.Words.Steps.{sender_in, by_run, answer_as}
use Rattle.delivery.proofs.Core.Speaking.{spoken}

numbered_more : (o : Answer) (past : List Answer) → ((txn : Transaction) → o ≡ Begun txn → txn.id.seq ≡ txn_count txn.id.sender.0 past + 1) → Numbered past → Numbered (o ∷ past)
numbered_more (Begun txn) past h more = (h txn refl, more)
numbered_more _ past h more = more

-- the seq of each transaction counts its sender's, from 1
pub seqs_count : Laws.SeqsCount
seqs_count = by_run (λ past w. Numbered past) (λ capacity log_limit clocks. tt) (λ r e. let w = final_world r in
    numbered_more (answer_to w e) (answers_of r) (λ txn a. let h = answer_as w e a in
    h.3 ∙ ap (λ (n : ℕ). n + 1) (ap (λ (o : Option ℕ). (sender_in w.senders (unwrap_or o (length w.senders))).seq) h.2 ∙ (spoken r).speaking.seqs txn.id.sender.0)))
