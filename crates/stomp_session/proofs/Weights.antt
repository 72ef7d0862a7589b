-- What drafts weigh that are kept by their names.
use Rattle.std.proofs.Common.{◌≡◌, ◌+◌, ℕ, List, [], ◌∷◌, Some, take, slice_get, sum_by, refl, ap, arith}
use Rattle.std.proofs.lemmas.List.Sums.{sum_by-cons, sum_by_more}
use Rattle.std.proofs.lemmas.Option.{get_or_from_slice_get, slice_get_within}
use Rattle.mcast_txn.specs.declared.draft.sent_message.SentMessage.{SentMessage}
use Rattle.mcast_txn.specs.Transaction.{weight}
use Rattle.mcast_txn.proofs.OctetLemmas.{cap}
use Rattle.stomp_session.specs.Inner.Stored.{entries_of}
use Rattle.stomp_session.proofs.Entries.{Key}

-- what the draft of an entry weighs
abbrev pub entry_weight : Key × List SentMessage → ℕ
entry_weight e = weight e.1

-- the same of an entry as contracts see it
abbrev pub named_weight : List ℕ × List SentMessage → ℕ
named_weight t = weight t.1

-- one entry more
pub one_more : (es : List (Key × List SentMessage)) (i : ℕ) (e : Key × List SentMessage) (before more : ℕ) → slice_get es i ≡ Some e → before ≡ cap (sum_by entry_weight (take i es)) → more ≡ cap (weight e.1)
    → cap (before + more) ≡ cap (sum_by entry_weight (take (i + 1) es))
one_more es i e before more is was weighs =
    let all = sum_by_more entry_weight es i e (slice_get_within es i e is) in
    let here = ap entry_weight (get_or_from_slice_get es i e e is) in
    omega (arith, all, here, was, weighs)

-- names don't weigh
pub of_entries : (es : List (Key × List SentMessage)) → sum_by named_weight (entries_of es) ≡ sum_by entry_weight es
of_entries [] = refl
of_entries (e ∷ es) =
    let named = sum_by-cons named_weight (e.0.items, e.1) (entries_of es) in
    let own = sum_by-cons entry_weight e es in
    omega (arith, named, own, of_entries es)
