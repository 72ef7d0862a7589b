-- SENDs as a draft or a transaction stores them.
use Rattle.std.proofs.Common.{◌≡◌, ◌≢◌, ℕ, ◌+◌, List, [], ◌∷◌, ◌++◌, length, refl, ap, ◌∙◌, arith}
use Rattle.std.proofs.lemmas.List.{map-append}
use Rattle.std.proofs.lemmas.List.Sums.{sum_by_push}
use Rattle.mcast_txn.specs.declared.draft.draft_send.DraftSend.{DraftSend}
use Rattle.mcast_txn.specs.declared.draft.sealed_sends.SealedSends.{SealedSends}
use Rattle.mcast_txn.specs.declared.draft.sealed_sends.SealedSends.TheVariants.{One, Many}
use Rattle.mcast_txn.specs.declared.draft.sent_message.SentMessage.{SentMessage}
use Rattle.mcast_txn.specs.Inner.DraftSends.{IsNumberedFrom, message_of, messages_of}
use Rattle.mcast_txn.specs.Inner.Sealed.{AreSealed}
use Rattle.mcast_txn.specs.Inner.SealedSends.{all_sends}
use Rattle.mcast_txn.specs.Transaction.{weight, weight_of, weight_with}
use Rattle.mcast_txn.proofs.OctetLemmas.{cap}

-- one more, with the next index
pub numbered-push : (i : ℕ) (xs : List DraftSend) (e : DraftSend) → IsNumberedFrom i xs → e.message.value.index ≡ i + length xs → IsNumberedFrom i (xs ++ e ∷ [])
numbered-push i [] e numbered h = (omega (arith, h), tt)
numbered-push i (x ∷ xs) e numbered h = (numbered.0, numbered-push (i + 1) xs e numbered.1 (omega (arith, h)))

-- where there are no SENDs, none is stored
pub no_sends : (xs : List DraftSend) → messages_of xs ≡ [] → xs ≡ []
no_sends [] h = refl
no_sends (x ∷ xs) h = absurd (omega (arith, ap length h))

-- a transaction that is sealed has a SEND
pub some_sends : (sends : SealedSends) → AreSealed sends → all_sends sends ≢ []
some_sends (One send) sealed none = absurd (omega (arith, ap length none))
some_sends (Many sends weighs) sealed none = sealed.some (no_sends sends.items none)

-- one more weighs more
pub weight_more : (xs : List DraftSend) (e : DraftSend) (s : SentMessage) (before more : ℕ) → message_of e ≡ s → before ≡ cap (weight (messages_of xs)) → more ≡ cap (weight_with s.headers s.body)
    → cap (before + more) ≡ cap (weight (messages_of (xs ++ e ∷ [])))
weight_more xs e s before more is was weighs =
    let pushed = ap weight (map-append message_of xs (e ∷ [])) ∙ sum_by_push weight_of (messages_of xs) (message_of e) in
    let one = ap weight_of is in
    omega (arith, pushed, one, was, weighs)
