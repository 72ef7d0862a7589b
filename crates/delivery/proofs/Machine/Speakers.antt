-- Whom a connection speaks for, where a test says that it speaks for somebody, and whom it claims.
use Rattle.delivery.proofs.Words.All.{◌≡◌, ℕ, ◌<◌, true, false, length, get_or, Option, Some, None, refl, sym, ap, ◌∙◌, arith, set, subst, is_some, unwrap_or, true≢false, ltb-true, not-false, In, some_same, none_some, World, SenderState, new_sender, connection_at, sender_at, speaker, speaker_number, is_in_use, with_sender, Leftover, move_refusal, Connects}
use Rattle.delivery.proofs.Machine.InvariantIsKept.{checked}
use Rattle.delivery.proofs.Machine.SubscriptionSteps.{beyond, set_length}

-- a connection that has a sender speaks for the one of the speaker's number
pub has_speaker : (w : World) (c : ℕ) → is_some (connection_at w c).sender ≡ true → (connection_at w c).sender ≡ Some (speaker_number w c)
has_speaker w c e = (elim (connection_at w c).sender as (λ (o : Option ℕ). is_some o ≡ true → o ≡ Some (unwrap_or o (length w.senders))) [ None ↦ λ e. absurd (true≢false (sym e)) | Some n ↦ λ e. refl ]) e

-- a sender that a claim goes on with is there, and isn't in use
pub claim_there : (w : World) (c : ℕ) (claimed : Option ℕ) → move_refusal w (Connects c claimed) ≡ None → (s : ℕ) → claimed ≡ Some s → s < length w.senders
claim_there w c None n s e = none_some s e
claim_there w c (Some r) n s e =
    let l : r < length w.senders = ltb-true r (length w.senders) (not-false _ (checked w (Connects c (Some r)) n).1.1.1.1.0) in let d : r ≡ s = some_same r s e in omega arith

pub claim_free : (w : World) (c : ℕ) (claimed : Option ℕ) → move_refusal w (Connects c claimed) ≡ None → (s : ℕ) → claimed ≡ Some s → is_in_use w s ≡ false
claim_free w c None n s e = none_some s e
claim_free w c (Some r) n s e = ap (is_in_use w) (sym (some_same r s e)) ∙ (checked w (Connects c (Some r)) n).1.1.1.1.1.0

flies_case : (w : World) (c : ℕ) (o : Option ℕ) → (connection_at w c).sender ≡ o → is_some (sender_at w (unwrap_or o (length w.senders))).flight ≡ true → is_some o ≡ true
flies_case w c None e f = absurd (true≢false (sym f ∙ ap (λ (z : SenderState). is_some z.flight) (beyond w.senders (length w.senders) new_sender (omega arith))))
flies_case w c (Some s) e f = refl

-- a connection whose sender has an undecided transaction speaks for it
pub flying_speaker : (w : World) (c : ℕ) → is_some (speaker w c).flight ≡ true → (connection_at w c).sender ≡ Some (speaker_number w c)
flying_speaker w c f = has_speaker w c (flies_case w c (connection_at w c).sender refl f)

-- a sender that is written leaves the numbers of the connections' senders
pub kept_number : (w : World) (c s : ℕ) (y : SenderState) → speaker_number (with_sender w s y) c ≡ speaker_number w c
kept_number w c s y = ap (unwrap_or (connection_at w c).sender) (set_length w.senders s y)

-- a connection's sender then
pub kept_speaker : (w : World) (c s : ℕ) (y : SenderState) → speaker (with_sender w s y) c ≡ get_or (set w.senders s y) (speaker_number w c) new_sender
kept_speaker w c s y = ap (λ (n : ℕ). get_or (set w.senders s y) n new_sender) (kept_number w c s y)

-- a connection whose sender has something to cancel speaks for it
pub cancelling_speaker : (w : World) (c : ℕ) (k : Leftover) → In k (speaker w c).leftovers → (connection_at w c).sender ≡ Some (speaker_number w c)
cancelling_speaker w c k i = has_speaker w c ((elim (connection_at w c).sender as (λ (o : Option ℕ). In k (sender_at w (unwrap_or o (length w.senders))).leftovers → is_some o ≡ true) [
  | None ↦ λ j. absurd (subst (λ (z : SenderState). In k z.leftovers) (beyond w.senders (length w.senders) new_sender (omega arith)) j)
  | Some s ↦ λ j. refl
]) i)
