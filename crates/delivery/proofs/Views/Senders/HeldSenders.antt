-- What is held of a sender: its gate is with it while a connection speaks for it, and else it is resting.
use Rattle.delivery.proofs.Words.All.{◌≡◌, ℕ, ◌+◌, ◌<◌, Bool, true, false, cond, length, set, Option, Some, None, refl, sym, ap, ◌∙◌, arith, unwrap_or, get_or-set_same, get_or-set_other, World, Undecided, Connection, SenderState, Standing, is_gone, new_sender, nobody, connection_at, sender_at, speaker_number, speaks_for, is_in_use, with_sender, each_number, Sending, SenderView, held_sender, is_undecided, rested_sender, sender_view, sending_view}
use Rattle.delivery.specs.Inner.View.{rested_sending}
use Rattle.delivery.proofs.Theorem.SendersAreOwn.{Speaks, speaks, unspoken}
use Rattle.delivery.proofs.Views.Clients.RestingStay.{any_at, any_set, standing_speaks}
use Rattle.delivery.proofs.Views.Lists.ByNumber.{each_number-same, each_number-set}

-- ---- who is in use

-- a sender for which a connection speaks
pub spoken_used : (w : World) (c s : ℕ) → speaks_for s (connection_at w c) ≡ true → is_in_use w s ≡ true
spoken_used w c s e = any_at (speaks_for s) w.connections c nobody refl e

-- that of a connection that isn't gone, once it has one
pub speaker_used : (w : World) (c : ℕ) → is_gone (connection_at w c).standing ≡ false → speaker_number w c < length w.senders → is_in_use w (speaker_number w c) ≡ true
speaker_used w c staying there = (elim (connection_at w c).sender as (λ (o : Option ℕ). (connection_at w c).sender ≡ o → unwrap_or o (length w.senders) < length w.senders → is_in_use w (unwrap_or o (length w.senders)) ≡ true) [
  | None ↦ λ e l. absurd (omega (arith, l))
  | Some s ↦ λ e l. spoken_used w c s (speaks s (connection_at w c) staying e)
]) refl there

-- ---- what is held

-- one that is in use is held with its gate
pub used_held : (w : World) (s : ℕ) → is_in_use w s ≡ true → held_sender w s ≡ sender_view s (sender_at w s)
used_held w s used = ap (λ (b : Bool). cond b (sender_view s (sender_at w s)) (rested_sender (sender_view s (sender_at w s)))) used

-- one that isn't is resting
pub unused_rests : (w : World) (s : ℕ) → Speaks w → is_in_use w s ≡ false → (held_sender w s).sending ≡ Sending.Resting
unused_rests w s own unused =
    let x = sender_at w s in
    ap (λ (b : Bool). (cond b (sender_view s x) (rested_sender (sender_view s x))).sending) unused
    ∙ ap (λ (o : Option Undecided). rested_sending (sending_view s x.seq x.floor o)) (own.resting s (unspoken w s unused)).0

-- with a gate or without, a sender that does nothing has no undecided transaction
rested_undecided : (z : Sending) → is_undecided (rested_sending z) ≡ is_undecided z
rested_undecided (Sending.Idle gate) = refl
rested_undecided Sending.Resting = refl
rested_undecided (Sending.Flying flight topics) = refl
rested_undecided (Sending.Marked gate tickets fault) = refl

pub held_undecided : (w : World) (s : ℕ) → is_undecided (held_sender w s).sending ≡ is_undecided (sender_view s (sender_at w s)).sending
held_undecided w s = elim (is_in_use w s) as (λ b. is_undecided (cond b x (rested_sender x)).sending ≡ is_undecided x.sending) [ true ↦ refl | false ↦ rested_undecided x.sending ]
  where
    x : SenderView
    x = sender_view s (sender_at w s)

-- it has the same tickets to cancel
pub held_leftovers : (w : World) (s : ℕ) → (held_sender w s).leftovers ≡ (sender_view s (sender_at w s)).leftovers
held_leftovers w s = elim (is_in_use w s) as (λ b. (cond b x (rested_sender x)).leftovers ≡ x.leftovers) [ true ↦ refl | false ↦ refl ]
  where
    x : SenderView
    x = sender_view s (sender_at w s)

-- ---- senders of two machines

-- one that is as it was, and in use where it was
pub held_same : (w v : World) (s : ℕ) → is_in_use v s ≡ is_in_use w s → sender_at v s ≡ sender_at w s → held_sender w s ≡ held_sender v s
held_same w v s used same = λ i. cond (sym used i) (sender_view s (sym same i)) (rested_sender (sender_view s (sym same i)))

-- all are held as they were, where the same of them are in use
pub senders_same : (w v : World) → ((s : ℕ) → is_in_use v s ≡ is_in_use w s) → ((s : ℕ) → sender_at v s ≡ sender_at w s)
    → each_number (held_sender w) 0 w.senders ≡ each_number (held_sender v) 0 w.senders
senders_same w v used same = each_number-same (held_sender w) (held_sender v) 0 w.senders (λ n low high. held_same w v n (used n) (same n))

-- so where a connection is another, which speaks for the same sender
pub senders_alike : (w : World) (c : ℕ) (x : Connection) → ((s : ℕ) → speaks_for s x ≡ speaks_for s (connection_at w c))
    → each_number (held_sender w) 0 w.senders ≡ each_number (held_sender (record w { connections = set w.connections c x })) 0 w.senders
senders_alike w c x same = senders_same w (record w { connections = set w.connections c x }) (λ s. any_set (speaks_for s) w.connections c x nobody (same s)) (λ s. refl)

-- so where one that isn't gone stands otherwise
pub senders_standing : (w : World) (c : ℕ) (standing : Standing) → is_gone standing ≡ false → is_gone (connection_at w c).standing ≡ false → each_number (held_sender w) 0 w.senders
    ≡ each_number (held_sender (record w { connections = set w.connections c (record { sender = (connection_at w c).sender; standing = standing }) })) 0 w.senders
senders_standing w c standing n o = senders_alike w c (record { sender = (connection_at w c).sender; standing = standing }) (standing_speaks (connection_at w c) standing n o)

-- one that is in use is another
pub senders_with : (w : World) (s : ℕ) (x : SenderState) → s < length w.senders → is_in_use w s ≡ true → set (each_number (held_sender w) 0 w.senders) s (sender_view s x)
    ≡ each_number (held_sender (with_sender w s x)) 0 (set w.senders s x)
senders_with w s x there used =
    let f = held_sender w in let v = with_sender w s x in let g = held_sender v in let e : s ≡ 0 + s = omega arith in
    let new : sender_view s x ≡ g s = ap (λ (y : SenderState). sender_view s y) (sym (get_or-set_same w.senders s x new_sender there)) ∙ sym (used_held v s used) in
    ap (λ (y : SenderView). set (each_number f 0 w.senders) s y) new
    ∙ (ap (λ (n : ℕ). set (each_number f 0 w.senders) s (g n)) e
    ∙ each_number-set f g 0 w.senders s x there
    (λ n low high other. held_same w v n refl (get_or-set_other w.senders s n x new_sender (λ same. other (same ∙ e)))))
