-- A sender for which no connection speaks is left as it is by each move but a claim and a connection's last.
use Rattle.delivery.proofs.Words.All.{◌≡◌, ℕ, zero, suc, ◌==◌, ◌||◌, Bool, true, false, cond, not, ◌&&◌, List, [], ◌∷◌, ◌++◌, set, get_or, Option, Some, None, refl, sym, ap, subst, ◌∙◌, list_any, list_all, option_map_or, true≢false, false≢true, and_parts, or_parts, not-false, get_or-set_other, Entry, GateState, World, Connection, SenderState, Standing, is_gone, nobody, new_sender, connection_at, sender_at, speaker, speaker_number, speaks_for, is_in_use, subscription_at, Move, world_after, move_refusal, move_effect, close_effect_of, run, Opens, Connects, Commits, Disconnects, Errs, Lost, Leaves, Proposes, Decides, Withdraws, Cancels, Takes, resting_gate}
use Rattle.delivery.proofs.Words.Steps.{by_refusal, checked, by_found, InEachCase, always, has_speaker, cancelling_speaker, leftover_found}
use Rattle.delivery.proofs.Theorem.SendersAreOwn.{flying_speaks, speaks, reading_there}

-- ---- lists

-- one of a list is another, of which the same is said
pub any_set : {X : Type 0} (p : X → Bool) (xs : List X) (i : ℕ) (x d : X) → p x ≡ p (get_or xs i d) → list_any p (set xs i x) ≡ list_any p xs
any_set p [] i x d e = refl
any_set p (y ∷ xs) zero x d e = ap (λ (b : Bool). b || list_any p xs) e
any_set p (y ∷ xs) (suc i) x d e = ap (λ (b : Bool). p y || b) (any_set p xs i x d e)

-- one more, of which it isn't said
pub any_push : {X : Type 0} (p : X → Bool) (xs : List X) (x : X) → p x ≡ false → list_any p (xs ++ x ∷ []) ≡ list_any p xs
any_push p [] x e = ap (λ (b : Bool). b || false) e
any_push p (y ∷ xs) x e = ap (λ (b : Bool). p y || b) (any_push p xs x e)

-- of a member it is said
pub any_at : {X : Type 0} (p : X → Bool) (xs : List X) (i : ℕ) (d : X) → p d ≡ false → p (get_or xs i d) ≡ true → list_any p xs ≡ true
any_at p [] i d none e = absurd (true≢false (sym e ∙ none))
any_at p (x ∷ xs) zero d none e = ap (λ (b : Bool). b || list_any p xs) e
any_at p (x ∷ xs) (suc i) d none e = ap (λ (b : Bool). p x || b) (any_at p xs i d none e) ∙ elim (p x) as (λ (b : Bool). (b || true) ≡ true) [ true ↦ refl | false ↦ refl ]

-- ---- what is left as it is

-- a sender for which none speaks is what it was, and for each one it is said as before whether one speaks for it
abbrev pub Rests : World → World → Type 0
Rests w v = (s : ℕ) → resting_gate v s ≡ resting_gate w s

-- the gate of sender s in this state
abbrev gate_by : ℕ → SenderState → GateState
gate_by s x = record { sender = record { 0 = s }; seq = x.seq; floor = x.floor }

-- a sender is written for which a connection speaks
sender_rests : (w : World) (c : ℕ) (x : SenderState) → speaks_for (speaker_number w c) (connection_at w c) ≡ true
    → (s : ℕ) → cond (is_in_use w s) None (Some (gate_by s (get_or (set w.senders (speaker_number w c) x) s new_sender))) ≡ resting_gate w s
sender_rests w c x e s = (elim (is_in_use w s) as (λ (b : Bool). is_in_use w s ≡ b → cond b None (Some (gate_by s (get_or (set w.senders (speaker_number w c) x) s new_sender))) ≡ cond b None (Some (gate_by s (sender_at w s)))) [
  | true ↦ λ u. refl
  | false ↦ λ u. ap (λ (y : SenderState). Some (gate_by s y)) (get_or-set_other w.senders (speaker_number w c) s x new_sender (λ is. true≢false (sym (any_at (speaks_for s) w.connections c nobody refl (subst (λ n. speaks_for n (connection_at w c) ≡ true) (sym is) e)) ∙ u)))
]) refl

-- a connection that isn't gone speaks for the same sender where it stands otherwise
pub standing_speaks : (x : Connection) (standing : Standing) → is_gone standing ≡ false → is_gone x.standing ≡ false
    → (s : ℕ) → speaks_for s (record { sender = x.sender; standing = standing }) ≡ speaks_for s x
standing_speaks x standing n o s = ap (λ (b : Bool). not b && option_map_or (λ m. m == s) x.sender false) (n ∙ sym o)

-- so the same senders are in use
standing_used : (w : World) (c : ℕ) (standing : Standing) → is_gone standing ≡ false → is_gone (connection_at w c).standing ≡ false
    → (s : ℕ) → list_any (speaks_for s) (set w.connections c (record { sender = (connection_at w c).sender; standing = standing })) ≡ is_in_use w s
standing_used w c standing n o s =
    any_set (speaks_for s) w.connections c (record { sender = (connection_at w c).sender; standing = standing }) nobody
    (standing_speaks (connection_at w c) standing n o s)

-- and each that isn't rests
standing_rests : (w : World) (c : ℕ) (standing : Standing) → is_gone standing ≡ false → is_gone (connection_at w c).standing ≡ false
    → (s : ℕ) → cond (list_any (speaks_for s) (set w.connections c (record { sender = (connection_at w c).sender; standing = standing }))) None (Some (gate_by s (sender_at w s))) ≡ resting_gate w s
standing_rests w c standing n o s = ap (λ (b : Bool). cond b None (Some (gate_by s (sender_at w s)))) (standing_used w c standing n o s)

pub closed_rests : (w : World) (n : ℕ) (o : Option Entry) → Rests w (close_effect_of w n o)
closed_rests w n None s = refl
closed_rests w n (Some e) s = refl

-- the move is none of a claim, and none of a connection that leaves
abbrev pub is_still : Move → Bool
is_still (Connects c claimed) = false
is_still (Leaves c) = false
is_still e = true

effect_rests : (w : World) (e : Move) → is_still e ≡ true → move_refusal w e ≡ None → InEachCase (λ v o. Rests w v) w e
effect_rests w (Connects c claimed) q n = absurd (false≢true q)
effect_rests w (Leaves c) q n = absurd (false≢true q)
effect_rests w Opens q n = always (λ s.
    ap (λ (b : Bool). cond b None (Some (gate_by s (sender_at w s)))) (any_push (speaks_for s) w.connections (record { sender = None; standing = Standing.Open }) refl))
effect_rests w (Commits c sends) q n =
    let p = checked w (Commits c sends) n in
    ((λ s. refl), λ k. sender_rests w c _ (speaks (speaker_number w c) (connection_at w c) p.1.0 (has_speaker w c (not-false _ p.1.1.1.0))))
effect_rests w (Disconnects c) q n = always (standing_rests w c Standing.Leaving refl (checked w (Disconnects c) n).1.0)
effect_rests w (Errs c) q n = always (standing_rests w c Standing.Leaving refl (checked w (Errs c) n).1.0)
effect_rests w (Lost c) q n = always (standing_rests w c Standing.Leaving refl (checked w (Lost c) n).1.0)
effect_rests w (Proposes c t memory) q n =
    let p = checked w (Proposes c t memory) n in let own = flying_speaks w c p.1.0 p.1.1.0 in (sender_rests w c _ own, λ k. sender_rests w c _ own)
effect_rests w (Decides c) q n = let p = checked w (Decides c) n in always (sender_rests w c _ (flying_speaks w c p.1.0 p.1.1.0))
effect_rests w (Withdraws c) q n =
    let p = checked w (Withdraws c) n in let v = move_effect w (Withdraws c) in
    always (λ s. ap (λ (b : Bool). cond b None (Some (gate_by s (sender_at v s)))) (standing_used w c Standing.Leaving refl p.1.0 s)
    ∙ sender_rests w c _ (flying_speaks w c p.1.0 p.1.1.0) s)
effect_rests w (Cancels c t) q n =
    let p = checked w (Cancels c t) n in (
      (λ s. refl),
      λ k. sender_rests w c _ (speaks (speaker_number w c) (connection_at w c) p.1.0
          (cancelling_speaker w c k.it (leftover_found t (speaker w c).leftovers k.it k.is).stands)),
    )
effect_rests w (Takes r) q n =
    let c = (subscription_at w r).connection in
    let there = reading_there (connection_at w c).standing (not-false _ (or_parts (Rattle.std.specs.Option.is_some (subscription_at w r).closed) _ (checked w (Takes r) n).1.0).1) in
    (standing_rests w c Standing.Leaving refl there, λ k s. refl)
effect_rests w _ q n = ((λ s. refl), λ k s. refl)

-- each such move leaves it
pub move_rests : (w : World) (e : Move) → is_still e ≡ true → Rests w (world_after w e)
move_rests w e q = by_refusal (λ v o. Rests w v) w e (λ why s. refl) (λ n. by_found (λ v o. Rests w v) w e (effect_rests w e q n))

-- and each list of them
pub run_rests : (es : List Move) (w : World) → list_all is_still es ≡ true → Rests w (run es w)
run_rests [] w q s = refl
run_rests (e ∷ es) w q s = let p = and_parts (is_still e) (list_all is_still es) q in run_rests es (world_after w e) p.1 s ∙ move_rests w e p.0 s
