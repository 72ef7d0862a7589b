-- No two connections that are there speak for one sender, and a sender for which none speaks is idle. Who goes on as a
-- sender has it as it was, and has it until the end.
use Rattle.delivery.proofs.Words.All.{◌≡◌, ℕ, zero, suc, ◌<◌, ◌==◌, Bool, true, false, not, ◌&&◌, ◌||◌, ◌⊎◌, List, [], ◌∷◌, ◌++◌, length, set, get_or, Option, Some, None, inl, inr, refl, sym, ap, subst, ◌∙◌, arith, ltb, list_any, is_some, option_map_or, unwrap_or, true≢false, and_parts, or_parts, eqb-true, eq-eqb, ltb-true, lt-ltb, not-false, length_push, at_set, at_set_within, some_same, none_some, not_true, World, Connection, Leftover, SenderState, Standing, is_reading, is_gone, nobody, new_sender, connection_at, sender_at, speaker, speaker_number, speaks_for, is_in_use, subscription_at, Move, move_refusal, move_effect, drop_leftover, oldest_live, claimed_senders, connect_effect, leave_effect, Run, final_world, Opens, Connects, Commits, Disconnects, Errs, Lost, Leaves, Proposes, Decides, Withdraws, Cancels, Takes, Done, entry_at, close_effect_of}
use Rattle.delivery.specs.Theorem.Reported
use Rattle.delivery.proofs.Words.Steps.{sender_in, at_push, at_end, set_length, beyond, by_refusal, checked, InEachCase, by_found, found, always, none_of, by_run, has_speaker, flying_speaker, claim_there, claim_free}

-- the connection of this number in a list; beyond its end, nobody
abbrev connection_in : List Connection → ℕ → Connection
connection_in connections c = get_or connections c nobody

-- none of these connections speaks for s
abbrev pub Unspoken : List Connection → ℕ → Type 0
Unspoken connections s = (c : ℕ) → speaks_for s (connection_in connections c) ≡ false

-- the sender has no undecided transaction, and nothing to cancel
abbrev pub Rests : SenderState → Type 0
Rests x = (x.flight ≡ None) × (x.leftovers ≡ [])

-- whom a connection speaks for is there; no two that are there speak for one; and one for which none speaks rests
pub record Speak (senders : List SenderState) (connections : List Connection) : Type 0 where
  pub there : (c s : ℕ) → (connection_in connections c).sender ≡ Some s → s < length senders
  pub own : (c d s : ℕ) → speaks_for s (connection_in connections c) ≡ true → speaks_for s (connection_in connections d) ≡ true → c ≡ d
  pub resting : (s : ℕ) → Unspoken connections s → Rests (sender_in senders s)

-- ---- speaking

-- who speaks for a sender has it
pub spoken_sender : (s : ℕ) (x : Connection) → speaks_for s x ≡ true → x.sender ≡ Some s
spoken_sender s x e = (elim x.sender as (λ (o : Option ℕ). option_map_or (λ n. n == s) o false ≡ true → o ≡ Some s) [ None ↦ λ e. absurd (true≢false (sym e)) | Some n ↦ λ e. ap Some (eqb-true n s e) ]) (and_parts (not (is_gone x.standing)) _ e).1

-- who has a sender, and isn't gone, speaks for it
pub speaks : (s : ℕ) (x : Connection) → is_gone x.standing ≡ false → x.sender ≡ Some s → speaks_for s x ≡ true
speaks s x there own =
    ap (λ (b : Bool). not b && option_map_or (λ n. n == s) x.sender false) there
    ∙ (ap (λ (o : Option ℕ). option_map_or (λ n. n == s) o false) own ∙ eq-eqb s s refl)

-- who has none speaks for none
pub silent : (s : ℕ) (x : Connection) → x.sender ≡ None → speaks_for s x ≡ false
silent s x none = not_true (speaks_for s x) refl (λ e. none_some s (sym none ∙ spoken_sender s x e))

unspoken_case : (s : ℕ) (connections : List Connection) → list_any (speaks_for s) connections ≡ false → Unspoken connections s
unspoken_case s [] e c = refl
unspoken_case s (x ∷ xs) e zero = (or_parts (speaks_for s x) (list_any (speaks_for s) xs) e).0
unspoken_case s (x ∷ xs) e (suc c) = unspoken_case s xs (or_parts (speaks_for s x) (list_any (speaks_for s) xs) e).1 c

-- for a sender that isn't in use none speaks
pub unspoken : (w : World) (s : ℕ) → is_in_use w s ≡ false → Unspoken w.connections s
unspoken w s e = unspoken_case s w.connections e

-- an open connection isn't gone
pub reading_there : (standing : Standing) → is_reading standing ≡ true → is_gone standing ≡ false
reading_there Standing.Open e = refl
reading_there Standing.Leaving e = absurd (true≢false (sym e))
reading_there Standing.Gone e = absurd (true≢false (sym e))

-- ---- writing

-- a sender is written for which a connection speaks
sender_kept : (senders : List SenderState) (connections : List Connection) (c s : ℕ) (x : SenderState) → speaks_for s (connection_in connections c) ≡ true → Speak senders connections → Speak (set senders s x) connections
sender_kept senders connections c s x e h = record {
  there = λ d r k. let l : r < length senders = h.there d r k in let m : length (set senders s x) ≡ length senders = set_length senders s x in omega arith;
  own = h.own;
  resting = λ r u. at_set (λ (z : SenderState). Rests z) senders s r x new_sender
      (λ k. absurd (true≢false (sym e ∙ subst (λ n. speaks_for n (connection_in connections c) ≡ false) k (u c)))) (h.resting r u);
}

-- a sender is written that rests where it rested
rest_kept : (senders : List SenderState) (connections : List Connection) (s : ℕ) (x : SenderState) → (Rests (sender_in senders s) → Rests x) → Speak senders connections → Speak (set senders s x) connections
rest_kept senders connections s x e h = record {
  there = λ d r k. let l : r < length senders = h.there d r k in let m : length (set senders s x) ≡ length senders = set_length senders s x in omega arith;
  own = h.own;
  resting = λ r u. at_set (λ (z : SenderState). Rests z) senders s r x new_sender
      (λ k. e (subst (λ n. Rests (sender_in senders n)) k (h.resting r u))) (h.resting r u);
}

-- each connection speaks for whom it spoke
same_speaking : (senders : List SenderState) (connections others : List Connection) → ((c : ℕ) → (connection_in others c).sender ≡ (connection_in connections c).sender)
    → ((c s : ℕ) → speaks_for s (connection_in others c) ≡ speaks_for s (connection_in connections c)) → Speak senders connections → Speak senders others
same_speaking senders connections others same alike h = record {
  there = λ c s e. h.there c s (sym (same c) ∙ e);
  own = λ c d s e f. h.own c d s (sym (alike c s) ∙ e) (sym (alike d s) ∙ f);
  resting = λ s u. h.resting s (λ c. sym (alike c s) ∙ u c);
}

-- a connection that is there stays there
standing_kept : (senders : List SenderState) (connections : List Connection) (c : ℕ) (standing : Standing) → is_gone standing ≡ false → is_gone (connection_in connections c).standing ≡ false
    → Speak senders connections → Speak senders (set connections c (record { sender = (connection_in connections c).sender; standing = standing }))
standing_kept senders connections c standing n o h =
    same_speaking senders connections (set connections c new)
    (λ d. at_set (λ (z : Connection). z.sender ≡ (connection_in connections d).sender) connections c d new nobody (λ k. ap (λ a. (connection_in connections a).sender) (sym k)) refl)
    (λ d s. at_set (λ (z : Connection). speaks_for s z ≡ speaks_for s (connection_in connections d)) connections c d new nobody
    (λ k. ap (λ (b : Bool). not b && option_map_or (λ m. m == s) (connection_in connections c).sender false) (n ∙ sym o) ∙ ap (λ a. speaks_for s (connection_in connections a)) (sym k)) refl)
    h
  where
    new : Connection
    new = record { sender = (connection_in connections c).sender; standing = standing }

-- a connection is gone, whose sender rests
departed : (w : World) (c : ℕ) → Rests (speaker w c) → Speak w.senders w.connections
    → Speak w.senders (set w.connections c (record { sender = (connection_at w c).sender; standing = Standing.Gone }))
departed w c rests h = record {
  there = λ d s. at_set (λ (z : Connection). z.sender ≡ Some s → s < length w.senders) w.connections c d _ nobody (λ k. h.there c s) (h.there d s);
  own = λ d b s e f. h.own d b s (spoke d s e) (spoke b s f);
  resting = λ s u. rest s u (speaks_for s (connection_at w c)) refl;
}
  where
    others : List Connection
    others = set w.connections c (record { sender = (connection_at w c).sender; standing = Standing.Gone })

    spoke : (d s : ℕ) → speaks_for s (connection_in others d) ≡ true → speaks_for s (connection_at w d) ≡ true
    spoke d s = at_set (λ (z : Connection). speaks_for s z ≡ true → speaks_for s (connection_at w d) ≡ true) w.connections c d _ nobody
        (λ k e. absurd (true≢false (sym e))) (λ e. e)

    silent_else : (s : ℕ) → Unspoken others s → speaks_for s (connection_at w c) ≡ false → Unspoken w.connections s
    silent_else s u n d = at_set (λ (z : Connection). speaks_for s z ≡ false → speaks_for s (connection_at w d) ≡ false) w.connections c d _ nobody
        (λ k e. subst (λ a. speaks_for s (connection_at w a) ≡ false) (sym k) n) (λ e. e) (u d)

    rest : (s : ℕ) → Unspoken others s → (b : Bool) → speaks_for s (connection_at w c) ≡ b → Rests (sender_in w.senders s)
    rest s u true e = subst (λ a. Rests (sender_in w.senders a)) (ap (λ (o : Option ℕ). unwrap_or o (length w.senders)) (spoken_sender s (connection_at w c) e)) rests
    rest s u false e = h.resting s (silent_else s u e)

-- a connection is opened
opened : (senders : List SenderState) (connections : List Connection) (x : Connection) → x.sender ≡ None → Speak senders connections → Speak senders (connections ++ x ∷ [])
opened senders connections x none h =
    same_speaking senders connections (connections ++ x ∷ [])
    (λ c. at_push (λ (z : Connection). z.sender ≡ (connection_in connections c).sender) connections c x nobody (λ k e. none ∙ e) refl)
    (λ c s. at_push (λ (z : Connection). speaks_for s z ≡ speaks_for s (connection_in connections c)) connections c x nobody (λ k e. silent s x none ∙ e) refl)
    h

-- a new sender rests, for which none speaks
begun : (senders : List SenderState) (connections : List Connection) → Speak senders connections → Speak (senders ++ new_sender ∷ []) connections
begun senders connections h = record {
  there = λ c s e. let l : s < length senders = h.there c s e in let m = length_push senders new_sender in omega arith;
  own = h.own;
  resting = λ s u. at_push (λ (z : SenderState). Rests z) senders s new_sender new_sender (λ e o. o) (h.resting s u);
}

-- a connection that has no sender speaks for one that is there, for which none spoke
joined : (senders : List SenderState) (connections : List Connection) (c s : ℕ) → s < length senders → c < length connections → is_gone (connection_in connections c).standing ≡ false
    → (connection_in connections c).sender ≡ None → Unspoken connections s → Speak senders connections
    → Speak senders (set connections c (record { sender = Some s; standing = (connection_in connections c).standing }))
joined senders connections c s l room there none free h = record {
  there = λ d r. at_set (λ (z : Connection). z.sender ≡ Some r → r < length senders) connections c d new nobody
      (λ k e. subst (λ n. n < length senders) (some_same s r e) l) (h.there d r);
  own = λ d b r e f. both r d b (whose r d e) (whose r b f);
  resting = λ r u. rest r u (s == r) refl;
}
  where
    new : Connection
    new = record { sender = Some s; standing = (connection_in connections c).standing }

    -- who speaks now is the connection, for s, or spoke before
    whose : (r d : ℕ) → speaks_for r (connection_in (set connections c new) d) ≡ true → ((d ≡ c) × (s ≡ r)) ⊎ (speaks_for r (connection_in connections d) ≡ true)
    whose r d = at_set (λ (z : Connection). speaks_for r z ≡ true → ((d ≡ c) × (s ≡ r)) ⊎ (speaks_for r (connection_in connections d) ≡ true)) connections c d new nobody
        (λ k e. inl (k, some_same s r (spoken_sender r new e))) (λ e. inr e)

    taken : (r d : ℕ) → s ≡ r → speaks_for r (connection_in connections d) ≡ true → Prim.⊥
    taken r d k e = true≢false (sym e ∙ subst (λ n. speaks_for n (connection_in connections d) ≡ false) k (free d))

    both : (r d b : ℕ) → ((d ≡ c) × (s ≡ r)) ⊎ (speaks_for r (connection_in connections d) ≡ true) → ((b ≡ c) × (s ≡ r)) ⊎ (speaks_for r (connection_in connections b) ≡ true) → d ≡ b
    both r d b (inl e) (inl f) = e.0 ∙ sym f.0
    both r d b (inl e) (inr f) = absurd (taken r b e.1 f)
    both r d b (inr e) (inl f) = absurd (taken r d f.1 e)
    both r d b (inr e) (inr f) = h.own d b r e f

    now : speaks_for s (connection_in (set connections c new) c) ≡ true
    now = at_set_within (λ (z : Connection). speaks_for s z ≡ true) connections c c new nobody room (λ k. speaks s new there refl) (λ ne. absurd (ne refl))

    before : (r : ℕ) → Unspoken (set connections c new) r → Unspoken connections r
    before r u d = at_set (λ (z : Connection). speaks_for r z ≡ false → speaks_for r (connection_in connections d) ≡ false) connections c d new nobody
        (λ k e. subst (λ a. speaks_for r (connection_in connections a) ≡ false) (sym k) (silent r (connection_in connections c) none)) (λ e. e) (u d)

    rest : (r : ℕ) → Unspoken (set connections c new) r → (b : Bool) → (s == r) ≡ b → Rests (sender_in senders r)
    rest r u true e = absurd (true≢false (sym now ∙ subst (λ n. speaks_for n (connection_in (set connections c new) c) ≡ false) (sym (eqb-true s r e)) (u c)))
    rest r u false e = h.resting r (before r u)

-- ---- each move

-- each sender of a core is spoken for by one connection at most, and rests where there is none
abbrev pub Speaks : World → Type 0
Speaks w = Speak w.senders w.connections

-- for the number of the next sender none speaks
next_free : (w : World) → Speaks w → Unspoken w.connections (length w.senders)
next_free w h c = not_true (speaks_for (length w.senders) (connection_at w c)) refl
    (λ e. let l : length w.senders < length w.senders = h.there c (length w.senders) (spoken_sender (length w.senders) (connection_at w c) e) in omega arith)

connected : (w : World) (c : ℕ) (claimed : Option ℕ) → move_refusal w (Connects c claimed) ≡ None → Speaks w → Speaks (connect_effect w c claimed)
connected w c claimed n h = by_claim claimed (claim_there w c claimed n) (claim_free w c claimed n)
  where
    room : c < length w.connections
    room = ltb-true c (length w.connections) (not-false _ (checked w (Connects c claimed) n).0)

    none : (connection_at w c).sender ≡ None
    none = none_of (connection_at w c).sender (checked w (Connects c claimed) n).1.1.1.0

    by_claim : (o : Option ℕ) → ((s : ℕ) → o ≡ Some s → s < length w.senders) → ((s : ℕ) → o ≡ Some s → is_in_use w s ≡ false) → Speaks (connect_effect w c o)
    by_claim None there free =
        joined (w.senders ++ new_sender ∷ []) w.connections c (length w.senders) (let m = length_push w.senders new_sender in omega arith) room
        (checked w (Connects c claimed) n).1.0 none (next_free w h) (begun w.senders w.connections h)
    by_claim (Some s) there free = joined w.senders w.connections c s (there s refl) room (checked w (Connects c claimed) n).1.0 none (unspoken w s (free s refl)) h

-- a connection that is there has a sender with a transaction in flight, and speaks for it
pub flying_speaks : (w : World) (c : ℕ) → is_gone (connection_at w c).standing ≡ false → not (is_some (speaker w c).flight) ≡ false → speaks_for (speaker_number w c) (connection_at w c) ≡ true
flying_speaks w c there e = speaks (speaker_number w c) (connection_at w c) there (flying_speaker w c (not-false _ e))

no_leftovers : (ks : List Leftover) → ltb 0 (length ks) ≡ false → ks ≡ []
no_leftovers [] e = refl
no_leftovers (k ∷ ks) e = absurd (true≢false (sym (lt-ltb 0 (length (k ∷ ks)) (omega arith)) ∙ e))

-- each move keeps it
pub effect_speaks : (w : World) (e : Move) → move_refusal w e ≡ None → Speaks w → Speaks (move_effect w e)
effect_speaks w Opens n h = opened w.senders w.connections _ refl h
effect_speaks w (Connects c claimed) n h = connected w c claimed n h
effect_speaks w (Commits c sends) n h =
    let p = checked w (Commits c sends) n in
    by_found (λ v o. Speaks v) w (Commits c sends)
    (h, λ k. sender_kept w.senders w.connections c (speaker_number w c) _ (speaks (speaker_number w c) (connection_at w c) p.1.0 (has_speaker w c (not-false _ p.1.1.1.0))) h)
effect_speaks w (Disconnects c) n h = standing_kept w.senders w.connections c Standing.Leaving refl (checked w (Disconnects c) n).1.0 h
effect_speaks w (Errs c) n h = standing_kept w.senders w.connections c Standing.Leaving refl (checked w (Errs c) n).1.0 h
effect_speaks w (Lost c) n h = standing_kept w.senders w.connections c Standing.Leaving refl (checked w (Lost c) n).1.0 h
effect_speaks w (Leaves c) n h = (elim (oldest_live c 0 w.subscriptions) as (λ (o : Option ℕ). (not (is_some o) && (is_some (speaker w c).flight || ltb 0 (length (speaker w c).leftovers))) ≡ false → Speaks (leave_effect w c o)) [
  | None ↦ λ idle. (let k = or_parts (is_some (speaker w c).flight) (ltb 0 (length (speaker w c).leftovers)) idle in departed w c (none_of (speaker w c).flight k.0, no_leftovers (speaker w c).leftovers k.1) h)
  | Some s ↦ λ idle. found (λ o. Speaks (close_effect_of w s o)) (entry_at w s) h (λ k. h)
]) (checked w (Leaves c) n).1.1.1.0
effect_speaks w (Proposes c t memory) n h =
    let p = checked w (Proposes c t memory) n in let own = flying_speaks w c p.1.0 p.1.1.0 in
    by_found (λ v o. Speaks v) w (Proposes c t memory)
    (sender_kept w.senders w.connections c (speaker_number w c) _ own h, λ fault. sender_kept w.senders w.connections c (speaker_number w c) _ own h)
effect_speaks w (Decides c) n h = let p = checked w (Decides c) n in sender_kept w.senders w.connections c (speaker_number w c) _ (flying_speaks w c p.1.0 p.1.1.0) h
effect_speaks w (Withdraws c) n h =
    let p = checked w (Withdraws c) n in
    standing_kept _ w.connections c Standing.Leaving refl p.1.0 (sender_kept w.senders w.connections c (speaker_number w c) _ (flying_speaks w c p.1.0 p.1.1.0) h)
effect_speaks w (Cancels c t) n h =
    by_found (λ v o. Speaks v) w (Cancels c t) (h, λ k. rest_kept w.senders w.connections (speaker_number w c) _ (λ r. (r.0, ap (drop_leftover t) r.1)) h)
effect_speaks w (Takes s) n h =
    let c = (subscription_at w s).connection in
    let there = reading_there (connection_at w c).standing (not-false _ (or_parts (is_some (subscription_at w s).closed) _ (checked w (Takes s) n).1.0).1) in
    by_found (λ v o. Speaks v) w (Takes s) (standing_kept w.senders w.connections c Standing.Leaving refl there h, λ k. h)
effect_speaks w e n h = by_found (λ v o. Speaks v) w e (h, λ k. h)

-- so it holds after each run
pub speak : (r : Run) → Speaks (final_world r)
speak = by_run (λ past w. Speaks w) (λ capacity log_limit clocks. record {
  there = λ c s e. none_some s e;
  own = λ c d s e. absurd (true≢false (sym e));
  resting = λ s u. (refl, refl);
}) (λ r e h. by_refusal (λ v o. Speaks v) (final_world r) e (λ why. h) (λ n. effect_speaks (final_world r) e n h))

-- ---- the laws

pub senders_are_own : Reported.SendersAreOwn
senders_are_own r c d s e f = let h = speak r in (h.own c d s e f, h.there c s (spoken_sender s (connection_at (final_world r) c) e))

pub resting_are_idle : Reported.RestingAreIdle
resting_are_idle r s e = (speak r).resting s (unspoken (final_world r) s e)

-- whom a connection speaks for it speaks for on
abbrev Keeps : World → List Connection → Type 0
Keeps w connections = (c s : ℕ) → (connection_at w c).sender ≡ Some s → (connection_in connections c).sender ≡ Some s

keeps_standing : (w : World) (c : ℕ) (standing : Standing) → Keeps w (set w.connections c (record { sender = (connection_at w c).sender; standing = standing }))
keeps_standing w c standing d s e = at_set (λ (z : Connection). z.sender ≡ Some s) w.connections c d _ nobody (λ k. subst (λ n. (connection_at w n).sender ≡ Some s) k e) e

effect_keeps : (w : World) (e : Move) → move_refusal w e ≡ None → InEachCase (λ v o. Keeps w v.connections) w e
effect_keeps w Opens n =
    let new : Keeps w (move_effect w Opens).connections = λ c s e. at_push (λ (z : Connection). z.sender ≡ Some s) w.connections c _ nobody (λ k o. none_some s o) e in (new, λ k. new)
effect_keeps w (Connects c claimed) n =
    let new : Keeps w (move_effect w (Connects c claimed)).connections = λ d s e.
    at_set (λ (z : Connection). z.sender ≡ Some s) w.connections c d _ nobody
    (λ k. none_some s (sym (none_of (connection_at w c).sender (checked w (Connects c claimed) n).1.1.1.0) ∙ subst (λ a. (connection_at w a).sender ≡ Some s) k e)) e in
    always new
effect_keeps w (Disconnects c) n = always (keeps_standing w c Standing.Leaving)
effect_keeps w (Errs c) n = always (keeps_standing w c Standing.Leaving)
effect_keeps w (Lost c) n = always (keeps_standing w c Standing.Leaving)
effect_keeps w (Leaves c) n = (keeps_standing w c Standing.Gone, λ q. always (λ c s e. e))
effect_keeps w (Withdraws c) n = always (keeps_standing w c Standing.Leaving)
effect_keeps w (Takes r) n = (keeps_standing w (subscription_at w r).connection Standing.Leaving, λ k c s e. e)
effect_keeps w _ n = always (λ c s e. e)

pub senders_stay : Reported.SendersStay
senders_stay w e = by_refusal (λ v o. Keeps w v.connections) w e (λ why c s k. k) (λ n. by_found (λ v o. Keeps w v.connections) w e (effect_keeps w e n))

-- ---- going on

abbrev GoesOn : World → ℕ → Option ℕ → World → Type 0
GoesOn w c claimed v = ((connection_at v c).sender ≡ Some (unwrap_or claimed (length w.senders))) × (speaker v c ≡ sender_at w (unwrap_or claimed (length w.senders)))

same_after : (w : World) (claimed : Option ℕ) → sender_in (claimed_senders w.senders claimed) (unwrap_or claimed (length w.senders)) ≡ sender_at w (unwrap_or claimed (length w.senders))
same_after w None =
    at_end (λ (z : SenderState). z ≡ sender_at w (length w.senders)) w.senders new_sender new_sender (sym (beyond w.senders (length w.senders) new_sender (omega arith)))
same_after w (Some s) = refl

goes_on : (w : World) (c : ℕ) (claimed : Option ℕ) → move_refusal w (Connects c claimed) ≡ None → GoesOn w c claimed (connect_effect w c claimed)
goes_on w c claimed n = (is, ap (λ (o : Option ℕ). sender_in (claimed_senders w.senders claimed) (unwrap_or o (length (claimed_senders w.senders claimed)))) is ∙ same_after w claimed)
  where
    is : (connection_at (connect_effect w c claimed) c).sender ≡ Some (unwrap_or claimed (length w.senders))
    is = at_set_within (λ (z : Connection). z.sender ≡ Some (unwrap_or claimed (length w.senders))) w.connections c c _ nobody
        (ltb-true c (length w.connections) (not-false _ (checked w (Connects c claimed) n).0)) (λ k. refl) (λ ne. absurd (ne refl))

pub claims_go_on : Reported.ClaimsGoOn
claims_go_on w c claimed = by_refusal (λ v o. o ≡ Done → GoesOn w c claimed v) w (Connects c claimed) (λ why k. cc) (λ n k. goes_on w c claimed n)
