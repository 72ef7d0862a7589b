-- Moves that begin and end no subscription, but for the steps of a leaving: of a connection that is still open they
-- change none.
use Rattle.delivery.proofs.Words.All.{◌≡◌, ◌≢◌, ℕ, zero, suc, ◌+◌, ◌<◌, ◌≤◌, ◌==◌, true, false, cond, not, ◌&&◌, List, [], ◌∷◌, length, get_or, set, Option, Some, None, refl, sym, ap, subst, ◌∙◌, arith, ltb, ltb-true, false≢true, not-false, is_some, Item, Entry, at_set, World, Subscription, no_subscription, subscription_at, entry_at, Move, world_after, move_refusal, move_effect, is_live, oldest_live, take_effect, leave_effect, close_effect_of, run, Subscribes, Unsubscribes, Leaves, Takes, live_numbers}
use Rattle.delivery.proofs.Words.Steps.{set_length, by_refusal, checked, by_found, is_oldest}
use Rattle.delivery.proofs.Core.Speaking.{open_in}
use Rattle.delivery.proofs.Views.Subscriptions.ClosedIsDropped.{live_of_others, live_owned}
use Rattle.delivery.proofs.Views.Endpoints.StandingOfConnection.{stays_shut}

-- the move is no SUBSCRIBE's and no UNSUBSCRIBE's
abbrev pub IsPlain : Move → Type 0
IsPlain (Subscribes c t) = Prim.⊥
IsPlain (Unsubscribes c s) = Prim.⊥
IsPlain m = Unit {0}

-- none of these is
abbrev pub ArePlain : List Move → Type 0
ArePlain [] = Unit {0}
ArePlain (m ∷ ms) = IsPlain m × ArePlain ms

-- the live subscriptions of connection c stay, and the topics of all that there are
pub record Keeps (w v : World) (c : ℕ) : Type 0 where
  pub live : live_numbers c 0 v.subscriptions ≡ live_numbers c 0 w.subscriptions
  pub topics : (s : ℕ) → s < length w.subscriptions → (subscription_at v s).topic ≡ (subscription_at w s).topic
  pub many : length w.subscriptions ≤ length v.subscriptions

-- where subscriptions stay
pub kept : (w v : World) (c : ℕ) → v.subscriptions ≡ w.subscriptions → Keeps w v c
kept w v c e =
    let m = ap (λ (xs : List Subscription). length xs) e in
    record { live = ap (live_numbers c 0) e; topics = λ s l. ap (λ (xs : List Subscription). (get_or xs s no_subscription).topic) e; many = omega (arith, m) }

-- where one is another of the same topic
pub kept_but : (w v : World) (c s : ℕ) (x : Subscription) → v.subscriptions ≡ set w.subscriptions s x → x.topic ≡ (subscription_at w s).topic
    → live_numbers c 0 (set w.subscriptions s x) ≡ live_numbers c 0 w.subscriptions → Keeps w v c
kept_but w v c s x e topic live =
    let m = ap (λ (xs : List Subscription). length xs) e ∙ set_length w.subscriptions s x in
    record {
      live = ap (live_numbers c 0) e ∙ live;
      topics = λ n l. ap (λ (xs : List Subscription). (get_or xs n no_subscription).topic) e
          ∙ at_set (λ (z : Subscription). z.topic ≡ (subscription_at w n).topic) w.subscriptions s n x no_subscription
          (λ same. topic ∙ sym (ap (λ (m : ℕ). (subscription_at w m).topic) same)) refl;
      many = omega (arith, m);
    }

-- one that is as live as it was
live_alike : (c i j : ℕ) (xs : List Subscription) (x : Subscription) → x.connection ≡ (get_or xs j no_subscription).connection → x.closed ≡ (get_or xs j no_subscription).closed
    → live_numbers c i (set xs j x) ≡ live_numbers c i xs
live_alike c i j [] x own closed = refl
live_alike c i zero (y ∷ ys) x own closed = λ k. cond ((own k == c) && not (is_some (closed k))) (i ∷ live_numbers c (i + 1) ys) (live_numbers c (i + 1) ys)
live_alike c i (suc j) (y ∷ ys) x own closed = ap (λ (ns : List ℕ). cond (is_live c y) (i ∷ ns) ns) (live_alike c (i + 1) j ys x own closed)

-- ---- each move

taken : (w : World) (c s : ℕ) (o : Option Item) → Keeps w (take_effect w s o) c
taken w c s None = kept w (take_effect w s None) c refl
taken w c s (Some item) = kept_but w (take_effect w s (Some item)) c s _ refl refl (live_alike c 0 s w.subscriptions _ refl refl)

-- another connection's subscription is closed
closed : (w : World) (c d s : ℕ) (o : Option Entry) → is_live d (subscription_at w s) ≡ true → d ≢ c → Keeps w (close_effect_of w s o) c
closed w c d s None live apart = kept w w c refl
closed w c d s (Some e) live apart =
    kept_but w (close_effect_of w s (Some e)) c s _ refl refl
    (live_of_others c 0 s w.subscriptions _ refl (λ same. apart (sym (live_owned d (subscription_at w s) live) ∙ same)))

-- the connection isn't one that is there and isn't open
abbrev pub IsNotShut : World → ℕ → Type 0
IsNotShut w c = c < length w.connections → open_in w.connections c ≡ false → Prim.⊥

happens : (w : World) (m : Move) (c : ℕ) → IsPlain m → IsNotShut w c → move_refusal w m ≡ None → Keeps w (move_effect w m) c
happens w (Subscribes d t) c plain shut n = absurd plain
happens w (Unsubscribes d s) c plain shut n = absurd plain
happens w (Leaves d) c plain shut n =
    let k = checked w (Leaves d) n in
    (elim (oldest_live d 0 w.subscriptions) as (λ (o : Option ℕ). oldest_live d 0 w.subscriptions ≡ o → Keeps w (leave_effect w d o) c) [
      | None ↦ λ e. kept w (leave_effect w d None) c refl
      | Some s ↦ λ e. closed w c d s (entry_at w s) (is_oldest w d s e).live (λ same. shut (subst (λ m. m < length w.connections) same (ltb-true d (length w.connections) (not-false (ltb d (length w.connections)) k.0))) (subst (λ m. open_in w.connections m ≡ false) same k.1.1.0))
    ]) refl
happens w (Takes s) c plain shut n = taken w c s _
happens w m c plain shut n = kept w (move_effect w m) c (by_found (λ v o. v.subscriptions ≡ w.subscriptions) w m (refl, λ k. refl))

move_keeps : (w : World) (m : Move) (c : ℕ) → IsPlain m → IsNotShut w c → Keeps w (world_after w m) c
move_keeps w m c plain shut = by_refusal (λ v o. Keeps w v c) w m (λ why. kept w w c refl) (λ n. happens w m c plain shut n)

-- ---- a run

then : (u v w : World) (c : ℕ) → Keeps u v c → Keeps v w c → Keeps u w c
then u v w c h k =
    let a = h.many in let b = k.many in record { live = k.live ∙ h.live; topics = λ s l. k.topics s (omega (arith, a, l)) ∙ h.topics s l; many = omega (arith, a, b) }

-- of a connection that is open after such moves they change no subscription
pub run_keeps : (ms : List Move) (w : World) (c : ℕ) → ArePlain ms → open_in (run ms w).connections c ≡ true → Keeps w (run ms w) c
run_keeps [] w c plain reading = kept w w c refl
run_keeps (m ∷ ms) w c plain reading =
    then w (world_after w m) (run ms (world_after w m)) c
    (move_keeps w m c plain.0 (λ l e. false≢true (sym (stays_shut (m ∷ ms) w c l e) ∙ reading)))
    (run_keeps ms (world_after w m) c plain.1 reading)
