-- A connection that is opened.
use Rattle.delivery.proofs.Words.All.{◌≡◌, ℕ, zero, suc, ◌+◌, ◌<◌, List, [], ◌∷◌, ◌++◌, length, get_or, inl, inr, refl, sym, ap, ◌∙◌, arith, None, get_or_append_left, unwrap_or, Connection, Standing, nobody, new_sender, connection_at, sender_at, speaker_number, speaks_for, Move, move_effect, Event, Outcome, accepted_of, text_out, Core, unread_at, names_at, each_number, Makes, view_of, stage_view, endpoint_view, with_new_endpoint}
use Rattle.delivery.specs.Inner.View.{new_endpoint}
use Rattle.delivery.proofs.Words.Changes.{each_number-push, each_number-same, open_is_quiet, open_without_is_quiet, same_endpoint, quiet_makes, senders_same}
use Rattle.delivery.proofs.Views.Endpoints.NothingBeforeOpen.{IsUntouched}
use Rattle.delivery.proofs.Machine.SubscriptionSteps.{beyond}
use Rattle.delivery.proofs.Views.Clients.RestingStay.{any_push}

-- beyond the last the default stands, also where it is put at the end
pub get_or-push_default : {X : Type 0} (xs : List X) (d : X) (n : ℕ) → get_or (xs ++ d ∷ []) n d ≡ get_or xs n d
get_or-push_default [] d zero = refl
get_or-push_default [] d (suc n) = refl
get_or-push_default (x ∷ xs) d zero = refl
get_or-push_default (x ∷ xs) d (suc n) = get_or-push_default xs d n

pub get_or-push_last : {X : Type 0} (xs : List X) (x d : X) (n : ℕ) → n ≡ length xs → get_or (xs ++ x ∷ []) n d ≡ x
get_or-push_last [] x d zero e = refl
get_or-push_last [] x d (suc n) e = absurd (omega (arith, e))
get_or-push_last (y ∷ xs) x d zero e = absurd (omega (arith, e))
get_or-push_last (y ∷ xs) x d (suc n) e = get_or-push_last xs x d n (omega (arith, e))

-- without memory nothing changes
pub open_without : (k : Core) → Makes k Event.Open Outcome.NoMemory (view_of k)
open_without k = quiet_makes k Event.Open Outcome.NoMemory k.world (open_without_is_quiet k.names k.steps) refl (inr (inl refl)) refl refl

-- the values of one more member, where those before it stay
pub pushed : {X Y : Type 0} (f g : ℕ → Y) (xs : List X) (x : X) (y : Y) → ((n : ℕ) → n < length xs → f n ≡ g n) → g (length xs) ≡ y
    → each_number f 0 xs ++ y ∷ [] ≡ each_number g 0 (xs ++ x ∷ [])
pushed {Y = Y} f g xs x y same last =
    let e : 0 + length xs ≡ length xs = omega arith in
    ap (λ (zs : List Y). zs ++ y ∷ []) (each_number-same f g 0 xs (λ n low high. same n (omega (arith, high))))
    ∙ (ap (λ (z : Y). each_number g 0 xs ++ z ∷ []) (sym (ap g e ∙ last))
    ∙ sym (each_number-push g 0 xs x))

-- a connection is opened, which speaks for no sender yet
pub open_makes : (k : Core) → IsUntouched k (length k.world.connections) → Makes k Event.Open (Outcome.Opened (length k.world.connections)) (with_new_endpoint (view_of k))
open_makes k nothing =
    let w = k.world in let c = length w.connections in let x : Connection = record { sender = None; standing = Standing.Open } in let new = move_effect w Move.Opens in
    let there : connection_at new c ≡ x = get_or-push_last w.connections x nobody c refl in
    let f = λ (n : ℕ). endpoint_view (names_at k) w n (accepted_of n k.steps) (unread_at n k.steps) (text_out k.names n k.steps) in
    let g = λ (n : ℕ). endpoint_view (names_at k) new n (accepted_of n k.steps) (unread_at n k.steps) (text_out k.names n k.steps) in
    let same : (n : ℕ) → n < length w.connections → f n ≡ g n = λ n h.
    same_endpoint (names_at k) w new n (accepted_of n k.steps) (unread_at n k.steps) (text_out k.names n k.steps) (sym (get_or_append_left w.connections (x ∷ []) nobody n h)) refl refl in
    let speaks : sender_at new (speaker_number new c) ≡ new_sender =
    ap (λ (z : Connection). sender_at w (unwrap_or z.sender (length w.senders))) there ∙ beyond w.senders (length w.senders) new_sender (omega arith) in
    let endpoint : g c ≡ new_endpoint = λ i. record {
      sender = (there i).sender;
      stage = stage_view (names_at k) (there i).standing (speaks i).flight (nothing.accepted i) (nothing.unread i);
      live = nothing.live i;
      output = nothing.text i;
    } in
    let endpoints : (view_of k).endpoints ++ new_endpoint ∷ [] ≡ each_number g 0 new.connections = pushed f g w.connections x new_endpoint same endpoint in
    let senders = senders_same w new (λ s. any_push (speaks_for s) w.connections x refl) (λ s. refl) in
    quiet_makes k Event.Open (Outcome.Opened c) new (open_is_quiet k.names c k.steps) refl (inl refl) refl
    (λ i. record (view_of k) { senders = senders i; endpoints = endpoints i })
