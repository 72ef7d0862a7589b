-- Whether a subscription asked for parts, by the frames that were accepted.
use Rattle.std.proofs.Common.{◌≡◌, ℕ, Bool, true, false, cond, not, ◌&&◌, ◌||◌, List, [], ◌∷◌, ◌++◌, Some, None, refl, ap, ◌∙◌, if◌then◌else◌}
use Rattle.std.specs.Cmp.Lexicographic.{nat_list_eq_equiv}
use Rattle.std.specs.List.{list_any}
use Rattle.std.specs.Map.{lookup}
use Rattle.std.specs.Option.{unwrap_or}
use Rattle.std.specs.Str.{bytes_eq}
use Rattle.stomp_frame.specs.declared.raw_frame.RawFrame.{RawFrame}
use Rattle.stomp_session.specs.declared.phase.Phase.TheVariants.{New, Connected, Closed}
use Rattle.stomp_session.specs.Frames.{id_of, is_subscribe, is_unsubscribe, names_subscription, wants_parts}
use Rattle.stomp_session.specs.Open.{AsksAsWanted, asks_parts, held_after, is_connected, is_ended, parts_left, state_of, subscribed_with}
use Rattle.stomp_session.proofs.LeftOpen.{list_any-push}

or_last : (a : Bool) → (a || true) ≡ true
or_last true = refl
or_last false = refl

and_none : (a : Bool) → (a && not true) ≡ false
and_none true = refl
and_none false = refl

-- of the last frame's subscription there is what its SUBSCRIBE says, whatever came before
pub last_subscribed : {X : Type 0} (value : RawFrame → X) (frames : List RawFrame) (f : RawFrame) → is_subscribe f.command ≡ true
    → lookup (bytes_eq (id_of f)) (subscribed_with value (frames ++ f ∷ [])) ≡ Some (value f)
last_subscribed value [] f opens =
    ap (λ b. lookup (bytes_eq (id_of f)) (cond (b && true) ((id_of f, value f) ∷ []) [])) opens
    ∙ ap (λ b. cond b (Some (value f)) None) (nat_list_eq_equiv.refl (id_of f))
last_subscribed value (g ∷ after) f opens = by (bytes_eq (id_of f) (id_of g)) refl (last_subscribed value after f opens)
  where
    stays : Bool
    stays = is_subscribe g.command && not (list_any (names_subscription (id_of g)) (after ++ f ∷ []))

    named : bytes_eq (id_of f) (id_of g) ≡ true → stays ≡ false
    named same =
        let names_it : names_subscription (id_of g) f ≡ true = λ i. (opens i || is_unsubscribe f.command) && same i in
        let later : list_any (names_subscription (id_of g)) (after ++ f ∷ []) ≡ true =
        list_any-push (names_subscription (id_of g)) after f
        ∙ (ap (λ b. list_any (names_subscription (id_of g)) after || b) names_it ∙ or_last (list_any (names_subscription (id_of g)) after)) in
        ap (λ b. is_subscribe g.command && not b) later ∙ and_none (is_subscribe g.command)

    by : (same : Bool) → bytes_eq (id_of f) (id_of g) ≡ same
        → lookup (bytes_eq (id_of f)) (subscribed_with value (after ++ f ∷ [])) ≡ Some (value f)
        → lookup (bytes_eq (id_of f)) (cond stays ((id_of g, value g) ∷ subscribed_with value (after ++ f ∷ [])) (subscribed_with value (after ++ f ∷ []))) ≡ Some (value f)
    by true same rest =
        ap (λ b. lookup (bytes_eq (id_of f)) (cond b ((id_of g, value g) ∷ subscribed_with value (after ++ f ∷ [])) (subscribed_with value (after ++ f ∷ [])))) (named same) ∙ rest
    by false other rest = passed stays
      where
        passed : (b : Bool) → lookup (bytes_eq (id_of f)) (cond b ((id_of g, value g) ∷ subscribed_with value (after ++ f ∷ [])) (subscribed_with value (after ++ f ∷ []))) ≡ Some (value f)
        passed true = ap (λ b. cond b (Some (value g)) (lookup (bytes_eq (id_of f)) (subscribed_with value (after ++ f ∷ [])))) other ∙ rest
        passed false = rest

-- what is held after a SUBSCRIBE says of its subscription what the SUBSCRIBE wants
pub held_asks : (names : List (List ℕ)) (frames : List RawFrame) (f : RawFrame) → is_subscribe f.command ≡ true → is_ended (frames ++ f ∷ []) ≡ false
    → asks_parts (id_of f) (state_of (held_after names (frames ++ f ∷ []))) ≡ wants_parts f
held_asks names frames f opens going =
    ap (λ b. unwrap_or (lookup (bytes_eq (id_of f)) (cond b [] (parts_left (frames ++ f ∷ [])))) false) going
    ∙ ap (λ o. unwrap_or o false) (last_subscribed wants_parts frames f opens)

-- so does a session that stands for it and isn't closed
pub asks_as_wanted : AsksAsWanted
asks_as_wanted s names frames f stands e unclosed =
    ap (asks_parts (id_of f)) stands.holds ∙ held_asks names frames f (ap is_subscribe e) (going (is_ended (frames ++ f ∷ [])) refl)
  where
    going : (b : Bool) → is_ended (frames ++ f ∷ []) ≡ b → is_ended (frames ++ f ∷ []) ≡ false
    going true ended = absurd (unclosed (ap (λ z. z.phase) stands.holds ∙ ap (λ b. if b then Closed else (if is_connected (frames ++ f ∷ []) then Connected else New)) ended))
    going false live = live
