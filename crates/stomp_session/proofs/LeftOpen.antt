-- What frames of one kind open, by their ids, and what one more frame at the end changes.
use Rattle.std.proofs.Common.{◌≡◌, ℕ, Bool, true, false, cond, not, ◌&&◌, ◌||◌, List, [], ◌∷◌, ◌++◌, refl, sym, ap, ◌∙◌, if◌then◌else◌}
use Rattle.std.proofs.lemmas.List.Folds.{list_any-append}
use Rattle.std.specs.Cmp.Lexicographic.{nat_list_eq_equiv}
use Rattle.std.specs.List.{list_any}
use Rattle.std.specs.Str.{bytes_eq}
use Rattle.stomp_frame.specs.declared.raw_frame.RawFrame.{RawFrame}
use Rattle.mcast_txn.specs.declared.draft.sent_message.SentMessage.{SentMessage}
use Rattle.stomp_session.specs.Refusals.{is_open}
use Rattle.stomp_session.specs.Inner.Effects.{entries_without, with_send}
use Rattle.std.proofs.lemmas.Bool.{or_parts, and_parts, not-true}

or_none : (a : Bool) → (a || false) ≡ a
or_none true = refl
or_none false = refl

and_all : (a : Bool) → (a && true) ≡ a
and_all true = refl
and_all false = refl

and_none : (a : Bool) → (a && false) ≡ false
and_none true = refl
and_none false = refl

and_not_or : (a b c : Bool) → (a && not (b || c)) ≡ ((a && not b) && not c)
and_not_or true true c = refl
and_not_or true false c = refl
and_not_or false b c = refl

-- a frame passes after a push if one did before, or the new one does
pub list_any-push : (p : RawFrame → Bool) (frames : List RawFrame) (f : RawFrame) → list_any p (frames ++ f ∷ []) ≡ (list_any p frames || p f)
list_any-push p frames f = list_any-append p frames (f ∷ []) ∙ ap (λ b. list_any p frames || b) (or_none (p f))

-- without an id that isn't open the entries stay
pub entries_without-shut : {X : Type 0} (id : List ℕ) (them : List (List ℕ × X)) → is_open id them ≡ false → entries_without id them ≡ them
entries_without-shut id [] shut = refl
entries_without-shut id (o ∷ them) shut =
    let here : bytes_eq id o.0 ≡ false = (or_parts (bytes_eq id o.0) (is_open id them) shut).0 in
    rw here (ap (λ rest. o ∷ rest) (entries_without-shut id them (or_parts (bytes_eq id o.0) (is_open id them) shut).1))

-- a SEND in a transaction that isn't open changes nothing
pub with_send-shut : (x : List ℕ) (send : SentMessage) (them : List (List ℕ × List SentMessage)) → is_open x them ≡ false → with_send x send them ≡ them
with_send-shut x send [] shut = refl
with_send-shut x send (o ∷ them) shut =
    let here : bytes_eq x o.0 ≡ false = (or_parts (bytes_eq x o.0) (is_open x them) shut).0 in
    rw here (ap (λ rest. o ∷ rest) (with_send-shut x send them (or_parts (bytes_eq x o.0) (is_open x them) shut).1))

module _ {X : Type 0} (opens : RawFrame → Bool) (names_it : List ℕ → RawFrame → Bool) (id : RawFrame → List ℕ) (value : RawFrame → List RawFrame → X) where
  -- g opens one that no later frame names
  abbrev pub stays : RawFrame → List RawFrame → Bool
  stays g after = opens g && not (list_any (names_it (id g)) after)

  -- what these frames opened
  abbrev pub opened : List RawFrame → List (List ℕ × X)
  opened [] = []
  opened (g ∷ after) = if stays g after then (id g, value g after) ∷ opened after else opened after

  stays-push : (g : RawFrame) (after : List RawFrame) (f : RawFrame) → stays g (after ++ f ∷ []) ≡ (stays g after && not (names_it (id g) f))
  stays-push g after f = ap (λ b. opens g && not b) (list_any-push (names_it (id g)) after f) ∙ and_not_or (opens g) (list_any (names_it (id g)) after) (names_it (id g) f)

  -- one that no frame names isn't open
  pub is_open-unnamed : ((x : List ℕ) (g : RawFrame) → opens g ≡ true → names_it x g ≡ bytes_eq (id g) x)
      → (x : List ℕ) (frames : List RawFrame) → list_any (names_it x) frames ≡ false → is_open x (opened frames) ≡ false
  is_open-unnamed by_id x [] unnamed = refl
  is_open-unnamed by_id x (g ∷ after) unnamed = by (stays g after) refl (is_open-unnamed by_id x after (or_parts (names_it x g) (list_any (names_it x) after) unnamed).1)
    where
      by : (b : Bool) → stays g after ≡ b → is_open x (opened after) ≡ false → is_open x (if b then (id g, value g after) ∷ opened after else opened after) ≡ false
      by true there rest =
          let other : bytes_eq x (id g) ≡ false = nat_list_eq_equiv.symm x (id g) ∙ sym (by_id x g (and_parts (opens g) (not (list_any (names_it (id g)) after)) there).0) ∙ (or_parts (names_it x g) (list_any (names_it x) after) unnamed).0 in
          rw other rest
      by false there rest = rest

  module _ (f : RawFrame) where
    -- a frame that names none
    pub opened-quiet : opens f ≡ false → ((x : List ℕ) → names_it x f ≡ false) → ((g : RawFrame) (after : List RawFrame) → value g (after ++ f ∷ []) ≡ value g after)
        → (frames : List RawFrame) → opened (frames ++ f ∷ []) ≡ opened frames
    opened-quiet opens_none names_none same [] = rw opens_none
    opened-quiet opens_none names_none same (g ∷ after) =
        let kept : stays g (after ++ f ∷ []) ≡ stays g after = stays-push g after f ∙ ap (λ b. stays g after && not b) (names_none (id g)) ∙ and_all (stays g after) in
        let rest : opened (after ++ f ∷ []) ≡ opened after = opened-quiet opens_none names_none same after in
        λ i. cond (kept i) ((id g, same g after i) ∷ rest i) (rest i)

    -- a frame that opens one that isn't open
    pub opened-open : opens f ≡ true → ((x : List ℕ) → names_it x f ≡ bytes_eq (id f) x) → ((g : RawFrame) (after : List RawFrame) → value g (after ++ f ∷ []) ≡ value g after)
        → (frames : List RawFrame) → is_open (id f) (opened frames) ≡ false → opened (frames ++ f ∷ []) ≡ opened frames ++ (id f, value f []) ∷ []
    opened-open opens_it by_id same [] shut = rw opens_it
    opened-open opens_it by_id same (g ∷ after) shut = by (stays g after) refl shut (opened-open opens_it by_id same after)
      where
        by : (b : Bool) → stays g after ≡ b → is_open (id f) (if b then (id g, value g after) ∷ opened after else opened after) ≡ false
            → (is_open (id f) (opened after) ≡ false → opened (after ++ f ∷ []) ≡ opened after ++ (id f, value f []) ∷ [])
            → opened (g ∷ after ++ f ∷ []) ≡ (if b then (id g, value g after) ∷ opened after else opened after) ++ (id f, value f []) ∷ []
        by true there shut rest =
            let other : names_it (id g) f ≡ false = by_id (id g) ∙ (or_parts (bytes_eq (id f) (id g)) (is_open (id f) (opened after)) shut).0 in
            let kept : stays g (after ++ f ∷ []) ≡ true = stays-push g after f ∙ ap (λ b. stays g after && not b) other ∙ and_all (stays g after) ∙ there in
            let tail : opened (after ++ f ∷ []) ≡ opened after ++ (id f, value f []) ∷ [] = rest (or_parts (bytes_eq (id f) (id g)) (is_open (id f) (opened after)) shut).1 in
            λ i. cond (kept i) ((id g, same g after i) ∷ tail i) (tail i)
        by false there shut rest =
            let gone : stays g (after ++ f ∷ []) ≡ false = stays-push g after f ∙ ap (λ b. b && not (names_it (id g) f)) there in
            rw gone (rest shut)

    -- a frame that closes one
    pub opened-close : ((x : List ℕ) (g : RawFrame) → opens g ≡ true → names_it x g ≡ bytes_eq (id g) x)
        → opens f ≡ false → ((x : List ℕ) → names_it x f ≡ bytes_eq (id f) x) → ((g : RawFrame) (after : List RawFrame) → value g (after ++ f ∷ []) ≡ value g after)
        → (frames : List RawFrame) → opened (frames ++ f ∷ []) ≡ entries_without (id f) (opened frames)
    opened-close all_by_id opens_none by_id same [] = rw opens_none
    opened-close all_by_id opens_none by_id same (g ∷ after) = by (stays g after) refl (bytes_eq (id f) (id g)) refl (opened-close all_by_id opens_none by_id same after)
      where
        by : (b : Bool) → stays g after ≡ b → (t : Bool) → bytes_eq (id f) (id g) ≡ t
            → opened (after ++ f ∷ []) ≡ entries_without (id f) (opened after)
            → opened (g ∷ after ++ f ∷ []) ≡ entries_without (id f) (if b then (id g, value g after) ∷ opened after else opened after)
        by true there true same_id rest =
            let gone : stays g (after ++ f ∷ []) ≡ false = stays-push g after f ∙ ap (λ b. stays g after && not b) (by_id (id g) ∙ same_id) ∙ and_none (stays g after) in
            let unnamed : list_any (names_it (id g)) after ≡ false = not-true _ (and_parts (opens g) (not (list_any (names_it (id g)) after)) there).1 in
            let shut_g : is_open (id g) (opened after) ≡ false = is_open-unnamed all_by_id (id g) after unnamed in
            let shut : is_open (id f) (opened after) ≡ false = ap (λ test. list_any test (opened after)) (λ i o. nat_list_eq_equiv.congr (id f) (id g) o.0 same_id i) ∙ shut_g in
            rw (gone, same_id) (rest ∙ entries_without-shut (id f) (opened after) shut)
        by true there false other_id rest =
            let kept : stays g (after ++ f ∷ []) ≡ true = stays-push g after f ∙ ap (λ b. stays g after && not b) (by_id (id g) ∙ other_id) ∙ and_all (stays g after) ∙ there in
            rw (kept, other_id) (λ i. (id g, same g after i) ∷ rest i)
        by false there t which rest =
            let gone : stays g (after ++ f ∷ []) ≡ false = stays-push g after f ∙ ap (λ b. b && not (names_it (id g) f)) there in
            rw gone rest

module _ (opens : RawFrame → Bool) (names_it : List ℕ → RawFrame → Bool) (id : RawFrame → List ℕ) (value : RawFrame → List RawFrame → List SentMessage) (f : RawFrame) (x : List ℕ) (send : SentMessage) where
  -- a frame that is a SEND in one
  pub opened-send : ((x : List ℕ) (g : RawFrame) → opens g ≡ true → names_it x g ≡ bytes_eq (id g) x)
      → opens f ≡ false → ((x : List ℕ) → names_it x f ≡ false)
      → ((g : RawFrame) (after : List RawFrame) → value g (after ++ f ∷ []) ≡ (if bytes_eq x (id g) then value g after ++ send ∷ [] else value g after))
      → (frames : List RawFrame) → opened opens names_it id value (frames ++ f ∷ []) ≡ with_send x send (opened opens names_it id value frames)
  opened-send all_by_id opens_none names_none adds [] = rw opens_none
  opened-send all_by_id opens_none names_none adds (g ∷ after) = by (stays opens names_it id value g after) refl (bytes_eq x (id g)) refl (opened-send all_by_id opens_none names_none adds after)
    where
      by : (b : Bool) → stays opens names_it id value g after ≡ b → (t : Bool) → bytes_eq x (id g) ≡ t
          → opened opens names_it id value (after ++ f ∷ []) ≡ with_send x send (opened opens names_it id value after)
          → opened opens names_it id value (g ∷ after ++ f ∷ []) ≡ with_send x send (if b then (id g, value g after) ∷ opened opens names_it id value after else opened opens names_it id value after)
      by true there true same_id rest =
          let kept : stays opens names_it id value g (after ++ f ∷ []) ≡ true = stays-push opens names_it id value g after f ∙ ap (λ b. stays opens names_it id value g after && not b) (names_none (id g)) ∙ and_all (stays opens names_it id value g after) ∙ there in
          let unnamed : list_any (names_it (id g)) after ≡ false = not-true _ (and_parts (opens g) (not (list_any (names_it (id g)) after)) there).1 in
          let shut_g : is_open (id g) (opened opens names_it id value after) ≡ false = is_open-unnamed opens names_it id value all_by_id (id g) after unnamed in
          let shut : is_open x (opened opens names_it id value after) ≡ false = ap (λ test. list_any test (opened opens names_it id value after)) (λ i o. nat_list_eq_equiv.congr x (id g) o.0 same_id i) ∙ shut_g in
          let now : value g (after ++ f ∷ []) ≡ value g after ++ send ∷ [] = adds g after ∙ ap (λ t. if t then value g after ++ send ∷ [] else value g after) same_id in
          let tail : opened opens names_it id value (after ++ f ∷ []) ≡ opened opens names_it id value after = rest ∙ with_send-shut x send (opened opens names_it id value after) shut in
          rw (kept, same_id) (λ i. (id g, now i) ∷ tail i)
      by true there false other_id rest =
          let kept : stays opens names_it id value g (after ++ f ∷ []) ≡ true = stays-push opens names_it id value g after f ∙ ap (λ b. stays opens names_it id value g after && not b) (names_none (id g)) ∙ and_all (stays opens names_it id value g after) ∙ there in
          let now : value g (after ++ f ∷ []) ≡ value g after = adds g after ∙ ap (λ t. if t then value g after ++ send ∷ [] else value g after) other_id in
          rw (kept, other_id) (λ i. (id g, now i) ∷ rest i)
      by false there t which rest =
          let gone : stays opens names_it id value g (after ++ f ∷ []) ≡ false = stays-push opens names_it id value g after f ∙ ap (λ b. b && not (names_it (id g) f)) there in
          rw gone rest
