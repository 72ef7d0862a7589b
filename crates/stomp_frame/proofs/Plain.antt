-- Lines of ASCII alone.
use Rattle.std.proofs.Common.{◌≡◌, ℕ, zero, suc, ◌<◌, true, false, ◌==◌, ◌||◌, ◌≤◌, List, [], ◌∷◌, length, get_or, Ok, refl, arith}
use Rattle.std.specs.List.{list_all, list_any}
use Rattle.std.specs.Str.{is_utf8}
use Rattle.std.proofs.lemmas.Bool.{and_parts, le-ltb}
use Rattle.std.proofs.lemmas.Bool.Decides.{nat_tests}
use Rattle.std.proofs.lemmas.Str.{IsUtf8-from_ascii, is_utf8-from_IsUtf8}
use Rattle.stomp_frame.specs.declared.limits.Limits.{Limits}
use Rattle.stomp_frame.specs.Inner.Parser.{is_plain, checked}

below : (b : ℕ) → is_plain b ≡ true → b < 128
below b e = grind (arith, nat_tests)

unbroken : (b : ℕ) → is_plain b ≡ true → (b == 13 || b == 0) ≡ false
unbroken b e = grind (arith, nat_tests)

all_below : (text : List ℕ) → list_all is_plain text ≡ true → (i : ℕ) → get_or text i 0 < 128
all_below [] e i = omega arith
all_below (b ∷ text) e zero = below b (and_parts (is_plain b) (list_all is_plain text) e).0
all_below (b ∷ text) e (suc i) = all_below text (and_parts (is_plain b) (list_all is_plain text) e).1 i

-- where each octet is plain, there is no CR and no NULL
pub plain_unbroken : (text : List ℕ) → list_all is_plain text ≡ true → list_any (λ b. b == 13 || b == 0) text ≡ false
plain_unbroken [] e = refl
plain_unbroken (b ∷ text) e =
    let p = and_parts (is_plain b) (list_all is_plain text) e in
    rw (unbroken b p.0) (plain_unbroken text p.1)

-- where each octet is plain, they are UTF-8
pub plain_utf8 : (text : List ℕ) → list_all is_plain text ≡ true → is_utf8 text ≡ true
plain_utf8 text e = is_utf8-from_IsUtf8 text (IsUtf8-from_ascii text (all_below text e))

-- where each octet is plain, and there are no more than the limit, a line's content passes
pub plain_passes : (limits : Limits) (content : List ℕ) → length content ≤ limits.line → list_all is_plain content ≡ true → checked limits content ≡ Ok content
unfolding checked
plain_passes limits content le e = rw (le-ltb limits.line (length content) le, plain_unbroken content e, plain_utf8 content e) refl
