use Rattle.std.proofs.Common.{◌≡◌, ◌∙◌, ℕ, List, None, Some, ap, refl, sym, nat_eq, slice_get}
use Rattle.std.specs.Cmp.Lexicographic.{nat_list_eq_equiv}
use Rattle.std.specs.Map.{lookup}
use Rattle.stomp_session.specs.Inner.Stored.{fingerprint, names_of}
use Rattle.stomp_session.proofs.Firsts.{first_found, none_found, position-names_of}
use Rattle.stomp_session.proofs.name_set.NameSet.search.Goals as goal

pub returns-in_err-first : goal.returns-in_err-first
returns-in_err-first c =
    let text = c.args.text.now in
    let entries = c.self.inside.firsts.entries in
    let names = names_of c.self.inside.names.items in
    let none : lookup (nat_eq (fingerprint text)) entries ≡ None = rw (← c.fingerprint.ensures, ← c.get.ensures.value, c.in_err-first.was) refl in
    rw (c.from_residual.ensures, ← c.self.view_is) (sym (none_found text entries names c.self.invariant.0 none))

pub returns-in-Some : goal.returns-in-Some
returns-in-Some c =
    let text = c.args.text.now in
    let entries = c.self.inside.firsts.entries in
    let names = names_of c.self.inside.names.items in
    let at = c.in_ok-first.field-0.now in
    let name = c.in-Some.name.now in
    let found : lookup (nat_eq (fingerprint text)) entries ≡ Some at = rw (← c.fingerprint.ensures, ← c.get.ensures.value, c.in_ok-first.was) refl in
    let is : slice_get names at ≡ Some name = ap (λ (xs : List (List ℕ)). slice_get xs at) c.self.view_is ∙ sym c.in-Some.ensures in
    rw (← c.self.view_is) (sym (first_found text entries names at name c.self.invariant.0 found is (nat_list_eq_equiv.symm text name ∙ sym c.if-eq.ensures)))

pub returns-in_default : goal.returns-in_default
returns-in_default c =
    rw (c.walk.ensures, c.as_slice.ensures.value, ← c.self.view_is) (position-names_of c.args.text.now c.self.inside.names.items)
