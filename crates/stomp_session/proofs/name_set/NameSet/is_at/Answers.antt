use Rattle.std.proofs.Common.{◌≡◌, ◌∙◌, ℕ, List, Some, ap, arith, slice_get, position, sym}
use Rattle.std.proofs.lemmas.Option.{slice_get-get_or}
use Rattle.std.proofs.lemmas.Slice.Eq.{bytes_eq-Decides}
use Rattle.std.specs.Arc.{arc_value}
use Rattle.std.specs.Str.{bytes_eq}
use Rattle.std.specs.declared.alloc.Global.{Global}
use Rattle.std.specs.declared.sync.Arc.{Arc}
use Rattle.stomp_session.specs.Inner.Stored.{names_of}
use Rattle.stomp_session.proofs.Firsts.{name_at}
use Rattle.stomp_session.proofs.name_set.NameSet.is_at.Goals as goal

pub returns-in-Some : goal.returns-in-Some
returns-in-Some c equal =
    let text = c.args.text.now in
    let at = c.args.at in
    let items = c.self.inside.names.items in
    let it = c.in-Some.name.now in
    let found = c.in-Some.ensures.lookup in
    let kept : slice_get items at ≡ Some it =
    ap (λ (xs : List (Arc (List ℕ) Global)). slice_get xs at) (sym c.deref.ensures.value)
    ∙ slice_get-get_or c.deref.result.now at it (grind (arith, found.0)) ∙ ap Some (sym found.1) in
    let is : slice_get (names_of items) at ≡ Some (arc_value it) = name_at items at it kept in
    let same : arc_value it ≡ text =
    sym (c.octets.ensures ∙ c.deref-in-Some.ensures) ∙ (bytes_eq-Decides c.octets.result.now text).0 (sym c.eq.ensures ∙ equal) in
    rw (← c.self.view_is) (ap (λ (x : List ℕ). position (bytes_eq x) (names_of items)) (sym same) ∙ c.self.invariant.1 at (arc_value it) is)
