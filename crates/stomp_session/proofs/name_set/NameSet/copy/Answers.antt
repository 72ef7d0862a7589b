use Rattle.std.proofs.Common.{◌≡◌, ◌∙◌, ◌<◌, ◌++◌, ◌∷◌, [], ℕ, List, Some, length, get_or, take, slice_get, ap, sym, arith}
use Rattle.std.proofs.lemmas.List.{take_more}
use Rattle.std.proofs.lemmas.Option.{get_or_from_slice_get, slice_get-get_or}
use Rattle.std.specs.Arc.{arc_value}
use Rattle.stomp_session.specs.Inner.Stored.{names_of}
use Rattle.stomp_session.specs.Names.{is_known}
use Rattle.stomp_session.proofs.Firsts.{length-names_of, name_at, unknown_before}
use Rattle.stomp_session.proofs.name_set.NameSet.copy.Goals as goal

pub add-requires : goal.add-requires
add-requires c =
    let all = c.args.self.now in
    let items = c.self.inside.names.items in
    let at = c.loop-index.index in
    let it = c.index.result.now in
    let there : at < length all = omega (arith, c.loop-index-test.true, c.requires) in
    let within : at < length items = omega (arith, there, ap (λ (xs : List (List ℕ)). length xs) c.self.view_is, length-names_of items) in
    let kept : slice_get items at ≡ Some it = slice_get-get_or items at it within ∙ ap Some (sym c.index.ensures) in
    ap (λ (name : List ℕ). is_known name c.loop-index.copy) c.in_ok-try_clone.ensures
    ∙ ap (λ (names : List (List ℕ)). is_known (arc_value it) names) (c.loop-index.invariant ∙ ap (λ (xs : List (List ℕ)). take at xs) (sym c.self.view_is))
    ∙ unknown_before (names_of items) at (arc_value it) c.self.invariant.1 (name_at items at it kept) (omega (arith, within, length-names_of items))

pub loop-index-preserved : goal.loop-index-preserved
loop-index-preserved c =
    let all = c.args.self.now in
    let items = c.self.inside.names.items in
    let at = c.loop-index.index in
    let it = c.index.result.now in
    let there : at < length all = omega (arith, c.loop-index-test.true, c.requires) in
    let within : at < length items = omega (arith, there, ap (λ (xs : List (List ℕ)). length xs) c.self.view_is, length-names_of items) in
    let kept : slice_get items at ≡ Some it = slice_get-get_or items at it within ∙ ap Some (sym c.index.ensures) in
    let is : slice_get all at ≡ Some (arc_value it) = ap (λ (xs : List (List ℕ)). slice_get xs at) (sym c.self.view_is) ∙ name_at items at it kept in
    let name : arc_value c.in_ok-try_clone.field-0 ≡ get_or all at [] = c.in_ok-try_clone.ensures ∙ sym (get_or_from_slice_get all at (arc_value it) [] is) in
    c.in_ok-add.ensures.ok ∙ ap (λ (xs : List (List ℕ)). xs ++ arc_value c.in_ok-try_clone.field-0 ∷ []) c.loop-index.invariant
    ∙ ap (λ (one : List ℕ). take at all ++ one ∷ []) name ∙ sym (take_more all at [] there)
