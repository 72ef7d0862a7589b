use Rattle.std.proofs.Common.{◌≡◌, ◌∙◌, ◌<◌, ℕ, List, [], ap, length, get_or, slice_get, sym, arith}
use Rattle.std.proofs.lemmas.List.{length-take, take_more_same}
use Rattle.std.proofs.lemmas.Option.{get_or_from_slice_get, slice_get-get_or}
use Rattle.stomp_session.specs.Inner.Stored.{names_in}
use Rattle.stomp_session.proofs.names.Names.is_front_of.Goals as goal

pub loop-index-preserved : goal.loop-index-preserved
loop-index-preserved c =
    let these = c.args.self.now in
    let all = c.args.all.now in
    let at = c.loop-index.index in
    let many : length these ≡ c.self.inside.count = ap (λ (xs : List (List ℕ)). length xs) (sym c.self.view_is) ∙ length-take c.self.inside.count (names_in c.self.inside.shared) ∙ omega (arith, c.self.invariant.0) in
    let more : length all ≡ c.all.inside.count = ap (λ (xs : List (List ℕ)). length xs) (sym c.all.view_is) ∙ length-take c.all.inside.count (names_in c.all.inside.shared) ∙ omega (arith, c.all.invariant.0) in
    let here : at < length these = omega (arith, many, c.loop-index-test.true) in
    let there : at < length all = omega (arith, more, c.loop-index-test.true, c.if-self-all.false) in
    let same : slice_get these at ≡ slice_get all at = c.if-not-is_same_at.ensures.0 search in
    take_more_same all these at [] there here c.loop-index.invariant
    (get_or_from_slice_get all at (get_or these at []) [] (sym same ∙ slice_get-get_or these at [] here))
