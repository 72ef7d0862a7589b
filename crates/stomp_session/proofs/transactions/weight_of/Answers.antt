use Rattle.std.proofs.Common.{◌≡◌, Some, slice_get, sym, ap, ◌∙◌}
use Rattle.std.specs.Map.Iter.{deref_pair}
use Rattle.std.specs.Option.{option_map}
use Rattle.stomp_session.proofs.Weights.{one_more}
use Rattle.stomp_session.proofs.transactions.weight_of.Goals as goal

pub loop-index-preserved : goal.loop-index-preserved
loop-index-preserved c =
    let es = c.args.drafts.now.entries in
    let at : slice_get es c.loop-index.index ≡ Some (c.unwrap-entry.result.0.now, c.unwrap-entry.result.1.now) = sym c.get_index.ensures.entry ∙ ap (option_map deref_pair) c.unwrap-entry.ensures in
    c.saturating_add-sum.ensures ∙ one_more es c.loop-index.index (c.unwrap-entry.result.0.now, c.unwrap-entry.result.1.now) c.loop-index.sum c.weight-more.result at c.loop-index.invariant c.weight-more.ensures
