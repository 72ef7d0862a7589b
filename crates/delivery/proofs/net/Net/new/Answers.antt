use Rattle.std.proofs.Common.{ℕ, List, length, sym, ap, ◌∙◌, arith}
use Rattle.delivery.proofs.Words.All.{TopicList, new_core, view_of}
use Rattle.delivery.proofs.Views.Runs.KeptRuns.{new_kept}
use Rattle.delivery.proofs.net.Net.new.Goals as goal

pub invariant_of-result : goal.invariant_of-result
invariant_of-result c =
    let parts = c.into_parts-names in let topics : TopicList = record { names = parts.result.0; clocks = parts.result.1.items } in
    let is = c.in_ok-state.ensures
    ∙ ap (λ (clocks : List ℕ). view_of (new_core (record { names = parts.result.0; clocks = clocks }) c.args.capacity)) c.deref.ensures.value in
    let many = ap (λ (xs : List ℕ). length xs) parts.ensures.clocks in
    let as_many = many ∙ (parts.ensures.as_many ∙ sym (ap (λ (xs : List (List ℕ)). length xs) parts.ensures.names)) in
    rw (c.new-2.ensures, c.new-3.ensures.items)
    (new_kept topics c.args.capacity c.in_ok-state.state as_many (omega (arith, many, parts.ensures.few)) is).1
