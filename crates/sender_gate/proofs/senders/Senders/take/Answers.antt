use Rattle.std.proofs.Common.{◌≡◌, ◌∙◌, ap, sym, None, Some, slice_get, map, true, is_some}
use Rattle.std.specs.Map.{values_of}
use Rattle.std.specs.Option.{option_and_then, option_copied_mut}
use Rattle.sender_gate.specs.Inner.Stored.{begun_before, kept_sender_of}
use Rattle.sender_gate.proofs.KeptLemmas.{gate_at, kept_sender_of-set_value_at, numbered_after_write, sender_at, the_senders}
use Rattle.sender_gate.specs.Senders.{KeptSender}
use Rattle.sender_gate.proofs.senders.Senders.take.Goals as goal

pub unwrap-requires-2 : goal.unwrap-requires-2
unwrap-requires-2 c =
    let es = c.self.inside.kept.entries in
    let v = c.unwrap.result.now in
    let at : slice_get (values_of es) c.args.index ≡ Some v = sym c.get_index_mut.ensures.value ∙ ap option_copied_mut c.unwrap.ensures in
    let gate : option_and_then (λ (k : KeptSender). k.gate) (slice_get (map kept_sender_of es) c.args.index) ≡ v.gate = gate_at es c.args.index v at in
    let there : is_some v.gate ≡ true = rw (← gate) (rw (← c.self.view_is) at c.requires) in
    rw c.take.ensures.value there

pub invariant_of-self : goal.invariant_of-self
invariant_of-self c =
    let es = c.self.inside.kept.entries in
    let v = c.unwrap.result.now in
    let at : slice_get (values_of es) c.args.index ≡ Some v = sym c.get_index_mut.ensures.value ∙ ap option_copied_mut c.unwrap.ensures in
    numbered_after_write _ es c.args.index v (record v { gate = c.take.new.self }) at (λ i. v.sender) c.self.invariant

pub returns-clause-gate : goal.returns-clause-gate
returns-clause-gate c =
    let es = c.self.inside.kept.entries in
    let v = c.unwrap.result.now in
    let at : slice_get (values_of es) c.args.index ≡ Some v = sym c.get_index_mut.ensures.value ∙ ap option_copied_mut c.unwrap.ensures in
    rw (← c.self.view_is) (gate_at es c.args.index v at ∙ sym c.take.ensures.value ∙ c.unwrap-2.ensures)

pub returns-clause-after : goal.returns-clause-after
returns-clause-after c =
    let es = c.self.inside.kept.entries in
    let v = c.unwrap.result.now in
    let at : slice_get (values_of es) c.args.index ≡ Some v = sym c.get_index_mut.ensures.value ∙ ap option_copied_mut c.unwrap.ensures in
    rw (← c.self.view_is, c.take.ensures.after)
    (λ k own. ap (the_senders (begun_before c.self.inside.next)) (kept_sender_of-set_value_at es c.args.index k (record v { gate = None }) own (sender_at es c.args.index v k at own)))
