use Rattle.std.proofs.Common.{◌≡◌, ◌∙◌, ap, sym, refl, Some, Ok, Err, slice_get, rules}
use Rattle.std.proofs.lemmas.List.Sorted.{answers_always}
use Rattle.std.specs.Map.{values_of}
use Rattle.std.specs.Option.{option_copied_mut}
use Rattle.mcast_txn.proofs.Rising.{none_in_gap, searched}
use Rattle.sender_gate.specs.Inner.Stored.{begun_before, entry_number}
use Rattle.sender_gate.proofs.KeptLemmas.{given, none_given, number_at, numbered_after_write, one_given, the_senders}
use Rattle.sender_gate.proofs.senders.Senders.give_back.Goals as goal

pub invariant_of-self : goal.invariant_of-self
invariant_of-self c =
    let es = c.self.inside.kept.entries in
    let v = c.unwrap-kept.result.now in
    let at : slice_get (values_of es) c.in-Ok.index ≡ Some v = sym c.get_index_mut.ensures.value ∙ ap option_copied_mut c.unwrap-kept.ensures in
    numbered_after_write _ es c.in-Ok.index v _ at (λ i. v.sender) c.self.invariant

pub invariant_of-self-else-is_none : goal.invariant_of-self-else-is_none
invariant_of-self-else-is_none c =
    let es = c.self.inside.kept.entries in
    let v = c.unwrap-kept.result.now in
    let at : slice_get (values_of es) c.in-Ok.index ≡ Some v = sym c.get_index_mut.ensures.value ∙ ap option_copied_mut c.unwrap-kept.ensures in
    numbered_after_write _ es c.in-Ok.index v v at (λ i. v.sender) c.self.invariant

pub returns-then-is_none : goal.returns-then-is_none
returns-then-is_none c =
    let es = c.self.inside.kept.entries in
    let v = c.unwrap-kept.result.now in
    let at : slice_get (values_of es) c.in-Ok.index ≡ Some v = sym c.get_index_mut.ensures.value ∙ ap option_copied_mut c.unwrap-kept.ensures in
    let finds = searched entry_number es c.sender-number.result.0 (Ok c.in-Ok.index) c.self.invariant.rise c.in-Ok.ensures.bound (c.in-Ok.ensures.position entry_number (answers_always _ _ _ (λ f a r g called. search rules))) in
    let own : v.sender.0 ≡ c.args.gate.sender.0 = number_at es c.in-Ok.index v c.sender-number.result.0 at finds.found.has_key ∙ ap (λ s. s.0) c.sender-number.ensures in
    let with_gate : given c.args.gate v ≡ record v { gate = Some c.args.gate } = rw c.if-is_none.ensures refl in
    rw (← c.self.view_is, ← with_gate) (ap (the_senders (begun_before c.self.inside.next)) (sym (one_given c.args.gate es c.in-Ok.index v c.self.invariant.rise at own)))

pub returns-else-is_none : goal.returns-else-is_none
returns-else-is_none c =
    let es = c.self.inside.kept.entries in
    let v = c.unwrap-kept.result.now in
    let at : slice_get (values_of es) c.in-Ok.index ≡ Some v = sym c.get_index_mut.ensures.value ∙ ap option_copied_mut c.unwrap-kept.ensures in
    let finds = searched entry_number es c.sender-number.result.0 (Ok c.in-Ok.index) c.self.invariant.rise c.in-Ok.ensures.bound (c.in-Ok.ensures.position entry_number (answers_always _ _ _ (λ f a r g called. search rules))) in
    let own : v.sender.0 ≡ c.args.gate.sender.0 = number_at es c.in-Ok.index v c.sender-number.result.0 at finds.found.has_key ∙ ap (λ s. s.0) c.sender-number.ensures in
    let without : given c.args.gate v ≡ v = rw c.if-is_none.ensures refl in
    rw (← c.self.view_is) (ap (the_senders (begun_before c.self.inside.next)) (sym (rw without at (one_given c.args.gate es c.in-Ok.index v c.self.invariant.rise at own))))

pub returns-in_default : goal.returns-in_default
returns-in_default c =
    let es = c.self.inside.kept.entries in
    let finds = searched entry_number es c.sender-number.result.0 (Err c.in_default.field-0) c.self.invariant.rise c.in_default.ensures.bound (c.in_default.ensures.position entry_number (answers_always _ _ _ (λ f a r g called. search rules))) in
    rw (← c.self.view_is) (ap (the_senders (begun_before c.self.inside.next)) (sym (none_given c.args.gate es (rw (← c.sender-number.ensures) (none_in_gap entry_number es c.sender-number.result.0 c.in_default.field-0 finds.absent)))))
