use Rattle.std.proofs.Common.{inl, inr}
use Rattle.stomp_escape.specs.declared.fault.EscapeFault.TheVariants.{Undefined, Cut}
use Rattle.stomp_frame.proofs.Fields.{field_spelled, field_faulty}
use Rattle.stomp_frame.proofs.reading.parse.parse_field.Goals as goal

pub returns-in-Ok : goal.returns-in-Ok
returns-in-Ok c = field_spelled c.args.escapes c.args.field.now c.in-Ok.octets c.if-not-escapes.false c.in-Ok.ensures.found

pub returns-in-Err-Undefined : goal.returns-in-Err-Undefined
returns-in-Err-Undefined c =
    let fault = rw c.in-Err-Undefined.field-0-is at c.in-Err-Undefined.ensures.fault in
    elim fault [
      | inl none ↦ absurd cc
      | inr first ↦ field_faulty c.args.escapes c.args.field.now (Undefined c.in-Err-Undefined.field-0-0) c.if-not-escapes.false first
    ]

pub returns-in-Err-Cut : goal.returns-in-Err-Cut
returns-in-Err-Cut c =
    let fault = rw c.in-Err-Cut.field-0-is at c.in-Err-Cut.ensures.fault in
    elim fault [
      | inl none ↦ absurd cc
      | inr first ↦ field_faulty c.args.escapes c.args.field.now Cut c.if-not-escapes.false first
    ]
