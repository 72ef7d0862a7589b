use Rattle.std.proofs.Common.{◌++◌}
use Rattle.trace_audit.specs.Fields.{field_text, fields_text}
use Rattle.trace_audit.proofs.Printing.{part_more, longer_by}
use Rattle.trace_audit.proofs.text.line_printing.put_fields.Goals as goal

pub loop-field-preserved : goal.loop-field-preserved
loop-field-preserved c = record {
  whole = part_more 32 field_text c.loop-field.out c.next_field.new.out (c.args.out.now ++ fields_text c.args.fields.now) c.loop-field.first c.args.fields.now c.loop-field.field-index _
      c.loop-field-test.true c.in_ok-next_field.ensures.ok c.loop-field.invariant.whole;
  grown = longer_by _ _ _ _ c.loop-field.invariant.grown c.in_ok-next_field.ensures.ok;
}
