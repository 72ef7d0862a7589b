use Rattle.std.proofs.Common.{◌≡◌, ◌++◌, drop, map}
use Rattle.trace_audit.specs.Fields.{field_text, fields_text}
use Rattle.trace_audit.specs.Inner.Printing.{left_after, IsLonger}
use Rattle.trace_audit.proofs.text.line_printing.put_fields.Given as goal

-- what is written and what is left make all fields
abbrev pub invariant-loop-field : goal.invariant-loop-field
invariant-loop-field l = record {
  whole : l.out ++ left_after 32 l.first (map field_text (drop l.field-index l.fields)) ≡ l.fn.out ++ fields_text l.fn.fields;
  grown : IsLonger l.fn.out l.out;
}
