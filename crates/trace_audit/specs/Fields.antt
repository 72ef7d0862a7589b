-- Lines of fields: what each field of a line is written as.
use Rattle.std.specs.Prelude.{ℕ, List, map, decimal}
use Rattle.trace_audit.specs.Text.{spaced_text, id_text, stamp_text, end_text, topics_text}
use Rattle.trace_audit.specs.declared.text.field.Field.{Field}
use Rattle.trace_audit.specs.declared.text.field.Field.TheVariants as field

-- A field as it is written. So stamp 2 of topic 1 is `2.1`, and the end of an open span `-`.
abbrev pub field_text : Field → List ℕ
field_text (field.Word octets) = octets.now
field_text (field.Number n) = decimal n
field_text (field.Topic t) = decimal t.0
field_text (field.Id id) = id_text id
field_text (field.Stamp stamp) = stamp_text stamp
field_text (field.End to) = end_text to
field_text (field.Topics topics) = topics_text topics.now

-- the fields with a space between each two
abbrev pub fields_text : List Field → List ℕ
fields_text fields = spaced_text (map field_text fields)
