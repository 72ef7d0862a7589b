use Rattle.std.proofs.Common.{◌≡◌, ◌++◌, length}
use Rattle.std.specs.Option.{option_map}
use Rattle.trace_audit.specs.Inner.Reading.{topics_from, text_parts}
use Rattle.trace_audit.proofs.text.field_reading.topics.Given as goal

-- the topics so far and those of what is left are those of all
abbrev pub invariant-loop-word : goal.invariant-loop-word
invariant-loop-word l = option_map (λ ts. l.topics.items ++ ts) (topics_from (text_parts 44 l.rest)) ≡ topics_from (text_parts 44 l.fn.text)

abbrev pub decreases-loop-word : goal.decreases-loop-word
decreases-loop-word l = length l.rest
