use Rattle.std.proofs.Common.{◌≡◌, length, reverse}
use Rattle.stomp_session.specs.Versions.{without_front_spaces}
use Rattle.stomp_session.proofs.versions.trimmed_text.Given as goal

abbrev pub invariant-loop-text : goal.invariant-loop-text
invariant-loop-text l = without_front_spaces (reverse l.text) ≡ without_front_spaces (reverse l.initial.text)

abbrev pub decreases-loop-text : goal.decreases-loop-text
decreases-loop-text l = length l.text
