use Rattle.std.proofs.Common.{◌≡◌, length}
use Rattle.stomp_session.specs.Versions.{without_front_spaces}
use Rattle.stomp_session.proofs.versions.without_front_spaces.Given as goal

abbrev pub invariant-loop-text : goal.invariant-loop-text
invariant-loop-text l = without_front_spaces l.text ≡ without_front_spaces l.initial.text

abbrev pub decreases-loop-text : goal.decreases-loop-text
decreases-loop-text l = length l.text
