use Rattle.stomp_frame.specs.Inner.PartialFrames.{IsUnfound}
use Rattle.stomp_frame.proofs.fast.front_without.front_without.Given as goal

abbrev pub invariant-loop-at : goal.invariant-loop-at
invariant-loop-at l = record {
  one : IsUnfound l.one l.text l.at;
  other : IsUnfound l.other l.text l.at;
}
