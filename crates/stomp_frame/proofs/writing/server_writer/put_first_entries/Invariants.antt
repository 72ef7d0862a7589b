use Rattle.std.proofs.Common.{◌≡◌, ◌++◌, length, take}
use Rattle.stomp_frame.specs.Inner.NameKinds.{HaveKinds}
use Rattle.stomp_frame.specs.Inner.Withheld.{withheld_by}
use Rattle.stomp_frame.specs.Writing.{Extends}
use Rattle.stomp_frame.proofs.ServerSpellings.{due}
use Rattle.stomp_frame.proofs.writing.server_writer.put_first_entries.Given as goal

abbrev pub invariant-loop-i : goal.invariant-loop-i
invariant-loop-i l = record {
  written : l.out ++ due (withheld_by l.parts) l.sent l.i ≡ l.fn.out ++ due (withheld_by l.parts) l.sent 0;
  grown : Extends l.fn.out l.out;
  sized : length l.kinds.among ≡ 128;
  kinds : HaveKinds l.kinds.among (take l.i l.sent);
}
