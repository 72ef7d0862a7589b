use Rattle.std.proofs.Common.{◌≡◌, ◌++◌, take}
use Rattle.delivery.proofs.Views.Lists.TextOfMessages.{message_of, text_of}
use Rattle.delivery.proofs.messages.put_messages.Given as goal

abbrev pub invariant-loop-i : goal.invariant-loop-i
invariant-loop-i l = record { written : l.out ≡ l.fn.out ++ text_of (message_of l.fn.id l.fn.item.stamp) (take l.i l.fn.item.sends) }
