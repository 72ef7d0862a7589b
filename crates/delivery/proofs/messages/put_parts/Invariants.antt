use Rattle.delivery.proofs.Words.All.{◌≡◌, ◌++◌, length, take, enumerate_from}
use Rattle.delivery.proofs.Views.Lists.TextOfMessages.{placed_of, text_of}
use Rattle.delivery.proofs.messages.put_parts.Given as goal

abbrev pub invariant-loop-i : goal.invariant-loop-i
invariant-loop-i l = record { written : l.out ≡ l.fn.out ++ text_of (placed_of (length l.fn.item.sends) l.fn.id l.fn.item.stamp) (take l.i (enumerate_from 1 l.fn.item.sends)) }
