-- How much memory a connection holds, and when it is refused more (own).
use Rattle.std.specs.Prelude.{◌≡◌, ◌⊎◌, ℕ, ◌+◌, ◌-◌, ◌*◌, nat_lt, nat_le, Bool, ◌&&◌, ◌||◌, List, [], length, Option, Some, None, IsSome}
use Rattle.mcast_txn.specs.Transaction.{weight}
use Rattle.stomp_session.specs.Open.{open_weight}
use Rattle.broker_server.specs.declared.conversation.conversation_fault.ConversationFault.TheVariants as fault
use Rattle.broker_server.specs.declared.conversation.held.Held.{Held}
use Rattle.broker_server.specs.declared.conversation.held.Held.TheVariants.{Waits, Owes}
use Rattle.broker_server.specs.BrokerRows.{BrokerRow}
use Rattle.broker_server.specs.Conversations.{ConversationState, EndsByError, closing_rows}

-- what a transaction weighs that waits for room; nothing where none waits
abbrev pub held_weight : Option Held → ℕ
held_weight (Some (Waits sends receipt)) = weight sends
held_weight (Some (Owes done receipt)) = 0
held_weight None = 0

-- What a connection holds that isn't committed: as many octets as came and weren't read yet, and what the SENDs
-- of its open transactions weigh, and the transaction that waits for room. So where `SEND` came of a frame,
-- behind a SEND "hello" without headers within a transaction, it is 137.
abbrev pub uncommitted : ConversationState → ℕ
uncommitted c = length c.reader.text + open_weight c.session + held_weight c.held

-- Memory is refused: it leaves by `72 NoMemory`. So a client that opens transactions without end reads that
-- ERROR, and what it had open is dropped.
abbrev pub IsRefusedMemory : ConversationState → List BrokerRow → ConversationState → Type 0
IsRefusedMemory old asked new =
    (old.exit ≡ None) × (asked ≡ closing_rows old) × EndsByError fault.NoMemory None old new

-- It is to make room: it leaves by `72 NoMemory`, unless it leaves already.
abbrev pub MakesRoom : ConversationState → List BrokerRow → ConversationState → Type 0
MakesRoom old asked new =
    (IsSome old.exit × (asked ≡ []) × (new ≡ old)) ⊎ IsRefusedMemory old asked new

-- ---- bounds, in octets

-- Whether a connection tells that it holds as much, where it told another count last: those that differ by
-- 65,536 or more. So 256 connections that tell nothing are off by 16 MiB.
abbrev pub is_told : ℕ → ℕ → Bool
is_told told now = nat_le 65536 (now - told) || nat_le 65536 (told - now)

-- Whether memory is short, so that those who don't take what is there make room: where all hold 768 MiB together,
-- and 256 MiB of that were committed, which may be in their queues. So not where some hold 900 MiB in open
-- transactions, and nothing else is there.
abbrev pub is_short : ℕ → ℕ → Bool
is_short kept sent = nat_le 805306368 (kept + sent) && nat_le 268435456 sent

-- How many nanoseconds the system may take nothing of what waits for a connection then: a second, and 32 for each
-- octet that all hold less than 896 MiB. So 5.3 s at 768 MiB, 3.1 s at 832, and a second from 896 on: who has
-- taken nothing for longest leaves first.
abbrev pub time_to_take : ℕ → ℕ
time_to_take all = 1000000000 + (939524096 - all) * 32

-- Whether who holds so many octets that aren't committed, and so many that were, is refused more, where all hold so
-- many: where that is over 2 GiB; or he holds over 4 MiB in all, and less is left of 1 GiB than isn't committed of
-- it, or as much. So
-- - beyond 2 GiB nobody gets anything, whoever committed what is there, and though he has left;
-- - beyond 1 GiB who holds over 4 MiB gets nothing, and who holds less what he wants;
-- - one who opens transactions alone is refused at 512 MiB, where as many are left; a second one, beside the first,
--   at 256 MiB; a third at 128 MiB; and a transaction of 64 MiB still finds room where all hold 900 MiB;
-- - what he committed, and others haven't taken, counts for the 4 MiB, but is no part of that share: who has
--   committed 700 MiB, and opens 10 more, is refused nothing.
abbrev pub is_refused : ℕ → ℕ → ℕ → Bool
is_refused all kept sent =
    nat_lt 2147483648 all || (nat_le (1073741824 - all) kept && nat_lt 4194304 (kept + sent))
