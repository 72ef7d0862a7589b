-- What stands against a move of the machine. Each objection is a refusal that the core reports, but for those
-- of the machine's own, which no move that the core makes meets.
use Rattle.std.specs.Prelude.{Bool, Option, Some, None}
use Rattle.std.specs.Option.{is_some}
use Rattle.delivery.specs.declared.refusal.Refusal.{Refusal}
use Rattle.delivery.specs.declared.refusal.Refusal.TheVariants as refusal

-- why a move has no effect
pub data Objection : Type 0 where
  -- the topic's: no part of the transaction is pending; the verdict isn't the part's; another stamp was
  -- learnt; the part that is to be cancelled has learnt its stamp
  NotPending Foreign Clash Decided : Objection
  -- there is no such subscription of this connection that isn't closed
  NoSub : Objection
  -- the topic gave a ticket before; a named topic gave none yet
  Twice Incomplete : Objection
  -- the connection speaks for no sender, or there is no such sender; it speaks for one already; another
  -- connection speaks for this one
  NoSender HasSender InUse : Objection
  -- the sender has no sequence numbers left
  SeqFull : Objection
  -- the connection: it is open; it isn't there; it is leaving, or its transaction is in flight; that isn't in
  -- flight
  NotLeaving NoConn Busy NoFlight : Objection
  -- there is no such topic, or the transaction doesn't name it
  NotNamed : Objection
  -- the transaction has no verdict; nothing is due; the connection is gone, or the subscription has ended
  NotDecided NothingDue Gone : Objection
  -- a topic refused the transaction; none did
  Marked NotMarked : Objection

-- The refusal that the core reports; none where the objection is the machine's own. So `Gone` is 87, and
-- `Clash` none.
abbrev pub refusal_of : Objection → Option Refusal
refusal_of Objection.NotPending = Some refusal.NotPending
refusal_of Objection.Foreign = None
refusal_of Objection.Clash = None
refusal_of Objection.Decided = None
refusal_of Objection.NoSub = Some refusal.NoSub
refusal_of Objection.Twice = Some refusal.Twice
refusal_of Objection.Incomplete = Some refusal.Incomplete
refusal_of Objection.NoSender = None
refusal_of Objection.HasSender = None
refusal_of Objection.InUse = None
refusal_of Objection.SeqFull = None
refusal_of Objection.NotLeaving = Some refusal.NotLeaving
refusal_of Objection.NoConn = Some refusal.NoConn
refusal_of Objection.Busy = Some refusal.Busy
refusal_of Objection.NoFlight = Some refusal.NoFlight
refusal_of Objection.NotNamed = Some refusal.NotNamed
refusal_of Objection.NotDecided = Some refusal.NotDecided
refusal_of Objection.NothingDue = Some refusal.NothingDue
refusal_of Objection.Gone = Some refusal.Gone
refusal_of Objection.Marked = Some refusal.Marked
refusal_of Objection.NotMarked = Some refusal.NotMarked

-- the core reports it
abbrev pub is_reported : Objection → Bool
is_reported why = is_some (refusal_of why)
