-- A connection's socket: what a poll tells of it, and what a read and a write leave of it.
use Rattle.std.specs.Prelude.{◌≡◌, ◌⊎◌, ℕ, ◌<◌, ◌≤◌, ◌==◌, ◌&&◌, ◌||◌, not, Bool, true, false, nat_lt, List, [], ◌∷◌, ◌++◌, length, Option, None, Some, if◌then◌else◌}
use Rattle.mio.specs.declared.event.event.Event.{Event}
use Rattle.mio.specs.Event.{event_token, is_readable, is_writable, is_error, is_read_closed, is_write_closed}
use Rattle.broker_server.specs.Counts.{plus}
use Rattle.broker_server.specs.declared.serving.socket.Came.{Came}
use Rattle.broker_server.specs.declared.serving.socket.Came.TheVariants.{Octets, Nothing, Again, End}
use Rattle.broker_server.specs.declared.serving.socket.Socket.{Socket}

-- The socket once its poll told this event, which is the socket's where its token is 0. So an error alone says
-- that a read will show the end, and that it may be tried (proofs/SocketExamples.antt).
abbrev pub after_event : Event → Socket → Socket
after_event e socket =
    if (event_token e).0 == 0 then record socket {
      readable = socket.readable || (is_readable e || is_read_closed e || is_error e);
      hung_up = socket.hung_up || (is_read_closed e || is_error e);
      blocked = socket.blocked && not (is_writable e || is_write_closed e);
    } else socket

-- once it told these, one after the other
abbrev pub after_events : List Event → Socket → Socket
after_events [] socket = socket
after_events (e ∷ es) socket = after_events es (after_event e socket)

-- ---- a read

-- the first octet that was read, where this was, or was none, and a read then filled a room so
abbrev pub first_read : Option ℕ → List ℕ → Option ℕ
first_read (Some octet) room = Some octet
first_read None [] = None
first_read None (octet ∷ octets) = Some octet

-- what a read may give that leaves a room so: one octet or more, and as many as there is room for at most
abbrev pub MayCome : Came → List ℕ → Type 0
MayCome (Octets n) room = (0 < n) × (n ≤ length room)
MayCome Nothing room = Unit {0}
MayCome Again room = Unit {0}
MayCome End room = Unit {0}

-- The socket after a read that gave this, and left the room so: one that gave less than there was room for was
-- the last that may give something, unless the peer has hung up, which a further one shows. So where 2 octets
-- came into a room of 4, nothing more is to be read until the poll tells.
abbrev pub after_read : Came → List ℕ → Socket → Socket
after_read (Octets n) room socket = record socket {
  readable = if nat_lt n (length room) && not socket.hung_up then false else socket.readable;
  first = first_read socket.first room;
}
after_read Nothing room socket = record socket { readable = false }
after_read Again room socket = socket
after_read End room socket = socket

-- how many octets were read in all, where they were so many before a read that gave this
abbrev pub octets_with : Came → ℕ → ℕ
octets_with (Octets n) octets = plus octets n
octets_with _ octets = octets

-- A read, which leaves the room so.
-- idle: it gives nothing where nothing can be there.
-- may: what it gives may come so.
-- after: what is known of the socket then.
pub record SocketReads (old : Socket) (came : Came) (room : List ℕ) (new : Socket) : Type 0 where
  pub idle : old.readable ≡ false → old.gone ≡ false → came ≡ Nothing
  pub may : MayCome came room
  pub after : new ≡ after_read came room old

-- ---- a write

-- The first of what waited went out, so many octets, and where some wait still the system takes no more. So
-- where `abc` waited and it took 2, `c` waits, and the socket is blocked.
pub record GoesFirst (old : Socket) (waited : List ℕ) (n : ℕ) (new : Socket) (waits : List ℕ) : Type 0 where
  pub sent : List ℕ
  pub cut : waited ≡ sent ++ waits
  pub count : n ≡ length sent
  pub after : new ≡ record old { stream = new.stream; blocked = nat_lt 0 (length waits) }

-- a write failed: what waited is dropped, and so will be all that is written
abbrev pub HasFailed : Socket → ℕ → Socket → List ℕ → Type 0
HasFailed old n new waits =
    (n ≡ 0) × (waits ≡ []) × (new ≡ record old { stream = new.stream; gone = true })

-- A write of what waits.
-- blocked: while the system takes nothing, nothing changes.
-- gone: else, after a write that failed, what waits is dropped.
-- written: else some of it goes out, or all of it, or that fails.
pub record SocketWrites (old : Socket) (waited : List ℕ) (n : ℕ) (new : Socket) (waits : List ℕ) : Type 0 where
  pub blocked : old.blocked ≡ true → (n ≡ 0) × (new ≡ old) × (waits ≡ waited)
  pub gone : old.blocked ≡ false → old.gone ≡ true → (n ≡ 0) × (new ≡ old) × (waits ≡ [])
  pub written : old.blocked ≡ false → old.gone ≡ false
      → GoesFirst old waited n new waits ⊎ HasFailed old n new waits
