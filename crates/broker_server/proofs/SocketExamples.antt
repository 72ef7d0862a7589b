-- Worked examples of a connection's socket.
use Rattle.std.proofs.Common.{◌≡◌, ℕ, Bool, true, false, List, [], ◌∷◌, Option, Some, None, refl}
use Rattle.mio.specs.declared.event.event.Event.{Event}
use Rattle.mio.specs.declared.net.stream.TcpStream.{TcpStream}
use Rattle.broker_server.specs.declared.serving.socket.Came.TheVariants.{Octets, Nothing}
use Rattle.broker_server.specs.declared.serving.socket.Socket.{Socket}
use Rattle.broker_server.specs.Sockets.{GoesFirst, after_event, after_events, after_read}

-- an event of the socket with these flags of `epoll(7)`
abbrev told : ℕ → Event
told flags = record { inner = record { events = flags; «data» = 0 } }

-- an event of the bell, whose token is 1
abbrev rung : Event
rung = record { inner = record { events = 1; «data» = 1 } }

-- a socket that nothing has gone wrong with, and from which nothing was read
abbrev at : TcpStream → Bool → Bool → Bool → Socket
at stream readable hung_up blocked = record {
  stream = stream;
  readable = readable;
  hung_up = hung_up;
  blocked = blocked;
  gone = false;
  first = None;
}

-- ---- a poll

-- an error alone (8) says that a read will show the end, and that it and a write may be tried
an_error : (s : TcpStream) → after_event (told 8) (at s false false true) ≡ at s true true false
an_error s = refl

-- room (4) says nothing of reads
room : (s : TcpStream) → after_event (told 4) (at s false false true) ≡ at s false false false
room s = refl

-- what isn't the socket's says nothing of it
a_ring : (s : TcpStream) → after_event rung (at s false false true) ≡ at s false false true
a_ring s = refl

-- octets (1), and then room
both : (s : TcpStream) → after_events (told 1 ∷ rung ∷ told 4 ∷ []) (at s false false true) ≡ at s true false false
both s = refl

-- ---- a read

-- two octets in a room of four are the last that came
two_of_four : (s : TcpStream) → after_read (Octets 2) (7 ∷ 8 ∷ 0 ∷ 0 ∷ []) (at s true false false) ≡ record (at s false false false) { first = Some 7 }
two_of_four s = refl

-- but where the peer has hung up a further read shows that
behind_the_last : (s : TcpStream) → after_read (Octets 2) (7 ∷ 8 ∷ 0 ∷ 0 ∷ []) (at s true true false) ≡ record (at s true true false) { first = Some 7 }
behind_the_last s = refl

-- a room that is full may not be all that came
full : (s : TcpStream) → after_read (Octets 2) (7 ∷ 8 ∷ []) (at s true false false) ≡ record (at s true false false) { first = Some 7 }
full s = refl

-- ---- a write

-- two of three octets go out, and the socket is blocked
two_of_three : (s : TcpStream) → GoesFirst (at s false false false) (1 ∷ 2 ∷ 3 ∷ []) 2 (at s false false true) (3 ∷ [])
two_of_three s = record { sent = 1 ∷ 2 ∷ []; cut = refl; count = refl; after = refl }

-- all go out
three : (s : TcpStream) → GoesFirst (at s false false false) (1 ∷ 2 ∷ 3 ∷ []) 3 (at s false false false) []
three s = record { sent = 1 ∷ 2 ∷ 3 ∷ []; cut = refl; count = refl; after = refl }
