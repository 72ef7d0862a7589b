-- The definitions, computed on short lists of frames.
use Rattle.std.proofs.Common.{◌≡◌, ℕ, List, [], ◌∷◌, ◌++◌, codes, true, false, refl, subst, inl, inr, Some, None}
use Rattle.stomp_frame.specs.declared.command.Command.{Command}
use Rattle.stomp_frame.specs.declared.command.Command.TheVariants as commands
use Rattle.stomp_frame.specs.declared.raw_frame.RawFrame.{RawFrame}
use Rattle.stomp_session.specs.declared.phase.Phase.TheVariants.{New, Connected, Closed}
use Rattle.stomp_session.specs.declared.fault.SessionFault.TheVariants as faults
use Rattle.std.proofs.lemmas.Bool.{false≢true}
use Rattle.std.specs.List.{repeat}
use Rattle.mcast_txn.specs.Lists.{In}
use Rattle.stomp_session.specs.Open.{IsKnownTo, StandsFor, asks_parts, held_after, open_subscriptions, open_transactions, phase_of, state_of}
use Rattle.stomp_session.specs.Names.{index_of, is_name}
use Rattle.stomp_session.specs.Frames.{client_of, send_of, wants_parts, with_destination}
use Rattle.stomp_session.specs.Refusals.{session_fault}
use Rattle.stomp_session.specs.Answers.{takes_memory}
use Rattle.stomp_session.specs.Versions.{has_version}
use Rattle.stomp_session.proofs.Later.{later_names_stand}

abbrev names : List (List ℕ)
names = codes "A" ∷ codes "B" ∷ []

abbrev frame : Command → List (List ℕ × List ℕ) → RawFrame
frame command headers = record { command = command; headers = headers; body = [] }

abbrev connect : RawFrame
connect = frame commands.Connect ((codes "accept-version", codes "1.2") ∷ (codes "host", codes "h") ∷ [])

abbrev subscribe : List ℕ → List ℕ → RawFrame
subscribe id destination = frame commands.Subscribe ((codes "id", id) ∷ (codes "destination", destination) ∷ [])

abbrev unsubscribe : List ℕ → RawFrame
unsubscribe id = frame commands.Unsubscribe ((codes "id", id) ∷ [])

abbrev begin : List ℕ → RawFrame
begin x = frame commands.Begin ((codes "transaction", x) ∷ [])

abbrev send : List ℕ → RawFrame
send x = frame commands.Send ((codes "destination", codes "B") ∷ (codes "transaction", x) ∷ [])

abbrev commit : List ℕ → RawFrame
commit x = frame commands.Commit ((codes "transaction", x) ∷ [])

abbrev disconnect : RawFrame
disconnect = frame commands.Disconnect []

-- a is after_close, and b is open at topic 1
pub one_is_open : open_subscriptions names (connect ∷ subscribe (codes "a") (codes "A") ∷ subscribe (codes "b") (codes "B") ∷ unsubscribe (codes "a") ∷ []) ≡ (codes "b", record { 0 = 1 }) ∷ []
one_is_open = refl

-- x began twice: the SEND before its COMMIT isn't in the one that is open
pub begun_again : open_transactions names (connect ∷ begin (codes "x") ∷ send (codes "x") ∷ commit (codes "x") ∷ begin (codes "x") ∷ send (codes "y") ∷ send (codes "x") ∷ []) ≡ (codes "x", send_of names (send (codes "x")) ∷ []) ∷ []
begun_again = refl

-- nothing is open after a DISCONNECT
pub none_is_open : open_transactions names (connect ∷ begin (codes "x") ∷ disconnect ∷ []) ≡ []
none_is_open = refl

-- the phase before any frame, after a CONNECT, and after a DISCONNECT
pub phases_follow : (phase_of [] ≡ New) × (phase_of (connect ∷ []) ≡ Connected) × (phase_of (connect ∷ disconnect ∷ []) ≡ Closed)
phases_follow = (refl, refl, refl)

-- A SEND and a SUBSCRIBE make the topic of a new destination, of a known one they make none; a COMMIT makes none. Each
-- case of a letter is another name.
pub names_grow :
    (with_destination (send (codes "x")) (codes "A" ∷ []) ≡ names)
    × (with_destination (send (codes "x")) names ≡ names)
    × (with_destination (subscribe (codes "a") (codes "b")) names ≡ codes "A" ∷ codes "B" ∷ codes "b" ∷ [])
    × (with_destination (commit (codes "x")) names ≡ names)
names_grow = (refl, refl, refl, refl)

-- a name that isn't there has the number that it gets
pub next_number : (index_of (codes "B") names ≡ 1) × (index_of (codes "C") names ≡ 2)
next_number = (refl, refl)

-- what may be a topic's name
pub names_are_graphic : (is_name (codes "A") ≡ true) × (is_name (codes "!~") ≡ true) × (is_name (codes "A B") ≡ false) × (is_name [] ≡ false)
names_are_graphic = (refl, refl, refl, refl)

-- the frames of a session that subscribed to B
abbrev past : List RawFrame
past = connect ∷ subscribe (codes "b") (codes "B") ∷ []

-- it stands for them by A and B
pub stands : StandsFor (state_of (held_after names past)) names past
stands = record { holds = refl; known = λ f i. known_at f i }
  where
    known_at : (f : RawFrame) → In f past → IsKnownTo names f
    known_at f (inl e) = subst (IsKnownTo names) e (λ has. cc)
    known_at f (inr (inl e)) = subst (IsKnownTo names) e (λ has. refl)
    known_at f (inr (inr h)) = absurd h

-- by A, B and C it stands for them too, and not by A alone
pub stands_later : StandsFor (state_of (held_after names past)) (names ++ codes "C" ∷ []) past
stands_later = later_names_stand (state_of (held_after names past)) names (codes "C" ∷ []) past stands

pub stands_by_known : StandsFor (state_of (held_after (codes "A" ∷ []) past)) (codes "A" ∷ []) past → Prim.⊥
stands_by_known s = false≢true (s.known (subscribe (codes "b") (codes "B")) (inr (inl refl)) refl)

-- a frame before the CONNECT; an id that is open; a bad destination comes before the id
pub refusals_in_order :
    (session_fault (held_after names []) (subscribe (codes "a") (codes "A")) ≡ Some faults.NotConnected)
    × (session_fault (held_after names (connect ∷ subscribe (codes "a") (codes "A") ∷ [])) (subscribe (codes "a") (codes "A")) ≡ Some faults.SubIdInUse)
    × (session_fault (held_after names (connect ∷ subscribe (codes "a") (codes "A") ∷ [])) (subscribe (codes "a") (codes "A B")) ≡ Some faults.BadDestination)
    × (session_fault (held_after names (connect ∷ subscribe (codes "a") (codes "A") ∷ unsubscribe (codes "a") ∷ [])) (subscribe (codes "a") (codes "A")) ≡ None)
refusals_in_order = (refl, refl, refl, refl)

-- as many names as there may be
abbrev crowd : List (List ℕ)
crowd = repeat 1024 (codes "A" ∷ [])

-- Where there are 1,024 topics, a new one is one too many, before an unknown transaction, and a bad destination is
-- told before that; a known one is accepted.
pub no_more_topics :
    (session_fault (held_after crowd (connect ∷ [])) (subscribe (codes "a") (codes "C")) ≡ Some faults.TooManyTopics)
    × (session_fault (held_after crowd (connect ∷ [])) (send (codes "x")) ≡ Some faults.TooManyTopics)
    × (session_fault (held_after crowd (connect ∷ [])) (subscribe (codes "a") []) ≡ Some faults.BadDestination)
    × (session_fault (held_after crowd (connect ∷ [])) (subscribe (codes "a") (codes "A")) ≡ None)
no_more_topics = (refl, refl, refl, refl)

-- the first client-id counts
pub clients :
    (client_of connect ≡ None)
    × (client_of (frame commands.Connect ((codes "client-id", codes "p") ∷ (codes "client-id", codes "q") ∷ [])) ≡ Some (codes "p"))
    × (client_of (frame commands.Stomp ((codes "client-id", []) ∷ [])) ≡ Some [])
clients = (refl, refl, refl)

-- a version is an item of a list between commas, without the spaces round it
pub versions : (has_version (codes "1.2") (codes "1.0, 1.2") ≡ true) × (has_version (codes "1.2") (codes " 1.2 ") ≡ true) × (has_version (codes "1.2") (codes "11.2") ≡ false) × (has_version (codes "1.2") [] ≡ false)
versions = (refl, refl, refl, refl)

-- a CONNECT takes no memory, nor does a COMMIT of no SENDs; one of a SEND does
pub memory_is_taken :
    (takes_memory commands.Connect (held_after names []) connect ≡ false)
    × (takes_memory commands.Commit (held_after names (connect ∷ begin (codes "x") ∷ [])) (commit (codes "x")) ≡ false)
    × (takes_memory commands.Commit (held_after names (connect ∷ begin (codes "x") ∷ send (codes "x") ∷ [])) (commit (codes "x")) ≡ true)
memory_is_taken = (refl, refl, refl)

-- a SUBSCRIBE with these headers `part`
abbrev subscribe_parts : List ℕ → List (List ℕ × List ℕ) → RawFrame
subscribe_parts id parts = frame commands.Subscribe ((codes "id", id) ∷ (codes "destination", codes "A") ∷ parts)

-- the first `part` counts, and only `yes` is one that wants parts
pub parts_are_wanted :
    (wants_parts (subscribe_parts (codes "a") ((codes "part", codes "yes") ∷ (codes "part", codes "no") ∷ [])) ≡ true)
    × (wants_parts (subscribe_parts (codes "a") ((codes "part", codes "no") ∷ (codes "part", codes "yes") ∷ [])) ≡ false)
    × (wants_parts (subscribe_parts (codes "a") ((codes "part", codes "YES") ∷ [])) ≡ false)
    × (wants_parts (subscribe (codes "a") (codes "A")) ≡ false)
parts_are_wanted = (refl, refl, refl, refl)

abbrev with_parts : List RawFrame
with_parts = connect ∷ subscribe_parts (codes "a") ((codes "part", codes "yes") ∷ []) ∷ []

-- a asked for parts, and b didn't, which isn't open; a doesn't once it is subscribed anew without
pub parts_are_asked :
    (asks_parts (codes "a") (state_of (held_after names with_parts)) ≡ true)
    × (asks_parts (codes "b") (state_of (held_after names with_parts)) ≡ false)
    × (asks_parts (codes "a") (state_of (held_after names (with_parts ++ unsubscribe (codes "a") ∷ []))) ≡ false)
    × (asks_parts (codes "a") (state_of (held_after names (with_parts ++ unsubscribe (codes "a") ∷ subscribe (codes "a") (codes "A") ∷ []))) ≡ false)
parts_are_asked = (refl, refl, refl, refl)
