-- What is open after a list of accepted frames, as the list itself says (STOMP 1.2, "SUBSCRIBE",
-- "UNSUBSCRIBE", "BEGIN", "COMMIT", "ABORT", "DISCONNECT").
use Rattle.std.specs.Prelude.{◌≡◌, ◌≢◌, ℕ, Bool, true, false, not, ◌&&◌, List, [], ◌∷◌, ◌++◌, codes, filter, map, sum_by, if◌then◌else◌}
use Rattle.std.specs.List.{list_any}
use Rattle.std.specs.Map.{lookup}
use Rattle.std.specs.Option.{unwrap_or}
use Rattle.std.specs.Str.{bytes_eq}
use Rattle.stomp_frame.specs.declared.command.Command.TheVariants.{Subscribe}
use Rattle.stomp_frame.specs.declared.raw_frame.RawFrame.{RawFrame}
use Rattle.stomp_frame.specs.Cases.{is_connect}
use Rattle.mcast_txn.specs.Lists.{In}
use Rattle.mcast_txn.specs.Transaction.{weight}
use Rattle.mcast_txn.specs.declared.id.Topic.{Topic}
use Rattle.mcast_txn.specs.declared.draft.sent_message.SentMessage.{SentMessage}
use Rattle.stomp_session.specs.declared.phase.Phase.{Phase}
use Rattle.stomp_session.specs.declared.phase.Phase.TheVariants.{New, Connected, Closed}
use Rattle.stomp_session.specs.Names.{is_known}
use Rattle.stomp_session.specs.Frames.{field, has_destination, topic_of, id_of, transaction_of, is_subscribe, is_begin, is_disconnect, names_subscription, names_transaction, is_send_in, send_of, wants_parts}

-- The subscriptions that SUBSCRIBEs of these frames left open, in order, each with this of its SUBSCRIBE: of
-- each subscription the last frame that names it is a SUBSCRIBE.
abbrev pub subscribed_with : {X : Type 0} → (RawFrame → X) → List RawFrame → List (List ℕ × X)
subscribed_with value [] = []
subscribed_with value (f ∷ after) =
    if is_subscribe f.command && not (list_any (names_subscription (id_of f)) after)
    then (id_of f, value f) ∷ subscribed_with value after
    else subscribed_with value after

-- those subscriptions with their topics
abbrev pub subscriptions_left : List (List ℕ) → List RawFrame → List (List ℕ × Topic)
subscriptions_left names frames = subscribed_with (topic_of names) frames

-- those subscriptions, and whether the SUBSCRIBE of each wants parts
abbrev pub parts_left : List RawFrame → List (List ℕ × Bool)
parts_left frames = subscribed_with wants_parts frames

-- The transactions that BEGINs of these frames left open, each with the SENDs after its BEGIN that name it,
-- in order: of each transaction the last frame that names it, SENDs aside, is a BEGIN.
abbrev pub transactions_left : List (List ℕ) → List RawFrame → List (List ℕ × List SentMessage)
transactions_left names [] = []
transactions_left names (f ∷ after) =
    if is_begin f.command && not (list_any (names_transaction (transaction_of f)) after)
    then
    (transaction_of f, map (send_of names) (filter (is_send_in (transaction_of f)) after))
    ∷ transactions_left names after
    else transactions_left names after

-- whether a CONNECT or a STOMP is among them
abbrev pub is_connected : List RawFrame → Bool
is_connected frames = list_any (λ f. is_connect f.command) frames

-- whether a DISCONNECT is among them
abbrev pub is_ended : List RawFrame → Bool
is_ended frames = list_any (λ f. is_disconnect f.command) frames

-- a DISCONNECT closes, a CONNECT connects
abbrev pub phase_of : List RawFrame → Phase
phase_of frames = if is_ended frames then Closed else (if is_connected frames then Connected else New)

-- the subscriptions that are open; none after a DISCONNECT
abbrev pub open_subscriptions : List (List ℕ) → List RawFrame → List (List ℕ × Topic)
open_subscriptions names frames = if is_ended frames then [] else subscriptions_left names frames

-- whether each of them asked for parts
abbrev pub open_parts : List RawFrame → List (List ℕ × Bool)
open_parts frames = if is_ended frames then [] else parts_left frames

-- the transactions that are open; none after a DISCONNECT
abbrev pub open_transactions : List (List ℕ) → List RawFrame → List (List ℕ × List SentMessage)
open_transactions names frames = if is_ended frames then [] else transactions_left names frames

-- what a frame is judged by: the topics' names so far, how far its session is, and what is open
pub record Held : Type 0 where
  pub names : List (List ℕ)
  pub phase : Phase
  pub subscriptions : List (List ℕ × Topic)
  pub parts : List (List ℕ × Bool)
  pub transactions : List (List ℕ × List SentMessage)

-- what the next frame is judged by after these accepted frames
abbrev pub held_after : List (List ℕ) → List RawFrame → Held
held_after names frames = record {
  names = names;
  phase = phase_of frames;
  subscriptions = open_subscriptions names frames;
  parts = open_parts frames;
  transactions = open_transactions names frames;
}

-- what a session holds: how far it is, and what is open; the names aren't its own
pub record SessionState : Type 0 where
  pub phase : Phase
  pub subscriptions : List (List ℕ × Topic)
  -- whether each open subscription asked for parts
  pub parts : List (List ℕ × Bool)
  pub transactions : List (List ℕ × List SentMessage)

-- what of it the session holds: all but the names
abbrev pub state_of : Held → SessionState
state_of s = record {
  phase = s.phase;
  subscriptions = s.subscriptions;
  parts = s.parts;
  transactions = s.transactions;
}

-- Whether the open subscription of this id asked for parts; not where none is open. So after a SUBSCRIBE of
-- `a` with `part:yes` it did; after an UNSUBSCRIBE of it and a SUBSCRIBE of it without, it didn't.
abbrev pub asks_parts : List ℕ → SessionState → Bool
asks_parts id s = unwrap_or (lookup (bytes_eq id) s.parts) false

-- where it is a SEND or a SUBSCRIBE, its destination is one of these names
abbrev pub IsKnownTo : List (List ℕ) → RawFrame → Type 0
IsKnownTo names f = has_destination f.command ≡ true → is_known (field (codes "destination") f) names ≡ true

-- What the SENDs of the open transactions weigh together (own). So where two are open, of one SEND "hello" without
-- headers each, it is 266.
abbrev pub open_weight : SessionState → ℕ
open_weight s = sum_by (λ t. weight t.1) s.transactions

-- The session holds just what is open after these accepted frames, their topics numbered by these names, and
-- is connected or closed as they say; each of their destinations is one of the names. So a session after a
-- CONNECT and a SUBSCRIBE to B stands for them by A and B, and by A, B and C, and not by A alone.
pub record StandsFor (s : SessionState) (names : List (List ℕ)) (frames : List RawFrame) : Type 0 where
  pub holds : s ≡ state_of (held_after names frames)
  pub known : (f : RawFrame) → In f frames → IsKnownTo names f

-- What a session stands for it still stands for once other connections have made topics.
abbrev pub LaterNamesStand : Type 0
LaterNamesStand =
    (s : SessionState) (names more : List (List ℕ)) (frames : List RawFrame) → StandsFor s names frames
    → StandsFor s (names ++ more) frames

-- After a SUBSCRIBE that it accepted, a session that isn't closed says of its subscription what the SUBSCRIBE
-- wants.
abbrev pub AsksAsWanted : Type 0
AsksAsWanted =
    (s : SessionState) (names : List (List ℕ)) (frames : List RawFrame) (f : RawFrame)
    → StandsFor s names (frames ++ f ∷ []) → f.command ≡ Subscribe → s.phase ≢ Closed
    → asks_parts (id_of f) s ≡ wants_parts f

-- what a session holds after it was closed: nothing is open
abbrev pub after_close : SessionState → SessionState
after_close s = record s { phase = Closed; subscriptions = []; parts = []; transactions = [] }
