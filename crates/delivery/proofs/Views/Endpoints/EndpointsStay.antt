-- Steps that leave endpoints as they are, but for what the machine says of them.
use Rattle.delivery.proofs.Words.All.{◌≡◌, ℕ, Bool, true, false, ◌==◌, ◌&&◌, List, [], ◌∷◌, ◌++◌, None, cond, refl, ap, ◌∙◌, append-nil, flat_map, option_map_or, Topic, TxnId, Stamp, RawFrame, spelling_of, Unread, with_destination, World, Event, Outcome, Refusal, CoreStep, Reading, accepted_of, has_effect, frame_from, names_after, account_of, text_out, subscribe_frame, replies_to, is_cut, unread_at, unread_after, step_of, view_with, view_after}

-- one of two that are the same
pub if_same : {X : Type 0} (b : Bool) (x : X) → cond b x x ≡ x
if_same true x = refl
if_same false x = refl

-- a step that adds no frame, no text, no id and no name, and feeds no reader
pub record IsQuiet (names : List (List ℕ)) (step : CoreStep) (older : List CoreStep) : Type 0 where
  pub accepted : (c : ℕ) → accepted_of c (step ∷ older) ≡ accepted_of c older
  pub unread : (c : ℕ) → unread_at c (step ∷ older) ≡ unread_at c older
  pub text : (c : ℕ) → text_out names c (step ∷ older) ≡ text_out names c older
  pub began : (s : ℕ) → subscribe_frame s (step ∷ older) ≡ subscribe_frame s older
  pub named : names_after names (step ∷ older) ≡ names_after names older

-- what is held after such a step is what the machine says, with the endpoints of before
pub quiet_view : (names : List (List ℕ)) (step : CoreStep) (older : List CoreStep) (w : World)
    → IsQuiet names step older → view_after names w (step ∷ older) ≡ view_after names w older
quiet_view names step older w quiet = λ i. view_with (quiet.named i) w (λ c. quiet.accepted c i) (λ c. quiet.unread c i) (λ c. quiet.text c i) (λ s. quiet.began s i)

-- what reads nothing names nothing
pub none_named : (names : List (List ℕ)) (b : Bool) → option_map_or (λ (f : RawFrame). with_destination f names) (cond b None None) names ≡ names
none_named names true = refl
none_named names false = refl

-- a step of which nothing was read, that replies nothing
quiet_from : (names : List (List ℕ)) (e : Event) (o : Outcome) (older : List CoreStep) → ((c : ℕ) → cond (has_effect o) (frame_from c (step_of e Reading.Nothing o)) [] ≡ [])
    → ((c : ℕ) → unread_after c (unread_at c older) e Reading.Nothing o ≡ unread_at c older)
    → ((c : ℕ) → cond (is_cut o) [] (flat_map spelling_of (replies_to c older (account_of names older) e Reading.Nothing o)) ≡ [])
    → ((s : ℕ) → subscribe_frame s (step_of e Reading.Nothing o ∷ older) ≡ subscribe_frame s older) → IsQuiet names (step_of e Reading.Nothing o) older
quiet_from names e o older frames unread text began = record {
  accepted = λ c. ap (λ (fs : List RawFrame). accepted_of c older ++ fs) (frames c) ∙ append-nil (accepted_of c older);
  unread = unread;
  text = λ c. ap (λ (octets : List ℕ). text_out names c older ++ octets) (text c) ∙ append-nil (text_out names c older);
  began = began;
  named = none_named (names_after names older) (has_effect o);
}

-- the loss of a connection
pub lost_is_quiet : (names : List (List ℕ)) (c : ℕ) (older : List CoreStep) → IsQuiet names (step_of (Event.Lost c) Reading.Nothing Outcome.Leaving) older
lost_is_quiet names c older = quiet_from names (Event.Lost c) Outcome.Leaving older (λ d. refl) (λ d. refl) (λ d. refl) (λ s. refl)

-- an opened connection
pub open_is_quiet : (names : List (List ℕ)) (c : ℕ) (older : List CoreStep) → IsQuiet names (step_of Event.Open Reading.Nothing (Outcome.Opened c)) older
open_is_quiet names c older = quiet_from names Event.Open (Outcome.Opened c) older (λ d. refl) (λ d. refl) (λ d. refl) (λ s. refl)

-- a turn
pub turn_is_quiet : (names : List (List ℕ)) (t : Topic) (n : ℕ) (older : List CoreStep) → IsQuiet names (step_of (Event.Turn t) Reading.Nothing (Outcome.Turned n)) older
turn_is_quiet names t n older = quiet_from names (Event.Turn t) (Outcome.Turned n) older (λ d. refl) (λ d. refl) (λ d. refl) (λ s. refl)

-- a verdict that a topic learns
pub learn_is_quiet : (names : List (List ℕ)) (t : Topic) (id : TxnId) (older : List CoreStep) → IsQuiet names (step_of (Event.Learn t id) Reading.Nothing Outcome.Learnt) older
learn_is_quiet names t id older = quiet_from names (Event.Learn t id) Outcome.Learnt older (λ d. refl) (λ d. refl) (λ d. refl) (λ s. refl)

-- a release
pub release_is_quiet : (names : List (List ℕ)) (t : Topic) (id : TxnId) (older : List CoreStep)
    → IsQuiet names (step_of (Event.Release t) Reading.Nothing (Outcome.Released id)) older
release_is_quiet names t id older = quiet_from names (Event.Release t) (Outcome.Released id) older (λ d. refl) (λ d. refl) (λ d. refl) (λ s. refl)

-- a subscription that is closed as its connection leaves
pub leave_is_quiet : (names : List (List ℕ)) (c s : ℕ) (to : Stamp) (older : List CoreStep)
    → IsQuiet names (step_of (Event.Leave c) Reading.Nothing (Outcome.Unsubscribed s to)) older
leave_is_quiet names c s to older = quiet_from names (Event.Leave c) (Outcome.Unsubscribed s to) older (λ d. refl) (λ d. refl) (λ d. refl) (λ r. refl)

-- want of memory at an Open
pub open_without_is_quiet : (names : List (List ℕ)) (older : List CoreStep) → IsQuiet names (step_of Event.Open Reading.Nothing Outcome.NoMemory) older
open_without_is_quiet names older = quiet_from names Event.Open Outcome.NoMemory older (λ d. refl) (λ d. refl) (λ d. refl) (λ s. refl)

no_reply : (b : Bool) → flat_map spelling_of (cond b [] []) ≡ []
no_reply true = refl
no_reply false = refl

not_fed : (b : Bool) (u v : Unread) → cond (b && false) u v ≡ v
not_fed true u v = refl
not_fed false u v = refl

-- want of memory at a Piece
pub piece_without_is_quiet : (names : List (List ℕ)) (c : ℕ) (octets : List ℕ) (older : List CoreStep)
    → IsQuiet names (step_of (Event.Piece c octets) Reading.Nothing Outcome.NoMemory) older
piece_without_is_quiet names c octets older = quiet_from names (Event.Piece c octets) Outcome.NoMemory older (λ d. refl) (λ d. not_fed (c == d) _ _) (λ d. refl) (λ s. refl)

-- want of memory at a Take
pub take_without_is_quiet : (names : List (List ℕ)) (s : ℕ) (older : List CoreStep) → IsQuiet names (step_of (Event.Take s) Reading.Nothing Outcome.NoMemory) older
take_without_is_quiet names s older = quiet_from names (Event.Take s) Outcome.NoMemory older (λ c. refl) (λ c. refl) (λ c. no_reply _) (λ r. refl)

-- a refused event
pub refused_is_quiet : (names : List (List ℕ)) (e : Event) (why : Refusal) (older : List CoreStep) → IsQuiet names (step_of e Reading.Nothing (Outcome.Refused why)) older
refused_is_quiet names (Event.Piece d octets) why older = quiet_from names (Event.Piece d octets) (Outcome.Refused why) older (λ c. refl) (λ c. not_fed (d == c) _ _) (λ c. refl) (λ s. refl)
refused_is_quiet names (Event.Next d) why older = quiet_from names (Event.Next d) (Outcome.Refused why) older (λ c. refl) (λ c. if_same (d == c) _) (λ c. no_reply (d == c)) (λ s. refl)
refused_is_quiet names (Event.Take d) why older = quiet_from names (Event.Take d) (Outcome.Refused why) older (λ c. refl) (λ c. refl) (λ c. no_reply _) (λ s. refl)
refused_is_quiet names event why older = quiet_from names event (Outcome.Refused why) older (λ c. refl) (λ c. refl) (λ c. refl) (λ s. refl)
