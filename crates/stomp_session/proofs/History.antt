-- What a session holds after a list of accepted frames, and what one more changes.
use Rattle.std.proofs.Common.{◌≡◌, ℕ, Bool, true, false, not, ◌&&◌, ◌||◌, List, [], ◌∷◌, ◌++◌, map, filter, codes, Option, Some, None, cond, refl, sym, ap, subst, ◌∙◌, if◌then◌else◌}
use Rattle.std.proofs.lemmas.List.{append-nil, map-append}
use Rattle.std.proofs.lemmas.List.Elements.{filter-append}
use Rattle.std.specs.List.{list_any}
use Rattle.std.specs.Option.{option_map_or}
use Rattle.std.specs.Str.{bytes_eq}
use Rattle.stomp_frame.specs.declared.command.Command.{Command}
use Rattle.stomp_frame.specs.declared.command.Command.TheVariants as commands
use Rattle.stomp_frame.specs.declared.raw_frame.RawFrame.{RawFrame}
use Rattle.stomp_frame.specs.Cases.{is_connect}
use Rattle.stomp_frame.specs.Headers.{first_of}
use Rattle.mcast_txn.specs.declared.id.Topic.{Topic}
use Rattle.mcast_txn.specs.declared.draft.sent_message.SentMessage.{SentMessage}
use Rattle.stomp_session.specs.declared.phase.Phase.{Phase}
use Rattle.stomp_session.specs.declared.phase.Phase.TheVariants.{New, Connected, Closed}
use Rattle.stomp_session.specs.declared.fault.SessionFault.{SessionFault}
use Rattle.stomp_session.specs.declared.fault.SessionFault.TheVariants as faults
use Rattle.stomp_session.specs.Frames.{topic_of, id_of, transaction_of, is_subscribe, is_unsubscribe, is_begin, is_end, is_send, is_disconnect, names_subscription, names_transaction, is_send_in, send_of, wants_parts}
use Rattle.stomp_session.specs.Open.{Held, subscribed_with, subscriptions_left, parts_left, transactions_left, is_connected, is_ended, phase_of, held_after}
use Rattle.stomp_session.specs.Refusals.{Condition, is_closed, is_new, is_open, is_full, has_other_ack, has_bad_destination, has_one_topic_too_many, open_refusals, refusals_by}
use Rattle.mcast_txn.specs.Checks.{first_refusal}
use Rattle.stomp_session.specs.Inner.Effects.{entries_without, with_send, effect, refusal_by}
use Rattle.stomp_session.proofs.LeftOpen.{opened, opened-quiet, opened-open, opened-close, opened-send, list_any-push}

-- the frame opens a subscription
abbrev pub opens_subscription : RawFrame → Bool
opens_subscription f = is_subscribe f.command

abbrev opens_transaction : RawFrame → Bool
opens_transaction f = is_begin f.command

abbrev sends_of : List (List ℕ) → RawFrame → List RawFrame → List SentMessage
sends_of names f after = map (send_of names) (filter (is_send_in (transaction_of f)) after)

-- the subscriptions that frames left open are those opened and not named since, whatever is said of each
pub subscribed_with-opened : {X : Type 0} (value : RawFrame → X) (frames : List RawFrame) → subscribed_with value frames ≡ opened opens_subscription names_subscription id_of (λ f after. value f) frames
subscribed_with-opened value [] = refl
subscribed_with-opened value (f ∷ after) =
    λ i. cond (is_subscribe f.command && not (list_any (names_subscription (id_of f)) after)) ((id_of f, value f) ∷ subscribed_with-opened value after i) (subscribed_with-opened value after i)

-- so they are with their topics
pub subscriptions_left-opened : (names : List (List ℕ)) (frames : List RawFrame) → subscriptions_left names frames ≡ opened opens_subscription names_subscription id_of (λ f after. topic_of names f) frames
subscriptions_left-opened names frames = subscribed_with-opened (topic_of names) frames

-- the same are open, whatever is said of each
pub subscribed_with-ids : {X Y : Type 0} (value : RawFrame → X) (other : RawFrame → Y) (id : List ℕ) (frames : List RawFrame) → is_open id (subscribed_with value frames) ≡ is_open id (subscribed_with other frames)
subscribed_with-ids value other id [] = refl
subscribed_with-ids value other id (f ∷ after) = by (is_subscribe f.command && not (list_any (names_subscription (id_of f)) after)) (subscribed_with-ids value other id after)
  where
    by : (b : Bool) → is_open id (subscribed_with value after) ≡ is_open id (subscribed_with other after)
        → is_open id (cond b ((id_of f, value f) ∷ subscribed_with value after) (subscribed_with value after))
        ≡ is_open id (cond b ((id_of f, other f) ∷ subscribed_with other after) (subscribed_with other after))
    by true same = ap (λ b. bytes_eq id (id_of f) || b) same
    by false same = same

transactions_left-opened : (names : List (List ℕ)) (frames : List RawFrame) → transactions_left names frames ≡ opened opens_transaction names_transaction transaction_of (sends_of names) frames
transactions_left-opened names [] = refl
transactions_left-opened names (f ∷ after) =
    λ i. cond (is_begin f.command && not (list_any (names_transaction (transaction_of f)) after)) ((transaction_of f, sends_of names f after) ∷ transactions_left-opened names after i) (transactions_left-opened names after i)

-- a SUBSCRIBE names the subscription of its id
pub subscription_by_id : (x : List ℕ) (g : RawFrame) → is_subscribe g.command ≡ true → names_subscription x g ≡ bytes_eq (id_of g) x
subscription_by_id x g opens = ap (λ b. (b || is_unsubscribe g.command) && bytes_eq (id_of g) x) opens

transaction_by_id : (x : List ℕ) (g : RawFrame) → is_begin g.command ≡ true → names_transaction x g ≡ bytes_eq (transaction_of g) x
transaction_by_id x g opens = ap (λ b. (b || is_end g.command) && bytes_eq (transaction_of g) x) opens

filter-push : (p : RawFrame → Bool) (frames : List RawFrame) (f : RawFrame) → filter p (frames ++ f ∷ []) ≡ (if p f then filter p frames ++ f ∷ [] else filter p frames)
filter-push p frames f = filter-append p frames (f ∷ []) ∙ by (p f)
  where
    by : (b : Bool) → filter p frames ++ (if b then f ∷ [] else []) ≡ (if b then filter p frames ++ f ∷ [] else filter p frames)
    by true = refl
    by false = append-nil (filter p frames)

sends_of-push : (names : List (List ℕ)) (f g : RawFrame) (after : List RawFrame)
    → sends_of names g (after ++ f ∷ []) ≡ (if is_send_in (transaction_of g) f then sends_of names g after ++ send_of names f ∷ [] else sends_of names g after)
sends_of-push names f g after = ap (map (send_of names)) (filter-push (is_send_in (transaction_of g)) after f) ∙ by (is_send_in (transaction_of g) f)
  where
    by : (b : Bool) → map (send_of names) (if b then filter (is_send_in (transaction_of g)) after ++ f ∷ [] else filter (is_send_in (transaction_of g)) after)
        ≡ (if b then sends_of names g after ++ send_of names f ∷ [] else sends_of names g after)
    by true = map-append (send_of names) (filter (is_send_in (transaction_of g)) after) (f ∷ [])
    by false = refl

sends_of-quiet : (names : List (List ℕ)) (f : RawFrame) → ((x : List ℕ) → is_send_in x f ≡ false) → (g : RawFrame) (after : List RawFrame) → sends_of names g (after ++ f ∷ []) ≡ sends_of names g after
sends_of-quiet names f quiet g after =
    sends_of-push names f g after ∙ ap (λ b. if b then sends_of names g after ++ send_of names f ∷ [] else sends_of names g after) (quiet (transaction_of g))

module _ {X : Type 0} (value : RawFrame → X) (frames : List RawFrame) (f : RawFrame) where
  subscribed_with-quiet : is_subscribe f.command ≡ false → is_unsubscribe f.command ≡ false → subscribed_with value (frames ++ f ∷ []) ≡ subscribed_with value frames
  subscribed_with-quiet no_subscribe no_unsubscribe =
      let none : (x : List ℕ) → names_subscription x f ≡ false = λ x i. (no_subscribe i || no_unsubscribe i) && bytes_eq (id_of f) x in
      subscribed_with-opened value (frames ++ f ∷ []) ∙ opened-quiet opens_subscription names_subscription id_of (λ f after. value f) f no_subscribe none (λ g after. refl) frames ∙ sym (subscribed_with-opened value frames)

  subscribed_with-open : is_subscribe f.command ≡ true → is_open (id_of f) (subscribed_with value frames) ≡ false → subscribed_with value (frames ++ f ∷ []) ≡ subscribed_with value frames ++ (id_of f, value f) ∷ []
  subscribed_with-open opens shut =
      let shut_here : is_open (id_of f) (opened opens_subscription names_subscription id_of (λ f after. value f) frames) ≡ false = ap (is_open (id_of f)) (sym (subscribed_with-opened value frames)) ∙ shut in
      subscribed_with-opened value (frames ++ f ∷ [])
      ∙ opened-open opens_subscription names_subscription id_of (λ f after. value f) f opens (λ x. subscription_by_id x f opens) (λ g after. refl) frames shut_here
      ∙ ap (λ them. them ++ (id_of f, value f) ∷ []) (sym (subscribed_with-opened value frames))

  subscribed_with-close : is_subscribe f.command ≡ false → is_unsubscribe f.command ≡ true → subscribed_with value (frames ++ f ∷ []) ≡ entries_without (id_of f) (subscribed_with value frames)
  subscribed_with-close no_subscribe closes =
      let by_id : (x : List ℕ) → names_subscription x f ≡ bytes_eq (id_of f) x = λ x i. (no_subscribe i || closes i) && bytes_eq (id_of f) x in
      subscribed_with-opened value (frames ++ f ∷ [])
      ∙ opened-close opens_subscription names_subscription id_of (λ f after. value f) f subscription_by_id no_subscribe by_id (λ g after. refl) frames
      ∙ ap (entries_without (id_of f)) (sym (subscribed_with-opened value frames))

module _ (names : List (List ℕ)) (frames : List RawFrame) (f : RawFrame) where
  transactions_left-quiet : is_begin f.command ≡ false → is_end f.command ≡ false → ((x : List ℕ) → is_send_in x f ≡ false) → transactions_left names (frames ++ f ∷ []) ≡ transactions_left names frames
  transactions_left-quiet no_begin no_end no_send =
      let none : (x : List ℕ) → names_transaction x f ≡ false = λ x i. (no_begin i || no_end i) && bytes_eq (transaction_of f) x in
      transactions_left-opened names (frames ++ f ∷ []) ∙ opened-quiet opens_transaction names_transaction transaction_of (sends_of names) f no_begin none (sends_of-quiet names f no_send) frames ∙ sym (transactions_left-opened names frames)

  transactions_left-open : is_begin f.command ≡ true → ((x : List ℕ) → is_send_in x f ≡ false) → is_open (transaction_of f) (transactions_left names frames) ≡ false → transactions_left names (frames ++ f ∷ []) ≡ transactions_left names frames ++ (transaction_of f, []) ∷ []
  transactions_left-open opens no_send shut =
      let shut_here : is_open (transaction_of f) (opened opens_transaction names_transaction transaction_of (sends_of names) frames) ≡ false = ap (is_open (transaction_of f)) (sym (transactions_left-opened names frames)) ∙ shut in
      transactions_left-opened names (frames ++ f ∷ [])
      ∙ opened-open opens_transaction names_transaction transaction_of (sends_of names) f opens (λ x. transaction_by_id x f opens) (sends_of-quiet names f no_send) frames shut_here
      ∙ ap (λ them. them ++ (transaction_of f, []) ∷ []) (sym (transactions_left-opened names frames))

  transactions_left-close : is_begin f.command ≡ false → is_end f.command ≡ true → ((x : List ℕ) → is_send_in x f ≡ false) → transactions_left names (frames ++ f ∷ []) ≡ entries_without (transaction_of f) (transactions_left names frames)
  transactions_left-close no_begin ends no_send =
      let by_id : (x : List ℕ) → names_transaction x f ≡ bytes_eq (transaction_of f) x = λ x i. (no_begin i || ends i) && bytes_eq (transaction_of f) x in
      transactions_left-opened names (frames ++ f ∷ [])
      ∙ opened-close opens_transaction names_transaction transaction_of (sends_of names) f transaction_by_id no_begin by_id (sends_of-quiet names f no_send) frames
      ∙ ap (entries_without (transaction_of f)) (sym (transactions_left-opened names frames))

  transactions_left-send : is_begin f.command ≡ false → is_end f.command ≡ false → (x : List ℕ) → ((y : List ℕ) → is_send_in y f ≡ bytes_eq x y) → transactions_left names (frames ++ f ∷ []) ≡ with_send x (send_of names f) (transactions_left names frames)
  transactions_left-send no_begin no_end x sends =
      let none : (y : List ℕ) → names_transaction y f ≡ false = λ y i. (no_begin i || no_end i) && bytes_eq (transaction_of f) y in
      let adds : (g : RawFrame) (after : List RawFrame) → sends_of names g (after ++ f ∷ []) ≡ (if bytes_eq x (transaction_of g) then sends_of names g after ++ send_of names f ∷ [] else sends_of names g after) =
      λ g after. sends_of-push names f g after ∙ ap (λ b. if b then sends_of names g after ++ send_of names f ∷ [] else sends_of names g after) (sends (transaction_of g)) in
      transactions_left-opened names (frames ++ f ∷ [])
      ∙ opened-send opens_transaction names_transaction transaction_of (sends_of names) f x (send_of names f) transaction_by_id no_begin none adds frames
      ∙ ap (with_send x (send_of names f)) (sym (transactions_left-opened names frames))

-- what is held where no DISCONNECT came
abbrev live : List (List ℕ) → List RawFrame → Held
live names frames = record {
  names = names;
  phase = if is_connected frames then Connected else New;
  subscriptions = subscriptions_left names frames;
  parts = parts_left frames;
  transactions = transactions_left names frames;
}

held_after-live : (names : List (List ℕ)) (frames : List RawFrame) → is_ended frames ≡ false → held_after names frames ≡ live names frames
held_after-live names frames going = λ i. record {
  names = names;
  phase = if going i then Closed else (if is_connected frames then Connected else New);
  subscriptions = if going i then [] else subscriptions_left names frames;
  parts = if going i then [] else parts_left frames;
  transactions = if going i then [] else transactions_left names frames;
}

-- where no fault is found, the first condition doesn't hold
first_refusal-none : (condition : Condition) (others : List Condition) → first_refusal (condition ∷ others) ≡ None → (condition.0 ≡ false) × (first_refusal others ≡ None)
first_refusal-none condition others none = by condition.0 none
  where
    by : (b : Bool) → (if b then Some condition.1 else first_refusal others) ≡ None → (b ≡ false) × (first_refusal others ≡ None)
    by true none = cc
    by false none = (refl, none)

-- a frame that is accepted comes before the session's end
accepted-going : (command : Command) (names : List (List ℕ)) (frames : List RawFrame) (f : RawFrame) → refusal_by command (held_after names frames) f ≡ None → is_ended frames ≡ false
accepted-going command names frames f none =
    by (is_ended frames) (first_refusal-none (is_closed (phase_of frames), faults.Closed) (open_refusals command (held_after names frames) f) none).0
  where
    by : (b : Bool) → is_closed (if b then Closed else (if is_connected frames then Connected else New)) ≡ false → b ≡ false
    by true none = none
    by false none = refl

-- and any but a CONNECT after a CONNECT
accepted-connected : (b : Bool) (others : List Condition)
    → first_refusal ((is_closed (if b then Connected else New), faults.Closed) ∷ (is_new (if b then Connected else New), faults.NotConnected) ∷ others) ≡ None
    → (b ≡ true) × (first_refusal others ≡ None)
accepted-connected true others none = (refl, none)
accepted-connected false others none = cc

or_all : (a : Bool) → (a || true) ≡ true
or_all true = refl
or_all false = refl

first : (a b : Bool) (x y : SessionFault) → first_refusal ((a, x) ∷ (b, y) ∷ []) ≡ None → a ≡ false
first true b x y none = cc
first false b x y none = refl

fourth : (a b c d e : Bool) (v w x y z : SessionFault) → first_refusal ((a, v) ∷ (b, w) ∷ (c, x) ∷ (d, y) ∷ (e, z) ∷ []) ≡ None → d ≡ false
fourth true b c d e v w x y z none = cc
fourth false true c d e v w x y z none = cc
fourth false false true d e v w x y z none = cc
fourth false false false true e v w x y z none = cc
fourth false false false false e v w x y z none = refl

module _ (names : List (List ℕ)) (frames : List RawFrame) (f : RawFrame) where
  is_ended-push : is_ended (frames ++ f ∷ []) ≡ (is_ended frames || is_disconnect f.command)
  is_ended-push = list_any-push (λ f. is_disconnect f.command) frames f

  is_connected-push : is_connected (frames ++ f ∷ []) ≡ (is_connected frames || is_connect f.command)
  is_connected-push = list_any-push (λ f. is_connect f.command) frames f

  -- one more frame that doesn't end the session, by what it changes
  live-push : (phase : Phase) (subscriptions : List (List ℕ × Topic)) (parts : List (List ℕ × Bool)) (transactions : List (List ℕ × List SentMessage))
      → is_ended frames ≡ false → is_disconnect f.command ≡ false
      → (if is_connected frames || is_connect f.command then Connected else New) ≡ phase
      → subscriptions_left names (frames ++ f ∷ []) ≡ subscriptions
      → parts_left (frames ++ f ∷ []) ≡ parts
      → transactions_left names (frames ++ f ∷ []) ≡ transactions
      → record { names = names; phase = phase; subscriptions = subscriptions; parts = parts; transactions = transactions } ≡ held_after names (frames ++ f ∷ [])
  live-push phase subscriptions parts transactions going no_disconnect phase_is subscriptions_are parts_are transactions_are =
      let goes_on : is_ended (frames ++ f ∷ []) ≡ false = is_ended-push ∙ (λ i. going i || no_disconnect i) in
      let phase_now : (if is_connected (frames ++ f ∷ []) then Connected else New) ≡ phase = ap (λ b. if b then Connected else New) is_connected-push ∙ phase_is in
      let now : live names (frames ++ f ∷ []) ≡ record { names = names; phase = phase; subscriptions = subscriptions; parts = parts; transactions = transactions } =
      λ i. record { names = names; phase = phase_now i; subscriptions = subscriptions_are i; parts = parts_are i; transactions = transactions_are i } in
      sym now ∙ sym (held_after-live names (frames ++ f ∷ []) goes_on)

  -- what a frame but CONNECT is refused for, where no fault is found
  connected-refusals : (others : List Condition) → is_ended frames ≡ false
      → first_refusal ((is_closed (phase_of frames), faults.Closed) ∷ (is_new (phase_of frames), faults.NotConnected) ∷ others) ≡ None
      → (is_connected frames ≡ true) × (first_refusal others ≡ None)
  connected-refusals others going none =
      accepted-connected (is_connected frames) others
      (let phase_is : phase_of frames ≡ (if is_connected frames then Connected else New) = ap (λ b. if b then Closed else (if is_connected frames then Connected else New)) going in
      subst (λ p. first_refusal ((is_closed p, faults.Closed) ∷ (is_new p, faults.NotConnected) ∷ others) ≡ None) phase_is none)

  -- any but a CONNECT or a DISCONNECT
  connected-push : (subscriptions : List (List ℕ × Topic)) (parts : List (List ℕ × Bool)) (transactions : List (List ℕ × List SentMessage))
      → is_ended frames ≡ false → is_disconnect f.command ≡ false → is_connected frames ≡ true
      → subscriptions_left names (frames ++ f ∷ []) ≡ subscriptions
      → parts_left (frames ++ f ∷ []) ≡ parts
      → transactions_left names (frames ++ f ∷ []) ≡ transactions
      → record { names = names; phase = if is_connected frames then Connected else New; subscriptions = subscriptions; parts = parts; transactions = transactions } ≡ held_after names (frames ++ f ∷ [])
  connected-push subscriptions parts transactions going no_disconnect connected subscriptions_are parts_are transactions_are =
      let phase_is : (if is_connected frames || is_connect f.command then Connected else New) ≡ (if is_connected frames then Connected else New) = rw connected in
      live-push (if is_connected frames then Connected else New) subscriptions parts transactions going no_disconnect phase_is subscriptions_are parts_are transactions_are

  not_send : is_send f.command ≡ false → (x : List ℕ) → is_send_in x f ≡ false
  not_send none x = λ i. none i && option_map_or (λ y. bytes_eq y x) (first_of (codes "transaction") f.headers) false

  -- what each frame changes is what it opens and closes in the list
  abbrev pub Follows : Command → Type 0
  Follows command = f.command ≡ command → refusal_by command (held_after names frames) f ≡ None → effect command (held_after names frames) f ≡ held_after names (frames ++ f ∷ [])

  to_live : (command : Command) → is_ended frames ≡ false → effect command (live names frames) f ≡ held_after names (frames ++ f ∷ []) → effect command (held_after names frames) f ≡ held_after names (frames ++ f ∷ [])
  to_live command going after = ap (λ s. effect command s f) (held_after-live names frames going) ∙ after

  -- Follows holds of a SUBSCRIBE
  pub subscribe-follows : Follows commands.Subscribe
  subscribe-follows e none =
      let s : Held = held_after names frames in
      let going : is_ended frames ≡ false = accepted-going commands.Subscribe names frames f none in
      let checked : (is_connected frames ≡ true) × (first_refusal (refusals_by commands.Subscribe s f) ≡ None) = connected-refusals (refusals_by commands.Subscribe s f) going none in
      let shut_here : is_open (id_of f) s.subscriptions ≡ false = fourth (has_other_ack f) (has_bad_destination s f) (has_one_topic_too_many s f) (is_open (id_of f) s.subscriptions) (is_full s.subscriptions) faults.AckMode faults.BadDestination faults.TooManyTopics faults.SubIdInUse faults.TooManySubs checked.1 in
      let shut : is_open (id_of f) (subscriptions_left names frames) ≡ false = subst (λ b. is_open (id_of f) (if b then [] else subscriptions_left names frames) ≡ false) going shut_here in
      to_live commands.Subscribe going (connected-push _ _ _ going (ap is_disconnect e) checked.0
      (subscribed_with-open (topic_of names) frames f (ap is_subscribe e) shut)
      (subscribed_with-open wants_parts frames f (ap is_subscribe e) (subscribed_with-ids wants_parts (topic_of names) (id_of f) frames ∙ shut))
      (transactions_left-quiet names frames f (ap is_begin e) (ap is_end e) (not_send (ap is_send e))))

  -- Follows holds of an UNSUBSCRIBE
  pub unsubscribe-follows : Follows commands.Unsubscribe
  unsubscribe-follows e none =
      let s : Held = held_after names frames in
      let going : is_ended frames ≡ false = accepted-going commands.Unsubscribe names frames f none in
      let checked : (is_connected frames ≡ true) × (first_refusal (refusals_by commands.Unsubscribe s f) ≡ None) = connected-refusals (refusals_by commands.Unsubscribe s f) going none in
      to_live commands.Unsubscribe going (connected-push _ _ _ going (ap is_disconnect e) checked.0
      (subscribed_with-close (topic_of names) frames f (ap is_subscribe e) (ap is_unsubscribe e))
      (subscribed_with-close wants_parts frames f (ap is_subscribe e) (ap is_unsubscribe e))
      (transactions_left-quiet names frames f (ap is_begin e) (ap is_end e) (not_send (ap is_send e))))

  -- Follows holds of a BEGIN
  pub begin-follows : Follows commands.Begin
  begin-follows e none =
      let s : Held = held_after names frames in
      let going : is_ended frames ≡ false = accepted-going commands.Begin names frames f none in
      let checked : (is_connected frames ≡ true) × (first_refusal (refusals_by commands.Begin s f) ≡ None) = connected-refusals (refusals_by commands.Begin s f) going none in
      let shut_here : is_open (transaction_of f) s.transactions ≡ false = first (is_open (transaction_of f) s.transactions) (is_full s.transactions) faults.TxnInUse faults.TooManyTxns checked.1 in
      let shut : is_open (transaction_of f) (transactions_left names frames) ≡ false = subst (λ b. is_open (transaction_of f) (if b then [] else transactions_left names frames) ≡ false) going shut_here in
      to_live commands.Begin going (connected-push _ _ _ going (ap is_disconnect e) checked.0
      (subscribed_with-quiet (topic_of names) frames f (ap is_subscribe e) (ap is_unsubscribe e))
      (subscribed_with-quiet wants_parts frames f (ap is_subscribe e) (ap is_unsubscribe e))
      (transactions_left-open names frames f (ap is_begin e) (not_send (ap is_send e)) shut))

  -- Follows holds of a COMMIT
  pub commit-follows : Follows commands.Commit
  commit-follows e none =
      let s : Held = held_after names frames in
      let going : is_ended frames ≡ false = accepted-going commands.Commit names frames f none in
      let checked : (is_connected frames ≡ true) × (first_refusal (refusals_by commands.Commit s f) ≡ None) = connected-refusals (refusals_by commands.Commit s f) going none in
      to_live commands.Commit going (connected-push _ _ _ going (ap is_disconnect e) checked.0
      (subscribed_with-quiet (topic_of names) frames f (ap is_subscribe e) (ap is_unsubscribe e))
      (subscribed_with-quiet wants_parts frames f (ap is_subscribe e) (ap is_unsubscribe e))
      (transactions_left-close names frames f (ap is_begin e) (ap is_end e) (not_send (ap is_send e))))

  -- Follows holds of an ABORT
  pub abort-follows : Follows commands.Abort
  abort-follows e none =
      let s : Held = held_after names frames in
      let going : is_ended frames ≡ false = accepted-going commands.Abort names frames f none in
      let checked : (is_connected frames ≡ true) × (first_refusal (refusals_by commands.Abort s f) ≡ None) = connected-refusals (refusals_by commands.Abort s f) going none in
      to_live commands.Abort going (connected-push _ _ _ going (ap is_disconnect e) checked.0
      (subscribed_with-quiet (topic_of names) frames f (ap is_subscribe e) (ap is_unsubscribe e))
      (subscribed_with-quiet wants_parts frames f (ap is_subscribe e) (ap is_unsubscribe e))
      (transactions_left-close names frames f (ap is_begin e) (ap is_end e) (not_send (ap is_send e))))

  -- Follows holds of a DISCONNECT
  pub disconnect-follows : Follows commands.Disconnect
  disconnect-follows e none =
      let ended : true ≡ is_ended (frames ++ f ∷ []) = sym (is_ended-push ∙ (ap (λ c. is_ended frames || is_disconnect c) e) ∙ or_all (is_ended frames)) in
      λ i. record {
        names = names;
        phase = if ended i then Closed else (if is_connected (frames ++ f ∷ []) then Connected else New);
        subscriptions = if ended i then [] else subscriptions_left names (frames ++ f ∷ []);
        parts = if ended i then [] else parts_left (frames ++ f ∷ []);
        transactions = if ended i then [] else transactions_left names (frames ++ f ∷ []);
      }

  connect-effect : is_connect f.command ≡ true → is_subscribe f.command ≡ false → is_unsubscribe f.command ≡ false → is_begin f.command ≡ false → is_end f.command ≡ false → is_send f.command ≡ false → is_disconnect f.command ≡ false
      → is_ended frames ≡ false → effect commands.Connect (live names frames) f ≡ held_after names (frames ++ f ∷ [])
  connect-effect connects no_subscribe no_unsubscribe no_begin no_end no_send no_disconnect going =
      let phase_is : (if is_connected frames || is_connect f.command then Connected else New) ≡ Connected = ap (λ b. if is_connected frames || b then Connected else New) connects ∙ ap (λ b. if b then Connected else New) (or_all (is_connected frames)) in
      live-push Connected _ _ _ going no_disconnect phase_is (subscribed_with-quiet (topic_of names) frames f no_subscribe no_unsubscribe) (subscribed_with-quiet wants_parts frames f no_subscribe no_unsubscribe) (transactions_left-quiet names frames f no_begin no_end (not_send no_send))

  -- Follows holds of a CONNECT
  pub connect-follows : Follows commands.Connect
  connect-follows e none =
      let going : is_ended frames ≡ false = accepted-going commands.Connect names frames f none in
      to_live commands.Connect going (connect-effect (ap is_connect e) (ap is_subscribe e) (ap is_unsubscribe e) (ap is_begin e) (ap is_end e) (ap is_send e) (ap is_disconnect e) going)

  -- Follows holds of a STOMP
  pub stomp-follows : Follows commands.Stomp
  stomp-follows e none =
      let going : is_ended frames ≡ false = accepted-going commands.Stomp names frames f none in
      to_live commands.Stomp going (connect-effect (ap is_connect e) (ap is_subscribe e) (ap is_unsubscribe e) (ap is_begin e) (ap is_end e) (ap is_send e) (ap is_disconnect e) going)

  -- Follows holds of a SEND
  pub send-follows : Follows commands.Send
  send-follows e none =
      let s : Held = held_after names frames in
      let going : is_ended frames ≡ false = accepted-going commands.Send names frames f none in
      let checked : (is_connected frames ≡ true) × (first_refusal (refusals_by commands.Send s f) ≡ None) = connected-refusals (refusals_by commands.Send s f) going none in
      to_live commands.Send going (by going checked.0 (first_of (codes "transaction") f.headers) refl e)
    where
      by : is_ended frames ≡ false → is_connected frames ≡ true → (o : Option (List ℕ)) → first_of (codes "transaction") f.headers ≡ o → f.command ≡ commands.Send
          → option_map_or (λ x. record { names = names; phase = if is_connected frames then Connected else New; subscriptions = subscriptions_left names frames; parts = parts_left frames; transactions = with_send x (send_of names f) (transactions_left names frames) }) (first_of (codes "transaction") f.headers) (live names frames)
          ≡ held_after names (frames ++ f ∷ [])
      by going connected None at e =
          let outside : (x : List ℕ) → is_send_in x f ≡ false = λ x. (λ i. is_send (e i) && option_map_or (λ y. bytes_eq y x) (at i) false) in
          rw at (connected-push (subscriptions_left names frames) (parts_left frames) (transactions_left names frames) going (ap is_disconnect e) connected
          (subscribed_with-quiet (topic_of names) frames f (ap is_subscribe e) (ap is_unsubscribe e))
          (subscribed_with-quiet wants_parts frames f (ap is_subscribe e) (ap is_unsubscribe e))
          (transactions_left-quiet names frames f (ap is_begin e) (ap is_end e) outside))
      by going connected (Some x) at e =
          let inside : (y : List ℕ) → is_send_in y f ≡ bytes_eq x y = λ y. (λ i. is_send (e i) && option_map_or (λ z. bytes_eq z y) (at i) false) in
          rw at (connected-push (subscriptions_left names frames) (parts_left frames) (with_send x (send_of names f) (transactions_left names frames)) going (ap is_disconnect e) connected
          (subscribed_with-quiet (topic_of names) frames f (ap is_subscribe e) (ap is_unsubscribe e))
          (subscribed_with-quiet wants_parts frames f (ap is_subscribe e) (ap is_unsubscribe e))
          (transactions_left-send names frames f (ap is_begin e) (ap is_end e) x inside))
