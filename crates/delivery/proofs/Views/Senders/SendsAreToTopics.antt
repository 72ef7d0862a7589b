-- The SENDs that an accepted frame commits are to topics that there are.
use Rattle.delivery.proofs.Words.All.{◌≡◌, ℕ, suc, ◌+◌, ◌<◌, ◌≤◌, Bool, true, false, cond, not, ◌&&◌, ◌||◌, inl, inr, List, [], ◌∷◌, length, map, Option, Some, None, refl, sym, ap, subst, ◌∙◌, arith, codes, list_all, list_any, lookup, option_map_or, unwrap_or, bytes_eq, false≢true, lt-ltb, and_from, and_parts, length-append, In, Topic, SentMessage, Command, RawFrame, first_of, action_by, commit, field, has_destination, is_begin, is_send, is_send_in, names_transaction, send_of, topic_of, transaction_of, with_destination, is_known, Held, is_ended, transactions_left, sends_in, known-with_destination, topic-with_destination, with_destination-grows, World, is_topic, accepted_of, Core, core_for, names_at, session_at, IsReached}
use Rattle.std.specs.Prelude.{filter}
use Rattle.stomp_frame.specs.declared.command.Command.TheVariants as commands
use Rattle.stomp_session.specs.declared.action.Action.TheVariants as actions
use Rattle.stomp_session.specs.Names.{index_of}
use Rattle.stomp_session.specs.Open.{open_transactions}
use Rattle.stomp_session.proofs.Later.{first_index, index_is_first, send_has}
use Rattle.delivery.proofs.Core.Counts.{topic_for_name, topics_counted}
use Rattle.delivery.proofs.Core.NamesKnown.{known_all}

-- where it is a SEND, its destination is one of these names
abbrev Knows : List (List ℕ) → RawFrame → Type 0
Knows names f = is_send f.command ≡ true → is_known (field (codes "destination") f) names ≡ true

-- ---- SENDs to topics

before_end : (p : List ℕ → Bool) (xs : List (List ℕ)) → list_any p xs ≡ true → first_index p xs < length xs
before_end p [] e = absurd (false≢true e)
before_end p (x ∷ xs) e = (elim (p x) as (λ (b : Bool). (c : Bool) (m : ℕ) (n : ℕ) → (b || c) ≡ true → (c ≡ true → m < n) → cond b 0 (1 + m) < suc n) [
  | true ↦ λ c m n e h. omega arith
  | false ↦ λ c m n e h. (let l = h e in omega arith)
]) (list_any p xs) (first_index p xs) (length xs) e (before_end p xs)

place_within : (name : List ℕ) (names : List (List ℕ)) → is_known name names ≡ true → index_of name names < length names
place_within name names e =
    let l = before_end (bytes_eq name) names e in let same : first_index (bytes_eq name) names ≡ index_of name names = index_is_first name names in omega (arith, l, same)

-- each is to a topic that there is
abbrev pub AreNamed : World → List SentMessage → Type 0
AreNamed w sends = list_all (λ send. is_topic w send.topic) sends ≡ true

topic_there : (w : World) (names : List (List ℕ)) (f : RawFrame) → length names ≤ length w.topics → Knows names f → is_send f.command ≡ true → is_topic w (topic_of names f) ≡ true
topic_there w names f many known sent =
    let l = place_within (field (codes "destination") f) names (known sent) in lt-ltb (index_of (field (codes "destination") f) names) (length w.topics) (omega (arith, l, many))

sent_named : (w : World) (names : List (List ℕ)) (x : List ℕ) (fs : List RawFrame) → length names ≤ length w.topics
    → ((g : RawFrame) → In g fs → Knows names g) → AreNamed w (map (send_of names) (filter (is_send_in x) fs))
sent_named w names x [] many known = refl
sent_named w names x (f ∷ fs) many known =
    (elim (is_send_in x f) as (λ (b : Bool). is_send_in x f ≡ b → AreNamed w (map (send_of names) (filter (is_send_in x) fs)) → AreNamed w (map (send_of names) (cond b (f ∷ filter (is_send_in x) fs) (filter (is_send_in x) fs)))) [
      | false ↦ λ e h. h
      | true ↦ λ e h. and_from _ _ (topic_there w names f many (known f (inl refl)) (and_parts _ _ e).0) h
    ]) refl (sent_named w names x fs many (λ g i. known g (inr i)))

found_named : (w : World) (names : List (List ℕ)) (x : List ℕ) (fs : List RawFrame) → length names ≤ length w.topics
    → ((g : RawFrame) → In g fs → Knows names g) → AreNamed w (sends_in x (transactions_left names fs))
found_named w names x [] many known = refl
found_named w names x (f ∷ fs) many known =
    go (is_begin f.command && not (list_any (names_transaction (transaction_of f)) fs)) (bytes_eq x (transaction_of f)) refl
    (found_named w names x fs many (λ g i. known g (inr i)))
  where
    sends : List SentMessage
    sends = map (send_of names) (filter (is_send_in (transaction_of f)) fs)

    go : (b p : Bool) → bytes_eq x (transaction_of f) ≡ p → AreNamed w (sends_in x (transactions_left names fs))
        → AreNamed w (sends_in x (cond b ((transaction_of f, sends) ∷ transactions_left names fs) (transactions_left names fs)))
    go false p e h = h
    go true true e h =
        subst (λ (q : Bool). AreNamed w (unwrap_or (cond q (Some sends) (lookup (bytes_eq x) (transactions_left names fs))) [])) (sym e)
        (sent_named w names (transaction_of f) fs many (λ g i. known g (inr i)))
    go true false e h = subst (λ (q : Bool). AreNamed w (unwrap_or (cond q (Some sends) (lookup (bytes_eq x) (transactions_left names fs))) [])) (sym e) h

open_named : (w : World) (names : List (List ℕ)) (x : List ℕ) (fs : List RawFrame) → length names ≤ length w.topics
    → ((g : RawFrame) → In g fs → Knows names g) → AreNamed w (sends_in x (open_transactions names fs))
open_named w names x fs many known = elim (is_ended fs) as (λ b. AreNamed w (sends_in x (cond b [] (transactions_left names fs)))) [ true ↦ refl | false ↦ (found_named w names x fs many known) ]

-- ---- what a frame commits

-- there are some, each to a topic that there is
pub record AreSends (w : World) (sends : List SentMessage) : Type 0 where
  pub first : SentMessage
  pub others : List SentMessage
  pub is : sends ≡ first ∷ others
  pub named : AreNamed w sends

made_commit : (w : World) (them sends : List SentMessage) → commit them ≡ actions.Commit sends → AreNamed w them → AreSends w sends
made_commit w [] sends e h = absurd (cc)
made_commit w (first ∷ others) sends e h = let is : first ∷ others ≡ sends = cc in record { first = first; others = others; is = sym is; named = subst (AreNamed w) is h }

made_alone : (w : World) (s : Held) (f : RawFrame) (sends : List SentMessage) (o : Option (List ℕ))
    → option_map_or (λ transaction. actions.Nothing) o (commit (send_of s.names f ∷ [])) ≡ actions.Commit sends → is_topic w (topic_of s.names f) ≡ true → AreSends w sends
made_alone w s f sends (Some x) e h = absurd (cc)
made_alone w s f sends None e h = made_commit w (send_of s.names f ∷ []) sends e (and_from _ _ h refl)

made_by : (command : Command) (w : World) (s : Held) (f : RawFrame) (sends : List SentMessage) → action_by command s f ≡ actions.Commit sends
    → (is_send command ≡ true → is_topic w (topic_of s.names f) ≡ true) → ((x : List ℕ) → AreNamed w (sends_in x s.transactions)) → AreSends w sends
made_by commands.Send w s f sends e own others = made_alone w s f sends (first_of (codes "transaction") f.headers) e (own refl)
made_by commands.Commit w s f sends e own others = made_commit w (sends_in (transaction_of f) s.transactions) sends e (others (transaction_of f))
made_by _ w s f sends e own others = absurd (cc)

-- a core has a topic for each name so far
pub topics_as_named : (k : Core) → IsReached k → length k.world.topics ≡ length (names_at k)
topics_as_named k reached =
    subst (λ (z : Core). length z.world.topics ≡ length (names_at z)) (sym reached.is)
    (topics_counted reached.topics reached.capacity reached.steps reached.as_many reached.run)

-- the topic of a frame is there once it is made
pub topic_made : (k : Core) (f : RawFrame) → IsReached k → has_destination f.command ≡ true → is_topic (core_for k f).world (topic_of (names_at k) f) ≡ true
topic_made k f reached has =
    let names = with_destination f (names_at k) in let w = (core_for k f).world in let many = topic_for_name k f (topics_as_named k reached) in
    let l = place_within (field (codes "destination") f) names (known-with_destination f (names_at k) has) in
    let there : is_topic w (topic_of names f) ≡ true =
    lt-ltb (index_of (field (codes "destination") f) names) (length w.topics) (omega (arith, l, many)) in
    subst (λ (t : Topic). is_topic w t ≡ true) (topic-with_destination f (names_at k) has) there

-- what an accepted frame commits, where its destination has its topic
pub committed_sends : (k : Core) (c : ℕ) (f : RawFrame) (sends : List SentMessage) → IsReached k
    → action_by f.command (session_at k c) f ≡ actions.Commit sends → AreSends (core_for k f).world sends
committed_sends k c f sends reached is =
    let names = names_at k in let w = (core_for k f).world in let made = topic_for_name k f (topics_as_named k reached) in let grown = with_destination-grows f names in
    let more = ap (λ (z : List (List ℕ)). length z) grown.is ∙ length-append names grown.more in let many : length names ≤ length w.topics = omega (arith, made, more) in
    made_by f.command w (session_at k c) f sends is
    (λ sent. topic_made k f reached (send_has f.command sent))
    (λ x. open_named w names x (accepted_of c k.steps) many (λ g i sent. known_all k.names k.steps c g i (send_has g.command sent)))
