-- Names that come later: a topic's number stays, and what is open after frames whose destinations are known.
use Rattle.std.proofs.Common.{◌≡◌, ℕ, ◌+◌, ◌-◌, Bool, true, false, cond, not, ◌&&◌, ◌||◌, inl, inr, List, [], ◌∷◌, ◌++◌, length, take, map, filter, codes, refl, sym, ap, subst, ◌∙◌, arith, if◌then◌else◌}
use Rattle.std.proofs.lemmas.Bool.{false≢true, or_parts, and_parts}
use Rattle.std.proofs.lemmas.List.{append-nil, length-append}
use Rattle.std.proofs.lemmas.List.Folds.{list_any-append}
use Rattle.std.proofs.lemmas.List.Recursion.{is_position_or_len}
use Rattle.std.proofs.Math.Seq.{take-append_seam}
use Rattle.std.specs.Cmp.Lexicographic.{nat_list_eq_equiv}
use Rattle.std.specs.List.{list_any}
use Rattle.std.specs.Str.{bytes_eq}
use Rattle.stomp_frame.specs.declared.command.Command.{Command}
use Rattle.stomp_frame.specs.declared.command.Command.TheVariants as commands
use Rattle.stomp_frame.specs.declared.raw_frame.RawFrame.{RawFrame}
use Rattle.mcast_txn.specs.Lists.{In}
use Rattle.mcast_txn.proofs.Members.{In-push_cases}
use Rattle.stomp_session.specs.Names.{is_known, index_of, with_name}
use Rattle.stomp_session.specs.Frames.{field, has_destination, with_destination, is_send, is_send_in, is_subscribe, is_begin, names_subscription, names_transaction, id_of, topic_of, transaction_of, send_of}
use Rattle.stomp_session.specs.Open.{state_of, IsKnownTo, LaterNamesStand, held_after, is_ended, open_parts, phase_of, subscriptions_left, transactions_left}

-- the number of the first of these names that passes; how many there are where none does
abbrev pub first_index : (List ℕ → Bool) → List (List ℕ) → ℕ
first_index p [] = 0
first_index p (x ∷ xs) = cond (p x) 0 (1 + first_index p xs)

-- a name's number is that of the first that is it
pub index_is_first : (name : List ℕ) (names : List (List ℕ)) → first_index (bytes_eq name) names ≡ index_of name names
index_is_first name names = is_position_or_len (first_index (bytes_eq name)) (bytes_eq name) refl (λ x xs. refl) names

first-later : (p : List ℕ → Bool) (names more : List (List ℕ)) → list_any p names ≡ true → first_index p (names ++ more) ≡ first_index p names
first-later p [] more e = absurd (false≢true e)
first-later p (x ∷ names) more e = by (p x) e (first-later p names more)
  where
    by : (b : Bool) → (b || list_any p names) ≡ true → (list_any p names ≡ true → first_index p (names ++ more) ≡ first_index p names)
        → cond b 0 (1 + first_index p (names ++ more)) ≡ cond b 0 (1 + first_index p names)
    by true e rest = refl
    by false e rest = ap (λ (k : ℕ). 1 + k) (rest e)

first-push : (p : List ℕ → Bool) (names : List (List ℕ)) (y : List ℕ) → p y ≡ true → first_index p (names ++ y ∷ []) ≡ first_index p names
first-push p [] y e = rw e
first-push p (x ∷ names) y e = ap (λ (k : ℕ). cond (p x) 0 (1 + k)) (first-push p names y e)

first-none : (p : List ℕ → Bool) (names : List (List ℕ)) → list_any p names ≡ false → first_index p names ≡ length names
first-none p [] e = refl
first-none p (x ∷ names) e =
    let none : (p x ≡ false) × (list_any p names ≡ false) = or_parts (p x) (list_any p names) e in
    let rest : first_index p names ≡ length names = first-none p names none.1 in
    rw none.0 (omega (arith, rest))

-- a known name keeps its number where more names come
pub index-later : (name : List ℕ) (names more : List (List ℕ)) → is_known name names ≡ true → index_of name (names ++ more) ≡ index_of name names
index-later name names more e = sym (index_is_first name (names ++ more)) ∙ (first-later (bytes_eq name) names more e ∙ index_is_first name names)

-- the number of a name that isn't there is how many there are
pub index-unknown : (name : List ℕ) (names : List (List ℕ)) → is_known name names ≡ false → index_of name names ≡ length names
index-unknown name names e = sym (index_is_first name names) ∙ first-none (bytes_eq name) names e

-- a name that is added gets the number that it had before
pub index-with_name : (name : List ℕ) (names : List (List ℕ)) → index_of name (with_name name names) ≡ index_of name names
index-with_name name names = by (is_known name names)
  where
    by : (b : Bool) → index_of name (if b then names else names ++ name ∷ []) ≡ index_of name names
    by true = refl
    by false = sym (index_is_first name (names ++ name ∷ [])) ∙ (first-push (bytes_eq name) names name (nat_list_eq_equiv.refl name) ∙ index_is_first name names)

-- a known name stays known where more names come
pub known-later : (name : List ℕ) (names more : List (List ℕ)) → is_known name names ≡ true → is_known name (names ++ more) ≡ true
known-later name names more e = list_any-append (bytes_eq name) names more ∙ ap (λ b. b || is_known name more) e

-- a name that is added is known
pub known-with_name : (name : List ℕ) (names : List (List ℕ)) → is_known name (with_name name names) ≡ true
known-with_name name names = by (is_known name names) refl
  where
    by : (b : Bool) → is_known name names ≡ b → is_known name (if b then names else names ++ name ∷ []) ≡ true
    by true e = e
    by false e = list_any-append (bytes_eq name) names (name ∷ []) ∙ (λ i. e i || (nat_list_eq_equiv.refl name i || false))

-- names, and what they have grown to: the same with more after them
pub record Grown (names : List (List ℕ)) (later : List (List ℕ)) : Type 0 where
  pub more : List (List ℕ)
  pub is : later ≡ names ++ more

-- the names with one more are those that were there, and at most one more
pub with_name-grows : (name : List ℕ) (names : List (List ℕ)) → Grown names (with_name name names)
with_name-grows name names = by (is_known name names)
  where
    by : (b : Bool) → Grown names (if b then names else names ++ name ∷ [])
    by true = record { more = []; is = sym (append-nil names) }
    by false = record { more = name ∷ []; is = refl }

-- so they are with a frame's destination
pub with_destination-grows : (f : RawFrame) (names : List (List ℕ)) → Grown names (with_destination f names)
with_destination-grows f names = by (has_destination f.command)
  where
    by : (b : Bool) → Grown names (if b then with_name (field (codes "destination") f) names else names)
    by true = with_name-grows (field (codes "destination") f) names
    by false = record { more = []; is = sym (append-nil names) }

-- a frame without a destination adds no name
pub with_destination-none : (f : RawFrame) (names : List (List ℕ)) → has_destination f.command ≡ false → with_destination f names ≡ names
with_destination-none f names none = ap (λ b. if b then with_name (field (codes "destination") f) names else names) none

-- a frame with one adds it
pub with_destination-some : (f : RawFrame) (names : List (List ℕ)) → has_destination f.command ≡ true → with_destination f names ≡ with_name (field (codes "destination") f) names
with_destination-some f names some = ap (λ b. if b then with_name (field (codes "destination") f) names else names) some

-- where a name was new, the names without the last one are what they were before it was added
pub taken_back : (name : List ℕ) (names : List (List ℕ)) → is_known name names ≡ false → take (length (with_name name names) - 1) (with_name name names) ≡ names
taken_back name names new =
    let pushed : with_name name names ≡ names ++ name ∷ [] = ap (λ b. if b then names else names ++ name ∷ []) new in
    let one_more : length (names ++ name ∷ []) ≡ length names + 1 = length-append names (name ∷ []) in
    let count : length (names ++ name ∷ []) - 1 ≡ length names = omega (arith, one_more) in
    ap (λ them. take (length them - 1) them) pushed ∙ (ap (λ n. take n (names ++ name ∷ [])) count ∙ take-append_seam names (name ∷ []))

-- the frame's topic has the same number by both lists of names
abbrev pub SameTopic : List (List ℕ) → List (List ℕ) → RawFrame → Type 0
SameTopic names others f = has_destination f.command ≡ true → topic_of others f ≡ topic_of names f

abbrev AreSame : List (List ℕ) → List (List ℕ) → List RawFrame → Type 0
AreSame names others frames = (f : RawFrame) → In f frames → SameTopic names others f

subscribe_has : (command : Command) → is_subscribe command ≡ true → has_destination command ≡ true
subscribe_has commands.Subscribe e = refl
subscribe_has _ e = cc

-- a SEND has a destination
pub send_has : (command : Command) → is_send command ≡ true → has_destination command ≡ true
send_has commands.Send e = refl
send_has _ e = cc

pub subscriptions_left-same : (names others : List (List ℕ)) (frames : List RawFrame) → AreSame names others frames → subscriptions_left others frames ≡ subscriptions_left names frames
subscriptions_left-same names others [] same = refl
subscriptions_left-same names others (f ∷ after) same = by (is_subscribe f.command && not (list_any (names_subscription (id_of f)) after)) refl (subscriptions_left-same names others after (λ g i. same g (inr i)))
  where
    by : (b : Bool) → (is_subscribe f.command && not (list_any (names_subscription (id_of f)) after)) ≡ b → subscriptions_left others after ≡ subscriptions_left names after
        → cond b ((id_of f, topic_of others f) ∷ subscriptions_left others after) (subscriptions_left others after)
        ≡ cond b ((id_of f, topic_of names f) ∷ subscriptions_left names after) (subscriptions_left names after)
    by false e rest = rest
    by true e rest =
        let topic : topic_of others f ≡ topic_of names f = same f (inl refl) (subscribe_has f.command (and_parts _ _ e).0) in
        λ i. (id_of f, topic i) ∷ rest i

sends-same : (names others : List (List ℕ)) (x : List ℕ) (frames : List RawFrame) → AreSame names others frames
    → map (send_of others) (filter (is_send_in x) frames) ≡ map (send_of names) (filter (is_send_in x) frames)
sends-same names others x [] same = refl
sends-same names others x (f ∷ frames) same = by (is_send_in x f) refl (sends-same names others x frames (λ g i. same g (inr i)))
  where
    by : (b : Bool) → is_send_in x f ≡ b
        → map (send_of others) (filter (is_send_in x) frames) ≡ map (send_of names) (filter (is_send_in x) frames)
        → map (send_of others) (cond b (f ∷ filter (is_send_in x) frames) (filter (is_send_in x) frames))
        ≡ map (send_of names) (cond b (f ∷ filter (is_send_in x) frames) (filter (is_send_in x) frames))
    by false e rest = rest
    by true e rest =
        let topic : topic_of others f ≡ topic_of names f = same f (inl refl) (send_has f.command (and_parts _ _ e).0) in
        λ i. record { topic = topic i; headers = f.headers; body = f.body } ∷ rest i

transactions_left-same : (names others : List (List ℕ)) (frames : List RawFrame) → AreSame names others frames → transactions_left others frames ≡ transactions_left names frames
transactions_left-same names others [] same = refl
transactions_left-same names others (f ∷ after) same =
    by (is_begin f.command && not (list_any (names_transaction (transaction_of f)) after)) (transactions_left-same names others after (λ g i. same g (inr i)))
    (sends-same names others (transaction_of f) after (λ g i. same g (inr i)))
  where
    by : (b : Bool) → transactions_left others after ≡ transactions_left names after
        → map (send_of others) (filter (is_send_in (transaction_of f)) after) ≡ map (send_of names) (filter (is_send_in (transaction_of f)) after)
        → cond b ((transaction_of f, map (send_of others) (filter (is_send_in (transaction_of f)) after)) ∷ transactions_left others after) (transactions_left others after)
        ≡ cond b ((transaction_of f, map (send_of names) (filter (is_send_in (transaction_of f)) after)) ∷ transactions_left names after) (transactions_left names after)
    by false rest sends = rest
    by true rest sends = λ i. (transaction_of f, sends i) ∷ rest i

-- by other names that number their topics alike, the same is open after frames
pub state-same : (names others : List (List ℕ)) (frames : List RawFrame) → ((f : RawFrame) → In f frames → SameTopic names others f)
    → state_of (held_after others frames) ≡ state_of (held_after names frames)
state-same names others frames same = λ i. record {
  phase = phase_of frames;
  subscriptions = if is_ended frames then [] else subscriptions_left-same names others frames same i;
  parts = open_parts frames;
  transactions = if is_ended frames then [] else transactions_left-same names others frames same i;
}

-- a frame whose destination is known has the same topic where more names come
pub topic-later : (names more : List (List ℕ)) (f : RawFrame) → IsKnownTo names f → SameTopic names (names ++ more) f
topic-later names more f known has = ap (λ (n : ℕ). record { 0 = n }) (index-later (field (codes "destination") f) names more (known has))

-- its destination stays known
pub is_known_to-later : (names more : List (List ℕ)) (f : RawFrame) → IsKnownTo names f → IsKnownTo (names ++ more) f
is_known_to-later names more f known has = known-later (field (codes "destination") f) names more (known has)

-- a frame's destination is known once it was added, and its topic is the one that it had before
pub known-with_destination : (f : RawFrame) (names : List (List ℕ)) → IsKnownTo (with_destination f names) f
known-with_destination f names has = rw (with_destination-some f names has) (known-with_name (field (codes "destination") f) names)

pub topic-with_destination : (f : RawFrame) (names : List (List ℕ)) → SameTopic names (with_destination f names) f
topic-with_destination f names has = rw (with_destination-some f names has) (ap (λ (n : ℕ). record { 0 = n }) (index-with_name (field (codes "destination") f) names))

-- what is open after frames whose destinations are known is the same where more names come
pub state-later : (names more : List (List ℕ)) (frames : List RawFrame) → ((f : RawFrame) → In f frames → IsKnownTo names f)
    → state_of (held_after (names ++ more) frames) ≡ state_of (held_after names frames)
state-later names more frames known = state-same names (names ++ more) frames (λ f i. topic-later names more f (known f i))

-- so the next frame is judged by the same, but for the names
pub held-later : (names more : List (List ℕ)) (frames : List RawFrame) → ((f : RawFrame) → In f frames → IsKnownTo names f)
    → held_after (names ++ more) frames ≡ record (held_after names frames) { names = names ++ more }
held-later names more frames known = λ i. record {
  names = names ++ more;
  phase = phase_of frames;
  subscriptions = (state-later names more frames known i).subscriptions;
  parts = (state-later names more frames known i).parts;
  transactions = (state-later names more frames known i).transactions;
}

-- what a session stands for it still stands for once other connections have made topics
pub later_names_stand : LaterNamesStand
later_names_stand s names more frames stands = record {
  holds = stands.holds ∙ sym (state-later names more frames stands.known);
  known = λ f i. is_known_to-later names more f (stands.known f i);
}

-- of frames of which each but the last is known, the last with its destination added: all are known, and the same is open
module _ (names : List (List ℕ)) (frames : List RawFrame) (f : RawFrame) (known : (g : RawFrame) → In g frames → IsKnownTo names g) where
  pub known-push : (g : RawFrame) → In g (frames ++ f ∷ []) → IsKnownTo (with_destination f names) g
  known-push g i = elim (In-push_cases g f frames i) [
    | inl before ↦ let grown = with_destination-grows f names in subst (λ later. IsKnownTo later g) (sym grown.is) (is_known_to-later names grown.more g (known g before))
    | inr e ↦ subst (λ g. IsKnownTo (with_destination f names) g) e (known-with_destination f names)
  ]

  same-push : (g : RawFrame) → In g (frames ++ f ∷ []) → SameTopic names (with_destination f names) g
  same-push g i = elim (In-push_cases g f frames i) [
    | inl before ↦ let grown = with_destination-grows f names in subst (λ later. SameTopic names later g) (sym grown.is) (topic-later names grown.more g (known g before))
    | inr e ↦ subst (λ g. SameTopic names (with_destination f names) g) e (topic-with_destination f names)
  ]

  pub state-push : state_of (held_after (with_destination f names) (frames ++ f ∷ [])) ≡ state_of (held_after names (frames ++ f ∷ []))
  state-push = state-same names (with_destination f names) (frames ++ f ∷ []) same-push
