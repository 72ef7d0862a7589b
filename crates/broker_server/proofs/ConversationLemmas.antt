-- Calls of the broker, one after the other.
use Rattle.std.proofs.Common.{◌≡◌, ◌⊎◌, ◌<◌, ℕ, zero, suc, Bool, false, List, [], ◌∷◌, ◌++◌, length, map, take, Result, Ok, Err, OnOk, OnErr, refl, sym, ap, subst, ◌∙◌, inl, inr, arith}
use Rattle.std.specs.Prelude.{get_or}
use Rattle.std.proofs.lemmas.List.{map-append}
use Rattle.std.specs.List.{list_any}
use Rattle.stomp_session.specs.declared.action.Action.{Action}
use Rattle.stomp_session.specs.declared.action.Step.{Step}
use Rattle.broker_server.specs.BrokerRows.{AsksInOrder, BrokerRow, SubName, Unsubscribes}
use Rattle.broker_server.specs.Conversations.{Acts, Concludes, ConversationState, Done, Performs, is_connect_action, replies}

-- these calls, and then those
pub asks_on : {B : Type 0} (called : B → BrokerRow → B → Type 0) (a b c : B) (rows more : List BrokerRow) → AsksInOrder called a rows b → AsksInOrder called b more c → AsksInOrder called a (rows ++ more) c
asks_on called a b c [] more e rest = subst (λ x. AsksInOrder called x more c) e rest
asks_on called a b c (row ∷ rows) more (mid, one, some) rest = (mid, one, asks_on called mid b c rows more some rest)

-- one call
pub asks_one : {B : Type 0} (called : B → BrokerRow → B → Type 0) (a b : B) (row : BrokerRow) → called a row b → AsksInOrder called a (row ∷ []) b
asks_one called a b row one = (b, one, refl)

-- an action is performed, and then answered
pub acts_by : {B : Type 0} (called : B → BrokerRow → B → Type 0) (a b c : B) (step : Step) (action : Action) (old between new : ConversationState) (first rest : List BrokerRow) (done : Done) → step.action ≡ action → AsksInOrder called a first b → AsksInOrder called b rest c → Performs action old first done between → Concludes done (replies (is_connect_action action) step.receipt) step.receipt between rest new → (asked : List BrokerRow) × AsksInOrder called a asked c × Acts step old asked new
acts_by called a b c step action old between new first rest done is asks more performs concludes = (
  first ++ rest,
  asks_on called a b c first rest asks more,
  inl (record {
    first = first;
    rest = rest;
    between = between;
    result = done;
    performs = subst (λ (q : Action). Performs q old first done between) (sym is) performs;
    concludes = subst (λ (q : Action). Concludes done (replies (is_connect_action q) step.receipt) step.receipt between rest new) (sym is) concludes;
    all = refl;
  }),
)

-- what is so where a call went well, or what is so where it failed
pub on_either : {T E : Type 0} (r : Result T E) (A B : Type 0) → OnOk r A → OnErr r B → A ⊎ B
on_either (Ok x) A B a b = inl a
on_either (Err e) A B a b = inr b

-- what is so where a call went well, of one that did
pub on_ok : {T E : Type 0} (r : Result T E) (x : T) (A : Type 0) → r ≡ Ok x → OnOk r A → A
on_ok r x A is a = subst (λ q. OnOk q A) is a

-- what is so where a call failed, of one that did
pub on_err : {T E : Type 0} (r : Result T E) (e : E) (A : Type 0) → r ≡ Err e → OnErr r A → A
on_err r e A is a = subst (λ q. OnErr q A) is a

-- none of the first so many passes
pub none_before : {X : Type 0} (p : X → Bool) (xs : List X) (i : ℕ) (d : X) → ((k : ℕ) → k < i → p (get_or xs k d) ≡ false) → list_any p (take i xs) ≡ false
none_before p [] zero d none = refl
none_before p [] (suc i) d none = refl
none_before p (x ∷ xs) zero d none = refl
none_before p (x ∷ xs) (suc i) d none =
    let first : p x ≡ false = none zero (omega arith) in rw first (none_before p xs i d (λ k less. none (suc k) (omega arith)))

-- some calls of which nothing is said
pub asks_some : {B X : Type 0} (row : X → BrokerRow) (xs : List X) (a b : B) → (length xs ≡ 0 → Prim.⊥) → AsksInOrder (λ old r new. Unit {0}) a (map row xs) b
asks_some row [] a b some = absurd (some refl)
asks_some row (x ∷ []) a b some = (b, tt, refl)
asks_some row (x ∷ y ∷ xs) a b some = (b, tt, asks_some row (y ∷ xs) b b (λ e. absurd (omega (arith, e))))

rows_named : {X : Type 0} (name : X → SubName) (xs : List X) → map (λ x. Unsubscribes (name x)) xs ≡ map (λ (n : SubName). Unsubscribes n) (map name xs)
rows_named name [] = refl
rows_named name (x ∷ xs) = ap (λ (rows : List BrokerRow). Unsubscribes (name x) ∷ rows) (rows_named name xs)

-- ends of the same subscriptions, however these are named
pub asks_named : {B X Y : Type 0} (called : B → BrokerRow → B → Type 0) (name : X → SubName) (other : Y → SubName) (xs : List X) (ys : List Y) (a b : B) → map name xs ≡ map other ys
    → AsksInOrder called a (map (λ x. Unsubscribes (name x)) xs) b → AsksInOrder called a (map (λ y. Unsubscribes (other y)) ys) b
asks_named called name other xs ys a b same asks =
    subst (λ (rows : List BrokerRow). AsksInOrder called a rows b) (rows_named name xs ∙ (ap (map (λ (n : SubName). Unsubscribes n)) same ∙ sym (rows_named other ys))) asks

-- one more end
pub asks_next : {B X : Type 0} (called : B → BrokerRow → B → Type 0) (name : X → SubName) (was : List X) (it : X) (a b c : B) → AsksInOrder called a (map (λ x. Unsubscribes (name x)) was) b → called b (Unsubscribes (name it)) c
    → AsksInOrder called a (map (λ x. Unsubscribes (name x)) (was ++ it ∷ [])) c
asks_next {X = X} called name was it a b c asked one =
    let row = λ (x : X). Unsubscribes (name x) in
    subst (λ (rows : List BrokerRow). AsksInOrder called a rows c) (sym (map-append row was (it ∷ []))) (asks_on called a b c (map row was) (row it ∷ []) asked (asks_one called b c (row it) one))
