-- How each move changes the connections: one more is open, one isn't open any more, or none is changed. So a
-- connection is closed where its standing says so, and never opens again.
use Rattle.delivery.proofs.Words.All.{◌≡◌, ◌≢◌, ℕ, ◌<◌, ◌≤◌, ◌==◌, Bool, true, false, not, ◌||◌, ◌⊎◌, inl, inr, List, [], ◌∷◌, ◌++◌, length, get_or, set, None, refl, sym, ap, subst, ◌∙◌, arith, eqb-true, eq-eqb, false≢true, or_parts, not-false, cases_lt, length_push, at_set, at_set_within, not_true, World, Connection, Standing, is_reading, nobody, subscription_at, Move, Answer, world_after, answer_to, move_refusal, run, Run, answers_of, final_world, closes, Opens, Connects, Disconnects, Errs, Lost, Leaves, Withdraws, Takes, has_closed}
use Rattle.delivery.proofs.Words.Steps.{at_old, set_length, beyond, by_refusal, checked, InEachCase, by_found, always, by_run}
use Rattle.delivery.proofs.Core.Speaking.{open_in, spoken}
use Rattle.delivery.proofs.Core.Tests.{connection_there}

-- two numbers are one, or they aren't
pub same_or : (m n : ℕ) → (m ≡ n) ⊎ (m ≢ n)
same_or m n = (elim (m == n) as (λ (b : Bool). (m == n) ≡ b → (m ≡ n) ⊎ (m ≢ n)) [ true ↦ λ e. inl (eqb-true m n e) | false ↦ λ e. inr (λ d. false≢true (sym e ∙ eq-eqb m n d)) ]) refl

-- an open connection is there
pub open_there : (cs : List Connection) (c : ℕ) → open_in cs c ≡ true → c < length cs
open_there cs c e = elim (cases_lt c (length cs)) [
  | inl l ↦ l
  | inr l ↦ absurd (false≢true (ap (λ (z : Connection). is_reading z.standing) (sym (beyond cs c nobody l)) ∙ e))
]

-- an answer that closes no connection
abbrev pub ClosesNone : Answer → Type 0
ClosesNone o = (d : ℕ) → closes d o ≡ false

-- no connection is changed, and none is closed
pub record AreSame (before after : List Connection) (o : Answer) : Type 0 where
  pub same : after ≡ before
  pub none : ClosesNone o

-- this connection is changed, is not open any more, and no other is closed
pub record IsShut (before after : List Connection) (o : Answer) : Type 0 where
  pub number : ℕ
  pub new : Connection
  pub there : number < length before
  pub set_to : after ≡ set before number new
  pub shut : is_reading new.standing ≡ false
  pub others : (d : ℕ) → number ≢ d → closes d o ≡ false

-- there is one more, and none is closed
pub record IsNew (before after : List Connection) (o : Answer) : Type 0 where
  pub new : Connection
  pub pushed : after ≡ before ++ new ∷ []
  pub none : ClosesNone o

-- this connection is changed, stands as it stood, and none is closed
pub record IsJoined (before after : List Connection) (o : Answer) : Type 0 where
  pub number : ℕ
  pub new : Connection
  pub set_to : after ≡ set before number new
  pub standing : new.standing ≡ (get_or before number nobody).standing
  pub none : ClosesNone o

-- how connections stand after an answer
abbrev pub Stands : List Connection → List Connection → Answer → Type 0
Stands before after o = AreSame before after o ⊎ (IsShut before after o ⊎ (IsNew before after o ⊎ IsJoined before after o))

stay : (cs : List Connection) (o : Answer) → ClosesNone o → Stands cs cs o
stay cs o n = inl (record { same = refl; none = n })

shuts : (cs : List Connection) (c : ℕ) (x : Connection) (o : Answer) → c < length cs → is_reading x.standing ≡ false → ((d : ℕ) → c ≢ d → closes d o ≡ false) → Stands cs (set cs c x) o
shuts cs c x o l n h = inr (inl (record { number = c; new = x; there = l; set_to = refl; shut = n; others = h }))

-- two numbers that differ aren't compared equal
pub differ : (c d : ℕ) → c ≢ d → (c == d) ≡ false
differ c d n = not_true (c == d) refl (λ e. n (eqb-true c d e))

-- ---- each move

happens : (w : World) (e : Move) → move_refusal w e ≡ None → InEachCase (λ v o. Stands w.connections v.connections o) w e
happens w Opens n = always (inr (inr (inl (record { new = record { sender = None; standing = Standing.Open }; pushed = refl; none = λ d. refl }))))
happens w (Connects c claimed) n = always (inr (inr (inr (record { number = c; new = _; set_to = refl; standing = refl; none = λ d. refl }))))
happens w (Disconnects c) n = always (shuts w.connections c _ _ (connection_there w c (checked w (Disconnects c) n).0) refl (λ d k. differ c d k))
happens w (Errs c) n = always (shuts w.connections c _ _ (connection_there w c (checked w (Errs c) n).0) refl (λ d k. differ c d k))
happens w (Lost c) n = always (shuts w.connections c _ _ (connection_there w c (checked w (Lost c) n).0) refl (λ d k. differ c d k))
happens w (Leaves c) n = (
  shuts w.connections c _ _ (connection_there w c (checked w (Leaves c) n).0) refl (λ d k. refl),
  λ s. (stay w.connections _ (λ d. refl), λ k. stay w.connections _ (λ d. refl)),
)
happens w (Withdraws c) n = always (shuts w.connections c _ _ (connection_there w c (checked w (Withdraws c) n).0) refl (λ d k. differ c d k))
happens w (Takes s) n =
    let c = (subscription_at w s).connection in let l = open_there w.connections c (not-false (open_in w.connections c) (or_parts _ _ (checked w (Takes s) n).1.0).1) in
    (shuts w.connections c _ _ l refl (λ d k. differ c d k), λ k. stay w.connections _ (λ d. refl))
happens w _ n = (stay w.connections _ (λ d. refl), λ k. stay w.connections _ (λ d. refl))

-- each move changes connections so
pub stands_after : (w : World) (e : Move) → Stands w.connections (world_after w e).connections (answer_to w e)
stands_after w e = by_refusal (λ v o. Stands w.connections v.connections o) w e (λ why. stay w.connections _ (λ d. refl))
    (λ n. by_found (λ v o. Stands w.connections v.connections o) w e (happens w e n))

-- ---- there are never fewer, and none opens again

-- after one move there are no fewer connections
pub grown_once : (before after : List Connection) (o : Answer) → Stands before after o → length before ≤ length after
grown_once before after o (inl h) = let m = ap (λ (z : List Connection). length z) h.same in omega arith
grown_once before after o (inr (inl h)) = let m = ap (λ (z : List Connection). length z) h.set_to ∙ set_length before h.number h.new in omega arith
grown_once before after o (inr (inr (inr h))) = let m = ap (λ (z : List Connection). length z) h.set_to ∙ set_length before h.number h.new in omega arith
grown_once before after o (inr (inr (inl h))) = let m = ap (λ (z : List Connection). length z) h.pushed ∙ length_push before h.new in omega arith

-- after these moves there are no fewer connections
pub grown : (es : List Move) (w : World) → length w.connections ≤ length (run es w).connections
grown [] w = omega arith
grown (e ∷ es) w = let a = grown_once w.connections (world_after w e).connections (answer_to w e) (stands_after w e) in let b = grown es (world_after w e) in omega arith

-- a connection is changed that stands as it stood
same_open : (before : List Connection) (n : ℕ) (new : Connection) → new.standing ≡ (get_or before n nobody).standing → (c : ℕ) → open_in (set before n new) c ≡ open_in before c
same_open before n new standing c =
    at_set (λ (z : Connection). is_reading z.standing ≡ open_in before c) before n c new nobody (λ k. ap is_reading standing ∙ ap (open_in before) (sym k)) refl

shut_once : (before after : List Connection) (o : Answer) (c : ℕ) → Stands before after o → c < length before → open_in before c ≡ false → open_in after c ≡ false
shut_once before after o c (inl h) l e = subst (λ z. open_in z c ≡ false) (sym h.same) e
shut_once before after o c (inr (inl h)) l e =
    subst (λ z. open_in z c ≡ false) (sym h.set_to)
    (at_set (λ (z : Connection). is_reading z.standing ≡ false) before h.number c h.new nobody (λ k. h.shut) e)
shut_once before after o c (inr (inr (inr h))) l e = subst (λ z. open_in z c ≡ false) (sym h.set_to) (same_open before h.number h.new h.standing c ∙ e)
shut_once before after o c (inr (inr (inl h))) l e =
    subst (λ z. open_in z c ≡ false) (sym h.pushed) (at_old (λ (z : Connection). is_reading z.standing ≡ false) before c h.new nobody l e)

-- a connection that isn't open is never open again
pub stays_shut : (es : List Move) (w : World) (c : ℕ) → c < length w.connections → open_in w.connections c ≡ false → open_in (run es w).connections c ≡ false
stays_shut [] w c l e = e
stays_shut (m ∷ es) w c l e =
    let a = grown_once w.connections (world_after w m).connections (answer_to w m) (stands_after w m) in
    stays_shut es (world_after w m) c (omega arith) (shut_once w.connections _ (answer_to w m) c (stands_after w m) l e)

-- ---- a connection that wasn't closed

abbrev Calm : List Answer → World → Type 0
Calm past w = (c : ℕ) → (c < length w.connections → open_in w.connections c ≡ true) → has_closed c past ≡ false

unclosed : (c : ℕ) (o : Answer) (past : List Answer) → closes c o ≡ false → has_closed c past ≡ false → has_closed c (o ∷ past) ≡ false
unclosed c o past e h = ap (λ b. b || has_closed c past) e ∙ h

calm_once : (before after : List Connection) (o : Answer) (past : List Answer) → Stands before after o
    → ((c : ℕ) → (c < length before → open_in before c ≡ true) → has_closed c past ≡ false)
    → (c : ℕ) → (c < length after → open_in after c ≡ true) → has_closed c (o ∷ past) ≡ false
calm_once before after o past (inl s) h c p = unclosed c o past (s.none c) (h c (subst (λ z. c < length z → open_in z c ≡ true) s.same p))
calm_once before after o past (inr (inl s)) h c p =
    let q : c < length (set before s.number s.new) → open_in (set before s.number s.new) c ≡ true = subst (λ z. c < length z → open_in z c ≡ true) s.set_to p in
    let m = set_length before s.number s.new in let t = s.there in
    elim (same_or s.number c) [
      | inl e ↦ absurd (false≢true (sym (at_set_within (λ (z : Connection). is_reading z.standing ≡ false) before s.number c s.new nobody t (λ k. s.shut) (λ ne. absurd (ne (sym e)))) ∙ q (omega arith)))
      | inr ne ↦ unclosed c o past (s.others c ne)
          (h c (λ l. at_set (λ (z : Connection). is_reading z.standing ≡ true → open_in before c ≡ true) before s.number c s.new nobody
          (λ e. absurd (ne (sym e))) (λ k. k) (q (omega arith))))
    ]
calm_once before after o past (inr (inr (inr s))) h c p =
    let q : c < length (set before s.number s.new) → open_in (set before s.number s.new) c ≡ true = subst (λ z. c < length z → open_in z c ≡ true) s.set_to p in
    let m = set_length before s.number s.new in unclosed c o past (s.none c) (h c (λ l. sym (same_open before s.number s.new s.standing c) ∙ q (omega arith)))
calm_once before after o past (inr (inr (inl s))) h c p =
    let q : c < length (before ++ s.new ∷ []) → open_in (before ++ s.new ∷ []) c ≡ true = subst (λ z. c < length z → open_in z c ≡ true) s.pushed p in
    let m = length_push before s.new in
    unclosed c o past (s.none c)
    (h c (λ l. at_old (λ (z : Connection). is_reading z.standing ≡ true → open_in before c ≡ true) before c s.new nobody l (λ k. k) (q (omega arith))))

-- a connection that is open was never closed
pub calm : (r : Run) → Calm (answers_of r) (final_world r)
calm = by_run Calm (λ capacity log_limit clocks c p. refl)
    (λ r e h. calm_once (final_world r).connections (world_after (final_world r) e).connections (answer_to (final_world r) e) (answers_of r) (stands_after (final_world r) e) h)

-- a connection was closed where it isn't open
pub closed_where_shut : (r : Run) (c : ℕ) → c < length (final_world r).connections → has_closed c (answers_of r) ≡ not (open_in (final_world r).connections c)
closed_where_shut r c l = (elim (open_in (final_world r).connections c) as (λ (b : Bool). open_in (final_world r).connections c ≡ b → has_closed c (answers_of r) ≡ not b) [ true ↦ λ e. calm r c (λ k. e) | false ↦ λ e. (spoken r).speaking.shut c l e ]) refl
