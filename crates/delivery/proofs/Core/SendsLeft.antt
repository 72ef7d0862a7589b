-- The SENDs of a transaction that frames left open are those that its session holds of it.
use Rattle.delivery.proofs.Words.All.{◌≡◌, ℕ, Bool, true, false, cond, not, ◌&&◌, ◌||◌, List, [], ◌∷◌, ◌++◌, map, codes, Option, Some, None, refl, sym, ap, subst, ◌∙◌, true≢false, append_assoc, append-nil, list_any, lookup, unwrap_or, option_map, option_map_or, bytes_eq, filter, fold, SentMessage, RawFrame, Command, first_of, is_send, is_begin, is_send_in, names_transaction, transaction_of, send_of, transactions_left, sends_in, same_octets, octets_pass}
use Rattle.stomp_frame.specs.declared.command.Command.TheVariants as commands
use Rattle.stomp_session.specs.Frames.{is_end}
use Rattle.delivery.specs.Core.Told.{left_by, sends_left}

-- the SENDs of transaction x in these frames since its BEGIN, where no later frame but a SEND names it
abbrev sends_since : List ℕ → List (List ℕ) → List RawFrame → List SentMessage
sends_since x names [] = []
sends_since x names (f ∷ after) =
    cond (is_begin f.command && names_transaction x f && not (list_any (names_transaction x) after))
    (map (send_of names) (filter (is_send_in x) after)) (sends_since x names after)

-- octets that differ one way differ the other way
differ : (x y : List ℕ) (q : Bool) → bytes_eq x y ≡ false → bytes_eq y x ≡ q → q ≡ false
differ x y true e d = absurd (true≢false (sym (octets_pass x) ∙ (ap (bytes_eq x) (sym (same_octets y x d)) ∙ e)))
differ x y false e d = refl

-- what a session holds of a transaction, none where it isn't open, are those
held_are_since : (x : List ℕ) (names : List (List ℕ)) (fs : List RawFrame) → sends_in x (transactions_left names fs) ≡ sends_since x names fs
held_are_since x names [] = refl
held_are_since x names (f ∷ after) = by (bytes_eq x y) (λ z. held_are_since z names after) refl
  where
    y : List ℕ
    y = transaction_of f

    held : List ℕ → List SentMessage
    held z = map (send_of names) (filter (is_send_in z) after)

    left : List (List ℕ × List SentMessage)
    left = transactions_left names after

    ends : Bool
    ends = is_end f.command

    Rest : Type 0
    Rest = (z : List ℕ) → sends_in z (transactions_left names after) ≡ sends_since z names after

    own : Rest → (b u : Bool) → sends_in y (cond (b && not u) ((y, held y) ∷ left) left) ≡ cond (b && ((b || ends) && bytes_eq y y) && not u) (held y) (sends_since y names after)
    own rest true false =
        ap (λ k. unwrap_or (cond k (Some (held y)) (lookup (bytes_eq y) left)) []) (octets_pass y)
        ∙ ap (λ k. cond (true && ((true || ends) && k) && not false) (held y) (sends_since y names after)) (sym (octets_pass y))
    own rest true true =
        rest y
        ∙ ap (λ k. cond (true && ((true || ends) && k) && not true) (held y) (sends_since y names after)) (sym (octets_pass y))
    own rest false u = rest y

    other : Rest → bytes_eq x y ≡ false → (b u v : Bool)
        → sends_in x (cond (b && not u) ((y, held y) ∷ left) left) ≡ cond (b && ((b || ends) && bytes_eq y x) && not v) (held x) (sends_since x names after)
    other rest e true false v =
        ap (λ k. unwrap_or (cond k (Some (held y)) (lookup (bytes_eq x) left)) []) e
        ∙ (rest x
        ∙ ap (λ k. cond (true && ((true || ends) && k) && not v) (held x) (sends_since x names after)) (sym (differ x y (bytes_eq y x) e refl)))
    other rest e true true v =
        rest x
        ∙ ap (λ k. cond (true && ((true || ends) && k) && not v) (held x) (sends_since x names after)) (sym (differ x y (bytes_eq y x) e refl))
    other rest e false u v = rest x

    by : (p : Bool) → Rest → bytes_eq x y ≡ p → sends_in x (transactions_left names (f ∷ after)) ≡ sends_since x names (f ∷ after)
    by true rest e =
        subst (λ z. sends_in z (transactions_left names (f ∷ after)) ≡ sends_since z names (f ∷ after)) (sym (same_octets x y e))
        (own rest (is_begin f.command) (list_any (names_transaction y) after))
    by false rest e = other rest e (is_begin f.command) (list_any (names_transaction y) after) (list_any (names_transaction x) after)

-- ---- one frame after another

-- what transaction x has open once this frame came
abbrev after_frame : List ℕ → List (List ℕ) → Option (List SentMessage) → RawFrame → Option (List SentMessage)
after_frame x names sends f = cond (is_send_in x f) (option_map (λ held. held ++ send_of names f ∷ []) sends) (cond (bytes_eq (transaction_of f) x) (left_by f.command sends) sends)

-- what it has open, with these SENDs after it
abbrev with_sends : Option (List SentMessage) → List SentMessage → List SentMessage
with_sends sends more = unwrap_or (option_map (λ held. held ++ more) sends) []

-- where no frame but a SEND names it there are none since its BEGIN
none_since : (x : List ℕ) (names : List (List ℕ)) (fs : List RawFrame) → list_any (names_transaction x) fs ≡ false → sends_since x names fs ≡ []
none_since x names [] e = refl
none_since x names (f ∷ fs) e = by (is_begin f.command) (names_transaction x f) (none_since x names fs) e
  where
    by : (b n : Bool) → (list_any (names_transaction x) fs ≡ false → sends_since x names fs ≡ []) → (n || list_any (names_transaction x) fs) ≡ false
        → cond (b && n && not (list_any (names_transaction x) fs)) (map (send_of names) (filter (is_send_in x) fs)) (sends_since x names fs) ≡ []
    by b true none d = absurd (true≢false d)
    by true false none d = none d
    by false false none d = none d

-- one after another they leave those since its BEGIN, or all that it had and theirs
fold_since : (x : List ℕ) (names : List (List ℕ)) (fs : List RawFrame) (sends : Option (List SentMessage)) → unwrap_or (fold (after_frame x names) sends fs) []
    ≡ cond (list_any (names_transaction x) fs) (sends_since x names fs) (with_sends sends (map (send_of names) (filter (is_send_in x) fs)))
fold_since x names [] sends = elim sends as (λ sends. unwrap_or sends [] ≡ with_sends sends []) [ None ↦ refl | Some held ↦ sym (append-nil held) ]
fold_since x names (f ∷ fs) sends =
    by f.command (option_map_or (λ y. bytes_eq y x) (first_of (codes "transaction") f.headers) false) (bytes_eq (transaction_of f) x)
    (list_any (names_transaction x) fs) (fold_since x names fs) (none_since x names fs)
  where
    since : List SentMessage
    since = sends_since x names fs

    theirs : List RawFrame
    theirs = filter (is_send_in x) fs

    Left : Option (List SentMessage) → List SentMessage → Type 0
    Left z all = unwrap_or (fold (after_frame x names) z fs) [] ≡ all

    by : (c : Command) (q b a : Bool) → ((z : Option (List SentMessage)) → Left z (cond a since (with_sends z (map (send_of names) theirs)))) → (a ≡ false → since ≡ [])
        → Left (cond (is_send c && q) (option_map (λ held. held ++ send_of names f ∷ []) sends) (cond b (left_by c sends) sends))
        (cond (((is_begin c || is_end c) && b) || a) (cond (is_begin c && ((is_begin c || is_end c) && b) && not a) (map (send_of names) theirs) since)
        (with_sends sends (map (send_of names) (cond (is_send c && q) (f ∷ theirs) theirs))))
    by commands.Send true b a ih none =
        ih (option_map (λ held. held ++ send_of names f ∷ []) sends)
        ∙ ap (λ (z : List SentMessage). cond a since z) (elim sends as (λ (sends : Option (List SentMessage)). with_sends (option_map (λ held. held ++ (send_of names f) ∷ []) sends) (map (send_of names) theirs) ≡ with_sends sends ((send_of names f) ∷ (map (send_of names) theirs))) [
          | None ↦ refl
          | Some held ↦ append_assoc held ((send_of names f) ∷ []) (map (send_of names) theirs)
        ])
    by commands.Send false true a ih none = ih sends
    by commands.Send false false a ih none = ih sends
    by commands.Begin q true true ih none = ih (Some [])
    by commands.Begin q true false ih none = ih (Some [])
    by commands.Begin q false a ih none = ih sends
    by commands.Commit q true true ih none = ih None
    by commands.Commit q true false ih none = ih None ∙ sym (none refl)
    by commands.Commit q false a ih none = ih sends
    by commands.Abort q true true ih none = ih None
    by commands.Abort q true false ih none = ih None ∙ sym (none refl)
    by commands.Abort q false a ih none = ih sends
    by _ q true a ih none = ih sends
    by _ q false a ih none = ih sends

-- what a session holds of a transaction are the SENDs that its frames left open
pub sends_are_left : (x : List ℕ) (names : List (List ℕ)) (fs : List RawFrame) → sends_in x (transactions_left names fs) ≡ sends_left x names fs
sends_are_left x names fs =
    held_are_since x names fs ∙ ((elim (list_any (names_transaction x) fs) as (λ (a : Bool). (a ≡ false → sends_since x names fs ≡ []) → sends_since x names fs ≡ cond a (sends_since x names fs) []) [
      | true ↦ λ none. refl
      | false ↦ λ none. none refl
    ]) (none_since x names fs) ∙ sym (fold_since x names fs None))
