-- The plain program of what is due.
use Rattle.delivery.proofs.Words.All.{◌≡◌, ℕ, suc, ◌+◌, ◌==◌, Bool, true, false, cond, ◌||◌, List, [], ◌∷◌, ◌++◌, map, length, refl, sym, ap, ◌∙◌, arith, ltb, append_assoc, list_any, eqb-true, filter, topics_of, insert_topic, part_of, names, Topic, SentMessage, PartMessage, or_third}
use Rattle.mcast_txn.specs.Transaction.{part_from}

-- ---- topics

or_twice : (a b c : Bool) → a ≡ b → (b || c) ≡ (a || (b || c))
or_twice true true c e = refl
or_twice false false c e = refl
or_twice true false c e = cc
or_twice false true c e = cc

names_case : (t s u : Topic) (us : List Topic) (a b : Bool) → (s.0 == u.0) ≡ b → names t (insert_topic s us) ≡ ((s.0 == t.0) || names t us) → names t (cond a (s ∷ u ∷ us) (cond b (u ∷ us) (u ∷ insert_topic s us))) ≡ ((s.0 == t.0) || ((u.0 == t.0) || names t us))
names_case t s u us true b e ih = refl
names_case t s u us false true e ih = or_twice (s.0 == t.0) (u.0 == t.0) (names t us) (ap (λ (n : ℕ). n == t.0) (eqb-true s.0 u.0 e))
names_case t s u us false false e ih = ap (λ (z : Bool). (u.0 == t.0) || z) ih ∙ or_third (u.0 == t.0) (s.0 == t.0) (names t us)

names_inserted : (t s : Topic) (us : List Topic) → names t (insert_topic s us) ≡ ((s.0 == t.0) || names t us)
names_inserted t s [] = refl
names_inserted t s (u ∷ us) = names_case t s u us (ltb s.0 u.0) (s.0 == u.0) refl (names_inserted t s us)

-- one of the SENDs goes to t if and only if their topics name t
pub names_any : (t : Topic) (sends : List SentMessage) → list_any (λ (s : SentMessage). s.topic.0 == t.0) sends ≡ names t (topics_of sends)
names_any t [] = refl
names_any t (s ∷ sends) = ap (λ (z : Bool). (s.topic.0 == t.0) || z) (names_any t sends) ∙ sym (names_inserted t s.topic (topics_of sends))

-- ---- parts

-- a SEND with its index, as a part has it
abbrev pub part_send : ℕ → SentMessage → PartMessage
part_send i s = record { index = i; headers = s.headers; body = s.body }

-- what the last SEND, with its index, adds to the part at t
abbrev pub last_part : ℕ → Topic → SentMessage → List PartMessage
last_part i t s = cond (s.topic.0 == t.0) (part_send i s ∷ []) []

part_case : (i : ℕ) (t : Topic) (x s : SentMessage) (sends : List SentMessage) (b : Bool) → part_from (i + 1) t (sends ++ s ∷ []) ≡ part_from (i + 1) t sends ++ last_part (i + suc (length sends)) t s → cond b (part_send i x ∷ part_from (i + 1) t (sends ++ s ∷ [])) (part_from (i + 1) t (sends ++ s ∷ [])) ≡ cond b (part_send i x ∷ part_from (i + 1) t sends) (part_from (i + 1) t sends) ++ last_part (i + suc (length sends)) t s
part_case i t x s sends true ih = ap (λ z. part_send i x ∷ z) ih
part_case i t x s sends false ih = ih

last_case : (i : ℕ) (t : Topic) (s : SentMessage) (b : Bool) → cond b (part_send i s ∷ []) [] ≡ cond b (part_send (i + 0) s ∷ []) []
last_case i t s true = ap (λ n. part_send n s ∷ []) (plain i)
  where
    plain : (i : ℕ) → i ≡ i + 0
    plain i = omega arith
last_case i t s false = refl

part_last_from : (i : ℕ) (t : Topic) (sends : List SentMessage) (s : SentMessage) → part_from i t (sends ++ s ∷ []) ≡ part_from i t sends ++ last_part (i + length sends) t s
part_last_from i t [] s = last_case i t s (s.topic.0 == t.0)
part_last_from i t (x ∷ sends) s =
    let k : i + 1 + length sends ≡ i + suc (length sends) = omega arith in
    part_case i t x s sends (x.topic.0 == t.0) (part_last_from (i + 1) t sends s ∙ ap (λ n. part_from (i + 1) t sends ++ last_part n t s) k)

-- the part at t of one SEND more
pub part_last : (t : Topic) (sends : List SentMessage) (s : SentMessage) → part_of t (sends ++ s ∷ []) ≡ part_of t sends ++ last_part (length sends) t s
part_last t sends s = let k : 0 + length sends ≡ length sends = omega arith in part_last_from 0 t sends s ∙ ap (λ n. part_of t sends ++ last_part n t s) k

-- what was gathered so far, behind what is left
pub part_taken : (t : Topic) (sends : List SentMessage) (s : SentMessage) (done : List PartMessage) → (s.topic.0 == t.0) ≡ true → part_of t (sends ++ s ∷ []) ++ done ≡ part_of t sends ++ part_send (length sends) s ∷ done
part_taken t sends s done e =
    ap (λ z. z ++ done) (part_last t sends s ∙ ap (λ (b : Bool). part_of t sends ++ cond b (part_send (length sends) s ∷ []) []) e)
    ∙ append_assoc (part_of t sends) (part_send (length sends) s ∷ []) done

-- a last SEND to another topic adds nothing to the part at t
pub part_passed : (t : Topic) (sends : List SentMessage) (s : SentMessage) (done : List PartMessage) → (s.topic.0 == t.0) ≡ false → part_of t (sends ++ s ∷ []) ++ done ≡ part_of t sends ++ done
part_passed t sends s done e =
    ap (λ z. z ++ done) (part_last t sends s ∙ ap (λ (b : Bool). part_of t sends ++ cond b (part_send (length sends) s ∷ []) []) e)
    ∙ append_assoc (part_of t sends) [] done

-- ---- filters

filter_case : {X Y : Type 0} (f : X → Y) (p : X → Bool) (x y : X) (xs : List X) (done : List Y) (b : Bool) → map f (filter p (xs ++ x ∷ [])) ++ done ≡ map f (filter p xs) ++ (map f (filter p (x ∷ [])) ++ done) → map f (cond b (y ∷ filter p (xs ++ x ∷ [])) (filter p (xs ++ x ∷ []))) ++ done ≡ map f (cond b (y ∷ filter p xs) (filter p xs)) ++ (map f (filter p (x ∷ [])) ++ done)
filter_case f p x y xs done true ih = ap (λ z. f y ∷ z) ih
filter_case f p x y xs done false ih = ih

-- one item more is filtered and mapped after the others
pub filter_last : {X Y : Type 0} (f : X → Y) (p : X → Bool) (xs : List X) (x : X) (done : List Y) → map f (filter p (xs ++ x ∷ [])) ++ done ≡ map f (filter p xs) ++ (map f (filter p (x ∷ [])) ++ done)
filter_last f p [] x done = refl
filter_last f p (y ∷ xs) x done = filter_case f p x y xs done (p y) (filter_last f p xs x done)

-- a last item that passes is mapped, and added after the others
pub filter_taken : {X Y : Type 0} (f : X → Y) (p : X → Bool) (xs : List X) (x : X) (done : List Y) → p x ≡ true → map f (filter p (xs ++ x ∷ [])) ++ done ≡ map f (filter p xs) ++ f x ∷ done
filter_taken f p xs x done e = filter_last f p xs x done ∙ ap (λ (b : Bool). map f (filter p xs) ++ (map f (cond b (x ∷ []) []) ++ done)) e

-- a last item that doesn't pass adds nothing
pub filter_passed : {X Y : Type 0} (f : X → Y) (p : X → Bool) (xs : List X) (x : X) (done : List Y) → p x ≡ false → map f (filter p (xs ++ x ∷ [])) ++ done ≡ map f (filter p xs) ++ done
filter_passed f p xs x done e = filter_last f p xs x done ∙ ap (λ (b : Bool). map f (filter p xs) ++ (map f (cond b (x ∷ []) []) ++ done)) e
