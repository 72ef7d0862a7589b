-- A line is read as the row that it spells, and as none where it spells none.
use Rattle.std.proofs.Common.{◌≡◌, ◌≢◌, ℕ, zero, suc, ◌+◌, ◌-◌, ◌*◌, ◌^◌, ◌<◌, ◌≤◌, Bool, true, false, cond, ltb, ◌&&◌, List, [], ◌∷◌, ◌++◌, map, length, get_or, Option, Some, None, inl, inr, refl, sym, ap, ◌∙◌, append_assoc, subst, arith, rules}
use Rattle.std.specs.Prelude.{◌↔◌, decimal}
use Rattle.std.specs.Char.{is_ascii_digit}
use Rattle.std.specs.List.{AllByRecursion}
use Rattle.std.specs.Str.{all_ascii_digits}
use Rattle.std.proofs.lemmas.Bool.{and_parts, ltb-true, lt-ltb, eq-eqb, ne_eqb, cases_eq}
use Rattle.std.proofs.lemmas.Bool.Decides.{nat_tests}
use Rattle.std.proofs.lemmas.Fmt.{decimal_nonempty, decimal_digit, first_decimal, digits_decimal, digits_value-decimal, decimal-digits_value}
use Rattle.std.proofs.lemmas.Str.Parse.{IsNumeralModel, numerals_by_fold}
use Rattle.mcast_txn.specs.declared.id.Topic.{Topic}
use Rattle.mcast_txn.specs.declared.id.TxnId.{TxnId}
use Rattle.mcast_txn.specs.declared.stamp.Stamp.{Stamp}
use Rattle.trace_audit.specs.Parsing.{cut, onto_first}
use Rattle.trace_audit.specs.Text.{id_text, stamp_text, topics_text, joined_text, IsTopicInRange, IsIdInRange, IsStampInRange}
use Rattle.trace_audit.specs.Inner.Reading.{◌>>=◌, read_on, is_badly_begun, spelled_number, spelled_topic, number_before, topic_before, id_before, spelled_stamp, stamp_before, text_parts, topics_from, spelled_topics}
use Rattle.trace_audit.proofs.Cuts.{Without, Without-append, cut_splits, cut_first, some_is, parts_first, parts_only}

-- ---- tools

-- what goes on gave something before
pub bound : {A B : Type 0} (o : Option A) (f : A → Option B) (y : B) → (o >>= f) ≡ Some y → (x : A) × (o ≡ Some x) × (f x ≡ Some y)
bound None f y e = absurd cc
bound (Some x) f y e = (x, refl, e)

-- what a test let through
pub passed : {A : Type 0} (b : Bool) (o : Option A) (y : A) → cond b o None ≡ Some y → (b ≡ true) × (o ≡ Some y)
passed true o y e = (refl, e)
passed false o y e = absurd cc

-- what a test didn't stop
pub unstopped : {A : Type 0} (b : Bool) (o : Option A) (y : A) → cond b None o ≡ Some y → (b ≡ false) × (o ≡ Some y)
unstopped true o y e = absurd cc
unstopped false o y e = (refl, e)

-- ---- numbers

-- the number that these digits go on to from n
abbrev pub value_on : ℕ → List ℕ → ℕ
value_on n [] = n
value_on n (c ∷ cs) = value_on (n * 10 + (c - 48)) cs

own : IsNumeralModel (λ ds. all_ascii_digits ds ≡ true) (value_on 0)
own = numerals_by_fold _ (search rules) value_on (search rules)

grows : (n : ℕ) (ds : List ℕ) → n ≤ value_on n ds
grows n [] = omega arith
grows n (c ∷ cs) = let h = grows (n * 10 + (c - 48)) cs in omega arith

record Valued (n : ℕ) (text : List ℕ) (v : ℕ) : Type 0 where
  digits : all_ascii_digits text ≡ true
  value : value_on n text ≡ v
  small : v < 2 ^ 64

valued : (n : ℕ) (text : List ℕ) (v : ℕ) → n < 2 ^ 64 → read_on n text ≡ Some v → Valued n text v
valued n [] v lt e = let h = some_is n v e in record { digits = refl; value = h; small = omega arith }
valued n (b ∷ text) v lt e =
    let p = passed (is_ascii_digit b && ltb (n * 10 + (b - 48)) (2 ^ 64)) (read_on (n * 10 + (b - 48)) text) v e in
    let q = and_parts (is_ascii_digit b) (ltb (n * 10 + (b - 48)) (2 ^ 64)) p.0 in
    let r = valued (n * 10 + (b - 48)) text v (ltb-true (n * 10 + (b - 48)) (2 ^ 64) q.1) p.1 in
    record { digits = rw (q.0, r.digits) refl; value = r.value; small = r.small }

read_all : (n : ℕ) (text : List ℕ) → all_ascii_digits text ≡ true → value_on n text < 2 ^ 64 → read_on n text ≡ Some (value_on n text)
read_all n [] d lt = refl
read_all n (b ∷ text) d lt =
    let q = and_parts (is_ascii_digit b) (all_ascii_digits text) d in
    let g = grows (n * 10 + (b - 48)) text in
    rw (q.0, lt-ltb (n * 10 + (b - 48)) (2 ^ 64) (omega arith)) (read_all (n * 10 + (b - 48)) text q.1 lt)

well_begun : (text : List ℕ) → is_badly_begun text ≡ false → (0 < length text) × (get_or text 0 0 ≡ 48 → length text ≡ 1)
well_begun [] e = absurd cc
well_begun (b ∷ text) e = (omega arith, λ h. grind (arith, nat_tests))

begins_well : (text : List ℕ) → 0 < length text → (get_or text 0 0 ≡ 48 → length text ≡ 1) → is_badly_begun text ≡ false
begins_well text some one = grind (arith, nat_tests)

-- a text that is read as a number is its decimal form, and the number is below 2^64
pub number_spelled : (text : List ℕ) (v : ℕ) → spelled_number text ≡ Some v → (text ≡ decimal v) × (v < 2 ^ 64)
unfolding spelled_number
number_spelled text v e =
    let p = unstopped (is_badly_begun text) (read_on 0 text) v e in
    let w = well_begun text p.0 in
    let r = valued 0 text v (omega arith) p.1 in
    (sym (decimal-digits_value own text r.digits w.0 w.1 (subst (λ (z : ℕ). z < 2 ^ 64) (sym r.value) r.small)) ∙ ap decimal r.value, r.small)

first_is : (n : ℕ) → n < 2 ^ 64 → get_or (decimal n) 0 0 ≡ 48 → length (decimal n) ≡ 1
first_is zero lt h = ap length (decimal_digit 0 (omega arith))
first_is (suc n) lt h = absurd (let k = first_decimal (suc n) (omega arith) lt in omega arith)

-- the decimal form of a number below 2^64 is read as that number
pub number_again : (n : ℕ) → n < 2 ^ 64 → spelled_number (decimal n) ≡ Some n
unfolding spelled_number
number_again n lt =
    let v = digits_value-decimal own n lt in
    rw (begins_well (decimal n) (decimal_nonempty n lt) (first_is n lt))
    (read_all 0 (decimal n) (digits_decimal own n lt) (subst (λ (z : ℕ). z < 2 ^ 64) (sym v) lt) ∙ ap Some v)

-- reading a text as a number gives the number that it is the decimal form of
pub is_number : (text : List ℕ) (o : Option ℕ) → o ≡ spelled_number text → (n : ℕ) → (o ≡ Some n) ↔ ((text ≡ decimal n) × (n < 2 ^ 64))
is_number text o e n = (λ h. number_spelled text n (sym e ∙ h), λ h. e ∙ ap spelled_number h.0 ∙ number_again n h.1)

without : (b : ℕ) → b < 48 → (ds : List ℕ) → all_ascii_digits ds ≡ true → Without b ds
without b lt [] d = tt
without b lt (c ∷ ds) d =
    let q = and_parts (is_ascii_digit c) (all_ascii_digits ds) d in
    ((λ e. grind arith), without b lt ds q.1)

-- a number has no octet below the digits
pub number_without : (b n : ℕ) → b < 48 → n < 2 ^ 64 → Without b (decimal n)
number_without b n low lt = without b low (decimal n) (digits_decimal own n lt)

-- a text that is read as a topic is the topic's decimal form, and the topic is in range
pub topic_spelled : (text : List ℕ) (t : Topic) → spelled_topic text ≡ Some t → (text ≡ decimal t.0) × IsTopicInRange t
unfolding spelled_topic
topic_spelled text t e =
    let m = bound (spelled_number text) (λ n. cond (ltb n (2 ^ 32)) (Some (record { 0 = n })) None) t e in
    let p = passed (ltb m.0 (2 ^ 32)) (Some (record { 0 = m.0 })) t m.2 in
    let same : m.0 ≡ t.0 = ap (λ (z : Topic). z.0) (some_is (record { 0 = m.0 }) t p.1) in
    let s = number_spelled text m.0 m.1 in
    (s.0 ∙ ap decimal same, subst (λ (z : ℕ). z < 2 ^ 32) same (ltb-true m.0 (2 ^ 32) p.0))

-- the decimal form of a topic in range is read as that topic
pub topic_again : (t : Topic) → IsTopicInRange t → spelled_topic (decimal t.0) ≡ Some t
unfolding spelled_topic
topic_again t lt = rw (number_again t.0 (omega arith), lt-ltb t.0 (2 ^ 32) lt) refl

-- ---- fields

-- a number read before an octet: the text is its decimal form, the octet and what's left
pub number_field : (b : ℕ) (text : List ℕ) (p : ℕ × List ℕ) → number_before b text ≡ Some p → (text ≡ decimal p.0 ++ b ∷ p.1) × (p.0 < 2 ^ 64)
unfolding number_before
number_field b text p e =
    let c = bound (cut b text) (λ q. spelled_number q.0 >>= λ n. Some (n, q.1)) p e in
    let m = bound (spelled_number c.0.0) (λ n. Some (n, c.0.1)) p c.2 in
    let s = number_spelled c.0.0 m.0 m.1 in
    subst (λ (z : ℕ × List ℕ). (text ≡ decimal z.0 ++ b ∷ z.1) × (z.0 < 2 ^ 64)) (some_is (m.0, c.0.1) p m.2)
    ((cut_splits b text c.0 c.1).0 ∙ ap (λ (z : List ℕ). z ++ b ∷ c.0.1) s.0, s.1)

-- a number's decimal form before an octet below the digits is read as that number, with the rest left
pub number_field_again : (b n : ℕ) (rest : List ℕ) → b < 48 → n < 2 ^ 64 → number_before b (decimal n ++ b ∷ rest) ≡ Some (n, rest)
unfolding number_before
number_field_again b n rest low lt = rw (cut_first b (decimal n) rest (number_without b n low lt), number_again n lt) refl

-- a topic read before a space: the text is its decimal form, a space and what's left
pub topic_field : (text : List ℕ) (p : Topic × List ℕ) → topic_before text ≡ Some p → (text ≡ decimal p.0.0 ++ 32 ∷ p.1) × IsTopicInRange p.0
unfolding topic_before
topic_field text p e =
    let c = bound (cut 32 text) (λ q. spelled_topic q.0 >>= λ t. Some (t, q.1)) p e in
    let m = bound (spelled_topic c.0.0) (λ t. Some (t, c.0.1)) p c.2 in
    let s = topic_spelled c.0.0 m.0 m.1 in
    subst (λ (z : Topic × List ℕ). (text ≡ decimal z.0.0 ++ 32 ∷ z.1) × IsTopicInRange z.0) (some_is (m.0, c.0.1) p m.2)
    ((cut_splits 32 text c.0 c.1).0 ∙ ap (λ (z : List ℕ). z ++ 32 ∷ c.0.1) s.0, s.1)

-- a topic's decimal form before a space is read as that topic, with the rest left
pub topic_field_again : (t : Topic) (rest : List ℕ) → IsTopicInRange t → topic_before (decimal t.0 ++ 32 ∷ rest) ≡ Some (t, rest)
unfolding topic_before
topic_field_again t rest lt = rw (cut_first 32 (decimal t.0) rest (number_without 32 t.0 (omega arith) (omega arith)), topic_again t lt) refl

id_whole : (a b rest : List ℕ) → (a ++ 32 ∷ b) ++ 32 ∷ rest ≡ a ++ 32 ∷ (b ++ 32 ∷ rest)
id_whole a b rest = append_assoc a (32 ∷ b) (32 ∷ rest)

-- an id read before a space: the text is the id's, a space and what's left, and the id is in range
pub id_field : (text : List ℕ) (p : TxnId × List ℕ) → id_before text ≡ Some p → (text ≡ id_text p.0 ++ 32 ∷ p.1) × IsIdInRange p.0
unfolding id_before
id_field text p e =
    let s = bound (number_before 32 text) (λ s. number_before 32 s.1 >>= λ q. Some (record { sender = record { 0 = s.0 }; seq = q.0 }, q.1)) p e in
    let q = bound (number_before 32 s.0.1) (λ q. Some (record { sender = record { 0 = s.0.0 }; seq = q.0 }, q.1)) p s.2 in
    let a = number_field 32 text s.0 s.1 in
    let b = number_field 32 s.0.1 q.0 q.1 in
    subst (λ (z : TxnId × List ℕ). (text ≡ id_text z.0 ++ 32 ∷ z.1) × IsIdInRange z.0) (some_is (record { sender = record { 0 = s.0.0 }; seq = q.0.0 }, q.0.1) p q.2)
    (a.0 ∙ ap (λ (z : List ℕ). decimal s.0.0 ++ 32 ∷ z) b.0 ∙ sym (id_whole (decimal s.0.0) (decimal q.0.0) q.0.1), (a.1, b.1))

-- an id's text before a space is read as that id, with the rest left
pub id_field_again : (id : TxnId) (rest : List ℕ) → IsIdInRange id → id_before (id_text id ++ 32 ∷ rest) ≡ Some (id, rest)
unfolding id_before
id_field_again id rest i =
    rw (
      id_whole (decimal id.sender.0) (decimal id.seq) rest,
      number_field_again 32 id.sender.0 (decimal id.seq ++ 32 ∷ rest) (omega arith) i.0,
      number_field_again 32 id.seq rest (omega arith) i.1,
    ) refl

-- a text that is read as a stamp is the stamp's, and the stamp is in range
pub stamp_spelled : (text : List ℕ) (s : Stamp) → spelled_stamp text ≡ Some s → (text ≡ stamp_text s) × IsStampInRange s
unfolding spelled_stamp
stamp_spelled text s e =
    let n = bound (number_before 46 text) (λ n. spelled_topic n.1 >>= λ t. Some (record { n = n.0; topic = t })) s e in
    let t = bound (spelled_topic n.0.1) (λ t. Some (record { n = n.0.0; topic = t })) s n.2 in
    let a = number_field 46 text n.0 n.1 in
    let b = topic_spelled n.0.1 t.0 t.1 in
    subst (λ (z : Stamp). (text ≡ stamp_text z) × IsStampInRange z) (some_is (record { n = n.0.0; topic = t.0 }) s t.2)
    (a.0 ∙ ap (λ (z : List ℕ). decimal n.0.0 ++ 46 ∷ z) b.0, (a.1, b.1))

-- the text of a stamp in range is read as that stamp
pub stamp_again : (s : Stamp) → IsStampInRange s → spelled_stamp (stamp_text s) ≡ Some s
unfolding spelled_stamp
stamp_again s i = rw (number_field_again 46 s.n (decimal s.topic.0) (omega arith) i.0, topic_again s.topic i.1) refl

-- a stamp's text has no space
stamp_without : (s : Stamp) → IsStampInRange s → Without 32 (stamp_text s)
stamp_without s i =
    Without-append 32 (decimal s.n) (46 ∷ decimal s.topic.0) (number_without 32 s.n (omega arith) i.0)
    ((λ e. cc), number_without 32 s.topic.0 (omega arith) (let h : s.topic.0 < 2 ^ 32 = i.1 in omega arith))

-- a stamp read before a space: the text is the stamp's, a space and what's left
pub stamp_field : (text : List ℕ) (p : Stamp × List ℕ) → stamp_before text ≡ Some p → (text ≡ stamp_text p.0 ++ 32 ∷ p.1) × IsStampInRange p.0
unfolding stamp_before
stamp_field text p e =
    let c = bound (cut 32 text) (λ q. spelled_stamp q.0 >>= λ s. Some (s, q.1)) p e in
    let m = bound (spelled_stamp c.0.0) (λ s. Some (s, c.0.1)) p c.2 in
    let s = stamp_spelled c.0.0 m.0 m.1 in
    subst (λ (z : Stamp × List ℕ). (text ≡ stamp_text z.0 ++ 32 ∷ z.1) × IsStampInRange z.0) (some_is (m.0, c.0.1) p m.2)
    ((cut_splits 32 text c.0 c.1).0 ∙ ap (λ (z : List ℕ). z ++ 32 ∷ c.0.1) s.0, s.1)

-- a stamp's text before a space is read as that stamp, with the rest left
pub stamp_field_again : (s : Stamp) (rest : List ℕ) → IsStampInRange s → stamp_before (stamp_text s ++ 32 ∷ rest) ≡ Some (s, rest)
unfolding stamp_before
stamp_field_again s rest i = rw (cut_first 32 (stamp_text s) rest (stamp_without s i), stamp_again s i) refl

-- ---- topics

topics_from_spelled : (parts : List (List ℕ)) (ts : List Topic) → topics_from parts ≡ Some ts → (parts ≡ map (λ (t : Topic). decimal t.0) ts) × AllByRecursion IsTopicInRange ts
topics_from_spelled [] ts e = subst (λ (z : List Topic). ([] ≡ map (λ (t : Topic). decimal t.0) z) × AllByRecursion IsTopicInRange z) (some_is [] ts e) (refl, tt)
topics_from_spelled (part ∷ parts) ts e =
    let t = bound (spelled_topic part) (λ t. topics_from parts >>= λ us. Some (t ∷ us)) ts e in
    let us = bound (topics_from parts) (λ us. Some (t.0 ∷ us)) ts t.2 in
    let one = topic_spelled part t.0 t.1 in
    let more = topics_from_spelled parts us.0 us.1 in
    subst (λ (z : List Topic). (part ∷ parts ≡ map (λ (t : Topic). decimal t.0) z) × AllByRecursion IsTopicInRange z) (some_is (t.0 ∷ us.0) ts us.2)
    (ap (λ (z : List ℕ). z ∷ parts) one.0 ∙ ap (λ (z : List (List ℕ)). decimal t.0.0 ∷ z) more.0, (one.1, more.1))

joined_onto : (b x : ℕ) (parts : List (List ℕ)) → joined_text b (onto_first x parts) ≡ x ∷ joined_text b parts
joined_onto b x [] = refl
joined_onto b x (p ∷ []) = refl
joined_onto b x (p ∷ q ∷ parts) = refl

joined_after : (b : ℕ) (parts : List (List ℕ)) → parts ≢ [] → joined_text b ([] ∷ parts) ≡ b ∷ joined_text b parts
joined_after b [] some = absurd (some refl)
joined_after b (p ∷ parts) some = refl

some_parts : (b : ℕ) (text : List ℕ) → text_parts b text ≢ []
some_parts b [] e = cc
some_parts b (x ∷ text) e = elim (cases_eq x b) [
  | inl same ↦ let h : [] ∷ text_parts b text ≡ [] = sym (rw (eq-eqb x b same) refl) ∙ e in cc
  | inr other ↦ onto_some x (text_parts b text) (sym (rw (ne_eqb x b other) refl) ∙ e)
]
  where
    onto_some : (x : ℕ) (parts : List (List ℕ)) → onto_first x parts ≢ []
    onto_some x [] e = cc
    onto_some x (p ∷ parts) e = cc

joined_parts : (b : ℕ) (text : List ℕ) → joined_text b (text_parts b text) ≡ text
joined_parts b [] = refl
joined_parts b (x ∷ text) = elim (cases_eq x b) [
  | inl same ↦ rw (eq-eqb x b same) (joined_after b (text_parts b text) (some_parts b text) ∙ rw (joined_parts b text, same) refl)
  | inr other ↦ rw (ne_eqb x b other) (joined_onto b x (text_parts b text) ∙ ap (λ (z : List ℕ). x ∷ z) (joined_parts b text))
]

-- a text that is read as topics is theirs; each is in range, and there is at least one
pub topics_spelled : (text : List ℕ) (ts : List Topic) → spelled_topics text ≡ Some ts → (text ≡ topics_text ts) × AllByRecursion IsTopicInRange ts × (ts ≢ [])
unfolding spelled_topics
topics_spelled text ts e =
    let s = topics_from_spelled (text_parts 44 text) ts e in
    (sym (joined_parts 44 text) ∙ ap (joined_text 44) s.0, s.1, λ none. some_parts 44 text (s.0 ∙ ap (map (λ (t : Topic). decimal t.0)) none))

topics_from_again : (ts : List Topic) → AllByRecursion IsTopicInRange ts → topics_from (map (λ (t : Topic). decimal t.0) ts) ≡ Some ts
topics_from_again [] i = refl
topics_from_again (t ∷ ts) i = rw (topic_again t i.0, topics_from_again ts i.1) refl

topic_without : (t : Topic) → IsTopicInRange t → Without 44 (decimal t.0)
topic_without t i = number_without 44 t.0 (omega arith) (omega arith)

parts_again : (ts : List Topic) → AllByRecursion IsTopicInRange ts → ts ≢ [] → text_parts 44 (topics_text ts) ≡ map (λ (t : Topic). decimal t.0) ts
parts_again [] i some = absurd (some refl)
parts_again (t ∷ []) i some = parts_only 44 (decimal t.0) (topic_without t i.0)
parts_again (t ∷ u ∷ ts) i some =
    parts_first 44 (decimal t.0) (topics_text (u ∷ ts)) (topic_without t i.0)
    ∙ ap (λ (z : List (List ℕ)). decimal t.0 ∷ z) (parts_again (u ∷ ts) i.1 (λ e. cc))

-- the text of topics in range, at least one, is read as these topics
pub topics_again : (ts : List Topic) → AllByRecursion IsTopicInRange ts → ts ≢ [] → spelled_topics (topics_text ts) ≡ Some ts
unfolding spelled_topics
topics_again ts i some = rw (parts_again ts i some) (topics_from_again ts i)
