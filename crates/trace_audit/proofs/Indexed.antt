-- Logs and their index: the same rows by topic and stamp.
use Rattle.std.proofs.Common.{◌≡◌, ℕ, ◌+◌, ◌<◌, ◌==◌, Bool, true, false, not, ◌&&◌, List, [], ◌∷◌, map, length, get_or, drop, Bor, refl, sym, ap, subst, ◌∙◌}
use Rattle.std.specs.List.{filter, list_all}
use Rattle.std.specs.List.Sorted.{IsPermutation}
use Rattle.std.proofs.lemmas.List.Elements.{filter_agree}
use Rattle.std.proofs.lemmas.List.Sorted.{list_any-IsPermutation}
use Rattle.mcast_txn.specs.declared.id.Topic.{Topic}
use Rattle.mcast_txn.specs.Ids.{same_id}
use Rattle.mcast_txn.specs.Lists.{In}
use Rattle.mcast_txn.specs.Span.{LogRow}
use Rattle.mcast_txn.specs.Stamp.{stamp_lt}
use Rattle.mcast_txn.proofs.Members.{In-get_or, In-map}
use Rattle.trace_audit.specs.Faults.{some_two, are_different, are_colliding, is_out_of_order, log_has_row, log_has_row_from, is_hole}
use Rattle.trace_audit.specs.Inner.Chained.{IsIndex}
use Rattle.trace_audit.specs.Inner.Orders.{rows_of_refs, IsOrdersOf}
use Rattle.trace_audit.specs.Logs.{TopicRow}
use Rattle.trace_audit.specs.Trace.{rows_of}
use Rattle.trace_audit.proofs.Least.{rest_is}
use Rattle.trace_audit.proofs.LogFaults.{moved_two}
use Rattle.trace_audit.proofs.Neighbours.{chained_from_order, same_order}
use Rattle.trace_audit.proofs.Putting.{row_moved}

-- logs against which neither verdicts, stamps nor order speak have an index
pub indexed : (logs : List TopicRow) (by_id by_stamp by_topic : List (Bor TopicRow)) → IsOrdersOf by_id by_stamp by_topic logs → some_two are_different logs ≡ false → some_two are_colliding logs ≡ false → is_out_of_order logs ≡ false → IsIndex by_topic
indexed logs by_id by_stamp by_topic o verdicts stamps order = record {
  rises = chained_from_order by_topic o.topics_rise (same_order logs (rows_of_refs by_topic) o.grouping.kept ∙ order);
  one_verdict = moved_two are_different logs (rows_of_refs by_topic) o.grouping.moved ∙ verdicts;
  one_stamp = moved_two are_colliding logs (rows_of_refs by_topic) o.grouping.moved ∙ stamps;
}

-- whether a log has a row of the transaction is the same of the rows in another order
pub has_moved : (t : Topic) (q : LogRow) (logs others : List TopicRow) → IsPermutation logs others → log_has_row t q.id others ≡ log_has_row t q.id logs
has_moved t q logs others p = sym (list_any-IsPermutation (λ (logged : TopicRow). logged.topic.0 == t.0 && same_id logged.row.id q.id) logs others p)

-- whether a log has a hole at a row is the same of the rows in another order
pub hole_moved : (t : Topic) (q : LogRow) (logs others : List TopicRow) → IsPermutation logs others → is_hole others q t ≡ is_hole logs q t
hole_moved t q logs others p =
    ap (λ z. not z && log_has_row_from t q.stamp others) (has_moved t q logs others p)
    ∙ ap (λ z. not (log_has_row t q.id logs) && z) (sym (list_any-IsPermutation (λ (logged : TopicRow). logged.topic.0 == t.0 && not (stamp_lt logged.row.stamp q.stamp)) logs others p))

-- the topics that have a hole at a row are the same of the rows in another order
pub holes_moved : (q : LogRow) (logs others : List TopicRow) → IsPermutation logs others → map (λ (t : Topic). t.0) (filter (λ t. is_hole others q t) q.topics) ≡ map (λ (t : Topic). t.0) (filter (λ t. is_hole logs q t) q.topics)
holes_moved q logs others p =
    ap (map (λ (t : Topic). t.0)) (filter_agree (λ t. is_hole others q t) (λ t. is_hole logs q t) (λ t. hole_moved t q logs others p) q.topics)

all_agree : {X : Type 0} (p q : X → Bool) → ((x : X) → p x ≡ q x) → (xs : List X) → list_all p xs ≡ list_all q xs
all_agree p q h [] = refl
all_agree p q h (x ∷ xs) = rw (h x, all_agree p q h xs) refl

-- whether the log of each topic of a row has it is the same of the rows in another order
pub everywhere_moved : (q : LogRow) (logs others : List TopicRow) → IsPermutation logs others → list_all (λ t. log_has_row t q.id others) q.topics ≡ list_all (λ t. log_has_row t q.id logs) q.topics
everywhere_moved q logs others p =
    all_agree (λ t. log_has_row t q.id others) (λ t. log_has_row t q.id logs) (λ t. has_moved t q logs others p) q.topics

-- a row of the logs is one of the index
pub row_within : (logs others : List TopicRow) (i : ℕ) (d : TopicRow) → IsPermutation logs others → i < length logs → d ≡ get_or logs i d → In d.row (rows_of others)
row_within logs others i d p l e =
    row_moved logs others d.row p (In-map (λ (z : TopicRow). z.row) d logs (subst (λ (z : TopicRow). In z logs) (sym e) (In-get_or logs i d l)))

-- one item more of a test of all
pub one_passes : {X : Type 0} (test : X → Bool) (xs : List X) (i : ℕ) (x : X) (b : Bool) → i < length xs → x ≡ get_or xs i x → list_all test (drop i xs) ≡ b → test x ≡ true → list_all test (drop (i + 1) xs) ≡ b
one_passes test xs i x b l e f g =
    sym (ap (λ z. z && list_all test (drop (i + 1) xs)) g) ∙ (ap (list_all test) (sym (rest_is xs i x l e)) ∙ f)

-- where the item at an index fails, the test of all items from there on answers false
pub one_fails_all : {X : Type 0} (test : X → Bool) (xs : List X) (i : ℕ) (x : X) (b : Bool) → i < length xs → x ≡ get_or xs i x → list_all test (drop i xs) ≡ b → test x ≡ false → false ≡ b
one_fails_all test xs i x b l e f g =
    sym (ap (λ z. z && list_all test (drop (i + 1) xs)) g) ∙ (ap (list_all test) (sym (rest_is xs i x l e)) ∙ f)
