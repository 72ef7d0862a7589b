-- The first fault of logs, by the answers of its tests.
use Rattle.std.proofs.Common.{◌≡◌, Bool, true, false, List, [], ◌∷◌, Some, None, ℕ, Bor, refl, sym, ap, ◌∙◌}
use Rattle.std.specs.List.{list_any}
use Rattle.std.specs.List.Sorted.{IsPermutation}
use Rattle.std.proofs.lemmas.List.Sorted.{list_any-IsPermutation}
use Rattle.mcast_txn.specs.Span.{LogRow}
use Rattle.trace_audit.specs.Faults.{some_two, are_different, are_colliding, is_out_of_order, are_disordered, holes, least}
use Rattle.trace_audit.specs.Inner.LogFault.{log_fault}
use Rattle.trace_audit.specs.Inner.Orders.{rows_of_refs, IsGroupingOf}
use Rattle.trace_audit.specs.Logs.{TopicRow}
use Rattle.trace_audit.specs.declared.fault.AuditFault.{AuditFault}
use Rattle.trace_audit.specs.declared.fault.AuditFault.TheVariants as audit
use Rattle.trace_audit.proofs.Neighbours.{same_order}

any_agree : {X : Type 0} (p q : X → Bool) → ((x : X) → p x ≡ q x) → (xs : List X) → list_any p xs ≡ list_any q xs
any_agree p q h [] = refl
any_agree p q h (x ∷ xs) = rw (h x, any_agree p q h xs) refl

-- lists of the same rows have two such rows alike
pub moved_two : (test : LogRow → LogRow → Bool) (logs others : List TopicRow) → IsPermutation logs others → some_two test others ≡ some_two test logs
moved_two test logs others p =
    any_agree (λ (x : TopicRow). list_any (λ (y : TopicRow). test x.row y.row) others) (λ (x : TopicRow). list_any (λ (y : TopicRow). test x.row y.row) logs)
    (λ x. sym (list_any-IsPermutation (λ (y : TopicRow). test x.row y.row) logs others p)) others
    ∙ sym (list_any-IsPermutation (λ (x : TopicRow). list_any (λ (y : TopicRow). test x.row y.row) logs) logs others p)

-- what a test of rows in another order says of the logs
pub two_is : (test : LogRow → LogRow → Bool) (logs : List TopicRow) (rows seen : List (Bor TopicRow)) (r b : Bool) → r ≡ some_two test (rows_of_refs seen) → seen ≡ rows → IsPermutation logs (rows_of_refs rows) → r ≡ b → some_two test logs ≡ b
two_is test logs rows seen r b e f p g =
    sym (moved_two test logs (rows_of_refs rows) p) ∙ (ap (λ z. some_two test (rows_of_refs z)) (sym f) ∙ (sym e ∙ g))

-- what a test of the order of grouped rows answered holds of the logs
pub order_is : (logs : List TopicRow) (rows seen : List (Bor TopicRow)) (r b : Bool) → r ≡ is_out_of_order (rows_of_refs seen) → seen ≡ rows → IsGroupingOf rows logs → r ≡ b → is_out_of_order logs ≡ b
order_is logs rows seen r b e f p g =
    sym (same_order logs (rows_of_refs rows) p.kept) ∙ (ap (λ z. is_out_of_order (rows_of_refs z)) (sym f) ∙ (sym e ∙ g))

-- logs with two verdicts of a transaction have the fault TwoVerdicts
pub at_verdicts : (logs : List TopicRow) → some_two are_different logs ≡ true → Some audit.TwoVerdicts ≡ log_fault logs
at_verdicts logs a = rw a refl

-- logs with a stamp of two transactions, and no earlier fault, have the fault SameStamp
pub at_stamps : (logs : List TopicRow) → some_two are_different logs ≡ false → some_two are_colliding logs ≡ true → Some audit.SameStamp ≡ log_fault logs
at_stamps logs a b = rw (a, b) refl

-- logs of which one is out of order, and no earlier fault, have the fault LogOrder
pub at_order : (logs : List TopicRow) → some_two are_different logs ≡ false → some_two are_colliding logs ≡ false → is_out_of_order logs ≡ true → Some audit.LogOrder ≡ log_fault logs
at_order logs a b d = rw (a, b, d) refl

-- logs with a sender out of order, and no earlier fault, have the fault SenderOrder
pub at_senders : (logs : List TopicRow) → some_two are_different logs ≡ false → some_two are_colliding logs ≡ false → is_out_of_order logs ≡ false → some_two are_disordered logs ≡ true → Some audit.SenderOrder ≡ log_fault logs
at_senders logs a b d e = rw (a, b, d, e) refl

-- logs with a hole, and no earlier fault, have the fault Hole with the least topic that has one
pub at_hole : (logs : List TopicRow) (n : ℕ) → some_two are_different logs ≡ false → some_two are_colliding logs ≡ false → is_out_of_order logs ≡ false → some_two are_disordered logs ≡ false → least (holes logs) ≡ Some n → Some (audit.Hole (record { 0 = n })) ≡ log_fault logs
at_hole logs n a b d e f = rw (a, b, d, e, f) refl

-- logs of which no test finds anything have no fault
pub at_none : (logs : List TopicRow) → some_two are_different logs ≡ false → some_two are_colliding logs ≡ false → is_out_of_order logs ≡ false → some_two are_disordered logs ≡ false → least (holes logs) ≡ None → None ≡ log_fault logs
at_none logs a b d e f = rw (a, b, d, e, f) refl

-- logs against which nothing speaks pass the first three tests
pub log_clear : (logs : List TopicRow) → log_fault logs ≡ None → (some_two are_different logs ≡ false) × (some_two are_colliding logs ≡ false) × (is_out_of_order logs ≡ false)
log_clear logs e = go (some_two are_different logs) (some_two are_colliding logs) (is_out_of_order logs) refl refl refl
  where
    none_is : (f : AuditFault) → Some f ≡ None → Prim.⊥
    none_is f e = cc

    go : (a b d : Bool) → some_two are_different logs ≡ a → some_two are_colliding logs ≡ b → is_out_of_order logs ≡ d → (some_two are_different logs ≡ false) × (some_two are_colliding logs ≡ false) × (is_out_of_order logs ≡ false)
    go true b d f g h = absurd (none_is audit.TwoVerdicts (at_verdicts logs f ∙ e))
    go false true d f g h = absurd (none_is audit.SameStamp (at_stamps logs f g ∙ e))
    go false false true f g h = absurd (none_is audit.LogOrder (at_order logs f g h ∙ e))
    go false false false f g h = (f, g, h)
