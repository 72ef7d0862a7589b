use Rattle.std.proofs.Common.{◌≡◌, ◌++◌, List, map, refl, sym, ap, subst, ◌∙◌}
use Rattle.mcast_txn.specs.declared.id.TxnId.{TxnId}
use Rattle.mcast_txn.specs.declared.stamp.Stamp.{Stamp}
use Rattle.mcast_txn.specs.Ballot.{Decision, ticket_rows}
use Rattle.mcast_txn.specs.Stamp.{greatest}
use Rattle.sender_gate.specs.Gate.{GateState}
use Rattle.broker_locks.specs.Inner.Cancelling.{AreUncancelled, cancelled_at}
use Rattle.broker_locks.proofs.Committed.{decided_gate, rows_are}
use Rattle.broker_locks.proofs.commit.settle.Goals as goal

pub returns-in-Ok-decide-clause-decided : goal.returns-in-Ok-decide-clause-decided
returns-in-Ok-decide-clause-decided g c =
    let d = decided_gate c.args.flying.state c.in-Ok.gate c.in-Ok.verdict.value.rows c.in-Ok.ensures.rows c.in-Ok.ensures.gate c.in-Ok.ensures.above in
    (d, c.stamp-stamp.ensures ∙ (ap (λ (v : Decision). greatest v.rows) c.deref.ensures ∙ sym (ap (λ (s : GateState). s.floor) c.in-Ok.ensures.gate)), refl)

pub cancel_decided-requires : goal.cancel_decided-requires
cancel_decided-requires g c =
    let rows = ticket_rows c.args.flying.state.tickets in
    let back : c.in-Err.verdict.value ≡ c.in-Ok.verdict.value = c.in-Err.ensures.back in
    let e : c.rows.result.now ≡ rows =
    c.rows.ensures.value ∙ (ap (λ (v : Decision). v.rows) (c.deref-in-Err.ensures ∙ back) ∙ rows_are c.in-Ok.verdict.value.rows c.args.flying.state.tickets c.in-Ok.ensures.rows) in
    subst (λ (i : TxnId). AreUncancelled (map (λ (row : Stamp). row.topic) c.rows.result.now) i (g.P.Places.rows c.args.places.now)) (sym c.id-id.ensures)
    (subst (λ (r : List Stamp). AreUncancelled (map (λ (row : Stamp). row.topic) r) c.args.flying.state.id (g.P.Places.rows c.args.places.now)) (sym e) c.requires.entered)

pub returns-in-Err-clause-refused : goal.returns-in-Err-clause-refused
returns-in-Err-clause-refused g c =
    let d = decided_gate c.args.flying.state c.in-Ok.gate c.in-Ok.verdict.value.rows c.in-Ok.ensures.rows c.in-Ok.ensures.gate c.in-Ok.ensures.above in
    let rows = ticket_rows c.args.flying.state.tickets in
    let back : c.in-Err.verdict.value ≡ c.in-Ok.verdict.value = c.in-Err.ensures.back in
    let e : c.rows.result.now ≡ rows =
    c.rows.ensures.value ∙ (ap (λ (v : Decision). v.rows) (c.deref-in-Err.ensures ∙ back) ∙ rows_are c.in-Ok.verdict.value.rows c.args.flying.state.tickets c.in-Ok.ensures.rows) in
    let old = g.P.Places.rows c.args.places.now in (
      d,
      refl,
      c.cancel_decided.ensures.rows
          ∙ (ap (λ (i : TxnId). old ++ map (cancelled_at i) (map (λ (row : Stamp). row.topic) c.rows.result.now)) c.id-id.ensures
          ∙ ap (λ (r : List Stamp). old ++ map (cancelled_at c.args.flying.state.id) (map (λ (row : Stamp). row.topic) r)) e),
    )
