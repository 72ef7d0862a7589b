use Rattle.std.proofs.Common.{◌≡◌, ◌<◌, ◌++◌, [], ◌∷◌, true, length, map, sym, ap, subst, ◌∙◌, arith}
use Rattle.std.proofs.lemmas.List.{get_or-map, length-map}
use Rattle.mcast_txn.specs.declared.id.Topic.{Topic}
use Rattle.mcast_txn.specs.declared.stamp.Stamp.{Stamp}
use Rattle.mcast_txn.specs.Stamp.{zero_stamp}
use Rattle.broker_locks.specs.Rows.{Cancelled, is_uncancelled}
use Rattle.broker_locks.proofs.Cancels.{next_uncancelled, next_cancelled}
use Rattle.broker_locks.proofs.commit.cancel_decided.Goals as goal

pub cancel-requires : goal.cancel-requires
cancel-requires g c =
    let us = map (λ (row : Stamp). row.topic) c.args.rows.now in
    let here : c.loop-row.row-index < length c.args.rows.now = c.loop-row-test.true in
    let at = get_or-map (λ (row : Stamp). row.topic) c.args.rows.now c.loop-row.row-index zero_stamp (record { 0 = 0 }) here in
    subst (λ (t : Topic). is_uncancelled t c.args.id (g.P.Places.rows c.loop-row.places) ≡ true) at
    (next_uncancelled us c.args.id (g.P.Places.rows c.args.places.now) (g.P.Places.rows c.loop-row.places) c.loop-row.row-index (record { 0 = 0 }) c.requires
    (omega (arith, here, length-map c.args.rows.now (λ (row : Stamp). row.topic))) c.loop-row.invariant.0)

pub loop-row-preserved : goal.loop-row-preserved
loop-row-preserved g c =
    let us = map (λ (row : Stamp). row.topic) c.args.rows.now in
    let here : c.loop-row.row-index < length c.args.rows.now = c.loop-row-test.true in
    let at = sym (get_or-map (λ (row : Stamp). row.topic) c.args.rows.now c.loop-row.row-index zero_stamp (record { 0 = 0 }) here) in (
      next_cancelled us c.args.id (g.P.Places.rows c.args.places.now) (g.P.Places.rows c.loop-row.places) (g.P.Places.rows c.cancel.new.self) c.loop-row.row-index (record { 0 = 0 })
          (omega (arith, here, length-map c.args.rows.now (λ (row : Stamp). row.topic))) c.loop-row.invariant.0
          (c.cancel.ensures.rows ∙ ap (λ (t : Topic). g.P.Places.rows c.loop-row.places ++ Cancelled t c.args.id ∷ []) at),
      c.cancel.ensures.given ∙ c.loop-row.invariant.1,
    )
