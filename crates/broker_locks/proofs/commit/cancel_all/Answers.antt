use Rattle.std.proofs.Common.{◌≡◌, ◌<◌, ◌++◌, [], ◌∷◌, true, get_or, length, map, sym, ap, subst, ◌∙◌, arith}
use Rattle.std.proofs.lemmas.List.{get_or-map, length-map}
use Rattle.std.proofs.lemmas.Option.{get_or_from_slice_get}
use Rattle.mcast_txn.specs.declared.id.Topic.{Topic}
use Rattle.mcast_txn.specs.declared.ballot.ticket.Ticket.{Ticket}
use Rattle.broker_locks.specs.Rows.{Cancelled, is_uncancelled}
use Rattle.broker_locks.proofs.Cancels.{next_uncancelled, next_cancelled, all_cancelled}
use Rattle.broker_locks.proofs.commit.cancel_all.Goals as goal

pub cancel-requires : goal.cancel-requires
cancel-requires g c =
    let us = map (λ (t : Ticket). t.topic) c.args.tickets.now in
    let n = c.len-k-end.ensures in
    let here : c.loop-k.k < length c.args.tickets.now = omega arith in
    let at : get_or us c.loop-k.k (record { 0 = 0 }) ≡ c.get.result.topic =
    get_or-map (λ (t : Ticket). t.topic) c.args.tickets.now c.loop-k.k c.get.result (record { 0 = 0 }) here
    ∙ ap (λ (t : Ticket). t.topic) (get_or_from_slice_get c.args.tickets.now c.loop-k.k c.get.result c.get.result c.get.ensures) in
    subst (λ (t : Topic). is_uncancelled t c.args.id (g.P.Places.rows c.loop-k.places) ≡ true) at
    (next_uncancelled us c.args.id (g.P.Places.rows c.args.places.now) (g.P.Places.rows c.loop-k.places) c.loop-k.k (record { 0 = 0 }) c.requires
    (omega (arith, here, length-map c.args.tickets.now (λ (t : Ticket). t.topic))) c.loop-k.invariant.0)

pub loop-k-preserved : goal.loop-k-preserved
loop-k-preserved g c =
    let us = map (λ (t : Ticket). t.topic) c.args.tickets.now in
    let n = c.len-k-end.ensures in
    let here : c.loop-k.k < length c.args.tickets.now = omega arith in
    let at : c.get.result.topic ≡ get_or us c.loop-k.k (record { 0 = 0 }) =
    sym (get_or-map (λ (t : Ticket). t.topic) c.args.tickets.now c.loop-k.k c.get.result (record { 0 = 0 }) here
    ∙ ap (λ (t : Ticket). t.topic) (get_or_from_slice_get c.args.tickets.now c.loop-k.k c.get.result c.get.result c.get.ensures)) in (
      next_cancelled us c.args.id (g.P.Places.rows c.args.places.now) (g.P.Places.rows c.loop-k.places) (g.P.Places.rows c.cancel.new.self) c.loop-k.k (record { 0 = 0 })
          (omega (arith, here, length-map c.args.tickets.now (λ (t : Ticket). t.topic))) c.loop-k.invariant.0
          (c.cancel.ensures.rows ∙ ap (λ (t : Topic). g.P.Places.rows c.loop-k.places ++ Cancelled t c.args.id ∷ []) at),
      c.cancel.ensures.given ∙ c.loop-k.invariant.1,
    )

pub returns-clause-rows : goal.returns-clause-rows
returns-clause-rows g c =
    let us = map (λ (t : Ticket). t.topic) c.args.tickets.now in
    let n = c.len-k-end.ensures in
    let past = c.loop-k-test.false in
    all_cancelled us c.args.id (g.P.Places.rows c.args.places.now) (g.P.Places.rows c.loop-k.places) c.loop-k.k
    (omega (arith, length-map c.args.tickets.now (λ (t : Ticket). t.topic))) c.loop-k.invariant.0
