use Rattle.std.proofs.Common.{◌≡◌, None, ◌<◌, ◌+◌, nat_lt, ℕ, Option, ap, subst, ◌∙◌, arith}
use Rattle.mcast_group.specs.CellGroup.{CellTurns, IsRead, open_count}
use Rattle.mcast_group.specs.Machine.{due_part}
use Rattle.broker_locks.specs.Place.{PlaceState, place_after_turn, rows_since, source_answers}
use Rattle.broker_locks.specs.Inner.KeptRows.{place_with}
use Rattle.broker_locks.specs.KeptTrace.{KeptTrace}
use Rattle.broker_locks.proofs.Balance.{balanced_turned, kept_turned, turn_counts}
use Rattle.broker_locks.proofs.place.Place.turn.Goals as goal

pub overflow_add-self : goal.overflow_add-self
overflow_add-self g c =
    let h = turn_counts _ c.turn-turned.new.self c.turn-turned.result.released c.self.invariant c.turn-turned.ensures.turned c.turn-turned.ensures.released in
    let t : c.self.inside.tickets < 18446744073709551616 = c.self.ranges.1.1.0.1 in
    omega (arith, h, t)

pub invariant_of-self : goal.invariant_of-self
invariant_of-self g c = balanced_turned c.self.inside.group c.self.inside.tickets c.self.inside.released c.self.inside.cancelled c.self.inside.kept c.self.invariant c.turn-turned.new.self c.turn-turned.result.released c.turn-turned.ensures.turned c.turn-turned.ensures.released

pub returns : goal.returns
returns g c =
    let t = c.turn-turned.ensures in
    let new = c.turn-turned.new.self in
    let old = c.self.inside.group in (
      new,
      subst (λ (p : PlaceState). CellTurns source_answers p.cells new) c.self.view_is t.turned,
      subst (λ (p : PlaceState). new.notes ≡ p.cells.notes → due_part p.cells.group.topic ≡ None → new ≡ p.cells) c.self.view_is t.idle,
      ap (λ (k : ℕ). place_with new c.self.inside.tickets (c.self.inside.released + k) c.self.inside.cancelled c.self.inside.kept) t.released
          ∙ (ap (λ (o : Option KeptTrace). record { cells = new; tickets = c.self.inside.tickets; released = c.self.inside.released + rows_since old new; cancelled = c.self.inside.cancelled; kept = o })
          (kept_turned c.self.inside.kept source_answers (IsRead old.waiting t.turned.taken) old.group new.group c.self.invariant.sound t.turned.turns c.self.invariant.trace)
          ∙ ap (λ (p : PlaceState). place_after_turn new p) c.self.view_is),
      t.released ∙ ap (λ (p : PlaceState). rows_since p.cells new) c.self.view_is,
      t.lagged ∙ ap (λ (p : PlaceState). nat_lt (open_count new.group.topic.subscriptions) (open_count p.cells.group.topic.subscriptions)) c.self.view_is,
    )
