use Rattle.std.proofs.Common.{Option, sym, ap, ◌∙◌}
use Rattle.broker_locks.specs.Inner.KeptRows.{RowsKept, place_with}
use Rattle.broker_locks.specs.Place.{PlaceState}
use Rattle.broker_locks.proofs.Idle.{idle_given, idle_kept}
use Rattle.broker_locks.proofs.Balance.{balanced_given, balanced_tried}
use Rattle.broker_locks.proofs.place.Place.drain.Goals as goal

pub invariant_of-self : goal.invariant_of-self
invariant_of-self g c = balanced_tried c.self.inside.group c.self.inside.tickets c.self.inside.released c.self.inside.cancelled c.self.inside.kept c.self.invariant c.drain.result c.in-Some.kept c.drain.new.self c.drain.new.group c.in-Some.is c.drain.ensures.rows c.drain.ensures.drained c.drain.ensures.err

pub invariant_of-self-in-None : goal.invariant_of-self-in-None
invariant_of-self-in-None g c = balanced_given c.self.inside.group c.self.inside.tickets c.self.inside.released c.self.inside.cancelled c.self.inside.kept c.self.invariant c.drain_log.result c.drain_log.new.self c.in-None.is c.drain_log.ensures.ok c.drain_log.ensures.err

pub returns-in-Some-clause-idle : goal.returns-in-Some-clause-idle
returns-in-Some-clause-idle g c = λ held.
    let s = c.self.inside in
    let none = ap (λ (p : PlaceState). p.cells.group.topic.held) c.self.view_is ∙ held in
    let d = c.drain.ensures in
    let h = idle_kept c.drain.result s.group c.drain.new.group s.tickets s.released s.cancelled c.in-Some.kept c.drain.new.self c.self.invariant.sound none (d.idle none) d.none d.rows d.drained in
    (h.0, h.1 ∙ (ap (λ (o : Option RowsKept). place_with s.group s.tickets s.released s.cancelled o) (sym c.in-Some.is) ∙ c.self.view_is))

pub returns-in-None-clause-idle : goal.returns-in-None-clause-idle
returns-in-None-clause-idle g c = λ held.
    let s = c.self.inside in
    let none = ap (λ (p : PlaceState). p.cells.group.topic.held) c.self.view_is ∙ held in
    let d = c.drain_log.ensures in
    let h = idle_given c.drain_log.result s.group c.drain_log.new.self s.tickets s.released s.cancelled c.self.invariant.sound none (d.idle none) d.rows d.ok in
    let was = ap (λ (o : Option RowsKept). place_with s.group s.tickets s.released s.cancelled o) (sym c.in-None.is) ∙ c.self.view_is in
    (h.0, ap (λ (o : Option RowsKept). place_with c.drain_log.new.self s.tickets s.released s.cancelled o) c.in-None.is ∙ (h.1 ∙ was))
