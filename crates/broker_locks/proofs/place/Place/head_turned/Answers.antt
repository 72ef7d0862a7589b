use Rattle.std.proofs.Common.{sym, ap, ◌∙◌}
use Rattle.broker_locks.specs.Place.{PlaceState}
use Rattle.broker_locks.proofs.Idle.{idle_head, notes_kept}
use Rattle.broker_locks.proofs.place.Place.head_turned.Goals as goal

pub returns-clause-idle : goal.returns-clause-idle
returns-clause-idle g c = λ i e.
    let t = c.turn-turned.ensures in
    let d = c.drain.ensures in
    let notes = notes_kept c.drain.result c.turn-turned.new.self c.drain.new.self d.ok d.err in
    let same = sym (ap (λ (p : PlaceState). p.cells.notes) t.3) ∙ (sym notes ∙ e) in
    idle_head c.args.self.now c.turn-turned.new.self c.drain.new.self t.0 c.turn-turned.result c.drain.result t.2 t.3 t.4 t.5 d.idle same i
