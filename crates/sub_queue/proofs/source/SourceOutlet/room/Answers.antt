use Rattle.std.proofs.Common.{◌≤◌, ◌∙◌, max, ap, subst, arith}
use Rattle.std.proofs.Math.Nat.{le-max_left}
use Rattle.sub_queue.specs.Ends.{End}
use Rattle.sub_queue.proofs.source.SourceOutlet.room.Goals as goal
use Rattle.sub_queue.proofs.source.SourceOutlet.room.Goals.{in-Some, in_default}

-- src/source.rt:132:5
pub returns-clause-told : goal.returns-clause-told
returns-clause-told g c = elim c.match-take_down.branch [
  | in-Some w ↦
      let told = max c.self.inside.told w.in-Some.taken.count in (
        told,
        subst (λ (e : End). e.told ≤ told) c.self.view_is (le-max_left c.self.inside.told w.in-Some.taken.count),
        w.self-is ∙ (w.know_taken.ensures ∙ ap (λ (e : End). record e { told = told }) c.self.view_is),
      )
  | in_default w ↦ (c.args.self.now.told, omega arith, w.self-is ∙ c.self.view_is)
]
