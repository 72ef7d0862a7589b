use Rattle.std.proofs.Common.{◌≡◌, sym, ap, ◌∙◌, Some, slice_get}
use Rattle.std.specs.Map.{values_of}
use Rattle.std.specs.Option.{option_copied_mut}
use Rattle.stomp_session.proofs.Entries.{entries_of-set_value_at}
use Rattle.stomp_session.proofs.transactions.Opened+Draft.add.Goals as goal
use Rattle.stomp_session.proofs.transactions.Opened+Draft.add.Goals.{in-Ok, in-Err}

pub returns-clause-ok : goal.returns-clause-ok
returns-clause-ok c =
    let es = c.self.inside.values.entries in
    let d = c.unwrap-draft.result.now in
    let at : slice_get (values_of es) c.args.index ≡ Some d = sym c.get_index_mut.ensures.value ∙ ap option_copied_mut c.unwrap-draft.ensures in
    elim c.match-add.branch [
      | in-Ok w ↦ rw (w.result-is, w.in-Ok.ensures.ok, ← c.self.view_is) (λ name index. entries_of-set_value_at name _ es c.args.index d index at)
      | in-Err w ↦ rw w.result-is tt
    ]
