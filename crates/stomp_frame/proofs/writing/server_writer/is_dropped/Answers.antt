use Rattle.std.proofs.Common.{false, sym, take, ◌∙◌}
use Rattle.stomp_frame.specs.Inner.Withheld.{withheld_by}
use Rattle.stomp_frame.proofs.OfAKind.{unseen}
use Rattle.stomp_frame.proofs.ServerSpellings.{dropped_by}
use Rattle.stomp_frame.proofs.writing.server_writer.is_dropped.Goals as goal

pub returns-then-has : goal.returns-then-has
returns-then-has c = dropped_by (withheld_by c.args.parts) (take c.args.i c.args.sent.now) c.args.name.now false c.has_among_first.result (sym c.if-is_withheld_by.false ∙ c.is_withheld_by.ensures) c.has_among_first.ensures

pub returns-else-has : goal.returns-else-has
returns-else-has c =
    let first = take c.args.i c.args.sent.now in
    let absent = unseen c.args.kinds.now.among first c.args.name.now c.requires.kinds (sym c.has.ensures ∙ c.if-has.false) in
    c.if-has.false ∙ dropped_by (withheld_by c.args.parts) first c.args.name.now false false (sym c.if-is_withheld_by.false ∙ c.is_withheld_by.ensures) (sym absent)
