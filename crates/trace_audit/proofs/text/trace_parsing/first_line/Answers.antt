use Rattle.std.proofs.Common.{◌∷◌, ap, sym, ◌∙◌}
use Rattle.trace_audit.specs.Parsing.{lines_of}
use Rattle.trace_audit.proofs.Cuts.{lines_cut, lines_uncut, cut_shorter, nothing_after}
use Rattle.trace_audit.proofs.text.trace_parsing.first_line.Goals as goal

pub returns-in-Some-clause-first : goal.returns-in-Some-clause-first
returns-in-Some-clause-first c = lines_cut c.args.text.now (c.in-Some.line.now, c.in-Some.rest.now) (sym c.in-Some.ensures)

pub returns-in-Some-clause-shorter : goal.returns-in-Some-clause-shorter
returns-in-Some-clause-shorter c = cut_shorter 10 c.args.text.now (c.in-Some.line.now, c.in-Some.rest.now) (sym c.in-Some.ensures)

pub returns-in-None-clause-first : goal.returns-in-None-clause-first
returns-in-None-clause-first c = lines_uncut c.args.text.now c.requires (sym c.in-None.ensures) ∙ ap (λ t. c.args.text.now ∷ lines_of t) (sym (nothing_after c.args.text.now))
