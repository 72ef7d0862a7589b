use Rattle.std.proofs.Common.{◌≡◌, sym, drop, List, ℕ, subst}
use Rattle.std.proofs.lemmas.List.{take_rest}
use Rattle.std.proofs.lemmas.Result.{err_from_is_err_and}
use Rattle.stomp_frame.specs.Inner.Parser.{after_eols}
use Rattle.stomp_frame.proofs.PartialFrames.{start_here, held_command, line_stops_frame, command_stops_frame}
use Rattle.stomp_frame.proofs.reading.partial_frame.PartialFrame.take_command.Goals as goal

pub returns-in_err-line-clause-stops : goal.returns-in_err-line-clause-stops
returns-in_err-line-clause-stops c =
    let p = err_from_is_err_and c.from_residual.result c.from_residual.ensures.1 in
    let partial = c.args.self.now in
    let text = c.args.text.now in
    let idem : after_eols (drop partial.parsed text) ≡ drop partial.parsed text = subst (λ (t : List ℕ). after_eols t ≡ t) (sym (start_here text partial.awaited partial.headers partial.parsed c.requires.awaited c.requires.partial.begun)) c.requires.front in
    let read = rw (take_rest text partial.parsed) at c.in_err-line.ensures.read in
    rw (p.1, p.2) (line_stops_frame c.in_err-line.field-0.0 c.args.limits.now text partial.awaited partial.headers partial.parsed partial.searched c.requires.awaited c.requires.partial idem read)

pub returns-in_err-command-clause-stops : goal.returns-in_err-command-clause-stops
returns-in_err-command-clause-stops c =
    let p = err_from_is_err_and c.from_residual-in_err-command.result c.from_residual-in_err-command.ensures.1 in
    let partial = c.args.self.now in
    let text = c.args.text.now in
    let idem : after_eols (drop partial.parsed text) ≡ drop partial.parsed text = subst (λ (t : List ℕ). after_eols t ≡ t) (sym (start_here text partial.awaited partial.headers partial.parsed c.requires.awaited c.requires.partial.begun)) c.requires.front in
    let read = rw (take_rest text partial.parsed) at c.in_ok-line.ensures.read in
    rw (p.1, p.2) (command_stops_frame c.in_err-command.field-0.0 c.args.limits.now text partial.awaited partial.headers partial.parsed partial.searched c.in_ok-line.line.now (drop c.in_ok-line.next (drop partial.parsed text)) c.requires.awaited c.requires.partial idem read c.in_err-command.ensures)

pub returns-clause-partial : goal.returns-clause-partial
returns-clause-partial c =
    let partial = c.args.self.now in
    let text = c.args.text.now in
    let idem : after_eols (drop partial.parsed text) ≡ drop partial.parsed text = subst (λ (t : List ℕ). after_eols t ≡ t) (sym (start_here text partial.awaited partial.headers partial.parsed c.requires.awaited c.requires.partial.begun)) c.requires.front in
    let read = rw (take_rest text partial.parsed) at c.in_ok-line.ensures.read in
    let end = rw (take_rest text partial.parsed) at c.in_ok-line.ensures.end in
    held_command c.args.limits.now text partial.awaited partial.headers partial.parsed partial.searched c.in_ok-line.next c.in_ok-line.line.now c.in_ok-command.command c.requires.awaited c.requires.partial idem read c.in_ok-command.ensures end.1
