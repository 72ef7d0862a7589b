use Rattle.std.proofs.Common.{sym, drop, arith}
use Rattle.std.proofs.lemmas.List.{take_rest}
use Rattle.std.proofs.lemmas.Result.{err_from_is_err_and}
use Rattle.stomp_frame.proofs.Pairs.{line_text, header_pair}
use Rattle.stomp_frame.proofs.PartialFrames.{held_header, held_empty, header_line_stops, header_stops, length_stops, many_stop}
use Rattle.stomp_frame.proofs.reading.partial_frame.PartialFrame.take_header.Goals.{then-is_empty+in_ok-length_from, else-is_empty+else-len-limits+in_ok-name+in_ok-push}
use Rattle.stomp_frame.proofs.reading.partial_frame.PartialFrame.take_header.Goals as goal

pub returns-in_err-line-clause-stops : goal.returns-in_err-line-clause-stops
returns-in_err-line-clause-stops c =
    let p = err_from_is_err_and c.from_residual.result c.from_residual.ensures.1 in
    let partial = c.args.self.now in
    let text = c.args.text.now in
    let read = rw (take_rest text partial.parsed) at c.in_err-line.ensures.read in
    rw (p.1, p.2) (header_line_stops c.in_err-line.field-0.0 c.args.limits.now text partial.awaited partial.headers partial.parsed partial.searched c.args.command c.requires.awaited c.requires.partial read)

pub returns-then-len-limits-clause-stops : goal.returns-then-len-limits-clause-stops
returns-then-len-limits-clause-stops c =
    let partial = c.args.self.now in
    let text = c.args.text.now in
    let read = rw (take_rest text partial.parsed) at c.in_ok-line.ensures.read in
    many_stop c.args.limits.now text partial.awaited partial.headers partial.parsed partial.searched c.args.command c.in_ok-line.line.now (drop c.in_ok-line.next (drop partial.parsed text)) c.requires.awaited c.requires.partial (omega arith) read (sym c.if-is_empty.ensures)

pub returns-in_err-name-clause-stops : goal.returns-in_err-name-clause-stops
returns-in_err-name-clause-stops c =
    let p = err_from_is_err_and c.from_residual-in_err-name.result c.from_residual-in_err-name.ensures.1 in
    let partial = c.args.self.now in
    let text = c.args.text.now in
    let read = rw (take_rest text partial.parsed) at c.in_ok-line.ensures.read in
    let failed = rw c.has_escapes.ensures at c.in_err-name.ensures in
    rw (p.1, p.2) (header_stops c.in_err-name.field-0.0 c.args.limits.now text partial.awaited partial.headers partial.parsed partial.searched c.args.command c.in_ok-line.line.now (drop c.in_ok-line.next (drop partial.parsed text)) c.requires.awaited c.requires.partial (omega arith) read (sym c.if-is_empty.ensures) failed)

pub returns-in_err-length_from-clause-stops : goal.returns-in_err-length_from-clause-stops
returns-in_err-length_from-clause-stops c =
    let p = err_from_is_err_and c.from_residual-in_err-length_from.result c.from_residual-in_err-length_from.ensures.1 in
    let partial = c.args.self.now in
    let text = c.args.text.now in
    let read = rw (take_rest text partial.parsed) at c.in_ok-line.ensures.read in
    rw (p.1, p.2) (length_stops c.in_err-length_from.field-0.0 c.args.limits.now text partial.awaited partial.headers partial.parsed partial.searched c.args.command c.in_ok-line.line.now (drop c.in_ok-line.next (drop partial.parsed text)) c.requires.awaited c.requires.partial read (sym c.if-is_empty.ensures) c.in_err-length_from.ensures)

pub push-requires : goal.push-requires
push-requires c = header_pair c.has_escapes.result c.in_ok-line.line.now (c.in_ok-name.name, c.in_ok-name.value) (line_text c.args.limits.now _ c.in_ok-line.line.now _ c.in_ok-line.ensures.read) c.in_ok-name.ensures

pub returns-clause-partial : goal.returns-clause-partial
returns-clause-partial c =
    let partial = c.args.self.now in
    let text = c.args.text.now in
    let read = rw (take_rest text partial.parsed) at c.in_ok-line.ensures.read in
    let end = rw (take_rest text partial.parsed) at c.in_ok-line.ensures.end in
    elim c.if-is_empty.branch [
      | then-is_empty+in_ok-length_from w ↦ rw w.self-is (held_empty c.args.limits.now text partial.awaited partial.headers partial.parsed partial.searched c.in_ok-line.next c.args.command _ c.in_ok-line.line.now c.requires.awaited c.requires.partial read (sym w.if-is_empty.ensures) w.in_ok-length_from.ensures end.1)
      | else-is_empty+else-len-limits+in_ok-name+in_ok-push w ↦
          let found = rw w.has_escapes.ensures at w.in_ok-name.ensures in
          rw (w.self-is, w.in_ok-push.ensures.ok) (held_header c.args.limits.now text partial.awaited partial.headers partial.parsed partial.searched c.in_ok-line.next c.args.command c.in_ok-line.line.now (w.in_ok-name.name, w.in_ok-name.value) c.requires.awaited c.requires.partial (omega arith) read (sym w.if-is_empty.ensures) found end.1)
    ]
