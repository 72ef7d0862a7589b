use Rattle.std.proofs.Common.{sym}
use Rattle.std.proofs.lemmas.List.{take_rest}
use Rattle.std.proofs.lemmas.Result.{err_from_is_err_and}
use Rattle.stomp_frame.proofs.PartialFrames.{body_stops, body_whole}
use Rattle.stomp_frame.proofs.reading.partial_frame.PartialFrame.finish.Goals as goal

pub returns-in_err-body-clause-read : goal.returns-in_err-body-clause-read
returns-in_err-body-clause-read c =
    let p = err_from_is_err_and c.from_residual.result c.from_residual.ensures.1 in
    let partial = c.args.self.now in
    let text = c.args.text.now in
    let read = rw (take_rest text partial.parsed) at c.in_err-body.ensures.read in
    rw (p.1, p.2) (body_stops c.in_err-body.field-0.0 c.args.limits.now text partial.awaited partial.headers partial.parsed partial.searched c.args.command c.args.counted c.requires.awaited c.requires.partial read)

pub returns-clause-read : goal.returns-clause-read
returns-clause-read c =
    let partial = c.args.self.now in
    let text = c.args.text.now in
    let read = rw (take_rest text partial.parsed) at c.in_ok-body.ensures.read in
    rw (c.replace-headers.ensures.value, c.in_ok-body-2.ensures, sym c.in_ok-body.ensures.front) (body_whole c.args.limits.now text partial.awaited partial.headers partial.parsed partial.searched c.in_ok-body.next c.args.command c.args.counted c.in_ok-body.body.now c.requires.awaited c.requires.partial read)
