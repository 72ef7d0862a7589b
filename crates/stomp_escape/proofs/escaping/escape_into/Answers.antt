use Rattle.std.proofs.Common.{◌+◌, ◌≤◌, length, arith}
use Rattle.stomp_escape.proofs.Waiting.{piece_written, front_written, on_err}
use Rattle.stomp_escape.proofs.escaping.escape_into.Goals as goal

pub returns-in_err-escape_piece-clause-err : goal.returns-in_err-escape_piece-clause-err
returns-in_err-escape_piece-clause-err c = on_err c.from_residual-in_err-escape_piece.result (front_written c.args.out.now c.loop-at.out c.escape_piece.new.out c.args.text.now c.loop-at.at c.in_err-escape_piece.ensures.err c.loop-at.invariant.written)

pub loop-at-preserved : goal.loop-at-preserved
loop-at-preserved c =
    let within : c.loop-at.at + c.min.result ≤ length c.args.text.now = omega (arith, c.min.ensures) in
    record {
      within = within;
      written = piece_written c.args.out.now c.loop-at.out c.escape_piece.new.out c.args.text.now c.loop-at.at (c.loop-at.at + c.min.result) (omega arith) c.in_ok-escape_piece.ensures.ok c.loop-at.invariant.written;
    }
