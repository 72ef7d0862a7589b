use Rattle.std.proofs.Common.{rules, arith}
use Rattle.std.proofs.lemmas.Fmt.{length-decimal-le}
use Rattle.stomp_frame.proofs.writing.server_writer.put_before.Goals as goal

pub write_digits-requires : goal.write_digits-requires
write_digits-requires c = search (rules, length-decimal-le 20)

pub returns-clause-start : goal.returns-clause-start
returns-clause-start c = omega (arith, c.write_digits.ensures.start, length-decimal-le 20 c.args.n (omega arith) (omega arith) (omega arith))
