use Rattle.std.proofs.Common.{ℕ, ◌≤◌, List, length, take, Ok, ap, sym, subst, ◌∙◌}
use Rattle.std.specs.Io.KnownBytes.{Appends}
use Rattle.broker_server.proofs.WireLemmas.{sent_more, took}
use Rattle.broker_server.proofs.draining.drain_wire.Goals as goal

pub writes-preserved : goal.writes-preserved
writes-preserved g c =
    let contents = g.W.Write.contents in
    let now = contents c.writes.writer in
    let then = contents c.write.new.self in
    let wrote = took now then c.write.result c.in-Took.n c.pending.result.now
    (sym c.of.ensures ∙ c.in_ok-n.was ∙ ap Ok c.in-Took.is) c.write.ensures.bound c.write.ensures.bytes in
    let same = λ (xs : List ℕ). (c.in-Took.n ≤ length xs) × Appends now then (take c.in-Took.n xs) in
    let more = subst same c.pending.ensures wrote in
    record {
      out = sent_more (contents c.args.writer.now) now then c.args.wire.now c.writes.wire c.wrote.new.self
          c.writes.sent c.in-Took.n c.wrote.ensures more.0 c.writes.invariant.out more.1;
    }
