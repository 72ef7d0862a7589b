use Rattle.std.proofs.Common.{◌+◌, ℕ, length, ap, ◌∙◌}
use Rattle.mcast_txn.proofs.OctetLemmas.{cap, header_more}
use Rattle.mcast_txn.proofs.draft.sealed_sends.octets_of.Goals as goal

pub loop-index-preserved : goal.loop-index-preserved
loop-index-preserved c =
    let more = header_more c.args.headers.now c.args.body.now c.loop-index.index c.loop-index.octets (c.pair.result.0.now, c.pair.result.1.now) c.pair.ensures.value c.loop-index.invariant in
    c.saturating_add-octets-in-loop-index.ensures ∙ (ap (λ (n : ℕ). cap (n + length c.pair.result.1.now)) c.saturating_add-octets.ensures ∙ more)
