use Rattle.std.proofs.Common.{◌≡◌, ℕ, ◌+◌, ◌≤◌, List, [], length, drop, sym, subst}
use Rattle.broker_server.specs.Listening.{known_with}
use Rattle.broker_server.proofs.ListeningLemmas.{learns, one_more}
use Rattle.broker_server.proofs.serving.running.names_of.Goals as goal

pub loop-i-preserved : goal.loop-i-preserved
loop-i-preserved c =
    let names = c.args.topics.now.names in
    let added = sym c.in_ok-add.ensures.ok in
    record {
      so_far = subst (λ (known : List (List ℕ)). known_with (drop (c.loop-i.i + 1) names) known ≡ known_with names []) added
          (learns names c.loop-i.names (known_with names []) c.loop-i.i c.name.result.now c.name.ensures c.loop-i.invariant.so_far);
      few = subst (λ (known : List (List ℕ)). length known ≤ c.loop-i.i + 1) added (one_more c.name.result.now c.loop-i.names c.loop-i.i c.loop-i.invariant.few);
    }
