use Rattle.std.proofs.Common.{◌<◌, ◌++◌, ◌∷◌, [], List, length, map, take, sym, ap, ◌∙◌, arith}
use Rattle.delivery.proofs.Words.All.{GroupState, new_topics, log_limit, new_group}
use Rattle.delivery.proofs.Views.Lists.ByNumber.{new_groups-push}
use Rattle.delivery.proofs.net_state.new_groups.Goals as goal

pub loop-i-preserved : goal.loop-i-preserved
loop-i-preserved c =
    let cs = c.args.clocks.now in let i = c.loop-i.i in let h : i < length cs = omega arith in
    c.in_ok-push.ensures.items
    ∙ (ap (λ (xs : List GroupState). xs ++ c.new.result ∷ []) c.loop-i.invariant
    ∙ (ap (λ (g : GroupState). map new_group (new_topics 0 log_limit (take i cs)) ++ g ∷ []) c.new.ensures
    ∙ sym (new_groups-push log_limit i cs h)))
