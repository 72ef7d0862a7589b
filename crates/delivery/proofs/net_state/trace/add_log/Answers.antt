use Rattle.delivery.proofs.Words.All.{◌≡◌, Some, not, ap, sym, ◌∙◌, slice_get, option_map, TopicRow, fits}
use Rattle.delivery.proofs.Traces.Made.{logged_fits, log_grows}
use Rattle.delivery.proofs.net_state.trace.add_log.Goals as goal

pub put-requires : goal.put-requires
put-requires c =
    let rows = c.args.group.now.topic.held in let is : slice_get rows c.loop-i.i ≡ Some c.unwrap.result.now = sym c.held.ensures ∙ ap (option_map _) c.unwrap.ensures in
    ap not (ap (λ (logged : TopicRow). fits logged) c.in_ok-logged.ensures ∙ logged_fits c.args.topic rows c.loop-i.i c.unwrap.result.now c.requires is)

pub loop-i-preserved : goal.loop-i-preserved
loop-i-preserved c =
    let rows = c.args.group.now.topic.held in let is : slice_get rows c.loop-i.i ≡ Some c.unwrap.result.now = sym c.held.ensures ∙ ap (option_map _) c.unwrap.ensures in
    log_grows c.args.trace.now c.loop-i.trace c.put.new.trace c.args.topic rows c.loop-i.i c.unwrap.result.now c.in_ok-logged.logged
    is c.loop-i.invariant c.in_ok-logged.ensures c.in_ok-put.ensures
