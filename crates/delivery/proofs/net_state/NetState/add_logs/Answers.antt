use Rattle.delivery.proofs.Words.All.{◌≡◌, ◌+◌, ◌<◌, ℕ, true, length, map, get_or, ap, subst, ◌∙◌, arith, list_all, GroupState, TopicRow, fits, traced_log, View}
use Rattle.delivery.proofs.Traces.Made.{held_at, logs_grow, passes_made}
use Rattle.delivery.proofs.net_state.NetState.add_logs.Goals as goal

pub add_log-requires : goal.add_log-requires
add_log-requires c =
    let groups = c.args.self.now.groups in let many = ap (λ (v : View). length v.groups) c.self.view_is in
    let there : c.loop-i.i < length groups = omega (arith, c.loop-i-test.true, c.len-i-end.ensures, c.self.inside.groups.ok.0, many) in
    let read : c.index.result.now ≡ get_or groups c.loop-i.i c.index.result.now = c.index.ensures ∙ ap (λ (v : View). get_or v.groups c.loop-i.i c.index.result.now) c.self.view_is in
    let log = c.index.result.now.topic.held in let first : 0 + c.loop-i.i ≡ c.loop-i.i = omega arith in
    subst (λ (n : ℕ). list_all (λ (logged : TopicRow). fits logged) (traced_log n log) ≡ true) first
    (passes_made (λ (logged : TopicRow). fits logged) traced_log 0 (map (λ (g : GroupState). g.topic.held) groups) c.loop-i.i log c.requires.fit
    (held_at groups c.loop-i.i c.index.result.now there read))

pub loop-i-preserved : goal.loop-i-preserved
loop-i-preserved c =
    let groups = c.args.self.now.groups in let many = ap (λ (v : View). length v.groups) c.self.view_is in
    let there : c.loop-i.i < length groups = omega (arith, c.loop-i-test.true, c.len-i-end.ensures, c.self.inside.groups.ok.0, many) in
    let read : c.index.result.now ≡ get_or groups c.loop-i.i c.index.result.now = c.index.ensures ∙ ap (λ (v : View). get_or v.groups c.loop-i.i c.index.result.now) c.self.view_is in
    logs_grow c.args.trace.now c.loop-i.trace c.add_log.new.trace (map (λ (g : GroupState). g.topic.held) groups) c.loop-i.i c.index.result.now.topic.held
    (held_at groups c.loop-i.i c.index.result.now there read) c.loop-i.invariant c.in_ok-add_log.ensures
