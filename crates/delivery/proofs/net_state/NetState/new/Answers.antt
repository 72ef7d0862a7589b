use Rattle.std.proofs.Common.{refl, ap, ◌∙◌}
use Rattle.delivery.proofs.Words.All.{new_core, log_limit, PromisedRows, view_of}
use Rattle.delivery.proofs.Views.Lists.ByNumber.{new_groups_view}
use Rattle.delivery.proofs.Views.Runs.SameView.{same_view}
use Rattle.delivery.proofs.net_state.NetState.new.Goals as goal

pub returns : goal.returns
returns c =
    let k = new_core (record { names = c.args.names; clocks = c.args.clocks.now }) c.args.capacity in
    same_view _ (view_of k) refl refl
    (c.in_ok-groups.ensures ∙ new_groups_view k.world 0 log_limit c.args.clocks.now)
    c.new.ensures.items c.new-2.ensures c.new-3.ensures.items c.new-4.ensures.items (ap (λ (p : PromisedRows). p.rows) c.new-5.ensures)
