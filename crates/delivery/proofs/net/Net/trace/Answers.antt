use Rattle.delivery.proofs.Words.All.{[], refl, subst, sym, IfOk-weaker, TraceData, KeptRun, trace_of, IsTraced, report_in}
use Rattle.delivery.proofs.Views.Runs.KeptRuns.{opening_of}
use Rattle.delivery.proofs.Traces.OfNets.{held_few, held_fits, held_traced}
use Rattle.delivery.proofs.net.Net.trace.Goals as goal

pub trace-requires-clause-few : goal.trace-requires-clause-few
trace-requires-clause-few c =
    let held = c.self.inside.state in
    let net : KeptRun = record { topics = opening_of c.self.inside.clocks.items held; capacity = held.capacity; kept = c.self.inside.kept.items; steps = []; spare = 0 } in
    held_few net held c.self.invariant.run

pub trace-requires-clause-fit : goal.trace-requires-clause-fit
trace-requires-clause-fit c =
    let held = c.self.inside.state in
    let net : KeptRun = record { topics = opening_of c.self.inside.clocks.items held; capacity = held.capacity; kept = c.self.inside.kept.items; steps = []; spare = 0 } in
    held_fits net held c.self.invariant.run

pub returns : goal.returns
returns c =
    IfOk-weaker c.trace.result _ _ (λ trace is.
    subst (λ (z : TraceData). IsTraced c.args.self.now z) (sym is)
    (subst (λ (net : KeptRun). IsTraced net (trace_of (report_in c.self.inside.state))) c.self.view_is (held_traced _ c.self.inside.state refl c.self.invariant.run))) c.trace.ensures
