use Rattle.delivery.proofs.Words.All.{Bool, get_or, List, ℕ, sym, ap, ◌∙◌, arith, option_map, error_frame, spelling_of, failed_endpoint, no_endpoint}
use Rattle.delivery.proofs.Views.Endpoints.EndpointChanges.{with_endpoint, written_length, failed_view, error_is}
use Rattle.delivery.proofs.net_state.NetState.fail.Goals as goal

pub begin_leaving-requires : goal.begin_leaving-requires
begin_leaving-requires c =
    let receipt = option_map (λ r. r.now) c.args.receipt in let text = spelling_of (error_frame c.title.result.now receipt c.args.version) in
    let e = written_length c.args.self.now c.write.new.self c.args.connection text c.write.result no_endpoint (c.write.ensures.ok, c.write.ensures.err) in
    omega (arith, e, c.requires)

pub returns-clause-endpoint : goal.returns-clause-endpoint
returns-clause-endpoint c d =
    let receipt = option_map (λ r. r.now) c.args.receipt in let text = spelling_of (error_frame c.title.result.now receipt c.args.version) in
    let failed = failed_view c.args.self.now c.write.new.self c.begin_leaving.new.self c.args.connection text c.write.result c.requires
    (c.write.ensures.ok, c.write.ensures.err) c.begin_leaving.ensures d in
    failed
    ∙ (ap (λ (b : Bool). with_endpoint c.args.self.now c.args.connection (failed_endpoint b text (get_or c.args.self.now.endpoints c.args.connection d))) (sym c.is_err-cut.ensures.value)
    ∙ ap (λ (octets : List ℕ). with_endpoint c.args.self.now c.args.connection (failed_endpoint c.is_err-cut.result octets (get_or c.args.self.now.endpoints c.args.connection d)))
    (error_is c.args.fault receipt c.title.result.now c.args.version c.title.ensures))
