use Rattle.delivery.proofs.Words.All.{ℕ, length, get_or, refl, sym, ap, subst, ◌∙◌, arith, List, Option, Result, Ok, after_claim, claim_refusal, claimed_gate, NoMemory, connected_frame, spelling_of, ConnectionFault, MayResume, with_sender_of, MayEnd, View, no_endpoint, written_endpoint}
use Rattle.delivery.proofs.Views.Endpoints.EndpointChanges.{changed_length, taken_back}
use Rattle.delivery.proofs.Views.Events.ConnectStep.{claim_lacks, claim_refused, claim_rests, connect_both, sender_endpoints}
use Rattle.delivery.proofs.net_state.NetState.connect.Goals as goal

pub returns-in-Err-clause-fault : goal.returns-in-Err-clause-fault
returns-in-Err-clause-fault c k f left receipt asks kept =
    subst (λ (fault : ConnectionFault). MayEnd k c.args.connection f fault) (sym c.refused_claim.ensures)
    (claim_refused k c.args.connection f left c.args.client.now receipt c.args.self.now c.args.clients.now asks kept c.in-Err.fault
    (ap (λ (id : Option (List ℕ)). claim_refusal id c.args.clients.now) (sym c.id_of-id.ensures) ∙ sym c.in-Err.ensures))

pub returns-in_default-write-clause-fault : goal.returns-in_default-write-clause-fault
returns-in_default-write-clause-fault c k f left receipt asks kept =
    claim_lacks k c.args.connection f left c.args.client.now receipt c.args.self.now c.args.clients.now asks kept
    (ap (λ (id : Option (List ℕ)). claim_refusal id c.args.clients.now) (sym c.id_of-id.ensures) ∙ sym c.in_default.ensures)

pub claim-requires : goal.claim-requires
claim-requires c =
    let a = c.requires.asks in
    subst (λ (o : Option (List ℕ)). MayResume o c.args.clients.now c.write.new.self) (sym c.id_of-id.ensures)
    (claim_rests a.0 c.args.connection a.1 a.2 c.args.client.now a.3 c.args.self.now c.args.clients.now a.4 a.5
    c.write.new.self no_endpoint (c.in-Ok.ensures.ok no_endpoint))

pub speak_for-requires : goal.speak_for-requires
speak_for-requires c =
    let v = c.args.self.now in
    let n = changed_length v c.write.new.self c.args.connection (written_endpoint (spelling_of connected_frame) (get_or v.endpoints c.args.connection no_endpoint)) (c.in-Ok.ensures.ok no_endpoint) in
    let m = ap (λ (x : View). length x.endpoints) c.in-Ok-claim.ensures.held ∙ sender_endpoints _ c.write.new.self in omega (arith, n, m, c.requires.there)

pub take_back-requires : goal.take_back-requires
take_back-requires c =
    let v = c.args.self.now in
    let n = changed_length v c.write.new.self c.args.connection (written_endpoint (spelling_of connected_frame) (get_or v.endpoints c.args.connection no_endpoint)) (c.in-Ok.ensures.ok no_endpoint) in
    let m = ap (λ (x : View). length x.endpoints) c.in-Err-claim.ensures.err in omega (arith, n, m, c.requires.there)

pub returns-in-Ok-claim-clause-ok : goal.returns-in-Ok-claim-clause-ok
returns-in-Ok-claim-clause-ok c k f left receipt asks kept =
    let h = c.in-Ok-claim.ensures in let clients = c.args.clients.now in let id = c.id_of-id.ensures in
    connect_both k c.args.connection f left c.args.client.now receipt c.args.self.now clients asks kept
    c.write.new.self c.claim.new.self c.speak_for.new.self c.in-Ok-claim.sender.0 c.claim.new.clients no_endpoint
    (ap (λ (o : Option (List ℕ)). claim_refusal o clients) (sym id) ∙ sym c.in_default.ensures)
    (c.in-Ok.ensures.ok no_endpoint)
    (ap (λ (o : Option (List ℕ)). (claimed_gate o clients).sender.0) (sym id) ∙ h.ok)
    (h.held ∙ ap (λ (o : Option (List ℕ)). with_sender_of (claimed_gate o clients) c.write.new.self) id)
    (c.speak_for.ensures no_endpoint)
    (h.claimed ∙ ap (λ (o : Option (List ℕ)). after_claim o clients) id)

pub returns-in-Err-claim-clause-fault : goal.returns-in-Err-claim-clause-fault
returns-in-Err-claim-clause-fault c k f left receipt asks kept =
    claim_lacks k c.args.connection f left c.args.client.now receipt c.args.self.now c.args.clients.now asks kept
    (ap (λ (id : Option (List ℕ)). claim_refusal id c.args.clients.now) (sym c.id_of-id.ensures) ∙ sym c.in_default.ensures)

pub returns-in-Err-claim-clause-err : goal.returns-in-Err-claim-clause-err
returns-in-Err-claim-clause-err c =
    let wrote : Result (Unit {0}) NoMemory = Ok tt in
    taken_back c.args.self.now c.write.new.self c.claim.new.self c.take_back.new.self c.args.connection c.written-len.result (spelling_of connected_frame) wrote no_endpoint
    c.requires.there (c.written-len.ensures no_endpoint) refl (c.in-Ok.ensures.ok, tt) c.in-Err-claim.ensures.err (c.take_back.ensures no_endpoint)
