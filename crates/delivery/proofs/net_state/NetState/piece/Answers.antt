use Rattle.delivery.proofs.Words.All.{get_or, set, sym, ap, subst, ◌∙◌, slice_get, Event, Outcome, Makes, endpoint_objection, View, fed_endpoint, no_endpoint}
use Rattle.delivery.proofs.Views.Events.PieceStep.{piece_makes, piece_without, piece_refused}
use Rattle.delivery.proofs.net_state.NetState.piece.Goals as goal

pub returns-in-Ok-feed : goal.returns-in-Ok-feed
returns-in-Ok-feed c k reached is =
    let free = ap (λ (v : View). endpoint_objection (slice_get v.endpoints c.args.connection)) (sym is) ∙ c.in-Ok.ensures in let octets = c.args.octets.now in
    let new = c.in-Ok-feed.ensures.ok no_endpoint ∙ ap (λ (v : View). record v { endpoints = set v.endpoints c.args.connection (fed_endpoint octets (get_or v.endpoints c.args.connection no_endpoint)) }) is in
    subst (λ (v : View). Makes k (Event.Piece c.args.connection octets) Outcome.Fed v) (sym new) (piece_makes k c.args.connection octets no_endpoint free)

pub returns-in-Err-feed : goal.returns-in-Err-feed
returns-in-Err-feed c k reached is =
    let free = ap (λ (v : View). endpoint_objection (slice_get v.endpoints c.args.connection)) (sym is) ∙ c.in-Ok.ensures in
    subst (λ (v : View). Makes k (Event.Piece c.args.connection c.args.octets.now) Outcome.NoMemory v) (sym (c.in-Err-feed.ensures.err ∙ is))
    (piece_without k c.args.connection c.args.octets.now free)

pub returns-in-Err : goal.returns-in-Err
returns-in-Err c k reached is =
    let h = c.in-Err.ensures in let why = ap (λ (v : View). endpoint_objection (slice_get v.endpoints c.args.connection)) (sym is) ∙ h.1 in
    subst (λ (v : View). Makes k (Event.Piece c.args.connection c.args.octets.now) (Outcome.Refused c.in-Err.refusal) v) (sym is)
    (piece_refused k c.args.connection c.args.octets.now h.0 c.in-Err.refusal why h.2)
