-- The loss of a connection.
use Rattle.delivery.proofs.Words.All.{◌≡◌, ℕ, true, get_or, set, Option, Some, None, refl, sym, ap, ◌∙◌, slice_get, option_or, option_and_then, RawFrame, receipt_of, is_disconnect, Objection, refusal_of, connection_at, is_reading, Move, Answer, move_refusal, with_leaving, Event, Outcome, Refusal, accepted_of, Core, Makes, endpoint_objection, EndpointView, view_of, leaving_endpoint, parting_receipt}
use Rattle.std.specs.List.{find}
use Rattle.delivery.proofs.Machine.Effects.{made_world, made_answer}
use Rattle.delivery.proofs.Theorem.SendersAreOwn.{reading_there}
use Rattle.delivery.proofs.Words.Changes.{lost_is_quiet, in_outcome, refused_makes, open_checked, checked_there, checked_open, left_view, quiet_makes}

-- what stands against a loss is what stands against the endpoint
lost_refusal : (k : Core) (c : ℕ) (why : Option Objection) → endpoint_objection (slice_get (view_of k).endpoints c) ≡ why → move_refusal k.world (Move.Lost c) ≡ option_or why None
lost_refusal k c why is = ap (λ (o : Option Objection). option_or o None) (sym (open_checked k c) ∙ is)

-- a refused one changes nothing
pub lost_refused : (k : Core) (c : ℕ) (why : Objection) (refusal : Refusal) → endpoint_objection (slice_get (view_of k).endpoints c) ≡ Some why
    → refusal_of why ≡ Some refusal → Makes k (Event.Lost c) (Outcome.Refused refusal) (view_of k)
lost_refused k c why refusal is reported = refused_makes k (Event.Lost c) refusal (Move.Lost c) why refl refl (lost_refusal k c (Some why) is) reported refl

-- after another the connection is leaving, and nothing is written to it: an open connection accepted no DISCONNECT
pub lost_makes : (k : Core) (c : ℕ) (d : EndpointView) → (is_reading (connection_at k.world c).standing ≡ true → find (λ f. is_disconnect f.command) (accepted_of c k.steps) ≡ None)
    → endpoint_objection (slice_get (view_of k).endpoints c) ≡ None
    → Makes k (Event.Lost c) Outcome.Leaving (record (view_of k) { endpoints = set (view_of k).endpoints c (leaving_endpoint None (get_or (view_of k).endpoints c d)) })
lost_makes k c d not_parting is =
    let free = lost_refusal k c None is in
    let parting : parting_receipt (accepted_of c k.steps) ≡ None = ap (λ (f : Option RawFrame). option_and_then receipt_of f) (not_parting (checked_open k c is)) in
    quiet_makes k (Event.Lost c) Outcome.Leaving (with_leaving k.world c) (lost_is_quiet k.names c k.steps) refl
    (in_outcome k (Move.Lost c) Outcome.Leaving (Answer.Leaving c) (made_answer k.world (Move.Lost c) free) refl) (made_world k.world (Move.Lost c) free)
    (left_view k c None d (checked_there k c is) (reading_there (connection_at k.world c).standing (checked_open k c is)) parting)
