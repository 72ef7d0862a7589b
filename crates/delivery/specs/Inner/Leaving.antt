-- Only serves proofs: what stands against the next step of a connection's leaving, and what each step leaves.
use Rattle.std.specs.Prelude.{ℕ, ◌&&◌, ◌||◌, nat_lt, not, Bool, true, false, List, [], ◌++◌, length, get_or, set, slice_get, Option, Some, None, if◌then◌else◌}
use Rattle.std.specs.Option.{option_map, option_map_or, option_and_then}
use Rattle.stomp_frame.specs.ServerFrames.{receipt_frame}
use Rattle.stomp_frame.specs.Writing.{spelling_of}
use Rattle.mcast_txn.specs.declared.stamp.Stamp.{Stamp}
use Rattle.delivery.specs.declared.stage.Stage.{Stage}
use Rattle.delivery.specs.Machine.Objections.{Objection}
use Rattle.delivery.specs.Inner.View.{View, EndpointView, SenderView, LeftView, no_endpoint, number_among, is_undecided}
use Rattle.delivery.specs.Inner.Subscriptions.{left_at, closed_view}

-- ---- checks

-- a sender has a transaction that is undecided, or tickets to cancel
abbrev pub is_busy : SenderView → Bool
is_busy x = is_undecided x.sending || nat_lt 0 (length x.leftovers)

-- what stands against the next step of leaving at this stage
abbrev pub leaving_objection : Stage → Bool → Option Objection
leaving_objection (Stage.Open endpoint) busy = Some Objection.NotLeaving
leaving_objection (Stage.Leaving parting) busy = if busy then Some Objection.Busy else None
leaving_objection Stage.Gone busy = Some Objection.Gone

-- the endpoint has no subscription that isn't closed, and its sender is busy
abbrev pub waits : List SenderView → EndpointView → Bool
waits senders endpoint =
    not (nat_lt 0 (length endpoint.live))
    && option_map_or is_busy (slice_get senders (number_among senders endpoint)) false

-- what stands against the next step of leaving of an endpoint, if there is one
abbrev pub leave_objection : List SenderView → Option EndpointView → Option Objection
leave_objection senders None = Some Objection.NoConn
leave_objection senders (Some endpoint) = leaving_objection endpoint.stage (waits senders endpoint)

-- ---- the next step

-- the connection's oldest subscription that isn't closed, if there is one
abbrev pub oldest_in : View → ℕ → Option ℕ
oldest_in v c = slice_get (get_or v.endpoints c no_endpoint).live 0

-- a subscription's number, and where its span ends
abbrev pub end_with : ℕ → LeftView → ℕ × Stamp
end_with s left = (s, left.to)

-- those of the oldest that isn't closed
abbrev pub oldest_end : View → ℕ → Option (ℕ × Stamp)
oldest_end v c = option_and_then (λ s. option_map (end_with s) (left_at s v)) (oldest_in v c)

-- the view once it is closed
abbrev pub oldest_closed : View → ℕ → View
oldest_closed v c = option_map_or (λ s. closed_view s v) (oldest_in v c) v

-- ---- the last step

-- the RECEIPT of a DISCONNECT, as it is spelled, if it asked for one
abbrev pub parting_text : Stage → List ℕ
parting_text (Stage.Open endpoint) = []
parting_text (Stage.Leaving None) = []
parting_text (Stage.Leaving (Some id)) = spelling_of (receipt_frame id)
parting_text Stage.Gone = []

-- a RECEIPT of a DISCONNECT was asked for
abbrev pub has_parting : Stage → Bool
has_parting (Stage.Open endpoint) = false
has_parting (Stage.Leaving None) = false
has_parting (Stage.Leaving (Some id)) = true
has_parting Stage.Gone = false

-- an endpoint that is gone, with the RECEIPT or without it
abbrev pub gone_endpoint : Bool → EndpointView → EndpointView
gone_endpoint cut endpoint = record endpoint {
  stage = Stage.Gone;
  output = endpoint.output ++ (if cut then [] else parting_text endpoint.stage);
}

-- the same of a view
abbrev pub gone_view : Bool → ℕ → View → View
gone_view cut c v = record v {
  endpoints = set v.endpoints c (gone_endpoint cut (get_or v.endpoints c no_endpoint));
}
