-- A client-id is in use until its connection is gone: after its DISCONNECT, an ERROR or its loss no senders among which its gate
-- is back are those of the core. So a core that gives the gate back then makes no step that its contract allows.
use Rattle.delivery.proofs.Words.All.{refl, sym, ap, ◌∙◌, ◌≡◌, [], ◌∷◌, Option, Some, None, codes, GateState, KeptSender, SendersState, find_kept, some_same, none_some, Event, claims_of, Core, AreClients, kept_entry}
use Rattle.delivery.proofs.Core.Acts.{act, reads, played, commit, disconnect}
use Rattle.delivery.proofs.Core.ClaimRows.{nine, opens_as, p}

-- the sender of p as it is kept: with its gate, or in use
abbrev kept_p : Option GateState → KeptSender
kept_p gate = record { client = p; sender = record { 0 = 0 }; gate = gate }

-- senders that have p's gate back aren't those of a core in which p is in use
refused : (k : Core) (clients : SendersState) (gate : GateState) → kept_entry k.world (claims_of k.steps) p ≡ Some (kept_p None)
    → find_kept p clients ≡ Some (kept_p (Some gate)) → AreClients k clients → Prim.⊥
refused k clients gate used freed are =
    let same = some_same (kept_p (Some gate)) (kept_p None) (sym freed ∙ (are.found p ∙ used)) in
    none_some gate (sym (ap (λ (x : KeptSender). x.gate) same))

-- p's connection has disconnected; it was sent an ERROR, for a COMMIT of no transaction; it was lost
abbrev parted : Core
parted = played nine (opens_as 0 p (reads 0 disconnect ∷ []))

abbrev failed : Core
failed = played nine (opens_as 0 p (reads 0 (commit (codes "x")) ∷ []))

abbrev lost : Core
lost = played nine (opens_as 0 p (act (Event.Lost 0) ∷ []))

freed_at_disconnect : (clients : SendersState) (gate : GateState) → find_kept p clients ≡ Some (kept_p (Some gate)) → AreClients parted clients → Prim.⊥
freed_at_disconnect clients gate freed are = refused parted clients gate refl freed are

freed_at_error : (clients : SendersState) (gate : GateState) → find_kept p clients ≡ Some (kept_p (Some gate)) → AreClients failed clients → Prim.⊥
freed_at_error clients gate freed are = refused failed clients gate refl freed are

freed_at_loss : (clients : SendersState) (gate : GateState) → find_kept p clients ≡ Some (kept_p (Some gate)) → AreClients lost clients → Prim.⊥
freed_at_loss clients gate freed are = refused lost clients gate refl freed are

-- once it is gone p isn't in use
gone_is_free : kept_entry (played lost (act (Event.Leave 0) ∷ [])).world (claims_of lost.steps) p
    ≡ Some (kept_p (Some (record { sender = record { 0 = 0 }; seq = 0; floor = record { n = 0; topic = record { 0 = 0 } } })))
gone_is_free = refl
