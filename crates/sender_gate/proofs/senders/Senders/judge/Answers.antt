use Rattle.std.proofs.Common.{◌≡◌, ◌∙◌, ◌<◌, ap, sym, refl, true, false, is_some, None, List, ℕ, Bor, length, arith}
use Rattle.std.proofs.lemmas.List.{length-map}
use Rattle.std.specs.Option.{option_map}
use Rattle.sender_gate.specs.Inner.Stored.{kept_sender_of}
use Rattle.sender_gate.specs.Senders.{claimed}
use Rattle.sender_gate.proofs.ClaimLemmas.{none_from, not_refused, not_refused_with_room, not_refused_without, refused_in_use}
use Rattle.sender_gate.proofs.KeptLemmas.{gate_same}
use Rattle.sender_gate.proofs.senders.Senders.judge.Goals as goal
use Rattle.sender_gate.proofs.senders.Senders.judge.Goals.{else-is_some-via-then-is_some+else-len-ge-MAX_CLIENTS, else-is_some-via-else-is_some}

pub returns-then-is_none-clause-fault : goal.returns-then-is_none-clause-fault
returns-then-is_none-clause-fault c =
    let at = c.in-Some.ensures.at in
    let gate = gate_same c.self.inside.kept.entries c.in-Some.index c.index.result.now at.kept c.index.ensures (rw (← c.self.view_is) at at.at) in
    let used : is_some at.kept.gate ≡ false = ap is_some (sym gate) ∙ c.if-is_none.ensures in
    sym (refused_in_use (option_map (λ id. id.now) c.args.client) c.args.self.now at.kept at.found used)

pub returns-in-Some-clause-fault : goal.returns-in-Some-clause-fault
returns-in-Some-clause-fault c =
    let at = c.in-Some.ensures.at in
    let gate = gate_same c.self.inside.kept.entries c.in-Some.index c.index.result.now at.kept c.index.ensures (rw (← c.self.view_is) at at.at) in
    let free : is_some at.kept.gate ≡ true = ap is_some (sym gate) ∙ c.if-is_none.ensures in
    sym (not_refused (option_map (λ id. id.now) c.args.client) c.args.self.now at.kept at.found free)

pub returns-in-Some-clause-claim : goal.returns-in-Some-clause-claim
returns-in-Some-clause-claim c =
    let at = c.in-Some.ensures.at in
    let gate = gate_same c.self.inside.kept.entries c.in-Some.index c.index.result.now at.kept c.index.ensures (rw (← c.self.view_is) at at.at) in
    (at, ap is_some (sym gate) ∙ c.if-is_none.ensures)

pub returns-in-Some-next-clause-fault : goal.returns-in-Some-next-clause-fault
returns-in-Some-next-clause-fault c =
    let client = option_map (λ (id : Bor (List ℕ)). id.now) c.args.client in
    let none : claimed client c.args.self.now ≡ None = none_from (claimed client c.args.self.now) (sym c.in_default.ensures.none) in
    let number : c.args.self.now.begun ≡ c.in-Some-next.sender.0 = rw (← c.self.view_is, c.in-Some-next.is) refl in
    let left : c.args.self.now.begun < 18446744073709551616 = omega (arith, number, c.of_new.ensures.number) in
    elim c.else-is_some.branch [
      | else-is_some-via-then-is_some+else-len-ge-MAX_CLIENTS w ↦
          let same : length c.args.self.now.kept ≡ length c.self.inside.kept.entries = rw (← c.self.view_is) (length-map c.self.inside.kept.entries kept_sender_of) in
          sym (not_refused_with_room client c.args.self.now none (omega (arith, same, w.len.ensures.len, w.if-len-ge-MAX_CLIENTS.false)) left)
      | else-is_some-via-else-is_some w ↦ sym (not_refused_without c.args.client c.args.self.now none (sym c.is_some.ensures ∙ w.if-is_some.false) left)
    ]
