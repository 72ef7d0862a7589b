use Rattle.std.proofs.Common.{◌≡◌, None, map, refl}
use Rattle.std.specs.List.{find}
use Rattle.std.specs.Str.{bytes_eq}
use Rattle.sender_gate.specs.Inner.Stored.{begun_before, kept_sender_of}
use Rattle.sender_gate.proofs.KeptLemmas.{begun_alone, begun_with, insert_behind, numbered_after_begin, numbered_with}
use Rattle.sender_gate.proofs.senders.Senders.add.Goals as goal
use Rattle.sender_gate.proofs.senders.Senders.add.Goals.{in-Some+in-Ok+in-Ok-insert, in_default}

pub invariant_of-self-2 : goal.invariant_of-self-2
invariant_of-self-2 c =
    let es = c.self.inside.kept.entries in
    let number : c.args.sender.0 ≡ begun_before c.self.inside.next = rw (← c.self.view_is) at c.requires.number in
    elim c.match-client.branch [
      | in-Some+in-Ok+in-Ok-insert w ↦
          let none : find (λ k. bytes_eq w.in-Ok.id.items k.client) (map kept_sender_of es) ≡ None = rw w.in-Ok.ensures.items (rw (w.in-Some.is, ← c.self.view_is) at c.requires.none) in
          rw (w.self-inside-is, c.sender_after-self-inside.ensures, w.in-Ok-insert.ensures.entries, insert_behind es w.in-Ok.id (record { sender = c.args.sender; gate = None }) none)
          (numbered_with c.args.sender.0 es (w.in-Ok.id, record { sender = c.args.sender; gate = None }) refl (rw number c.self.invariant))
      | in_default w ↦ rw (w.self-inside-is, c.sender_after-self-inside.ensures) (numbered_after_begin c.args.sender.0 es (rw number c.self.invariant))
    ]

pub returns-clause-ok : goal.returns-clause-ok
returns-clause-ok c =
    let es = c.self.inside.kept.entries in
    let number : c.args.sender.0 ≡ begun_before c.self.inside.next = rw (← c.self.view_is) at c.requires.number in
    elim c.match-client.branch [
      | in-Some+in-Ok+in-Ok-insert w ↦
          let none : find (λ k. bytes_eq w.in-Ok.id.items k.client) (map kept_sender_of es) ≡ None = rw w.in-Ok.ensures.items (rw (w.in-Some.is, ← c.self.view_is) at c.requires.none) in
          rw (w.in-Some.is, w.self-inside-is, c.sender_after-self-inside.ensures, w.in-Ok-insert.ensures.entries, insert_behind es w.in-Ok.id (record { sender = c.args.sender; gate = None }) none, ← c.self.view_is)
          (begun_with (begun_before c.self.inside.next) es w.in-Ok.id c.args.sender w.in-Some.id.now w.in-Ok.ensures.items number)
      | in_default w ↦ rw (w.in_default.is, w.self-inside-is, c.sender_after-self-inside.ensures, ← c.self.view_is) (begun_alone (begun_before c.self.inside.next) es c.args.sender number)
    ]
