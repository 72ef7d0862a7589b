use Rattle.std.proofs.Common.{length, drop, ap, sym, ◌∙◌, arith}
use Rattle.std.proofs.lemmas.Bool.{eq-eqb, eqb-true}
use Rattle.std.proofs.lemmas.List.{nil_from_length, length-drop}
use Rattle.stomp_frame.specs.Reader.{Unread}
use Rattle.stomp_frame.proofs.reading.reader.FrameReader.clean.Goals as goal

pub returns : goal.returns
returns c =
    let fields = c.self.inside in
    let whole = c.len.ensures ∙ fields.text.ok.0 in
    let long = length-drop fields.start fields.text.items in
    let seen = ap (λ (u : Unread). u.text) c.self.view_is in (
      λ e. let at = eqb-true fields.start c.len.result e in sym seen ∙ nil_from_length (drop fields.start fields.text.items) (omega arith),
      λ e. let none = ap length (seen ∙ e) in eq-eqb fields.start c.len.result (omega (arith, c.self.invariant)),
    )
