use Rattle.std.proofs.Common.{List, ℕ, sym, subst}
use Rattle.stomp_frame.specs.Inner.PartialFrames.{IsReaderState}
use Rattle.stomp_frame.proofs.PartialFrames.{reading_more}
use Rattle.stomp_frame.proofs.reading.reader.FrameReader.feed.Goals as goal

pub invariant_of-self-2 : goal.invariant_of-self-2
invariant_of-self-2 c =
    let r = c.self-2.inside in
    subst (λ (t : List ℕ). IsReaderState r.limits t r.start r.front r.partial) (sym c.in_ok-extend_from_slice.ensures.items) (reading_more r.limits r.text.items c.args.piece.now r.start r.front r.partial c.self-2.invariant)
