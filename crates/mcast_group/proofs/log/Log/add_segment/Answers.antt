use Rattle.std.proofs.Common.{◌≡◌, ◌+◌, ◌++◌, ◌∷◌, [], List, length, sym, ap, subst, ◌∙◌, arith}
use Rattle.std.proofs.lemmas.List.{length_push}
use Rattle.mcast_txn.specs.Span.{LogRow}
use Rattle.mcast_group.specs.Inner.Log.{LogState, joined_rows}
use Rattle.mcast_group.proofs.Segments.{Has, segment_added}
use Rattle.mcast_group.proofs.log.Log.add_segment.Goals as goal

-- the segments with one more
added : (c : goal.In_ok-push_back) → Has 256 c.self.inside.len c.push_back.new.self.items (joined_rows c.self.inside.segments.items)
added c =
    let s = c.self.inside in
    let empty : c.in_ok-segment.segment ≡ [] = c.in_ok-segment.ensures in
    let is : c.push_back.new.self.items ≡ s.segments.items ++ [] ∷ [] = c.in_ok-push_back.ensures.items ∙ ap (λ (z : List LogRow). s.segments.items ++ z ∷ []) empty in
    subst (λ (z : List (List LogRow)). Has 256 s.len z (joined_rows s.segments.items)) (sym is) (segment_added 256 s.len s.segments.items c.self.invariant.0)

pub invariant_of-self-2 : goal.invariant_of-self-2
invariant_of-self-2 c =
    let s = c.self.inside in
    let l : s.segments.len ≡ length s.segments.items = s.segments.ok.0 in
    let few = c.if-len-ge-MOST_SEGMENTS.false in
    let is = c.len.ensures in
    let many : length c.push_back.new.self.items ≡ length s.segments.items + 1 = ap (λ (z : List (List LogRow)). length z) c.in_ok-push_back.ensures.items ∙ length_push s.segments.items c.in_ok-segment.segment in
    ((added c).shape, omega arith)

pub returns-clause-items : goal.returns-clause-items
returns-clause-items c = (added c).rows ∙ ap (λ (z : LogState). z.items) c.self.view_is
