use Rattle.std.proofs.Common.{◌≡◌, ◌+◌, ◌*◌, ◌≤◌, ◌<◌, List, length, sym, ap, subst, ◌∙◌, arith}
use Rattle.std.proofs.lemmas.List.{length-take}
use Rattle.mcast_txn.specs.Span.{LogRow}
use Rattle.mcast_group.specs.Inner.Log.{AreSegments, LogState, joined_rows}
use Rattle.mcast_group.proofs.Segments.{Parted, rows_many, segments_parted}
use Rattle.mcast_group.proofs.log.Log.give_back.Goals as goal

pub invariant_of-self : goal.invariant_of-self
invariant_of-self c =
    let s = c.self.inside in
    let n = c.div_ceil-needed.result + 1 in
    let many : length c.args.self.now.items ≡ s.len = ap (λ (z : LogState). length z.items) (sym c.self.view_is) ∙ rows_many 256 s.len s.segments.items c.self.invariant.0 in
    let none = ap (λ (z : List LogRow). length z) c.requires.none in
    let parted : Parted 256 s.len n s.segments.items = segments_parted 256 s.len n s.segments.items c.self.invariant.0 (omega arith) in
    let fewer = length-take n s.segments.items in
    let most : 256 * length s.segments.items < 18446744073709551616 = c.self.invariant.1 in (
      subst (λ (z : List (List LogRow)). AreSegments 256 s.len z) (sym c.truncate.ensures.items) parted.taken,
      subst (λ (z : List (List LogRow)). 256 * length z < 18446744073709551616) (sym c.truncate.ensures.items) (omega arith),
    )

pub returns-clause-none : goal.returns-clause-none
returns-clause-none c =
    let s = c.self.inside in
    let n = c.div_ceil-needed.result + 1 in
    let many : length c.args.self.now.items ≡ s.len = ap (λ (z : LogState). length z.items) (sym c.self.view_is) ∙ rows_many 256 s.len s.segments.items c.self.invariant.0 in
    let none = ap (λ (z : List LogRow). length z) c.requires.none in
    let parted : Parted 256 s.len n s.segments.items = segments_parted 256 s.len n s.segments.items c.self.invariant.0 (omega arith) in
    ap joined_rows c.truncate.ensures.items ∙ (parted.rows ∙ (ap (λ (z : LogState). z.items) c.self.view_is ∙ c.requires.none))

pub returns-clause-room : goal.returns-clause-room
returns-clause-room c =
    let s = c.self.inside in
    let n = c.div_ceil-needed.result + 1 in
    let fewer = length-take n s.segments.items in
    let up = c.div_ceil-needed.ensures in
    let has : c.args.self.now.capacity ≡ 256 * length s.segments.items = ap (λ (z : LogState). z.capacity) (sym c.self.view_is) in
    let room = c.requires.room in
    subst (λ (z : List (List LogRow)). c.args.more ≤ 256 * length z) (sym c.truncate.ensures.items) (omega arith)

pub returns-clause-few : goal.returns-clause-few
returns-clause-few c =
    let s = c.self.inside in
    let n = c.div_ceil-needed.result + 1 in
    let fewer = length-take n s.segments.items in
    let up = c.div_ceil-needed.ensures in
    subst (λ (z : List (List LogRow)). 256 * length z ≤ c.args.more + 512) (sym c.truncate.ensures.items) (omega arith)
