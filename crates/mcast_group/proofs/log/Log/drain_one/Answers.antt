use Rattle.std.proofs.Common.{◌≡◌, ◌*◌, [], List, length, set, get_or, sym, ap, ◌∙◌, arith}
use Rattle.std.proofs.lemmas.List.{length-set}
use Rattle.mcast_txn.specs.Span.{LogRow}
use Rattle.mcast_group.specs.Inner.Log.{LogState, joined_rows}
use Rattle.mcast_group.proofs.Segments.{first_emptied, first_is_all, rows_fit, rows_many}
use Rattle.mcast_group.proofs.log.Log.drain_one.Goals as goal

pub take_only-row-requires : goal.take_only-row-requires
take_only-row-requires c =
    let s = c.self.inside in
    let many : length c.args.self.now.items ≡ s.len = ap (λ (z : List LogRow). length z) (sym c.in_ok-reserve.ensures.items) ∙ (ap (λ (z : LogState). length z.items) (sym c.self.view_is) ∙ rows_many 256 s.len s.segments.items c.self.invariant.0) in
    let one = c.requires in
    let fit = rows_fit 256 s.len s.segments.items c.self.invariant.0 in
    let is : c.index_mut.result.now ≡ get_or s.segments.items 0 c.index_mut.result.now = c.index_mut.ensures.value in
    let all = first_is_all 256 s.len s.segments.items c.index_mut.result.now c.self.invariant.0 (omega arith) (omega arith) in
    ap (λ (z : List LogRow). length z) (is ∙ sym all) ∙ (rows_many 256 s.len s.segments.items c.self.invariant.0 ∙ (sym many ∙ one))

pub returns-clause-rows : goal.returns-clause-rows
returns-clause-rows c =
    let s = c.self.inside in
    let many : length c.args.self.now.items ≡ s.len = ap (λ (z : List LogRow). length z) (sym c.in_ok-reserve.ensures.items) ∙ (ap (λ (z : LogState). length z.items) (sym c.self.view_is) ∙ rows_many 256 s.len s.segments.items c.self.invariant.0) in
    let one = c.requires in
    let fit = rows_fit 256 s.len s.segments.items c.self.invariant.0 in
    let is : c.index_mut.result.now ≡ get_or s.segments.items 0 c.index_mut.result.now = c.index_mut.ensures.value in
    let all = first_is_all 256 s.len s.segments.items c.index_mut.result.now c.self.invariant.0 (omega arith) (omega arith) in
    let held : joined_rows s.segments.items ≡ c.args.self.now.items = ap (λ (z : LogState). z.items) c.self.view_is ∙ c.in_ok-reserve.ensures.items in
    c.of_one.ensures ∙ (sym c.take_only-row.ensures.row ∙ (is ∙ (sym all ∙ held)))

pub returns-clause-none : goal.returns-clause-none
returns-clause-none c =
    let s = c.self.inside in
    let many : length c.args.self.now.items ≡ s.len = ap (λ (z : List LogRow). length z) (sym c.in_ok-reserve.ensures.items) ∙ (ap (λ (z : LogState). length z.items) (sym c.self.view_is) ∙ rows_many 256 s.len s.segments.items c.self.invariant.0) in
    let one = c.requires in
    let empty : c.take_only-row.new.self ≡ [] = c.take_only-row.ensures.none in
    ap (λ (z : List LogRow). joined_rows (set s.segments.items 0 z)) empty ∙ (first_emptied 256 s.len s.segments.items c.self.invariant.0 (omega arith)).rows

pub returns-clause-room : goal.returns-clause-room
returns-clause-room c =
    let s = c.self.inside in
    let room : c.reserve.new.self.capacity ≡ 256 * length s.segments.items = ap (λ (z : LogState). z.capacity) (sym c.self.view_is) in
    let same = ap (λ (z : List LogRow). length z) c.in_ok-reserve.ensures.items in
    let one = c.requires in
    let ok = c.in_ok-reserve.ensures.ok in
    let rest = c.saturating_sub.ensures in
    let as_many = length-set s.segments.items 0 c.take_only-row.new.self in
    omega arith
