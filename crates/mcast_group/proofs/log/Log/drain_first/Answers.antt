use Rattle.std.proofs.Common.{◌≡◌, ◌*◌, ◌++◌, [], List, length, set, get_or, sym, ap, subst, ◌∙◌, arith}
use Rattle.std.proofs.lemmas.List.{length-set}
use Rattle.mcast_txn.specs.Span.{LogRow}
use Rattle.mcast_group.specs.Inner.Log.{AreSegments, LogState, joined_rows}
use Rattle.mcast_group.proofs.Segments.{first_emptied, first_is_all, nothing_after, rows_fit, rows_many}
use Rattle.mcast_group.proofs.log.Log.drain_first.Goals as goal

pub invariant_of-self-2 : goal.invariant_of-self-2
invariant_of-self-2 c =
    let s = c.self.inside in
    let many : length c.args.self.now.items ≡ s.len = ap (λ (z : List LogRow). length z) (sym c.in_ok-reserve.ensures.items) ∙ (ap (λ (z : LogState). length z.items) (sym c.self.view_is) ∙ rows_many 256 s.len s.segments.items c.self.invariant.0) in
    let few = c.requires.few in
    let empty : c.take_rows.new.self ≡ [] = c.in_ok-rows.ensures.none in
    let as_many = length-set s.segments.items 0 c.take_rows.new.self in
    let most = c.self.invariant.1 in (
      subst (λ (z : List LogRow). AreSegments 256 0 (set s.segments.items 0 z)) (sym empty) (first_emptied 256 s.len s.segments.items c.self.invariant.0 (omega arith)).shape,
      omega arith,
    )

pub returns-clause-rows : goal.returns-clause-rows
returns-clause-rows c =
    let s = c.self.inside in
    let many : length c.args.self.now.items ≡ s.len = ap (λ (z : List LogRow). length z) (sym c.in_ok-reserve.ensures.items) ∙ (ap (λ (z : LogState). length z.items) (sym c.self.view_is) ∙ rows_many 256 s.len s.segments.items c.self.invariant.0) in
    let some = c.requires.some in
    let few = c.requires.few in
    let fit = rows_fit 256 s.len s.segments.items c.self.invariant.0 in
    let is : c.index_mut.result.now ≡ get_or s.segments.items 0 c.index_mut.result.now = c.index_mut.ensures.value in
    let all = first_is_all 256 s.len s.segments.items c.index_mut.result.now c.self.invariant.0 (omega arith) (omega arith) in
    let held : joined_rows s.segments.items ≡ c.args.self.now.items = ap (λ (z : LogState). z.items) c.self.view_is ∙ c.in_ok-reserve.ensures.items in
    let taken : c.in_ok-rows.rows.items ≡ c.args.self.now.items = c.in_ok-rows.ensures.rows ∙ (is ∙ (sym all ∙ held)) in
    c.of_many.ensures ∙ (c.new-2.ensures ∙ (ap (λ (z : LogState). c.in_ok-rows.rows.items ++ z.items) c.new.ensures ∙ (nothing_after c.in_ok-rows.rows.items ∙ taken)))

pub returns-clause-none : goal.returns-clause-none
returns-clause-none c =
    let s = c.self.inside in
    let many : length c.args.self.now.items ≡ s.len = ap (λ (z : List LogRow). length z) (sym c.in_ok-reserve.ensures.items) ∙ (ap (λ (z : LogState). length z.items) (sym c.self.view_is) ∙ rows_many 256 s.len s.segments.items c.self.invariant.0) in
    let few = c.requires.few in
    let empty : c.take_rows.new.self ≡ [] = c.in_ok-rows.ensures.none in
    ap (λ (z : List LogRow). joined_rows (set s.segments.items 0 z)) empty ∙ (first_emptied 256 s.len s.segments.items c.self.invariant.0 (omega arith)).rows

pub returns-clause-room : goal.returns-clause-room
returns-clause-room c =
    let s = c.self.inside in
    let room : c.reserve-2.new.self.capacity ≡ 256 * length s.segments.items = ap (λ (z : LogState). z.capacity) (sym c.self.view_is) in
    let same = ap (λ (z : List LogRow). length z) c.in_ok-reserve.ensures.items in
    let first : length c.args.self.now.items ≡ c.reserve.inside.len = ap (λ (z : LogState). length z.items) (sym c.reserve.view_is) ∙ rows_many 256 c.reserve.inside.len c.reserve.inside.segments.items c.reserve.invariant.0 in
    let ok = c.in_ok-reserve.ensures.ok in
    let rest = c.saturating_sub.ensures in
    let as_many = length-set s.segments.items 0 c.take_rows.new.self in
    omega arith
