use Rattle.std.proofs.Common.{◌≡◌, ℕ, ◌+◌, ◌*◌, ◌/◌, ◌%◌, ◌<◌, ◌++◌, ◌∷◌, [], List, length, get_or, set, sym, ap, subst, ◌∙◌, arith}
use Rattle.std.proofs.lemmas.List.{length-set}
use Rattle.mcast_txn.specs.Span.{LogRow}
use Rattle.mcast_group.specs.Inner.Log.{LogState, joined_rows}
use Rattle.mcast_group.proofs.Segments.{Has, next_many, room_for_one, row_pushed}
use Rattle.mcast_group.proofs.log.Log.push.Goals as goal

pub index_mut-requires : goal.index_mut-requires
index_mut-requires c =
    let s = c.self.inside in
    let l : s.segments.len ≡ length s.segments.items = s.segments.ok.0 in
    let w = room_for_one s.len s.segments.items c.self.invariant.0 (subst (λ (z : LogState). length z.items < z.capacity) (sym c.self.view_is) c.requires) in
    omega arith

pub push-requires : goal.push-requires
push-requires c =
    let s = c.self.inside in
    let is : c.index_mut.result.now ≡ get_or s.segments.items (s.len / 256) c.index_mut.result.now = c.index_mut.ensures.value in
    let many = next_many 256 s.len s.segments.items (s.len / 256) (s.len % 256) c.index_mut.result.now c.self.invariant.0 (omega arith) (omega arith) (room_for_one s.len s.segments.items c.self.invariant.0 (subst (λ (z : LogState). length z.items < z.capacity) (sym c.self.view_is) c.requires)) in
    let same = ap (λ (z : List LogRow). length z) is in
    omega arith

pub overflow_add-self : goal.overflow_add-self
overflow_add-self c =
    let s = c.self.inside in
    let w = room_for_one s.len s.segments.items c.self.invariant.0 (subst (λ (z : LogState). length z.items < z.capacity) (sym c.self.view_is) c.requires) in
    let most : 256 * length s.segments.items < 18446744073709551616 = c.self.invariant.1 in
    omega arith

-- the segments with the row
pushed : (c : goal.After-self-2-1) → Has 256 (c.self.inside.len + 1) (set c.self.inside.segments.items (c.self.inside.len / 256) c.push.new.self) (joined_rows c.self.inside.segments.items ++ c.args.row ∷ [])
pushed c =
    let s = c.self.inside in
    let is : c.index_mut.result.now ≡ get_or s.segments.items (s.len / 256) c.index_mut.result.now = c.index_mut.ensures.value in
    let new : c.push.new.self ≡ get_or s.segments.items (s.len / 256) c.index_mut.result.now ++ c.args.row ∷ [] = c.push.ensures ∙ ap (λ (z : List LogRow). z ++ c.args.row ∷ []) is in
    subst (λ (z : List LogRow). Has 256 (s.len + 1) (set s.segments.items (s.len / 256) z) (joined_rows s.segments.items ++ c.args.row ∷ [])) (sym new)
    (row_pushed 256 s.len s.segments.items (s.len / 256) (s.len % 256) c.index_mut.result.now c.args.row c.self.invariant.0 (omega arith) (omega arith) (room_for_one s.len s.segments.items c.self.invariant.0 (subst (λ (z : LogState). length z.items < z.capacity) (sym c.self.view_is) c.requires)))

pub invariant_of-self : goal.invariant_of-self
invariant_of-self c =
    let s = c.self.inside in
    ((pushed c).shape, subst (λ (k : ℕ). 256 * k < 18446744073709551616) (sym (length-set s.segments.items (s.len / 256) c.push.new.self)) c.self.invariant.1)

pub returns-clause-items : goal.returns-clause-items
returns-clause-items c =
    (pushed c).rows ∙ ap (λ (z : LogState). z.items ++ c.args.row ∷ []) c.self.view_is
