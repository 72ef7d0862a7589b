use Rattle.std.proofs.Common.{◌≡◌, ℕ, ◌+◌, ◌*◌, ◌/◌, ◌%◌, ◌<◌, ◌≤◌, List, length, get_or, refl, sym, ap, ◌∙◌, arith}
use Rattle.std.specs.List.{slice_get}
use Rattle.std.specs.Option.{option_map}
use Rattle.mcast_txn.specs.Span.{LogRow}
use Rattle.mcast_group.specs.Inner.Log.{LogState, joined_rows}
use Rattle.mcast_group.proofs.Segments.{no_row_at, row_at}
use Rattle.mcast_group.proofs.log.Log.row.Goals as goal

pub returns-in_err-get : goal.returns-in_err-get
returns-in_err-get c =
    let s = c.self.inside in
    let i = c.args.i in
    let l : s.segments.len ≡ length s.segments.items = s.segments.ok.0 in
    let past : length s.segments.items ≤ i / 256 = (let v = c.in_err-get.ensures.variant in grind (arith)) in
    ap (option_map (λ (row : _). row.now)) c.from_residual.ensures ∙ (sym (no_row_at s.len i s.segments.items c.self.invariant.0 past) ∙ ap (λ (z : LogState). slice_get z.items i) c.self.view_is)

pub returns : goal.returns
returns c =
    let s = c.self.inside in
    let i = c.args.i in
    let l : s.segments.len ≡ length s.segments.items = s.segments.ok.0 in
    let is : c.in_ok-get.field-0.now ≡ get_or s.segments.items (i / 256) c.in_ok-get.field-0.now = c.in_ok-get.ensures.lookup in
    let within : i / 256 < length s.segments.items = (let v = c.in_ok-get.ensures.variant.0 refl in omega arith) in
    let at = row_at 256 s.len s.segments.items (i / 256) (i % 256) c.in_ok-get.field-0.now c.self.invariant.0 (omega arith) within in
    let e : 256 * (i / 256) + i % 256 ≡ i = omega arith in
    c.row.ensures ∙ (ap (λ (z : List LogRow). slice_get z (i % 256)) is ∙ (sym at ∙ (ap (λ (k : ℕ). slice_get (joined_rows s.segments.items) k) e ∙ ap (λ (z : LogState). slice_get z.items i) c.self.view_is)))
