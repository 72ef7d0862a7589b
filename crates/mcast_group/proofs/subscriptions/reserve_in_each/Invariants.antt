use Rattle.std.proofs.Common.{◌≡◌, ℕ, ◌<◌, ◌≤◌, length, map, slice_index_or, None}
use Rattle.mcast_group.specs.declared.subscription.Subscription.{Subscription}
use Rattle.mcast_group.specs.Inner.GroupInvariant.{entry_of, gauge_of}
use Rattle.mcast_group.proofs.subscriptions.reserve_in_each.Given as goal

abbrev pub invariant-loop-i : goal.invariant-loop-i
invariant-loop-i g l =
    let shown = g.Q.Outlet.shown in
    let old = l.fn.subs.items in
    let now = l.subs.items in
    record {
      entries : map (entry_of shown) now ≡ map (entry_of shown) old;
      gauges : map (gauge_of shown) now ≡ map (gauge_of shown) old;
      spares : (k : ℕ) (d : Subscription g.row.Q.Denot) → k < length old → g.Q.Outlet.spare (slice_index_or old k d).outlet ≤ g.Q.Outlet.spare (slice_index_or now k d).outlet;
      done : (k : ℕ) (d : Subscription g.row.Q.Denot) → k < l.i → (slice_index_or now k d).to ≡ None → l.more ≤ g.Q.Outlet.spare (slice_index_or now k d).outlet;
    }
