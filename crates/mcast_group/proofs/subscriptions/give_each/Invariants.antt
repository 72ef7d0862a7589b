use Rattle.std.proofs.Common.{◌≡◌, ℕ, ◌+◌, ◌<◌, ◌≤◌, List, length, Bool, slice_index_or, map, take}
use Rattle.mcast_group.specs.declared.subscription.Subscription.{Subscription}
use Rattle.mcast_group.specs.Machine.{item_of}
use Rattle.mcast_group.specs.Group.{entries_after}
use Rattle.mcast_group.specs.Inner.Copies.{AreOf}
use Rattle.mcast_group.specs.Inner.GroupInvariant.{MayGive, entry_of, gauge_of}
use Rattle.mcast_group.specs.Inner.Subscriptions.{endless_count}
use Rattle.mcast_group.proofs.Opens.{open_rest}
use Rattle.mcast_group.proofs.subscriptions.give_each.Given as goal

abbrev pub invariant-loop-i : goal.invariant-loop-i
invariant-loop-i g l =
    let shown = g.Q.Outlet.shown in
    let old = l.fn.subs.items in
    let now = l.subs.items in
    record {
      answers : List Bool;
      many : length answers ≡ l.i;
      size : length now ≡ length old;
      answered : MayGive shown g.Q.Outlet.may_accept answers old;
      entries : map (entry_of shown) now ≡ entries_after l.frontier (item_of l.part) answers (map (entry_of shown) old);
      gauges : map (gauge_of shown) now ≡ map (gauge_of shown) old;
      rest : (k : ℕ) (d : Subscription g.row.Q.Denot) → l.i ≤ k → slice_index_or now k d ≡ slice_index_or old k d;
      spare : (k : ℕ) (d : Subscription g.row.Q.Denot) → k < length old → g.Q.Outlet.spare (slice_index_or old k d).outlet ≤ g.Q.Outlet.spare (slice_index_or now k d).outlet + 1;
      copies : AreOf l.part.part l.copies;
      enough : open_rest l.i (map (entry_of shown) old) ≤ length l.copies;
      counted : l.left ≡ endless_count (take l.i now);
      most : l.left ≤ l.i;
    }
