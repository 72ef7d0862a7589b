use Rattle.std.proofs.Common.{◌≡◌, ◌≤◌, length, None, sym, ap, subst, ◌∙◌, arith}
use Rattle.mcast_group.specs.declared.subscription.Subscription.{Subscription}
use Rattle.mcast_group.specs.Inner.GroupInvariant.{entry_of, gauge_of}
use Rattle.mcast_group.proofs.Entering.{same_many}
use Rattle.mcast_group.proofs.Giving.{at_each, mapped_more, spare_kept}
use Rattle.mcast_group.proofs.subscriptions.reserve_in_each.Goals as goal

pub loop-i-preserved : goal.loop-i-preserved
loop-i-preserved g c =
    let shown = g.Q.Outlet.shown in
    let i = c.loop-i.i in
    let inv = c.loop-i.invariant in
    let subs = c.loop-i.subs.items in
    let old = c.args.subs.now.items in
    let new = c.reserve.new.self in
    let d = c.index_mut.result.now in
    let is = c.index_mut.ensures.value in
    let many : length subs ≡ length old = same_many shown old subs inv.entries in
    let l : c.args.subs.now.len ≡ length old = c.args.subs.now.ok.0 in
    let test = c.loop-i-test.true in
    let end = c.len-i-end.ensures in
    record {
      entries = mapped_more (entry_of shown) i subs old new d (omega arith) inv.entries (c.in_ok-reserve.ensures.entry ∙ ap (entry_of shown) is);
      gauges = mapped_more (gauge_of shown) i subs old new d (omega arith) inv.gauges (c.in_ok-reserve.ensures.gauge ∙ ap (gauge_of shown) is);
      spares = spare_kept (λ (z : Subscription g.row.Q.Denot). g.Q.Outlet.spare z.outlet) (length old) i subs old new d (omega arith) (sym many) inv.spares (subst (λ (z : Subscription g.row.Q.Denot). g.Q.Outlet.spare z.outlet ≤ g.Q.Outlet.spare new.outlet) is c.in_ok-reserve.ensures.spare);
      done = λ k e l. at_each (λ (z : Subscription g.row.Q.Denot). z.to ≡ None → c.args.more ≤ g.Q.Outlet.spare z.outlet) subs i new k e (omega arith) c.in_ok-reserve.ensures.ok (λ ne. inv.done k e (omega arith));
    }

pub returns-in_err-reserve-clause-entries : goal.returns-in_err-reserve-clause-entries
returns-in_err-reserve-clause-entries g c =
    let shown = g.Q.Outlet.shown in
    let inv = c.loop-i.invariant in
    let many = same_many shown c.args.subs.now.items c.loop-i.subs.items inv.entries in
    let l : c.args.subs.now.len ≡ length c.args.subs.now.items = c.args.subs.now.ok.0 in
    let test = c.loop-i-test.true in
    let end = c.len-i-end.ensures in
    mapped_more (entry_of shown) c.loop-i.i c.loop-i.subs.items c.args.subs.now.items c.reserve.new.self c.index_mut.result.now (omega arith) inv.entries (c.reserve.ensures.entry ∙ ap (entry_of shown) c.index_mut.ensures.value)

pub returns-in_err-reserve-clause-gauges : goal.returns-in_err-reserve-clause-gauges
returns-in_err-reserve-clause-gauges g c =
    let shown = g.Q.Outlet.shown in
    let inv = c.loop-i.invariant in
    let many = same_many shown c.args.subs.now.items c.loop-i.subs.items inv.entries in
    let l : c.args.subs.now.len ≡ length c.args.subs.now.items = c.args.subs.now.ok.0 in
    let test = c.loop-i-test.true in
    let end = c.len-i-end.ensures in
    mapped_more (gauge_of shown) c.loop-i.i c.loop-i.subs.items c.args.subs.now.items c.reserve.new.self c.index_mut.result.now (omega arith) inv.gauges (c.reserve.ensures.gauge ∙ ap (gauge_of shown) c.index_mut.ensures.value)
