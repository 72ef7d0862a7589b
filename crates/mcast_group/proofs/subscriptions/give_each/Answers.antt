use Rattle.std.proofs.Common.{◌≡◌, ◌≢◌, ℕ, suc, ◌+◌, ◌≤◌, [], ◌∷◌, ◌++◌, length, get_or, set, take, None, not, refl, sym, ap, subst, ◌∙◌, arith, get_or-set_other}
use Rattle.std.proofs.lemmas.List.{length-set, length_push}
use Rattle.mcast_group.specs.declared.subscription.Subscription.{Subscription}
use Rattle.mcast_group.specs.Inner.GroupInvariant.{entry_of, gauge_of}
use Rattle.mcast_group.specs.Inner.Subscriptions.{endless_count}
use Rattle.mcast_group.specs.Machine.{entry_after, item_of}
use Rattle.mcast_group.proofs.Endless.{endless_front, unended, unended_most, unended_none, unended_some}
use Rattle.mcast_group.proofs.Opens.{left_after, open_at}
use Rattle.mcast_group.proofs.Giving.{told_more, mapped_more, may_more, spare_more}
use Rattle.mcast_group.proofs.subscriptions.give_each.Goals as goal
use Rattle.mcast_group.proofs.subscriptions.give_each.Goals.{then-is_none, else-is_none}
use Rattle.mcast_group.proofs.subscriptions.give_each.Given as given

pub loop-i-init : goal.loop-i-init
loop-i-init g c = record {
  answers = [];
  many = refl;
  size = refl;
  answered = tt;
  entries = refl;
  gauges = refl;
  rest = λ k d l. refl;
  spare = λ k d l. omega arith;
  copies = c.requires.copies;
  enough = c.requires.many;
  counted = refl;
  most = omega arith;
}

pub give-requires-clause-some : goal.give-requires-clause-some
give-requires-clause-some g c = λ none.
    let i = c.loop-i.i in
    let inv = c.loop-i.invariant in
    let old = c.args.subs.now.items in
    let d = c.index_mut-sub.result.now in
    let l : c.args.subs.now.len ≡ length old = c.args.subs.now.ok.0 in
    let test = c.loop-i-test.true in
    let end = c.len-i-end.ensures in
    let is : d ≡ get_or old i d = c.index_mut-sub.ensures.value ∙ inv.rest i d (omega arith) in
    let rest = open_at g.Q.Outlet.shown i old d d (omega arith) is none in
    let enough = inv.enough in
    omega arith

-- one that has no end is counted
one_more : (g : given.Over) (c : goal.Joined-is_none g) → c.if-is_none.left ≡ c.loop-i.left + unended c.give.new.self.to
one_more g c =
    let none = c.is_none.ensures in
    elim c.if-is_none.branch [
      | then-is_none w ↦
          let one = unended_none c.give.new.self.to (none ∙ ap not w.if-is_none.true) in
          let is = w.left-is in
          omega arith
      | else-is_none w ↦
          let zero = unended_some c.give.new.self.to (none ∙ ap not w.if-is_none.false) in
          let is = w.left-is in
          omega arith
    ]

pub loop-i-preserved : goal.loop-i-preserved
loop-i-preserved g c =
    let shown = g.Q.Outlet.shown in
    let i = c.loop-i.i in
    let inv = c.loop-i.invariant in
    let subs = c.loop-i.subs.items in
    let old = c.args.subs.now.items in
    let new = c.give.new.self in
    let d = c.index_mut-sub.result.now in
    let l : c.args.subs.now.len ≡ length old = c.args.subs.now.ok.0 in
    let size = inv.size in
    let test = c.loop-i-test.true in
    let end = c.len-i-end.ensures in
    let is : d ≡ get_or subs i d = c.index_mut-sub.ensures.value in
    let same : get_or subs i d ≡ get_or old i d = inv.rest i d (omega arith) in
    let front = endless_front subs i new (omega arith) in
    let counted = inv.counted in
    let most = inv.most in
    let more = one_more g c in
    let next : suc i ≡ i + 1 = omega arith in
    record {
      answers = inv.answers ++ c.give.result ∷ [];
      many = length_push inv.answers c.give.result ∙ ap (λ (n : ℕ). n + 1) inv.many;
      size = length-set subs i new ∙ inv.size;
      answered = may_more shown g.Q.Outlet.may_accept inv.answers c.give.result i old d inv.many (omega arith) inv.answered (subst (λ (z : Subscription g.row.Q.Denot). z.to ≡ None → g.Q.Outlet.may_accept (shown z.outlet) c.give.result) (is ∙ same) c.give.ensures.answer);
      entries = told_more (entry_of shown) c.args.frontier (item_of c.args.part.now) inv.answers c.give.result i subs old new d inv.many (omega arith) inv.entries same (c.give.ensures.entry ∙ ap (λ (z : Subscription g.row.Q.Denot). entry_after (λ _. c.give.result) c.args.frontier (item_of c.args.part.now) (entry_of shown z)) is);
      gauges = mapped_more (gauge_of shown) i subs old new d (omega arith) inv.gauges (c.give.ensures.gauge ∙ ap (gauge_of shown) is);
      rest = λ k e m. let ne : k ≢ i = omega arith in get_or-set_other subs i k new e ne ∙ inv.rest k e (omega arith);
      spare = spare_more (λ (z : Subscription g.row.Q.Denot). g.Q.Outlet.spare z.outlet) (length old) i subs old new d (omega arith) refl (sym size) inv.spare (subst (λ (z : Subscription g.row.Q.Denot). g.Q.Outlet.spare z.outlet ≤ g.Q.Outlet.spare new.outlet + 1) (is ∙ same) c.give.ensures.spare);
      copies = c.give.ensures.copies;
      enough = left_after shown i old d d (omega arith) (is ∙ same) c.loop-i.copies c.give.new.copies inv.enough c.give.ensures.many c.give.ensures.lagged;
      counted = more ∙ (ap (λ (n : ℕ). n + unended new.to) counted ∙ (sym front ∙ ap (λ (n : ℕ). endless_count (take n (set subs i new))) next));
      most = let one = unended_most new.to in omega arith;
    }
