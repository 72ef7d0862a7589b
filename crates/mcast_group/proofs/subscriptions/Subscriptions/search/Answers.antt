use Rattle.std.proofs.Common.{rules, subst}
use Rattle.std.specs.List.Sorted.{IsSearchInRange}
use Rattle.std.proofs.lemmas.List.Sorted.{answers_always}
use Rattle.mcast_txn.proofs.Rising.{searched}
use Rattle.mcast_group.proofs.ByNumber.{has_searched, number_of}
use Rattle.mcast_group.proofs.subscriptions.Subscriptions.search.Goals as goal

pub returns-clause-found : goal.returns-clause-found
returns-clause-found g c =
    let facts = c.binary_search_by_key.ensures in
    let finds = searched number_of c.self.inside.subs.items c.args.number c.binary_search_by_key.result c.self.invariant.rises (subst (IsSearchInRange c.binary_search_by_key.result) c.self.inside.subs.ok.0 facts.bound) (facts.position number_of (answers_always _ _ _ (λ f a r g called. search rules))) in
    rw (← c.self.view_is) (has_searched c.self.inside.subs.items c.args.number c.binary_search_by_key.result c.self.invariant.rises finds).found

pub returns-clause-absent : goal.returns-clause-absent
returns-clause-absent g c =
    let facts = c.binary_search_by_key.ensures in
    let finds = searched number_of c.self.inside.subs.items c.args.number c.binary_search_by_key.result c.self.invariant.rises (subst (IsSearchInRange c.binary_search_by_key.result) c.self.inside.subs.ok.0 facts.bound) (facts.position number_of (answers_always _ _ _ (λ f a r g called. search rules))) in
    rw (← c.self.view_is) (has_searched c.self.inside.subs.items c.args.number c.binary_search_by_key.result c.self.invariant.rises finds).absent

pub returns-clause-index : goal.returns-clause-index
returns-clause-index g c =
    let facts = c.binary_search_by_key.ensures in
    let finds = searched number_of c.self.inside.subs.items c.args.number c.binary_search_by_key.result c.self.invariant.rises (subst (IsSearchInRange c.binary_search_by_key.result) c.self.inside.subs.ok.0 facts.bound) (facts.position number_of (answers_always _ _ _ (λ f a r g called. search rules))) in
    rw (← c.self.view_is) (has_searched c.self.inside.subs.items c.args.number c.binary_search_by_key.result c.self.invariant.rises finds).index
