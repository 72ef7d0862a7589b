use Rattle.std.proofs.Common.{◌≡◌, ◌+◌, sym, ap, subst, ◌∙◌, arith, rules}
use Rattle.std.proofs.Math.Logic.{∥∥₁_map}
use Rattle.broker_locks.specs.Place.{PlaceState, place_after_propose}
use Rattle.broker_locks.specs.Room.{HasHeard, KeepsRoom, more_reserved}
use Rattle.broker_locks.specs.Inner.Waited.{HaveSpare}
use Rattle.broker_locks.proofs.RoomKept.{entered_spare, heard_limit, heard_tickets, keeps_enter, known_spare}
use Rattle.broker_locks.proofs.locked_topic.LockedTopic.propose.Goals as goal

pub enter-requires : goal.enter-requires
enter-requires g c some =
    let old = c.args.self.now.place in
    subst (λ (p : PlaceState). HaveSpare 0 c.args.self.now.room p.cells.group) (sym c.in-Ok.ensures.ok)
    (entered_spare c.args.self.now.spare c.args.self.now.room c.args.floor c.args.proposal old some (known_spare c.args.self.now.spare c.args.self.now.room old.cells.group c.args.self.now.roomy))

pub invariant_of-self-clause-roomy : goal.invariant_of-self-clause-roomy
invariant_of-self-clause-roomy g c =
    let heard = subst (λ (p : PlaceState). HasHeard p c.enter.new.place) c.in-Ok.ensures.ok c.enter.ensures.heard in
    ∥∥₁_map c.args.self.now.roomy (λ k. keeps_enter c.args.with_reserved c.args.self.now.spare c.enter.new.spare c.args.self.now.room c.enter.new.self c.args.floor c.args.proposal c.args.self.now.place c.enter.new.place heard c.enter.ensures.room c.enter.ensures.spare k)

pub invariant_of-self-clause-limit : goal.invariant_of-self-clause-limit
invariant_of-self-clause-limit g c =
    heard_limit (place_after_propose c.args.floor c.args.proposal c.args.self.now.place) c.enter.new.place (subst (λ (p : PlaceState). HasHeard p c.enter.new.place) c.in-Ok.ensures.ok c.enter.ensures.heard) ∙ c.args.self.now.limit

pub invariant_of-self-clause-counted : goal.invariant_of-self-clause-counted
invariant_of-self-clause-counted g c =
    let mid = place_after_propose c.args.floor c.args.proposal c.args.self.now.place in
    let tickets : c.enter.new.place.tickets ≡ c.args.self.now.place.tickets + 1 = heard_tickets mid c.enter.new.place (subst (λ (p : PlaceState). HasHeard p c.enter.new.place) c.in-Ok.ensures.ok c.enter.ensures.heard) in
    let counted : c.into_shares.result.1.amount ≡ c.new-counter.result.here.amount + 1 = c.into_shares.ensures.here.1 ∙ c.in-Ok.ensures.counted.3 in
    let here : c.new-counter.result.here.amount ≡ c.args.self.now.share.amount = search rules in
    omega (arith, tickets, counted, here, c.args.self.now.counted)

pub invariant_of-self-in-Err-1 : goal.invariant_of-self-in-Err-1
invariant_of-self-in-Err-1 g c = record {
  limit = ap (λ (p : PlaceState). p.cells.group.topic.log_limit) c.in-Err.ensures.err ∙ c.args.self.now.limit;
  one = search rules;
  counted = search rules;
  roomy = subst (λ (p : PlaceState). ∥ KeepsRoom (more_reserved c.args.self.now.spare c.args.self.now.room) p.cells.group ∥₁) (sym c.in-Err.ensures.err) c.args.self.now.roomy;
}
