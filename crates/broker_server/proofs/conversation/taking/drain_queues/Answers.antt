use Rattle.std.proofs.Common.{◌≡◌, ℕ, ◌-◌, Bool, [], ◌++◌, length, refl, sym, ap, ◌∙◌}
use Rattle.std.specs.Prelude.{◌||◌}
use Rattle.broker_server.specs.Delivering.{begins_at, has_item}
use Rattle.broker_server.proofs.ConversationLemmas.{asks_on}
use Rattle.broker_server.proofs.DeliveringLemmas.{drains_back, drains_both, drains_none, either_item}
use Rattle.broker_server.proofs.conversation.taking.drain_queues.Goals as goal

pub returns-then-flags-eq0 : goal.returns-then-flags-eq0
returns-then-flags-eq0 g c =
    let first = c.begins_at-first.result in
    let none = drains_none c.args.extent c.args.capacity c.args.flags c.args.next first c.args.queues.now c.args.wire.now c.if-flags-eq0.true c.begins_at-first.ensures.at c.begins_at-first.ensures.there in
    ([], refl, none, refl)

pub returns-in_default : goal.returns-in_default
returns-in_default g c =
    let did = c.drain_all-left.ensures in
    let end = c.drain_all-left.result.0.end in
    let front = c.split_at_mut-front.result.0.now in
    let back = c.split_at_mut-front.result.1.now in
    let new = c.drain_all-left.new in
    let begins : length front ≡ begins_at c.args.next (length c.args.queues.now) = c.split_at_mut-front.ensures.front_len ∙ c.begins_at-first.ensures.at in
    let goes = c.saturating_sub-behind.ensures in (
      did.0,
      did.1,
      drains_back c.args.extent c.args.capacity c.args.flags c.args.next c.args.queues.now front back c.split_at_mut-front.ensures.value begins did.0 c.args.wire.now end new.queues new.wire c.drain_all-left.result.1 c.saturating_sub-behind.result c.in_default.not-Emptied did.2 goes,
      did.3,
    )

pub returns-then-drained : goal.returns-then-drained
returns-then-drained g c =
    let called = g.C.BrokerCalls.called in
    let did = c.drain_all-left.ensures in
    let rest = c.drain_all-left-2.ensures in
    let one = c.drain_all-left.result.0 in
    let two = c.drain_all-left-2.result.0 in
    let front = c.split_at_mut-front.result.0.now in
    let back = c.split_at_mut-front.result.1.now in
    let new = c.drain_all-left.new in
    let after = c.drain_all-left-2.new in
    let begins : length front ≡ begins_at c.args.next (length c.args.queues.now) = c.split_at_mut-front.ensures.front_len ∙ c.begins_at-first.ensures.at in
    let unseen = c.drain_all-left-2.result.1 in
    let goes = c.saturating_sub-later.ensures ∙ ap (λ (n : ℕ). n - unseen) (sym c.split_at_mut-front.ensures.front_len) in
    let any : (one.any || two.any) ≡ has_item (did.0 ++ rest.0) = either_item did.0 rest.0 one.any two.any did.3 rest.3 in (
      did.0 ++ rest.0,
      asks_on called c.args.calls.now new.calls after.calls did.0 rest.0 did.1 rest.1,
      drains_both c.args.extent c.args.capacity c.args.flags c.args.next c.args.queues.now front back c.split_at_mut-front.ensures.value begins did.0 rest.0 c.args.wire.now one.end two.end new.queues after.queues new.wire after.wire c.drain_all-left.result.1 unseen c.saturating_sub-later.result c.in-Emptied.is did.2 rest.2 goes,
      c.if-drained.true ∙ (sym (ap (λ (b : Bool). b || two.any) c.if-drained.true) ∙ any),
    )

pub returns-else-drained : goal.returns-else-drained
returns-else-drained g c =
    let called = g.C.BrokerCalls.called in
    let did = c.drain_all-left.ensures in
    let rest = c.drain_all-left-2.ensures in
    let one = c.drain_all-left.result.0 in
    let two = c.drain_all-left-2.result.0 in
    let front = c.split_at_mut-front.result.0.now in
    let back = c.split_at_mut-front.result.1.now in
    let new = c.drain_all-left.new in
    let after = c.drain_all-left-2.new in
    let begins : length front ≡ begins_at c.args.next (length c.args.queues.now) = c.split_at_mut-front.ensures.front_len ∙ c.begins_at-first.ensures.at in
    let unseen = c.drain_all-left-2.result.1 in
    let goes = c.saturating_sub-later.ensures ∙ ap (λ (n : ℕ). n - unseen) (sym c.split_at_mut-front.ensures.front_len) in
    let any : (one.any || two.any) ≡ has_item (did.0 ++ rest.0) = either_item did.0 rest.0 one.any two.any did.3 rest.3 in (
      did.0 ++ rest.0,
      asks_on called c.args.calls.now new.calls after.calls did.0 rest.0 did.1 rest.1,
      drains_both c.args.extent c.args.capacity c.args.flags c.args.next c.args.queues.now front back c.split_at_mut-front.ensures.value begins did.0 rest.0 c.args.wire.now one.end two.end new.queues after.queues new.wire after.wire c.drain_all-left.result.1 unseen c.saturating_sub-later.result c.in-Emptied.is did.2 rest.2 goes,
      sym (ap (λ (b : Bool). b || two.any) c.if-drained.false) ∙ any,
    )
