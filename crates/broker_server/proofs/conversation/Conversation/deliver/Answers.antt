use Rattle.std.proofs.Common.{◌≡◌, rules, ℕ, Bool, List, true, false, [], ◌∷◌, ◌++◌, None, refl, sym, ap, subst, ◌∙◌, inr, append-nil}
use Rattle.std.proofs.lemmas.List.{places, with_items_is}
use Rattle.std.specs.Prelude.{◌||◌, bit_or}
use Rattle.std.specs.Vec.{with_items}
use Rattle.broker_server.specs.declared.conversation.drained.Taking.{Taking}
use Rattle.broker_server.specs.declared.conversation.extent.Extent.{Extent}
use Rattle.broker_server.specs.BrokerRows.{AsksInOrder, BrokerRow, TakesFlags}
use Rattle.broker_server.specs.Conversations.{ConversationState, EndsByError, OpenSubState, closing_rows}
use Rattle.broker_server.specs.Delivering.{Settles, delivered, extent_of, flags_left, has_item, is_halfway, is_stopped, writes_on}
use Rattle.broker_server.proofs.ConversationLemmas.{asks_on}
use Rattle.broker_server.proofs.DeliveringLemmas.{drains_whole, settles_else}
use Rattle.broker_server.proofs.conversation.Conversation.deliver.Goals as goal

pub returns-then-drained : goal.returns-then-drained
returns-then-drained g c =
    let held = c.self.inside in
    let did = c.drain_queues-next.ensures in
    let new = c.drain_queues-next.new in
    let next = c.drain_queues-next.result.1 in
    let end = c.drain_queues-next.result.0.end in
    let told = c.take_flags.result in
    let flags = bit_or held.flags told in
    let kept = c.flags_left-self-inside.result in
    let stopped = c.is_stopped-self-inside.result in
    let halfway = c.is_halfway-self-inside.result in
    let with : List OpenSubState → ConversationState = λ subs. record {
      reader = held.reader;
      session = held.session;
      names = held.names;
      gate = held.gate;
      subs = subs;
      held = held.held;
      wire = new.wire;
      exit = held.exit;
      cut = held.cut;
      more = stopped;
      half = halfway;
      capacity = held.capacity;
      next = next;
      flags = kept;
    } in
    let old = c.args.self.now in
    let known = bit_or old.flags told in
    let after : ConversationState = delivered old end known new.queues new.wire next in
    let extent_is : c.of-extent.result ≡ extent_of old.held = c.of-extent.ensures ∙ ap (λ (s : ConversationState). extent_of s.held) c.self.view_is in
    let flags_is : flags ≡ known = ap (λ (s : ConversationState). bit_or s.flags told) c.self.view_is in
    let kept_is : kept ≡ flags_left (extent_of old.held) end known =
    c.flags_left-self-inside.ensures ∙ (ap (λ (e : Extent). flags_left e end flags) extent_is ∙ ap (λ (n : ℕ). flags_left (extent_of old.held) end n) flags_is) in
    let left = with (with_items held.subs new.queues).items in
    let changed : left ≡ record after { more = stopped; half = halfway } =
    ap with (with_items_is held.subs new.queues (search (rules, places)))
    ∙ (ap (λ (s : ConversationState). record s { subs = new.queues; wire = new.wire; next = next; flags = kept; more = stopped; half = halfway }) c.self.view_is
    ∙ ap (λ (n : ℕ). record old { subs = new.queues; wire = new.wire; next = next; flags = n; more = stopped; half = halfway }) kept_is) in
    let drains = drains_whole c.of-extent.result (extent_of old.held) held.capacity old.capacity flags known held.next old.next did.0 c.as_mut_slice-queues.result.now old.subs held.wire old.wire end new.queues new.wire next
    extent_is (ap (λ (s : ConversationState). s.capacity) c.self.view_is) flags_is (ap (λ (s : ConversationState). s.next) c.self.view_is) (c.as_mut_slice-queues.ensures.value ∙ ap (λ (s : ConversationState). s.subs) c.self.view_is) (ap (λ (s : ConversationState). s.wire) c.self.view_is) did.2 in
    let settled : left ≡ record after { more = is_stopped end; half = is_halfway end } =
    changed
    ∙ (ap (λ (b : Bool). record after { more = b; half = halfway }) c.is_stopped-self-inside.ensures
    ∙ ap (λ (b : Bool). record after { more = is_stopped end; half = b }) c.is_halfway-self-inside.ensures) in
    let came = c.drain_queues-next.result.0.any in
    let any : came ≡ (has_item did.0 || writes_on old) =
    c.if-drained.true ∙ sym (ap (λ (b : Bool). b || writes_on old) (sym did.3 ∙ c.if-drained.true)) in
    let settles = settles_else end (has_item did.0 || writes_on old) after came left c.in_default.not-Failed any settled in
    (TakesFlags told ∷ did.0, (c.take_flags.new.self, c.take_flags.ensures, did.1), inr (search rules, told, did.0, [], ap (λ (rows : List BrokerRow). TakesFlags told ∷ rows) (sym (append-nil did.0)), end, new.queues, new.wire, next, drains, settles))

pub returns-else-drained : goal.returns-else-drained
returns-else-drained g c =
    let held = c.self.inside in
    let did = c.drain_queues-next.ensures in
    let new = c.drain_queues-next.new in
    let next = c.drain_queues-next.result.1 in
    let end = c.drain_queues-next.result.0.end in
    let told = c.take_flags.result in
    let flags = bit_or held.flags told in
    let kept = c.flags_left-self-inside.result in
    let stopped = c.is_stopped-self-inside.result in
    let halfway = c.is_halfway-self-inside.result in
    let with : List OpenSubState → ConversationState = λ subs. record {
      reader = held.reader;
      session = held.session;
      names = held.names;
      gate = held.gate;
      subs = subs;
      held = held.held;
      wire = new.wire;
      exit = held.exit;
      cut = held.cut;
      more = stopped;
      half = halfway;
      capacity = held.capacity;
      next = next;
      flags = kept;
    } in
    let old = c.args.self.now in
    let known = bit_or old.flags told in
    let after : ConversationState = delivered old end known new.queues new.wire next in
    let extent_is : c.of-extent.result ≡ extent_of old.held = c.of-extent.ensures ∙ ap (λ (s : ConversationState). extent_of s.held) c.self.view_is in
    let flags_is : flags ≡ known = ap (λ (s : ConversationState). bit_or s.flags told) c.self.view_is in
    let kept_is : kept ≡ flags_left (extent_of old.held) end known =
    c.flags_left-self-inside.ensures ∙ (ap (λ (e : Extent). flags_left e end flags) extent_is ∙ ap (λ (n : ℕ). flags_left (extent_of old.held) end n) flags_is) in
    let left = with (with_items held.subs new.queues).items in
    let changed : left ≡ record after { more = stopped; half = halfway } =
    ap with (with_items_is held.subs new.queues (search (rules, places)))
    ∙ (ap (λ (s : ConversationState). record s { subs = new.queues; wire = new.wire; next = next; flags = kept; more = stopped; half = halfway }) c.self.view_is
    ∙ ap (λ (n : ℕ). record old { subs = new.queues; wire = new.wire; next = next; flags = n; more = stopped; half = halfway }) kept_is) in
    let drains = drains_whole c.of-extent.result (extent_of old.held) held.capacity old.capacity flags known held.next old.next did.0 c.as_mut_slice-queues.result.now old.subs held.wire old.wire end new.queues new.wire next
    extent_is (ap (λ (s : ConversationState). s.capacity) c.self.view_is) flags_is (ap (λ (s : ConversationState). s.next) c.self.view_is) (c.as_mut_slice-queues.ensures.value ∙ ap (λ (s : ConversationState). s.subs) c.self.view_is) (ap (λ (s : ConversationState). s.wire) c.self.view_is) did.2 in
    let settled : left ≡ record after { more = is_stopped end; half = is_halfway end } =
    changed
    ∙ (ap (λ (b : Bool). record after { more = b; half = halfway }) c.is_stopped-self-inside.ensures
    ∙ ap (λ (b : Bool). record after { more = is_stopped end; half = b }) c.is_halfway-self-inside.ensures) in
    let came = c.writes_on-writes_on.result in
    let any : came ≡ (has_item did.0 || writes_on old) =
    c.writes_on-writes_on.ensures ∙ sym (ap (λ (b : Bool). b || writes_on old) (sym did.3 ∙ c.if-drained.false)) in
    let settles = settles_else end (has_item did.0 || writes_on old) after came left c.in_default.not-Failed any settled in
    (TakesFlags told ∷ did.0, (c.take_flags.new.self, c.take_flags.ensures, did.1), inr (search rules, told, did.0, [], ap (λ (rows : List BrokerRow). TakesFlags told ∷ rows) (sym (append-nil did.0)), end, new.queues, new.wire, next, drains, settles))

pub returns-in-Failed : goal.returns-in-Failed
returns-in-Failed g c =
    let called = g.C.BrokerCalls.called in
    let held = c.self.inside in
    let did = c.drain_queues-next.ensures in
    let new = c.drain_queues-next.new in
    let next = c.drain_queues-next.result.1 in
    let end = c.drain_queues-next.result.0.end in
    let told = c.take_flags.result in
    let flags = bit_or held.flags told in
    let kept = c.flags_left-self-inside.result in
    let stopped = c.is_stopped-self-inside.result in
    let halfway = c.is_halfway-self-inside.result in
    let with : List OpenSubState → ConversationState = λ subs. record {
      reader = held.reader;
      session = held.session;
      names = held.names;
      gate = held.gate;
      subs = subs;
      held = held.held;
      wire = new.wire;
      exit = held.exit;
      cut = held.cut;
      more = stopped;
      half = halfway;
      capacity = held.capacity;
      next = next;
      flags = kept;
    } in
    let old = c.args.self.now in
    let known = bit_or old.flags told in
    let after : ConversationState = delivered old end known new.queues new.wire next in
    let extent_is : c.of-extent.result ≡ extent_of old.held = c.of-extent.ensures ∙ ap (λ (s : ConversationState). extent_of s.held) c.self.view_is in
    let flags_is : flags ≡ known = ap (λ (s : ConversationState). bit_or s.flags told) c.self.view_is in
    let kept_is : kept ≡ flags_left (extent_of old.held) end known =
    c.flags_left-self-inside.ensures ∙ (ap (λ (e : Extent). flags_left e end flags) extent_is ∙ ap (λ (n : ℕ). flags_left (extent_of old.held) end n) flags_is) in
    let left = with (with_items held.subs new.queues).items in
    let changed : left ≡ record after { more = stopped; half = halfway } =
    ap with (with_items_is held.subs new.queues (search (rules, places)))
    ∙ (ap (λ (s : ConversationState). record s { subs = new.queues; wire = new.wire; next = next; flags = kept; more = stopped; half = halfway }) c.self.view_is
    ∙ ap (λ (n : ℕ). record old { subs = new.queues; wire = new.wire; next = next; flags = n; more = stopped; half = halfway }) kept_is) in
    let drains = drains_whole c.of-extent.result (extent_of old.held) held.capacity old.capacity flags known held.next old.next did.0 c.as_mut_slice-queues.result.now old.subs held.wire old.wire end new.queues new.wire next
    extent_is (ap (λ (s : ConversationState). s.capacity) c.self.view_is) flags_is (ap (λ (s : ConversationState). s.next) c.self.view_is) (c.as_mut_slice-queues.ensures.value ∙ ap (λ (s : ConversationState). s.subs) c.self.view_is) (ap (λ (s : ConversationState). s.wire) c.self.view_is) did.2 in
    let why = c.in-Failed.fault in
    let last = c.fail.new in
    let rest = closing_rows after in
    let rows = subst (λ (s : ConversationState). AsksInOrder called new.calls (closing_rows s) last.calls) changed c.fail.ensures.rows in
    let fails = subst (λ (s : ConversationState). EndsByError why None s last.self) changed c.fail.ensures.fails in
    let settles = subst (λ (t : Taking). Settles t (has_item did.0 || writes_on old) after rest true last.self) (sym c.in-Failed.is) (refl, refl, fails) in (
      TakesFlags told ∷ (did.0 ++ rest),
      (c.take_flags.new.self, c.take_flags.ensures, asks_on called c.take_flags.new.self new.calls last.calls did.0 rest did.1 rows),
      inr (search rules, told, did.0, rest, refl, end, new.queues, new.wire, next, drains, settles),
    )
