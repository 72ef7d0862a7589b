use Rattle.std.proofs.Common.{◌≡◌, ℕ, inl, inr, ◌+◌, Bool, true, false, List, [], ◌∷◌, ◌++◌, length, Some, None, refl, sym, ap, subst, ◌∙◌, append-nil}
use Rattle.broker_server.specs.declared.conversation.drained.Taking.TheVariants.{Emptied, Stopped}
use Rattle.broker_server.specs.BrokerRows.{AsksInOrder, AsksLag, BrokerRow, SubName, Takes}
use Rattle.broker_server.specs.Conversations.{OpenSubState, unwritten}
use Rattle.broker_server.specs.Delivering.{Drains, nearer_lag}
use Rattle.broker_server.proofs.ConversationLemmas.{asks_on, asks_one}
use Rattle.broker_server.proofs.DeliveringLemmas.{drains_behind, drains_half, drains_item, drains_lag, full_of, no_item, room_of, some_item, some_left}
use Rattle.broker_server.proofs.conversation.taking.take_items.Goals as goal
use Rattle.broker_server.proofs.conversation.taking.take_items.Goals.{in-Some+in_default, in-None-2, then-queue-eq0+else-has_lagged, else-queue-eq0}

pub returns-in-Err : goal.returns-in-Err
returns-in-Err g c =
    let called = g.C.BrokerCalls.called in
    let name = g.C.BrokerCalls.name in
    let so_far = c.loop-call.invariant.taken in
    let held = c.queue.inside in
    let wire = c.loop-call.wire in
    let n = c.loop-call._call in
    let item = c.in-Some.item in
    let row = Takes (name held.sub) (Some item) in
    let end = c.in-Err.end in
    let after = c.put_rest.new in
    let with : SubName → ℕ → OpenSubState = λ sub left. record {
      id = held.id;
      parts = held.parts;
      sub = sub;
      until_lag = left;
      lagged = held.lagged;
      left = unwritten held.parts held.id held.rest;
    } in
    let o = with (name held.sub) held.until_lag in
    let next = with (name c.take.new.sub) c.saturating_sub-queue-inside.result in
    let next_is : next ≡ nearer_lag o =
    ap (λ (sub : SubName). with sub c.saturating_sub-queue-inside.result) c.in-Some.ensures.same
    ∙ ap (λ (left : ℕ). with (name held.sub) left) c.saturating_sub-queue-inside.ensures in
    let drains = subst (λ (q : OpenSubState). Drains c.args.extent c.args.capacity n (row ∷ []) q wire end after.queue after.wire) c.queue.view_is
    (drains_half c.args.extent c.args.capacity n o next wire item (name held.sub) (room_of (length wire) c.if-not-may_take.ensures) refl next_is end after.queue after.wire c.in-Err.ensures.breaks_off) in (
      so_far.0 ++ row ∷ [],
      asks_on called c.args.calls.now c.loop-call.calls c.take.new.self so_far.0 (row ∷ []) so_far.1 (asks_one called c.loop-call.calls c.take.new.self row c.in-Some.ensures.taken),
      so_far.2 (row ∷ []) end after.queue after.wire drains,
      some_item so_far.0 (row ∷ []) refl,
    )

pub returns-in-None : goal.returns-in-None
returns-in-None g c =
    let called = g.C.BrokerCalls.called in
    let name = g.C.BrokerCalls.name in
    let so_far = c.loop-call.invariant.taken in
    let held = c.queue.inside in
    let row = Takes (name held.sub) None in
    let new : SubName → OpenSubState = λ sub. record {
      id = held.id;
      parts = held.parts;
      sub = sub;
      until_lag = held.until_lag;
      lagged = held.lagged;
      left = unwritten held.parts held.id held.rest;
    } in (
      so_far.0 ++ row ∷ [],
      asks_on called c.args.calls.now c.loop-call.calls c.take.new.self so_far.0 (row ∷ []) so_far.1 (asks_one called c.loop-call.calls c.take.new.self row c.in-None.ensures.taken),
      so_far.2 (row ∷ []) c.end_of_lag-end.result (new (name c.take.new.sub)) c.loop-call.wire
          (subst (λ (q : OpenSubState). Drains c.args.extent c.args.capacity c.loop-call._call (row ∷ []) q c.loop-call.wire c.end_of_lag-end.result (new (name c.take.new.sub)) c.loop-call.wire) c.queue.view_is
          (room_of (length c.loop-call.wire) c.if-not-may_take.ensures, refl, inl (c.if-queue.true, c.end_of_lag-end.ensures, ap new c.in-None.ensures.same), refl)),
      no_item so_far.0 (row ∷ []) c.loop-call.any refl so_far.3,
    )

pub returns-in-None-3 : goal.returns-in-None-3
returns-in-None-3 g c =
    let called = g.C.BrokerCalls.called in
    let name = g.C.BrokerCalls.name in
    let so_far = c.loop-call.invariant.taken in
    let held = c.queue.inside in
    let row = Takes (name held.sub) None in
    let room = room_of (length c.loop-call.wire) c.if-not-may_take.ensures in
    let new : SubName → OpenSubState = λ sub. record {
      id = held.id;
      parts = held.parts;
      sub = sub;
      until_lag = c.args.capacity;
      lagged = held.lagged;
      left = unwritten held.parts held.id held.rest;
    } in
    let on = λ (rows : List BrokerRow). λ (q : OpenSubState). Drains c.args.extent c.args.capacity c.loop-call._call rows q c.loop-call.wire Emptied (new (name c.take.new.sub)) c.loop-call.wire in
    let new_is = ap new c.in-None.ensures.same in
    elim c.if-queue-eq0.branch [
      | then-queue-eq0+else-has_lagged w ↦ (
          let asks_lag = AsksLag (name c.take.new.sub) w.has_lagged.result in
          let is_false = w.if-has_lagged.false in
          let rows = row ∷ AsksLag (name c.take.new.sub) false ∷ [] in
          let second = subst (λ (b : Bool). called c.take.new.self (AsksLag (name c.take.new.sub) b) w.has_lagged.new.self) is_false w.has_lagged.ensures in
          let third = subst (λ x. called c.take.new.self (AsksLag (name c.take.new.sub) false) x) (sym w.calls-is) second in (
            so_far.0 ++ rows,
            asks_on called c.args.calls.now c.loop-call.calls c.if-queue-eq0.calls so_far.0 rows so_far.1 (c.take.new.self, c.in-None.ensures.taken, asks_one called c.take.new.self c.if-queue-eq0.calls (AsksLag (name c.take.new.sub) false) third),
            so_far.2 rows Emptied (new (name c.take.new.sub)) c.loop-call.wire (subst (on rows) c.queue.view_is (room, refl, c.in-None.ensures.same, c.if-queue.false, w.if-queue-eq0.true, refl, new_is, refl)),
            no_item so_far.0 rows c.loop-call.any refl so_far.3,
          ))
      | else-queue-eq0 w ↦ (
          let one = asks_one called c.loop-call.calls c.take.new.self row c.in-None.ensures.taken in (
            so_far.0 ++ row ∷ [],
            asks_on called c.args.calls.now c.loop-call.calls c.if-queue-eq0.calls so_far.0 (row ∷ []) so_far.1 (subst (λ x. AsksInOrder called c.loop-call.calls (row ∷ []) x) (sym w.calls-is) one),
            so_far.2 (row ∷ []) Emptied (new (name c.take.new.sub)) c.loop-call.wire (subst (on (row ∷ [])) c.queue.view_is (room, refl, inr (c.if-queue.false, some_left held.until_lag w.if-queue-eq0.false, refl, new_is), refl)),
            no_item so_far.0 (row ∷ []) c.loop-call.any refl so_far.3,
          ))
    ]

pub loop-call-preserved : goal.loop-call-preserved
loop-call-preserved g c =
    let called = g.C.BrokerCalls.called in
    let name = g.C.BrokerCalls.name in
    let so_far = c.loop-call.invariant.taken in
    let held = c.queue.inside in
    let n = c.loop-call._call in
    let wire = c.loop-call.wire in
    let capacity = c.args.capacity in
    let room = room_of (length wire) c.if-not-may_take.ensures in
    let with : SubName → ℕ → Bool → OpenSubState = λ sub left lagged. record {
      id = held.id;
      parts = held.parts;
      sub = sub;
      until_lag = left;
      lagged = lagged;
      left = unwritten held.parts held.id held.rest;
    } in
    let o = with (name held.sub) held.until_lag held.lagged in
    let next = c.match-take.queue in
    elim c.match-take.branch [
      | in-Some+in_default w ↦ (
          let item = w.in-Some.item in
          let row = Takes (name held.sub) (Some item) in
          let whole = w.in_default.ensures.whole in
          let next_is : next ≡ nearer_lag o =
          w.queue-is
          ∙ (whole.1
          ∙ (ap (λ (sub : SubName). with sub w.saturating_sub-queue-inside.result held.lagged) w.in-Some.ensures.same
          ∙ ap (λ (left : ℕ). with (name held.sub) left held.lagged) w.saturating_sub-queue-inside.ensures)) in
          record {
            taken = (
              so_far.0 ++ row ∷ [],
              asks_on called c.args.calls.now c.loop-call.calls c.match-take.calls so_far.0 (row ∷ []) so_far.1
                  (subst (λ x. AsksInOrder called c.loop-call.calls (row ∷ []) x) (sym w.calls-is) (asks_one called c.loop-call.calls c.take.new.self row w.in-Some.ensures.taken)),
              (λ rows end new after d. drains_behind c.args.extent capacity so_far.0 (row ∷ []) rows c.args.queue.now c.args.wire.now end new after
                  (so_far.2 (row ∷ rows) end new after
                  (subst (λ (q : OpenSubState). Drains c.args.extent capacity n (row ∷ rows) q wire end new after) c.queue.view_is
                  (drains_item c.args.extent capacity n o next wire c.match-take.wire item (name held.sub) room refl next_is (whole.0.0, w.wire-is ∙ whole.0.1) rows end new after d)))),
              w.any-is ∙ some_item so_far.0 (row ∷ []) refl,
            );
          })
      | in-None-2 w ↦ (
          let rows_asked = Takes (name held.sub) None ∷ AsksLag (name c.take.new.sub) true ∷ [] in
          let next_is : next ≡ record o { lagged = true } =
          w.queue-is ∙ ap (λ (sub : SubName). with sub held.until_lag true) w.in-None.ensures.same in
          let second = subst (λ (b : Bool). called c.take.new.self (AsksLag (name c.take.new.sub) b) w.has_lagged.new.self) w.if-has_lagged.true w.has_lagged.ensures in
          let third = subst (λ x. called c.take.new.self (AsksLag (name c.take.new.sub) true) x) (sym w.calls-is) second in
          record {
            taken = (
              so_far.0 ++ rows_asked,
              asks_on called c.args.calls.now c.loop-call.calls c.match-take.calls so_far.0 rows_asked so_far.1
                  (c.take.new.self, w.in-None.ensures.taken, asks_one called c.take.new.self c.match-take.calls (AsksLag (name c.take.new.sub) true) third),
              (λ rows end new after d. drains_behind c.args.extent capacity so_far.0 rows_asked rows c.args.queue.now c.args.wire.now end new after
                  (so_far.2 (Takes (name held.sub) None ∷ AsksLag (name c.take.new.sub) true ∷ rows) end new after
                  (subst (λ (q : OpenSubState). Drains c.args.extent capacity n (Takes (name held.sub) None ∷ AsksLag (name c.take.new.sub) true ∷ rows) q wire end new after) c.queue.view_is
                  (drains_lag c.args.extent capacity n o next wire (name held.sub) (name c.take.new.sub) room refl w.in-None.ensures.same w.if-queue.false w.if-queue-eq0.true next_is rows end new after
                  (subst (λ (v : List ℕ). Drains c.args.extent capacity (n + 1) rows next v end new after) w.wire-is d))))),
              w.any-is ∙ no_item so_far.0 rows_asked c.loop-call.any refl so_far.3,
            );
          })
    ]

pub returns-after-loop-call : goal.returns-after-loop-call
returns-after-loop-call g c =
    let so_far = c.loop-call.invariant.taken in
    let called = g.C.BrokerCalls.called in
    let drains = so_far.2 [] Stopped c.loop-call.queue c.loop-call.wire (inr c.loop-call-test.false, refl, refl, refl) in
    (so_far.0 ++ [], subst (λ (rows : List BrokerRow). AsksInOrder called c.args.calls.now rows c.loop-call.calls) (sym (append-nil so_far.0)) so_far.1, drains, no_item so_far.0 [] c.loop-call.any refl so_far.3)

pub returns-then-not-may_take : goal.returns-then-not-may_take
returns-then-not-may_take g c =
    let so_far = c.loop-call.invariant.taken in
    let called = g.C.BrokerCalls.called in
    let drains = so_far.2 [] Stopped c.loop-call.queue c.loop-call.wire (inl (full_of (length c.loop-call.wire) c.if-not-may_take.ensures), refl, refl, refl) in
    (so_far.0 ++ [], subst (λ (rows : List BrokerRow). AsksInOrder called c.args.calls.now rows c.loop-call.calls) (sym (append-nil so_far.0)) so_far.1, drains, no_item so_far.0 [] c.loop-call.any refl so_far.3)
