use Rattle.std.proofs.Common.{◌≡◌, ℕ, suc, ◌+◌, ◌<◌, ◌≤◌, Bool, List, [], ◌∷◌, ◌++◌, length, get_or, take, drop, set, refl, sym, ap, subst, ◌∙◌, append-nil, arith}
use Rattle.std.specs.Prelude.{◌||◌}
use Rattle.std.proofs.lemmas.List.{drop-set-lt, drop_all, drop_more, length-drop, length-set, set_split, take_all, take_more_set}
use Rattle.broker_server.specs.declared.conversation.drained.Taking.{Taking}
use Rattle.broker_server.specs.declared.conversation.drained.Taking.TheVariants.{Emptied, Halfway}
use Rattle.broker_server.specs.BrokerRows.{BrokerRow}
use Rattle.broker_server.specs.Conversations.{OpenSubState}
use Rattle.broker_server.specs.Delivering.{DrainsAll, has_item, left_from}
use Rattle.broker_server.proofs.ConversationLemmas.{asks_on}
use Rattle.broker_server.proofs.DeliveringLemmas.{GoesOn, either_item, goes_no_further, goes_on, left_else}
use Rattle.broker_server.proofs.conversation.taking.drain_all.Goals as goal
use Rattle.broker_server.proofs.conversation.taking.drain_all.Goals.{then-any, else-any}

pub loop-queue-init : goal.loop-queue-init
loop-queue-init g c = record {
  taken = ([], refl, (λ rows end others after left d. d), refl);
  many = omega arith;
}

no_half : Halfway ≡ Emptied → ⊥
no_half e = cc

pub returns-in-Halfway : goal.returns-in-Halfway
returns-in-Halfway g c =
    let so_far = c.loop-queue.invariant.taken in
    let did = c.drain_flagged-drained.ensures in
    let new = c.drain_flagged-drained.new in
    let i = c.loop-queue.queue-index in
    let queues = c.loop-queue.queues in
    let item = c.queue-item.result in
    let o = get_or queues i item in
    let more = c.drain_flagged-drained.result.any in
    let size = c.loop-queue.auto.queues in
    let test = c.loop-queue-test.true in
    let many = c.loop-queue.invariant.many in
    let lt : i < length queues = omega arith in
    let here : drop i queues ≡ o ∷ drop (i + 1) queues = drop_more queues i item lt in
    let never : c.drain_flagged-drained.result.end ≡ Emptied → ⊥ = λ e. no_half (sym c.in-Halfway.is ∙ e) in
    let goes = subst (λ (qs : List OpenSubState). GoesOn c.args.extent c.args.capacity c.args.flags so_far.0 c.args.queues.now (take i queues) qs c.args.wire.now c.loop-queue.wire) here so_far.2 in
    let stops = goes_no_further c.args.extent c.args.capacity c.args.flags so_far.0 did.0 c.args.queues.now (take i queues) (drop (i + 1) queues) o new.queue c.args.wire.now c.loop-queue.wire new.wire c.drain_flagged-drained.result.end never did.2 goes in
    let next : suc i ≡ i + 1 = omega arith in
    let cut : set queues i new.queue ≡ take i queues ++ new.queue ∷ drop (i + 1) queues = set_split queues i new.queue lt ∙ ap (λ n. take i queues ++ new.queue ∷ drop n queues) next in
    let rest = length-drop (i + 1) queues in
    let whole : length (drop (i + 1) queues) + 1 ≡ c.loop-queue.left = omega arith in
    let left = ap (λ (t : Taking). left_from t (drop (i + 1) queues)) c.in-Halfway.is ∙ whole in
    let any : (c.loop-queue.any || more) ≡ has_item (so_far.0 ++ did.0) = either_item so_far.0 did.0 c.loop-queue.any more so_far.3 did.3 in (
      so_far.0 ++ did.0,
      asks_on g.C.BrokerCalls.called c.args.calls.now c.loop-queue.calls new.calls so_far.0 did.0 so_far.1 did.1,
      subst (λ (n : ℕ). DrainsAll c.args.extent c.args.capacity c.args.flags (so_far.0 ++ did.0) c.args.queues.now c.args.wire.now c.drain_flagged-drained.result.end (set queues i new.queue) new.wire n) left
          (subst (λ (qs : List OpenSubState). DrainsAll c.args.extent c.args.capacity c.args.flags (so_far.0 ++ did.0) c.args.queues.now c.args.wire.now c.drain_flagged-drained.result.end qs new.wire (left_from c.drain_flagged-drained.result.end (drop (i + 1) queues))) (sym cut) stops),
      elim c.if-any.branch [
        | then-any w ↦ w.any-is ∙ (w.if-any.true ∙ (sym (ap (λ (b : Bool). b || more) w.if-any.true) ∙ any))
        | else-any w ↦ w.any-is ∙ (sym (ap (λ (b : Bool). b || more) w.if-any.false) ∙ any)
      ],
    )

pub returns-in_default : goal.returns-in_default
returns-in_default g c =
    let so_far = c.loop-queue.invariant.taken in
    let did = c.drain_flagged-drained.ensures in
    let new = c.drain_flagged-drained.new in
    let i = c.loop-queue.queue-index in
    let queues = c.loop-queue.queues in
    let item = c.queue-item.result in
    let o = get_or queues i item in
    let more = c.drain_flagged-drained.result.any in
    let size = c.loop-queue.auto.queues in
    let test = c.loop-queue-test.true in
    let many = c.loop-queue.invariant.many in
    let lt : i < length queues = omega arith in
    let here : drop i queues ≡ o ∷ drop (i + 1) queues = drop_more queues i item lt in
    let goes = subst (λ (qs : List OpenSubState). GoesOn c.args.extent c.args.capacity c.args.flags so_far.0 c.args.queues.now (take i queues) qs c.args.wire.now c.loop-queue.wire) here so_far.2 in
    let stops = goes_no_further c.args.extent c.args.capacity c.args.flags so_far.0 did.0 c.args.queues.now (take i queues) (drop (i + 1) queues) o new.queue c.args.wire.now c.loop-queue.wire new.wire c.drain_flagged-drained.result.end c.in_default.not-Emptied did.2 goes in
    let next : suc i ≡ i + 1 = omega arith in
    let cut : set queues i new.queue ≡ take i queues ++ new.queue ∷ drop (i + 1) queues = set_split queues i new.queue lt ∙ ap (λ n. take i queues ++ new.queue ∷ drop n queues) next in
    let rest = length-drop (i + 1) queues in
    let fewer = c.saturating_sub.ensures in
    let behind : length (drop (i + 1) queues) ≡ c.saturating_sub.result = omega arith in
    let left = left_else c.drain_flagged-drained.result.end (drop (i + 1) queues) c.in_default.not-Halfway ∙ behind in
    let any : (c.loop-queue.any || more) ≡ has_item (so_far.0 ++ did.0) = either_item so_far.0 did.0 c.loop-queue.any more so_far.3 did.3 in (
      so_far.0 ++ did.0,
      asks_on g.C.BrokerCalls.called c.args.calls.now c.loop-queue.calls new.calls so_far.0 did.0 so_far.1 did.1,
      subst (λ (n : ℕ). DrainsAll c.args.extent c.args.capacity c.args.flags (so_far.0 ++ did.0) c.args.queues.now c.args.wire.now c.drain_flagged-drained.result.end (set queues i new.queue) new.wire n) left
          (subst (λ (qs : List OpenSubState). DrainsAll c.args.extent c.args.capacity c.args.flags (so_far.0 ++ did.0) c.args.queues.now c.args.wire.now c.drain_flagged-drained.result.end qs new.wire (left_from c.drain_flagged-drained.result.end (drop (i + 1) queues))) (sym cut) stops),
      elim c.if-any.branch [
        | then-any w ↦ w.any-is ∙ (w.if-any.true ∙ (sym (ap (λ (b : Bool). b || more) w.if-any.true) ∙ any))
        | else-any w ↦ w.any-is ∙ (sym (ap (λ (b : Bool). b || more) w.if-any.false) ∙ any)
      ],
    )

pub loop-queue-preserved : goal.loop-queue-preserved
loop-queue-preserved g c =
    let so_far = c.loop-queue.invariant.taken in
    let did = c.drain_flagged-drained.ensures in
    let new = c.drain_flagged-drained.new in
    let i = c.loop-queue.queue-index in
    let queues = c.loop-queue.queues in
    let item = c.queue-item.result in
    let o = get_or queues i item in
    let more = c.drain_flagged-drained.result.any in
    let size = c.loop-queue.auto.queues in
    let test = c.loop-queue-test.true in
    let many = c.loop-queue.invariant.many in
    let lt : i < length queues = omega arith in
    let here : drop i queues ≡ o ∷ drop (i + 1) queues = drop_more queues i item lt in
    let goes = subst (λ (qs : List OpenSubState). GoesOn c.args.extent c.args.capacity c.args.flags so_far.0 c.args.queues.now (take i queues) qs c.args.wire.now c.loop-queue.wire) here so_far.2 in
    let on = goes_on c.args.extent c.args.capacity c.args.flags so_far.0 did.0 c.args.queues.now (take i queues) (drop (i + 1) queues) o new.queue c.args.wire.now c.loop-queue.wire new.wire c.drain_flagged-drained.result.end c.in-Emptied.is did.2 goes in
    let same = length-set queues i new.queue in
    let fewer = c.saturating_sub-left.ensures in
    let any : (c.loop-queue.any || more) ≡ has_item (so_far.0 ++ did.0) = either_item so_far.0 did.0 c.loop-queue.any more so_far.3 did.3 in
    record {
      taken = (
        so_far.0 ++ did.0,
        asks_on g.C.BrokerCalls.called c.args.calls.now c.loop-queue.calls new.calls so_far.0 did.0 so_far.1 did.1,
        subst (λ (qs : List OpenSubState). GoesOn c.args.extent c.args.capacity c.args.flags (so_far.0 ++ did.0) c.args.queues.now (take (i + 1) (set queues i new.queue)) qs c.args.wire.now new.wire) (sym (drop-set-lt (i + 1) queues i new.queue (omega arith)))
            (subst (λ (qs : List OpenSubState). GoesOn c.args.extent c.args.capacity c.args.flags (so_far.0 ++ did.0) c.args.queues.now qs (drop (i + 1) queues) c.args.wire.now new.wire) (sym (take_more_set queues i new.queue lt)) on),
        elim c.if-any.branch [
          | then-any w ↦ w.any-is ∙ (w.if-any.true ∙ (sym (ap (λ (b : Bool). b || more) w.if-any.true) ∙ any))
          | else-any w ↦ w.any-is ∙ (sym (ap (λ (b : Bool). b || more) w.if-any.false) ∙ any)
        ],
      );
      many = omega arith;
    }

pub returns : goal.returns
returns g c =
    let so_far = c.loop-queue.invariant.taken in
    let i = c.loop-queue.queue-index in
    let queues = c.loop-queue.queues in
    let wire = c.loop-queue.wire in
    let size = c.loop-queue.auto.queues in
    let test = c.loop-queue-test.false in
    let many = c.loop-queue.invariant.many in
    let over : length queues ≤ i = omega arith in
    let none : DrainsAll c.args.extent c.args.capacity c.args.flags [] (drop i queues) wire Emptied [] wire 0 =
    subst (λ (qs : List OpenSubState). DrainsAll c.args.extent c.args.capacity c.args.flags [] qs wire Emptied [] wire 0) (sym (drop_all i queues over)) (refl, refl, refl, refl, refl) in
    let all = so_far.2 [] Emptied [] wire 0 none in
    let whole : take i queues ++ [] ≡ queues = append-nil (take i queues) ∙ take_all i queues over in
    let left : 0 ≡ c.loop-queue.left = omega arith in (
      so_far.0,
      so_far.1,
      subst (λ (n : ℕ). DrainsAll c.args.extent c.args.capacity c.args.flags so_far.0 c.args.queues.now c.args.wire.now Emptied queues wire n) left
          (subst (λ (qs : List OpenSubState). DrainsAll c.args.extent c.args.capacity c.args.flags so_far.0 c.args.queues.now c.args.wire.now Emptied qs wire 0) whole
          (subst (λ (rows : List BrokerRow). DrainsAll c.args.extent c.args.capacity c.args.flags rows c.args.queues.now c.args.wire.now Emptied (take i queues ++ []) wire 0) (append-nil so_far.0) all)),
      so_far.3,
    )
