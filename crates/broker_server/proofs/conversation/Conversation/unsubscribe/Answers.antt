use Rattle.std.proofs.Common.{ℕ, suc, ◌+◌, ◌<◌, ◌≡◌, false, Some, None, List, [], ◌∷◌, ◌++◌, length, take, drop, refl, sym, ap, subst, ◌∙◌, arith, inl, inr}
use Rattle.std.specs.Prelude.{get_or}
use Rattle.std.proofs.Math.Seq.{split_at}
use Rattle.std.proofs.lemmas.List.{length-take-le}
use Rattle.std.specs.List.{list_any, position}
use Rattle.std.proofs.lemmas.List.Quantifiers.{position-Some}
use Rattle.mcast_group.proofs.Indices.{none_at}
use Rattle.broker_server.specs.BrokerRows.{SubName, Unsubscribes}
use Rattle.broker_server.specs.Conversations.{ConversationState, OpenSubState, is_of_id, next_without}
use Rattle.broker_server.proofs.ConversationLemmas.{asks_one, none_before}
use Rattle.broker_server.proofs.conversation.Conversation.unsubscribe.Goals as goal

pub returns-in_default : goal.returns-in_default
returns-in_default g c =
    let id = c.args.id in
    let held = c.self.inside in
    let at : position (is_of_id id) held.subs.items ≡ None = sym (ap (position (is_of_id id)) c.as_slice.ensures.value) ∙ (sym (ap (λ (t : List ℕ). position (is_of_id t) c.as_slice.result.now) c.as_slice-2.ensures) ∙ (sym c.index_of.ensures.at ∙ c.in_default.is)) in
    let none = subst (λ (s : ConversationState). list_any (is_of_id id) s.subs ≡ false) c.self.view_is (none_at (is_of_id id) held.subs.items at) in
    ([], refl, inr (none, refl, refl))

pub returns : goal.returns
returns g c =
    let called = g.C.BrokerCalls.called in
    let held = c.self.inside in
    let subs = held.subs.items in
    let i = c.in-Some.index in
    let it = c.remove-open.result in
    let front = take i subs in
    let back = drop (i + 1) subs in
    let name = ap (λ (o : OpenSubState). o.sub) c.open.view_is in
    let one = subst (λ (n : SubName). called c.args.calls.now (Unsubscribes n) c.unsubscribe.new.self) name c.unsubscribe.ensures in
    let id = c.args.id in
    let at : position (is_of_id id) subs ≡ Some i = sym (ap (position (is_of_id id)) c.as_slice.ensures.value) ∙ (sym (ap (λ (t : List ℕ). position (is_of_id t) c.as_slice.result.now) c.as_slice-2.ensures) ∙ (sym c.index_of.ensures.at ∙ c.in-Some.is)) in
    let found = position-Some (is_of_id id) subs i it at in
    let there : i < length subs = found.0 in
    let next : suc i ≡ i + 1 = omega arith in
    let cut : subs ≡ front ++ it ∷ back = split_at subs i it there
    ∙ ap (λ (n : ℕ). front ++ get_or subs i it ∷ drop n subs) next
    ∙ ap (λ (o : OpenSubState). front ++ o ∷ back) (sym c.remove-open.ensures.value) in
    let index : length front ≡ i = length-take-le i subs (omega arith) in
    let is_next = c.next_without-self-inside.ensures ∙ ap (λ (n : ℕ). next_without n held.next) (sym index) in
    let with : List OpenSubState → ℕ → ConversationState = λ xs next. record {
      reader = held.reader;
      session = held.session;
      names = held.names;
      gate = held.gate;
      subs = xs;
      held = held.held;
      wire = held.wire;
      exit = held.exit;
      cut = held.cut;
      more = held.more;
      half = held.half;
      capacity = held.capacity;
      next = next;
      flags = held.flags;
    } in (
      Unsubscribes it.sub ∷ [],
      asks_one called c.args.calls.now c.unsubscribe.new.self (Unsubscribes it.sub) one,
      inl (
        front,
        back,
        it,
        sym (ap (λ (s : ConversationState). s.subs) c.self.view_is) ∙ cut,
        ap (is_of_id id) c.remove-open.ensures.value ∙ found.1,
        none_before (is_of_id id) subs i it found.2,
        refl,
        ap (λ (xs : List OpenSubState). with xs c.next_without-self-inside.result) c.remove-open.ensures.by_index.2
            ∙ (ap (with (front ++ back)) is_next ∙ ap (λ (s : ConversationState). record s { subs = front ++ back; next = next_without (length front) s.next }) c.self.view_is),
      ),
    )
