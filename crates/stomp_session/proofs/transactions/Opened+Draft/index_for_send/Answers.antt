use Rattle.std.proofs.Common.{◌≡◌, ◌<◌, ◌≤◌, List, sym, ap, ◌∙◌, Some, true, false, is_some, length, arith}
use Rattle.std.proofs.lemmas.Bool.Decides.{nat_tests}
use Rattle.std.proofs.lemmas.List.{length-map}
use Rattle.std.proofs.lemmas.Option.{slice_get_within}
use Rattle.std.specs.Map.{keys_of, lookup}
use Rattle.std.specs.Option.{option_map}
use Rattle.mcast_txn.specs.declared.draft.sent_message.SentMessage.{SentMessage}
use Rattle.stomp_session.specs.Refusals.{is_open, is_full_of_sends, sends_in}
use Rattle.stomp_session.proofs.Entries.{is_key, is_open-lookup, index_of_id-entries_of, position-Some, sends_in-lookup}
use Rattle.stomp_session.proofs.transactions.Opened+Draft.index_for_send.Goals as goal

below_is_not_full : (sends : List SentMessage) → length sends < 64 → is_full_of_sends sends ≡ false
below_is_not_full sends few = grind (arith, nat_tests)

many_is_full : (sends : List SentMessage) → 64 ≤ length sends → is_full_of_sends sends ≡ true
many_is_full sends many = grind (arith, nat_tests)

pub returns-in_default-clause-err : goal.returns-in_default-clause-err
returns-in_default-clause-err c =
    let shut : is_open c.args.name.now c.args.self.now ≡ false = rw (← c.self.view_is) (is_open-lookup c.args.name.now c.self.inside.values.entries ∙ ap is_some (sym c.get_full.ensures.value ∙ ap (option_map (λ p. p.2.now)) c.in_default.is)) in
    rw shut

pub returns-then-len-ge-MAX_SENDS-clause-err : goal.returns-then-len-ge-MAX_SENDS-clause-err
returns-then-len-ge-MAX_SENDS-clause-err c =
    let es = c.self.inside.values.entries in
    let at : lookup (is_key c.args.name.now) es ≡ Some c.in-Some.draft.now = sym c.get_full.ensures.value ∙ ap (option_map (λ p. p.2.now)) c.in-Some.is in
    let there : is_open c.args.name.now c.args.self.now ≡ true = rw (← c.self.view_is) (is_open-lookup c.args.name.now es ∙ ap is_some at) in
    let sends : sends_in c.args.name.now c.args.self.now ≡ c.in-Some.draft.now = rw (← c.self.view_is) (sends_in-lookup c.args.name.now es c.in-Some.draft.now at) in
    rw (there, sends, many_is_full c.in-Some.draft.now (omega arith))

pub returns-clause-ok : goal.returns-clause-ok
returns-clause-ok c =
    let es = c.self.inside.values.entries in
    let at : lookup (is_key c.args.name.now) es ≡ Some c.in-Some.draft.now = sym c.get_full.ensures.value ∙ ap (option_map (λ p. p.2.now)) c.in-Some.is in
    let there : is_open c.args.name.now c.args.self.now ≡ true = rw (← c.self.view_is) (is_open-lookup c.args.name.now es ∙ ap is_some at) in
    let sends : sends_in c.args.name.now c.args.self.now ≡ c.in-Some.draft.now = rw (← c.self.view_is) (sends_in-lookup c.args.name.now es c.in-Some.draft.now at) in
    (there, rw sends (below_is_not_full c.in-Some.draft.now (omega arith)))

pub returns-clause-index : goal.returns-clause-index
returns-clause-index c =
    let es = c.self.inside.values.entries in (
      rw (← c.self.view_is, index_of_id-entries_of c.args.name.now es) (position-Some (is_key c.args.name.now) (keys_of es) c.in-Some.index (sym c.get_full.ensures.index ∙ ap (option_map (λ p. p.0)) c.in-Some.is)),
      rw (← c.self.view_is, length-map es _) (slice_get_within es c.in-Some.index _ c.in-Some.ensures.entry),
    )
