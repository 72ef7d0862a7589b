use Rattle.std.proofs.Common.{ℕ, true, List, [], ◌∷◌, ◌++◌, inl, inr, sym, ap, ◌∙◌, append-nil}
use Rattle.std.specs.List.{flat_map}
use Rattle.std.specs.Option.{option_map}
use Rattle.stomp_frame.specs.ServerFrames.{error_frame}
use Rattle.broker_server.specs.Conversations.{ConversationState}
use Rattle.broker_server.specs.ConversationFaults.{told_error}
use Rattle.broker_server.specs.Wires.{spelling_with_eol}
use Rattle.broker_server.proofs.ConversationLemmas.{on_err, on_ok}
use Rattle.broker_server.proofs.conversation.Conversation.fail_saying.Goals as goal

pub returns-in-Ok-clause-fails : goal.returns-in-Ok-clause-fails
returns-in-Ok-clause-fails g c =
    let held = c.self.inside in
    let why = c.args.fault in
    let receipt = option_map (λ id. id.now) c.args.receipt in
    let frame = told_error c.args.version why receipt in
    let with : List ℕ → ConversationState = λ wire. record {
      reader = held.reader;
      session = held.session;
      names = held.names;
      gate = held.gate;
      subs = held.subs.items;
      held = held.held;
      wire = wire;
      exit = held.exit;
      cut = held.cut;
      more = held.more;
      half = held.half;
      capacity = held.capacity;
      next = held.next;
      flags = held.flags;
    } in
    let was = c.self.view_is ∙ c.close.ensures.closed in
    let told = ap (λ (t : List ℕ). held.wire ++ spelling_with_eol (error_frame t receipt c.args.version)) c.title.ensures
    ∙ ap (λ (t : List ℕ). held.wire ++ t) (sym (append-nil (spelling_with_eol frame))) in
    let written = ap (λ (s : ConversationState). record s { wire = s.wire ++ flat_map spelling_with_eol (frame ∷ []) }) was in
    let ok = on_ok c.put_frame.result _ _ c.in-Ok.is c.put_frame.ensures.ok in
    inl (ap with (ok ∙ told) ∙ written)

pub returns-in-Err-clause-fails : goal.returns-in-Err-clause-fails
returns-in-Err-clause-fails g c =
    let held = c.self.inside in
    let with : List ℕ → ConversationState = λ wire. record {
      reader = held.reader;
      session = held.session;
      names = held.names;
      gate = held.gate;
      subs = held.subs.items;
      held = held.held;
      wire = wire;
      exit = held.exit;
      cut = true;
      more = held.more;
      half = held.half;
      capacity = held.capacity;
      next = held.next;
      flags = held.flags;
    } in
    let was = c.self.view_is ∙ c.close.ensures.closed in
    let err = on_err c.put_frame.result _ _ c.in-Err.is c.put_frame.ensures.err in
    inr (ap with err ∙ ap (λ (s : ConversationState). record s { cut = true }) was)
