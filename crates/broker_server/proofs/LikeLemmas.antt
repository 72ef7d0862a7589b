-- Two connections that differ by what was delivered to them alone do the same for frames.
use Rattle.std.proofs.Common.{◌≡◌, ◌⊎◌, inl, inr, ℕ, Bool, true, List, [], ◌∷◌, ◌++◌, length, map, Option, Some, None, IsSome, Ok, Err, refl, sym, ap, ap₂, subst, ◌∙◌}
use Rattle.std.proofs.lemmas.List.{map-append}
use Rattle.std.specs.List.{flat_map, list_any}
use Rattle.std.specs.Prelude.{MatchOption, ◌||◌}
use Rattle.stomp_frame.specs.declared.case_fault.CaseFault.{CaseFault}
use Rattle.stomp_frame.specs.declared.raw_frame.RawFrame.{RawFrame}
use Rattle.stomp_frame.specs.Cases.{case_fault}
use Rattle.stomp_frame.specs.Reader.{NextReturns, with_piece}
use Rattle.stomp_frame.specs.Receipts.{receipt_of}
use Rattle.stomp_session.specs.declared.action.Action.{Action}
use Rattle.stomp_session.specs.declared.action.Action.TheVariants as actions
use Rattle.stomp_session.specs.declared.action.Step.{Step}
use Rattle.stomp_session.specs.Open.{asks_parts}
use Rattle.delivery.specs.declared.connection_fault.ConnectionFault.TheVariants as connection
use Rattle.broker_server.specs.declared.conversation.conversation_fault.ConversationFault.{ConversationFault}
use Rattle.broker_server.specs.declared.conversation.conversation_fault.ConversationFault.TheVariants as fault
use Rattle.broker_server.specs.declared.conversation.held.Held.TheVariants as helds
use Rattle.broker_server.specs.declared.conversation.exit.Exit.{Exit}
use Rattle.broker_server.specs.declared.conversation.exit.Exit.TheVariants as exit
use Rattle.broker_server.specs.BrokerRows.{BrokerRow, SubName, Unsubscribes}
use Rattle.broker_server.specs.ConversationFaults.{fault_of_reader, tells_version, told_error}
use Rattle.broker_server.specs.Conversations.{Acts, Answers, Concludes, ConversationState, Does, Done, EndsSaying, OpenSubState, Performs, begun_sub, closed, closing_rows, gate_rows, is_of_id, next_without}
use Rattle.broker_server.specs.Hearing.{AcceptsFrame, DeniesFrame, Hears, IsNewTo, JudgesFrame, Listens, Looks, ReadingFails, RefusesFrame, Rests, TakesAll, TakesFrame, TakesFrames}
use Rattle.broker_server.specs.Judging.{IsFrameAccepted, IsFrameRefused}
use Rattle.broker_server.specs.Waiting.{but_items, untaken}
use Rattle.broker_server.specs.Wires.{spelling_with_eol}

-- they differ by what was delivered to them alone
abbrev pub Like : ConversationState → ConversationState → Type 0
Like a b = but_items a ≡ but_items b

-- this is so of some connection that is like this one
abbrev pub SoOfLike : ConversationState → (ConversationState → Type 0) → Type 0
SoOfLike new Is = (other : ConversationState) × Is other × Like new other

-- ---- subscriptions

names_kept : (os : List OpenSubState) → map (λ (o : OpenSubState). Unsubscribes o.sub) (map untaken os) ≡ map (λ (o : OpenSubState). Unsubscribes o.sub) os
names_kept [] = refl
names_kept (o ∷ os) = ap (λ (rows : List BrokerRow). Unsubscribes o.sub ∷ rows) (names_kept os)

any_kept : (id : List ℕ) (os : List OpenSubState) → list_any (is_of_id id) (map untaken os) ≡ list_any (is_of_id id) os
any_kept id [] = refl
any_kept id (o ∷ os) = ap (λ (b : Bool). is_of_id id o || b) (any_kept id os)

any_like : (id : List ℕ) (os others : List OpenSubState) → map untaken os ≡ map untaken others → list_any (is_of_id id) os ≡ list_any (is_of_id id) others
any_like id os others e = sym (any_kept id os) ∙ ap (list_any (is_of_id id)) e ∙ any_kept id others

-- where subscriptions are like others, what is cut out of these is cut out of those
split_like : (front back : List OpenSubState) (o : OpenSubState) (ys : List OpenSubState) → map untaken (front ++ o ∷ back) ≡ map untaken ys → (first : List OpenSubState) × (last : List OpenSubState) × (it : OpenSubState) × (ys ≡ first ++ it ∷ last) × (map untaken front ≡ map untaken first) × (untaken o ≡ untaken it) × (map untaken back ≡ map untaken last)
split_like [] back o [] e = absurd cc
split_like [] back o (y ∷ ys) e = ([], ys, y, refl, refl, cc, cc)
split_like (x ∷ front) back o [] e = absurd cc
split_like (x ∷ front) back o (y ∷ ys) e =
    let rest = split_like front back o ys cc in
    let head : untaken x ≡ untaken y = cc in
    (y ∷ rest.0, rest.1, rest.2, ap (λ (os : List OpenSubState). y ∷ os) rest.3, ap₂ (λ (q : OpenSubState) (os : List OpenSubState). q ∷ os) head rest.4, rest.5, rest.6)

-- ---- leaving

pub closing_like : (a b : ConversationState) → Like a b → closing_rows a ≡ closing_rows b
closing_like a b e =
    let kept : (c : ConversationState) → closing_rows (but_items c) ≡ closing_rows c = λ c. ap (λ (rows : List BrokerRow). rows ++ gate_rows c.gate) (names_kept c.subs) in
    sym (kept a) ∙ ap closing_rows e ∙ kept b

closed_like : (why : Exit) (a b : ConversationState) → Like a b → Like (closed why a) (closed why b)
closed_like why a b e = ap (closed why) e

ends_like : (version : Bool) (why : ConversationFault) (receipt : Option (List ℕ)) (a new b : ConversationState) → Like a b → EndsSaying version why receipt a new → SoOfLike new (EndsSaying version why receipt b)
ends_like version why receipt a new b e (inl puts) =
    let left = closed (exit.Error why) b in
    (record left { wire = left.wire ++ flat_map spelling_with_eol (told_error version why receipt ∷ []) }, inl refl, ap but_items puts ∙ closed_like (exit.Error why) a b e)
ends_like version why receipt a new b e (inr cut) =
    (record (closed (exit.Error why) b) { cut = true }, inr refl, ap but_items cut ∙ ap (λ (s : ConversationState). record s { cut = true }) (closed_like (exit.Error why) a b e))

-- ---- what a frame asks for

begun_kept : (id : List ℕ) (parts : Bool) (sub : SubName) (c : ConversationState) → but_items (record c { subs = c.subs ++ begun_sub id parts sub c.capacity ∷ [] }) ≡ record (but_items c) { subs = map untaken c.subs ++ begun_sub id parts sub 0 ∷ [] }
begun_kept id parts sub c = ap (λ (os : List OpenSubState). record (but_items c) { subs = os }) (map-append untaken c.subs (begun_sub id parts sub c.capacity ∷ []))

begun_like : (id : List ℕ) (sub : SubName) (a b : ConversationState) → Like a b → Like (record a { subs = a.subs ++ begun_sub id (asks_parts id a.session) sub a.capacity ∷ [] }) (record b { subs = b.subs ++ begun_sub id (asks_parts id b.session) sub b.capacity ∷ [] })
begun_like id sub a b e =
    begun_kept id (asks_parts id a.session) sub a
    ∙ ap (λ (s : ConversationState). record s { subs = s.subs ++ begun_sub id (asks_parts id s.session) sub 0 ∷ [] }) e
    ∙ sym (begun_kept id (asks_parts id b.session) sub b)

ended_like : (a b : ConversationState) (front back first last : List OpenSubState) → Like a b → map untaken front ≡ map untaken first → map untaken back ≡ map untaken last → (next later : ℕ) → Like (record a { subs = front ++ back; next = next }) (record b { subs = first ++ last; next = later })
ended_like a b front back first last e fronts backs next later =
    let subs = map-append untaken front back ∙ ap₂ (λ (xs ys : List OpenSubState). xs ++ ys) fronts backs ∙ sym (map-append untaken first last) in
    ap (λ (os : List OpenSubState). record (but_items a) { subs = os }) subs ∙ ap (λ (s : ConversationState). record s { subs = map untaken (first ++ last) }) e

pub performs_like : (action : Action) (a : ConversationState) (asked : List BrokerRow) (done : Done) (new b : ConversationState) → Like a b → Performs action a asked done new → SoOfLike new (λ other. Performs action b asked done other)
performs_like (actions.Connected client) a asked done new b e (inl (gate, called, ok, is)) =
    (record b { gate = Some gate }, inl (gate, called, ok, refl), ap but_items is ∙ ap (λ (s : ConversationState). record s { gate = Some gate }) e)
performs_like (actions.Connected client) a asked done new b e (inr (why, called, err, is)) =
    (b, inr (why, called, err, refl), ap but_items is ∙ e)
performs_like actions.Nothing a asked done new b e (none, ok, is) = (b, (none, ok, refl), ap but_items is ∙ e)
performs_like (actions.Subscribe id topic) a asked done new b e (inl (sub, called, ok, is)) =
    (record b { subs = b.subs ++ begun_sub id (asks_parts id b.session) sub b.capacity ∷ [] }, inl (sub, called, ok, refl), ap but_items is ∙ begun_like id sub a b e)
performs_like (actions.Subscribe id topic) a asked done new b e (inr (inl (why, called, err, is))) =
    (b, inr (inl (why, called, err, refl)), ap but_items is ∙ e)
performs_like (actions.Subscribe id topic) a asked done new b e (inr (inr (none, err, is))) =
    (b, inr (inr (none, err, refl)), ap but_items is ∙ e)
performs_like (actions.Unsubscribe id) a asked done new b e (ok, inl (front, back, o, cut, named, none, called, is)) =
    let all = ap (map untaken) (sym cut) ∙ ap (λ (s : ConversationState). s.subs) e in
    let there = split_like front back o b.subs all in
    let same = there.5 in (
      record b { subs = there.0 ++ there.1; next = next_without (length there.0) b.next },
      (
        ok,
        inl (
          there.0,
          there.1,
          there.2,
          there.3,
          ap (is_of_id id) (sym same) ∙ named,
          sym (any_like id front there.0 there.4) ∙ none,
          called ∙ ap (λ (q : OpenSubState). Unsubscribes q.sub ∷ []) same,
          refl,
        ),
      ),
      ap but_items is ∙ ended_like a b front back there.0 there.1 e there.4 there.6 (next_without (length front) a.next) (next_without (length there.0) b.next),
    )
performs_like (actions.Unsubscribe id) a asked done new b e (ok, inr (none, called, is)) =
    (b, (ok, inr (sym (any_like id a.subs b.subs (ap (λ (s : ConversationState). s.subs) e)) ∙ none, called, refl)), ap but_items is ∙ e)
performs_like (actions.Commit sends) a asked done new b e (rest, found, inl (gate, left, has, commits, is)) =
    (record b { gate = Some left }, (rest, found, inl (gate, left, sym (ap (λ (s : ConversationState). s.gate) e) ∙ has, commits, refl)), ap but_items is ∙ ap (λ (s : ConversationState). record s { gate = Some left }) e)
performs_like (actions.Commit sends) a asked done new b e (rest, found, inr (none, back, err, is)) =
    (b, (rest, found, inr (sym (ap (λ (s : ConversationState). s.gate) e) ∙ none, back, err, refl)), ap but_items is ∙ e)
performs_like actions.Disconnect a asked done new b e (called, ok, is) =
    (closed exit.Disconnect b, (called ∙ closing_like a b e, ok, refl), ap but_items is ∙ closed_like exit.Disconnect a b e)

answers_like : (frames : List RawFrame) (a : ConversationState) (asked : List BrokerRow) (new b : ConversationState) → Like a b → Answers frames a asked new → SoOfLike new (Answers frames b asked)
answers_like frames a asked new b e (inl (none, is)) =
    (record b { wire = b.wire ++ flat_map spelling_with_eol frames }, inl (none, refl), ap but_items is ∙ e)
answers_like frames a asked new b e (inr (inl (any, called, open_yet, ends))) =
    let other = ends_like (tells_version None fault.NoReply) fault.NoReply None a new b e ends in
    (other.0, inr (inl (any, called ∙ closing_like a b e, sym (ap (λ (s : ConversationState). s.exit) e) ∙ open_yet, other.1)), other.2)
answers_like frames a asked new b e (inr (inr (any, none, leaves, is))) =
    (record b { cut = true }, inr (inr (any, none, subst (λ (s : ConversationState). IsSome s.exit) e leaves, refl)), ap but_items is ∙ ap (λ (s : ConversationState). record s { cut = true }) e)

pub concludes_like : (done : Done) (frames : List RawFrame) (receipt : Option (List ℕ)) (a : ConversationState) (asked : List BrokerRow) (new b : ConversationState) → Like a b → Concludes done frames receipt a asked new → SoOfLike new (Concludes done frames receipt b asked)
concludes_like (Ok u) frames receipt a asked new b e answers = answers_like frames a asked new b e answers
concludes_like (Err why) frames receipt a asked new b e (called, ends) =
    let other = ends_like (tells_version None why) why receipt a new b e ends in
    (other.0, (called ∙ closing_like a b e, other.1), other.2)

does_like : (step : Step) (a : ConversationState) (asked : List BrokerRow) (new b : ConversationState) → Like a b → Does step a asked new → SoOfLike new (Does step b asked)
does_like step a asked new b e does =
    let did = performs_like step.action a does.first does.result does.between b e does.performs in
    let told = concludes_like does.result _ step.receipt does.between does.rest new did.0 did.2 does.concludes in (
      told.0,
      record {
        first = does.first;
        rest = does.rest;
        between = did.0;
        result = does.result;
        performs = did.1;
        concludes = told.1;
        all = does.all;
      },
      told.2,
    )

pub acts_like : (step : Step) (a : ConversationState) (asked : List BrokerRow) (new b : ConversationState) → Like a b → Acts step a asked new → SoOfLike new (Acts step b asked)
acts_like step a asked new b e (inl does) =
    let other = does_like step a asked new b e does in (other.0, inl other.1, other.2)
acts_like step a asked new b e (inr (sends, is, called, held)) =
    (record b { held = Some (helds.Waits sends step.receipt) }, inr (sends, is, called, refl), ap but_items held ∙ ap (λ (s : ConversationState). record s { held = Some (helds.Waits sends step.receipt) }) e)

-- ---- frames

accepts_like : (f : RawFrame) (step : Step) (a : ConversationState) (asked : List BrokerRow) (new b : ConversationState) → Like a b → AcceptsFrame f step a asked new → SoOfLike new (AcceptsFrame f step b asked)
accepts_like f step a asked new b e accepts = (
  record b { session = new.session; names = new.names },
  record {
    known = accepts.known;
    looks = subst (λ (s : ConversationState). Looks f s asked accepts.known new.names) e accepts.looks;
    accepted = subst (λ (s : ConversationState). IsFrameAccepted f step s.session accepts.known new.session new.names) e accepts.accepted;
    same = refl;
  },
  ap but_items accepts.same ∙ ap (λ (s : ConversationState). record s { session = new.session; names = new.names }) e,
)

denies_like : (f : RawFrame) (why : ConversationFault) (a : ConversationState) (asked : List BrokerRow) (new b : ConversationState) → Like a b → DeniesFrame f why a asked new → SoOfLike new (DeniesFrame f why b asked)
denies_like f why a asked new b e denies = (
  record b { session = new.session; names = new.names },
  record {
    known = denies.known;
    looks = subst (λ (s : ConversationState). Looks f s asked denies.known new.names) e denies.looks;
    refused = subst (λ (s : ConversationState). IsFrameRefused f why s.session denies.known) e denies.refused;
    lacks = subst (λ (s : ConversationState). why ≡ fault.NoMemory → IsNewTo s.names f) e denies.lacks;
    stay = subst (λ (s : ConversationState). asked ≡ [] → new.names ≡ s.names) e denies.stay;
    same = refl;
  },
  ap but_items denies.same ∙ ap (λ (s : ConversationState). record s { session = new.session; names = new.names }) e,
)

refuses_like : (why : ConversationFault) (f : RawFrame) (a : ConversationState) (asked : List BrokerRow) (new b : ConversationState) → Like a b → RefusesFrame why f a asked new → SoOfLike new (RefusesFrame why f b asked)
refuses_like why f a asked new b e (called, ends) =
    let other = ends_like (tells_version (Some f) why) why (receipt_of f) a new b e ends in
    (other.0, (called ∙ closing_like a b e, other.1), other.2)

judged_like : (f : RawFrame) (o : Option CaseFault) (a : ConversationState) (asked : List BrokerRow) (new b : ConversationState) → Like a b → MatchOption o (JudgesFrame f a asked new) (λ why. RefusesFrame (fault.Connection (connection.Frame why)) f a asked new) → SoOfLike new (λ other. MatchOption o (JudgesFrame f b asked other) (λ why. RefusesFrame (fault.Connection (connection.Frame why)) f b asked other))
judged_like f None a asked new b e (first, rest, cut, between, inl (step, accepts, acts)) =
    let one = accepts_like f step a first between b e accepts in
    let two = acts_like step between rest new one.0 one.2 acts in
    (two.0, (first, rest, cut, one.0, inl (step, one.1, two.1)), two.2)
judged_like f None a asked new b e (first, rest, cut, between, inr (why, denies, refuses)) =
    let one = denies_like f why a first between b e denies in
    let two = refuses_like why f between rest new one.0 one.2 refuses in
    (two.0, (first, rest, cut, one.0, inr (why, one.1, two.1)), two.2)
judged_like f (Some why) a asked new b e refuses = refuses_like (fault.Connection (connection.Frame why)) f a asked new b e refuses

frame_like : (f : RawFrame) (a : ConversationState) (asked : List BrokerRow) (new b : ConversationState) → Like a b → TakesFrame f a asked new → SoOfLike new (TakesFrame f b asked)
frame_like f a asked new b e takes = judged_like f (case_fault f) a asked new b e takes

frames_like : (frames : List RawFrame) (a : ConversationState) (asked : List BrokerRow) (new b : ConversationState) → Like a b → TakesFrames frames a asked new → SoOfLike new (TakesFrames frames b asked)
frames_like [] a asked new b e (none, is) = (b, (none, refl), ap but_items is ∙ e)
frames_like (f ∷ frames) a asked new b e (listens, left, reads, between, first, rest, cut, takes, then) =
    let one = frame_like f (record a { reader = left }) first between (record b { reader = left }) (ap (λ (s : ConversationState). record s { reader = left }) e) takes in
    let more = frames_like frames between rest new one.0 one.2 then in (
      more.0,
      (subst Listens e listens, left, subst (λ (s : ConversationState). NextReturns s.reader (Ok (Some f)) left) e reads, one.0, first, rest, cut, one.1, more.1),
      more.2,
    )

rests_like : (a : ConversationState) (asked : List BrokerRow) (new b : ConversationState) → Like a b → Rests a asked new → SoOfLike new (Rests b asked)
rests_like a asked new b e (inl (still, none, is)) =
    (b, inl (subst (λ (s : ConversationState). IsSome s.exit ⊎ IsSome s.held) e still, none, refl), ap but_items is ∙ e)
rests_like a asked new b e (inr (inl (listens, left, reads, none, is))) =
    (record b { reader = left }, inr (inl (subst Listens e listens, left, subst (λ (s : ConversationState). NextReturns s.reader (Ok None) left) e reads, none, refl)), ap but_items is ∙ ap (λ (s : ConversationState). record s { reader = left }) e)
rests_like a asked new b e (inr (inr (listens, why, left, reads, called, ends))) =
    let other = ends_like (tells_version None (fault_of_reader why)) (fault_of_reader why) None (record a { reader = left }) new (record b { reader = left }) (ap (λ (s : ConversationState). record s { reader = left }) e) ends in
    (other.0, inr (inr (subst Listens e listens, why, left, subst (λ (s : ConversationState). ReadingFails why s.reader left) e reads, called ∙ closing_like a b e, other.1)), other.2)

pub all_like : (a : ConversationState) (asked : List BrokerRow) (new b : ConversationState) → Like a b → TakesAll a asked new → SoOfLike new (TakesAll b asked)
all_like a asked new b e (frames, between, first, rest, cut, takes, rests) =
    let one = frames_like frames a first between b e takes in
    let two = rests_like between rest new one.0 one.2 rests in
    (two.0, (frames, one.0, first, rest, cut, one.1, two.1), two.2)

pub hears_like : (piece : List ℕ) (a : ConversationState) (asked : List BrokerRow) (new b : ConversationState) → Like a b → Hears piece a asked new → SoOfLike new (Hears piece b asked)
hears_like piece a asked new b e (inl (leaves, none, is)) =
    (b, inl (subst (λ (s : ConversationState). IsSome s.exit) e leaves, none, refl), ap but_items is ∙ e)
hears_like piece a asked new b e (inr (inl (open_yet, called, ends))) =
    let other = ends_like (tells_version None fault.NoMemory) fault.NoMemory None a new b e ends in
    (other.0, inr (inl (sym (ap (λ (s : ConversationState). s.exit) e) ∙ open_yet, called ∙ closing_like a b e, other.1)), other.2)
hears_like piece a asked new b e (inr (inr (open_yet, takes))) =
    let read = record a { reader = with_piece a.reader piece } in
    let other = all_like read asked new (record b { reader = with_piece b.reader piece }) (ap (λ (s : ConversationState). record s { reader = with_piece s.reader piece }) e) takes in
    (other.0, inr (inr (sym (ap (λ (s : ConversationState). s.exit) e) ∙ open_yet, other.1)), other.2)
