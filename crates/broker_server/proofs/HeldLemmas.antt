-- Where a transaction waits for room, and what is done of it later.
use Rattle.std.proofs.Common.{◌≡◌, ◌⊎◌, inl, inr, ℕ, Bool, true, false, not, List, [], ◌∷◌, ◌++◌, Option, Some, None, Ok, Err, if◌then◌else◌, refl, sym, ap, ap₂, subst, ◌∙◌, append_assoc, append-nil}
use Rattle.std.specs.Prelude.{IsSome, MatchOption}
use Rattle.mcast_txn.specs.declared.draft.sent_message.SentMessage.{SentMessage}
use Rattle.stomp_frame.specs.declared.case_fault.CaseFault.{CaseFault}
use Rattle.stomp_frame.specs.declared.raw_frame.RawFrame.{RawFrame}
use Rattle.stomp_frame.specs.Cases.{case_fault}
use Rattle.stomp_frame.specs.Reader.{with_piece}
use Rattle.stomp_session.specs.declared.action.Action.{Action}
use Rattle.stomp_session.specs.declared.action.Action.TheVariants as actions
use Rattle.stomp_session.specs.declared.action.Step.{Step}
use Rattle.delivery.specs.declared.connection_fault.ConnectionFault.TheVariants as connection
use Rattle.broker_server.specs.declared.conversation.conversation_fault.ConversationFault.{ConversationFault}
use Rattle.broker_server.specs.declared.conversation.conversation_fault.ConversationFault.TheVariants as fault
use Rattle.broker_server.specs.declared.conversation.held.Held.{Held}
use Rattle.broker_server.specs.declared.conversation.held.Held.TheVariants as helds
use Rattle.broker_server.specs.BrokerRows.{BrokerRow}
use Rattle.broker_server.specs.ConversationFaults.{fault_of_reader, tells_version}
use Rattle.broker_server.specs.Conversations.{Acts, Answers, Concludes, ConversationState, Does, Done, EndsSaying, Performs}
use Rattle.broker_server.specs.Hearing.{Hears, JudgesFrame, RefusesFrame, TakesAll, TakesFrame, TakesFrames}
use Rattle.broker_server.specs.Waiting.{HearsEach, asks_room, but_room}
use Rattle.broker_server.proofs.TakingLemmas.{takes_on}

-- ---- no transaction waits behind what is done

pub ends_free : (version : Bool) (why : ConversationFault) (receipt : Option (List ℕ)) (old new : ConversationState) → EndsSaying version why receipt old new → new.held ≡ None
ends_free version why receipt old new (inl e) = ap (λ (s : ConversationState). s.held) e
ends_free version why receipt old new (inr e) = ap (λ (s : ConversationState). s.held) e

pub performs_free : (action : Action) (old : ConversationState) (asked : List BrokerRow) (done : Done) (new : ConversationState) → Performs action old asked done new → old.held ≡ None → new.held ≡ None
performs_free (actions.Connected client) old asked done new (inl (gate, a, r, e)) free = ap (λ (s : ConversationState). s.held) e ∙ free
performs_free (actions.Connected client) old asked done new (inr (why, a, r, e)) free = ap (λ (s : ConversationState). s.held) e ∙ free
performs_free actions.Nothing old asked done new (a, r, e) free = ap (λ (s : ConversationState). s.held) e ∙ free
performs_free (actions.Subscribe id topic) old asked done new (inl (sub, a, r, e)) free = ap (λ (s : ConversationState). s.held) e ∙ free
performs_free (actions.Subscribe id topic) old asked done new (inr (inl (why, a, r, e))) free = ap (λ (s : ConversationState). s.held) e ∙ free
performs_free (actions.Subscribe id topic) old asked done new (inr (inr (a, r, e))) free = ap (λ (s : ConversationState). s.held) e ∙ free
performs_free (actions.Unsubscribe id) old asked done new (r, inl (front, back, o, cut, named, none, a, e)) free = ap (λ (s : ConversationState). s.held) e ∙ free
performs_free (actions.Unsubscribe id) old asked done new (r, inr (none, a, e)) free = ap (λ (s : ConversationState). s.held) e ∙ free
performs_free (actions.Commit sends) old asked done new (rest, found, inl (gate, left, g, commits, e)) free = ap (λ (s : ConversationState). s.held) e ∙ free
performs_free (actions.Commit sends) old asked done new (rest, found, inr (g, a, r, e)) free = ap (λ (s : ConversationState). s.held) e ∙ free
performs_free actions.Disconnect old asked done new (a, r, e) free = ap (λ (s : ConversationState). s.held) e

answers_free : (frames : List RawFrame) (old : ConversationState) (asked : List BrokerRow) (new : ConversationState) → Answers frames old asked new → old.held ≡ None → new.held ≡ None
answers_free frames old asked new (inl (a, e)) free = ap (λ (s : ConversationState). s.held) e ∙ free
answers_free frames old asked new (inr (inl (any, a, open_yet, ends))) free = ends_free (tells_version None fault.NoReply) fault.NoReply None old new ends
answers_free frames old asked new (inr (inr (any, a, left, e))) free = ap (λ (s : ConversationState). s.held) e ∙ free

pub concludes_free : (done : Done) (frames : List RawFrame) (receipt : Option (List ℕ)) (old : ConversationState) (asked : List BrokerRow) (new : ConversationState) → Concludes done frames receipt old asked new → old.held ≡ None → new.held ≡ None
concludes_free (Ok u) frames receipt old asked new answers free = answers_free frames old asked new answers free
concludes_free (Err why) frames receipt old asked new (a, ends) free = ends_free (tells_version None why) why receipt old new ends

pub does_free : (step : Step) (old : ConversationState) (asked : List BrokerRow) (new : ConversationState) → Does step old asked new → old.held ≡ None → new.held ≡ None
does_free step old asked new does free =
    concludes_free does.result _ step.receipt does.between does.rest new does.concludes (performs_free step.action old does.first does.result does.between does.performs free)

-- ---- a transaction that waits

-- the step of a COMMIT of these, or of a SEND
abbrev pub commit_of : List SentMessage → Option (List ℕ) → Step
commit_of sends receipt = record { action = actions.Commit sends; receipt = receipt }

-- Once this was asked, by calls that are `Takes`, a transaction waits: whatever is done of it from then on is done behind those.
pub record Waits (Takes : List BrokerRow → ConversationState → Type 0) (asked : List BrokerRow) (new : ConversationState) : Type 0 where
  pub sends : List SentMessage
  pub receipt : Option (List ℕ)
  pub ready : ConversationState
  pub before : List BrokerRow
  pub room : List BrokerRow
  pub free : ready.held ≡ None
  pub open_yet : ready.exit ≡ None
  pub is : new ≡ record ready { held = Some (helds.Waits sends receipt) }
  pub held : Acts (commit_of sends receipt) ready room (record ready { held = Some (helds.Waits sends receipt) })
  pub unseen : but_room room ≡ []
  pub cut : asked ≡ before ++ room
  pub later : (rows : List BrokerRow) (last : ConversationState) → Acts (commit_of sends receipt) ready rows last → Takes (before ++ rows) last

-- some frames are taken so
abbrev pub TakesSome : ConversationState → List BrokerRow → ConversationState → Type 0
TakesSome start asked new = (frames : List RawFrame) × TakesFrames frames start asked new

pub none_some : {X : Type 0} (o : Option X) (x : X) → o ≡ None → o ≡ Some x → ⊥
none_some o x none some = let e = sym none ∙ some in cc

pub some_same : {X : Type 0} (x y : X) → Some x ≡ Some y → x ≡ y
some_same x y e = cc

judged_waits : (f : RawFrame) (o : Option CaseFault) (start : ConversationState) (asked : List BrokerRow) (new : ConversationState) (what : Held) → MatchOption o (JudgesFrame f start asked new) (λ why. RefusesFrame (fault.Connection (connection.Frame why)) f start asked new) → start.held ≡ None → start.exit ≡ None → new.held ≡ Some what → Waits (λ rows last. MatchOption o (JudgesFrame f start rows last) (λ why. RefusesFrame (fault.Connection (connection.Frame why)) f start rows last)) asked new
judged_waits f None start asked new what (first, rest, cut, between, inl (taken, accepts, inl does)) free open_yet waits =
    absurd (none_some new.held what (does_free taken between rest new does (ap (λ (s : ConversationState). s.held) accepts.same ∙ free)) waits)
judged_waits f None start asked new what (first, rest, cut, between, inl (taken, accepts, inr (sends, is, called, held))) free open_yet waits =
    let same : commit_of sends taken.receipt ≡ taken = ap (λ (action : Action). record { action = action; receipt = taken.receipt }) (sym is) in
    record {
      sends = sends;
      receipt = taken.receipt;
      ready = between;
      before = first;
      room = rest;
      free = ap (λ (s : ConversationState). s.held) accepts.same ∙ free;
      open_yet = ap (λ (s : ConversationState). s.exit) accepts.same ∙ open_yet;
      is = held;
      held = inr (sends, refl, called, refl);
      unseen = ap but_room called;
      cut = cut;
      later = λ rows last acts. (first, rows, refl, between, inl (taken, accepts, subst (λ (q : Step). Acts q between rows last) same acts));
    }
judged_waits f None start asked new what (first, rest, cut, between, inr (why, denies, (called, ends))) free open_yet waits =
    absurd (none_some new.held what (ends_free (tells_version (Some f) why) why _ between new ends) waits)
judged_waits f (Some why) start asked new what (called, ends) free open_yet waits =
    absurd (none_some new.held what (ends_free (tells_version (Some f) (fault.Connection (connection.Frame why))) (fault.Connection (connection.Frame why)) _ start new ends) waits)

pub frame_waits : (f : RawFrame) (start : ConversationState) (asked : List BrokerRow) (new : ConversationState) (what : Held) → TakesFrame f start asked new → start.held ≡ None → start.exit ≡ None → new.held ≡ Some what → Waits (TakesFrame f start) asked new
frame_waits f start asked new what takes free open_yet waits = judged_waits f (case_fault f) start asked new what takes free open_yet waits

frames_waits : (frames : List RawFrame) (start : ConversationState) (asked : List BrokerRow) (new : ConversationState) (what : Held) → TakesFrames frames start asked new → start.held ≡ None → new.held ≡ Some what → Waits (TakesSome start) asked new
frames_waits [] start asked new what (none, is) free waits = absurd (none_some new.held what (ap (λ (s : ConversationState). s.held) is ∙ free) waits)
frames_waits (f ∷ []) start asked new what (listens, left, reads, between, first, rest, cut, takes, (none, is)) free waits =
    let w = frame_waits f (record start { reader = left }) first between what takes free listens.0 (sym (ap (λ (s : ConversationState). s.held) is) ∙ waits) in
    record {
      sends = w.sends;
      receipt = w.receipt;
      ready = w.ready;
      before = w.before;
      room = w.room;
      free = w.free;
      open_yet = w.open_yet;
      is = is ∙ w.is;
      held = w.held;
      unseen = w.unseen;
      cut = cut ∙ ap (λ (rows : List BrokerRow). first ++ rows) none ∙ append-nil first ∙ w.cut;
      later = λ rows last acts. (f ∷ [], (listens, left, reads, last, w.before ++ rows, [], sym (append-nil (w.before ++ rows)), w.later rows last acts, (refl, refl)));
    }
frames_waits (f ∷ g ∷ frames) start asked new what (listens, left, reads, between, first, rest, cut, takes, follow) free waits =
    let w = frames_waits (g ∷ frames) between rest new what follow follow.0.1 waits in
    record {
      sends = w.sends;
      receipt = w.receipt;
      ready = w.ready;
      before = first ++ w.before;
      room = w.room;
      free = w.free;
      open_yet = w.open_yet;
      is = w.is;
      held = w.held;
      unseen = w.unseen;
      cut = cut ∙ ap (λ (rows : List BrokerRow). first ++ rows) w.cut ∙ sym (append_assoc first w.before w.room);
      later = λ rows last acts. (f ∷ (w.later rows last acts).0, (listens, left, reads, between, first, w.before ++ rows, append_assoc first w.before rows, takes, (w.later rows last acts).1));
    }

pub all_waits : (start : ConversationState) (asked : List BrokerRow) (new : ConversationState) (what : Held) → TakesAll start asked new → start.held ≡ None → new.held ≡ Some what → Waits (TakesSome start) asked new
all_waits start asked new what (frames, between, first, rest, cut, takes, inl (still, none, is)) free waits =
    let w = frames_waits frames start first between what takes free (sym (ap (λ (s : ConversationState). s.held) is) ∙ waits) in
    record {
      sends = w.sends;
      receipt = w.receipt;
      ready = w.ready;
      before = w.before;
      room = w.room;
      free = w.free;
      open_yet = w.open_yet;
      is = is ∙ w.is;
      held = w.held;
      unseen = w.unseen;
      cut = cut ∙ ap (λ (rows : List BrokerRow). first ++ rows) none ∙ append-nil first ∙ w.cut;
      later = w.later;
    }
all_waits start asked new what (frames, between, first, rest, cut, takes, inr (inl (listens, left, reads, none, is))) free waits =
    absurd (none_some new.held what (ap (λ (s : ConversationState). s.held) is ∙ listens.1) waits)
all_waits start asked new what (frames, between, first, rest, cut, takes, inr (inr (listens, why, left, reads, called, ends))) free waits =
    absurd (none_some new.held what (ends_free (tells_version None (fault_of_reader why)) (fault_of_reader why) None (record between { reader = left }) new ends) waits)

-- frames are taken, and then all that follow
pub all_on : (start : ConversationState) (asked : List BrokerRow) (mid : ConversationState) (more : List BrokerRow) (last : ConversationState) → TakesSome start asked mid → TakesAll mid more last → TakesAll start (asked ++ more) last
all_on start asked mid more last (frames, takes) (others, between, first, rest, cut, follow, rests) =
    (frames ++ others, between, asked ++ first, rest, ap (λ (rows : List BrokerRow). asked ++ rows) cut ∙ sym (append_assoc asked first rest), takes_on frames others start asked mid first between takes follow, rests)

-- where a transaction waits, nothing is taken
pub still_all : (mid : ConversationState) (asked : List BrokerRow) (new : ConversationState) (what : Held) → TakesAll mid asked new → mid.held ≡ Some what → (asked ≡ []) × (new ≡ mid)
still_all mid asked new what ([], between, first, rest, cut, (none, same), inl (still, nothing, is)) waits =
    (cut ∙ ap₂ (λ (xs ys : List BrokerRow). xs ++ ys) none nothing, is ∙ same)
still_all mid asked new what ([], between, first, rest, cut, (none, same), inr (inl (listens, left, reads, nothing, is))) waits =
    absurd (none_some mid.held what (sym (ap (λ (s : ConversationState). s.held) same) ∙ listens.1) waits)
still_all mid asked new what ([], between, first, rest, cut, (none, same), inr (inr (listens, why, left, reads, called, ends))) waits =
    absurd (none_some mid.held what (sym (ap (λ (s : ConversationState). s.held) same) ∙ listens.1) waits)
still_all mid asked new what (f ∷ frames, between, first, rest, cut, takes, rests) waits =
    absurd (none_some mid.held what takes.0.1 waits)

-- a connection that waits doesn't leave
abbrev pub Calm : ConversationState → Type 0
Calm c = (c.held ≡ None) ⊎ ((what : Held) × (c.held ≡ Some what) × (c.exit ≡ None))

calm_by : (f : RawFrame) (start : ConversationState) (asked : List BrokerRow) (new : ConversationState) → TakesFrame f start asked new → start.held ≡ None → start.exit ≡ None → (o : Option Held) → new.held ≡ o → Calm new
calm_by f start asked new takes free open_yet None is = inl is
calm_by f start asked new takes free open_yet (Some what) is =
    let w = frame_waits f start asked new what takes free open_yet is in
    inr (what, is, ap (λ (s : ConversationState). s.exit) w.is ∙ w.open_yet)

pub frame_calm : (f : RawFrame) (start : ConversationState) (asked : List BrokerRow) (new : ConversationState) → TakesFrame f start asked new → start.held ≡ None → start.exit ≡ None → Calm new
frame_calm f start asked new takes free open_yet = calm_by f start asked new takes free open_yet new.held refl

-- ---- piece after piece

-- one that left hears no piece
pub deaf : (texts : List (List ℕ)) (c : ConversationState) → IsSome c.exit → c.held ≡ None → HearsEach texts c [] c
deaf [] c leaves free = (refl, refl)
deaf (piece ∷ more) c leaves free = (free, [], [], refl, c, inl (leaves, refl, refl), deaf more c leaves free)

pub hears_one : (piece : List ℕ) (old : ConversationState) (asked : List BrokerRow) (new : ConversationState) → old.held ≡ None → Hears piece old asked new → HearsEach (piece ∷ []) old asked new
hears_one piece old asked new free hears = (free, asked, [], sym (append-nil asked), new, hears, (refl, refl))

-- these pieces, and then those
pub each_on : (texts more : List (List ℕ)) (old : ConversationState) (asked : List BrokerRow) (mid : ConversationState) (later : List BrokerRow) (new : ConversationState) → HearsEach texts old asked mid → HearsEach more mid later new → HearsEach (texts ++ more) old (asked ++ later) new
each_on [] more old asked mid later new (none, e) next =
    subst (λ (rows : List BrokerRow). HearsEach more old (rows ++ later) new) (sym none) (subst (λ (s : ConversationState). HearsEach more s later new) e next)
each_on (piece ∷ texts) more old asked mid later new (free, first, rest, cut, between, hears, follow) next =
    (free, first, rest ++ later, ap (λ (rows : List BrokerRow). rows ++ later) cut ∙ append_assoc first rest later, between, hears, each_on texts more between rest mid later new follow next)

-- these pieces come, as far as that all is taken that follows
abbrev pub HearsSome : List (List ℕ) → ConversationState → List BrokerRow → ConversationState → Type 0
HearsSome texts old asked mid = (more : List BrokerRow) (new : ConversationState) → TakesAll mid more new → HearsEach texts old (asked ++ more) new

hears_waits : (piece : List ℕ) (old : ConversationState) (asked : List BrokerRow) (new : ConversationState) (what : Held) → Hears piece old asked new → old.held ≡ None → new.held ≡ Some what → Waits (HearsSome (piece ∷ []) old) asked new
hears_waits piece old asked new what (inl (leaves, none, is)) free waits = absurd (none_some new.held what (ap (λ (s : ConversationState). s.held) is ∙ free) waits)
hears_waits piece old asked new what (inr (inl (open_yet, called, ends))) free waits = absurd (none_some new.held what (ends_free (tells_version None fault.NoMemory) fault.NoMemory None old new ends) waits)
hears_waits piece old asked new what (inr (inr (open_yet, takes))) free waits =
    let start = record old { reader = with_piece old.reader piece } in
    let w = all_waits start asked new what takes free waits in
    record {
      sends = w.sends;
      receipt = w.receipt;
      ready = w.ready;
      before = w.before;
      room = w.room;
      free = w.free;
      open_yet = w.open_yet;
      is = w.is;
      held = w.held;
      unseen = w.unseen;
      cut = w.cut;
      later = λ rows last acts more end all. hears_one piece old ((w.before ++ rows) ++ more) end free (inr (inr (open_yet, all_on start (w.before ++ rows) last more end (w.later rows last acts) all)));
    }

pub each_waits : (texts : List (List ℕ)) (old : ConversationState) (asked : List BrokerRow) (new : ConversationState) (what : Held) → HearsEach texts old asked new → old.held ≡ None → new.held ≡ Some what → Waits (HearsSome texts old) asked new
each_waits [] old asked new what (none, is) free waits = absurd (none_some new.held what (ap (λ (s : ConversationState). s.held) is ∙ free) waits)
each_waits (piece ∷ []) old asked new what (unheld, first, rest, cut, between, hears, (none, is)) free waits =
    let w = hears_waits piece old first between what hears free (sym (ap (λ (s : ConversationState). s.held) is) ∙ waits) in
    record {
      sends = w.sends;
      receipt = w.receipt;
      ready = w.ready;
      before = w.before;
      room = w.room;
      free = w.free;
      open_yet = w.open_yet;
      is = is ∙ w.is;
      held = w.held;
      unseen = w.unseen;
      cut = cut ∙ ap (λ (rows : List BrokerRow). first ++ rows) none ∙ append-nil first ∙ w.cut;
      later = w.later;
    }
each_waits (piece ∷ next ∷ texts) old asked new what (unheld, first, rest, cut, between, hears, follow) free waits =
    let w = each_waits (next ∷ texts) between rest new what follow follow.0 waits in
    record {
      sends = w.sends;
      receipt = w.receipt;
      ready = w.ready;
      before = first ++ w.before;
      room = w.room;
      free = w.free;
      open_yet = w.open_yet;
      is = w.is;
      held = w.held;
      unseen = w.unseen;
      cut = cut ∙ ap (λ (rows : List BrokerRow). first ++ rows) w.cut ∙ sym (append_assoc first w.before w.room);
      later = λ rows last acts more end all. (unheld, first, (w.before ++ rows) ++ more, ap (λ (all : List BrokerRow). all ++ more) (append_assoc first w.before rows) ∙ append_assoc first (w.before ++ rows) more, between, hears, w.later rows last acts more end all);
    }

-- ---- calls but for room

room_row : (b : Bool) (row : BrokerRow) (all rows more : List BrokerRow) → all ≡ rows ++ more → (if b then row ∷ all else all) ≡ (if b then row ∷ rows else rows) ++ more
room_row true row all rows more e = ap (λ (xs : List BrokerRow). row ∷ xs) e
room_row false row all rows more e = e

pub room_on : (rows more : List BrokerRow) → but_room (rows ++ more) ≡ but_room rows ++ but_room more
room_on [] more = refl
room_on (row ∷ rows) more = room_row (not (asks_room row)) row (but_room (rows ++ more)) (but_room rows) (but_room more) (room_on rows more)

-- the calls before stay, and those behind are the same but for room
pub room_behind : (before rows more : List BrokerRow) → but_room rows ≡ but_room more → but_room (before ++ rows) ≡ but_room (before ++ more)
room_behind before rows more same = room_on before rows ∙ ap (λ (all : List BrokerRow). but_room before ++ all) same ∙ sym (room_on before more)

-- calls that only ask for room don't count
pub room_alone : (room rows : List BrokerRow) → but_room room ≡ [] → but_room (room ++ rows) ≡ but_room rows
room_alone room rows none = room_on room rows ∙ ap (λ (all : List BrokerRow). all ++ but_room rows) none
