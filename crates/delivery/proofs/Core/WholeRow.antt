-- One whole delivery: a connection subscribes to two topics, commits a transaction to both, is delivered an item of the first,
-- and unsubscribes from it; its queue of the second, which takes one item, lags as a second transaction comes.
use Rattle.delivery.proofs.Words.All.{inl, inr, refl, sym, ap, subst, ◌∙◌, arith, cond, ◌≡◌, ℕ, zero, suc, nat_lt, ◌==◌, ◌<◌, ◌≤◌, ◌+◌, ◌++◌, ◌||◌, length, map, take, Bool, true, false, if◌then◌else◌, slice_get, List, [], ◌∷◌, codes, Ok, Some, option_to_list, false≢true, true≢false, Topic, TxnId, Stamp, CommitRow, Transaction, committed_id, stamp_of, agreed, EachOnce, SenderOrder, In, Item, LogRow, names, topics_of, Asked, Lag, RawFrame, some_same, none_some, log_row, item_at, is_due, shared_marks, SilentAfterClose, Answer, commits_of, delivered_items, Event, Outcome, TopicList, CoreStep, BeginsWithFrames, fed_octets, frames_of, frame_in, reader_limits, account_of, released_log, released_frontier, text_out, new_core, QueueReport, Report, report_of, log_in, out_in, Told, told_of, Delivery, IsAsAnswered, DeliversAnswers, Fed, Flying, Proposed}
use Rattle.delivery.specs.declared.outcome.Outcome.TheVariants.{Opened, Done, Subscribed, Unsubscribed, Decided, Turned, Handed}
use Rattle.std.specs.Fmt.{digits}
use Rattle.std.specs.Str.{is_utf8, chars}
use Rattle.std.specs.Char.{encode_utf8}
use Rattle.stomp_escape.specs.Inner.Unescaping.{unescaped_from}
use Rattle.stomp_frame.specs.declared.command.Command.TheVariants as commands
use Rattle.stomp_frame.specs.Inner.Parser.{checked, line_at, after_eols, command_of, field_of, header_of, headers_at, counted_at, uncounted_at, body_at, frame_at}
use Rattle.stomp_frame.proofs.Whole.{begins}
use Rattle.delivery.proofs.Core.ShownReadings.{shown_each}
use Rattle.delivery.proofs.Core.Acts.{Act, topic_list, played, act, reads, frame, connect, subscribe, begin, send_in, send, commit, propose, turn, topic, stamp, id, made, part, x_to, shown_outcomes, log_row as row, A, B}
use Rattle.delivery.proofs.Core.ToldEnds.{no_match, in_ends, not_silent, silent_at}
use Rattle.delivery.proofs.Core.DeliveredAsTold.{EndsAt, delivered_told}

-- ---- the run

abbrev topics : TopicList
topics = topic_list ((A, 0) ∷ (B, 0) ∷ [])

-- an UNSUBSCRIBE of s
abbrev leaves : RawFrame
leaves = frame commands.Unsubscribe ((codes "id", codes "s") ∷ []) []

-- the octets of its frames from the last on
abbrev text_8 : List ℕ
text_8 = codes "SEND\ndestination:B\n\n2\0"

abbrev text_7 : List ℕ
text_7 = codes "UNSUBSCRIBE\nid:s\n\n\0" ++ text_8

abbrev text_6 : List ℕ
text_6 = codes "COMMIT\ntransaction:x\n\n\0" ++ text_7

abbrev text_5 : List ℕ
text_5 = codes "SEND\ndestination:B\ntransaction:x\n\n1\0" ++ text_6

abbrev text_4 : List ℕ
text_4 = codes "SEND\ndestination:A\ntransaction:x\n\n1\0" ++ text_5

abbrev text_3 : List ℕ
text_3 = codes "BEGIN\ntransaction:x\n\n\0" ++ text_4

abbrev text_2 : List ℕ
text_2 = codes "SUBSCRIBE\nid:t\ndestination:B\n\n\0" ++ text_3

abbrev text_1 : List ℕ
text_1 = codes "SUBSCRIBE\nid:s\ndestination:A\n\n\0" ++ text_2

abbrev text : List ℕ
text = codes "CONNECT\naccept-version:1.2\nhost:h\n\n\0" ++ text_1

abbrev acts : List Act
acts = act Event.Open ∷ act (Event.Piece 0 text) ∷ reads 0 connect
    ∷ reads 0 (subscribe (codes "s") A) ∷ reads 0 (subscribe (codes "t") B)
    ∷ reads 0 (begin (codes "x")) ∷ reads 0 (send_in (codes "x") A (codes "1")) ∷ reads 0 (send_in (codes "x") B (codes "1"))
    ∷ reads 0 (commit (codes "x")) ∷ propose 0 0 ∷ propose 0 1 ∷ act (Event.Decide 0) ∷ turn 0 ∷ turn 1
    ∷ act (Event.Take 0) ∷ reads 0 leaves
    ∷ reads 0 (send B (codes "2")) ∷ propose 0 1 ∷ act (Event.Decide 0) ∷ turn 1 ∷ act (Event.Take 1) ∷ []

-- the newest first
abbrev steps : List CoreStep
steps = (played (new_core topics 1) acts).steps

outcomes_are : shown_outcomes (played (new_core topics 1) acts)
    ≡ Opened 0 ∷ Fed ∷ Done ∷ Subscribed 0 (stamp 0 0) ∷ Subscribed 1 (stamp 0 0) ∷ Done ∷ Done ∷ Done ∷ Flying (id 0 1)
    ∷ Proposed 1 ∷ Proposed 1 ∷ Decided (stamp 1 1) false ∷ Turned 1 ∷ Turned 1 ∷ Handed 1 ∷ Unsubscribed 0 (stamp 1 1)
    ∷ Flying (id 0 2) ∷ Proposed 2 ∷ Decided (stamp 2 1) false ∷ Turned 1 ∷ Handed 1 ∷ []
outcomes_are = refl

-- ---- what was read

connect_is : frame_at reader_limits text ≡ Ok (connect, text_1)
unfolding checked line_at after_eols command_of field_of header_of headers_at counted_at uncounted_at body_at frame_at unescaped_from is_utf8 chars encode_utf8
connect_is = refl

one_is : frame_at reader_limits text_1 ≡ Ok (subscribe (codes "s") A, text_2)
unfolding checked line_at after_eols command_of field_of header_of headers_at counted_at uncounted_at body_at frame_at unescaped_from is_utf8 chars encode_utf8
one_is = refl

two_is : frame_at reader_limits text_2 ≡ Ok (subscribe (codes "t") B, text_3)
unfolding checked line_at after_eols command_of field_of header_of headers_at counted_at uncounted_at body_at frame_at unescaped_from is_utf8 chars encode_utf8
two_is = refl

three_is : frame_at reader_limits text_3 ≡ Ok (begin (codes "x"), text_4)
unfolding checked line_at after_eols command_of field_of header_of headers_at counted_at uncounted_at body_at frame_at unescaped_from is_utf8 chars encode_utf8
three_is = refl

four_is : frame_at reader_limits text_4 ≡ Ok (send_in (codes "x") A (codes "1"), text_5)
unfolding checked line_at after_eols command_of field_of header_of headers_at counted_at uncounted_at body_at frame_at unescaped_from is_utf8 chars encode_utf8
four_is = refl

five_is : frame_at reader_limits text_5 ≡ Ok (send_in (codes "x") B (codes "1"), text_6)
unfolding checked line_at after_eols command_of field_of header_of headers_at counted_at uncounted_at body_at frame_at unescaped_from is_utf8 chars encode_utf8
five_is = refl

six_is : frame_at reader_limits text_6 ≡ Ok (commit (codes "x"), text_7)
unfolding checked line_at after_eols command_of field_of header_of headers_at counted_at uncounted_at body_at frame_at unescaped_from is_utf8 chars encode_utf8
six_is = refl

seven_is : frame_at reader_limits text_7 ≡ Ok (leaves, text_8)
unfolding checked line_at after_eols command_of field_of header_of headers_at counted_at uncounted_at body_at frame_at unescaped_from is_utf8 chars encode_utf8
seven_is = refl

eight_is : frame_at reader_limits text_8 ≡ Ok (send B (codes "2"), [])
unfolding checked line_at after_eols command_of field_of header_of headers_at counted_at uncounted_at body_at frame_at unescaped_from is_utf8 chars encode_utf8
eight_is = refl

-- what was fed to a connection and read of it, where it is connection 0, and where it isn't
abbrev piece_if : Bool → Event → Outcome → List ℕ
piece_if b (Event.Piece d octets) Outcome.Fed = if b then octets else []
piece_if b e o = []

abbrev fed_if : Bool → List CoreStep → List ℕ
fed_if b [] = []
fed_if b (step ∷ older) = fed_if b older ++ piece_if b step.event step.outcome

abbrev next_if : Bool → Event → Bool
next_if b (Event.Next d) = b
next_if b e = false

abbrev frames_if : Bool → List CoreStep → List RawFrame
frames_if b [] = []
frames_if b (step ∷ older) = frames_if b older ++ (if next_if b step.event then option_to_list (frame_in step.reading) else [])

first_if : (b : Bool) → BeginsWithFrames reader_limits (fed_if b steps) (frames_if b steps)
first_if true = (
  text_1,
  begins reader_limits text connect text_1 connect_is,
  (
    text_2,
    begins reader_limits text_1 (subscribe (codes "s") A) text_2 one_is,
    (
      text_3,
      begins reader_limits text_2 (subscribe (codes "t") B) text_3 two_is,
      (
        text_4,
        begins reader_limits text_3 (begin (codes "x")) text_4 three_is,
        (
          text_5,
          begins reader_limits text_4 (send_in (codes "x") A (codes "1")) text_5 four_is,
          (
            text_6,
            begins reader_limits text_5 (send_in (codes "x") B (codes "1")) text_6 five_is,
            (
              text_7,
              begins reader_limits text_6 (commit (codes "x")) text_7 six_is,
              (
                text_8,
                begins reader_limits text_7 leaves text_8 seven_is,
                ([], begins reader_limits text_8 (send B (codes "2")) [] eight_is, tt),
              ),
            ),
          ),
        ),
      ),
    ),
  ),
)
first_if false = tt

first : (c : ℕ) → BeginsWithFrames reader_limits (fed_octets c steps) (frames_of c steps)
first c = first_if (0 == c)

-- ---- what it tells

-- the transaction to both topics, and that to B
abbrev both : Transaction
both = record { id = id 0 1; sends = made 0 (x_to A) (codes "1") ∷ made 1 (x_to B) (codes "1") ∷ [] }

abbrev alone : Transaction
alone = record { id = id 0 2; sends = made 1 ((codes "destination", B) ∷ []) (codes "2") ∷ [] }

-- their parts in the queues
abbrev at_a : Item
at_a = record { id = id 0 1; stamp = stamp 1 1; sends = part 0 (x_to A) (codes "1") ∷ [] }

abbrev at_b : Item
at_b = record { id = id 0 1; stamp = stamp 1 1; sends = part 1 (x_to B) (codes "1") ∷ [] }

-- before subscription 0 was delivered its item; before it was closed; before subscription 1 lagged; in all
abbrev opened : List Answer
opened =
    Answer.Turned (topic 1) 1 ∷ Answer.Turned (topic 0) 1 ∷ Answer.Decided (id 0 1) (stamp 1 1)
    ∷ Answer.Ticket (id 0 1) (stamp 1 1) ∷ Answer.Ticket (id 0 1) (stamp 1 0) ∷ Answer.Begun both
    ∷ Answer.Subscribed 1 0 (topic 1) (stamp 0 0) ∷ Answer.Subscribed 0 0 (topic 0) (stamp 0 0) ∷ Answer.Opened 0 ∷ []

abbrev before_close : List Answer
before_close = Answer.Handed 0 at_a ∷ opened

abbrev since_close : List Answer
since_close = Answer.Decided (id 0 2) (stamp 2 1) ∷ Answer.Ticket (id 0 2) (stamp 2 1) ∷ Answer.Begun alone ∷ []

abbrev before_lag : List Answer
before_lag = since_close ++ Answer.Unsubscribed 0 (stamp 1 1) ∷ before_close

abbrev told : List Answer
told = Answer.Handed 1 at_b ∷ Answer.Turned (topic 1) 1 ∷ before_lag

account_is : account_of topics.names steps ≡ told
account_is = refl

-- in fewer words
steps_tell : told_of topics.names steps
    ≡ Told.Handed 1 ∷ Told.Turned (topic 1) 1 ∷ Told.Decided alone (stamp 2 1) ∷ Told.Ticket (id 0 2) (topic 1)
    ∷ Told.Begun alone ∷ Told.Unsubscribed 0 (stamp 1 1) ∷ Told.Handed 0 ∷ Told.Turned (topic 1) 1
    ∷ Told.Turned (topic 0) 1 ∷ Told.Decided both (stamp 1 1) ∷ Told.Ticket (id 0 1) (topic 1)
    ∷ Told.Ticket (id 0 1) (topic 0) ∷ Told.Begun both ∷ Told.Subscribed 1 0 (topic 1) ∷ Told.Subscribed 0 0 (topic 0) ∷ []
steps_tell = refl

-- its two subscriptions
abbrev closed : QueueReport
closed = record { span = record { topic = topic 0; from = stamp 0 0; to = Some (stamp 1 1) }; cause = Some Asked; queued = at_a ∷ []; handed = at_a ∷ [] }

abbrev lagged : QueueReport
lagged = record { span = record { topic = topic 1; from = stamp 0 0; to = Some (stamp 1 1) }; cause = Some Lag; queued = at_b ∷ []; handed = at_b ∷ [] }

abbrev report : Report
report = record {
  commits = row 0 1 1 1 (0 ∷ 1 ∷ []) ∷ row 0 2 2 1 (1 ∷ []) ∷ [];
  logs = (row 0 1 1 1 (0 ∷ 1 ∷ []) ∷ []) ∷ (row 0 1 1 1 (0 ∷ 1 ∷ []) ∷ row 0 2 2 1 (1 ∷ []) ∷ []) ∷ [];
  subscriptions = closed ∷ lagged ∷ [];
  outs = codes "CONNECTED\nversion:1.2\nheart-beat:0,0\n\n\0MESSAGE\nsubscription:s\nmessage-id:1.1.0\ndestination:A\ncontent-length:1\n\n1\0MESSAGE\nsubscription:t\nmessage-id:1.1.1\ndestination:B\ncontent-length:1\n\n1\0" ∷ [];
}

report_is : report_of (played (new_core topics 1) acts) ≡ report
unfolding digits
report_is = refl

-- ---- what is delivered

abbrev first_row : CommitRow
first_row = record { txn = both; stamp = stamp 1 1 }

abbrev second_row : CommitRow
second_row = record { txn = alone; stamp = stamp 2 1 }

commits_are : commits_of told ≡ first_row ∷ second_row ∷ []
commits_are = refl

once : EachOnce committed_id stamp_of (agreed (commits_of told))
once = (
  (λ y k. elim k [
    | inl e ↦ (
      (λ i. (let n : 1 ≡ 2 = ap (λ (z : TxnId). z.seq) (i ∙ sym (ap committed_id e)) in absurd (omega (arith, n)))),
      (λ i. (let n : 1 ≡ 2 = ap (λ (z : Stamp). z.n) (i ∙ sym (ap stamp_of e)) in absurd (omega (arith, n)))),
    )
    | inr none ↦ absurd none
  ]),
  ((λ y k. absurd k), tt),
)

in_order : SenderOrder committed_id (agreed (commits_of told))
in_order = ((λ y k same. elim k [ inl e ↦ subst (λ (z : CommitRow). nat_lt 1 z.txn.id.seq ≡ true) e refl | inr none ↦ absurd none ]), ((λ y k same. absurd k), tt))

-- no other topic has a row
elsewhere : (n : ℕ) → ((0 == suc (suc n)) ≡ false) × ((1 == suc (suc n)) ≡ false)
elsewhere n = (no_match 0 (suc (suc n)) (λ e. absurd (omega (arith, e))), no_match 1 (suc (suc n)) (λ e. absurd (omega (arith, e))))

not_there : (a b : Bool) → a ≡ false → b ≡ false
    → ◌≡◌ {A = List LogRow} [] (take (cond b (cond b (cond a 1 0 + 1) (cond a 1 0) + 1) (cond b (cond a 1 0 + 1) (cond a 1 0)))
    (map log_row (cond (a || (b || false)) (first_row ∷ cond (b || false) (second_row ∷ []) []) (cond (b || false) (second_row ∷ []) []))))
not_there true b e d = absurd (true≢false e)
not_there false true e d = absurd (true≢false d)
not_there false false e d = refl

logs : (n : ℕ) → log_in report (topic n) ≡ released_log (topic n) told
logs zero = refl
logs (suc zero) = refl
logs (suc (suc n)) = not_there (0 == suc (suc n)) (1 == suc (suc n)) (elsewhere n).0 (elsewhere n).1

-- where one row is due at most, a queue of one item is bounded
one_due : (b : Bool) (row : CommitRow) (t : Topic) (n : ℕ) → length (map (item_at t) (cond b (row ∷ []) [])) ≤ n + 1
one_due true row t n = omega arith
one_due false row t n = omega arith

closed_told : IsAsAnswered 1 0 told report closed
closed_told = record {
  told = λ to i. elim (in_ends 0 to told i) [ inl e ↦ ap Some e | inr none ↦ absurd none ];
  unended = λ e. none_some Asked (sym e);
  asked = λ e. (Answer.Handed 1 at_b ∷ Answer.Turned (topic 1) 1 ∷ since_close, before_close, stamp 1 1, refl, refl);
  lag = λ e. (let same : Asked ≡ Lag = some_same Asked Lag e in cc);
  exactly_due = refl;
  handed = refl;
  handed_prefix = ([], refl);
  bounded = λ later before e.
      one_due (is_due closed.span (released_frontier (topic 0) before) first_row) first_row (topic 0) (length (delivered_items 0 before));
}

lagged_told : IsAsAnswered 1 1 told report lagged
lagged_told = record {
  told = λ to i. absurd (in_ends 1 to told i);
  unended = λ e. none_some Lag (sym e);
  asked = λ e. (let same : Lag ≡ Asked = some_same Lag Asked e in cc);
  lag = λ e. (
    stamp 1 1,
    refl,
    record {
      later = Answer.Handed 1 at_b ∷ [];
      by = Answer.Turned (topic 1) 1;
      before = before_lag;
      account_is = refl;
      last = refl;
      reached = refl;
      passed = refl;
      full = refl;
    },
  );
  exactly_due = refl;
  handed = refl;
  handed_prefix = ([], refl);
  bounded = λ later before e.
      one_due (is_due lagged.span (released_frontier (topic 1) before) first_row) first_row (topic 1) (length (delivered_items 1 before));
}

queues_told : (s : ℕ) (q : QueueReport) → slice_get report.subscriptions s ≡ Some q → IsAsAnswered 1 s told report q
queues_told zero q e = subst (λ (z : QueueReport). IsAsAnswered 1 0 told report z) (some_same _ q e) closed_told
queues_told (suc zero) q e = subst (λ (z : QueueReport). IsAsAnswered 1 1 told report z) (some_same _ q e) lagged_told
queues_told (suc (suc s)) q e = none_some q e

abbrev InOrder : QueueReport → QueueReport → Type 0
InOrder p q = shared_marks p.queued q.queued ≡ shared_marks q.queued p.queued

in_one_order : (p q : QueueReport) → In p report.subscriptions → In q report.subscriptions → InOrder p q
in_one_order p q i j = by_first p q i (by_second q j)
  where
    by_second : (q : QueueReport) → In q report.subscriptions → InOrder closed q × InOrder lagged q
    by_second q (inl e) = subst (λ (z : QueueReport). InOrder closed z × InOrder lagged z) e (refl, refl)
    by_second q (inr (inl e)) = subst (λ (z : QueueReport). InOrder closed z × InOrder lagged z) e (refl, refl)
    by_second q (inr (inr none)) = absurd none

    by_first : (p q : QueueReport) → In p report.subscriptions → InOrder closed q × InOrder lagged q → InOrder p q
    by_first p q (inl e) h = subst (λ (z : QueueReport). InOrder z q) e h.0
    by_first p q (inr (inl e)) h = subst (λ (z : QueueReport). InOrder z q) e h.1
    by_first p q (inr (inr none)) h = absurd none

is_logged : (n : ℕ) (r : CommitRow) → In r (commits_of told) → names (topic n) (topics_of r.txn.sends) ≡ true → In (log_row r) (log_in report (topic n))
is_logged zero r (inl e) named = subst (λ (z : CommitRow). In (log_row z) (log_in report (topic 0))) e (inl refl)
is_logged zero r (inr (inl e)) named = absurd (false≢true (ap (λ (z : CommitRow). names (topic 0) (topics_of z.txn.sends)) e ∙ named))
is_logged zero r (inr (inr none)) named = absurd none
is_logged (suc zero) r (inl e) named = subst (λ (z : CommitRow). In (log_row z) (log_in report (topic 1))) e (inl refl)
is_logged (suc zero) r (inr (inl e)) named = subst (λ (z : CommitRow). In (log_row z) (log_in report (topic 1))) e (inr (inl refl))
is_logged (suc zero) r (inr (inr none)) named = absurd none
is_logged (suc (suc n)) r (inl e) named =
    absurd (true≢false (sym (ap (λ (z : CommitRow). names (topic (suc (suc n))) (topics_of z.txn.sends)) e ∙ named)
    ∙ (ap (λ (b : Bool). b || ((1 == suc (suc n)) || false)) (elsewhere n).0 ∙ ap (λ (b : Bool). b || false) (elsewhere n).1)))
is_logged (suc (suc n)) r (inr (inl e)) named =
    absurd (true≢false (sym (ap (λ (z : CommitRow). names (topic (suc (suc n))) (topics_of z.txn.sends)) e ∙ named) ∙ ap (λ (b : Bool). b || false) (elsewhere n).1))
is_logged (suc (suc n)) r (inr (inr none)) named = absurd none

-- no item came after a close
silent : SilentAfterClose told
silent = (
  (λ h. not_silent 1 (Answer.Turned (topic 1) 1 ∷ before_lag) refl (λ c. refl) h),
  ((λ h. not_silent 0 opened refl (λ c. refl) h), tt),
)

by_answers : DeliversAnswers 1 told report
by_answers = record {
  commits = refl;
  each_once = once;
  fifo_order = in_order;
  logs = λ t. logs t.0;
  begins = refl;
  queues = queues_told;
  total_order = in_one_order;
  validity = λ t r settled i named. is_logged t.0 r i named;
  silent_after_close = silent_at told silent;
}

asked_at : (s : ℕ) (q : QueueReport) → slice_get report.subscriptions s ≡ Some q → q.cause ≡ Some Asked → EndsAt q.span.topic s told
asked_at zero q e cause =
    subst (λ (z : QueueReport). EndsAt z.span.topic 0 told) (some_same _ q e)
    (Answer.Handed 1 at_b ∷ Answer.Turned (topic 1) 1 ∷ since_close, before_close, stamp 1 1, refl, refl)
asked_at (suc zero) q e cause =
    let same : Lag ≡ Asked = some_same Lag Asked (ap (λ (z : QueueReport). z.cause) (some_same _ q e) ∙ cause) in cc
asked_at (suc (suc s)) q e cause = none_some q e

outs : (c : ℕ) → c < 1 → out_in report c ≡ text_out topics.names c steps
unfolding digits
outs zero lt = refl
outs (suc c) lt = absurd (omega arith)

is_delivered : Delivery topics 1 steps report
is_delivered = record {
  read = record { shown = shown_each steps refl; first = first };
  delivered = delivered_told 1 told report asked_at silent by_answers;
  written = record {
    output = outs;
    counts = (refl, refl);
  };
}
