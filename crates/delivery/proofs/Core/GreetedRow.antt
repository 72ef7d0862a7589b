-- One run with all that is asked of it, so that neither a run of the core nor its delivery is asked in vain: a connection is
-- opened, fed a CONNECT, and greeted.
use Rattle.delivery.proofs.Words.All.{inl, refl, arith, ◌≡◌, ℕ, zero, suc, ◌==◌, ◌<◌, ◌++◌, Bool, true, false, if◌then◌else◌, List, [], ◌∷◌, codes, Ok, CommitRow, In, unread_of, none_some, log_row, Answer, Event, Outcome, TopicList, CoreStep, Reading, reader_limits, fed_octets, frames_of, BeginsWithFrames, released_log, account_of, text_out, core_of, IsCoreRun, Report, report_of, log_in, out_in, Delivery, DeliversAnswers}
use Rattle.std.specs.Str.{is_utf8, chars}
use Rattle.std.specs.Char.{encode_utf8}
use Rattle.stomp_escape.specs.Inner.Unescaping.{unescaped_from}
use Rattle.stomp_frame.specs.Inner.Parser.{checked, line_at, after_eols, command_of, field_of, header_of, headers_at, counted_at, uncounted_at, body_at, frame_at}
use Rattle.stomp_frame.proofs.Whole.{begins}
use Rattle.delivery.proofs.Core.ShownReadings.{shown_each}
use Rattle.delivery.proofs.Core.Acts.{topic, topic_list, connect, A}
use Rattle.delivery.proofs.Core.ToldEnds.{silent_at}
use Rattle.delivery.proofs.Core.DeliveredAsTold.{delivered_told}

abbrev text : List ℕ
text = codes "CONNECT\naccept-version:1.2\nhost:h\n\n\0"

abbrev topics : TopicList
topics = topic_list ((A, 0) ∷ [])

-- the newest first
abbrev steps : List CoreStep
steps =
    record { event = Event.Next 0; reading = Reading.Finds connect (unread_of reader_limits); outcome = Outcome.Done }
    ∷ record { event = Event.Piece 0 text; reading = Reading.Nothing; outcome = Outcome.Fed }
    ∷ record { event = Event.Open; reading = Reading.Nothing; outcome = Outcome.Opened 0 } ∷ []

text_is : frame_at reader_limits text ≡ Ok (connect, [])
unfolding checked line_at after_eols command_of field_of header_of headers_at counted_at uncounted_at body_at frame_at unescaped_from is_utf8 chars encode_utf8
text_is = refl

-- ---- a run of the core

is_run : IsCoreRun topics 64 steps
is_run = (
  record { reading = ([], begins reader_limits text connect [] text_is, refl); outcome = inl refl },
  (record { reading = refl; outcome = inl refl }, (record { reading = refl; outcome = inl refl }, tt)),
)

-- ---- its delivery

abbrev report : Report
report = record {
  commits = [];
  logs = [] ∷ [];
  subscriptions = [];
  outs = codes "CONNECTED\nversion:1.2\nheart-beat:0,0\n\n\0" ∷ [];
}

reported_rows : (report_of (core_of topics 64 steps) ≡ report)
    × (account_of topics.names steps ≡ Answer.Opened 0 ∷ [])
reported_rows = (refl, refl)

first_if : (b : Bool) → BeginsWithFrames reader_limits ((if b then text else []) ++ []) (if b then connect ∷ [] else [])
first_if true = ([], begins reader_limits text connect [] text_is, tt)
first_if false = tt

first : (c : ℕ) → BeginsWithFrames reader_limits (fed_octets c steps) (frames_of c steps)
first c = first_if (0 == c)

logs : (n : ℕ) → log_in report (topic n) ≡ released_log (topic n) (Answer.Opened 0 ∷ [])
logs zero = refl
logs (suc n) = refl

outs : (c : ℕ) → c < 1 → out_in report c ≡ text_out topics.names c steps
outs zero lt = refl
outs (suc c) lt = absurd (omega arith)

none_logged : (n : ℕ) (row : CommitRow) → In row [] → In (log_row row) (log_in report (topic n))
none_logged n row i = absurd i

by_answers : DeliversAnswers 64 (Answer.Opened 0 ∷ []) report
by_answers = record {
  commits = refl;
  each_once = tt;
  fifo_order = tt;
  logs = λ t. logs t.0;
  begins = refl;
  queues = λ s q e. none_some q e;
  total_order = λ p q i j. absurd i;
  validity = λ t row settled i named. none_logged t.0 row i;
  silent_after_close = silent_at (Answer.Opened 0 ∷ []) tt;
}

is_delivered : Delivery topics 64 steps report
is_delivered = record {
  read = record { shown = shown_each steps refl; first = first };
  delivered = delivered_told 64 (Answer.Opened 0 ∷ []) report (λ s q e cause. none_some q e) tt by_answers;
  written = record {
    output = outs;
    counts = (refl, refl);
  };
}
