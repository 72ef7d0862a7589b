-- A reader whose text has end-of-lines in front, and more behind, reads what it would read without them.
use Rattle.std.proofs.Common.{◌≡◌, ◌≢◌, ◌⊎◌, inl, inr, ℕ, true, List, [], ◌∷◌, ◌++◌, Option, Some, None, Result, Ok, Err, refl, sym, ap, subst, ◌∙◌, append_assoc, append-nil}
use Rattle.std.specs.Prelude.{MatchOption}
use Rattle.std.specs.Option.{option_map_or}
use Rattle.stomp_frame.specs.declared.fault.Check.{Check}
use Rattle.stomp_frame.specs.declared.fault.FrameFault.{FrameFault}
use Rattle.stomp_frame.specs.declared.limits.Limits.{Limits}
use Rattle.stomp_frame.specs.declared.raw_frame.RawFrame.{RawFrame}
use Rattle.stomp_frame.specs.Checks.{IsAtFault, IsOpen}
use Rattle.stomp_frame.specs.Faults.{fault_of}
use Rattle.stomp_frame.specs.Grammar.{AreEols, BeginsWith, Leaves, Stream}
use Rattle.stomp_frame.specs.Reader.{NextReturns, ReadsNext, Unread, with_piece}
use Rattle.stomp_frame.proofs.Pieces.{eols_before}
use Rattle.stomp_frame.proofs.Whole.{has_reading, keeps_fault, keeps_first_frame, one_answer, open_or_at_fault}
use Rattle.delivery.specs.Core.Outcomes.{is_any}
use Rattle.broker_server.specs.Hearing.{ReadingFails}
use Rattle.broker_server.specs.Waiting.{fed}

-- ---- pieces

-- what they are together
abbrev pub joined : List (List ℕ) → List ℕ
joined [] = []
joined (piece ∷ more) = piece ++ joined more

-- this reader with that text
abbrev pub with_text : Unread → List ℕ → Unread
with_text r text = record r { text = text }

pub fed_one : (r : Unread) (piece : List ℕ) → r.answered ≡ None → with_piece r piece ≡ with_text r (r.text ++ piece)
fed_one r piece none = ap (λ (o : Option Check). option_map_or (λ k. r) o (with_text r (r.text ++ piece))) none

pub fed_all : (pieces : List (List ℕ)) (r : Unread) → r.answered ≡ None → fed pieces r ≡ with_text r (r.text ++ joined pieces)
fed_all [] r none = ap (with_text r) (sym (append-nil r.text))
fed_all (piece ∷ more) r none =
    ap (fed more) (fed_one r piece none) ∙ fed_all more (with_text r (r.text ++ piece)) none ∙ ap (with_text r) (append_assoc r.text piece (joined more))

-- one that returned a fault takes nothing more
pub fed_nothing : (pieces : List (List ℕ)) (r : Unread) (k : Check) → r.answered ≡ Some k → fed pieces r ≡ r
fed_nothing [] r k some = refl
fed_nothing (piece ∷ more) r k some =
    ap (fed more) (ap (λ (o : Option Check). option_map_or (λ j. r) o (with_text r (r.text ++ piece))) some) ∙ fed_nothing more r k some

-- these pieces, and then one more
pub fed_then : (pieces : List (List ℕ)) (piece : List ℕ) (r : Unread) → fed (pieces ++ piece ∷ []) r ≡ with_piece (fed pieces r) piece
fed_then [] piece r = refl
fed_then (first ∷ more) piece r = fed_then more piece (with_piece r first)

-- ---- what a text begins with

abbrev pub Starts : Limits → List ℕ → Type 0
Starts limits text =
    ((f : RawFrame) × (others : List ℕ) × BeginsWith limits text f others)
    ⊎ ((rest : List ℕ) × Leaves limits text rest × IsOpen limits rest)
    ⊎ ((rest : List ℕ) × (k : Check) × Leaves limits text rest × IsAtFault limits rest k)

starts_rest : (limits : Limits) (text rest : List ℕ) → Leaves limits text rest → IsOpen limits rest ⊎ ((k : Check) × IsAtFault limits rest k) → Starts limits text
starts_rest limits text rest leaves (inl opens) = inr (inl (rest, leaves, opens))
starts_rest limits text rest leaves (inr (k, faulty)) = inr (inr (rest, k, leaves, faulty))

starts_by : (limits : Limits) (text : List ℕ) (fs : List RawFrame) (rest : List ℕ) → Stream limits text fs rest → Starts limits text
starts_by limits text [] rest leaves = starts_rest limits text rest leaves (open_or_at_fault limits rest leaves.is_rest)
starts_by limits text (f ∷ fs) rest (others, begins, more) = inl (f, others, begins)

pub starts : (limits : Limits) (text : List ℕ) → Starts limits text
starts limits text = let r = has_reading limits text in starts_by limits text r.0 r.1 r.2

begins_behind : (limits : Limits) (eols text more : List ℕ) (f : RawFrame) (others : List ℕ) → AreEols eols → BeginsWith limits text f others → BeginsWith limits (eols ++ (text ++ more)) f (others ++ more)
begins_behind limits eols text more f others are begins =
    let b = keeps_first_frame limits text more f others begins in record {
      eols = eols ++ b.eols;
      spelling = b.spelling;
      are_eols = eols_before eols b.eols are b.are_eols;
      is_spelling = b.is_spelling;
      parts = ap (λ (t : List ℕ). eols ++ t) b.parts ∙ sym (append_assoc eols b.eols (b.spelling ++ (others ++ more)));
    }

leaves_behind : (limits : Limits) (eols text rest : List ℕ) → AreEols eols → Leaves limits text rest → Leaves limits (eols ++ text) rest
leaves_behind limits eols text rest are leaves = record {
  eols = eols ++ leaves.eols;
  are_eols = eols_before eols leaves.eols are leaves.are_eols;
  is_rest = leaves.is_rest;
  parts = ap (λ (t : List ℕ). eols ++ t) leaves.parts ∙ sym (append_assoc eols leaves.eols rest);
}

-- ---- what a reader returns

pub returns : (r : Unread) (result : Result (Option RawFrame) FrameFault) (left : Unread) → r.answered ≡ None → ReadsNext r result left → NextReturns r result left
returns r result left none reads =
    subst (λ (o : Option Check). MatchOption o (ReadsNext r result left) (λ k. (result ≡ Err (fault_of k)) × (left ≡ r))) (sym none) reads

one_return : (r : Unread) (result : Result (Option RawFrame) FrameFault) (left : Unread) (other : Result (Option RawFrame) FrameFault) (new : Unread) → r.answered ≡ None → ReadsNext r result left → NextReturns r other new → (result ≡ other) × (left ≡ new)
one_return r result left other new none reads next =
    one_answer r result left other new reads (subst (λ (o : Option Check). MatchOption o (ReadsNext r other new) (λ k. (other ≡ Err (fault_of k)) × (new ≡ r))) none next)

-- A text is that of this reader and more behind it, with end-of-lines in front.
pub record IsLonger (r : Unread) (more text : List ℕ) : Type 0 where
  pub eols : List ℕ
  pub are : AreEols eols
  pub cut : text ≡ eols ++ (r.text ++ more)
  pub unanswered : r.answered ≡ None

-- with none in front
pub no_eols : (r : Unread) (more : List ℕ) → r.answered ≡ None → IsLonger r more (r.text ++ more)
no_eols r more none = record { eols = []; are = ([], refl); cut = refl; unanswered = none }

-- where the shorter text begins with a frame, that is what the longer one returns
pub returns_frame : (r : Unread) (more text : List ℕ) (f : RawFrame) (others : List ℕ) (other : Result (Option RawFrame) FrameFault) (left : Unread) → IsLonger r more text → BeginsWith r.limits r.text f others → NextReturns (with_text r text) other left → (Ok (Some f) ≡ other) × (with_text r (others ++ more) ≡ left)
returns_frame r more text f others other left longer begins next =
    let there = subst (λ (t : List ℕ). BeginsWith r.limits t f (others ++ more)) (sym longer.cut) (begins_behind r.limits longer.eols r.text more f others longer.are begins) in
    one_return (with_text r text) (Ok (Some f)) (with_text r (others ++ more)) other left longer.unanswered (others ++ more, there, refl) next

-- where its rest is at a fault, that fault is
pub returns_fault : (r : Unread) (more text rest : List ℕ) (k : Check) (other : Result (Option RawFrame) FrameFault) (left : Unread) → IsLonger r more text → Leaves r.limits r.text rest → IsAtFault r.limits rest k → NextReturns (with_text r text) other left → (Err (fault_of k) ≡ other)
returns_fault r more text rest k other left longer leaves faulty next =
    let kept = keeps_fault r.limits r.text more [] rest k leaves faulty in
    let there = subst (λ (t : List ℕ). Leaves r.limits t (rest ++ more)) (sym longer.cut) (leaves_behind r.limits longer.eols (r.text ++ more) (rest ++ more) longer.are kept.0) in
    (one_return (with_text r text) (Err (fault_of k)) (record (with_text r text) { answered = Some k }) other left longer.unanswered (rest ++ more, k, there, kept.1, refl, refl) next).0

-- where its rest is open, and nothing is behind it, none is
pub returns_none : (r : Unread) (text rest : List ℕ) (other : Result (Option RawFrame) FrameFault) (left : Unread) → IsLonger r [] text → Leaves r.limits r.text rest → IsOpen r.limits rest → NextReturns (with_text r text) other left → (Ok None ≡ other) × (with_text r rest ≡ left)
returns_none r text rest other left longer leaves opens next =
    let is = longer.cut ∙ ap (λ (t : List ℕ). longer.eols ++ t) (append-nil r.text) in
    let there = subst (λ (t : List ℕ). Leaves r.limits t rest) (sym is) (leaves_behind r.limits longer.eols r.text rest longer.are leaves) in
    one_return (with_text r text) (Ok None) (with_text r rest) other left longer.unanswered (rest, there, opens, refl) next

regroup : (a b c d e : List ℕ) → a ++ ((b ++ c) ++ (d ++ e)) ≡ (a ++ b) ++ ((c ++ d) ++ e)
regroup a b c d e =
    ap (λ (t : List ℕ). a ++ t) (append_assoc b c (d ++ e)) ∙ sym (append_assoc a b (c ++ (d ++ e))) ∙ ap (λ (t : List ℕ). (a ++ b) ++ t) (sym (append_assoc c d e))

-- where its rest is open, and a piece is behind it, that rest with the piece is as much shorter
pub goes_to_rest : (r : Unread) (piece more text rest : List ℕ) → IsLonger r (piece ++ more) text → Leaves r.limits r.text rest → IsLonger (with_text r (rest ++ piece)) more text
goes_to_rest r piece more text rest longer leaves = record {
  eols = longer.eols ++ leaves.eols;
  are = eols_before longer.eols leaves.eols longer.are leaves.are_eols;
  cut = longer.cut ∙ ap (λ (t : List ℕ). longer.eols ++ (t ++ (piece ++ more))) leaves.parts ∙ regroup longer.eols leaves.eols rest piece more;
  unanswered = longer.unanswered;
}

-- a reading that fails found no memory, or returned the fault
pub fails_by : (why : FrameFault) (old left : Unread) → ReadingFails why old left → ((why ≡ FrameFault.NoMemory) × (is_any old.text ≡ true)) ⊎ ((why ≢ FrameFault.NoMemory) × NextReturns old (Err why) left)
fails_by FrameFault.NoMemory old left (same, any) = inl (refl, any)
fails_by _ old left reads = inr (λ e. cc, reads)
