-- A whole line, and a whole text.
use Rattle.std.proofs.Common.{◌≡◌, ℕ, ◌⊎◌, Bool, true, false, cond, List, [], ◌∷◌, ◌++◌, length, length-append, Option, Some, None, Result, Ok, Err, inl, inr, refl, sym, ap, ◌∙◌, subst, arith, true≢false}
use Rattle.std.specs.Prelude.{codes, decimal, IfSome, IfOk, IfErr}
use Rattle.std.specs.Str.{bytes_eq}
use Rattle.std.proofs.lemmas.Bool.{cases_Bool}
use Rattle.std.proofs.lemmas.Fmt.{decimal_nonempty}
use Rattle.std.proofs.lemmas.Slice.Eq.{bytes_eq-Decides}
use Rattle.mcast_txn.specs.declared.stamp.Stamp.{Stamp}
use Rattle.trace_audit.specs.Logs.{TopicRow}
use Rattle.trace_audit.specs.Parsing.{cut, lines_of, AddsLines, IsBadLine, IsFirstBad, IsParseFault, GivesTrace}
use Rattle.trace_audit.specs.Rows.{is_misfit, with_row}
use Rattle.trace_audit.specs.Text.{id_text, stamp_text, end_text, topics_text, row_text, IsStampInRange, IsRowInRange, SpellsRow}
use Rattle.trace_audit.specs.Trace.{TraceData, no_trace_data}
use Rattle.trace_audit.specs.Inner.Reading.{◌>>=◌, number_before, topic_before, id_before, spelled_stamp, stamp_before, spelled_end, spelled_topics, log_of_text, span_of_text, queue_of_text, row_named, spelled_row, line_added, read_from, ReadsAs}
use Rattle.trace_audit.specs.Inner.InOrder.{AddsInOrder}
use Rattle.trace_audit.specs.declared.row.SpanRow.{SpanRow}
use Rattle.trace_audit.specs.declared.row.QueueRow.{QueueRow}
use Rattle.trace_audit.specs.declared.row.TraceRow.{TraceRow}
use Rattle.trace_audit.specs.declared.row.TraceRow.TheVariants as row
use Rattle.trace_audit.specs.declared.text.parse_fault.ParseFault.{ParseFault}
use Rattle.trace_audit.specs.declared.text.parse_fault.ParseFault.TheVariants as parse
use Rattle.trace_audit.proofs.Cuts.{cut_splits, some_is}
use Rattle.trace_audit.proofs.InOrder.{adds_in_order, adds_in_order_again, first_refused, first_refused_again}
use Rattle.trace_audit.proofs.Spelling.{bound, passed, unstopped, number_field, number_field_again, topic_field, topic_field_again, id_field, id_field_again, stamp_spelled, stamp_again, stamp_field, stamp_field_again, topics_spelled, topics_again}

-- ---- the end of a span

chosen : {A : Type 0} (b : Bool) (x y : Option A) (z : A) → cond b x y ≡ Some z → ((b ≡ true) × (x ≡ Some z)) ⊎ ((b ≡ false) × (y ≡ Some z))
chosen true x y z e = inl (refl, e)
chosen false x y z e = inr (refl, e)

same_text : (a b : List ℕ) → bytes_eq a b ≡ true → a ≡ b
same_text a b e = (bytes_eq-Decides a b).0 e

other_text : (a b : List ℕ) → (a ≡ b → Prim.⊥) → bytes_eq a b ≡ false
other_text a b ne = elim (cases_Bool (bytes_eq a b)) [
  | inl same ↦ absurd (ne (same_text a b same))
  | inr other ↦ other
]

end_spelled : (text : List ℕ) (to : Option Stamp) → spelled_end text ≡ Some to → (text ≡ end_text to) × IfSome to IsStampInRange
unfolding spelled_end
end_spelled text to e = elim (chosen (bytes_eq text (codes "-")) (Some None) (spelled_stamp text >>= λ s. Some (Some s)) to e) [
  | inl (same, is) ↦ subst (λ (z : Option Stamp). (text ≡ end_text z) × IfSome z IsStampInRange) (some_is None to is) (same_text text (codes "-") same, tt)
  | inr (other, is) ↦
      let s = bound (spelled_stamp text) (λ s. Some (Some s)) to is in
      subst (λ (z : Option Stamp). (text ≡ end_text z) × IfSome z IsStampInRange) (some_is (Some s.0) to s.2) (stamp_spelled text s.0 s.1)
]

not_open : (s : Stamp) → IsStampInRange s → stamp_text s ≡ codes "-" → Prim.⊥
not_open s i e =
    let some = decimal_nonempty s.n i.0 in
    let two = sym (ap length e) ∙ length-append (decimal s.n) (46 ∷ decimal s.topic.0) in
    omega arith

end_again : (to : Option Stamp) → IfSome to IsStampInRange → spelled_end (end_text to) ≡ Some to
unfolding spelled_end
end_again None i = refl
end_again (Some s) i = rw (other_text (stamp_text s) (codes "-") (not_open s i), stamp_again s i) refl

-- ---- rows

abbrev log_fields : TopicRow → List ℕ
log_fields l = decimal l.topic.0 ++ 32 ∷ (id_text l.row.id ++ 32 ∷ (stamp_text l.row.stamp ++ 32 ∷ topics_text l.row.topics))

abbrev span_fields : SpanRow → List ℕ
span_fields s = decimal s.sub ++ 32 ∷ (decimal s.topic.0 ++ 32 ∷ (stamp_text s.from ++ 32 ∷ end_text s.to))

abbrev queue_fields : QueueRow → List ℕ
queue_fields q = decimal q.sub ++ 32 ∷ (id_text q.id ++ 32 ∷ stamp_text q.stamp)

-- the text after a word spells a row of this kind
abbrev Fields : List ℕ → List ℕ → TraceRow → Type 0
Fields word text r = (word ++ 32 ∷ text ≡ row_text r) × IsRowInRange r

log_spelled : (text : List ℕ) (r : TraceRow) → log_of_text text ≡ Some r → Fields (codes "log") text r
unfolding log_of_text
log_spelled text r e =
    let t = bound (topic_before text) (λ t. id_before t.1 >>= λ i. stamp_before i.1 >>= λ s. spelled_topics s.1 >>= λ ts. Some (row.Log (record { topic = t.0; row = record { id = i.0; topics = ts; stamp = s.0 } }))) r e in
    let i = bound (id_before t.0.1) (λ i. stamp_before i.1 >>= λ s. spelled_topics s.1 >>= λ ts. Some (row.Log (record { topic = t.0.0; row = record { id = i.0; topics = ts; stamp = s.0 } }))) r t.2 in
    let s = bound (stamp_before i.0.1) (λ s. spelled_topics s.1 >>= λ ts. Some (row.Log (record { topic = t.0.0; row = record { id = i.0.0; topics = ts; stamp = s.0 } }))) r i.2 in
    let ts = bound (spelled_topics s.0.1) (λ ts. Some (row.Log (record { topic = t.0.0; row = record { id = i.0.0; topics = ts; stamp = s.0.0 } }))) r s.2 in
    let a = topic_field text t.0 t.1 in
    let b = id_field t.0.1 i.0 i.1 in
    let c = stamp_field i.0.1 s.0 s.1 in
    let d = topics_spelled s.0.1 ts.0 ts.1 in
    let whole : text ≡ decimal t.0.0.0 ++ 32 ∷ (id_text i.0.0 ++ 32 ∷ (stamp_text s.0.0 ++ 32 ∷ topics_text ts.0)) =
    a.0 ∙ ap (λ (z : List ℕ). decimal t.0.0.0 ++ 32 ∷ z) (b.0 ∙ ap (λ (z : List ℕ). id_text i.0.0 ++ 32 ∷ z) (c.0 ∙ ap (λ (z : List ℕ). stamp_text s.0.0 ++ 32 ∷ z) d.0)) in
    subst (Fields (codes "log") text) (some_is _ r ts.2) (ap (λ (z : List ℕ). codes "log" ++ 32 ∷ z) whole, (a.1, (b.1, c.1, d.1, d.2)))

log_again : (l : TopicRow) → IsRowInRange (row.Log l) → log_of_text (log_fields l) ≡ Some (row.Log l)
unfolding log_of_text
log_again l i =
    let n = i.1 in
    rw (
      topic_field_again l.topic (id_text l.row.id ++ 32 ∷ (stamp_text l.row.stamp ++ 32 ∷ topics_text l.row.topics)) i.0,
      id_field_again l.row.id (stamp_text l.row.stamp ++ 32 ∷ topics_text l.row.topics) n.0,
      stamp_field_again l.row.stamp (topics_text l.row.topics) n.1,
      topics_again l.row.topics n.2 n.3,
    ) refl

span_spelled : (text : List ℕ) (r : TraceRow) → span_of_text text ≡ Some r → Fields (codes "span") text r
unfolding span_of_text
span_spelled text r e =
    let k = bound (number_before 32 text) (λ k. topic_before k.1 >>= λ t. stamp_before t.1 >>= λ s. spelled_end s.1 >>= λ to. Some (row.Span (record { sub = k.0; topic = t.0; from = s.0; to = to }))) r e in
    let t = bound (topic_before k.0.1) (λ t. stamp_before t.1 >>= λ s. spelled_end s.1 >>= λ to. Some (row.Span (record { sub = k.0.0; topic = t.0; from = s.0; to = to }))) r k.2 in
    let s = bound (stamp_before t.0.1) (λ s. spelled_end s.1 >>= λ to. Some (row.Span (record { sub = k.0.0; topic = t.0.0; from = s.0; to = to }))) r t.2 in
    let to = bound (spelled_end s.0.1) (λ to. Some (row.Span (record { sub = k.0.0; topic = t.0.0; from = s.0.0; to = to }))) r s.2 in
    let a = number_field 32 text k.0 k.1 in
    let b = topic_field k.0.1 t.0 t.1 in
    let c = stamp_field t.0.1 s.0 s.1 in
    let d = end_spelled s.0.1 to.0 to.1 in
    let whole : text ≡ decimal k.0.0 ++ 32 ∷ (decimal t.0.0.0 ++ 32 ∷ (stamp_text s.0.0 ++ 32 ∷ end_text to.0)) =
    a.0 ∙ ap (λ (z : List ℕ). decimal k.0.0 ++ 32 ∷ z) (b.0 ∙ ap (λ (z : List ℕ). decimal t.0.0.0 ++ 32 ∷ z) (c.0 ∙ ap (λ (z : List ℕ). stamp_text s.0.0 ++ 32 ∷ z) d.0)) in
    subst (Fields (codes "span") text) (some_is _ r to.2) (ap (λ (z : List ℕ). codes "span" ++ 32 ∷ z) whole, (a.1, b.1, c.1, d.1))

span_again : (s : SpanRow) → IsRowInRange (row.Span s) → span_of_text (span_fields s) ≡ Some (row.Span s)
unfolding span_of_text
span_again s i =
    rw (
      number_field_again 32 s.sub (decimal s.topic.0 ++ 32 ∷ (stamp_text s.from ++ 32 ∷ end_text s.to)) (omega arith) i.0,
      topic_field_again s.topic (stamp_text s.from ++ 32 ∷ end_text s.to) i.1,
      stamp_field_again s.from (end_text s.to) i.2,
      end_again s.to i.3,
    ) refl

queue_spelled : (text : List ℕ) (r : TraceRow) → queue_of_text text ≡ Some r → Fields (codes "queue") text r
unfolding queue_of_text
queue_spelled text r e =
    let k = bound (number_before 32 text) (λ k. id_before k.1 >>= λ i. spelled_stamp i.1 >>= λ s. Some (row.Queue (record { sub = k.0; id = i.0; stamp = s }))) r e in
    let i = bound (id_before k.0.1) (λ i. spelled_stamp i.1 >>= λ s. Some (row.Queue (record { sub = k.0.0; id = i.0; stamp = s }))) r k.2 in
    let s = bound (spelled_stamp i.0.1) (λ s. Some (row.Queue (record { sub = k.0.0; id = i.0.0; stamp = s }))) r i.2 in
    let a = number_field 32 text k.0 k.1 in
    let b = id_field k.0.1 i.0 i.1 in
    let c = stamp_spelled i.0.1 s.0 s.1 in
    let whole : text ≡ decimal k.0.0 ++ 32 ∷ (id_text i.0.0 ++ 32 ∷ stamp_text s.0) =
    a.0 ∙ ap (λ (z : List ℕ). decimal k.0.0 ++ 32 ∷ z) (b.0 ∙ ap (λ (z : List ℕ). id_text i.0.0 ++ 32 ∷ z) c.0) in
    subst (Fields (codes "queue") text) (some_is _ r s.2) (ap (λ (z : List ℕ). codes "queue" ++ 32 ∷ z) whole, (a.1, b.1, c.1))

queue_again : (q : QueueRow) → IsRowInRange (row.Queue q) → queue_of_text (queue_fields q) ≡ Some (row.Queue q)
unfolding queue_of_text
queue_again q i =
    rw (
      number_field_again 32 q.sub (id_text q.id ++ 32 ∷ stamp_text q.stamp) (omega arith) i.0,
      id_field_again q.id (stamp_text q.stamp) i.1,
      stamp_again q.stamp i.2,
    ) refl

spelled_after : (word text : List ℕ) (r : TraceRow) → row_named word text ≡ Some r → Fields word text r
spelled_after word text r e = elim (chosen (bytes_eq word (codes "log")) (log_of_text text) _ r e) [
  | inl (same, is) ↦ subst (λ (z : List ℕ). Fields z text r) (sym (same_text word (codes "log") same)) (log_spelled text r is)
  | inr (other, f) ↦ elim (chosen (bytes_eq word (codes "span")) (span_of_text text) _ r f) [
    | inl (same, is) ↦ subst (λ (z : List ℕ). Fields z text r) (sym (same_text word (codes "span") same)) (span_spelled text r is)
    | inr (other, g) ↦
        let p = passed (bytes_eq word (codes "queue")) (queue_of_text text) r g in
        subst (λ (z : List ℕ). Fields z text r) (sym (same_text word (codes "queue") p.0)) (queue_spelled text r p.1)
  ]
]

-- what is read is spelled
pub row_spelled : (line : List ℕ) (r : TraceRow) → spelled_row line ≡ Some r → SpellsRow line r
unfolding spelled_row
row_spelled line r e =
    let c = bound (cut 32 line) (λ p. row_named p.0 p.1) r e in
    let f = spelled_after c.0.0 c.0.1 r c.2 in
    ((cut_splits 32 line c.0 c.1).0 ∙ f.0, f.1)

-- what is spelled is read
row_again : (r : TraceRow) → IsRowInRange r → spelled_row (row_text r) ≡ Some r
unfolding spelled_row
row_again (row.Log l) i = log_again l i
row_again (row.Span s) i = span_again s i
row_again (row.Queue q) i = queue_again q i

-- a line that spells a row is read as that row
pub row_read : (line : List ℕ) (r : TraceRow) → SpellsRow line r → spelled_row line ≡ Some r
row_read line r s = ap spelled_row s.0 ∙ row_again r s.1

-- ---- one line more

-- a line that is added spells a row that fits, and the new trace is the old one with this row
pub line_adds : (line : List ℕ) (old new : TraceData) → line_added line old ≡ Some new
    → (r : TraceRow) × SpellsRow line r × (is_misfit r old ≡ false) × (with_row r old ≡ new)
unfolding line_added
line_adds line old new e =
    let b = bound (spelled_row line) (λ r. cond (is_misfit r old) None (Some (with_row r old))) new e in
    let p = unstopped (is_misfit b.0 old) (Some (with_row b.0 old)) new b.2 in
    (b.0, row_spelled line b.0 b.1, p.0, some_is (with_row b.0 old) new p.1)

-- a line that spells a row that fits is added: the new trace is the old one with this row
pub line_again : (line : List ℕ) (r : TraceRow) (old : TraceData) → SpellsRow line r → is_misfit r old ≡ false → line_added line old ≡ Some (with_row r old)
unfolding line_added
line_again line r old s fit = rw (row_read line r s, fit) refl

-- a line that isn't added spells no row that fits
pub line_bad : (line : List ℕ) (old : TraceData) → line_added line old ≡ None → IsBadLine line old
unfolding line_added
line_bad line old e = λ r s. elim (cases_Bool (is_misfit r old)) [
  | inl misfit ↦ misfit
  | inr fit ↦ absurd (let k = sym e ∙ line_again line r old s fit in cc)
]

-- a line that spells no row that fits isn't added
pub bad_again : (line : List ℕ) (old : TraceData) → IsBadLine line old → line_added line old ≡ None
bad_again line old bad = go (line_added line old) refl
  where
    go : (o : Option TraceData) → line_added line old ≡ o → line_added line old ≡ None
    go None e = e
    go (Some new) e = let a = line_adds line old new e in absurd (let k = sym (bad a.0 a.1) ∙ a.2 in true≢false k)

-- ---- whole texts

-- lines that are added in turn spell rows that fit, and the rows lead to the same trace
lines_add : (lines : List (List ℕ)) (old new : TraceData) → AddsInOrder line_added lines old new → AddsLines lines old new
lines_add [] old new e = e
lines_add (line ∷ lines) old new a =
    let r = line_adds line old a.0 a.1 in
    (r.0, r.1, r.2, subst (λ (z : TraceData). AddsLines lines z new) (sym r.3) (lines_add lines a.0 new a.2))

-- lines that spell rows that fit are added in turn
lines_again : (lines : List (List ℕ)) (old new : TraceData) → AddsLines lines old new → AddsInOrder line_added lines old new
lines_again [] old new e = e
lines_again (line ∷ lines) old new a = (with_row a.0 old, line_again line a.0 old a.1 a.2, lines_again lines (with_row a.0 old) new a.3)

-- where reading gives a trace, each line adds its row, and the rows lead to this trace
pub reads_adds : (n : ℕ) (lines : List (List ℕ)) (old new : TraceData) → read_from n lines old ≡ Ok new → AddsLines lines old new
reads_adds n lines old new e = lines_add lines old new (adds_in_order line_added n lines old new e)

-- where each line adds its row, reading gives the trace that the rows lead to
pub adds_reads : (n : ℕ) (lines : List (List ℕ)) (old new : TraceData) → AddsLines lines old new → read_from n lines old ≡ Ok new
adds_reads n lines old new a = adds_in_order_again line_added n lines old new (lines_again lines old new a)

-- where reading fails with a number, it is that of the first line that can't be added
pub first_bad : (lines : List (List ℕ)) (m : ℕ) → read_from 1 lines no_trace_data ≡ Err m → IsFirstBad lines m
first_bad lines m e =
    let b = first_refused line_added 1 lines no_trace_data m e in
    record {
      front = b.front;
      line = b.line;
      back = b.back;
      trace = b.state;
      cut = b.cut;
      number = b.number;
      added = lines_add b.front no_trace_data b.state b.added;
      bad = line_bad b.line b.state b.refused;
    }

-- where a line is the first that can't be added, reading fails with its number
pub bad_first : (lines : List (List ℕ)) (m : ℕ) → IsFirstBad lines m → read_from 1 lines no_trace_data ≡ Err m
bad_first lines m b =
    first_refused_again line_added 1 lines no_trace_data m (record {
      front = b.front;
      line = b.line;
      back = b.back;
      state = b.trace;
      cut = b.cut;
      number = b.number;
      added = lines_again b.front no_trace_data b.trace b.added;
      refused = bad_again b.line b.trace b.bad;
    })

-- ---- what the reader returned

-- a trace that was returned is the one that the rows of the lines lead to
pub is_found : (lines : List (List ℕ)) (r : Result TraceData ParseFault) → ReadsAs r (read_from 1 lines no_trace_data) → IfOk r (λ trace. AddsLines lines no_trace_data trace)
is_found lines (Ok trace) h = reads_adds 1 lines no_trace_data trace (sym h)
is_found lines (Err e) h = tt

-- a fault that was returned is that of the text: the first line that can't be added, or no memory
pub is_fault : (text : List ℕ) (r : Result TraceData ParseFault) → ReadsAs r (read_from 1 (lines_of text) no_trace_data) → IfErr r (λ fault. IsParseFault text fault)
is_fault text (Ok trace) h = tt
is_fault text (Err (parse.BadRow n)) h = first_bad (lines_of text) n (sym h)
is_fault text (Err parse.NoMemory) h = tt

-- where the rows of the lines lead to a trace, it was returned, unless memory ran out
pub is_only : (lines : List (List ℕ)) (r : Result TraceData ParseFault) → ReadsAs r (read_from 1 lines no_trace_data) → (trace : TraceData) → AddsLines lines no_trace_data trace → GivesTrace r (Ok trace)
is_only lines (Ok t) h trace a = let f = h ∙ adds_reads 1 lines no_trace_data trace a in let g : trace ≡ t = cc in ap Ok g
is_only lines (Err (parse.BadRow n)) h trace a = absurd (let k = h ∙ adds_reads 1 lines no_trace_data trace a in cc)
is_only lines (Err parse.NoMemory) h trace a = tt

-- where line n is the first that can't be added, its fault was returned, unless memory ran out
pub is_only_fault : (lines : List (List ℕ)) (r : Result TraceData ParseFault) → ReadsAs r (read_from 1 lines no_trace_data) → (n : ℕ) → IsFirstBad lines n → GivesTrace r (Err (parse.BadRow n))
is_only_fault lines (Ok t) h n b = absurd (let k = h ∙ bad_first lines n b in cc)
is_only_fault lines (Err (parse.BadRow m)) h n b = let k : m ≡ n = (let f = h ∙ bad_first lines n b in cc) in ap (λ (z : ℕ). Err (parse.BadRow z)) (sym k)
is_only_fault lines (Err parse.NoMemory) h n b = tt
