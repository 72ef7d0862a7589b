use Rattle.std.proofs.Common.{◌≡◌, ◌+◌, drop, Some, Ok, Err, None, List, ℕ, subst, sym, ap, ◌∙◌}
use Rattle.std.proofs.lemmas.List.{take_rest, drop-drop}
use Rattle.stomp_frame.specs.Inner.Parser.{after_eols, frame_at}
use Rattle.stomp_frame.specs.Reader.{Unread, ReadsNext}
use Rattle.stomp_frame.proofs.PartialFrames.{same_skipped, same_frame}
use Rattle.stomp_frame.proofs.Sound.{eols_once}
use Rattle.stomp_frame.proofs.Whole.{answers_frame, answers_none, answers_fault}
use Rattle.stomp_frame.proofs.reading.reader.FrameReader.read_next.Goals as goal

pub frame-requires-clause-front : goal.frame-requires-clause-front
frame-requires-clause-front c =
    let text = c.as_slice-text.result.now in
    let s = c.front-self-inside.ensures.skipped in
    rw (take_rest text c.front-self-inside.result) (ap after_eols s ∙ eols_once (drop c.self.inside.front text) ∙ sym s)

pub returns-in-Ok-clause-answer : goal.returns-in-Ok-clause-answer
returns-in-Ok-clause-answer c = λ ne.
    let r = c.self.inside in
    let items = r.text.items in
    let front = c.front-self-inside.result in
    let old : Unread = record { limits = r.limits; text = drop r.start items; answered = r.answered } in
    let new : Unread = record { limits = r.limits; text = drop (front + c.in-Ok.end) items; answered = r.answered } in
    let read = rw (take_rest c.as_slice-text.result.now front, c.as_slice-text.ensures.value) at c.in-Ok.ensures.read in
    let same = rw c.as_slice-text.ensures.value at c.front-self-inside.ensures.same in
    let whole : frame_at r.limits (drop r.start items) ≡ Ok (c.in-Ok.frame, drop (front + c.in-Ok.end) items) =
    same_frame r.limits (drop r.start items) (drop r.front items) (drop front items) c.self.invariant.skips same ∙ read ∙ ap (λ (t : List ℕ). Ok (c.in-Ok.frame, t)) (drop-drop c.in-Ok.end front items) in
    subst (λ (u : Unread). ReadsNext u (Ok (Some c.in-Ok.frame)) new) c.self.view_is (answers_frame old c.in-Ok.frame (drop (front + c.in-Ok.end) items) whole)

pub returns-in-Err-Open-clause-answer : goal.returns-in-Err-Open-clause-answer
returns-in-Err-Open-clause-answer c = λ ne.
    let r = c.self.inside in
    let items = r.text.items in
    let front = c.front-self-inside.result in
    let old : Unread = record { limits = r.limits; text = drop r.start items; answered = r.answered } in
    let new : Unread = record { limits = r.limits; text = drop front items; answered = r.answered } in
    let read = rw (take_rest c.as_slice-text.result.now front, c.as_slice-text.ensures.value, c.in-Err-Open.field-0-is) at c.in-Err-Open.ensures.read in
    let same = rw c.as_slice-text.ensures.value at c.front-self-inside.ensures.same in
    let s = rw c.as_slice-text.ensures.value at c.front-self-inside.ensures.skipped in
    let whole = same_frame r.limits (drop r.start items) (drop r.front items) (drop front items) c.self.invariant.skips same ∙ read in
    let skipped : after_eols (drop r.start items) ≡ drop front items =
    same_skipped (drop r.start items) (drop r.front items) (drop front items) c.self.invariant.skips same ∙ ap after_eols s ∙ eols_once (drop r.front items) ∙ sym s in
    let here : ReadsNext old (Ok None) new = subst (λ (t : List ℕ). ReadsNext old (Ok None) (record old { text = t })) skipped (answers_none old whole) in
    rw c.let_go.ensures (subst (λ (u : Unread). ReadsNext u (Ok None) new) c.self.view_is here)

pub returns-in-Err-Fault-clause-answer : goal.returns-in-Err-Fault-clause-answer
returns-in-Err-Fault-clause-answer c = λ ne.
    let r = c.self.inside in
    let items = r.text.items in
    let front = c.front-self-inside.result in
    let old : Unread = record { limits = r.limits; text = drop r.start items; answered = r.answered } in
    let new : Unread = record { limits = r.limits; text = drop r.start items; answered = Some c.in-Err-Fault.check } in
    let read = rw (take_rest c.as_slice-text.result.now front, c.as_slice-text.ensures.value, c.in-Err-Fault.field-0-is) at c.in-Err-Fault.ensures.read in
    let same = rw c.as_slice-text.ensures.value at c.front-self-inside.ensures.same in
    let whole = same_frame r.limits (drop r.start items) (drop r.front items) (drop front items) c.self.invariant.skips same ∙ read in
    let here : ReadsNext old (Err c.fault.result) new = rw c.fault.ensures (answers_fault old c.in-Err-Fault.check whole) in
    subst (λ (u : Unread). ReadsNext u (Err c.fault.result) new) c.self.view_is here
