-- Reading on from where a frame was left: each step keeps what a partial frame says, and what stops a step stops the frame.
use Rattle.std.proofs.Common.{◌≡◌, inl, inr, ℕ, ◌+◌, ◌-◌, ◌<◌, ◌≤◌, Bool, true, false, cond, eqb, ltb, List, Option, Some, None, [], ◌∷◌, ◌++◌, length, drop, get_or, Result, Ok, Err, refl, sym, ap, subst, ◌∙◌, append_assoc, append-nil, arith}
use Rattle.std.specs.List.{flat_map}
use Rattle.std.specs.Option.{option_map_or}
use Rattle.std.proofs.lemmas.List.{length-append, length-drop, drop-drop, drop-append-le, get_or-drop, get_or_append_left}
use Rattle.stomp_frame.specs.declared.command.Command.{Command}
use Rattle.stomp_frame.specs.declared.limits.Limits.{Limits}
use Rattle.stomp_frame.specs.declared.raw_frame.RawFrame.{RawFrame}
use Rattle.stomp_frame.specs.declared.fault.Check.TheVariants.{BadLength, BodyTooLong, TooManyHeaders}
use Rattle.stomp_frame.specs.declared.fault.Stop.{Stop}
use Rattle.stomp_frame.specs.declared.fault.Stop.TheVariants as stops
use Rattle.stomp_frame.specs.declared.reading.partial_frame.PartialFrame.{PartialFrame}
use Rattle.stomp_frame.specs.declared.reading.awaited.Awaited.{Awaited}
use Rattle.stomp_frame.specs.declared.reading.awaited.Awaited.TheVariants as awaits
use Rattle.stomp_frame.specs.Grammar.{eol}
use Rattle.stomp_frame.specs.Headers.{Header}
use Rattle.stomp_frame.specs.Commands.{has_escapes}
use Rattle.stomp_frame.specs.ContentLength.{length_of, content_length}
use Rattle.stomp_frame.specs.Inner.Parser.{Halt, Fault, ◌>>=◌, Stops, cut, line_at, after_eols, command_of, header_of, headers_at, counted_at, uncounted_at, body_at, frame_at}
use Rattle.stomp_frame.specs.Inner.PartialFrames.{IsUnfound, HasBegun, IsReadUpTo, IsPartial, IsReaderState, body_length, body_of, frame_of_body, frame_resumed, frame_after_headers, frame_after_front}
use Rattle.stomp_frame.proofs.Loop.{with_front, line_fails, header_fails, ends, too_many, goes_on}
use Rattle.stomp_frame.proofs.Sound.{eols_take, eols_again, same_front}
use Rattle.stomp_frame.proofs.Steady.{Extends, line_open, line_steady, eols_cases, eols_steady}

-- ---- what was searched

none_yet : (b : ℕ) (text : List ℕ) → IsUnfound b text 0
none_yet b text j lt e = absurd (omega arith)

parsed_within : (text : List ℕ) (parsed next : ℕ) → next ≤ length (drop parsed text) → parsed ≤ length text → parsed + next + 0 ≤ length text
parsed_within text parsed next le w = omega (arith, length-drop parsed text)

-- ---- now

-- with nothing more after the text
pub now : (limits : Limits) (text : List ℕ) (awaited : Awaited) (headers : List Header) (parsed searched : ℕ) → IsReadUpTo limits text awaited headers parsed searched → frame_at limits text ≡ frame_resumed limits awaited headers (drop parsed text)
now limits text awaited headers parsed searched h =
    ap (frame_at limits) (sym (append-nil text)) ∙ h.resumes [] ∙ ap (frame_resumed limits awaited headers) (append-nil (drop parsed text))

-- what stops a step stops what goes on from it
pub stops_bind : {A B : Type 0} (e : Stop) (r : Result A Halt) (f : A → Result B Halt) → Stops e r → Stops e (r >>= f)
stops_bind stops.Memory r f s = tt
stops_bind stops.Open r f s = rw s refl
stops_bind (stops.Fault k) r f s = rw s refl

begun_more : (text piece : List ℕ) (awaited : Awaited) (headers : List Header) (parsed : ℕ) → HasBegun text awaited headers parsed → HasBegun (text ++ piece) awaited headers parsed
begun_more text piece awaits.CommandLine headers parsed f = f
begun_more text piece (awaits.HeaderLine c) headers parsed f = λ more. ap after_eols (append_assoc text piece more) ∙ f (piece ++ more) ∙ sym (append_assoc text piece more)
begun_more text piece (awaits.Body c n) headers parsed f = λ more. ap after_eols (append_assoc text piece more) ∙ f (piece ++ more) ∙ sym (append_assoc text piece more)

-- more comes after the text
pub read_up_to_more : (limits : Limits) (text piece : List ℕ) (awaited : Awaited) (headers : List Header) (parsed searched : ℕ) → IsReadUpTo limits text awaited headers parsed searched → IsReadUpTo limits (text ++ piece) awaited headers parsed searched
read_up_to_more limits text piece awaited headers parsed searched h =
    let near : parsed ≤ length text = omega (arith, h.within) in
    let cut : drop parsed (text ++ piece) ≡ drop parsed text ++ piece = drop-append-le parsed text piece near in
    record {
      within = omega (arith, h.within, length-append text piece);
      few = h.few;
      begun = begun_more text piece awaited headers parsed h.begun;
      resumes = λ more. ap (frame_at limits) (append_assoc text piece more) ∙ h.resumes (piece ++ more) ∙ ap (frame_resumed limits awaited headers) (sym (append_assoc (drop parsed text) piece more) ∙ ap (λ (t : List ℕ). t ++ more) (sym cut));
      unfound = λ j lt e. h.unfound j lt (sym (still text piece parsed j (omega (arith, h.within))) ∙ e);
    }
  where
    open_at : (text piece : List ℕ) (i : ℕ) → i < length text → get_or (text ++ piece) i 0 ≡ get_or text i 0
    open_at text piece i lt = get_or_append_left text piece 0 i lt

    still : (text piece : List ℕ) (parsed j : ℕ) → parsed + j < length text → get_or (drop parsed (text ++ piece)) j 0 ≡ get_or (drop parsed text) j 0
    still text piece parsed j lt = get_or-drop parsed (text ++ piece) j 0 ∙ open_at text piece (parsed + j) lt ∙ sym (get_or-drop parsed text j 0)

-- nothing is parsed
pub read_up_to_none : (limits : Limits) (text : List ℕ) → IsReadUpTo limits text awaits.CommandLine [] 0 0
read_up_to_none limits text = record { within = omega arith; few = omega arith; begun = (refl, refl); resumes = λ more. refl; unfound = none_yet 10 text }

-- ---- the end-of-lines before a frame

-- skipping goes on from where it stopped
pub eols_more : (rest more : List ℕ) → after_eols (rest ++ more) ≡ after_eols (after_eols rest ++ more)
eols_more rest more =
    let t = eols_take rest in
    let front = flat_map eol t.0 in
    ap (λ (r : List ℕ). after_eols (r ++ more)) t.1 ∙ ap after_eols (append_assoc front (after_eols rest) more) ∙ eols_again t.0 (after_eols rest ++ more)

-- skipping goes forward
pub front_order : (text : List ℕ) (front start : ℕ) → front ≤ length text → start ≤ length text → drop start text ≡ after_eols (drop front text) → front ≤ start
front_order text front start w v e =
    let t = eols_take (drop front text) in
    let long = ap length t.1 ∙ length-append (flat_map eol t.0) (after_eols (drop front text)) in
    let left = ap length e in
    omega (arith, long, left, length-drop start text, length-drop front text)

-- where nothing was skipped the frame begins where it did
pub front_same : (limits : Limits) (text : List ℕ) (awaited : Awaited) (headers : List Header) (parsed searched front start : ℕ) → front ≤ length text → start ≤ length text → start ≤ front → drop start text ≡ after_eols (drop front text) → IsReadUpTo limits (drop front text) awaited headers parsed searched → IsReadUpTo limits (drop start text) awaited headers parsed searched
front_same limits text awaited headers parsed searched front start w v le e h =
    let more = front_order text front start w v e in
    let same : front ≡ start = omega arith in
    subst (λ (k : ℕ). IsReadUpTo limits (drop k text) awaited headers parsed searched) same h

-- skipping goes on from the front, whatever comes
pub front_goes : (rest front more : List ℕ) → front ≡ after_eols rest → after_eols (rest ++ more) ≡ after_eols (front ++ more)
front_goes rest front more e = eols_more rest more ∙ ap (λ (t : List ℕ). after_eols (t ++ more)) (sym e)

-- after a command nothing is skipped
pub front_stays : (text : List ℕ) (awaited : Awaited) (headers : List Header) (parsed : ℕ) (c : Command) → awaited ≡ awaits.HeaderLine c → HasBegun text awaited headers parsed → text ≡ after_eols text
front_stays text awaited headers parsed c s f = let g = subst (λ (s : Awaited). HasBegun text s headers parsed) s f in sym (ap after_eols (sym (append-nil text)) ∙ g [] ∙ append-nil text)

-- nor while its body is read
pub front_stays_body : (text : List ℕ) (awaited : Awaited) (headers : List Header) (parsed : ℕ) (c : Command) (n : Option ℕ) → awaited ≡ awaits.Body c n → HasBegun text awaited headers parsed → text ≡ after_eols text
front_stays_body text awaited headers parsed c n s f = let g = subst (λ (s : Awaited). HasBegun text s headers parsed) s f in sym (ap after_eols (sym (append-nil text)) ∙ g [] ∙ append-nil text)

-- ---- a command's line

front_nil : {B : Type 0} (r : Result (List Header × List ℕ) Halt) (f : List Header × List ℕ → Result B Halt) → (r >>= f) ≡ (with_front [] r >>= f)
front_nil (Ok x) f = refl
front_nil (Err e) f = refl

command_on : (limits : Limits) (rest line after : List ℕ) (c : Command) → after_eols rest ≡ rest → line_at limits rest ≡ Ok (line, after) → command_of line ≡ Ok c → (more : List ℕ) → frame_at limits (rest ++ more) ≡ frame_after_front limits c [] (after ++ more)
unfolding frame_at
command_on limits rest line after c idem l e more =
    let steady = rw (idem, l) at (eols_steady limits rest more) in
    let room : limits.headers - 0 ≡ limits.headers = omega arith in
    rw (steady, e, room) (front_nil (headers_at limits (has_escapes c) limits.headers (after ++ more)) (frame_after_headers limits c))

-- a text with a line at its front isn't skipped, whatever comes
never_skipped : (limits : Limits) (rest line after : List ℕ) → after_eols rest ≡ rest → line_at limits rest ≡ Ok (line, after) → (more : List ℕ) → after_eols (rest ++ more) ≡ rest ++ more
never_skipped limits rest line after idem l more = elim (eols_cases rest more) [
  | inl e ↦ e ∙ ap (λ (t : List ℕ). t ++ more) idem
  | inr (short, none) ↦
      let few : length rest < limits.line + 2 = omega (arith, ap length idem, short) in
      absurd (let q = sym (line_open limits rest (ap (cut 10) (sym idem) ∙ none) few) ∙ l in cc)
]

-- before there is a command nothing is parsed
pub start_here : (text : List ℕ) (awaited : Awaited) (headers : List Header) (parsed : ℕ) → awaited ≡ awaits.CommandLine → HasBegun text awaited headers parsed → drop parsed text ≡ text
start_here text awaited headers parsed s f = let g = subst (λ (s : Awaited). HasBegun text s headers parsed) s f in ap (λ (k : ℕ). drop k text) g.1

-- after a command's line
pub held_command : (limits : Limits) (text : List ℕ) (awaited : Awaited) (headers : List Header) (parsed searched next : ℕ) (line : List ℕ) (c : Command) → awaited ≡ awaits.CommandLine → IsReadUpTo limits text awaited headers parsed searched → after_eols (drop parsed text) ≡ drop parsed text
    → line_at limits (drop parsed text) ≡ Ok (line, drop next (drop parsed text)) → command_of line ≡ Ok c → next ≤ length (drop parsed text) → IsReadUpTo limits text (awaits.HeaderLine c) headers (parsed + next) 0
held_command limits text awaited headers parsed searched next line c s h idem l e le =
    let g = subst (λ (s : Awaited). IsReadUpTo limits text s headers parsed searched) s h in
    record {
      within = parsed_within text parsed next le (omega (arith, g.within));
      few = g.few;
      begun = λ more.
          let here = start_here text awaits.CommandLine headers parsed refl g.begun in
          subst (λ (t : List ℕ). after_eols (t ++ more) ≡ t ++ more) here (never_skipped limits (drop parsed text) line (drop next (drop parsed text)) idem l more);
      resumes = λ more. g.resumes more ∙ command_on limits (drop parsed text) line (drop next (drop parsed text)) c idem l e more
          ∙ ap (λ (hs : List Header). frame_after_front limits c hs (drop next (drop parsed text) ++ more)) (sym g.begun.0)
          ∙ ap (λ (t : List ℕ). frame_after_front limits c headers (t ++ more)) (drop-drop next parsed text);
      unfound = none_yet 10 (drop (parsed + next) text);
    }

line_stops : (e : Stop) (limits : Limits) (rest : List ℕ) → after_eols rest ≡ rest → Stops e (line_at limits rest) → Stops e (frame_at limits rest)
unfolding frame_at
line_stops stops.Memory limits rest idem s = tt
line_stops stops.Open limits rest idem s = rw (idem, s) refl
line_stops (stops.Fault k) limits rest idem s = rw (idem, s) refl

command_stops : (e : Stop) (limits : Limits) (rest line after : List ℕ) → after_eols rest ≡ rest → line_at limits rest ≡ Ok (line, after) → Stops e (command_of line) → Stops e (frame_at limits rest)
unfolding frame_at
command_stops stops.Memory limits rest line after idem l s = tt
command_stops stops.Open limits rest line after idem l s = rw (idem, l, s) refl
command_stops (stops.Fault k) limits rest line after idem l s = rw (idem, l, s) refl

at_start : (limits : Limits) (text : List ℕ) (awaited : Awaited) (headers : List Header) (parsed searched : ℕ) → awaited ≡ awaits.CommandLine → IsReadUpTo limits text awaited headers parsed searched → frame_at limits text ≡ frame_at limits (drop parsed text)
at_start limits text awaited headers parsed searched s h = now limits text awaits.CommandLine headers parsed searched (subst (λ (s : Awaited). IsReadUpTo limits text s headers parsed searched) s h)

-- a command's line that can't be read
pub line_stops_frame : (e : Stop) (limits : Limits) (text : List ℕ) (awaited : Awaited) (headers : List Header) (parsed searched : ℕ) → awaited ≡ awaits.CommandLine → IsReadUpTo limits text awaited headers parsed searched → after_eols (drop parsed text) ≡ drop parsed text → Stops e (line_at limits (drop parsed text)) → Stops e (frame_at limits text)
line_stops_frame e limits text awaited headers parsed searched s h idem l = subst (λ (r : Result (RawFrame × List ℕ) Halt). Stops e r) (sym (at_start limits text awaited headers parsed searched s h)) (line_stops e limits (drop parsed text) idem l)

-- a line that is no command
pub command_stops_frame : (e : Stop) (limits : Limits) (text : List ℕ) (awaited : Awaited) (headers : List Header) (parsed searched : ℕ) (line after : List ℕ) → awaited ≡ awaits.CommandLine → IsReadUpTo limits text awaited headers parsed searched → after_eols (drop parsed text) ≡ drop parsed text → line_at limits (drop parsed text) ≡ Ok (line, after) → Stops e (command_of line) → Stops e (frame_at limits text)
command_stops_frame e limits text awaited headers parsed searched line after s h idem l c = subst (λ (r : Result (RawFrame × List ℕ) Halt). Stops e r) (sym (at_start limits text awaited headers parsed searched s h)) (command_stops e limits (drop parsed text) line after idem l c)

-- ---- the body's length

body_by_length : (limits : Limits) (headers : List Header) (text : List ℕ) → body_at limits headers text ≡ (body_length limits headers >>= λ n. body_of limits n text)
unfolding body_at body_length body_of
body_by_length limits headers text = go (content_length headers)
  where
    fits : (b : Bool) (n : ℕ) → cond b (Err (Fault BodyTooLong)) (counted_at n text) ≡ (cond b (Err (Fault BodyTooLong)) (Ok (Some n)) >>= λ n. body_of limits n text)
    fits true n = refl
    fits false n = refl

    inner : (o : Option ℕ) → option_map_or (λ n. cond (ltb limits.body n) (Err (Fault BodyTooLong)) (counted_at n text)) o (Err (Fault BadLength)) ≡ (option_map_or (λ n. cond (ltb limits.body n) (Err (Fault BodyTooLong)) (Ok (Some n))) o (Err (Fault BadLength)) >>= λ n. body_of limits n text)
    inner None = refl
    inner (Some n) = fits (ltb limits.body n) n

    go : (o : Option (List ℕ)) → option_map_or (λ digits. option_map_or (λ n. cond (ltb limits.body n) (Err (Fault BodyTooLong)) (counted_at n text)) (length_of digits) (Err (Fault BadLength))) o (uncounted_at limits text)
        ≡ (option_map_or (λ digits. option_map_or (λ n. cond (ltb limits.body n) (Err (Fault BodyTooLong)) (Ok (Some n))) (length_of digits) (Err (Fault BadLength))) o (Ok None) >>= λ n. body_of limits n text)
    go None = refl
    go (Some digits) = inner (length_of digits)

body_sized : (limits : Limits) (headers : List Header) (n : Option ℕ) → body_length limits headers ≡ Ok n → (text : List ℕ) → body_at limits headers text ≡ body_of limits n text
body_sized limits headers n e text = body_by_length limits headers text ∙ ap (λ (r : Result (Option ℕ) Halt). r >>= λ n. body_of limits n text) e

-- ---- a header's line

-- the headers of a frame, once its first ones are read
abbrev pub due : Limits → Command → List Header → List ℕ → Result (List Header × List ℕ) Halt
due limits c headers text = with_front headers (headers_at limits (has_escapes c) (limits.headers - length headers) text)

line_later : (limits : Limits) (rest line after more : List ℕ) → line_at limits rest ≡ Ok (line, after) → line_at limits (rest ++ more) ≡ Ok (line, after ++ more)
line_later limits rest line after more l = subst (λ (r : Result (List ℕ × List ℕ) Halt). Extends more r (line_at limits (rest ++ more))) l (line_steady limits rest more)

at_header : (limits : Limits) (text : List ℕ) (awaited : Awaited) (headers : List Header) (parsed searched : ℕ) (c : Command) → awaited ≡ awaits.HeaderLine c → IsReadUpTo limits text awaited headers parsed searched → frame_at limits text ≡ (due limits c headers (drop parsed text) >>= frame_after_headers limits c)
at_header limits text awaited headers parsed searched c s h = now limits text (awaits.HeaderLine c) headers parsed searched (subst (λ (s : Awaited). IsReadUpTo limits text s headers parsed searched) s h)

stops_header : (e : Stop) (limits : Limits) (text : List ℕ) (awaited : Awaited) (headers : List Header) (parsed searched : ℕ) (c : Command) → awaited ≡ awaits.HeaderLine c → IsReadUpTo limits text awaited headers parsed searched → Stops e (due limits c headers (drop parsed text)) → Stops e (frame_at limits text)
stops_header e limits text awaited headers parsed searched c s h d =
    subst (λ (r : Result (RawFrame × List ℕ) Halt). Stops e r) (sym (at_header limits text awaited headers parsed searched c s h)) (stops_bind e (due limits c headers (drop parsed text)) (frame_after_headers limits c) d)

-- a header's line that can't be read
pub header_line_stops : (e : Stop) (limits : Limits) (text : List ℕ) (awaited : Awaited) (headers : List Header) (parsed searched : ℕ) (c : Command) → awaited ≡ awaits.HeaderLine c → IsReadUpTo limits text awaited headers parsed searched → Stops e (line_at limits (drop parsed text)) → Stops e (frame_at limits text)
header_line_stops e limits text awaited headers parsed searched c s h l =
    stops_header e limits text awaited headers parsed searched c s h (line_fails e limits (has_escapes c) headers (limits.headers - length headers) (drop parsed text) (due limits c headers (drop parsed text)) l refl)

-- a line that is no header
pub header_stops : (e : Stop) (limits : Limits) (text : List ℕ) (awaited : Awaited) (headers : List Header) (parsed searched : ℕ) (c : Command) (line after : List ℕ) → awaited ≡ awaits.HeaderLine c → IsReadUpTo limits text awaited headers parsed searched → length headers < limits.headers
    → line_at limits (drop parsed text) ≡ Ok (line, after) → eqb (length line) 0 ≡ false → Stops e (header_of (has_escapes c) line) → Stops e (frame_at limits text)
header_stops e limits text awaited headers parsed searched c line after s h lt l some r =
    stops_header e limits text awaited headers parsed searched c s h (header_fails e limits (has_escapes c) headers limits.headers (length headers) (drop parsed text) line after (due limits c headers (drop parsed text)) lt l some r refl)

-- one header too many
pub many_stop : (limits : Limits) (text : List ℕ) (awaited : Awaited) (headers : List Header) (parsed searched : ℕ) (c : Command) (line after : List ℕ) → awaited ≡ awaits.HeaderLine c → IsReadUpTo limits text awaited headers parsed searched → limits.headers ≤ length headers
    → line_at limits (drop parsed text) ≡ Ok (line, after) → eqb (length line) 0 ≡ false → frame_at limits text ≡ Err (Fault TooManyHeaders)
many_stop limits text awaited headers parsed searched c line after s h le l some =
    stops_header (stops.Fault TooManyHeaders) limits text awaited headers parsed searched c s h (too_many limits (has_escapes c) headers limits.headers (length headers) (drop parsed text) line after (due limits c headers (drop parsed text)) le l some refl)

-- after a header's line
pub held_header : (limits : Limits) (text : List ℕ) (awaited : Awaited) (headers : List Header) (parsed searched next : ℕ) (c : Command) (line : List ℕ) (entry : Header) → awaited ≡ awaits.HeaderLine c → IsReadUpTo limits text awaited headers parsed searched → length headers < limits.headers
    → line_at limits (drop parsed text) ≡ Ok (line, drop next (drop parsed text)) → eqb (length line) 0 ≡ false → header_of (has_escapes c) line ≡ Ok entry → next ≤ length (drop parsed text) → IsReadUpTo limits text awaited (headers ++ entry ∷ []) (parsed + next) 0
held_header limits text awaited headers parsed searched next c line entry s h lt l some r le =
    let g = subst (λ (s : Awaited). IsReadUpTo limits text s headers parsed searched) s h in
    let rest = drop parsed text in
    let longer : length (headers ++ entry ∷ []) ≡ length headers + 1 = length-append headers (entry ∷ []) in
    let there : IsReadUpTo limits text (awaits.HeaderLine c) (headers ++ entry ∷ []) (parsed + next) 0 = record {
      within = parsed_within text parsed next le (omega (arith, g.within));
      few = omega (arith, longer);
      begun = g.begun;
      resumes = λ more.
          let later = drop next rest ++ more in
          let step = goes_on limits (has_escapes c) headers limits.headers (length headers) (rest ++ more) line later entry (due limits c headers (rest ++ more)) lt (line_later limits rest line (drop next rest) more l) some r refl in
          let room : with_front (headers ++ entry ∷ []) (headers_at limits (has_escapes c) (limits.headers - (length headers + 1)) later) ≡ due limits c (headers ++ entry ∷ []) later =
          ap (λ (n : ℕ). with_front (headers ++ entry ∷ []) (headers_at limits (has_escapes c) (limits.headers - n) later)) (sym longer) in
          g.resumes more ∙ ap (λ (r : Result (List Header × List ℕ) Halt). r >>= frame_after_headers limits c) (sym step ∙ room)
          ∙ ap (λ (t : List ℕ). frame_after_front limits c (headers ++ entry ∷ []) (t ++ more)) (drop-drop next parsed text);
      unfound = none_yet 10 (drop (parsed + next) text);
    } in
    subst (λ (s : Awaited). IsReadUpTo limits text s (headers ++ entry ∷ []) (parsed + next) 0) (sym s) there

-- after the empty line
pub held_empty : (limits : Limits) (text : List ℕ) (awaited : Awaited) (headers : List Header) (parsed searched next : ℕ) (c : Command) (n : Option ℕ) (line : List ℕ) → awaited ≡ awaits.HeaderLine c → IsReadUpTo limits text awaited headers parsed searched
    → line_at limits (drop parsed text) ≡ Ok (line, drop next (drop parsed text)) → eqb (length line) 0 ≡ true → body_length limits headers ≡ Ok n → next ≤ length (drop parsed text) → IsReadUpTo limits text (awaits.Body c n) headers (parsed + next) 0
held_empty limits text awaited headers parsed searched next c n line s h l none sized le =
    let g = subst (λ (s : Awaited). IsReadUpTo limits text s headers parsed searched) s h in
    let rest = drop parsed text in
    record {
      within = parsed_within text parsed next le (omega (arith, g.within));
      few = g.few;
      begun = g.begun;
      resumes = λ more.
          let step = ends limits (has_escapes c) headers (limits.headers - length headers) (rest ++ more) line (drop next rest ++ more) (due limits c headers (rest ++ more)) (line_later limits rest line (drop next rest) more l) none refl in
          g.resumes more ∙ ap (λ (r : Result (List Header × List ℕ) Halt). r >>= frame_after_headers limits c) step
          ∙ ap (λ (t : List ℕ). frame_after_headers limits c (headers, t ++ more)) (drop-drop next parsed text)
          ∙ ap (frame_of_body c headers) (body_sized limits headers n sized (drop (parsed + next) text ++ more));
      unfound = none_yet 0 (drop (parsed + next) text);
    }

-- a content-length that can't be taken
pub length_stops : (e : Stop) (limits : Limits) (text : List ℕ) (awaited : Awaited) (headers : List Header) (parsed searched : ℕ) (c : Command) (line after : List ℕ) → awaited ≡ awaits.HeaderLine c → IsReadUpTo limits text awaited headers parsed searched
    → line_at limits (drop parsed text) ≡ Ok (line, after) → eqb (length line) 0 ≡ true → Stops e (body_length limits headers) → Stops e (frame_at limits text)
length_stops e limits text awaited headers parsed searched c line after s h l none r =
    let step = ends limits (has_escapes c) headers (limits.headers - length headers) (drop parsed text) line after (due limits c headers (drop parsed text)) l none refl in
    let whole = at_header limits text awaited headers parsed searched c s h ∙ ap (λ (r : Result (List Header × List ℕ) Halt). r >>= frame_after_headers limits c) step ∙ ap (frame_of_body c headers) (body_by_length limits headers after) in
    subst (λ (r : Result (RawFrame × List ℕ) Halt). Stops e r) (sym whole)
    (stops_bind e (body_length limits headers >>= λ n. body_of limits n after) (λ body. Ok (record { command = c; headers = headers; body = body.0 }, body.1))
    (stops_bind e (body_length limits headers) (λ n. body_of limits n after) r))

-- ---- the body

at_body : (limits : Limits) (text : List ℕ) (awaited : Awaited) (headers : List Header) (parsed searched : ℕ) (c : Command) (n : Option ℕ) → awaited ≡ awaits.Body c n → IsReadUpTo limits text awaited headers parsed searched → frame_at limits text ≡ frame_of_body c headers (body_of limits n (drop parsed text))
at_body limits text awaited headers parsed searched c n s h = now limits text (awaits.Body c n) headers parsed searched (subst (λ (s : Awaited). IsReadUpTo limits text s headers parsed searched) s h)

-- a body that isn't there
pub body_stops : (e : Stop) (limits : Limits) (text : List ℕ) (awaited : Awaited) (headers : List Header) (parsed searched : ℕ) (c : Command) (n : Option ℕ) → awaited ≡ awaits.Body c n → IsReadUpTo limits text awaited headers parsed searched → Stops e (body_of limits n (drop parsed text)) → Stops e (frame_at limits text)
body_stops e limits text awaited headers parsed searched c n s h b =
    subst (λ (r : Result (RawFrame × List ℕ) Halt). Stops e r) (sym (at_body limits text awaited headers parsed searched c n s h))
    (stops_bind e (body_of limits n (drop parsed text)) (λ body. Ok (record { command = c; headers = headers; body = body.0 }, body.1)) b)

-- the frame is whole
pub body_whole : (limits : Limits) (text : List ℕ) (awaited : Awaited) (headers : List Header) (parsed searched next : ℕ) (c : Command) (n : Option ℕ) (body : List ℕ) → awaited ≡ awaits.Body c n → IsReadUpTo limits text awaited headers parsed searched → body_of limits n (drop parsed text) ≡ Ok (body, drop next (drop parsed text))
    → frame_at limits text ≡ Ok (record { command = c; headers = headers; body = body }, drop (parsed + next) text)
body_whole limits text awaited headers parsed searched next c n body s h b =
    at_body limits text awaited headers parsed searched c n s h ∙ ap (frame_of_body c headers) b ∙ ap (λ (t : List ℕ). Ok (record { command = c; headers = headers; body = body }, t)) (drop-drop next parsed text)

-- ---- the reader

-- a piece comes
pub reading_more : (limits : Limits) (text piece : List ℕ) (start front : ℕ) (partial : PartialFrame) → IsReaderState limits text start front partial → IsReaderState limits (text ++ piece) start front partial
reading_more limits text piece start front partial r =
    let near : start ≤ length text = omega (arith, r.order, r.within) in
    let cut : drop start (text ++ piece) ≡ drop start text ++ piece = drop-append-le start text piece near in
    let appended : drop front (text ++ piece) ≡ drop front text ++ piece = drop-append-le front text piece r.within in
    record {
      order = r.order;
      within = omega (arith, r.within, length-append text piece);
      skips = λ more. ap (λ (t : List ℕ). after_eols (t ++ more)) cut ∙ ap after_eols (append_assoc (drop start text) piece more) ∙ r.skips (piece ++ more)
          ∙ ap after_eols (sym (append_assoc (drop front text) piece more)) ∙ ap (λ (t : List ℕ). after_eols (t ++ more)) (sym appended);
      read = subst (λ (t : List ℕ). IsPartial limits t partial) (sym appended) (read_up_to_more limits (drop front text) piece partial.awaited partial.headers partial.parsed partial.searched r.read);
    }

-- skipping ends at the same octet from the unread text and from the partial frame
pub same_skipped : (a b c : List ℕ) → ((more : List ℕ) → after_eols (a ++ more) ≡ after_eols (b ++ more)) → ((more : List ℕ) → after_eols (b ++ more) ≡ after_eols (c ++ more)) → after_eols a ≡ after_eols c
same_skipped a b c p q = ap after_eols (sym (append-nil a)) ∙ p [] ∙ q [] ∙ ap after_eols (append-nil c)

-- the frame is the same after the end-of-lines
pub same_frame : (limits : Limits) (a b c : List ℕ) → ((more : List ℕ) → after_eols (a ++ more) ≡ after_eols (b ++ more)) → ((more : List ℕ) → after_eols (b ++ more) ≡ after_eols (c ++ more)) → frame_at limits a ≡ frame_at limits c
same_frame limits a b c p q = same_front limits a c (same_skipped a b c p q)
