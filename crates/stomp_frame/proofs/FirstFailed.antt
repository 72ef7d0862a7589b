-- What reading finds wrong is the first check that is failed, in the order of Checks.
use Rattle.std.proofs.Common.{◌≡◌, ◌≢◌, ℕ, ◌<◌, ◌≤◌, ◌⊎◌, inl, inr, Bool, List, [], ◌∷◌, ◌++◌, length, get_or, Some, None, refl, sym, subst, ap, ◌∙◌, append_assoc, arith}
use Rattle.std.specs.List.{AllByRecursion}
use Rattle.std.specs.Str.{IsUtf8, is_utf8}
use Rattle.std.proofs.lemmas.Bool.{cases_Bool, cases_lt}
use Rattle.std.proofs.lemmas.List.{length-append}
use Rattle.std.proofs.lemmas.Option.{same_Some}
use Rattle.std.proofs.lemmas.Str.{IsUtf8-from_is_utf8, is_utf8-from_IsUtf8}
use Rattle.stomp_frame.specs.declared.command.Command.{Command}
use Rattle.stomp_frame.specs.declared.limits.Limits.{Limits}
use Rattle.stomp_frame.specs.declared.fault.Check.{Check}
use Rattle.stomp_frame.specs.declared.fault.Check.TheVariants.{BadCommand, BadLine, BadHeader, BadEscape, BadText, BadLength, BadEnd, LineTooLong, TooManyHeaders, BodyTooLong}
use Rattle.stomp_frame.specs.Headers.{Header}
use Rattle.stomp_frame.specs.Commands.{has_escapes}
use Rattle.stomp_frame.specs.ContentLength.{length_of, content_length}
use Rattle.stomp_frame.specs.Checks.{Progress, AtCommand, AtHeader, AtBody, HasLine, IsEndless, HasNoCrOrNull, IsNameless, HasBadEscape, IsCounted, IsEndlessBody, FailsCheck, checks_of, IsFirstFailed, IsAtFault}
use Rattle.stomp_frame.specs.Inner.Parser.{without_cr, after_eols, frame_at}
use Rattle.stomp_frame.proofs.Cuts.{Without}
use Rattle.stomp_frame.proofs.Failing.{FailsAsLine, Passes, FailsAsCommand, FailsAsHeader, FailsAsBody, IsFaulty}
use Rattle.stomp_frame.proofs.AtFault as at_fault
use Rattle.stomp_frame.proofs.AtFault.{failing, IsBroken, unbroken, all_unbroken, cut_line, without_cut, as_command, as_header, passes_line}

-- ---- what earlier checks leave

-- a line has one content
same_line : (text c m d n : List ℕ) → HasLine text c m → HasLine text d n → c ≡ d
same_line text c m d n l k =
    let a = cut_line text c m l in
    let b = cut_line text d n k in
    sym a.2 ∙ ap (λ (p : List ℕ × List ℕ). without_cr p.0) (same_Some (a.0, m) (b.0, n) (sym a.1 ∙ b.1)) ∙ b.2

not_endless : (limits : Limits) (text content more : List ℕ) → HasLine text content more → IsEndless limits text → ⊥
not_endless limits text content more l w = absurd (let h = sym (without_cut 10 text w.1) ∙ (cut_line text content more l).1 in cc)

not_long : (limits : Limits) (progress : Progress) (text content more : List ℕ) → HasLine text content more → length content ≤ limits.line → FailsCheck limits progress text LineTooLong → ⊥
not_long limits progress text content more l le (inl (c, m, k, lt)) = let e = ap length (same_line text c m content more k l) in absurd (omega arith)
not_long limits progress text content more l le (inr w) = not_endless limits text content more l w

not_broken : (limits : Limits) (progress : Progress) (text content more : List ℕ) → HasLine text content more → HasNoCrOrNull content → FailsCheck limits progress text BadLine → ⊥
not_broken limits progress text content more l w (c, m, k, n) = n (subst HasNoCrOrNull (same_line text content more c m l k) w)

not_bad_text : (limits : Limits) (progress : Progress) (text content more : List ℕ) → HasLine text content more → IsUtf8 content → FailsCheck limits progress text BadText → ⊥
not_bad_text limits progress text content more l w (c, m, k, n) = n (subst IsUtf8 (same_line text content more c m l k) w)

plain_unbroken : (content : List ℕ) → AllByRecursion (λ b. (b ≢ 10) × (b ≢ 13) × (b ≢ 0)) content → HasNoCrOrNull content
plain_unbroken [] w = tt
plain_unbroken (b ∷ content) w = ((w.0.1, w.0.2), plain_unbroken content w.1)

has_colon : (name value : List ℕ) → Without 58 (name ++ 58 ∷ value) → ⊥
has_colon [] value w = w.0 refl
has_colon (x ∷ name) value w = has_colon name value w.1

not_first : (name value more : List ℕ) → name ≢ [] → Without 58 name → name ++ 58 ∷ value ≡ 58 ∷ more → ⊥
not_first [] value more ne w e = ne refl
not_first (x ∷ name) value more ne w e = w.0 (ap (λ (t : List ℕ). get_or t 0 0) e)

escape_has_name : (escapes : Bool) (content : List ℕ) → HasBadEscape escapes content → IsNameless content → ⊥
escape_has_name escapes content (name, value, e, ne, w, bad) (inl none) = has_colon name value (subst (Without 58) e none)
escape_has_name escapes content (name, value, e, ne, w, bad) (inr (more, f)) = not_first name value more ne w (sym e ∙ f)

escape_not_empty : (escapes : Bool) (content : List ℕ) → HasBadEscape escapes content → content ≢ []
escape_not_empty escapes content (name, value, e, ne, w, bad) none =
    let h = ap length (sym e ∙ none) in
    absurd (omega (arith, length-append name (58 ∷ value)))

same_count : (headers : List Header) (n m : ℕ) → IsCounted headers n → IsCounted headers m → n ≡ m
same_count headers n m (d, h, l) (c, g, k) = same_Some n m (sym l ∙ ap length_of (same_Some d c (sym h ∙ g)) ∙ k)

counted_is_length : (headers : List Header) (n : ℕ) → IsCounted headers n → (digits : List ℕ) → content_length headers ≡ Some digits → length_of digits ≡ None → ⊥
counted_is_length headers n (d, h, l) digits g k = absurd (let e = sym l ∙ ap length_of (same_Some d digits (sym h ∙ g)) ∙ k in cc)

counted_not_endless : (limits : Limits) (headers : List Header) (text : List ℕ) (n : ℕ) → IsCounted headers n → IsEndlessBody limits headers text → ⊥
counted_not_endless limits headers text n (d, h, l) w = absurd (let e = sym h ∙ w.0 in cc)

-- ---- what reading finds wrong is failed first

by_line : (limits : Limits) (progress : Progress) (text : List ℕ) (checks : List Check) (k : Check) → FailsAsLine limits text k → IsFirstFailed (FailsCheck limits progress text) (LineTooLong ∷ BadLine ∷ BadText ∷ checks) k
by_line limits progress text checks LineTooLong f = inl (refl, f)
by_line limits progress text checks BadLine (content, more, l, le, n) = inr (not_long limits progress text content more l le, inl (refl, (content, more, l, n)))
by_line limits progress text checks BadText (content, more, l, le, w, n) = inr (not_long limits progress text content more l le, inr (not_broken limits progress text content more l w, inl (refl, (content, more, l, n))))
by_line limits progress text checks k f = absurd f

after_line : (limits : Limits) (progress : Progress) (text content : List ℕ) (checks : List Check) (k : Check) → Passes limits text content → IsFirstFailed (FailsCheck limits progress text) checks k → IsFirstFailed (FailsCheck limits progress text) (LineTooLong ∷ BadLine ∷ BadText ∷ checks) k
after_line limits progress text content checks k p later =
    let m = passes_line limits text content p in
    let l = p.2 in
    inr (not_long limits progress text content m.0 m.1 l.short, inr (not_broken limits progress text content m.0 m.1 (plain_unbroken content l.plain), inr (not_bad_text limits progress text content m.0 m.1 l.utf8, later)))

command_first : (limits : Limits) (text : List ℕ) (k : Check) → FailsAsCommand limits text k → IsFirstFailed (FailsCheck limits AtCommand text) (checks_of AtCommand) k
command_first limits text BadCommand (content, p, n) =
    let m = passes_line limits text content p in
    after_line limits AtCommand text content (BadCommand ∷ []) BadCommand p (inl (refl, (content, m.0, m.1, (p.3, n))))
command_first limits text k f = by_line limits AtCommand text (BadCommand ∷ []) k f

-- fewer headers than the limit
few_fit : (limits : Limits) (command : Command) (hs : List Header) (text : List ℕ) → length hs < limits.headers → FailsCheck limits (AtHeader command hs) text TooManyHeaders → ⊥
few_fit limits command hs text lt (content, more, l, (ne, le)) = absurd (omega arith)

header_first : (limits : Limits) (command : Command) (hs : List Header) (text : List ℕ) (k : Check) → FailsAsHeader limits (has_escapes command) (length hs) text k → IsFirstFailed (FailsCheck limits (AtHeader command hs) text) (checks_of (AtHeader command hs)) k
header_first limits command hs text TooManyHeaders (content, p, le) =
    let m = passes_line limits text content p in
    after_line limits (AtHeader command hs) text content (TooManyHeaders ∷ BadHeader ∷ BadEscape ∷ []) TooManyHeaders p (inl (refl, (content, m.0, m.1, (p.3, le))))
header_first limits command hs text BadHeader (content, p, lt, n) =
    let m = passes_line limits text content p in
    after_line limits (AtHeader command hs) text content (TooManyHeaders ∷ BadHeader ∷ BadEscape ∷ []) BadHeader p (inr (few_fit limits command hs text lt, inl (refl, (content, m.0, m.1, (p.3, n)))))
header_first limits command hs text BadEscape (content, p, lt, b) =
    let m = passes_line limits text content p in
    after_line limits (AtHeader command hs) text content (TooManyHeaders ∷ BadHeader ∷ BadEscape ∷ []) BadEscape p (inr (few_fit limits command hs text lt, inr (named m, inl (refl, (content, m.0, m.1, b)))))
  where
    named : (more : List ℕ) × HasLine text content more → FailsCheck limits (AtHeader command hs) text BadHeader → ⊥
    named m (c, d, l, (ne, none)) = escape_has_name (has_escapes command) content b (subst IsNameless (same_line text c d content m.0 l m.1) none)
header_first limits command hs text k f = by_line limits (AtHeader command hs) text (TooManyHeaders ∷ BadHeader ∷ BadEscape ∷ []) k f

body_first : (limits : Limits) (command : Command) (hs : List Header) (text : List ℕ) (k : Check) → FailsAsBody limits hs text k → IsFirstFailed (FailsCheck limits (AtBody command hs) text) (checks_of (AtBody command hs)) k
body_first limits command hs text BadLength f = inl (refl, f)
body_first limits command hs text BodyTooLong (inl (n, is, lt)) = inr (λ f. counted_is_length hs n is f.0 f.1 f.2, inl (refl, inl (n, is, lt)))
body_first limits command hs text BodyTooLong (inr w) = inr (λ f. absurd (let h = sym w.0 ∙ f.1 in cc), inl (refl, inr w))
body_first limits command hs text BadEnd (body, b, more, is, le, e, ne) = inr (λ f. counted_is_length hs (length body) is f.0 f.1 f.2, inr (within, inl (refl, (body, b, more, is, e, ne))))
  where
    within : FailsCheck limits (AtBody command hs) text BodyTooLong → ⊥
    within (inl (n, is_n, lt)) = let same = same_count hs n (length body) is_n is in absurd (omega arith)
    within (inr w) = counted_not_endless limits hs text (length body) is w
body_first limits command hs text k f = absurd f

first_failed : (limits : Limits) (rest : List ℕ) (k : Check) → IsFaulty limits rest k → IsAtFault limits rest k
first_failed limits rest k (AtCommand, after, e, f) = (AtCommand, after, e, command_first limits after k f)
first_failed limits rest k (AtHeader command hs, after, (first, middle, is, are, few, e), f) =
    (AtHeader command hs, after, record { command_line = first; header_lines = middle; is_command = is; are_headers = are; few = few; parts = e }, header_first limits command hs after k f)
first_failed limits rest k (AtBody command hs, after, (first, middle, last, is, are, few, empty, e), f) =
    (AtBody command hs, after, (last, empty, record { command_line = first; header_lines = middle; is_command = is; are_headers = are; few = few; parts = e }), body_first limits command hs after k f)

-- ---- and what is failed first, reading finds wrong

-- a line with content that fails none of the first three checks passes
abbrev IsGood : Limits → List ℕ → Type 0
IsGood limits text = (content more : List ℕ) → HasLine text content more → content ≢ [] → Passes limits text content

all_plain : (content : List ℕ) → AllByRecursion (λ b. b ≢ 10) content → HasNoCrOrNull content → AllByRecursion (λ b. (b ≢ 10) × (b ≢ 13) × (b ≢ 0)) content
all_plain [] w u = tt
all_plain (b ∷ content) w u = ((w.0, u.0.0, u.0.1), all_plain content w.1 u.1)

of_line : (limits : Limits) (progress : Progress) (text : List ℕ) (checks : List Check) (k : Check) → IsFirstFailed (FailsCheck limits progress text) (LineTooLong ∷ BadLine ∷ BadText ∷ checks) k → FailsAsLine limits text k ⊎ (IsGood limits text × IsFirstFailed (FailsCheck limits progress text) checks k)
of_line limits progress text checks k (inl (e, f)) = inl (subst (FailsAsLine limits text) (sym e) f)
of_line limits progress text checks k (inr (a, rest)) = go rest
  where
    short : (content more : List ℕ) → HasLine text content more → length content ≤ limits.line
    short content more l = elim (cases_lt limits.line (length content)) [ inl lt ↦ absurd (a (inl (content, more, l, lt))) | inr le ↦ le ]

    whole : (FailsCheck limits progress text BadLine → ⊥) → (content more : List ℕ) → HasLine text content more → HasNoCrOrNull content
    whole b content more l = elim (cases_Bool (IsBroken content)) [
      | inl t ↦ absurd (b (content, more, l, λ w. absurd (let h = unbroken content w in cc)))
      | inr f ↦ all_unbroken content f
    ]

    good : (FailsCheck limits progress text BadLine → ⊥) → (FailsCheck limits progress text BadText → ⊥) → IsGood limits text
    good b c content more l ne = elim l.ended [
      | inl e ↦ (content ++ 13 ∷ 10 ∷ [], more, record { ended = inr refl; short = short content more l; plain = all_plain content l.one (whole b content more l); utf8 = utf8 }, ne, e ∙ sym (append_assoc content (13 ∷ 10 ∷ []) more))
      | inr (e, last) ↦ (content ++ 10 ∷ [], more, record { ended = inl refl; short = short content more l; plain = all_plain content l.one (whole b content more l); utf8 = utf8 }, ne, e ∙ sym (append_assoc content (10 ∷ []) more))
    ]
      where
        utf8 : IsUtf8 content
        utf8 = elim (cases_Bool (is_utf8 content)) [
          | inl u ↦ IsUtf8-from_is_utf8 content u
          | inr u ↦ absurd (c (content, more, l, λ w. absurd (let h = is_utf8-from_IsUtf8 content w in cc)))
        ]

    go : IsFirstFailed (FailsCheck limits progress text) (BadLine ∷ BadText ∷ checks) k → FailsAsLine limits text k ⊎ (IsGood limits text × IsFirstFailed (FailsCheck limits progress text) checks k)
    go (inl (e, (content, more, l, n))) = inl (subst (FailsAsLine limits text) (sym e) (content, more, l, short content more l, n))
    go (inr (b, inl (e, (content, more, l, n)))) = inl (subst (FailsAsLine limits text) (sym e) (content, more, l, short content more l, whole b content more l, n))
    go (inr (b, inr (c, later))) = inr (good b c, later)

command_fails : (limits : Limits) (text : List ℕ) (k : Check) → IsFirstFailed (FailsCheck limits AtCommand text) (checks_of AtCommand) k → FailsAsCommand limits text k
command_fails limits text k f = elim (of_line limits AtCommand text (BadCommand ∷ []) k f) [
  | inl g ↦ as_command limits text k g
  | inr (good, g) ↦ elim g [
    | inl (e, (content, more, l, (ne, n))) ↦ subst (FailsAsCommand limits text) (sym e) (content, good content more l ne, n)
    | inr (x, none) ↦ absurd none
  ]
]

header_fails : (limits : Limits) (command : Command) (hs : List Header) (text : List ℕ) (k : Check) → IsFirstFailed (FailsCheck limits (AtHeader command hs) text) (checks_of (AtHeader command hs)) k → FailsAsHeader limits (has_escapes command) (length hs) text k
header_fails limits command hs text k f = elim (of_line limits (AtHeader command hs) text (TooManyHeaders ∷ BadHeader ∷ BadEscape ∷ []) k f) [
  | inl g ↦ as_header limits (has_escapes command) (length hs) text k g
  | inr (good, g) ↦ elim g [
    | inl (e, (content, more, l, (ne, le))) ↦ subst (FailsAsHeader limits (has_escapes command) (length hs) text) (sym e) (content, good content more l ne, le)
    | inr (few, h) ↦ elim h [
      | inl (e, (content, more, l, (ne, n))) ↦ subst (FailsAsHeader limits (has_escapes command) (length hs) text) (sym e) (content, good content more l ne, fits few content more l ne, n)
      | inr (named, i) ↦ elim i [
        | inl (e, (content, more, l, b)) ↦
            let ne = escape_not_empty (has_escapes command) content b in
            subst (FailsAsHeader limits (has_escapes command) (length hs) text) (sym e) (content, good content more l ne, fits few content more l ne, b)
        | inr (x, none) ↦ absurd none
      ]
    ]
  ]
]
  where
    fits : (FailsCheck limits (AtHeader command hs) text TooManyHeaders → ⊥) → (content more : List ℕ) → HasLine text content more → content ≢ [] → length hs < limits.headers
    fits few content more l ne = elim (cases_lt (length hs) limits.headers) [ inl lt ↦ lt | inr le ↦ absurd (few (content, more, l, (ne, le))) ]

body_fails : (limits : Limits) (command : Command) (hs : List Header) (text : List ℕ) (k : Check) → IsFirstFailed (FailsCheck limits (AtBody command hs) text) (checks_of (AtBody command hs)) k → FailsAsBody limits hs text k
body_fails limits command hs text k (inl (e, f)) = subst (FailsAsBody limits hs text) (sym e) f
body_fails limits command hs text k (inr (a, inl (e, f))) = subst (FailsAsBody limits hs text) (sym e) f
body_fails limits command hs text k (inr (a, inr (b, inl (e, (body, x, more, is, parts, ne))))) =
    subst (FailsAsBody limits hs text) (sym e) (body, x, more, is, elim (cases_lt limits.body (length body)) [ inl lt ↦ absurd (b (inl (length body, is, lt))) | inr le ↦ le ], parts, ne)
body_fails limits command hs text k (inr (a, inr (b, inr (c, none)))) = absurd none

faulty : (limits : Limits) (rest : List ℕ) (k : Check) → IsAtFault limits rest k → IsFaulty limits rest k
faulty limits rest k (AtCommand, after, e, f) = (AtCommand, after, e, command_fails limits after k f)
faulty limits rest k (AtHeader command hs, after, w, f) =
    (AtHeader command hs, after, (w.command_line, w.header_lines, w.is_command, w.are_headers, w.few, w.parts), header_fails limits command hs after k f)
faulty limits rest k (AtBody command hs, after, (last, empty, w), f) =
    (AtBody command hs, after, (w.command_line, w.header_lines, last, w.is_command, w.are_headers, w.few, empty, w.parts), body_fails limits command hs after k f)

-- ---- frames

-- where reading fails at a check, what comes after the end-of-lines is at that fault
pub frame_fault : (limits : Limits) (text : List ℕ) (k : Check) → frame_at limits text ≡ failing k → IsAtFault limits (after_eols text) k
frame_fault limits text k e = first_failed limits (after_eols text) k (at_fault.frame_fault limits text k e)

-- a rest that is at a fault is read as that failure
pub frame_faulty : (limits : Limits) (rest : List ℕ) (k : Check) → IsAtFault limits rest k → frame_at limits rest ≡ failing k
frame_faulty limits rest k f = at_fault.frame_faulty limits rest k (faulty limits rest k f)

-- a rest at fault begins with no end-of-line
pub fault_first : (limits : Limits) (rest : List ℕ) (k : Check) → IsAtFault limits rest k → after_eols rest ≡ rest
fault_first limits rest k f = at_fault.fault_first limits rest k (faulty limits rest k f)
