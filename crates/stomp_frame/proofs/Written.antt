-- What is written is a spelling.
use Rattle.std.proofs.Common.{◌≡◌, ◌≢◌, ℕ, zero, suc, ◌+◌, ◌^◌, ◌≤◌, ◌<◌, inl, inr, subst, Bool, true, false, leb, ◌&&◌, List, [], ◌∷◌, ◌++◌, length, take, get_or, Option, Some, None, refl, sym, ap, ◌∙◌, append_assoc, arith}
use Rattle.std.specs.Prelude.{MatchOption, slice_get}
use Rattle.std.specs.List.{AllByRecursion, list_all}
use Rattle.std.proofs.lemmas.Bool.{and_parts, leb-true}
use Rattle.std.specs.Str.{IsUtf8}
use Rattle.std.proofs.lemmas.Bool.Decides.{nat_tests}
use Rattle.std.proofs.lemmas.Str.{IsUtf8-from_ascii}
use Rattle.std.proofs.lemmas.Option.{same_Some}
use Rattle.std.proofs.lemmas.List.{append-nil}
use Rattle.std.proofs.lemmas.List.Concat.{flat_map-append}
use Rattle.stomp_escape.specs.Escape.{letter_of, escaped}
use Rattle.stomp_escape.proofs.Letters.{option_cases}
use Rattle.stomp_escape.proofs.Laws.{Spells-escaped}
use Rattle.stomp_frame.specs.declared.command.Command.{Command}
use Rattle.stomp_frame.specs.declared.command.Command.TheVariants.{Send, Subscribe, Unsubscribe, Begin, Commit, Abort, Ack, Nack, Disconnect, Connect, Stomp, Connected, Message, Receipt, Error}
use Rattle.stomp_frame.specs.declared.limits.Limits.{Limits}
use Rattle.stomp_frame.specs.declared.raw_frame.RawFrame.{RawFrame}
use Rattle.stomp_frame.specs.Headers.{Header, IsText, IsPair}
use Rattle.stomp_frame.specs.Commands.{word, has_escapes, may_have_body}
use Rattle.stomp_frame.specs.ContentLength.{length_of, content_length}
use Rattle.stomp_frame.specs.Grammar.{IsLine, Encodes, IsHeader, AreHeaders, IsSpelling, BeginsWith}
use Rattle.stomp_frame.specs.Writing.{written_text, header_line, header_lines, spelling_of, IsBare, SaysLength, HasItsLength, IsWritable, IsWithin}
use Rattle.stomp_frame.proofs.Digits.{says}
use Rattle.stomp_frame.proofs.Texts.{escaped_utf8, with_ascii}

abbrev Plain : ℕ → Type 0
Plain b = (b ≢ 10) × (b ≢ 13) × (b ≢ 0)

all_append : (P : ℕ → Type 0) (xs ys : List ℕ) → AllByRecursion P xs → AllByRecursion P ys → AllByRecursion P (xs ++ ys)
all_append P [] ys p q = q
all_append P (x ∷ xs) ys p q = (p.0, all_append P xs ys p.1 q)

plain_octet : (b c : ℕ) → letter_of b ≡ Some c → Plain c × (c ≢ 58)
plain_octet b c e = ((λ h. grind (arith, nat_tests), λ h. grind (arith, nat_tests), λ h. grind (arith, nat_tests)), λ h. grind (arith, nat_tests))

unescaped_octet : (b : ℕ) → letter_of b ≡ None → (b ≢ 10) × (b ≢ 13) × (b ≢ 58)
unescaped_octet b e = (λ h. grind (arith, nat_tests), λ h. grind (arith, nat_tests), λ h. grind (arith, nat_tests))

-- an escaped text has no CR, LF, NULL or colon
plain_escaped : (v : List ℕ) → AllByRecursion (λ b. b ≢ 0) v → AllByRecursion Plain (escaped v) × AllByRecursion (λ b. b ≢ 58) (escaped v)
plain_escaped [] w = (tt, tt)
plain_escaped (b ∷ v) w =
    let later = plain_escaped v w.1 in
    elim (option_cases (letter_of b)) [
      | inl (c, l) ↦ let p = plain_octet b c l in rw l (((λ h. omega arith, λ h. omega arith, λ h. omega arith), (p.0, later.0)), ((λ h. omega arith), (p.1, later.1)))
      | inr none ↦ let p = unescaped_octet b none in rw none (((p.0, p.1, w.0), later.0), (p.2, later.1))
    ]

plain_bare : (v : List ℕ) → AllByRecursion (λ b. b ≢ 0) v → AllByRecursion (λ b. (b ≢ 10) × (b ≢ 13)) v → AllByRecursion Plain v
plain_bare [] w u = tt
plain_bare (b ∷ v) w u = ((u.0.0, u.0.1, w.0), plain_bare v w.1 u.1)

two_bare : (v : List ℕ) → AllByRecursion (λ b. (b ≢ 10) × (b ≢ 13) × (b ≢ 58)) v → AllByRecursion (λ b. (b ≢ 10) × (b ≢ 13)) v × AllByRecursion (λ b. b ≢ 58) v
two_bare [] w = (tt, tt)
two_bare (b ∷ v) w = let later = two_bare v w.1 in (((w.0.0, w.0.1), later.0), (w.0.2, later.1))

record IsField (escapes : Bool) (v : List ℕ) : Type 0 where
  stands : Encodes escapes (written_text escapes v) v
  plain : AllByRecursion Plain (written_text escapes v)
  utf8 : IsUtf8 (written_text escapes v)

field_escaped : (v : List ℕ) → IsText v → IsField true v
field_escaped v t = record { stands = Spells-escaped v; plain = (plain_escaped v t.no_null).0; utf8 = escaped_utf8 v [] t.utf8 }

name_field : (escapes : Bool) (h : Header) → IsPair h → IsBare escapes h → IsField escapes h.0 × AllByRecursion (λ b. b ≢ 58) (written_text escapes h.0)
name_field true h w bare = (field_escaped h.0 w.name, (plain_escaped h.0 w.name.no_null).1)
name_field false h w bare = let two = two_bare h.0 bare.0 in (record { stands = refl; plain = plain_bare h.0 w.name.no_null two.0; utf8 = w.name.utf8 }, two.1)

value_field : (escapes : Bool) (h : Header) → IsPair h → IsBare escapes h → IsField escapes h.1
value_field true h w bare = field_escaped h.1 w.value
value_field false h w bare = record { stands = refl; plain = plain_bare h.1 w.value.no_null bare.1; utf8 = w.value.utf8 }

written_some : (escapes : Bool) (v : List ℕ) → v ≢ [] → written_text escapes v ≢ []
written_some false v ne e = ne e
written_some true [] ne e = ne refl
written_some true (b ∷ v) ne e =
    elim (option_cases (letter_of b)) [
      | inl (c, l) ↦ let f : 92 ∷ c ∷ escaped v ≡ [] = sym (rw l refl) ∙ e in cc
      | inr none ↦ let f : b ∷ escaped v ≡ [] = sym (rw none refl) ∙ e in cc
    ]

header_is : (limits : Limits) (escapes : Bool) (h : Header) → IsPair h → IsBare escapes h → length (header_line escapes h) ≤ limits.line → IsHeader limits escapes (header_line escapes h ++ 10 ∷ []) h
header_is limits escapes h w bare short =
    let n = name_field escapes h w bare in
    let v = value_field escapes h w bare in
    record {
      name = written_text escapes h.0;
      value = written_text escapes h.1;
      line = record { ended = inl refl; short = short; plain = all_append Plain (written_text escapes h.0) (58 ∷ written_text escapes h.1) n.0.plain (((λ e. omega arith), (λ e. omega arith), (λ e. omega arith)), v.plain); utf8 = with_ascii (written_text escapes h.0) 58 (written_text escapes h.1) (omega arith) n.0.utf8 v.utf8 };
      named = (written_some escapes h.0 w.named, n.1);
      encodes = (n.0.stands, v.stands);
    }

headers_are : (limits : Limits) (escapes : Bool) (hs : List Header) → AllByRecursion IsPair hs → AllByRecursion (λ h. IsBare escapes h) hs → AllByRecursion (λ h. length (header_line escapes h) ≤ limits.line) hs → AreHeaders limits escapes (header_lines escapes hs) hs
headers_are limits escapes [] w b s = refl
headers_are limits escapes (h ∷ hs) w b s = (header_line escapes h ++ 10 ∷ [], header_lines escapes hs, refl, header_is limits escapes h w.0 b.0 s.0, headers_are limits escapes hs w.1 b.1 s.1)

-- a capital letter
abbrev is_upper : ℕ → Bool
is_upper b = leb 65 b && leb b 90

upper : (b : ℕ) → is_upper b ≡ true → Plain b × (b < 128)
upper b e =
    let p = and_parts (leb 65 b) (leb b 90) e in
    let low = leb-true 65 b p.0 in
    let high = leb-true b 90 p.1 in
    ((λ h. omega arith, λ h. omega arith, λ h. omega arith), omega arith)

all_upper : (text : List ℕ) → list_all is_upper text ≡ true → AllByRecursion Plain text × ((i : ℕ) → get_or text i 0 < 128)
all_upper [] e = (tt, λ i. omega arith)
all_upper (b ∷ text) e =
    let p = and_parts (is_upper b) (list_all is_upper text) e in
    let later = all_upper text p.1 in
    let one = upper b p.0 in
    ((one.0, later.0), reads b text one.1 later.1)
  where
    reads : (b : ℕ) (text : List ℕ) → b < 128 → ((i : ℕ) → get_or text i 0 < 128) → (i : ℕ) → get_or (b ∷ text) i 0 < 128
    reads b text lt h zero = lt
    reads b text lt h (suc i) = h i

word_upper : (c : Command) → list_all is_upper (word c) ≡ true
word_upper Send = refl
word_upper _ = refl

word_is : (limits : Limits) (c : Command) → length (word c) ≤ limits.line → IsLine limits (word c ++ 10 ∷ []) (word c)
word_is limits c short = let a = all_upper (word c) (word_upper c) in record { ended = inl refl; short = short; plain = a.0; utf8 = IsUtf8-from_ascii (word c) a.1 }

-- the digits, where they are few enough, are a content-length of the body
digits_say : (d : List ℕ) (n : ℕ) → n < 2 ^ 64 → length d ≤ 10 → SaysLength d n → length_of d ≡ Some n
digits_say d n lt few (inl e) = e
digits_say d n lt few (inr e) = ap length_of e ∙ says n lt (subst (λ (t : List ℕ). length t ≤ 10) e few)

-- the body is as long as the first content-length says, or there is neither
body_is : (may : Bool) (body : List ℕ) (digits : Option (List ℕ)) → length body < 2 ^ 64 → MatchOption digits (Unit {0}) (λ d. length d ≤ 10) → HasItsLength may body digits → MatchOption digits (AllByRecursion (λ b. b ≢ 0) body) (λ d. length_of d ≡ Some (length body))
body_is true body None lt few h = absurd h
body_is true body (Some d) lt few h = digits_say d (length body) lt few h
body_is false body None lt few h = rw h.0 tt
body_is false body (Some d) lt few h = rw h.0 h.1

-- what is written of a frame is a spelling of it
pub spelled_is : (limits : Limits) (f : RawFrame) → IsWritable f → IsWithin limits f → IsSpelling limits (spelling_of f) f
spelled_is limits f w i =
    record {
      first = word f.command ++ 10 ∷ [];
      middle = header_lines (has_escapes f.command) f.headers;
      last = 10 ∷ [];
      parts = refl;
      command = word_is limits f.command i.command;
      headers = (headers_are limits (has_escapes f.command) f.headers w.pairs w.bare i.lines, i.headers);
      empty = record { ended = inl refl; short = omega arith; plain = tt; utf8 = IsUtf8-from_ascii [] (λ i. omega arith) };
      body = (i.body.0, body_is (may_have_body f.command) f.body (content_length f.headers) i.body.1 i.digits w.sized);
    }

-- what is written of a frame, with more after it, begins with the frame
pub spelled_first : (limits : Limits) (f : RawFrame) (more : List ℕ) → IsWritable f → IsWithin limits f → BeginsWith limits (spelling_of f ++ more) f more
spelled_first limits f more w i =
    record {
      eols = [];
      spelling = spelling_of f;
      are_eols = ([], refl);
      is_spelling = spelled_is limits f w i;
      parts = refl;
    }

-- the first i + 1 headers are the first i, and the one at i
pub taken : (hs : List Header) (i : ℕ) (h : Header) → slice_get hs i ≡ Some h → take (i + 1) hs ≡ take i hs ++ h ∷ []
taken [] i h e = absurd cc
taken (g ∷ hs) zero h e = ap (λ (x : Header). x ∷ []) (same_Some g h e)
taken (g ∷ hs) (suc i) h e = let more : suc i + 1 ≡ suc (i + 1) = omega arith in rw more (ap (λ (xs : List Header). g ∷ xs) (taken hs i h e))

-- one more header's line is written
pub lines_more : (escapes : Bool) (hs : List Header) (i : ℕ) (h : Header) (before old : List ℕ) → slice_get hs i ≡ Some h → before ≡ old ++ header_lines escapes (take i hs)
    → before ++ (header_line escapes h ++ 10 ∷ []) ≡ old ++ header_lines escapes (take (i + 1) hs)
lines_more escapes hs i h before old e b =
    ap (λ (t : List ℕ). t ++ (header_line escapes h ++ 10 ∷ [])) b ∙ append_assoc old (header_lines escapes (take i hs)) (header_line escapes h ++ 10 ∷ [])
    ∙ ap (λ (t : List ℕ). old ++ t) (sym (ap (header_lines escapes) (taken hs i h e) ∙ flat_map-append (λ g. header_line escapes g ++ 10 ∷ []) (take i hs) (h ∷ []) ∙ simp append-nil))
