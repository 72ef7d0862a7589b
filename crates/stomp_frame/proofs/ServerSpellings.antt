-- A server's frame, appended in parts, is its spelling.
use Rattle.std.proofs.Common.{◌≡◌, ℕ, ◌+◌, ◌^◌, ◌<◌, Bool, true, false, List, [], ◌∷◌, ◌++◌, drop, take, map, ◌||◌, Option, Some, None, refl, sym, ap, ◌∙◌, append_assoc}
use Rattle.std.specs.Prelude.{codes, decimal, slice_get, if◌then◌else◌}
use Rattle.std.specs.List.{list_any}
use Rattle.std.specs.Str.{bytes_eq}
use Rattle.std.proofs.lemmas.Grind.{flat_map-append}
use Rattle.std.proofs.lemmas.List.Folds.{list_any-append}
use Rattle.stomp_escape.specs.Escape.{escaped}
use Rattle.stomp_frame.specs.Headers.{Header}
use Rattle.stomp_frame.specs.Writing.{header_line, header_lines, spelling_of, Extends}
use Rattle.stomp_frame.specs.ServerFrames.{optional_header, first_entries, message_id, part_value, receipt_frame, error_frame}
use Rattle.stomp_frame.proofs.Digits.{decimal_plain, id_plain, part_plain}
use Rattle.stomp_frame.proofs.Names.{has, seen, either_way, or_swap, seen_more, rest_at, same_names, at_cons, again}
use Rattle.stomp_frame.proofs.Written.{taken}

-- a header's line, with its LF
abbrev pub line_of : List ℕ → List ℕ → List ℕ
line_of name value = header_line true (name, value) ++ 10 ∷ []

abbrev lines : List Header → List ℕ
lines hs = header_lines true hs

-- what extends an extension extends the text
pub longer : (a b c : List ℕ) → Extends a b → Extends b c → Extends a c
longer a b c e f = record { more = e.more ++ f.more; grown = f.grown ∙ ap (λ (t : List ℕ). t ++ f.more) e.grown ∙ append_assoc a e.more f.more }

-- ---- digits

-- a content-length, appended
pub length_put : (old e : List ℕ) (n : ℕ) → n < 2 ^ 64 → e ≡ old ++ (codes "content-length:" ++ (decimal n ++ 10 ∷ [])) → e ≡ old ++ line_of (codes "content-length") (decimal n)
length_put old e n lt q = q ∙ ap (λ (t : List ℕ). old ++ (codes "content-length:" ++ (t ++ 10 ∷ []))) (sym (decimal_plain n lt))

-- a message-id, appended
pub id_put : (old e : List ℕ) (n topic index : ℕ) → n < 2 ^ 64 → topic < 2 ^ 64 → index < 2 ^ 64 → e ≡ old ++ (codes "message-id:" ++ (decimal n ++ 46 ∷ (decimal topic ++ 46 ∷ (decimal index ++ 10 ∷ []))))
    → e ≡ old ++ line_of (codes "message-id") (message_id n topic index)
id_put old e n topic index ln lt li q =
    let id = message_id n topic index in
    let last = decimal index ++ 10 ∷ [] in
    let later = decimal topic ++ 46 ∷ last in
    let ended : id ++ 10 ∷ [] ≡ decimal n ++ 46 ∷ later = append_assoc (decimal n ++ codes "." ++ decimal topic ++ codes ".") (decimal index) (10 ∷ []) ∙ append_assoc (decimal n ++ codes "." ++ decimal topic) (codes ".") last
    ∙ append_assoc (decimal n ++ codes ".") (decimal topic) (46 ∷ last) ∙ append_assoc (decimal n) (codes ".") later in
    q ∙ ap (λ (t : List ℕ). old ++ (codes "message-id:" ++ t)) (sym ended)
    ∙ ap (λ (t : List ℕ). old ++ (codes "message-id:" ++ (t ++ 10 ∷ []))) (sym (id_plain n topic index ln lt li))

-- a header `part`, appended
pub part_put : (old e : List ℕ) (at count : ℕ) → at < 2 ^ 64 → count < 2 ^ 64 → e ≡ old ++ (codes "part:" ++ (decimal at ++ 47 ∷ (decimal count ++ 10 ∷ []))) → e ≡ old ++ line_of (codes "part") (part_value at count)
part_put old e at count la lc q =
    let value = part_value at count in
    let last = decimal count ++ 10 ∷ [] in
    let ended : value ++ 10 ∷ [] ≡ decimal at ++ 47 ∷ last = append_assoc (decimal at ++ codes "/") (decimal count) (10 ∷ []) ∙ append_assoc (decimal at) (codes "/") last in
    q ∙ ap (λ (t : List ℕ). old ++ (codes "part:" ++ t)) (sym ended)
    ∙ ap (λ (t : List ℕ). old ++ (codes "part:" ++ (t ++ 10 ∷ []))) (sym (part_plain at count la lc))

-- ---- whole frames

split : (xs ys : List Header) (tail : List ℕ) → lines (xs ++ ys) ++ tail ≡ lines xs ++ (lines ys ++ tail)
split xs ys tail = ap (λ (t : List ℕ). t ++ tail) (flat_map-append (λ h. header_line true h ++ 10 ∷ []) xs ys) ∙ append_assoc (lines xs) (lines ys) tail

-- a RECEIPT, appended in parts
pub receipt_put : (old b e id : List ℕ) → b ≡ old ++ (codes "RECEIPT\nreceipt-id:" ++ (escaped id ++ 10 ∷ [])) → e ≡ b ++ 10 ∷ 0 ∷ [] → e ≡ old ++ spelling_of (receipt_frame id)
receipt_put old b e id p q =
    let word = codes "RECEIPT" ++ 10 ∷ [] in
    let line = line_of (codes "receipt-id") id in
    let tail = 10 ∷ 0 ∷ [] in
    let first : codes "RECEIPT\nreceipt-id:" ++ (escaped id ++ 10 ∷ []) ≡ word ++ line = ap (λ (t : List ℕ). codes "RECEIPT\nreceipt-id:" ++ t) refl in
    q ∙ ap (λ (t : List ℕ). t ++ tail) (p ∙ ap (λ (t : List ℕ). old ++ t) first)
    ∙ append_assoc old (word ++ line) tail
    ∙ ap (λ (t : List ℕ). old ++ t) (append_assoc word line tail ∙ ap (λ (t : List ℕ). word ++ t) (sym (append_assoc line [] tail)))

-- a MESSAGE's headers, appended in parts
pub headers_put : (old a b c d e subscription id : List ℕ) (destination : Option (List ℕ)) (size : List ℕ) (others : List Header) → a ≡ old ++ (codes "MESSAGE\nsubscription:" ++ (escaped subscription ++ 10 ∷ [])) → b ≡ a ++ line_of (codes "message-id") id
    → c ≡ b ++ lines (optional_header (codes "destination") destination) → d ≡ c ++ line_of (codes "content-length") size → e ≡ d ++ lines others
    → e ≡ old ++ (codes "MESSAGE\n" ++ lines ((codes "subscription", subscription) ∷ (codes "message-id", id) ∷ (optional_header (codes "destination") destination ++ (codes "content-length", size) ∷ others)))
headers_put old a b c d e subscription id destination size others pa pb pc pd pe =
    let s = line_of (codes "subscription") subscription in
    let word = codes "MESSAGE\n" in
    let i = line_of (codes "message-id") id in
    let own = optional_header (codes "destination") destination in
    let l = line_of (codes "content-length") size in
    let last = lines others in
    pe ∙ ap (λ (t : List ℕ). t ++ last) (pd ∙ ap (λ (t : List ℕ). t ++ l) (pc ∙ ap (λ (t : List ℕ). t ++ lines own) (pb ∙ ap (λ (t : List ℕ). t ++ i) pa)))
    ∙ append_assoc (((old ++ (word ++ s)) ++ i) ++ lines own) l last
    ∙ append_assoc ((old ++ (word ++ s)) ++ i) (lines own) (l ++ last)
    ∙ append_assoc (old ++ (word ++ s)) i (lines own ++ (l ++ last))
    ∙ append_assoc old (word ++ s) (i ++ (lines own ++ (l ++ last)))
    ∙ ap (λ (t : List ℕ). old ++ t) (append_assoc word s (i ++ (lines own ++ (l ++ last))))
    ∙ ap (λ (t : List ℕ). old ++ (word ++ (s ++ (i ++ t)))) (sym (flat_map-append (λ h. header_line true h ++ 10 ∷ []) own ((codes "content-length", size) ∷ others)))

-- those of a MESSAGE that says which it is
pub part_headers_put : (old a b c d p e subscription id : List ℕ) (destination : Option (List ℕ)) (size part : List ℕ) (others : List Header) → a ≡ old ++ (codes "MESSAGE\nsubscription:" ++ (escaped subscription ++ 10 ∷ [])) → b ≡ a ++ line_of (codes "message-id") id
    → c ≡ b ++ lines (optional_header (codes "destination") destination) → d ≡ c ++ line_of (codes "content-length") size → p ≡ d ++ line_of (codes "part") part → e ≡ p ++ lines others
    → e ≡ old ++ (codes "MESSAGE\n" ++ lines ((codes "subscription", subscription) ∷ (codes "message-id", id) ∷ (optional_header (codes "destination") destination ++ (codes "content-length", size) ∷ (codes "part", part) ∷ others)))
part_headers_put old a b c d p e subscription id destination size part others pa pb pc pd pp pe =
    let whole : e ≡ d ++ lines ((codes "part", part) ∷ others) = pe ∙ ap (λ (t : List ℕ). t ++ lines others) pp ∙ append_assoc d (line_of (codes "part") part) (lines others) in
    headers_put old a b c d e subscription id destination size ((codes "part", part) ∷ others) pa pb pc pd whole

-- an ERROR, appended in parts
pub error_put : (old b c d e message : List ℕ) (receipt : Option (List ℕ)) (version : Bool) → b ≡ old ++ (codes "ERROR\nmessage:" ++ (escaped message ++ 10 ∷ [])) → c ≡ b ++ lines (optional_header (codes "receipt-id") receipt)
    → d ≡ c ++ lines (optional_header (codes "version") (if version then Some (codes "1.2") else None)) → e ≡ d ++ (codes "content-length:0" ++ 10 ∷ 10 ∷ 0 ∷ []) → e ≡ old ++ spelling_of (error_frame message receipt version)
error_put old b c d e message receipt version pb pc pd pe =
    let word = codes "ERROR" ++ 10 ∷ [] in
    let asked = optional_header (codes "receipt-id") receipt in
    let told = optional_header (codes "version") (if version then Some (codes "1.2") else None) in
    let last : List Header = (codes "content-length", codes "0") ∷ [] in
    let tail = 10 ∷ 0 ∷ [] in
    let first = line_of (codes "message") message in
    let ending = lines last ++ tail in
    pe ∙ ap (λ (t : List ℕ). t ++ ending) (pd ∙ ap (λ (t : List ℕ). t ++ lines told) (pc ∙ ap (λ (t : List ℕ). t ++ lines asked) (pb ∙ sym (append_assoc old word first))))
    ∙ append_assoc ((((old ++ word) ++ first) ++ lines asked)) (lines told) ending
    ∙ append_assoc ((old ++ word) ++ first) (lines asked) (lines told ++ ending)
    ∙ append_assoc (old ++ word) first (lines asked ++ (lines told ++ ending))
    ∙ append_assoc old word (first ++ (lines asked ++ (lines told ++ ending)))
    ∙ ap (λ (t : List ℕ). old ++ (word ++ t)) (sym (
    append_assoc first (lines (asked ++ (told ++ last))) tail
    ∙ ap (λ (t : List ℕ). first ++ t) (split asked (told ++ last) tail ∙ ap (λ (t : List ℕ). lines asked ++ t) (split told last tail))))

-- ---- the first entries of a SEND's headers

before_has : (hs : List Header) (q : List ℕ) → list_any (λ h. bytes_eq h.0 q) hs ≡ has (map (λ h. h.0) hs) q
before_has [] q = refl
before_has (h ∷ hs) q = ap (λ b. b || list_any (λ g. bytes_eq g.0 q) hs) (either_way h.0 q) ∙ ap (λ b. bytes_eq q h.0 || b) (before_has hs q)

-- whether a header is dropped: its name is withheld, or came before
pub dropped_by : (kept : List (List ℕ)) (hs : List Header) (q : List ℕ) (own before : Bool) → own ≡ has kept q → before ≡ list_any (λ h. bytes_eq h.0 q) hs → (own || before) ≡ has (seen kept hs) q
dropped_by kept hs q own before k f =
    or_swap own before ∙ ap (λ b. b || own) (f ∙ before_has hs q) ∙ ap (λ b. has (map (λ h. h.0) hs) q || b) k ∙ sym (list_any-append (λ n. bytes_eq q n) (map (λ h. h.0) hs) kept)

-- what is still due after the first i headers
abbrev pub due : List (List ℕ) → List Header → ℕ → List ℕ
due kept sent i = lines (first_entries (seen kept (take i sent)) (drop i sent))

seen_next : (kept : List (List ℕ)) (sent : List Header) (i : ℕ) (h : Header) (q : List ℕ) → slice_get sent i ≡ Some h → has (seen kept (take (i + 1) sent)) q ≡ has (h.0 ∷ seen kept (take i sent)) q
seen_next kept sent i h q at = ap (λ (hs : List Header). has (seen kept hs) q) (taken sent i h at) ∙ seen_more kept (take i sent) h q

-- a header that is passed over
pub due_passed : (kept : List (List ℕ)) (sent : List Header) (i : ℕ) (h : Header) → slice_get sent i ≡ Some h → has (seen kept (take i sent)) h.0 ≡ true → due kept sent i ≡ due kept sent (i + 1)
due_passed kept sent i h at found =
    let rest = drop (i + 1) sent in
    let one : first_entries (seen kept (take i sent)) (drop i sent) ≡ first_entries (seen kept (take i sent)) rest = at_cons (drop i sent) rest h (seen kept (take i sent)) (rest_at sent i h at) ∙ rw found refl in
    let names = same_names rest (seen kept (take i sent)) (seen kept (take (i + 1) sent)) (λ q. sym (seen_next kept sent i h q at ∙ again (seen kept (take i sent)) h.0 q found)) in
    ap lines (one ∙ names)

-- a header that is put
pub due_put : (kept : List (List ℕ)) (sent : List Header) (i : ℕ) (h : Header) → slice_get sent i ≡ Some h → has (seen kept (take i sent)) h.0 ≡ false → due kept sent i ≡ (header_line true h ++ 10 ∷ []) ++ due kept sent (i + 1)
due_put kept sent i h at absent =
    let rest = drop (i + 1) sent in
    let one : first_entries (seen kept (take i sent)) (drop i sent) ≡ h ∷ first_entries (h.0 ∷ seen kept (take i sent)) rest = at_cons (drop i sent) rest h (seen kept (take i sent)) (rest_at sent i h at) ∙ rw absent refl in
    let names = same_names rest (h.0 ∷ seen kept (take i sent)) (seen kept (take (i + 1) sent)) (λ q. sym (seen_next kept sent i h q at)) in
    ap lines one ∙ ap (λ (l : List Header). (header_line true h ++ 10 ∷ []) ++ lines l) names

-- what was appended is no more due
pub goes_on : (old out new sent : List ℕ) (whole : List ℕ) → new ≡ out ++ sent → (rest due : List ℕ) → due ≡ sent ++ rest → out ++ due ≡ whole → new ++ rest ≡ whole
goes_on old out new sent whole n rest due d e = ap (λ (t : List ℕ). t ++ rest) n ∙ append_assoc out sent rest ∙ ap (λ (t : List ℕ). out ++ t) (sym d) ∙ e

-- what is appended extends
pub appended : (old new more : List ℕ) → new ≡ old ++ more → Extends old new
appended old new more e = record { more = more; grown = e }
