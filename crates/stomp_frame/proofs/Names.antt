-- The first entries of headers, by the names that were seen before them.
use Rattle.std.proofs.Common.{◌≡◌, ℕ, zero, suc, ◌+◌, Bool, true, false, cond, ◌||◌, List, [], ◌∷◌, ◌++◌, map, drop, Option, Some, refl, sym, ap, subst, ◌∙◌, append_assoc, arith}
use Rattle.std.specs.Prelude.{slice_get, find, is_some, IsTrue}
use Rattle.std.specs.List.{AllByRecursion, list_any}
use Rattle.std.specs.Option.{option_map}
use Rattle.std.specs.Str.{bytes_eq}
use Rattle.std.proofs.lemmas.Bool.Decides.{same_from_decides, Decides-like}
use Rattle.std.proofs.lemmas.Option.{same_Some}
use Rattle.std.proofs.lemmas.List.{append-nil}
use Rattle.std.proofs.lemmas.List.Folds.{list_any-append}
use Rattle.std.proofs.lemmas.Slice.Eq.{bytes_eq-Decides}
use Rattle.stomp_frame.specs.Headers.{Header, first_of}
use Rattle.stomp_frame.specs.ServerFrames.{first_entries}

-- the name is among these
abbrev pub has : List (List ℕ) → List ℕ → Bool
has names q = list_any (λ n. bytes_eq q n) names

-- the names of headers, and these, which are withheld
abbrev pub seen : List (List ℕ) → List Header → List (List ℕ)
seen kept headers = map (λ h. h.0) headers ++ kept

-- the test that two texts are equal answers the same with the two exchanged
pub either_way : (xs ys : List ℕ) → bytes_eq xs ys ≡ bytes_eq ys xs
either_way xs ys = same_from_decides (bytes_eq xs ys) (bytes_eq ys xs) (bytes_eq-Decides xs ys) (Decides-like (bytes_eq ys xs) (λ e. sym e) (λ e. sym e) (bytes_eq-Decides ys xs))

same_cond : {X : Type 0} (a b : Bool) (x v y w : X) → a ≡ b → x ≡ v → y ≡ w → cond a x y ≡ cond b v w
same_cond a b x v y w p q r = cc

-- of two tests either may come first
pub or_swap : (a b : Bool) → (a || b) ≡ (b || a)
or_swap true true = refl
or_swap true false = refl
or_swap false true = refl
or_swap false false = refl

-- of three tests the second may come first
pub or_third : (a b c : Bool) → (a || (b || c)) ≡ (b || (a || c))
or_third true true c = refl
or_third true false c = refl
or_third false true c = refl
or_third false false c = refl

is_some_cond : (b : Bool) (h : Header) (o : Option Header) → is_some (option_map (λ g. g.1) (cond b (Some h) o)) ≡ (b || is_some (option_map (λ g. g.1) o))
is_some_cond true h o = refl
is_some_cond false h o = refl

-- a header of this name is there where it is among the names
pub first_has : (hs : List Header) (q : List ℕ) → is_some (first_of q hs) ≡ has (map (λ h. h.0) hs) q
first_has [] q = refl
first_has (h ∷ hs) q = is_some_cond (bytes_eq h.0 q) h (find (λ g. bytes_eq g.0 q) hs) ∙ ap (λ b. b || is_some (first_of q hs)) (either_way h.0 q) ∙ ap (λ b. bytes_eq q h.0 || b) (first_has hs q)

-- what tells whether a header is passed over: the names withheld, and then the first header of that name
pub seen_is : (kept : List (List ℕ)) (hs : List Header) (q : List ℕ) (own found : Bool) → own ≡ has kept q → found ≡ is_some (first_of q hs) → (own || found) ≡ has (seen kept hs) q
seen_is kept hs q own found k f = or_swap own found ∙ ap (λ b. b || own) (f ∙ first_has hs q) ∙ ap (λ b. has (map (λ h. h.0) hs) q || b) k ∙ sym (list_any-append (λ n. bytes_eq q n) (map (λ h. h.0) hs) kept)

-- names that tell the same give the same first entries
pub same_names : (hs : List Header) (names others : List (List ℕ)) → ((q : List ℕ) → has names q ≡ has others q) → first_entries names hs ≡ first_entries others hs
same_names [] names others e = refl
same_names (h ∷ hs) names others e =
    same_cond (has names h.0) (has others h.0) (first_entries names hs) (first_entries others hs) (h ∷ first_entries (h.0 ∷ names) hs) (h ∷ first_entries (h.0 ∷ others) hs) (e h.0) (same_names hs names others e)
    (ap (λ (l : List Header). h ∷ l) (same_names hs (h.0 ∷ names) (h.0 ∷ others) (λ q. ap (λ b. bytes_eq q h.0 || b) (e q))))

-- one more header after the others puts its name among those that were seen
pub seen_more : (kept : List (List ℕ)) (hs : List Header) (h : Header) (q : List ℕ) → has (seen kept (hs ++ h ∷ [])) q ≡ has (h.0 ∷ seen kept hs) q
seen_more kept [] h q = refl
seen_more kept (g ∷ hs) h q = ap (λ b. bytes_eq q g.0 || b) (seen_more kept hs h q) ∙ or_third (bytes_eq q g.0) (bytes_eq q h.0) (has (seen kept hs) q)

-- the headers from an index on are the one at it, and those from the next on
pub rest_at : (hs : List Header) (i : ℕ) (h : Header) → slice_get hs i ≡ Some h → drop i hs ≡ h ∷ drop (i + 1) hs
rest_at [] i h e = absurd cc
rest_at (g ∷ hs) zero h e = ap (λ (x : Header). x ∷ hs) (same_Some g h e)
rest_at (g ∷ hs) (suc i) h e = let more : suc i + 1 ≡ suc (i + 1) = omega arith in rw more (rest_at hs i h e)

-- the first entries of headers that begin with h: without h where its name is among the names
pub at_cons : (hs rest : List Header) (h : Header) (names : List (List ℕ)) → hs ≡ h ∷ rest → first_entries names hs ≡ cond (has names h.0) (first_entries names rest) (h ∷ first_entries (h.0 ∷ names) rest)
at_cons hs rest h names e = ap (first_entries names) e

-- at a header that is passed over nothing is put
pub passed_over : (kept : List (List ℕ)) (out whole sent : List Header) (i : ℕ) (h : Header) → slice_get sent i ≡ Some h → has (seen kept out) h.0 ≡ true → out ++ first_entries (seen kept out) (drop i sent) ≡ whole → out ++ first_entries (seen kept out) (drop (i + 1) sent) ≡ whole
passed_over kept out whole sent i h at found e =
    let one : first_entries (seen kept out) (drop i sent) ≡ first_entries (seen kept out) (drop (i + 1) sent) = at_cons (drop i sent) (drop (i + 1) sent) h (seen kept out) (rest_at sent i h at) ∙ rw found refl in
    ap (λ (l : List Header). out ++ l) (sym one) ∙ e

-- at any other it is put, and its name was then seen
pub put_next : (kept : List (List ℕ)) (out whole sent : List Header) (i : ℕ) (h : Header) → slice_get sent i ≡ Some h → has (seen kept out) h.0 ≡ false → out ++ first_entries (seen kept out) (drop i sent) ≡ whole → (out ++ h ∷ []) ++ first_entries (seen kept (out ++ h ∷ [])) (drop (i + 1) sent) ≡ whole
put_next kept out whole sent i h at absent e =
    let one : first_entries (seen kept out) (drop i sent) ≡ h ∷ first_entries (h.0 ∷ seen kept out) (drop (i + 1) sent) = at_cons (drop i sent) (drop (i + 1) sent) h (seen kept out) (rest_at sent i h at) ∙ rw absent refl in
    let names = same_names (drop (i + 1) sent) (seen kept (out ++ h ∷ [])) (h.0 ∷ seen kept out) (seen_more kept out h) in
    append_assoc out (h ∷ []) (first_entries (seen kept (out ++ h ∷ [])) (drop (i + 1) sent)) ∙ ap (λ (l : List Header). out ++ h ∷ l) names ∙ ap (λ (l : List Header). out ++ l) (sym one) ∙ e

adds_none : (a b : Bool) → (a ≡ true → b ≡ true) → (a || b) ≡ b
adds_none true b f = sym (f refl)
adds_none false b f = refl

-- a name that is there adds nothing
pub again : (names : List (List ℕ)) (name q : List ℕ) → has names name ≡ true → has (name ∷ names) q ≡ has names q
again names name q e = adds_none (bytes_eq q name) (has names q) (λ t. subst (λ (n : List ℕ). has names n ≡ true) (sym ((bytes_eq-Decides q name).0 t)) e)

-- headers whose names are all withheld add nothing to them
only_kept : (kept : List (List ℕ)) (hs : List Header) (q : List ℕ) → AllByRecursion (λ h. IsTrue (has kept h.0)) hs → has (seen kept hs) q ≡ has kept q
only_kept kept [] q w = refl
only_kept kept (h ∷ hs) q w = ap (λ b. bytes_eq q h.0 || b) (only_kept kept hs q w.1) ∙ adds_none (bytes_eq q h.0) (has kept q) (λ e. subst (λ (t : List ℕ). has kept t ≡ true) (sym ((bytes_eq-Decides q h.0).0 e)) w.0)

-- where only headers that are withheld were put, all first entries are left to put
pub none_seen : (kept : List (List ℕ)) (out sent : List Header) → AllByRecursion (λ h. IsTrue (has kept h.0)) out → out ++ first_entries (seen kept out) (drop 0 sent) ≡ out ++ first_entries kept sent
none_seen kept out sent w = ap (λ (l : List Header). out ++ l) (same_names sent (seen kept out) kept (λ q. only_kept kept out q w))

-- once all were seen nothing is left to put
pub all_seen : (kept : List (List ℕ)) (out whole sent : List Header) (i : ℕ) → drop i sent ≡ [] → out ++ first_entries (seen kept out) (drop i sent) ≡ whole → out ≡ whole
all_seen kept out whole sent i none e = sym (ap (λ (l : List Header). out ++ first_entries (seen kept out) l) none ∙ append-nil out) ∙ e
