-- Which MESSAGE stands at an index of an item's.
use Rattle.std.proofs.Common.{◌≡◌, ℕ, zero, suc, ◌+◌, Bool, true, false, ◌<◌, ◌≤◌, List, [], ◌∷◌, ◌++◌, length, map, Option, Some, IfSome, Result, Ok, Err, OnOk, OnErr, refl, sym, ap, subst, ◌∙◌, arith}
use Rattle.std.specs.Prelude.{slice_get}
use Rattle.std.specs.List.{enumerate_from}
use Rattle.std.specs.Option.{option_map}
use Rattle.std.proofs.lemmas.Option.{slice_get-map}
use Rattle.std.proofs.lemmas.List.{length-append, length-map}
use Rattle.std.proofs.lemmas.List.FromFn.{length-enumerate_from}
use Rattle.stomp_frame.specs.declared.raw_frame.RawFrame.{RawFrame}
use Rattle.stomp_frame.specs.ServerFrames.{message_frame, message_id, part_message_frame}
use Rattle.mcast_txn.specs.declared.parts.part_message.PartMessage.{PartMessage}
use Rattle.mcast_txn.specs.declared.stamp.Stamp.{Stamp}
use Rattle.mcast_txn.specs.Span.{Item}
use Rattle.delivery.specs.Core.Output.{item_messages, messages_for, part_messages}
use Rattle.broker_server.specs.Wires.{spelling_with_eol}
use Rattle.broker_server.proofs.DeliveringLemmas.{here}

-- the MESSAGE of a SEND
abbrev pub message_of : List ℕ → Stamp → PartMessage → RawFrame
message_of id stamp p = message_frame id (message_id stamp.n stamp.topic.0 p.index) p.headers p.body

-- the same, which is the one of this number, from 1, of so many
abbrev pub part_of : ℕ → ℕ → List ℕ → Stamp → PartMessage → RawFrame
part_of at count id stamp p = part_message_frame at count id (message_id stamp.n stamp.topic.0 p.index) p.headers p.body

pub plain_at : (id : List ℕ) (item : Item) (i : ℕ) (p : PartMessage) → slice_get item.sends i ≡ Some p → slice_get (item_messages id item) i ≡ Some (message_of id item.stamp p)
plain_at id item i p is = slice_get-map (message_of id item.stamp) item.sends i ∙ ap (option_map (message_of id item.stamp)) is

-- f of each number and its value, at an index
at_number : {X Y : Type 0} (f : ℕ × X → Y) (n : ℕ) (xs : List X) (i : ℕ) → slice_get (map f (enumerate_from n xs)) i ≡ option_map (λ (x : X). f (i + n, x)) (slice_get xs i)
at_number f n [] i = refl
at_number {X = X} f n (x ∷ xs) zero =
    let first : n ≡ 0 + n = omega arith in ap (λ (m : ℕ). Some (f (m, x))) first
at_number {X = X} {Y = Y} f n (x ∷ xs) (suc i) =
    let next : i + (n + 1) ≡ suc i + n = omega arith in
    at_number f (n + 1) xs i ∙ ap (λ (m : ℕ). option_map (λ (y : X). f (m, y)) (slice_get xs i)) next

pub part_at : (id : List ℕ) (item : Item) (i : ℕ) (p : PartMessage) → slice_get item.sends i ≡ Some p → slice_get (part_messages id item) i ≡ Some (part_of (i + 1) (length item.sends) id item.stamp p)
part_at id item i p is =
    at_number (λ (at : ℕ × PartMessage). part_of at.0 (length item.sends) id item.stamp at.1) 1 item.sends i
    ∙ ap (option_map (λ (q : PartMessage). part_of (i + 1) (length item.sends) id item.stamp q)) is

-- what is so of the one that stands there
pub so_there : (frames : List RawFrame) (i : ℕ) (f : RawFrame) (P : RawFrame → Type 0) → slice_get frames i ≡ Some f → P f → IfSome (slice_get frames i) P
so_there frames i f P is so = subst (λ (o : Option RawFrame). IfSome o P) (sym is) so

-- what follows of what is so where a call went well
pub map_ok : {T E : Type 0} (r : Result T E) (A B : Type 0) → (A → B) → OnOk r A → OnOk r B
map_ok (Ok x) A B f a = f a
map_ok (Err e) A B f a = a

-- what is so is so where a call failed
pub err_of : {T E : Type 0} (r : Result T E) (A : Type 0) → A → OnErr r A
err_of (Ok x) A a = tt
err_of (Err e) A a = a

-- what was written of octets is as much as before, behind one more MESSAGE or none
pub longer : {T E : Type 0} (r : Result T E) (frames : List RawFrame) (i : ℕ) (old new : List ℕ) (n : ℕ) → i < length frames → n ≤ length old → OnOk r (IfSome (slice_get frames i) (λ f. new ≡ old ++ spelling_with_eol f)) → OnErr r (new ≡ old) → n ≤ length new
longer (Ok x) frames i old new n there less put same =
    let h = here frames i there in
    let is : new ≡ old ++ spelling_with_eol h.0 = subst (λ (o : Option RawFrame). IfSome o (λ f. new ≡ old ++ spelling_with_eol f)) h.1 put in
    omega (arith, less, ap (λ (xs : List ℕ). length xs) is, length-append old (spelling_with_eol h.0))
longer (Err e) frames i old new n there less put same = omega (arith, less, ap (λ (xs : List ℕ). length xs) same)

-- there is one for each SEND
pub as_many : (parts : Bool) (id : List ℕ) (item : Item) → length (messages_for parts id item) ≡ length item.sends
as_many true id item =
    length-map (enumerate_from 1 item.sends) (λ (at : ℕ × PartMessage). part_of at.0 (length item.sends) id item.stamp at.1)
    ∙ length-enumerate_from 1 item.sends
as_many false id item = length-map item.sends (message_of id item.stamp)
