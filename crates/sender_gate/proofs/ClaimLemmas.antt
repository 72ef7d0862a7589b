-- What a claim is answered, from what is kept.
use Rattle.std.proofs.Common.{Bor, ◌≡◌, ◌<◌, ◌==◌, ℕ, Bool, true, false, cond, not, ◌&&◌, ◌||◌, if◌then◌else◌, List, [], ◌∷◌, ◌++◌, length, map, nat_lt, Option, Some, None, is_some, is_none, refl, sym, ap, ◌∙◌, arith, true≢false}
use Rattle.std.proofs.lemmas.Bool.Decides.{Decides-eqb, nat_tests}
use Rattle.std.proofs.lemmas.Option.{none-some}
use Rattle.std.specs.List.{find}
use Rattle.std.specs.Option.{option_map}
use Rattle.std.specs.Str.{bytes_eq}
use Rattle.sender_gate.specs.declared.fault.ClaimFault.TheVariants.{SenderInUse, TooManyClients}
use Rattle.sender_gate.specs.Gate.{GateState}
use Rattle.sender_gate.specs.Senders.{ClaimedIsInUse, GivenBackIsClaimed, KeptSender, SendersState, after_claim, after_give_back, claim_refusal, claimed, claimed_gate}
use Rattle.sender_gate.specs.Senders.{find_kept, in_use_by, kept_with, max_clients, max_senders, with_in_use, with_new_sender}
use Rattle.sender_gate.proofs.KeptLemmas.{octets_pass}

-- an option that isn't there is none
pub none_from : {T : Type 0} (o : Option T) → is_some o ≡ false → o ≡ None
none_from None e = refl
none_from (Some x) e = absurd (true≢false e)

-- a claim of a sender that is in use
pub refused_in_use : (client : Option (List ℕ)) (s : SendersState) (k : KeptSender) → claimed client s ≡ Some k → is_some k.gate ≡ false → claim_refusal client s ≡ Some SenderInUse
refused_in_use client s k found used = rw (found, used) refl

-- a claim of one that isn't
pub not_refused : (client : Option (List ℕ)) (s : SendersState) (k : KeptSender) → claimed client s ≡ Some k → is_some k.gate ≡ true → claim_refusal client s ≡ None
not_refused None s k found free = absurd (none-some k found)
not_refused (Some id) s k found free = rw (found, free) refl

-- a claim that goes on with none that is kept
refusal_of_new : (client : Option (List ℕ)) (s : SendersState) (a b : Bool) → claimed client s ≡ None → nat_lt (length s.kept) max_clients ≡ a → nat_lt s.begun max_senders ≡ b
    → claim_refusal client s ≡ (if (is_some client && not a) || not b then Some TooManyClients else None)
refusal_of_new None s a b none room number = rw number refl
refusal_of_new (Some id) s a b none room number = rw (none, room, number) refl

not_refused_new : (client : Option (List ℕ)) (s : SendersState) → claimed client s ≡ None → (is_some client && not (nat_lt (length s.kept) max_clients)) ≡ false → s.begun < 18446744073709551616 → claim_refusal client s ≡ None
not_refused_new client s none room left =
    let number : nat_lt s.begun max_senders ≡ true = grind (arith, nat_tests) in
    refusal_of_new client s (nat_lt (length s.kept) max_clients) true none refl number ∙ rw room refl

-- a claim that goes on with none that is kept, where there is room for one more
pub not_refused_with_room : (client : Option (List ℕ)) (s : SendersState) → claimed client s ≡ None → length s.kept < 65536 → s.begun < 18446744073709551616 → claim_refusal client s ≡ None
not_refused_with_room client s none few left =
    let room : nat_lt (length s.kept) max_clients ≡ true = grind (arith, nat_tests) in
    not_refused_new client s none (rw room (by (is_some client))) left
  where
    by : (b : Bool) → (b && false) ≡ false
    by true = refl
    by false = refl

-- a claim without a client-id
pub not_refused_without : (client : Option (Bor (List ℕ))) (s : SendersState) → claimed (option_map (λ id. id.now) client) s ≡ None → is_some client ≡ false → s.begun < 18446744073709551616
    → claim_refusal (option_map (λ id. id.now) client) s ≡ None
not_refused_without None s none absent left = not_refused_new None s none refl left
not_refused_without (Some id) s none absent left = absurd (true≢false absent)

-- ---- which gate a claim gets

pub gate_of_kept : (client : Option (List ℕ)) (s : SendersState) (k : KeptSender) (gate : GateState) → claimed client s ≡ Some k → k.gate ≡ Some gate → gate ≡ claimed_gate client s
gate_of_kept client s k gate found has = rw (found, has) refl

-- ---- a client-id is looked up after a claim and after a gate was given back

abbrev is_of : List ℕ → KeptSender → Bool
is_of id k = bytes_eq id k.client

client_kept : (gate : GateState) (k : KeptSender) → (kept_with gate k).client ≡ k.client
client_kept gate k = by ((k.sender.0 == gate.sender.0) && is_none k.gate)
  where
    by : (b : Bool) → (if b then record k { gate = Some gate } else k).client ≡ k.client
    by true = refl
    by false = refl

gets_own : (gate : GateState) (k : KeptSender) → k.sender ≡ gate.sender → k.gate ≡ None → kept_with gate k ≡ record k { gate = Some gate }
gets_own gate k own used =
    let same : (k.sender.0 == gate.sender.0) ≡ true = (Decides-eqb k.sender.0 gate.sender.0).1 (ap (λ s. s.0) own) in
    rw (same, used) refl

found_given : (id : List ℕ) (gate : GateState) (ks : List KeptSender) (k : KeptSender) → find (is_of id) ks ≡ Some k → k.sender ≡ gate.sender → k.gate ≡ None
    → find (is_of id) (map (kept_with gate) ks) ≡ Some (record k { gate = Some gate })
found_given id gate [] k found own used = absurd (none-some k found)
found_given id gate (x ∷ ks) k found own used = by (is_of id x) refl found (λ rest. found_given id gate ks k rest own used)
  where
    by : (b : Bool) → is_of id x ≡ b → cond b (Some x) (find (is_of id) ks) ≡ Some k → (find (is_of id) ks ≡ Some k → find (is_of id) (map (kept_with gate) ks) ≡ Some (record k { gate = Some gate }))
        → find (is_of id) (map (kept_with gate) (x ∷ ks)) ≡ Some (record k { gate = Some gate })
    by true t found rest =
        let here : x ≡ k = cc in
        let gets : kept_with gate x ≡ record k { gate = Some gate } = ap (kept_with gate) here ∙ gets_own gate k own used in
        rw (client_kept gate x, t) (ap Some gets)
    by false t found rest = rw (client_kept gate x, t) (rest found)

used_case : (id : List ℕ) (x : KeptSender) (b : Bool) → is_of id x ≡ b → in_use_by id x ≡ (if b then record x { gate = None } else x)
used_case id x b t = rw t refl

found_used : (id : List ℕ) (ks : List KeptSender) (k : KeptSender) → find (is_of id) ks ≡ Some k → find (is_of id) (map (in_use_by id) ks) ≡ Some (record k { gate = None })
found_used id [] k found = absurd (none-some k found)
found_used id (x ∷ ks) k found = by (is_of id x) refl found (found_used id ks k)
  where
    by : (b : Bool) → is_of id x ≡ b → cond b (Some x) (find (is_of id) ks) ≡ Some k → (find (is_of id) ks ≡ Some k → find (is_of id) (map (in_use_by id) ks) ≡ Some (record k { gate = None }))
        → find (is_of id) (map (in_use_by id) (x ∷ ks)) ≡ Some (record k { gate = None })
    by true t found rest = let here : x ≡ k = cc in rw (used_case id x true t, t) (ap (λ (z : KeptSender). Some (record z { gate = None })) here)
    by false t found rest = rw (used_case id x false t, t) (rest found)

found_behind : (id : List ℕ) (ks : List KeptSender) (k : KeptSender) → find (is_of id) ks ≡ None → is_of id k ≡ true → find (is_of id) (ks ++ k ∷ []) ≡ Some k
found_behind id [] k none own = rw own refl
found_behind id (x ∷ ks) k none own = by (is_of id x) refl none (λ rest. found_behind id ks k rest own)
  where
    by : (b : Bool) → is_of id x ≡ b → cond b (Some x) (find (is_of id) ks) ≡ None → (find (is_of id) ks ≡ None → find (is_of id) (ks ++ k ∷ []) ≡ Some k)
        → find (is_of id) (x ∷ (ks ++ k ∷ [])) ≡ Some k
    by true t none rest = absurd (none-some x (sym none))
    by false t none rest = rw t (rest none)

-- the laws
pub given_back_is_claimed : GivenBackIsClaimed
given_back_is_claimed client gate s k found own used =
    let after = found_given client gate s.kept k found own used in (
      not_refused (Some client) (after_give_back gate s) (record k { gate = Some gate }) after refl,
      sym (gate_of_kept (Some client) (after_give_back gate s) (record k { gate = Some gate }) gate after refl),
    )

pub claimed_is_in_use : ClaimedIsInUse
claimed_is_in_use client s = by (find_kept client s) refl
  where
    by : (r : Option KeptSender) → find_kept client s ≡ r → claim_refusal (Some client) (after_claim (Some client) s) ≡ Some SenderInUse
    by None none =
        let new : KeptSender = record { client = client; sender = record { 0 = s.begun }; gate = None } in
        let is : after_claim (Some client) s ≡ with_new_sender (Some client) s = rw none refl in
        rw is (refused_in_use (Some client) (with_new_sender (Some client) s) new (found_behind client s.kept new none (octets_pass client)) refl)
    by (Some k) found =
        let is : after_claim (Some client) s ≡ with_in_use client s = rw found refl in
        rw is (refused_in_use (Some client) (with_in_use client s) (record k { gate = None }) (found_used client s.kept k found) refl)
