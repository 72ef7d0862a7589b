-- Worked rows of kept senders: each is computed from the definitions.
use Rattle.std.proofs.Common.{◌≡◌, ℕ, true, false, List, [], ◌∷◌, codes, Some, None, refl}
use Rattle.sender_gate.specs.declared.fault.ClaimFault.TheVariants.{SenderInUse, TooManyClients}
use Rattle.sender_gate.specs.Gate.{GateState}
use Rattle.sender_gate.specs.Senders.{SendersState, after_claim, after_give_back, claim_refusal, claimed, claimed_gate, find_kept, has_new_client, is_claimed_already, lacks_room, max_senders}

abbrev p : List ℕ
p = codes "p"

abbrev q : List ℕ
q = codes "q"

abbrev gate_of : ℕ → ℕ → ℕ → ℕ → GateState
gate_of sender seq n topic =
    record { sender = record { 0 = sender }; seq = seq; floor = record { n = n; topic = record { 0 = topic } } }

abbrev nobody : SendersState
nobody = record { begun = 0; kept = [] }

-- p's first claim begins sender 0, a claim without a client-id sender 1, and q's first sender 2
abbrev three : SendersState
three = after_claim (Some q) (after_claim None (after_claim (Some p) nobody))

-- p's gate is given back behind its first transaction, which was decided at 10.0
abbrev rested : SendersState
rested = after_give_back (gate_of 0 1 10 0) three

-- ---- claims

new_sender_begins : claimed_gate (Some p) nobody ≡ gate_of 0 0 0 0
new_sender_begins = refl

three_have_begun : three.begun ≡ 3
three_have_begun = refl

two_are_kept : three.kept
    ≡ record { client = p; sender = record { 0 = 0 }; gate = None }
    ∷ record { client = q; sender = record { 0 = 2 }; gate = None } ∷ []
two_are_kept = refl

third_claim_is_of_a_new_client : has_new_client (Some q) (after_claim (Some p) nobody) ≡ true
third_claim_is_of_a_new_client = refl

claim_without_one_has_none : has_new_client None three ≡ false
claim_without_one_has_none = refl

none_is_claimed_without_one : claimed None three ≡ None
none_is_claimed_without_one = refl

q_is_kept : find_kept q three ≡ Some (record { client = q; sender = record { 0 = 2 }; gate = None })
q_is_kept = refl

-- ---- in use, and given back

p_is_in_use : is_claimed_already (Some p) three ≡ true
p_is_in_use = refl

second_claim_is_refused : claim_refusal (Some p) three ≡ Some SenderInUse
second_claim_is_refused = refl

claim_after_it_is_not : claim_refusal (Some p) rested ≡ None
claim_after_it_is_not = refl

it_goes_on_with_seq_and_floor : claimed_gate (Some p) rested ≡ gate_of 0 1 10 0
it_goes_on_with_seq_and_floor = refl

then_it_is_in_use_again : after_claim (Some p) rested ≡ three
then_it_is_in_use_again = refl

q_is_still_in_use : claim_refusal (Some q) rested ≡ Some SenderInUse
q_is_still_in_use = refl

-- ---- any other gate is dropped: of one that isn't in use, of one that isn't kept, of one that never began

other_gate_is_dropped : after_give_back (gate_of 0 7 20 1) rested ≡ rested
other_gate_is_dropped = refl

gate_that_is_not_kept_is_dropped : after_give_back (gate_of 1 4 12 0) three ≡ three
gate_that_is_not_kept_is_dropped = refl

gate_of_nobody_is_dropped : after_give_back (gate_of 9 4 12 0) three ≡ three
gate_of_nobody_is_dropped = refl

-- ---- too many: no number is left, but who is kept goes on

abbrev last : SendersState
last = record { begun = max_senders; kept = rested.kept }

no_number_is_left : claim_refusal None last ≡ Some TooManyClients
no_number_is_left = refl

none_for_a_new_client : lacks_room (Some (codes "r")) last ≡ true
none_for_a_new_client = refl

in_use_comes_first : claim_refusal (Some q) last ≡ Some SenderInUse
in_use_comes_first = refl

kept_one_goes_on : claim_refusal (Some p) last ≡ None
kept_one_goes_on = refl
