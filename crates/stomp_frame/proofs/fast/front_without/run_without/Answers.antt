use Rattle.std.proofs.Common.{◌≡◌, ℕ, List, length, true, eqb, cond, bit_or, map, replicate, refl, inl, inr}
use Rattle.std.proofs.lemmas.Bool.{eq-eqb, cases_Bool}
use Rattle.std.proofs.lemmas.Simd.{zip2_splat, length-chunk}
use lib.Lanes.{zip2, chunk, top}
use Rattle.stomp_frame.proofs.Masks.{joined, run_within, run_unfound}
use Rattle.stomp_frame.proofs.fast.front_without.run_without.Goals as goal

-- which lanes have this octet
abbrev equals : ℕ → ℕ → ℕ
equals a b = cond (eqb a b) 255 0

-- where the search stops, lane by lane
stops : (v : List ℕ) (p q : ℕ) → length v ≡ 16 → zip2 bit_or (zip2 equals v (replicate 16 p)) (zip2 equals v (replicate 16 q)) ≡ map (λ x. bit_or (equals x p) (equals x q)) v
stops v p q long = joined bit_or _ _ v (zip2_splat equals v 16 p long) (zip2_splat equals v 16 q long)

-- it stops at the one
at_one : (p q : ℕ) → top 7 (bit_or (equals p p) (equals p q)) ≡ true
at_one p q = rw (eq-eqb p p refl) (elim (cases_Bool (eqb p q)) [ inl both ↦ rw both refl | inr one ↦ rw one refl ])

-- and at the other
at_other : (p q : ℕ) → top 7 (bit_or (equals q p) (equals q q)) ≡ true
at_other p q = rw (eq-eqb q q refl) (elim (cases_Bool (eqb q p)) [ inl both ↦ rw both refl | inr one ↦ rw one refl ])

pub returns-clause-within : goal.returns-clause-within
returns-clause-within c =
    let text = c.args.text.now in
    let v = chunk c.args.at 16 text in
    run_within text c.args.at _ _ c.requires.within c.type_inv.text c.first_set.ensures _ (stops v c.args.one c.args.other (length-chunk c.args.at 16 text c.requires.within))

pub returns-clause-one : goal.returns-clause-one
returns-clause-one c =
    let text = c.args.text.now in
    let v = chunk c.args.at 16 text in
    run_unfound text c.args.at _ _ c.requires.within c.type_inv.text c.first_set.ensures _ (stops v c.args.one c.args.other (length-chunk c.args.at 16 text c.requires.within)) c.args.one (at_one c.args.one c.args.other) c.requires.one

pub returns-clause-other : goal.returns-clause-other
returns-clause-other c =
    let text = c.args.text.now in
    let v = chunk c.args.at 16 text in
    run_unfound text c.args.at _ _ c.requires.within c.type_inv.text c.first_set.ensures _ (stops v c.args.one c.args.other (length-chunk c.args.at 16 text c.requires.within)) c.args.other (at_other c.args.one c.args.other) c.requires.other
