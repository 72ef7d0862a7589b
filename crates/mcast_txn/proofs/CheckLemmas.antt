-- Refusals in their order: the first of some checks that fails, and checks that pass.
use Rattle.std.proofs.Common.{◌≡◌, Bool, true, false, cond, List, [], ◌∷◌, ◌++◌, Option, Some, None, refl}
use Rattle.mcast_txn.specs.Checks.{first_refusal}

-- none of these holds
abbrev pub NoneHolds : {F : Type 0} → List (Bool × F) → Type 0
NoneHolds [] = Unit {0}
NoneHolds (c ∷ cs) = (c.0 ≡ false) × NoneHolds cs

passes_case : {F : Type 0} (b : Bool) (f : F) (rest : Option F) (P : Type 0) → (rest ≡ None → P) → cond b (Some f) rest ≡ None → (b ≡ false) × P
passes_case true f rest P ih e = absurd (cc)
passes_case false f rest P ih e = (refl, ih e)

-- where there is no refusal, none of its tests holds
pub passes : {F : Type 0} (cs : List (Bool × F)) → first_refusal cs ≡ None → NoneHolds cs
passes [] e = tt
passes (c ∷ cs) e = passes_case c.0 c.1 (first_refusal cs) (NoneHolds cs) (passes cs) e

-- the first of some checks that fails comes before those after them
pub refusal_first : {F : Type 0} (cs ds : List (Bool × F)) (o : F) → first_refusal cs ≡ Some o → first_refusal (cs ++ ds) ≡ Some o
refusal_first [] ds o e = absurd (cc)
refusal_first {F = F} (c ∷ cs) ds o e = go c.0 (refusal_first cs ds o) e
  where
    go : (b : Bool) → (first_refusal cs ≡ Some o → first_refusal (cs ++ ds) ≡ Some o)
        → cond b (Some c.1) (first_refusal cs) ≡ Some o → cond b (Some c.1) (first_refusal (cs ++ ds)) ≡ Some o
    go true later e = e
    go false later e = later e

-- where they pass, those after them stand
pub refusal_after : {F : Type 0} (cs ds : List (Bool × F)) → first_refusal cs ≡ None → first_refusal (cs ++ ds) ≡ first_refusal ds
refusal_after [] ds e = refl
refusal_after {F = F} (c ∷ cs) ds e = go c.0 (refusal_after cs ds) e
  where
    go : (b : Bool) → (first_refusal cs ≡ None → first_refusal (cs ++ ds) ≡ first_refusal ds)
        → cond b (Some c.1) (first_refusal cs) ≡ None → cond b (Some c.1) (first_refusal (cs ++ ds)) ≡ first_refusal ds
    go true later e = absurd (cc)
    go false later e = later e
