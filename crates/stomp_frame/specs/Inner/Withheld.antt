-- Only serves proofs: what of a SEND's headers isn't passed on.
use Rattle.std.specs.Prelude.{ℕ, Bool, List, ◌∷◌, codes, if◌then◌else◌}
use Rattle.stomp_frame.specs.ServerFrames.{withheld}

-- what is withheld from a subscription, which asked for parts or not
abbrev pub withheld_by : Bool → List (List ℕ)
withheld_by parts = if parts then codes "part" ∷ withheld else withheld
