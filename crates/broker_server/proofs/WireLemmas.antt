-- Octets that wait, and go out.
use Rattle.std.proofs.Common.{◌≡◌, ℕ, zero, suc, ◌+◌, ◌≤◌, List, ◌++◌, length, take, drop, Option, Result, Ok, Err, subst, sym, ap, ◌∙◌, arith, append_assoc}
use Rattle.std.specs.Io.{WritesAtMost}
use Rattle.std.specs.Io.KnownBytes.{Appends, Keeps, WriteAppends}
use Rattle.std.specs.declared.io.Error.{Error}
use Rattle.std.specs.declared.io.ErrorKind.{ErrorKind}
use Rattle.std.specs.declared.io.ErrorKind.TheVariants.{Interrupted, WouldBlock}
use Rattle.std.specs.IoError.{error_kind}
use Rattle.std.proofs.KnownBytes.{Appends-trans, Appends-kept}
use Rattle.std.proofs.lemmas.List.{length-append, length-take-le, take-append-drop}
use Rattle.broker_server.specs.Wires.{failed_write, one_write}
use Rattle.broker_server.specs.declared.one_write.OneWrite.TheVariants.{Took, Again}

-- what went out, and how many that are
abbrev pub IsOut : Option (List ℕ) → Option (List ℕ) → List ℕ → List ℕ → ℕ → Type 0
IsOut had has whole waits count = (sent : List ℕ) × (whole ≡ sent ++ waits) × Appends had has sent × (count ≡ length sent)

-- some octets went out, and now the first n of those that waited
pub sent_more : (a b c : Option (List ℕ)) (whole waits left : List ℕ) (count n : ℕ) → left ≡ drop n waits → n ≤ length waits
    → IsOut a b whole waits count → Appends b c (take n waits) → IsOut a c whole left (count + n)
sent_more a b c whole waits left count n is fits (sent, cut, given, counted) more =
    let piece = take n waits in
    let parts : waits ≡ piece ++ left = sym (take-append-drop n waits) ∙ ap (λ (xs : List ℕ). piece ++ xs) (sym is) in
    let size : length piece ≡ n = length-take-le n waits fits in
    let both = length-append sent piece in (
      sent ++ piece,
      cut ∙ ap (λ (xs : List ℕ). sent ++ xs) parts ∙ sym (append_assoc sent piece left),
      Appends-trans a b c sent piece given more,
      omega (arith, size, both, counted),
    )

-- nothing more went out
pub sent_none : (a b c : Option (List ℕ)) (whole waits : List ℕ) (count : ℕ) → IsOut a b whole waits count → Keeps b c → IsOut a c whole waits count
sent_none a b c whole waits count (sent, cut, given, counted) kept = (sent, cut, Appends-kept a b c sent given kept, counted)

-- a write that failed took nothing
not_took : (kind : ErrorKind) (n : ℕ) → failed_write kind ≡ Ok (Took n) → ⊥
not_took Interrupted n e = cc
not_took WouldBlock n e = cc
not_took _ n e = cc

-- a write that took n octets
pub took : (a b : Option (List ℕ)) (written : Result ℕ Error) (n : ℕ) (octets : List ℕ) → one_write written ≡ Ok (Took n) → WritesAtMost written octets
    → WriteAppends a b written octets → (n ≤ length octets) × Appends a b (take n octets)
took a b (Ok zero) n octets e most more = absurd cc
took a b (Ok (suc k)) n octets e most more = let same : suc k ≡ n = cc in subst (λ (m : ℕ). (m ≤ length octets) × Appends a b (take m octets)) same (most, more)
took a b (Err fault) n octets e most more = absurd (not_took (error_kind fault) n e)

-- one that is tried again
pub again : (a b : Option (List ℕ)) (written : Result ℕ Error) (octets : List ℕ) → one_write written ≡ Ok Again → WriteAppends a b written octets → Keeps a b
again a b (Ok zero) octets e more = absurd cc
again a b (Ok (suc k)) octets e more = absurd cc
again a b (Err fault) octets e kept = kept
