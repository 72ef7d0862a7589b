use Rattle.std.proofs.Common.{◌≡◌, ◌++◌, ◌∙◌, [], List, ℕ, ap}
use Rattle.stomp_escape.proofs.Laws.{Spells-escaped, escaped-unbroken}
use Rattle.stomp_escape.proofs.escaping.escape.Goals as goal

from_empty : (out old text : List ℕ) → out ≡ old ++ text → old ≡ [] → out ≡ text
from_empty out old text e nothing = e ∙ ap (λ (w : List ℕ). w ++ text) nothing

pub returns-clause-spelling : goal.returns-clause-spelling
returns-clause-spelling c = rw (from_empty _ _ _ c.in_ok-escape_into.ensures.ok c.in_ok-out.ensures) (Spells-escaped c.args.text.now)

pub returns-clause-unbroken : goal.returns-clause-unbroken
returns-clause-unbroken c = rw (from_empty _ _ _ c.in_ok-escape_into.ensures.ok c.in_ok-out.ensures) (escaped-unbroken c.args.text.now)
