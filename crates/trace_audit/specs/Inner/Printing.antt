-- Serves proofs only: rows of a trace as they are sorted and written.
use Rattle.std.specs.Prelude.{◌≡◌, ℕ, Bool, true, false, List, ◌∷◌, ◌++◌, decimal}
use Rattle.std.specs.List.{flat_map}
use Rattle.trace_audit.specs.Text.{joined_text}
use Rattle.trace_audit.specs.declared.row.TraceRow.{TraceRow}
use Rattle.trace_audit.specs.declared.row.TraceRow.TheVariants as row
use Rattle.trace_audit.specs.declared.text.row_ref.RowRef.{RowRef}
use Rattle.trace_audit.specs.declared.text.row_ref.RowRef.TheVariants as row_ref

-- the row that a reference is to
abbrev pub row_of_ref : RowRef → TraceRow
row_of_ref (row_ref.Log logged) = row.Log logged.now
row_of_ref (row_ref.Span span) = row.Span span.now
row_of_ref (row_ref.Queue queued) = row.Queue queued.now

-- two numbers with this octet between them
abbrev pub pair_text : ℕ → ℕ → ℕ → List ℕ
pair_text a b c = decimal a ++ b ∷ decimal c

-- a text, after this octet unless it is the first
abbrev pub part_after : ℕ → Bool → List ℕ → List ℕ
part_after b true text = text
part_after b false text = b ∷ text

-- What is left to write of texts with this octet between each two, of which the first is next, or was
-- written.
abbrev pub left_after : ℕ → Bool → List (List ℕ) → List ℕ
left_after b true texts = joined_text b texts
left_after b false texts = flat_map (λ t. b ∷ t) texts

-- new is old with something after it, or old itself
pub record IsLonger (old new : List ℕ) : Type 0 where
  pub more : List ℕ
  pub grown : new ≡ old ++ more
