-- Serves proofs only: what an auditor's list of rows is while nothing is known of the trace.
use Rattle.std.specs.Prelude.{◌≡◌, true, false, List, if◌then◌else◌}
use Rattle.std.specs.List.{list_any}
use Rattle.mcast_txn.specs.declared.stamp.Stamp.{Stamp}
use Rattle.mcast_txn.specs.Lists.{In, Rises, insert_by}
use Rattle.mcast_txn.specs.Span.{LogRow, row_stamp}
use Rattle.mcast_txn.specs.Stamp.{same_stamp, stamp_lt}

-- the rows rise in stamp, are of these, and have a row of the stamp of each of these
pub record IsSortingOf (rows : List LogRow) (all : List LogRow) : Type 0 where
  pub rises : Rises row_stamp rows
  pub of_all : (q : LogRow) → In q rows → In q all
  pub stamped : (q : LogRow) → In q all → list_any (λ own. same_stamp own.stamp q.stamp) rows ≡ true

-- a row put among others that rise, unless its stamp is there
abbrev pub put_row : LogRow → List LogRow → List LogRow
put_row row rows =
    if list_any (λ own. same_stamp own.stamp row.stamp) rows then rows else insert_by row_stamp row rows

-- no row is above this stamp
abbrev pub IsAtLeast : Stamp → List LogRow → Type 0
IsAtLeast stamp rows = (row : LogRow) → In row rows → stamp_lt stamp row.stamp ≡ false
