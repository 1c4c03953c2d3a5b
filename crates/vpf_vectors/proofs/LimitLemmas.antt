-- The tables pass no limit.
use Rattle.std.proofs.Common.{◌≡◌, List, ap, ◌∙◌}
use Rattle.std.specs.Prelude.{None}
use Rattle.vpf_head.specs.Head.{Head}
use Rattle.vpf_table.specs.Grid.{Row}
use Rattle.vpf_write.specs.Inner.Tallies.{Tally, grid_with}
use Rattle.vpf_write.specs.Writing.{first_limit}
use Rattle.vpf_vectors.proofs.RowLemmas.{table_with}

-- the table that a writer holds
pub limit_with : (w : Tally) (h : Head) (rows : List Row) → w.head ≡ h → first_limit (record { head = h; rows = rows }) ≡ None
    → first_limit (grid_with w rows) ≡ None
limit_with w h rows e n = ap first_limit (table_with w h rows e) ∙ n
