-- The data of an entry are spelled exactly where they are read, and no line says anything of them.
use Rattle.std.proofs.Common.{ℕ, ◌-◌, Bool, List}
use Rattle.std.specs.Prelude.{◌==◌}
use Rattle.std.specs.List.{list_any}

abbrev pub holds_row : List ℕ → ℕ → Bool
holds_row rows row = list_any (λ r. r == row) rows
