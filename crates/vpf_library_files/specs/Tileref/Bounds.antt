-- The bounds of the table of tiles.
use Rattle.std.specs.Prelude.{◌≡◌, ℕ, nat_le, List, [], ◌∷◌, length, Option, None, Some, Result, Ok, Err}
use Rattle.vpf_base.specs.Limits.{longest_name}
use Rattle.vpf_table.specs.declared.limit.Limit.{Limit}
use Rattle.vpf_table.specs.declared.limit.Bound.TheVariants as bounds
use Rattle.vpf_findings.specs.Firsts.{◌or◌, unless}
use Rattle.vpf_library_files.specs.Tileref.Numbered.{most_tiles}

-- there are more rows than tiles may be
abbrev pub rows_bound : ℕ → Option Limit
rows_bound rows = unless (nat_le rows most_tiles) (record { what = bounds.Tiles; found = rows })

-- the text of a path is longer than a name may be
abbrev pub length_bound : List ℕ → Option Limit
length_bound text = unless (nat_le (length text) longest_name) (record { what = bounds.Name; found = length text })

-- the first of some texts that is
abbrev pub lengths_bound : List (List ℕ) → Option Limit
lengths_bound [] = None
lengths_bound (text ∷ texts) = length_bound text or lengths_bound texts

-- a check answered Ok where no bound is passed, and else the first that is
abbrev pub Exceeds : {V : Type 0} → Result V Limit → Option Limit → Type 0
Exceeds (Ok v) first = first ≡ None
Exceeds (Err limit) first = first ≡ Some limit
