-- How many entries a search for a value compares.
use Rattle.std.specs.Prelude.{ℕ, zero, suc, ◌+◌, ◌-◌, ◌/◌, nat_lt, if◌then◌else◌, List, [], ◌∷◌, length}
use Rattle.std.specs.declared.cmp.Ordering.{Ordering}
use Rattle.std.specs.declared.cmp.Ordering.TheVariants.{Less, Equal, Greater}
use Rattle.vpf_value.specs.Values.{Value}
use Rattle.vpf_theme.specs.Ordering.{same_value, value_cmp}
use Rattle.vpf_theme.specs.Entries.{Entry, Theme}
use Rattle.vpf_theme.specs.Findings.{entry_at}

-- one by one: each up to the first that has the value, or all where none has it
unfoldable pub compared_in_turn : Value → List Entry → ℕ
compared_in_turn v [] = 0
compared_in_turn v (e ∷ es) = if same_value e.value v then 1 else 1 + compared_in_turn v es

-- what is compared once the middle entry of a part stands so to the value: those below it, or above it, or none where it has the value
abbrev pub on_side : Ordering → ℕ → ℕ → ℕ
on_side Less below above = above
on_side Equal below above = 0
on_side Greater below above = below

-- by halves, in the part from entry `low` up to entry `high`, in so many steps at most: the middle entry, and then those of the half that is left
unfoldable pub compared_between : ℕ → Value → List Entry → ℕ → ℕ → ℕ
compared_between zero v entries low high = 0
compared_between (suc steps) v entries low high =
    if nat_lt low high then
    1 + on_side (value_cmp (entry_at entries (low + (high - low) / 2)).value v) (compared_between steps v entries low (low + (high - low) / 2)) (compared_between steps v entries (low + (high - low) / 2 + 1) high)
    else 0

-- by halves, in a whole directory: each step leaves a shorter part, so as many steps as there are entries are enough
abbrev pub compared_by_halves : Value → List Entry → ℕ
compared_by_halves v entries = compared_between (length entries) v entries 0 (length entries)

-- by halves where the directory is sorted, and else one by one
abbrev pub compared_for : Value → Theme → ℕ
compared_for v t = if t.sorted then compared_by_halves v t.entries else compared_in_turn v t.entries
