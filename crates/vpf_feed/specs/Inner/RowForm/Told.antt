-- How many bytes a cell takes, as its first bytes tell.
use Rattle.std.specs.Prelude.{ℕ, ◌+◌, ◌*◌, List, length, Option, Some, None, nat_lt, if◌then◌else◌}
use Rattle.std.specs.Int.{w32}
use Rattle.vpf_base.specs.declared.orders.Order.{Order}
use Rattle.vpf_triplet.specs.declared.kinds.Kind.{Kind}
use Rattle.vpf_triplet.specs.declared.kinds.Kind.TheVariants as kinds
use Rattle.vpf_triplet.specs.declared.kinds.Count.{Count}
use Rattle.vpf_triplet.specs.declared.kinds.Count.TheVariants.{Fixed, Star}
use Rattle.vpf_base.specs.Numbers.{number_of}

-- how many bytes one value takes, where a count says how many there are
abbrev pub value_size : Kind → ℕ
value_size kinds.C = 8
value_size kinds.B = 16
value_size kinds.Z = 12
value_size kinds.Y = 24
value_size kind = 1

-- so many values as the header says, or as the first 4 bytes of the cell say
abbrev pub told_many : Order → ℕ → Count → List ℕ → Option ℕ
told_many o size (Fixed n) bytes = Some (size * n)
told_many o size Star bytes = if nat_lt (length bytes) 4 then None else Some (4 + size * number_of o w32 bytes)

-- how many bytes a cell takes of which these are the first, where they tell
abbrev pub told : Order → Kind → Count → List ℕ → Option ℕ
told o kinds.F count bytes = Some 4
told o kinds.I count bytes = Some 4
told o kinds.R count bytes = Some 8
told o kinds.S count bytes = Some 2
told o kinds.D count bytes = Some 20
told o kinds.X count bytes = Some 0
told o kinds.K count bytes = None
told o kind count bytes = told_many o (value_size kind) count bytes
