-- The parts of a triplet id and their sizes.
use Rattle.std.specs.Prelude.{ℕ, zero, suc, List, Option, Some, None, slice_index}
use Rattle.std.specs.Int.{w16, w32}
use Rattle.vpf_base.specs.declared.orders.Order.{Order}
use Rattle.vpf_triplet.specs.declared.sizes.Size.{Size}
use Rattle.vpf_triplet.specs.declared.sizes.Size.TheVariants.{Absent, One, Two, Four}
use Rattle.vpf_base.specs.Numbers.{number_of}

-- the size that two bits of the type byte name
abbrev pub size_of : ℕ → Size
size_of zero = Absent
size_of (suc zero) = One
size_of (suc (suc zero)) = Two
size_of (suc (suc (suc n))) = Four

-- how many bytes a part takes
abbrev pub size_bytes : Size → ℕ
size_bytes Absent = 0
size_bytes One = 1
size_bytes Two = 2
size_bytes Four = 4

-- the part of this size at the front
abbrev pub part_of : Order → Size → List ℕ → Option ℕ
part_of o Absent bytes = None
part_of o One bytes = Some (slice_index bytes 0)
part_of o Two bytes = Some (number_of o w16 bytes)
part_of o Four bytes = Some (number_of o w32 bytes)
