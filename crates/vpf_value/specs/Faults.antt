-- Why no cell is at the front of bytes, apart from reading (MIL-STD-2407, 5.4, allowable field types).
use Rattle.std.specs.Prelude.{◌≡◌, ◌⊎◌, ℕ, ◌+◌, ◌*◌, ◌<◌, List, length}
use Rattle.std.specs.Int.{w32}
use Rattle.vpf_base.specs.declared.orders.Order.{Order}
use Rattle.vpf_triplet.specs.declared.kinds.Kind.{Kind}
use Rattle.vpf_triplet.specs.declared.kinds.Kind.TheVariants as kinds
use Rattle.vpf_triplet.specs.declared.kinds.Count.{Count}
use Rattle.vpf_triplet.specs.declared.kinds.Count.TheVariants.{Fixed, Star}
use Rattle.vpf_triplet.specs.declared.places.Code.{Code}
use Rattle.vpf_triplet.specs.declared.places.Code.TheVariants as codes
use Rattle.vpf_triplet.specs.Faults as triplets
use Rattle.vpf_base.specs.Numbers.{number_of}
use Rattle.vpf_value.specs.Values.{date_bytes}

-- fewer bytes are left than so many
abbrev pub IsCut : ℕ → List ℕ → Code → Type 0
IsCut n bytes code = (length bytes < n) × (code ≡ codes.CellCut)

-- fewer bytes are left than values of so many bytes each take, or than the count of 4 bytes that may stand before them
abbrev pub AreCut : ℕ → Order → Count → List ℕ → Code → Type 0
AreCut size o (Fixed n) bytes code = IsCut (size * n) bytes code
AreCut size o Star bytes code = IsCut 4 bytes code ⊎ IsCut (4 + size * number_of o w32 bytes) bytes code

-- The first fault of the bytes where a cell of this kind and count should stand. A cell is cut where the bytes end inside it;
-- a triplet id may be refused for what it says as well, and nothing refuses a cell of no bytes.
abbrev pub FirstCellFault : Order → Kind → Count → List ℕ → Code → Type 0
FirstCellFault o kinds.T count bytes code = AreCut 1 o count bytes code
FirstCellFault o kinds.L count bytes code = AreCut 1 o count bytes code
FirstCellFault o kinds.M count bytes code = AreCut 1 o count bytes code
FirstCellFault o kinds.N count bytes code = AreCut 1 o count bytes code
FirstCellFault o kinds.F count bytes code = IsCut 4 bytes code
FirstCellFault o kinds.R count bytes code = IsCut 8 bytes code
FirstCellFault o kinds.S count bytes code = IsCut 2 bytes code
FirstCellFault o kinds.I count bytes code = IsCut 4 bytes code
FirstCellFault o kinds.D count bytes code = IsCut date_bytes bytes code
FirstCellFault o kinds.X count bytes code = ⊥
FirstCellFault o kinds.K count bytes code = triplets.FirstTripletFault o bytes code
FirstCellFault o kinds.C count bytes code = AreCut 8 o count bytes code
FirstCellFault o kinds.B count bytes code = AreCut 16 o count bytes code
FirstCellFault o kinds.Z count bytes code = AreCut 12 o count bytes code
FirstCellFault o kinds.Y count bytes code = AreCut 24 o count bytes code
