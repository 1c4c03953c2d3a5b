-- The form of rows: what their cells are read by.
use Rattle.std.specs.Prelude.{◌≡◌, ℕ, List, [], ◌∷◌, Result, Ok, Err, if◌then◌else◌}
use Rattle.vpf_base.specs.declared.orders.Order.{Order}
use Rattle.vpf_triplet.specs.declared.places.Code.{Code}
use Rattle.vpf_triplet.specs.declared.places.Code.TheVariants as codes
use Rattle.vpf_value.specs.Reading.{CellAnswer, cell_from}
use Rattle.vpf_head.specs.Head.{Col, is_data}
use Rattle.vpf_feed.specs.declared.row_form.form.Field.{Field}

-- what the cells of a column hold
abbrev pub form_field : Col → Field
form_field c = record { kind = c.kind; count = c.count }

-- The cells of a row that hold something. The others have no bytes, and nothing refuses them.
abbrev pub form_fields : List Col → List Field
form_fields [] = []
form_fields (c ∷ cs) = if is_data c.kind then form_field c ∷ form_fields cs else form_fields cs

-- how many bytes a cell takes, without its value
abbrev pub extent : CellAnswer → Result ℕ Code
extent (Ok x) = Ok x.1
extent (Err code) = Err code

-- how many bytes the cell at the front takes, or why there is none
abbrev pub cell_size : Order → Field → List ℕ → Result ℕ Code
cell_size o f bytes = extent (cell_from o f.kind f.count bytes)

-- no bytes are none of its cells
abbrev pub IsCutEmpty : Field → Type 0
IsCutEmpty f = (o : Order) → cell_size o f [] ≡ Err codes.CellCut
