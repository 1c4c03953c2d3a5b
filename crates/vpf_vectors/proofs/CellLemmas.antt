-- The cells of rows fit their columns.
use Rattle.std.proofs.Common.{[], ◌≡◌, ℕ, ◌≤◌, Bool, true, false, List, ◌∷◌, length, sym, ap, subst, ◌∙◌, rules}
use Rattle.std.specs.Prelude.{if◌then◌else◌}
use Rattle.vpf_triplet.specs.declared.kinds.Kind.TheVariants as kinds
use Rattle.vpf_triplet.specs.declared.kinds.Count.TheVariants.{Fixed}
use Rattle.vpf_value.specs.Values.{Value, TextOf}
use Rattle.vpf_value.specs.Inner.Fitting.{FitsCell}
use Rattle.vpf_head.specs.Head.{Head}
use Rattle.vpf_table.specs.Canonical.{FitsRow}
use Rattle.vpf_table.specs.Grid.{Row}
use Rattle.vpf_vectors.specs.declared.cells.rows.EdgeRow.{EdgeRow}
use Rattle.vpf_vectors.specs.Heads.{tileref_head, edge_head, name_width}
use Rattle.vpf_vectors.specs.Tables.{cell_of_number, padded_name, tile_cells, edge_cells}
use Rattle.vpf_vectors.specs.Inner.Writing.{IsGridNumber, IsSmallEdge}
use Rattle.vpf_vectors.specs.Inner.StemLaws.{name_length}

pub number_fits : (k : ℕ) → k ≤ 100000 → FitsCell kinds.I (Fixed 1) (cell_of_number k)
number_fits k h = search rules

mark_fits : (b : Bool) → FitsCell kinds.S (Fixed 1) (cell_of_number (if b then 1 else 0))
mark_fits true = search rules
mark_fits false = search rules

text_fits : (text : List ℕ) → length text ≡ 8 → FitsCell kinds.T (Fixed name_width) (TextOf text)
text_fits text h = search rules

pub edge_fits : (id : ℕ) (r : EdgeRow) → IsGridNumber id → IsSmallEdge r → FitsRow edge_head.columns (edge_cells (id, r))
edge_fits id r h s =
    let start = number_fits r.start_node s.start_node in
    let end = number_fits r.end_node s.end_node in
    let right = number_fits r.right_face s.right_face in
    let left = number_fits r.left_face s.left_face in
    let next = number_fits r.right_edge s.right_edge in
    let back = number_fits r.left_edge s.left_edge in
    (number_fits id h, (start, (end, (right, (left, (next, (back, (mark_fits r.tile_line, tt))))))))

pub tile_fits : (k : ℕ) → IsGridNumber k → FitsRow tileref_head.columns (tile_cells k)
tile_fits k h = (number_fits k h, (text_fits (padded_name k) (name_length k h), tt))

-- cells that are those of a row fit as it does
fits_as : (h g : Head) (cells row : Row) → h ≡ g → cells ≡ row → FitsRow g.columns row → FitsRow h.columns cells
fits_as h g cells row e f fits = subst (λ (x : Head). FitsRow x.columns cells) (sym e) (subst (FitsRow g.columns) (sym f) fits)

pub tile_is : (k : ℕ) (a : Value) (text : List ℕ) → a ≡ cell_of_number k → text ≡ padded_name k → (a ∷ TextOf text ∷ []) ≡ tile_cells k
tile_is k a text e f = ap (λ x. x ∷ TextOf text ∷ []) e ∙ ap (λ t. cell_of_number k ∷ TextOf t ∷ []) f

pub tile_cells_fit : (h : Head) (k : ℕ) (cells : Row) → h ≡ tileref_head → IsGridNumber k → cells ≡ tile_cells k → FitsRow h.columns cells
tile_cells_fit h k cells e small f = fits_as h tileref_head cells (tile_cells k) e f (tile_fits k small)

pub edge_is : (id : ℕ) (r : EdgeRow) (a b c d e f g m : Value) → a ≡ cell_of_number id → b ≡ cell_of_number r.start_node → c ≡ cell_of_number r.end_node
    → d ≡ cell_of_number r.right_face → e ≡ cell_of_number r.left_face → f ≡ cell_of_number r.right_edge → g ≡ cell_of_number r.left_edge → m ≡ cell_of_number (if r.tile_line then 1 else 0)
    → (a ∷ b ∷ c ∷ d ∷ e ∷ f ∷ g ∷ m ∷ []) ≡ edge_cells (id, r)
edge_is id r a b c d e f g m ea eb ec ed ee ef eg em = cc

pub edge_cells_fit : (h : Head) (id : ℕ) (r : EdgeRow) (cells : Row) → h ≡ edge_head → IsGridNumber id → IsSmallEdge r → cells ≡ edge_cells (id, r)
    → FitsRow h.columns cells
edge_cells_fit h id r cells e small row f = fits_as h edge_head cells (edge_cells (id, r)) e f (edge_fits id r small row)
