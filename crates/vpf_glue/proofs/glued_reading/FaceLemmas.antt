-- The table of faces: the universe, and the faces of all tiles.
use Rattle.std.proofs.Common.{[], ◌≡◌, ℕ, suc, ◌+◌, ◌<◌, List, ◌∷◌, length, map, codes, get_or, Option, Some, refl, sym, ap, ◌∙◌, subst, arith}
use Rattle.std.specs.Prelude.{◌==◌}
use Rattle.std.specs.List.{AllByRecursion}
use Rattle.std.specs.Option.{option_map, unwrap_or}
use Rattle.vpf_value.specs.Values.{Value}
use Rattle.vpf_head.specs.Head.{Col}
use Rattle.vpf_table.specs.Grid.{Grid, Row}
use Rattle.vpf_prims.specs.Coverages.{CoverageTables}
use Rattle.vpf_prims.specs.Libraries.{library_of}
use Rattle.vpf_prims.specs.Lists.{first_item, kth}
use Rattle.vpf_prims.specs.Numbering.{IsRowOf}
use Rattle.vpf_prims.specs.Primitives.{FacePrimitive, absent_face, tile_faces}
use Rattle.vpf_prims.specs.Reading.{PrimitiveTables, face_in_row}
use Rattle.vpf_prims.specs.References.{plain}
use Rattle.vpf_prims.specs.Tables.{TileTables}
use Rattle.vpf_write.specs.Revise.Revising.{revised}
use Rattle.vpf_cross.specs.CarriedLines.{first_tile}
use Rattle.vpf_tiling.specs.Ranks.{numbered_from}
use Rattle.vpf_tiling.specs.Tiles.{Ring}
use Rattle.vpf_renumbering.specs.TilingLawsWhole.{WholeFace, rest_of, tiles_in, whole_face, whole_faces}
use Rattle.vpf_renumbering.specs.Glued.{glued_face, glued_rings}
use Rattle.vpf_primitive_tables.specs.TableForms.Forms.{pair_values}
use Rattle.vpf_primitive_tables.specs.Inner.TileReading.NumberLaws.{read_numbered}
use Rattle.vpf_glue.specs.GluedTables.Grids.{glued_face_row, row_in, whole_in}
use Rattle.vpf_glue.specs.Inner.GluedReading.Laws.{AreJoined, FacesAreRead, pair_columns}
use Rattle.vpf_glue.proofs.glued_reading.RowLemmas.{face_rows_say}
use Rattle.vpf_glue.proofs.glued_reading.TileLemmas.{IsThere, face_read, face_there, faces_of, first_is, row_is, row_whole, tables_there}
use Rattle.vpf_base.proofs.Lists.{all_flat}

-- ---- lists

-- what is made of items of items
numbered_map : (X Y R : Type 0) (n : ℕ) (f : ℕ → Y → R) (g : X → Y) (xs : List X) → numbered_from n f (map g xs) ≡ numbered_from n (λ k x. f k (g x)) xs
numbered_map X Y R n f g [] = refl
numbered_map X Y R n f g (x ∷ xs) = ap (λ (rows : List R). f n (g x) ∷ rows) (numbered_map X Y R (suc n) f g xs)

-- the items of the one list are those of the other from a number on
abbrev AreFrom : (xs ys : List FacePrimitive) → ℕ → Type 0
AreFrom xs ys k = (i m : ℕ) → m ≡ k + i → i < length ys → IsRowOf (length xs) m × (get_or ys i absent_face ≡ kth xs m absent_face)

-- what is so of each by its number
all_from : {R : Type 0} (P : R → Type 0) (g : ℕ → FacePrimitive → R) (xs ys : List FacePrimitive) (k : ℕ) → AreFrom xs ys k
    → ((m : ℕ) (y : FacePrimitive) → IsRowOf (length xs) m → y ≡ kth xs m absent_face → P (g m y)) → AllByRecursion P (numbered_from k g ys)
all_from P g xs [] k from each = tt
all_from P g xs (y ∷ ys) k from each =
    let here = from 0 k (omega arith) (omega arith) in
    (each k y here.0 here.1, all_from P g xs ys (suc k) (λ i m e h. from (suc i) m (omega arith) (omega arith)) each)

rest_there : (xs : List FacePrimitive) → AreFrom xs (rest_of xs) 2
rest_there [] i m e h = absurd (omega arith)
rest_there (x ∷ xs) i m e h =
    let same : suc (suc i) ≡ m = omega arith in
    let row : IsRowOf (length (x ∷ xs)) (suc (suc i)) = ((omega arith), omega arith) in
    subst (λ (m : ℕ). IsRowOf (length (x ∷ xs)) m × (get_or xs i absent_face ≡ kth (x ∷ xs) m absent_face)) same (row, refl)

-- ---- faces

-- a face is a row of its tile, and carries what that says
pub record IsFaceThere (c : CoverageTables) (f : WholeFace) : Type 0 where
  pub there : IsThere (λ (T : PrimitiveTables). T.fac) c f.at.tile f.at.id
  pub carried : f.carried ≡ (kth (tile_faces (library_of c) f.at.tile) f.at.id absent_face).carried

faces_there : (c : CoverageTables) → AllByRecursion (IsFaceThere c) (whole_in c).faces
faces_there c =
    all_flat (IsFaceThere c) (whole_faces (library_of c)) (tiles_in (library_of c)) (λ t.
    all_from (IsFaceThere c) (whole_face (library_of c) t) (tile_faces (library_of c) t) (rest_of (tile_faces (library_of c) t)) 2
    (rest_there (tile_faces (library_of c) t))
    (λ m y row e. record { there = face_there c t m row; carried = ap (λ (p : FacePrimitive). p.carried) e }))

-- what row k of faces says, made of a row of a tile
face_says : (c : CoverageTables) (first : PrimitiveTables) → AreJoined c first → (k t n : ℕ) (carried : List Value) → IsThere (λ (T : PrimitiveTables). T.fac) c t n
    → carried ≡ (kth (tile_faces (library_of c) t) n absent_face).carried
    → face_in_row (pair_columns (codes "ring_ptr") first.fac) (glued_face_row first.fac.head.columns c k (row_in (λ (T : PrimitiveTables). T.fac) c t n))
    ≡ glued_face (glued_rings (whole_in c)) k carried
face_says c first j k t n carried i e =
    let columns : List Col = first.fac.head.columns in
    let grid : Grid = i.T.tables.fac in
    let ring : ℕ = first_item (λ (r : Ring). r.face == k) (glued_rings (whole_in c)) in
    let filled = (j.whole t i.T i.at).0.fac in
    let own : (face_in_row grid.head.columns (kth grid.rows n [])).carried ≡ carried = ap (λ (p : FacePrimitive). p.carried) (sym (face_read c t n i)) ∙ sym e in
    ap (λ (row : Row). face_in_row (pair_columns (codes "ring_ptr") first.fac) (revised (pair_values (codes "ring_ptr") columns k ring) row))
    (row_is (λ (T : PrimitiveTables). T.fac) c t n i)
    ∙ face_rows_say c first.fac grid (faces_of c first j t i.T i.at) (kth grid.rows n []) (row_whole grid n filled i.row) k ring
    ∙ (λ i. record { id = Some k; ring_ptr = plain ring; carried = own i })

-- the universe is a row of the first tile
universe_row : (c : CoverageTables) (first : PrimitiveTables) → AreJoined c first
    → kth first.fac.rows 1 [] ≡ row_in (λ (T : PrimitiveTables). T.fac) c (first_tile (library_of c)) 1
universe_row c first j =
    let f = first_is c first j.tables in
    sym (ap (λ (o : Option TileTables). unwrap_or (option_map (λ (T : TileTables). kth T.tables.fac.rows 1 []) o) []) f.at
    ∙ ap (λ (T : PrimitiveTables). kth T.fac.rows 1 []) f.is)

universe_there : (c : CoverageTables) (first : PrimitiveTables) → AreJoined c first → IsThere (λ (T : PrimitiveTables). T.fac) c (first_tile (library_of c)) 1
universe_there c first j =
    let f = first_is c first j.tables in
    face_there c (first_tile (library_of c)) 1
    ((omega arith), (j.agrees.numbered (first_tile (library_of c)) (tables_there c (first_tile (library_of c)) f.T f.at)).universe)

pub faces_are_read : FacesAreRead
faces_are_read c first j =
    let columns : List Col = first.fac.head.columns in
    let read = λ (row : Row). face_in_row (pair_columns (codes "ring_ptr") first.fac) row in
    let rings : List Ring = glued_rings (whole_in c) in
    let faces : List WholeFace = (whole_in c).faces in
    let row = λ (f : WholeFace). row_in (λ (T : PrimitiveTables). T.fac) c f.at.tile f.at.id in
    let universe : read (glued_face_row columns c 1 (kth first.fac.rows 1 [])) ≡ glued_face rings 1 (whole_in c).universe =
    ap (λ (row : Row). read (glued_face_row columns c 1 row)) (universe_row c first j)
    ∙ face_says c first j 1 (first_tile (library_of c)) 1 (whole_in c).universe (universe_there c first j) refl in
    let others : map read (numbered_from 2 (glued_face_row columns c) (map row faces)) ≡ numbered_from 2 (glued_face rings) (map (λ (f : WholeFace). f.carried) faces) =
    ap (map read) (numbered_map WholeFace Row Row 2 (glued_face_row columns c) row faces)
    ∙ read_numbered (IsFaceThere c) read (λ k f. glued_face_row columns c k (row f)) (λ k f. glued_face rings k f.carried)
    (λ k f p. face_says c first j k f.at.tile f.at.id f.carried p.there p.carried) 2 faces (faces_there c)
    ∙ sym (numbered_map WholeFace (List Value) FacePrimitive 2 (glued_face rings) (λ (f : WholeFace). f.carried) faces) in
    λ i. (universe i ∷ others i)
