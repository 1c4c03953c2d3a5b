-- The rows that the faces of a glued coverage are written from.
use Rattle.std.proofs.Common.{◌≡◌, ℕ, zero, suc, ◌+◌, ◌<◌, ◌≤◌, sym, ap, ◌∙◌, arith, List, [], ◌∷◌, ◌++◌, length, map, take, get_or, eqb, refl}
use Rattle.vpf_table.specs.Grid.{Grid, Row}
use Rattle.vpf_prims.specs.Coverages.{CoverageTables}
use Rattle.vpf_prims.specs.Reading.{PrimitiveTables}
use Rattle.vpf_wing.specs.Links.{Beyond}
use Rattle.std.proofs.lemmas.List.{length-map, take_all}
use Rattle.std.proofs.lemmas.List.FromFn.{get_or-map-range_with_len}
use Rattle.vpf_prims.specs.Lists.{first_item}
use Rattle.vpf_tiling.specs.Tiles.{Ring}
use Rattle.vpf_primitive_tables.specs.Rings.{first_rings_of}
use Rattle.vpf_renumbering.specs.Glued.{glued_rings, tiles_of_faces}
use Rattle.vpf_renumbering.specs.TilingLawsWhole.{WholeFace}
use Rattle.vpf_renumbering.specs.Inner.GluedFaces.Faces.{nowhere}
use Rattle.vpf_glue.specs.GluedTables.Grids.{face_sources, row_in, whole_in}

mapped_at : (h : Beyond → Row) (fs : List WholeFace) (i : ℕ) → i < length fs
    → get_or (map (λ (f : WholeFace). h f.at) fs) i [] ≡ h (get_or (map (λ (f : WholeFace). f.at) fs) i nowhere)
mapped_at h [] i lt = absurd (omega arith)
mapped_at h (f ∷ fs) zero lt = refl
mapped_at h (f ∷ fs) (suc i) lt = mapped_at h fs i (omega arith)

-- that of a face but the universe, by its place among them
pub source_at : (c : CoverageTables) (like : Grid) (place : ℕ) (p : Beyond) → place < length (whole_in c).faces
    → p ≡ get_or (map (λ (f : WholeFace). f.at) (whole_in c).faces) place nowhere
    → row_in (λ (T : PrimitiveTables). T.fac) c p.tile p.id ≡ get_or (face_sources like c) (place + 1) []
source_at c like place p lt is =
    let e : place + 1 ≡ suc place = omega arith in
    let h : Beyond → Row = λ q. row_in (λ (T : PrimitiveTables). T.fac) c q.tile q.id in
    rw e (ap (λ (q : Beyond). row_in (λ (T : PrimitiveTables). T.fac) c q.tile q.id) is ∙ sym (mapped_at h (whole_in c).faces place lt))

-- the tiles of one face more
tiles_next : (fs : List WholeFace) (k : ℕ) → k < length fs
    → map (λ (f : WholeFace). f.at.tile) (take (suc k) fs) ≡ map (λ (f : WholeFace). f.at.tile) (take k fs) ++ (get_or (map (λ (f : WholeFace). f.at) fs) k nowhere).tile ∷ []
tiles_next [] k lt = absurd (omega arith)
tiles_next (f ∷ fs) zero lt = refl
tiles_next (f ∷ fs) (suc k) lt = ap (λ (ts : List ℕ). f.at.tile ∷ ts) (tiles_next fs k (omega arith))

pub tiles_more : (c : CoverageTables) (k : ℕ) (p : Beyond) (tiles : List ℕ) → k < length (whole_in c).faces → p ≡ get_or (map (λ (f : WholeFace). f.at) (whole_in c).faces) k nowhere
    → tiles ≡ map (λ (f : WholeFace). f.at.tile) (take k (whole_in c).faces) → tiles ++ p.tile ∷ [] ≡ map (λ (f : WholeFace). f.at.tile) (take (k + 1) (whole_in c).faces)
tiles_more c k p tiles lt is so =
    let s : k + 1 ≡ suc k = omega arith in
    ap (λ (ts : List ℕ). ts ++ p.tile ∷ []) so
    ∙ ap (λ (q : Beyond). map (λ (f : WholeFace). f.at.tile) (take k (whole_in c).faces) ++ q.tile ∷ []) is
    ∙ sym (ap (λ n. map (λ (f : WholeFace). f.at.tile) (take n (whole_in c).faces)) s ∙ tiles_next (whole_in c).faces k lt)

pub tiles_done : (c : CoverageTables) (k : ℕ) (tiles : List ℕ) → length (whole_in c).faces ≤ k → tiles ≡ map (λ (f : WholeFace). f.at.tile) (take k (whole_in c).faces)
    → tiles ≡ tiles_of_faces (whole_in c)
tiles_done c k tiles past so = so ∙ ap (map (λ (f : WholeFace). f.at.tile)) (take_all k (whole_in c).faces past)

-- there is a row for each face
pub sources_many : (c : CoverageTables) (like : Grid) → length (face_sources like c) ≡ length (whole_in c).faces + 1
sources_many c like =
    let h : WholeFace → Row = λ f. row_in (λ (T : PrimitiveTables). T.fac) c f.at.tile f.at.id in
    let z : suc (length (whole_in c).faces) ≡ length (whole_in c).faces + 1 = omega arith in
    ap suc (length-map (whole_in c).faces h) ∙ z

-- its first ring
pub first_ring : (c : CoverageTables) (k d : ℕ) → k < length (whole_in c).faces + 1
    → get_or (first_rings_of (length (whole_in c).faces + 1) (glued_rings (whole_in c))) k d ≡ first_item (λ r. eqb r.face (k + 1)) (glued_rings (whole_in c))
first_ring c k d lt =
    let z : 1 + k ≡ k + 1 = omega arith in
    get_or-map-range_with_len (λ n. first_item (λ (r : Ring). eqb r.face n) (glued_rings (whole_in c))) 1 (length (whole_in c).faces + 1) k (k + 1) d lt z
