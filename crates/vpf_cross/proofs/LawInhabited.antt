-- There is no finding on entity nodes exactly where each lies in a face of its tile.
use Rattle.std.proofs.Common.{◌≡◌, ◌≢◌, ℕ, zero, suc, ◌+◌, not, eqb, refl, sym, ap, ◌∙◌, subst, arith, Option, Some, None, List, [], length}
use Rattle.std.specs.Option.{option_map, unwrap_or}
use Rattle.std.proofs.lemmas.Bool.{eqb-false, ne_eqb, not-true, not_from_false}
use Rattle.std.proofs.lemmas.List.{length-map}
use Rattle.vpf_table.specs.Grid.{Grid}
use Rattle.vpf_findings.specs.Inner.FirstLaws.{over_none, over_silent}
use Rattle.vpf_prims.specs.Lists.{kth}
use Rattle.vpf_prims.specs.Numbering.{IsRowOf}
use Rattle.vpf_prims.specs.Primitives.{EntityPrimitive, absent_entity, entities_in}
use Rattle.vpf_prims.specs.Reading.{primitives_of, rows_said, entity_in_row}
use Rattle.vpf_prims.specs.References.{id_of}
use Rattle.vpf_prims.specs.Tables.{TileTables}
use Rattle.vpf_prims.specs.Coverages.{tile_at}
use Rattle.vpf_prims.specs.Libraries.{primitives_in, library_of}
use Rattle.vpf_follow.specs.Inner.TileLaws.{unless-none, unless-true, tiles-none, tiles-silent}
use Rattle.vpf_cross.specs.CarriedLines.{universe_entity_line, inhabited_finding_in, inhabited_finding}
use Rattle.vpf_cross.specs.Inner.Laws.{InhabitedDecides}

-- the entity nodes of a tile, and that one of them lies in a face
abbrev entities_of : TileTables → List EntityPrimitive
entities_of T = entities_in (Some (primitives_of T.tables))

abbrev IsInFace : List EntityPrimitive → ℕ → Type 0
IsInFace entities n = id_of (kth entities n absent_entity).containing_face ≢ 1

entities_said : (T : TileTables) (o : Option Grid) → T.tables.end ≡ o → entities_of T ≡ unwrap_or (option_map (rows_said entity_in_row) o) []
entities_said T o e = ap (λ x. unwrap_or (option_map (rows_said entity_in_row) x) []) e

line_none : (t : ℕ) (T : TileTables) (end : Grid) (n : ℕ) → universe_entity_line t T end n (kth (entities_of T) n absent_entity) ≡ None
    → IsInFace (entities_of T) n
line_none t T end n none =
    let id : ℕ = id_of (kth (entities_of T) n absent_entity).containing_face in
    eqb-false (id_of (kth (entities_of T) n absent_entity).containing_face) 1 (not-true (eqb id 1) (unless-none (not (eqb id 1)) _ none))

line_silent : (t : ℕ) (T : TileTables) (end : Grid) (n : ℕ) → IsInFace (entities_of T) n
    → universe_entity_line t T end n (kth (entities_of T) n absent_entity) ≡ None
line_silent t T end n h =
    let id : ℕ = id_of (kth (entities_of T) n absent_entity).containing_face in
    unless-true (not (eqb id 1)) _ (not_from_false (eqb id 1) (ne_eqb (id_of (kth (entities_of T) n absent_entity).containing_face) 1 h))

tile_none : (t : ℕ) (T : TileTables) (o : Option Grid) → T.tables.end ≡ o → inhabited_finding_in t T o ≡ None → (n : ℕ) → IsRowOf (length (entities_of T)) n
    → IsInFace (entities_of T) n
tile_none t T None e none n row =
    let count : length (entities_of T) ≡ 0 = ap length (entities_said T None e) in
    let low = row.0 in
    let high = row.1 in
    absurd (omega arith)
tile_none t T (Some end) e none zero row = let low = row.0 in absurd (omega arith)
tile_none t T (Some end) e none (suc i) row =
    let count : length (entities_of T) ≡ length end.rows = ap length (entities_said T (Some end) e) ∙ length-map end.rows (entity_in_row end.head.columns) in
    let high = row.1 in
    let k : i + 1 ≡ suc i = omega arith in
    let here =
    over_none (λ i. universe_entity_line t T end (i + 1) (kth (entities_of T) (i + 1) absent_entity)) 0 (length end.rows) none i (omega arith) (omega arith) in
    subst (IsInFace (entities_of T)) k (line_none t T end (i + 1) here)

tile_silent : (t : ℕ) (T : TileTables) (o : Option Grid) → T.tables.end ≡ o → ((n : ℕ) → IsRowOf (length (entities_of T)) n → IsInFace (entities_of T) n)
    → inhabited_finding_in t T o ≡ None
tile_silent t T None e h = refl
tile_silent t T (Some end) e h =
    let count : length (entities_of T) ≡ length end.rows = ap length (entities_said T (Some end) e) ∙ length-map end.rows (entity_in_row end.head.columns) in
    over_silent (λ i. universe_entity_line t T end (i + 1) (kth (entities_of T) (i + 1) absent_entity)) 0 (length end.rows) (λ i low high.
    line_silent t T end (i + 1) (h (i + 1) (omega arith, omega arith)))

-- an empty tile has no entity nodes
tile_there : (o : Option TileTables) (n : ℕ) → IsRowOf (length (entities_in (primitives_in o))) n → (T : TileTables) × (o ≡ Some T)
tile_there None n row = let low = row.0 in let high = row.1 in absurd (omega arith)
tile_there (Some T) n row = (T, refl)

pub inhabited_decides : InhabitedDecides
inhabited_decides c = (
  λ none t n row. (
      let T = tile_there (tile_at c t) n row in
      let e : entities_in ((library_of c).tile t) ≡ entities_of T.0 = ap (λ o. entities_in (primitives_in o)) T.1 in
      let row' = subst (λ xs. IsRowOf (length xs) n) e row in
      subst (λ xs. IsInFace xs n) (sym e) (tile_none t T.0 T.0.tables.end refl (tiles-none inhabited_finding c none t T.0 T.1) n row')),
  λ h. tiles-silent inhabited_finding c (λ t T is. (
      let e : entities_in ((library_of c).tile t) ≡ entities_of T = ap (λ o. entities_in (primitives_in o)) is in
      tile_silent t T T.tables.end refl (λ n row. subst (λ xs. IsInFace xs n) e (h t n (subst (λ xs. IsRowOf (length xs) n) (sym e) row))))),
)
