-- The rows of tables of tiles fit their columns, which have new kinds.
use Rattle.std.proofs.Common.{◌≡◌, ℕ, suc, ◌+◌, ◌<◌, ◌≤◌, ◌^◌, List, [], ◌∷◌, length, map, codes, refl, sym, ap, ◌∙◌, subst, arith}
use Rattle.std.specs.Prelude.{All}
use Rattle.std.specs.List.{AllByRecursion, IsDistinct}
use Rattle.std.proofs.lemmas.List.Elements.{All-from_recursion}
use Rattle.vpf_triplet.specs.Canonical.{HasSmallParts}
use Rattle.vpf_triplet.specs.declared.kinds.Count.TheVariants.{Fixed}
use Rattle.vpf_triplet.specs.declared.kinds.Kind.TheVariants as kinds
use Rattle.vpf_triplet.specs.declared.triplets.Triplet.{Triplet}
use Rattle.vpf_value.specs.Inner.Fitting.{FitsCell}
use Rattle.vpf_value.specs.Values.{TripletOf}
use Rattle.vpf_head.specs.Folding.{same_name}
use Rattle.vpf_head.specs.Head.{Col, names}
use Rattle.vpf_table.specs.Canonical.{FitsRow}
use Rattle.vpf_table.specs.Grid.{Row}
use Rattle.vpf_prims.specs.Primitives.{EdgePrimitive}
use Rattle.vpf_prims.specs.Roles.{ring_roles}
use Rattle.vpf_prims.specs.Suiting.{carried_columns}
use Rattle.vpf_write.specs.declared.revise.changes.NewKind.{NewKind}
use Rattle.vpf_write.specs.Revise.Revising.{FitsElsewhere, FitsIn, NewValue, revised, with_kinds}
use Rattle.vpf_tiling.specs.Ranks.{numbered, numbered_from}
use Rattle.vpf_tiling.specs.Tiles.{Ring}
use Rattle.vpf_primitive_tables.specs.TableForms.Forms.{AreOfKind, bare_row, id_kinds, named_value, natural_value, pair_kinds, pair_values, ring_kinds, ring_values}
use Rattle.vpf_primitive_tables.specs.TileTables.Grids.{id_values, edge_kinds, edge_values}
use Rattle.vpf_primitive_tables.specs.Inner.TableForms.Places.{AreEdgePlaces, ArePairPlaces, AreRingPlaces, IsColumnAt}
use Rattle.vpf_primitive_tables.proofs.table_forms.NewCellLemmas.{IdsFit, KeepsOthers, NumbersFit, PlacesColumns, edge_fits, edge_kinds_are, edge_puts, edge_values_are, id_fits, id_kinds_are, id_values_are, number_put, pair_fits, pair_kinds_are, pair_values_are, ring_fits, ring_values_are}
use Rattle.vpf_primitive_tables.proofs.table_forms.RingLemmas.{others_covered, ring_puts}
use Rattle.vpf_primitive_tables.proofs.tile_writing.SmallReferences.{HasSmall}
use Rattle.vpf_primitive_tables.proofs.tile_writing.SoundKinds.{StaysSound}

-- what the law of revised rows says of a row whose new values fit
abbrev pub FitsRevised : Type 0
FitsRevised = (changes : List NewValue) (columns : List Col) (row : Row) → All (FitsIn columns) changes → FitsElsewhere changes columns row
    → FitsRow columns (revised changes row)

-- what the laws of headers and rows say
pub record MadeLaws : Type 0 where
  pub sound : StaysSound
  pub width : (news : List NewKind) (columns : List Col) → length (with_kinds news columns) ≡ length columns
  pub named : (news : List NewKind) (columns : List Col) → names (with_kinds news columns) ≡ names columns
  pub places : PlacesColumns
  pub others : KeepsOthers
  pub row : FitsRevised
  pub numbers : NumbersFit
  pub ids : IdsFit

-- ---- lists of rows

numbered_from_all : {X : Type 0} (Q : Row → Type 0) (P : X → Type 0) (row : ℕ → X → Row) (last n : ℕ) (xs : List X) → n + length xs ≤ last + 1
    → AllByRecursion P xs
    → ((k : ℕ) (x : X) → k ≤ last → P x → Q (row k x)) → AllByRecursion Q (numbered_from n row xs)
numbered_from_all Q P row last n [] few all each = tt
numbered_from_all Q P row last n (x ∷ xs) few all each = (each n x (omega arith) all.0, numbered_from_all Q P row last (suc n) xs (omega arith) all.1 each)

-- rows with their numbers, which are at most as many
pub numbered_all : {X : Type 0} (Q : Row → Type 0) (P : X → Type 0) (row : ℕ → X → Row) (xs : List X) → AllByRecursion P xs
    → ((k : ℕ) (x : X) → k ≤ length xs → P x → Q (row k x)) → All Q (numbered row xs)
numbered_all Q P row xs all each =
    All-from_recursion Q (numbered row xs) (numbered_from_all Q P row (length xs) 1 xs (let e : 1 + length xs ≤ length xs + 1 = omega arith in e) all each)

-- ---- rows

-- new values that fit are put into a row that fits
put_row : MadeLaws → (news shown : List NewKind) (values puts : List NewValue) (columns : List Col) (row : Row) → news ≡ shown → values ≡ puts
    → map (λ (kind : NewKind). kind.column) shown ≡ map (λ (new : NewValue). new.column) puts → All (FitsIn (with_kinds news columns)) puts
    → FitsRow columns row
    → FitsRow (with_kinds news columns) (revised values row)
put_row l news shown values puts columns row e f same all fits =
    subst (λ (values : List NewValue). FitsRow (with_kinds news columns) (revised values row)) (sym f)
    (l.row puts (with_kinds news columns) row all
    (l.others news puts columns row (ap (λ (news : List NewKind). map (λ (kind : NewKind). kind.column) news) e ∙ same) fits))

-- a row with a new id
pub id_row : MadeLaws → (columns : List Col) (c k : ℕ) (row : Row) → IsColumnAt columns (codes "id") c → k < 2 ^ 31 → FitsRow columns row
    → FitsRow (with_kinds (id_kinds columns) columns) (revised (named_value columns (codes "id") (natural_value k)) row)
id_row l columns c k row at small fits =
    let puts : List NewValue = number_put c k ∷ [] in
    let all : All (FitsIn (with_kinds (id_kinds columns) columns)) puts =
    subst (λ (news : List NewKind). All (FitsIn (with_kinds news columns)) puts) (sym (id_kinds_are columns c at))
    (id_fits l.places l.numbers columns c k at small) in
    put_row l (id_kinds columns) _ (named_value columns (codes "id") (natural_value k)) puts columns row (id_kinds_are columns c at)
    (id_values_are columns c k at) refl all fits

-- a row with a new id and one new reference
pub pair_row : MadeLaws → (name : List ℕ) (columns : List Col) (p : _) (k n : ℕ) (row : Row) → ArePairPlaces name columns p → k < 2 ^ 31 → n < 2 ^ 31
    → FitsRow columns row
    → FitsRow (with_kinds (pair_kinds name columns) columns) (revised (pair_values name columns k n) row)
pair_row l name columns p k n row a small few fits =
    put_row l (pair_kinds name columns) _ (pair_values name columns k n) (number_put p.id k ∷ number_put p.reference n ∷ []) columns row
    (pair_kinds_are name columns p a) (pair_values_are name columns p k n a) refl
    (pair_fits l.places l.numbers name columns p k n a small few) fits

-- the references of an edge fit
references_fit : MadeLaws → (e : EdgePrimitive) → HasSmall e → AreOfKind kinds.K (id_values e)
references_fit l e small = record {
  start_node = fits e.start_node small.start_node;
  end_node = fits e.end_node small.end_node;
  right_face = fits e.right_face small.right_face;
  left_face = fits e.left_face small.left_face;
  right_edge = fits e.right_edge small.right_edge;
  left_edge = fits e.left_edge small.left_edge;
}
  where
    fits : (t : Triplet) → HasSmallParts t → FitsCell kinds.K (Fixed 1) (TripletOf t)
    fits t small = l.ids t small.id small.tile small.ext

-- a row of an edge
pub edge_row : MadeLaws → (columns : List Col) (p : _) (k : ℕ) (e : EdgePrimitive) (row : Row) → AreEdgePlaces columns p → k < 2 ^ 31 → HasSmall e
    → FitsRow columns row
    → FitsRow (with_kinds (edge_kinds columns) columns) (revised (edge_values columns k e) row)
edge_row l columns p k e row a small references fits =
    put_row l (edge_kinds columns) _ (edge_values columns k e) (edge_puts p k (id_values e)) columns row (edge_kinds_are kinds.K columns p a)
    (edge_values_are columns p k (id_values e) a) refl (edge_fits l.places l.numbers kinds.K columns p k (id_values e) a small (references_fit l e references)) fits

-- the row of a ring, all of whose columns have new values
pub ring_row : MadeLaws → (columns : List Col) (p : _) (k : ℕ) (r : Ring) → IsDistinct same_name (names columns) → carried_columns ring_roles columns ≡ []
    → AreRingPlaces columns p
    → k < 2 ^ 31 → r.face < 2 ^ 31 → r.edge < 2 ^ 31 → FitsRow (with_kinds (ring_kinds columns) columns) (revised (ring_values columns k r) (bare_row columns))
ring_row l columns p k r apart bare a small face edge =
    let wider : List Col = with_kinds (ring_kinds columns) columns in
    subst (λ (values : List NewValue). FitsRow wider (revised values (bare_row columns))) (sym (ring_values_are columns p k r a))
    (l.row (ring_puts p k r) wider (bare_row columns) (ring_fits l.places l.numbers columns p k r a small face edge)
    (others_covered columns wider p k r apart bare a (l.width (ring_kinds columns) columns)))
