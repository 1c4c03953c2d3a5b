-- New values in the columns of a table, and that they fit its columns with their new kinds.
use Rattle.std.proofs.Common.{[], ◌≡◌, ◌≢◌, ℕ, zero, suc, ◌<◌, ◌^◌, false, List, ◌∷◌, length, map, get_or, Option, Some, None, slice_get, unwrap_or, refl, sym, ap, ◌∙◌, subst, inl, inr, arith}
use Rattle.std.specs.Prelude.{All, IsTrue, codes}
use Rattle.std.specs.List.{AllByRecursion}
use Rattle.std.specs.Option.{IsSomeAnd, option_map}
use Rattle.std.proofs.lemmas.Bool.{cases_eq, eq-eqb, ne_eqb}
use Rattle.std.proofs.lemmas.List.Elements.{All-from_recursion}
use Rattle.vpf_triplet.specs.declared.kinds.Count.{Count}
use Rattle.vpf_triplet.specs.declared.kinds.Count.TheVariants.{Fixed}
use Rattle.vpf_triplet.specs.declared.kinds.Kind.{Kind}
use Rattle.vpf_triplet.specs.declared.kinds.Kind.TheVariants as kinds
use Rattle.vpf_triplet.specs.declared.triplets.Triplet.{Triplet}
use Rattle.vpf_triplet.specs.Reading.{is_small}
use Rattle.vpf_value.specs.Inner.Fitting.{FitsCell}
use Rattle.vpf_value.specs.Values.{TripletOf, Value}
use Rattle.vpf_head.specs.Folding.{same_name}
use Rattle.vpf_head.specs.Head.{Col, Head}
use Rattle.vpf_table.specs.Canonical.{FitsRow}
use Rattle.vpf_table.specs.Grid.{Row}
use Rattle.vpf_write.specs.declared.revise.changes.NewKind.{NewKind}
use Rattle.vpf_write.specs.Revise.Revising.{FitsElsewhere, FitsIn, NewValue, head_with_kinds, kind_for, revised_column, with_kinds}
use Rattle.vpf_primitive_tables.specs.declared.table_forms.places.EdgePlaces.{EdgePlaces}
use Rattle.vpf_primitive_tables.specs.declared.table_forms.places.PairPlaces.{PairPlaces}
use Rattle.vpf_primitive_tables.specs.declared.table_forms.places.RingPlaces.{RingPlaces}
use Rattle.vpf_primitive_tables.specs.TableForms.Forms.{AreOfKind, EdgeValues, edge_kinds_of, edge_values_of, id_kinds, named_value, natural_value, pair_kinds, pair_values, ring_kinds, ring_values}
use Rattle.vpf_primitive_tables.specs.Inner.TableForms.Places.{AreEdgePlaces, ArePairPlaces, AreRingPlaces, IsColumnAt}
use Rattle.vpf_primitive_tables.specs.Inner.TileReading.ChangeLaws.{places_differ}
use Rattle.vpf_tiling.specs.Tiles.{Ring}

-- a new kind for a column, and a new value
abbrev pub kind_at : ℕ → Kind → NewKind
kind_at c kind = record { column = c; kind = kind }

abbrev pub value_put : ℕ → Value → NewValue
value_put c v = record { column = c; value = v }

-- a new number
abbrev pub number_put : ℕ → ℕ → NewValue
number_put c n = value_put c (natural_value n)

-- what the law of columns with new kinds says
abbrev pub PlacesColumns : Type 0
PlacesColumns = (kinds : List NewKind) (columns : List Col) (c : ℕ) → slice_get (with_kinds kinds columns) c ≡ option_map (revised_column kinds c) (slice_get columns c)

-- numbers fit a column of kind I, and ids one of kind K
abbrev pub NumbersFit : Type 0
NumbersFit = (n : ℕ) → n < 2 ^ 31 → FitsCell kinds.I (Fixed 1) (natural_value n)

abbrev pub IdsFit : Type 0
IdsFit = (id : Triplet) → IsTrue (is_small id.id) → IsTrue (is_small id.tile) → IsTrue (is_small id.ext) → FitsCell kinds.K (Fixed 1) (TripletOf id)

-- a value of its new kind fits a column of one value
one_fits : (news : List NewKind) (c : ℕ) (kind : Kind) (v : Value) (o : Option Col) → kind_for c news ≡ Some kind → FitsCell kind (Fixed 1) v
    → IsSomeAnd o (λ column. column.count ≡ Fixed 1) → IsSomeAnd (option_map (revised_column news c) o) (λ column. FitsCell column.kind column.count v)
one_fits news c kind v None e fits one = one
one_fits news c kind v (Some x) e fits one =
    subst (λ (count : Count). FitsCell (unwrap_or (kind_for c news) x.kind) count v) (sym one)
    (subst (λ (o : Option Kind). FitsCell (unwrap_or o x.kind) (Fixed 1) v) (sym e) fits)

pub fits_there : PlacesColumns → (news : List NewKind) (columns : List Col) (c : ℕ) (kind : Kind) (v : Value) → kind_for c news ≡ Some kind
    → IsSomeAnd (slice_get columns c) (λ column. column.count ≡ Fixed 1) → FitsCell kind (Fixed 1) v → FitsIn (with_kinds news columns) (value_put c v)
fits_there law news columns c kind v e one fits =
    subst (λ (o : Option Col). IsSomeAnd o (λ column. FitsCell column.kind column.count v)) (sym (law news columns c))
    (one_fits news c kind v (slice_get columns c) e fits one)

-- new values that fit are those of a table with such a header
pub news_fit : (h g : Head) (kinds : List NewKind) (news puts : List NewValue) → h ≡ head_with_kinds kinds g → news ≡ puts → All (FitsIn (with_kinds kinds g.columns)) puts
    → All (FitsIn h.columns) news
news_fit h g kinds news puts e f fits =
    subst (λ (h : Head). All (FitsIn h.columns) news) (sym e) (subst (λ (news : List NewValue). All (FitsIn (with_kinds kinds g.columns)) news) (sym f) fits)

-- what the law of rows says where new values and new kinds are for the same columns
abbrev pub KeepsOthers : Type 0
KeepsOthers = (kinds : List NewKind) (changes : List NewValue) (columns : List Col) (row : Row) → map (λ (kind : NewKind). kind.column) kinds ≡ map (λ (new : NewValue). new.column) changes
    → FitsRow columns row → FitsElsewhere changes (with_kinds kinds columns) row

-- and the other values of a row fit it
pub others_fit : KeepsOthers → (h g : Head) (kinds shown : List NewKind) (news puts : List NewValue) (row : Row) → h ≡ head_with_kinds kinds g → news ≡ puts → kinds ≡ shown
    → map (λ (kind : NewKind). kind.column) shown ≡ map (λ (new : NewValue). new.column) puts → FitsRow g.columns row → FitsElsewhere news h.columns row
others_fit law h g kinds shown news puts row e f s same fits =
    let kept : FitsElsewhere puts (with_kinds kinds g.columns) row = law kinds puts g.columns row (ap (λ (kinds : List NewKind). map (λ (kind : NewKind). kind.column) kinds) s ∙ same) fits in
    subst (λ (h : Head). FitsElsewhere news h.columns row) (sym e) (subst (λ (news : List NewValue). FitsElsewhere news (with_kinds kinds g.columns) row) (sym f) kept)

kind_head : (x : NewKind) (xs : List NewKind) (c : ℕ) → x.column ≡ c → kind_for c (x ∷ xs) ≡ Some x.kind
kind_head x xs c e = rw (eq-eqb x.column c e) refl

kind_tail : (x : NewKind) (xs : List NewKind) (c : ℕ) → x.column ≢ c → kind_for c (x ∷ xs) ≡ kind_for c xs
kind_tail x xs c e = rw (ne_eqb x.column c e) refl

-- where all new kinds are one, each column of them has it
same_kind_for : (kind : Kind) (news : List NewKind) (k : ℕ) (d : NewKind) → AllByRecursion (λ (x : NewKind). x.kind ≡ kind) news → k < length news
    → kind_for (get_or news k d).column news ≡ Some kind
same_kind_for kind [] k d all h = absurd (omega arith)
same_kind_for kind (x ∷ xs) zero d all h = kind_head x xs x.column refl ∙ ap Some all.0
same_kind_for kind (x ∷ xs) (suc k) d all h = elim (cases_eq x.column (get_or xs k d).column) [
  | inl same ↦ kind_head x xs (get_or xs k d).column same ∙ ap Some all.0
  | inr other ↦ kind_tail x xs (get_or xs k d).column other ∙ same_kind_for kind xs k d all.1 (omega arith)
]

-- ---- ids alone

pub id_kinds_are : (columns : List Col) (c : ℕ) → IsColumnAt columns (codes "id") c → id_kinds columns ≡ kind_at c kinds.I ∷ []
id_kinds_are columns c at = rw at.place refl

pub id_values_are : (columns : List Col) (c k : ℕ) → IsColumnAt columns (codes "id") c → named_value columns (codes "id") (natural_value k) ≡ number_put c k ∷ []
id_values_are columns c k at = rw at.place refl

-- the new value of a row fits
pub id_fits : PlacesColumns → NumbersFit → (columns : List Col) (c k : ℕ) → IsColumnAt columns (codes "id") c → k < 2 ^ 31
    → All (FitsIn (with_kinds (kind_at c kinds.I ∷ []) columns)) (number_put c k ∷ [])
id_fits law numbers columns c k at small =
    let news : List NewKind = kind_at c kinds.I ∷ [] in
    let all : AllByRecursion (λ (x : NewKind). x.kind ≡ kinds.I) news = (refl, tt) in
    let fits : NewValue → Type 0 = FitsIn (with_kinds news columns) in
    let id = fits_there law news columns c kinds.I (natural_value k) (same_kind_for kinds.I news 0 (kind_at 0 kinds.I) all (omega arith)) at.one (numbers k small) in
    All-from_recursion fits (number_put c k ∷ []) (id, tt)

-- ---- ids and one other column

pub pair_kinds_are : (name : List ℕ) (columns : List Col) (p : PairPlaces) → ArePairPlaces name columns p
    → pair_kinds name columns ≡ kind_at p.id kinds.I ∷ kind_at p.reference kinds.I ∷ []
pair_kinds_are name columns p a = rw (a.id.place, a.reference.place) refl

pub pair_values_are : (name : List ℕ) (columns : List Col) (p : PairPlaces) (k n : ℕ) → ArePairPlaces name columns p
    → pair_values name columns k n ≡ number_put p.id k ∷ number_put p.reference n ∷ []
pair_values_are name columns p k n a = rw (a.id.place, a.reference.place) refl

-- the new values of a row fit
pub pair_fits : PlacesColumns → NumbersFit → (name : List ℕ) (columns : List Col) (p : PairPlaces) (k n : ℕ) → ArePairPlaces name columns p → k < 2 ^ 31 → n < 2 ^ 31
    → All (FitsIn (with_kinds (pair_kinds name columns) columns)) (number_put p.id k ∷ number_put p.reference n ∷ [])
pair_fits law numbers name columns p k n a small few =
    let news : List NewKind = kind_at p.id kinds.I ∷ kind_at p.reference kinds.I ∷ [] in
    let d : NewKind = kind_at 0 kinds.I in
    let all : AllByRecursion (λ (x : NewKind). x.kind ≡ kinds.I) news = (refl, (refl, tt)) in
    let id = fits_there law news columns p.id kinds.I (natural_value k) (same_kind_for kinds.I news 0 d all (omega arith)) a.id.one (numbers k small) in
    let reference = fits_there law news columns p.reference kinds.I (natural_value n) (same_kind_for kinds.I news 1 d all (omega arith)) a.reference.one (numbers n few) in
    let fits : NewValue → Type 0 = FitsIn (with_kinds news columns) in
    rw (pair_kinds_are name columns p a)
    (All-from_recursion fits (number_put p.id k ∷ number_put p.reference n ∷ []) (id, (reference, tt)))

-- ---- rings

pub ring_kinds_are : (columns : List Col) (p : RingPlaces) → AreRingPlaces columns p
    → ring_kinds columns ≡ kind_at p.id kinds.I ∷ kind_at p.face kinds.I ∷ kind_at p.start_edge kinds.I ∷ []
ring_kinds_are columns p a = rw (a.id.place, a.face.place, a.start_edge.place) refl

pub ring_values_are : (columns : List Col) (p : RingPlaces) (k : ℕ) (r : Ring) → AreRingPlaces columns p
    → ring_values columns k r ≡ number_put p.id k ∷ number_put p.face r.face ∷ number_put p.start_edge r.edge ∷ []
ring_values_are columns p k r a = rw (a.id.place, a.face.place, a.start_edge.place) refl

pub ring_fits : PlacesColumns → NumbersFit → (columns : List Col) (p : RingPlaces) (k : ℕ) (r : Ring) → AreRingPlaces columns p → k < 2 ^ 31 → r.face < 2 ^ 31 → r.edge < 2 ^ 31
    → All (FitsIn (with_kinds (ring_kinds columns) columns)) (number_put p.id k ∷ number_put p.face r.face ∷ number_put p.start_edge r.edge ∷ [])
ring_fits law numbers columns p k r a small face edge =
    let news : List NewKind = kind_at p.id kinds.I ∷ kind_at p.face kinds.I ∷ kind_at p.start_edge kinds.I ∷ [] in
    let d : NewKind = kind_at 0 kinds.I in
    let all : AllByRecursion (λ (x : NewKind). x.kind ≡ kinds.I) news = (refl, (refl, (refl, tt))) in
    let fits : NewValue → Type 0 = FitsIn (with_kinds news columns) in
    let first = fits_there law news columns p.id kinds.I (natural_value k) (same_kind_for kinds.I news 0 d all (omega arith)) a.id.one (numbers k small) in
    let second = fits_there law news columns p.face kinds.I (natural_value r.face) (same_kind_for kinds.I news 1 d all (omega arith)) a.face.one (numbers r.face face) in
    let third = fits_there law news columns p.start_edge kinds.I (natural_value r.edge) (same_kind_for kinds.I news 2 d all (omega arith)) a.start_edge.one (numbers r.edge edge) in
    rw (ring_kinds_are columns p a)
    (All-from_recursion fits (number_put p.id k ∷ number_put p.face r.face ∷ number_put p.start_edge r.edge ∷ []) (first, (second, (third, tt))))

-- ---- edges

-- the new kinds of the references of edges
abbrev pub reference_kinds : Kind → EdgePlaces → List NewKind
reference_kinds kind p =
    kind_at p.start_node kind
    ∷ kind_at p.end_node kind
    ∷ kind_at p.right_face kind
    ∷ kind_at p.left_face kind
    ∷ kind_at p.right_edge kind
    ∷ kind_at p.left_edge kind ∷ []

pub edge_kinds_are : (kind : Kind) (columns : List Col) (p : EdgePlaces) → AreEdgePlaces columns p
    → edge_kinds_of kind columns ≡ kind_at p.id kinds.I ∷ reference_kinds kind p
edge_kinds_are kind columns p a =
    rw (a.id.place, a.start_node.place, a.end_node.place, a.right_face.place, a.left_face.place, a.right_edge.place, a.left_edge.place) refl

-- the new values of an edge by their places
abbrev pub edge_puts : EdgePlaces → ℕ → EdgeValues → List NewValue
edge_puts p k v =
    number_put p.id k
    ∷ value_put p.start_node v.start_node
    ∷ value_put p.end_node v.end_node
    ∷ value_put p.right_face v.right_face
    ∷ value_put p.left_face v.left_face
    ∷ value_put p.right_edge v.right_edge
    ∷ value_put p.left_edge v.left_edge ∷ []

pub edge_values_are : (columns : List Col) (p : EdgePlaces) (k : ℕ) (v : EdgeValues) → AreEdgePlaces columns p → edge_values_of columns k v ≡ edge_puts p k v
edge_values_are columns p k v a =
    rw (a.id.place, a.start_node.place, a.end_node.place, a.right_face.place, a.left_face.place, a.right_edge.place, a.left_edge.place) refl

-- a reference of an edge fits its column, which isn't that of ids
reference_fits : PlacesColumns → (kind : Kind) (columns : List Col) (p : EdgePlaces) (k : ℕ) (name : List ℕ) (v : Value) → IsColumnAt columns (codes "id") p.id
    → IsColumnAt columns name (get_or (reference_kinds kind p) k (kind_at 0 kind)).column → same_name (codes "id") name ≡ false → k < 6 → FitsCell kind (Fixed 1) v
    → FitsIn (with_kinds (kind_at p.id kinds.I ∷ reference_kinds kind p) columns) (value_put (get_or (reference_kinds kind p) k (kind_at 0 kind)).column v)
reference_fits law kind columns p k name v id at other h fits =
    let c : ℕ = (get_or (reference_kinds kind p) k (kind_at 0 kind)).column in
    let apart = places_differ (codes "id") name columns p.id c other id.place at.place in
    let all : AllByRecursion (λ (x : NewKind). x.kind ≡ kind) (reference_kinds kind p) = (refl, (refl, (refl, (refl, (refl, (refl, tt)))))) in
    fits_there law (kind_at p.id kinds.I ∷ reference_kinds kind p) columns c kind v
    (kind_tail (kind_at p.id kinds.I) (reference_kinds kind p) c apart ∙ same_kind_for kind (reference_kinds kind p) k (kind_at 0 kind) all h) at.one fits

pub edge_fits : PlacesColumns → NumbersFit → (kind : Kind) (columns : List Col) (p : EdgePlaces) (k : ℕ) (v : EdgeValues) → AreEdgePlaces columns p → k < 2 ^ 31
    → AreOfKind kind v → All (FitsIn (with_kinds (edge_kinds_of kind columns) columns)) (edge_puts p k v)
edge_fits law numbers kind columns p k v a small r =
    let news : List NewKind = kind_at p.id kinds.I ∷ reference_kinds kind p in
    let fits : NewValue → Type 0 = FitsIn (with_kinds news columns) in
    let first = fits_there law news columns p.id kinds.I (natural_value k) (kind_head (kind_at p.id kinds.I) (reference_kinds kind p) p.id refl) a.id.one (numbers k small) in
    let start_node : fits (value_put p.start_node v.start_node) = reference_fits law kind columns p 0 (codes "start_node") v.start_node a.id a.start_node refl (omega arith) r.start_node in
    let end_node : fits (value_put p.end_node v.end_node) = reference_fits law kind columns p 1 (codes "end_node") v.end_node a.id a.end_node refl (omega arith) r.end_node in
    let right_face : fits (value_put p.right_face v.right_face) = reference_fits law kind columns p 2 (codes "right_face") v.right_face a.id a.right_face refl (omega arith) r.right_face in
    let left_face : fits (value_put p.left_face v.left_face) = reference_fits law kind columns p 3 (codes "left_face") v.left_face a.id a.left_face refl (omega arith) r.left_face in
    let right_edge : fits (value_put p.right_edge v.right_edge) = reference_fits law kind columns p 4 (codes "right_edge") v.right_edge a.id a.right_edge refl (omega arith) r.right_edge in
    let left_edge : fits (value_put p.left_edge v.left_edge) = reference_fits law kind columns p 5 (codes "left_edge") v.left_edge a.id a.left_edge refl (omega arith) r.left_edge in
    rw (edge_kinds_are kind columns p a)
    (All-from_recursion fits (edge_puts p k v) (first, (start_node, (end_node, (right_face, (left_face, (right_edge, (left_edge, tt))))))))

-- lists of seven whose items are the same
pub seven_same : {a b c d e f g p q r s t u v : NewValue} → a ≡ p → b ≡ q → c ≡ r → d ≡ s → e ≡ t → f ≡ u → g ≡ v
    → a ∷ b ∷ c ∷ d ∷ e ∷ f ∷ g ∷ [] ≡ p ∷ q ∷ r ∷ s ∷ t ∷ u ∷ v ∷ []
seven_same h i j k l m n = cc
