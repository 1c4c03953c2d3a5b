-- Rows of rings: all their columns have new values, so it doesn't matter what stood there.
use Rattle.std.proofs.Common.{[], ◌≡◌, ◌≢◌, ℕ, zero, suc, ◌<◌, Bool, true, false, not, ◌||◌, List, ◌∷◌, length, map, get_or, Option, Some, None, slice_get, unwrap_or, refl, sym, ap, ◌∙◌, subst, inl, inr, arith}
use Rattle.std.specs.Prelude.{codes, filter}
use Rattle.std.specs.List.{IsDistinct}
use Rattle.std.specs.Option.{option_map}
use Rattle.std.proofs.Math.ListN.{set}
use Rattle.std.proofs.lemmas.Bool.{cases_Bool, cases_eq, eq-eqb, false≢true, ne_eqb, or_cases}
use Rattle.std.proofs.lemmas.Grind.{get_or-set_at}
use Rattle.std.proofs.lemmas.List.{get_or-map, get_or-set_other, length-map, length-set, map-set, same_lists}
use Rattle.std.proofs.lemmas.Option.{get_or_from_slice_get, slice_get-get_or, slice_get_within}
use Rattle.vpf_triplet.specs.declared.kinds.Count.TheVariants.{Star}
use Rattle.vpf_triplet.specs.declared.kinds.Kind.TheVariants as kinds
use Rattle.vpf_value.specs.declared.cells.Cell.{Cell}
use Rattle.vpf_value.specs.Values.{Nothing, Value, view}
use Rattle.vpf_head.specs.declared.columns.Key.TheVariants as keys
use Rattle.vpf_head.specs.Folding.{same_name}
use Rattle.vpf_head.specs.Head.{Col, names}
use Rattle.vpf_table.specs.Grid.{Row}
use Rattle.vpf_prims.specs.Reading.{has_role}
use Rattle.vpf_prims.specs.Roles.{ring_roles}
use Rattle.vpf_prims.specs.Suiting.{carried_columns}
use Rattle.vpf_write.specs.Revise.Revising.{FitsElsewhere, NewValue, revised, revised_value, value_for}
use Rattle.vpf_tiling.specs.Tiles.{Ring}
use Rattle.vpf_primitive_tables.specs.declared.table_forms.places.RingPlaces.{RingPlaces}
use Rattle.vpf_primitive_tables.specs.TableForms.Forms.{bare_row, natural_value, ring_values}
use Rattle.vpf_primitive_tables.specs.Inner.TableForms.Places.{AreRingPlaces}
use Rattle.vpf_primitive_tables.specs.Inner.TableForms.ColumnLaws.{place_is}
use Rattle.vpf_primitive_tables.proofs.table_forms.NewCellLemmas.{number_put, ring_values_are}

-- a row with these new values, of several for one column the first
abbrev pub puts : List NewValue → Row → Row
puts [] row = row
puts (new ∷ news) row = set (puts news row) new.column new.value

length-puts : (news : List NewValue) (row : Row) → length (puts news row) ≡ length row
length-puts [] row = refl
length-puts (new ∷ news) row = length-set (puts news row) new.column new.value ∙ length-puts news row

value_head : (new : NewValue) (news : List NewValue) (c : ℕ) → new.column ≡ c → value_for c (new ∷ news) ≡ Some new.value
value_head new news c e = rw (eq-eqb new.column c e) refl

value_tail : (new : NewValue) (news : List NewValue) (c : ℕ) → new.column ≢ c → value_for c (new ∷ news) ≡ value_for c news
value_tail new news c e = rw (ne_eqb new.column c e) refl

puts_at : (news : List NewValue) (row : Row) (c : ℕ) (d : Value) → c < length row → get_or (puts news row) c d ≡ unwrap_or (value_for c news) (get_or row c d)
puts_at [] row c d h = refl
puts_at (new ∷ news) row c d h = elim (cases_eq new.column c) [
  | inl same ↦
      get_or-set_at (puts news row) new.column c new.value d (sym same) (omega (arith, length-puts news row, same, h))
      ∙ sym (ap (λ (o : Option Value). unwrap_or o (get_or row c d)) (value_head new news c same))
  | inr other ↦
      get_or-set_other (puts news row) new.column c new.value d (λ e. other (sym e)) ∙ puts_at news row c d h
      ∙ sym (ap (λ (o : Option Value). unwrap_or o (get_or row c d)) (value_tail new news c other))
]

-- what the law of revised rows says
pub record PlacesValues : Type 0 where
  pub width : (changes : List NewValue) (row : Row) → length (revised changes row) ≡ length row
  pub each : (changes : List NewValue) (row : Row) (c : ℕ) → slice_get (revised changes row) c ≡ option_map (revised_value changes c) (slice_get row c)

revised_at : PlacesValues → (news : List NewValue) (row : Row) (c : ℕ) (d : Value) → c < length row
    → get_or (revised news row) c d ≡ unwrap_or (value_for c news) (get_or row c d)
revised_at law news row c d h =
    get_or_from_slice_get (revised news row) c (revised_value news c (get_or row c d)) d
    (law.each news row c ∙ ap (λ (o : Option Value). option_map (revised_value news c) o) (slice_get-get_or row c d h))

-- where each column has a new value, only these count
pub same_rows : PlacesValues → (news : List NewValue) (row bare : Row) → length row ≡ length bare
    → ((c : ℕ) → c < length bare → (v : Value) × (value_for c news ≡ Some v)) → puts news row ≡ revised news bare
same_rows law news row bare e all =
    same_lists (puts news row) (revised news bare) (length-puts news row ∙ e ∙ sym (law.width news bare)) (λ c d h.
    let k : c < length row = omega (arith, length-puts news row, h) in
    let b : c < length bare = omega (arith, e, k) in
    let v = all c b in
    puts_at news row c d k ∙ ap (λ (o : Option Value). unwrap_or o (get_or row c d)) v.1
    ∙ sym (revised_at law news bare c d b ∙ ap (λ (o : Option Value). unwrap_or o (get_or bare c d)) v.1))

tail_left : (X : Type 0) (p : X → Bool) (x : X) (xs : List X) → filter (λ x. not (p x)) (x ∷ xs) ≡ [] → filter (λ x. not (p x)) xs ≡ []
tail_left X p x xs e = elim (cases_Bool (p x)) [ inl t ↦ rw t at e | inr f ↦ absurd (let bad = rw f at e in cc) ]

head_left : (X : Type 0) (p : X → Bool) (x : X) (xs : List X) → filter (λ x. not (p x)) (x ∷ xs) ≡ [] → p x ≡ true
head_left X p x xs e = elim (cases_Bool (p x)) [ inl t ↦ t | inr f ↦ absurd (let bad = rw f at e in cc) ]

-- where no other is left, each passes
none_left : (X : Type 0) (p : X → Bool) (xs : List X) (k : ℕ) (d : X) → filter (λ x. not (p x)) xs ≡ [] → k < length xs → p (get_or xs k d) ≡ true
none_left X p [] k d e h = absurd (omega arith)
none_left X p (x ∷ xs) zero d e h = head_left X p x xs e
none_left X p (x ∷ xs) (suc k) d e h = none_left X p xs k d (tail_left X p x xs e) (omega arith)

-- a column that has a new value
has_value : (news : List NewValue) (k : ℕ) (d : NewValue) → k < length news → (v : Value) × (value_for (get_or news k d).column news ≡ Some v)
has_value [] k d h = absurd (omega arith)
has_value (x ∷ xs) zero d h = (x.value, value_head x xs x.column refl)
has_value (x ∷ xs) (suc k) d h = elim (cases_eq x.column (get_or xs k d).column) [
  | inl same ↦ (x.value, value_head x xs (get_or xs k d).column same)
  | inr other ↦
      let rest = has_value xs k d (omega arith) in
      (rest.0, value_tail x xs (get_or xs k d).column other ∙ rest.1)
]

-- what stands in place of a column that there is not
no_column : Col
no_column = record { name = []; kind = kinds.X; count = Star; key = keys.Many; description = []; values = None; theme = None; narrative = None }

-- the new values of a ring
abbrev pub ring_puts : RingPlaces → ℕ → Ring → List NewValue
ring_puts p k r = number_put p.id k ∷ number_put p.face r.face ∷ number_put p.start_edge r.edge ∷ []

-- are all that there are
pub ring_covers : (columns : List Col) (p : RingPlaces) (k : ℕ) (r : Ring) → IsDistinct same_name (names columns) → carried_columns ring_roles columns ≡ [] → AreRingPlaces columns p
    → (c : ℕ) → c < length columns → (v : Value) × (value_for c (ring_puts p k r) ≡ Some v)
ring_covers columns p k r apart bare a c h =
    let news : List NewValue = ring_puts p k r in
    let d : NewValue = number_put 0 0 in
    let n : List ℕ = get_or (names columns) c [] in
    let e : n ≡ (get_or columns c no_column).name = get_or-map (λ (column : Col). column.name) columns c no_column [] h in
    let within : c < length (names columns) = omega (arith, length-map {A = Col} {B = List ℕ} columns (λ column. column.name)) in
    let role : (same_name (codes "id") n || (same_name (codes "face_id") n || (same_name (codes "start_edge") n || false))) ≡ true =
    rw e (none_left Col (has_role ring_roles) columns c no_column bare h) in
    elim (or_cases (same_name (codes "id") n) (same_name (codes "face_id") n || (same_name (codes "start_edge") n || false)) role) [
      | inl is ↦ there news c p.id (place_is (codes "id") columns p.id c apart a.id.place within is) (has_value news 0 d (omega arith))
      | inr other ↦ elim (or_cases (same_name (codes "face_id") n) (same_name (codes "start_edge") n || false) other) [
        | inl is ↦ there news c p.face (place_is (codes "face_id") columns p.face c apart a.face.place within is) (has_value news 1 d (omega arith))
        | inr last ↦ elim (or_cases (same_name (codes "start_edge") n) false last) [
          | inl is ↦ there news c p.start_edge (place_is (codes "start_edge") columns p.start_edge c apart a.start_edge.place within is) (has_value news 2 d (omega arith))
          | inr none ↦ absurd (false≢true none)
        ]
      ]
    ]
  where
    there : (news : List NewValue) (c p : ℕ) → p ≡ c → (v : Value) × (value_for p news ≡ Some v) → (v : Value) × (value_for c news ≡ Some v)
    there news c p e v = subst (λ (c : ℕ). (v : Value) × (value_for c news ≡ Some v)) e v

-- the cells of a ring in their places
pub filled : (cells : List Cell) (p : RingPlaces) (k : ℕ) (r : Ring) (x y z : Cell) → view x ≡ natural_value r.edge → view y ≡ natural_value r.face → view z ≡ natural_value k
    → map view (set (set (set cells p.start_edge x) p.face y) p.id z) ≡ puts (ring_puts p k r) (map view cells)
filled cells p k r x y z e f g =
    rw (map-set view (set (set cells p.start_edge x) p.face y) p.id z, map-set view (set cells p.start_edge x) p.face y, map-set view cells p.start_edge x, e, f, g) refl

-- are the row of the ring
pub puts_row : PlacesValues → (columns : List Col) (p : RingPlaces) (k : ℕ) (r : Ring) (row : Row) → IsDistinct same_name (names columns) → carried_columns ring_roles columns ≡ []
    → AreRingPlaces columns p → length row ≡ length columns → puts (ring_puts p k r) row ≡ revised (ring_values columns k r) (bare_row columns)
puts_row law columns p k r row apart bare a width =
    let bare_width : length (bare_row columns) ≡ length columns = length-map {A = Col} {B = Value} columns (λ column. Nothing) in
    same_rows law (ring_puts p k r) row (bare_row columns) (width ∙ sym bare_width)
    (λ c h. ring_covers columns p k r apart bare a c (subst (λ (n : ℕ). c < n) bare_width h))
    ∙ ap (λ (news : List NewValue). revised news (bare_row columns)) (sym (ring_values_are columns p k r a))

-- no other value has to fit
pub others_covered : (columns wider : List Col) (p : RingPlaces) (k : ℕ) (r : Ring) → IsDistinct same_name (names columns) → carried_columns ring_roles columns ≡ [] → AreRingPlaces columns p
    → length wider ≡ length columns → FitsElsewhere (ring_puts p k r) wider (bare_row columns)
others_covered columns wider p k r apart bare a same =
    let bare_width : length (bare_row columns) ≡ length columns = length-map {A = Col} {B = Value} columns (λ column. Nothing) in
    record {
      width = bare_width ∙ sym same;
      fits = λ c column value e f none.
          let within : c < length columns = subst (λ (n : ℕ). c < n) bare_width (slice_get_within (bare_row columns) c value f) in
          let v = ring_covers columns p k r apart bare a c within in
          absurd (none_some (value_for c (ring_puts p k r)) v.0 none v.1);
    }
  where
    none_some : (o : Option Value) (v : Value) → o ≡ None → o ≡ Some v → ⊥
    none_some o v e f = (let bad = sym e ∙ f in cc)
