-- Lines on references that may go on in another tile find nothing exactly where they name what is there.
use Rattle.std.proofs.Common.{◌≡◌, ◌∙◌, inl, inr, ℕ, ◌≤◌, Bool, true, false, Option, Some, None, length, refl, sym, ap, subst, arith}
use Rattle.std.specs.Prelude.{◌↔◌, ◌⊎◌, ◌≢◌, ◌==◌, ◌&&◌, not, is_some}
use Rattle.std.specs.Option.{option_map}
use Rattle.std.proofs.lemmas.Bool.Decides.{nat_tests}
use Rattle.std.proofs.lemmas.List.{length-map}
use Rattle.vpf_triplet.specs.declared.triplets.Triplet.{Triplet}
use Rattle.vpf_value.specs.Values.{Value}
use Rattle.vpf_table.specs.Grid.{Row}
use Rattle.vpf_findings.specs.Firsts.{◌or◌, unless}
use Rattle.vpf_prims.specs.declared.placing.TableAt.{TableAt}
use Rattle.vpf_prims.specs.Columns.{RoleAt}
use Rattle.vpf_prims.specs.Lines.{range_line}
use Rattle.vpf_prims.specs.References.{reference_in, cell_at, is_from}
use Rattle.vpf_prims.specs.Primitives.{Library, cross, edge_count, edges_in, face_count, faces_in, has_tables, is_there, node_count, nodes_in}
use Rattle.vpf_prims.specs.Reading.{PrimitiveTables, primitives_of, edge_in_row, face_in_row, node_in_row}
use Rattle.vpf_prims.specs.Numbering.{IsPlain, IsCross, IsReference, IsFace}
use Rattle.vpf_numbers.specs.Around.{Around, count_in_tile, edges_around, faces_around, nodes_around, tables_around}
use Rattle.vpf_numbers.specs.RowLines.{beyond_line, cross_lines, face_lines, is_first}
use Rattle.vpf_numbers.proofs.NumbersLines.{through, or_decides, unless_decides, from_some}

-- a coverage by what its tables say is the one by its tables
pub record IsSeen (A : Around) (L : Library) : Type 0 where
  pub tiled : L.is_tiled ≡ A.is_tiled
  pub tiles : (t : ℕ) → L.tile t ≡ option_map primitives_of (tables_around A t)

nodes_said : (tables : Option PrimitiveTables) → length (nodes_in (option_map primitives_of tables)) ≡ count_in_tile (λ (v : PrimitiveTables). length v.cnd.rows) tables
nodes_said None = refl
nodes_said (Some tables) = length-map tables.cnd.rows (node_in_row tables.cnd.head.columns)

faces_said : (tables : Option PrimitiveTables) → length (faces_in (option_map primitives_of tables)) ≡ count_in_tile (λ (v : PrimitiveTables). length v.fac.rows) tables
faces_said None = refl
faces_said (Some tables) = length-map tables.fac.rows (face_in_row tables.fac.head.columns)

edges_said : (tables : Option PrimitiveTables) → length (edges_in (option_map primitives_of tables)) ≡ count_in_tile (λ (v : PrimitiveTables). length v.edg.rows) tables
edges_said None = refl
edges_said (Some tables) = length-map tables.edg.rows (edge_in_row tables.edg.head.columns)

there_said : (tables : Option PrimitiveTables) → is_there (option_map primitives_of tables) ≡ is_some tables
there_said None = refl
there_said (Some tables) = refl

-- how many nodes, faces and edges a tile has
pub nodes_seen : (A : Around) (L : Library) → IsSeen A L → (t : ℕ) → nodes_around A t ≡ node_count L t
nodes_seen A L seen t = rw (seen.tiles t) (sym (nodes_said (tables_around A t)))

pub faces_seen : (A : Around) (L : Library) → IsSeen A L → (t : ℕ) → faces_around A t ≡ face_count L t
faces_seen A L seen t = rw (seen.tiles t) (sym (faces_said (tables_around A t)))

pub edges_seen : (A : Around) (L : Library) → IsSeen A L → (t : ℕ) → edges_around A t ≡ edge_count L t
edges_seen A L seen t = rw (seen.tiles t) (sym (edges_said (tables_around A t)))

there_seen : (A : Around) (L : Library) → IsSeen A L → (t : ℕ) → has_tables L t ≡ is_some (tables_around A t)
there_seen A L seen t = ap is_there (seen.tiles t) ∙ there_said (tables_around A t)

from_low : (low last n : ℕ) → is_from low last (Some n) ≡ true → low ≤ n
from_low low last n h = grind (arith, nat_tests)

to_last : (low last n : ℕ) → is_from low last (Some n) ≡ true → n ≤ last
to_last low last n h = grind (arith, nat_tests)

differs : (m n : ℕ) → not (m == n) ≡ true → m ≢ n
differs m n h e = absurd (grind (arith, nat_tests))

differs_at : (m n : ℕ) (b : Bool) → (m == n) ≡ b → m ≢ n → not b ≡ true
differs_at m n true e h = let same : m ≡ n = grind (arith, nat_tests) in absurd (h same)
differs_at m n false e h = refl

both_parts : (a b : Bool) → (a && b) ≡ true → (a ≡ true) × (b ≡ true)
both_parts true b h = (refl, h)
both_parts false b h = absurd cc

both_true : (a b : Bool) → a ≡ true → b ≡ true → (a && b) ≡ true
both_true a b e f = rw (e, f) refl

-- what a reference that goes on in another tile has to be
abbrev IsFar : Library → (ℕ → ℕ) → (t low : ℕ) → (may : Bool) → Triplet → Type 0
IsFar L count t low may r = IsCross L count t low r × (may ≡ true)

-- the parts of another tile, each of them there
far_decides : (at : TableAt) (A : Around) (L : Library) → IsSeen A L → (rows count : ℕ → ℕ) → ((u : ℕ) → rows u ≡ count u) → (low last k : ℕ) (column : RoleAt) (cell : Value) (may : Bool)
    → last ≡ count at.tile → (may ≡ true → L.is_tiled ≡ true) → (n t e : ℕ)
    → ((is_from 1 last (Some n) ≡ true) × (beyond_line at A rows low k column cell may (Some t) (Some e) ≡ None)) ↔ IsFar L count at.tile low may (cross n t e)
far_decides at A L seen rows count same low last k column cell may most tiled n t e = (forth, back)
  where
    lines : (beyond_line at A rows low k column cell may (Some t) (Some e) ≡ None) ↔ ((may ≡ true) × (((not (t == at.tile) && is_some (tables_around A t)) ≡ true) × (is_from low (rows t) (Some e) ≡ true)))
    lines =
        or_decides (unless may _) _ (unless_decides may _)
        (or_decides (unless (not (t == at.tile) && is_some (tables_around A t)) _) (unless (is_from low (rows t) (Some e)) _) (unless_decides (not (t == at.tile) && is_some (tables_around A t)) _) (unless_decides (is_from low (rows t) (Some e)) _))

    forth : (is_from 1 last (Some n) ≡ true) × (beyond_line at A rows low k column cell may (Some t) (Some e) ≡ None) → IsFar L count at.tile low may (cross n t e)
    forth h =
        let told = lines.0 h.1 in
        let both = both_parts (not (t == at.tile)) (is_some (tables_around A t)) told.1.0 in (
          record {
            id = n;
            tile = t;
            ext = e;
            is = refl;
            here = (from_low 1 last n h.0, subst (λ (m : ℕ). n ≤ m) most (to_last 1 last n h.0));
            other = differs t at.tile both.0;
            there = there_seen A L seen t ∙ both.1;
            from_low = from_low low (rows t) e told.1.1;
            to_last = subst (λ (m : ℕ). e ≤ m) (same t) (to_last low (rows t) e told.1.1);
            of_tiles = tiled told.0;
          },
          told.0,
        )

    back : IsFar L count at.tile low may (cross n t e) → (is_from 1 last (Some n) ≡ true) × (beyond_line at A rows low k column cell may (Some t) (Some e) ≡ None)
    back h =
        let x = h.0 in
        let some_id : Some n ≡ Some x.id = ap (λ (r : Triplet). r.id) x.is in
        let some_tile : Some t ≡ Some x.tile = ap (λ (r : Triplet). r.tile) x.is in
        let some_ext : Some e ≡ Some x.ext = ap (λ (r : Triplet). r.ext) x.is in
        let id : x.id ≡ n = cc in
        let tile : x.tile ≡ t = cc in
        let ext : x.ext ≡ e = cc in
        let other : t ≢ at.tile = subst (λ (u : ℕ). u ≢ at.tile) tile x.other in
        let there : is_some (tables_around A t) ≡ true = sym (there_seen A L seen t) ∙ subst (λ (u : ℕ). has_tables L u ≡ true) tile x.there in
        let low_is : low ≤ e = subst (λ (m : ℕ). low ≤ m) ext x.from_low in
        let most_at : e ≤ rows t = subst (λ (m : ℕ). e ≤ m) (sym (same t)) (subst (λ (u : ℕ). e ≤ count u) tile (subst (λ (m : ℕ). m ≤ count x.tile) ext x.to_last)) in
        let first : 1 ≤ n = subst (λ (m : ℕ). 1 ≤ m) id x.here.0 in
        let within : n ≤ last = subst (λ (m : ℕ). n ≤ m) (sym most) (subst (λ (m : ℕ). m ≤ count at.tile) id x.here.1) in (
          from_some 1 last n first within,
          lines.1 (h.1, (both_true (not (t == at.tile)) (is_some (tables_around A t)) (differs_at t at.tile (t == at.tile) refl other) there, from_some low (rows t) e low_is most_at)),
        )

-- all parts of a reference
parts_decide : (at : TableAt) (A : Around) (L : Library) → IsSeen A L → (rows count : ℕ → ℕ) → ((u : ℕ) → rows u ≡ count u) → (low last k : ℕ) (column : RoleAt) (cell : Value) (may : Bool)
    → last ≡ count at.tile → (may ≡ true → L.is_tiled ≡ true) → (i t e : Option ℕ)
    → ((is_from 1 last i ≡ true) × (beyond_line at A rows low k column cell may t e ≡ None))
    ↔ (IsPlain 1 last (record { id = i; tile = t; ext = e }) ⊎ IsFar L count at.tile low may (record { id = i; tile = t; ext = e }))
parts_decide at A L seen rows count same low last k column cell may most tiled None t e = (
  λ h. absurd (no_number h.0),
  elim [
    | inl p ↦ let number : None ≡ Some p.id = ap (λ (r : Triplet). r.id) p.is in absurd cc
    | inr x ↦ let number : None ≡ Some x.0.id = ap (λ (r : Triplet). r.id) x.0.is in absurd cc
  ],
)
  where
    no_number : is_from 1 last None ≡ true → ⊥
    no_number h = absurd cc
parts_decide at A L seen rows count same low last k column cell may most tiled (Some n) None None = (
  λ h. inl (record { id = n; is = refl; from_low = from_low 1 last n h.0; to_last = to_last 1 last n h.0 }),
  elim [
    | inl p ↦
        let number : Some n ≡ Some p.id = ap (λ (r : Triplet). r.id) p.is in
        let id : p.id ≡ n = cc in (from_some 1 last n (subst (λ (m : ℕ). 1 ≤ m) id p.from_low) (subst (λ (m : ℕ). m ≤ last) id p.to_last), refl)
    | inr x ↦ let tile : None ≡ Some x.0.tile = ap (λ (r : Triplet). r.tile) x.0.is in absurd cc
  ],
)
parts_decide at A L seen rows count same low last k column cell may most tiled (Some n) None (Some e) = (
  λ h. let some = h.1 in absurd cc,
  elim [
    | inl p ↦ let ext : Some e ≡ None = ap (λ (r : Triplet). r.ext) p.is in absurd cc
    | inr x ↦ let tile : None ≡ Some x.0.tile = ap (λ (r : Triplet). r.tile) x.0.is in absurd cc
  ],
)
parts_decide at A L seen rows count same low last k column cell may most tiled (Some n) (Some t) None = (
  λ h. let some = h.1 in absurd cc,
  elim [
    | inl p ↦ let tile : Some t ≡ None = ap (λ (r : Triplet). r.tile) p.is in absurd cc
    | inr x ↦ let ext : None ≡ Some x.0.ext = ap (λ (r : Triplet). r.ext) x.0.is in absurd cc
  ],
)
parts_decide at A L seen rows count same low last k column cell may most tiled (Some n) (Some t) (Some e) =
    let far = far_decides at A L seen rows count same low last k column cell may most tiled n t e in
    (λ h. inr (far.0 h), elim [ inl p ↦ let tile : Some t ≡ None = ap (λ (r : Triplet). r.tile) p.is in absurd cc | inr x ↦ far.1 x ])

-- a thing is what it is
itself : {P : Type 0} → P ↔ P
itself = (λ p. p, λ p. p)

lines_decide : (at : TableAt) (A : Around) (L : Library) → IsSeen A L → (rows count : ℕ → ℕ) → ((u : ℕ) → rows u ≡ count u) → (low last k : ℕ) (column : RoleAt) (row : Row) (may : Bool)
    → last ≡ count at.tile → (may ≡ true → L.is_tiled ≡ true)
    → ((range_line at 1 last k column row or beyond_line at A rows low k column (cell_at row column.place) may (reference_in (cell_at row column.place)).tile (reference_in (cell_at row column.place)).ext) ≡ None)
    ↔ (IsPlain 1 last (reference_in (cell_at row column.place)) ⊎ IsFar L count at.tile low may (reference_in (cell_at row column.place)))
lines_decide at A L seen rows count same low last k column row may most tiled =
    let cell = cell_at row column.place in
    let r = reference_in cell in
    through
    (or_decides (range_line at 1 last k column row) (beyond_line at A rows low k column cell may r.tile r.ext) (unless_decides (is_from 1 last r.id) _) itself)
    (parts_decide at A L seen rows count same low last k column cell may most tiled r.id r.tile r.ext)

-- the lines on a reference
pub cross_decides : (at : TableAt) (A : Around) (L : Library) → IsSeen A L → (rows count : ℕ → ℕ) → ((u : ℕ) → rows u ≡ count u) → (last k : ℕ) (column : RoleAt) (row : Row)
    → last ≡ count at.tile → (cross_lines at A rows last k column row ≡ None) ↔ IsReference L count at.tile (reference_in (cell_at row column.place))
cross_decides at A L seen rows count same last k column row most =
    let r = reference_in (cell_at row column.place) in
    through (lines_decide at A L seen rows count same 1 last k column row A.is_tiled most (λ e. seen.tiled ∙ e)) (
      elim [ inl p ↦ inl (subst (λ (m : ℕ). IsPlain 1 m r) most p) | inr x ↦ inr x.0 ],
      elim [ inl p ↦ inl (subst (λ (m : ℕ). IsPlain 1 m r) (sym most) p) | inr x ↦ inr (x, sym seen.tiled ∙ x.of_tiles) ],
    )

first_is : (number : Option ℕ) → is_first number ≡ true → number ≡ Some 1
first_is None h = absurd cc
first_is (Some n) h = let e : n ≡ 1 = grind (arith, nat_tests) in rw e refl

is_one : (number : Option ℕ) → number ≡ Some 1 → is_first number ≡ true
is_one number e = rw e refl

-- the lines on a face
pub face_decides : (at : TableAt) (A : Around) (L : Library) → IsSeen A L → (last k : ℕ) (column : RoleAt) (row : Row) → last ≡ face_count L at.tile
    → (face_lines at A last k column row ≡ None) ↔ IsFace L at.tile (reference_in (cell_at row column.place))
face_decides at A L seen last k column row most =
    let r = reference_in (cell_at row column.place) in
    let may = A.is_tiled && is_first r.id in
    through (lines_decide at A L seen (faces_around A) (face_count L) (faces_seen A L seen) 2 last k column row may most (λ e. seen.tiled ∙ (both_parts A.is_tiled (is_first r.id) e).0)) (
      elim [ inl p ↦ inl (subst (λ (m : ℕ). IsPlain 1 m r) most p) | inr x ↦ inr (x.0, first_is r.id (both_parts A.is_tiled (is_first r.id) x.1).1) ],
      elim [ inl p ↦ inl (subst (λ (m : ℕ). IsPlain 1 m r) (sym most) p) | inr x ↦ inr (x.0, both_true A.is_tiled (is_first r.id) (sym seen.tiled ∙ x.0.of_tiles) (is_one r.id x.1)) ],
    )
