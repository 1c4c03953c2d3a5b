-- The table of entity nodes: those of all tiles, where any tile has a table of them.
use Rattle.std.proofs.Common.{[], ◌≡◌, ℕ, zero, suc, ◌+◌, ◌<◌, ◌≤◌, Bool, true, false, cond, List, ◌∷◌, ◌++◌, length, map, codes, get_or, Option, Some, None, refl, sym, ap, ◌∙◌, subst, inl, inr, arith}
use Rattle.std.specs.Prelude.{flat_map, is_some}
use Rattle.std.specs.List.{AllByRecursion, list_any, range_with_len}
use Rattle.std.specs.Option.{option_and_then, option_map, option_or, unwrap_or}
use Rattle.std.proofs.lemmas.Bool.{cases_eq, or_right}
use Rattle.vpf_table.specs.Grid.{Grid, Row}
use Rattle.vpf_prims.specs.Coverages.{CoverageTables, last_tile, tile_at}
use Rattle.vpf_prims.specs.Libraries.{library_of, primitives_in}
use Rattle.vpf_prims.specs.Primitives.{EntityPrimitive, entities_in}
use Rattle.vpf_prims.specs.Reading.{PrimitiveTables, entity_in_row, rows_said}
use Rattle.vpf_prims.specs.References.{id_of}
use Rattle.vpf_prims.specs.Roles.{ring_roles}
use Rattle.vpf_prims.specs.Suiting.{HasRoles}
use Rattle.vpf_prims.specs.Tables.{TileTables}
use Rattle.vpf_cross.specs.CarriedLines.{first_tile}
use Rattle.vpf_tiling.specs.Ranks.{numbered, numbered_from, up_to}
use Rattle.vpf_renumbering.specs.TilingLawsWhole.{WholeEntity, face_here, has_entities, tiles_in, whole_entities}
use Rattle.vpf_renumbering.specs.Glued.{glued_entity}
use Rattle.vpf_glue.specs.GluedTables.Grids.{EntitySource, entity_source, entity_sources, first_end, glued_entity_grid, glued_entity_row, sources_in_table, whole_in}
use Rattle.vpf_glue.specs.Inner.GluedTables.Laws.{AreOfTiles}
use Rattle.vpf_glue.specs.Inner.GluedReading.Laws.{AreJoined, GluedTablesAreRead, pair_columns}
use Rattle.vpf_glue.proofs.glued_reading.DartLemmas.{edges_are_read, nodes_are_read}
use Rattle.vpf_glue.proofs.glued_reading.FaceLemmas.{faces_are_read}
use Rattle.vpf_glue.proofs.glued_reading.RowLemmas.{entity_rows_say, rings_are_read}
use Rattle.vpf_glue.proofs.glued_reading.TileLemmas.{first_is}
use Rattle.vpf_base.proofs.Lists.{within}

-- ---- the first table

-- the tile that has it
pub record HasFirst (tiles : List (Option TileTables)) (g : Grid) : Type 0 where
  pub tile : ℕ
  pub T : TileTables
  pub has : get_or tiles tile None ≡ Some T
  pub table : T.tables.end ≡ Some g

later : (tile : Option TileTables) (tiles : List (Option TileTables)) (g : Grid) → HasFirst tiles g → HasFirst (tile ∷ tiles) g
later tile tiles g f = record { tile = suc f.tile; T = f.T; has = f.has; table = f.table }

mutual_by : (T : TileTables) (tiles : List (Option TileTables)) (g : Grid) (o : Option Grid) → T.tables.end ≡ o → (first_end tiles ≡ Some g → HasFirst tiles g)
    → option_or o (first_end tiles) ≡ Some g → HasFirst (Some T ∷ tiles) g
mutual_by T tiles g None e rest h = later (Some T) tiles g (rest h)
mutual_by T tiles g (Some x) e rest h = record { tile = 0; T = T; has = refl; table = e ∙ h }

has_first : (tiles : List (Option TileTables)) (g : Grid) → first_end tiles ≡ Some g → HasFirst tiles g
has_first [] g e = absurd cc
has_first (None ∷ tiles) g e = later None tiles g (has_first tiles g e)
has_first (Some T ∷ tiles) g e = mutual_by T tiles g T.tables.end refl (has_first tiles g) e

none_or : (o p : Option Grid) → option_or o p ≡ None → (o ≡ None) × (p ≡ None)
none_or None p e = (refl, e)
none_or (Some x) p e = absurd cc

-- where no tile is the first, none has the table
has_none : (tiles : List (Option TileTables)) → first_end tiles ≡ None → (t : ℕ) (T : TileTables) → get_or tiles t None ≡ Some T → T.tables.end ≡ None
has_none [] e t T at = absurd cc
has_none (None ∷ tiles) e zero T at = absurd cc
has_none (None ∷ tiles) e (suc t) T at = has_none tiles e t T at
has_none (Some U ∷ tiles) e zero T at =
    let same : U ≡ T = cc in
    ap (λ (U : TileTables). U.tables.end) (sym same) ∙ (none_or U.tables.end (first_end tiles) e).0
has_none (Some U ∷ tiles) e (suc t) T at = has_none tiles (none_or U.tables.end (first_end tiles) e).1 t T at

-- ---- whether any tile has it

any_range : (p : ℕ → Bool) (a n t : ℕ) → a ≤ t → t < a + n → p t ≡ true → list_any p (range_with_len a n) ≡ true
any_range p a zero t low high e = absurd (omega arith)
any_range p a (suc n) t low high e = elim (cases_eq a t) [
  | inl same ↦ (let here : p a ≡ true = ap p same ∙ e in rw here refl)
  | inr other ↦ or_right (p a) (list_any p (range_with_len (a + 1) n)) (any_range p (a + 1) n t (omega arith) (omega arith) e)
]

none_any : (p : ℕ → Bool) (xs : List ℕ) → ((x : ℕ) → p x ≡ false) → list_any p xs ≡ false
none_any p [] none = refl
none_any p (x ∷ xs) none = rw (none x, none_any p xs none) refl

any_tile : (p : ℕ → Bool) (last t : ℕ) → t ≤ last → p t ≡ true → list_any p (0 ∷ up_to last) ≡ true
any_tile p last zero h e = rw e refl
any_tile p last (suc t) h e = or_right (p 0) (list_any p (up_to last)) (any_range p 1 last (suc t) (omega arith) (omega arith) e)

-- a tile of this library has the table
abbrev has_table : CoverageTables → ℕ → Bool
has_table c t = has_entities ((library_of c).tile t)

some_has : (c : CoverageTables) (g : Grid) → HasFirst c.tiles g → list_any (has_table c) (tiles_in (library_of c)) ≡ true
some_has c g f =
    let low = within c.tiles f.tile f.T f.has in
    let here : has_table c f.tile ≡ true =
    ap (λ (o : Option TileTables). has_entities (primitives_in o)) f.has ∙ ap (λ (o : Option Grid). is_some (option_map (rows_said entity_in_row) o)) f.table in
    any_tile (has_table c) (last_tile c) f.tile (omega arith) here

without_by : (c : CoverageTables) (t : ℕ) (o : Option TileTables) → tile_at c t ≡ o → ((T : TileTables) → tile_at c t ≡ Some T → T.tables.end ≡ None)
    → has_entities (primitives_in o) ≡ false
without_by c t None e none = refl
without_by c t (Some T) e none = ap (λ (o : Option Grid). is_some (option_map (rows_said entity_in_row) o)) (none T e)

none_has : (c : CoverageTables) → first_end c.tiles ≡ None → list_any (has_table c) (tiles_in (library_of c)) ≡ false
none_has c e = none_any (has_table c) (tiles_in (library_of c)) (λ t. without_by c t (tile_at c t) refl (has_none c.tiles e t))

-- ---- rows

-- a row of the glued table says this entity node
abbrev SaysEntity : CoverageTables → Grid → EntitySource → WholeEntity → Type 0
SaysEntity c g x y = (k : ℕ) → entity_in_row (pair_columns (codes "containing_face") g) (glued_entity_row g.head.columns c k x) ≡ glued_entity (whole_in c) k y

-- so of all, one by one
abbrev SayEntities : CoverageTables → Grid → List EntitySource → List WholeEntity → Type 0
SayEntities c g [] [] = Unit {0}
SayEntities c g [] (y ∷ ys) = ⊥
SayEntities c g (x ∷ xs) [] = ⊥
SayEntities c g (x ∷ xs) (y ∷ ys) = SaysEntity c g x y × SayEntities c g xs ys

say_more : (c : CoverageTables) (g : Grid) (xs us : List EntitySource) (ys vs : List WholeEntity) → SayEntities c g xs ys → SayEntities c g us vs
    → SayEntities c g (xs ++ us) (ys ++ vs)
say_more c g [] us [] vs s t = t
say_more c g [] us (y ∷ ys) vs s t = elim s [ ]
say_more c g (x ∷ xs) us [] vs s t = elim s [ ]
say_more c g (x ∷ xs) us (y ∷ ys) vs s t = (s.0, say_more c g xs us ys vs s.1 t)

say_flat : (c : CoverageTables) (g : Grid) (f : ℕ → List EntitySource) (h : ℕ → List WholeEntity) (ts : List ℕ) → ((t : ℕ) → SayEntities c g (f t) (h t))
    → SayEntities c g (flat_map f ts) (flat_map h ts)
say_flat c g f h [] each = tt
say_flat c g f h (t ∷ ts) each = say_more c g (f t) (flat_map f ts) (h t) (flat_map h ts) (each t) (say_flat c g f h ts each)

said_all : (c : CoverageTables) (g : Grid) (k : ℕ) (xs : List EntitySource) (ys : List WholeEntity) → SayEntities c g xs ys
    → map (entity_in_row (pair_columns (codes "containing_face") g)) (numbered_from k (glued_entity_row g.head.columns c) xs) ≡ numbered_from k (glued_entity (whole_in c)) ys
said_all c g k [] [] s = refl
said_all c g k [] (y ∷ ys) s = elim s [ ]
said_all c g k (x ∷ xs) [] s = elim s [ ]
said_all c g k (x ∷ xs) (y ∷ ys) s = λ i. (s.0 k i ∷ said_all c g (suc k) xs ys s.1 i)

-- the entity node that a row of a tile says
abbrev whole_entity : ℕ → EntityPrimitive → WholeEntity
whole_entity t row = record { face = face_here t (id_of row.containing_face); carried = row.carried }

rows_say : (c : CoverageTables) (g end : Grid) (t : ℕ) (rows : List Row) → AreOfTiles (λ (T : PrimitiveTables). T.end) c g end
    → AllByRecursion (λ (row : Row). length row ≡ length end.head.columns) rows
    → SayEntities c g (map (entity_source t end.head.columns) rows) (map (whole_entity t) (map (entity_in_row end.head.columns) rows))
rows_say c g end t [] a filled = tt
rows_say c g end t (row ∷ rows) a filled = ((λ k. entity_rows_say c g end a row filled.0 k _), rows_say c g end t rows a filled.1)

end_says : (c : CoverageTables) (first : PrimitiveTables) → AreJoined c first → (g : Grid) → HasFirst c.tiles g → (t : ℕ) (T : TileTables) → tile_at c t ≡ Some T
    → (o : Option Grid) → T.tables.end ≡ o
    → SayEntities c g (sources_in_table t o) (map (whole_entity t) (unwrap_or (option_map (rows_said entity_in_row) o) []))
end_says c first j g f t T at None e = tt
end_says c first j g f t T at (Some end) e =
    let a : AreOfTiles (λ (T : PrimitiveTables). T.end) c g end = record {
      library = j.agrees.library;
      columns = j.columns;
      tile = f.tile;
      T = f.T;
      has = f.has;
      table = f.table;
      apart = (j.whole f.tile f.T f.has).1.end g f.table;
      other = t;
      U = T;
      has_other = at;
      table_there = e;
      apart_there = (j.whole t T at).1.end end e;
    } in
    rows_say c g end t end.rows a ((j.whole t T at).0.end end e)

tile_says : (c : CoverageTables) (first : PrimitiveTables) → AreJoined c first → (g : Grid) → HasFirst c.tiles g → (t : ℕ) (o : Option TileTables) → tile_at c t ≡ o
    → SayEntities c g (sources_in_table t (option_and_then (λ (T : TileTables). T.tables.end) o)) (map (whole_entity t) (entities_in (primitives_in o)))
tile_says c first j g f t None e = tt
tile_says c first j g f t (Some T) e = end_says c first j g f t T e T.tables.end refl

-- ---- the table

entities_by : (c : CoverageTables) (first : PrimitiveTables) → AreJoined c first → (o : Option Grid) → first_end c.tiles ≡ o
    → option_map (rows_said entity_in_row) (option_map (λ (end : Grid). glued_entity_grid end c) o) ≡ option_map (numbered (glued_entity (whole_in c))) (whole_in c).entities
entities_by c first j None e =
    sym (ap (λ (b : Bool). option_map (numbered (glued_entity (whole_in c))) (cond b (Some (flat_map (whole_entities (library_of c)) (tiles_in (library_of c)))) None)) (none_has c e))
entities_by c first j (Some g) e =
    let f = has_first c.tiles g e in
    let all = say_flat c g (λ t. sources_in_table t (option_and_then (λ (T : TileTables). T.tables.end) (tile_at c t))) (whole_entities (library_of c)) (tiles_in (library_of c))
    (λ t. tile_says c first j g f t (tile_at c t) refl) in
    ap Some (said_all c g 1 (entity_sources c) (flat_map (whole_entities (library_of c)) (tiles_in (library_of c))) all)
    ∙ sym (ap (λ (b : Bool). option_map (numbered (glued_entity (whole_in c))) (cond b (Some (flat_map (whole_entities (library_of c)) (tiles_in (library_of c)))) None)) (some_has c g f))

-- ---- all tables

pub glued_tables_are_read : GluedTablesAreRead
glued_tables_are_read c first j =
    let f = first_is c first j.tables in
    let roles = subst (λ (T : PrimitiveTables). HasRoles ring_roles T.rng) f.is (j.columns.suit (first_tile (library_of c)) f.T f.at).rng in
    let edges = edges_are_read c first j in
    let faces = faces_are_read c first j in
    let rings = rings_are_read c first.rng roles in
    let nodes = nodes_are_read c first j in
    let entities = entities_by c first j (first_end c.tiles) refl in
    λ i. record { edges = edges i; faces = faces i; rings = rings i; nodes = nodes i; entities = entities i }
