-- The entity nodes of all tiles, tile by tile, and their rows one behind another.
use Rattle.std.proofs.Common.{◌≡◌, ℕ, zero, suc, ◌+◌, ◌-◌, ◌<◌, ◌≤◌, codes, refl, sym, ap, ◌∙◌, subst, arith, Option, None, Some, List, [], ◌∷◌, ◌++◌, append_assoc, length, length-append, append-nil, map, take, get_or}
use Rattle.std.proofs.lemmas.List.{get_or-map, length-map}
use Rattle.std.proofs.lemmas.List.Concat.{flat_map-append}
use Rattle.std.specs.List.{range_with_len}
use Rattle.std.specs.Option.{option_and_then, option_map, unwrap_or}
use Rattle.std.specs.Prelude.{flat_map}
use Rattle.vpf_findings.specs.declared.finding.TableName.TheVariants as names
use Rattle.vpf_head.specs.Head.{Col}
use Rattle.vpf_head.specs.Inner.Soundness.{IsSound}
use Rattle.vpf_table.specs.Grid.{Grid, Row}
use Rattle.vpf_write.specs.Inner.Tallies.{Tally, Holds}
use Rattle.vpf_write.specs.Revise.Revising.{revised}
use Rattle.vpf_prims.specs.Coverages.{CoverageTables, last_tile, tile_at}
use Rattle.vpf_prims.specs.Libraries.{library_of, primitives_in}
use Rattle.vpf_prims.specs.Lists.{kth}
use Rattle.vpf_prims.specs.Numbering.{IsRowOf}
use Rattle.vpf_prims.specs.Primitives.{EntityPrimitive, absent_entity, entities_in, tile_entities}
use Rattle.vpf_prims.specs.Reading.{entity_in_row, reference_of, rows_said}
use Rattle.vpf_prims.specs.References.{id_of}
use Rattle.vpf_prims.specs.Tables.{TileTables, table_named}
use Rattle.vpf_tiling.specs.Ranks.{numbered, numbered_from}
use Rattle.vpf_renumbering.specs.TilingLawsWhole.{WholeEntity, face_here, tiles_in, whole_entities}
use Rattle.vpf_renumbering.specs.Glued.{face_number}
use Rattle.vpf_primitive_tables.specs.TableForms.Forms.{pair_values}
use Rattle.vpf_renumbering.specs.Inner.GluedFaces.Faces.{entity_face}
use Rattle.vpf_glue.specs.GluedTables.Grids.{EntitySource, entity_source, entity_sources, glued_entity_row, sources_in_table, whole_in}
use Rattle.vpf_glue.specs.Inner.GluedTables.Laws.{AreOfTiles}
use Rattle.vpf_glue.specs.Inner.Sources.{IsOfTile, IsRight, sources_before, sources_of, table_in}
use Rattle.vpf_glue.proofs.EndLemmas.{tile_with}

-- ---- tile by tile

range_last : (a n : ℕ) → range_with_len a (suc n) ≡ range_with_len a n ++ (a + n) ∷ []
range_last a zero = let e : a ≡ a + 0 = omega arith in ap (λ b. b ∷ []) e
range_last a (suc n) =
    ap (λ v. a ∷ v) (range_last (a + 1) n ∙ ap (λ b. range_with_len (a + 1) n ++ b ∷ []) (let s : (a + 1) + n ≡ a + suc n = omega arith in s))

pub sources_none : (c : CoverageTables) → sources_before c 0 ≡ []
unfolding sources_before
sources_none c = refl

-- one tile more
pub sources_more : (c : CoverageTables) (t : ℕ) → sources_before c (t + 1) ≡ sources_before c t ++ sources_of c t
unfolding sources_before
sources_more c t =
    let s : t + 1 ≡ suc t = omega arith in
    let z : 0 + t ≡ t = omega arith in
    ap (flat_map (sources_of c)) (ap (range_with_len 0) s ∙ range_last 0 t)
    ∙ flat_map-append (sources_of c) (range_with_len 0 t) ((0 + t) ∷ [])
    ∙ ap (λ v. flat_map (sources_of c) (range_with_len 0 t) ++ v) (append-nil (sources_of c (0 + t)) ∙ ap (sources_of c) z)

-- all tiles
pub sources_all : (c : CoverageTables) → sources_before c (last_tile c + 1) ≡ entity_sources c
unfolding sources_before
sources_all c = let s : last_tile c + 1 ≡ suc (last_tile c) = omega arith in ap (λ n. flat_map (sources_of c) (range_with_len 0 n)) s

many_more : (c : CoverageTables) (t : ℕ) → length (sources_before c (t + 1)) ≡ length (sources_before c t) + length (sources_of c t)
many_more c t = ap length (sources_more c t) ∙ length-append (sources_before c t) (sources_of c t)

many_rise : (c : CoverageTables) (t n : ℕ) → length (sources_before c t) ≤ length (sources_before c (t + n))
many_rise c t zero = let e : length (sources_before c t) ≡ length (sources_before c (t + 0)) = ap (λ s. length (sources_before c s)) (let z : t ≡ t + 0 = omega arith in z) in omega arith
many_rise c t (suc n) =
    let less : length (sources_before c t) ≤ length (sources_before c (t + n)) = many_rise c t n in
    let next : length (sources_before c (t + n + 1)) ≡ length (sources_before c (t + n)) + length (sources_of c (t + n)) = many_more c (t + n) in
    let same : length (sources_before c (t + suc n)) ≡ length (sources_before c (t + n + 1)) = ap (λ s. length (sources_before c s)) (let z : t + suc n ≡ t + n + 1 = omega arith in z) in
    omega arith

-- with the entity nodes of a tile there are no more than in all tiles
pub many_within : (c : CoverageTables) (t : ℕ) → t ≤ last_tile c → length (sources_before c t) + length (sources_of c t) ≤ length (entity_sources c)
many_within c t h =
    let next : length (sources_before c (t + 1)) ≡ length (sources_before c t) + length (sources_of c t) = many_more c t in
    let rise : length (sources_before c (t + 1)) ≤ length (sources_before c (t + 1 + (last_tile c - t))) = many_rise c (t + 1) (last_tile c - t) in
    let same : length (sources_before c (t + 1 + (last_tile c - t))) ≡ length (entity_sources c) =
    ap (λ s. length (sources_before c s)) (let z : t + 1 + (last_tile c - t) ≡ last_tile c + 1 = omega arith in z) ∙ ap length (sources_all c) in
    omega arith

-- ---- as many as the library has

end_many : (t : ℕ) (end : Option Grid) (g : EntityPrimitive → WholeEntity)
    → length (sources_in_table t end) ≡ length (map g (unwrap_or (option_map (rows_said entity_in_row) end) []))
end_many t None g = refl
end_many t (Some end) g =
    length-map end.rows (entity_source t end.head.columns)
    ∙ sym (length-map (map (entity_in_row end.head.columns) end.rows) g ∙ length-map end.rows (entity_in_row end.head.columns))

tile_many : (t : ℕ) (o : Option TileTables) (g : EntityPrimitive → WholeEntity)
    → length (sources_in_table t (option_and_then (λ (T : TileTables). T.tables.end) o)) ≡ length (map g (entities_in (primitives_in o)))
tile_many t None g = refl
tile_many t (Some T) g = end_many t T.tables.end g

all_many : {X Y : Type 0} (f : ℕ → List X) (g : ℕ → List Y) (ts : List ℕ) → ((t : ℕ) → length (f t) ≡ length (g t)) → length (flat_map f ts) ≡ length (flat_map g ts)
all_many f g [] h = refl
all_many f g (t ∷ ts) h =
    length-append (f t) (flat_map f ts) ∙ ap (λ n. n + length (flat_map f ts)) (h t) ∙ ap (λ n. length (g t) + n) (all_many f g ts h)
    ∙ sym (length-append (g t) (flat_map g ts))

pub as_many : (c : CoverageTables) → length (entity_sources c) ≡ length (flat_map (whole_entities (library_of c)) (tiles_in (library_of c)))
as_many c = all_many (sources_of c) (whole_entities (library_of c)) (tiles_in (library_of c)) (λ t.
    tile_many t (tile_at c t) (λ (row : EntityPrimitive). let e : WholeEntity = record { face = face_here t (id_of row.containing_face); carried = row.carried } in e))

-- ---- rows one behind another

-- the rows of some items, and of others behind them
pub numbered_join : {X R : Type 0} (n : ℕ) (f : ℕ → X → R) (xs ys : List X) → numbered_from n f (xs ++ ys) ≡ numbered_from n f xs ++ numbered_from (n + length xs) f ys
numbered_join n f [] ys = let z : n + 0 ≡ n = omega arith in rw z refl
numbered_join {X} {R} n f (x ∷ xs) ys =
    let z : suc n + length xs ≡ n + suc (length xs) = omega arith in
    ap (λ (rows : List R). f n x ∷ rows) (numbered_join (suc n) f xs ys ∙ ap (λ m. numbered_from (suc n) f xs ++ numbered_from m f ys) z)

-- and of one item more
pub one_more : {X R : Type 0} (n : ℕ) (f : ℕ → X → R) (xs : List X) (k : ℕ) (d : X) → k < length xs
    → numbered_from n f (take (k + 1) xs) ≡ numbered_from n f (take k xs) ++ f (n + k) (get_or xs k d) ∷ []
one_more n f xs k d h = let s : k + 1 ≡ suc k = omega arith in rw s (more n f xs k d h)
  where
    more : {X R : Type 0} (n : ℕ) (f : ℕ → X → R) (xs : List X) (k : ℕ) (d : X) → k < length xs
        → numbered_from n f (take (suc k) xs) ≡ numbered_from n f (take k xs) ++ f (n + k) (get_or xs k d) ∷ []
    more n f [] k d h = absurd (omega arith)
    more n f (x ∷ xs) zero d h = let e : n + 0 ≡ n = omega arith in rw e refl
    more {X} {R} n f (x ∷ xs) (suc k) d h =
        let e : n + suc k ≡ suc n + k = omega arith in
        rw e (ap (λ (rows : List R). f n x ∷ rows) (more (suc n) f xs k d (omega arith)))

-- a row more behind others
pub rows_more : {X : Type 0} (w v : Tally) (rows : List Row) (n m : ℕ) (f : ℕ → X → Row) (xs : List X) (k : ℕ) (d : X) (row : Row) → k < length xs → n + k ≡ m
    → row ≡ f m (get_or xs k d) → ((rs : List Row) → Holds w rs → Holds v (rs ++ row ∷ []))
    → Holds w (rows ++ numbered_from n f (take k xs)) → Holds v (rows ++ numbered_from n f (take (k + 1) xs))
rows_more w v rows n m f xs k d row lt z is put holds =
    let here : row ≡ f (n + k) (get_or xs k d) = is ∙ ap (λ i. f i (get_or xs k d)) (sym z) in
    let more : Holds v ((rows ++ numbered_from n f (take k xs)) ++ row ∷ []) = put (rows ++ numbered_from n f (take k xs)) holds in
    subst (λ (rs : List Row). Holds v (rows ++ rs)) (sym (one_more n f xs k d lt))
    (subst (λ (r : Row). Holds v (rows ++ (numbered_from n f (take k xs) ++ r ∷ []))) here
    (subst (Holds v) (append_assoc rows (numbered_from n f (take k xs)) (row ∷ [])) more))

-- ---- the rows of a tile

tile_sources : (o : Option TileTables) (t : ℕ) (end : Grid) → option_and_then (λ (T : TileTables). table_named T names.End) o ≡ Some end
    → sources_in_table t (option_and_then (λ (T : TileTables). T.tables.end) o) ≡ map (entity_source t end.head.columns) end.rows
tile_sources None t end h = absurd cc
tile_sources (Some T) t end h = ap (sources_in_table t) h

pub sources_are : (c : CoverageTables) (t : ℕ) (end : Grid) → table_in c t names.End ≡ Some end → sources_of c t ≡ map (entity_source t end.head.columns) end.rows
sources_are c t end h = tile_sources (tile_at c t) t end h

pub sources_many : (c : CoverageTables) (t : ℕ) (end : Grid) → table_in c t names.End ≡ Some end → length (sources_of c t) ≡ length end.rows
sources_many c t end h = ap length (sources_are c t end h) ∙ length-map end.rows (entity_source t end.head.columns)

no_sources : (o : Option TileTables) (t : ℕ) → option_and_then (λ (T : TileTables). table_named T names.End) o ≡ None
    → sources_in_table t (option_and_then (λ (T : TileTables). T.tables.end) o) ≡ []
no_sources None t h = refl
no_sources (Some T) t h = ap (sources_in_table t) h

pub sources_absent : (c : CoverageTables) (t : ℕ) → table_in c t names.End ≡ None → sources_of c t ≡ []
sources_absent c t h = no_sources (tile_at c t) t h

-- what the library says of them
said : (o : Option TileTables) (end : Grid) → option_and_then (λ (T : TileTables). table_named T names.End) o ≡ Some end
    → entities_in (primitives_in o) ≡ map (entity_in_row end.head.columns) end.rows
said None end h = absurd cc
said (Some T) end h = ap (λ (e : Option Grid). unwrap_or (option_map (rows_said entity_in_row) e) []) h

pub entity_listed : (c : CoverageTables) (t k : ℕ) (end : Grid) → table_in c t names.End ≡ Some end → IsRowOf (length end.rows) k
    → IsRowOf (length (tile_entities (library_of c) t)) k
entity_listed c t k end h r =
    subst (λ n. IsRowOf n k) (sym (ap length (said (tile_at c t) end h) ∙ length-map end.rows (entity_in_row end.head.columns))) r

second : {X : Type 0} (x : X) (xs : List X) (k : ℕ) (d : X) → get_or (x ∷ xs) (k + 1) d ≡ get_or xs k d
second x xs k d = let s : k + 1 ≡ suc k = omega arith in rw s refl

face_said : (c : CoverageTables) (t k : ℕ) (end : Grid) → table_in c t names.End ≡ Some end → k < length end.rows
    → entity_face (library_of c) t (k + 1) ≡ face_here t (id_of (reference_of end.head.columns (codes "containing_face") (get_or end.rows k [])))
face_said c t k end h lt =
    ap (λ (es : List EntityPrimitive). face_here t (id_of (kth es (k + 1) absent_entity).containing_face)) (said (tile_at c t) end h)
    ∙ ap (λ (e : EntityPrimitive). face_here t (id_of e.containing_face))
    (second absent_entity (map (entity_in_row end.head.columns) end.rows) k absent_entity
    ∙ get_or-map (entity_in_row end.head.columns) end.rows k [] absent_entity lt)

-- an entity node that there is not
abbrev pub no_source : EntitySource
no_source = record { face = None; row = [] }

-- the row of an entity node with its new numbers
pub entity_row : (columns : List Col) (c : CoverageTables) (t k n face : ℕ) (end : Grid) (row : Row) → table_in c t names.End ≡ Some end → k < length end.rows
    → row ≡ kth end.rows (k + 1) [] → face ≡ face_number (whole_in c) (entity_face (library_of c) t (k + 1))
    → revised (pair_values (codes "containing_face") columns n face) row
    ≡ glued_entity_row columns c n (get_or (map (entity_source t end.head.columns) end.rows) k no_source)
entity_row columns c t k n face end row h lt is named =
    let here : row ≡ get_or end.rows k [] = is ∙ second [] end.rows k [] in
    let face_is : face ≡ face_number (whole_in c) (face_here t (id_of (reference_of end.head.columns (codes "containing_face") (get_or end.rows k [])))) =
    named ∙ ap (face_number (whole_in c)) (face_said c t k end h lt) in
    ap (λ (r : Row). revised (pair_values (codes "containing_face") columns n face) r) here
    ∙ ap (λ m. revised (pair_values (codes "containing_face") columns n m) (get_or end.rows k [])) face_is
    ∙ sym (ap (glued_entity_row columns c n) (get_or-map (entity_source t end.head.columns) end.rows k [] no_source lt))

-- a tile's table of entity nodes is like another tile's
pub entity_like : (c : CoverageTables) (t : ℕ) (like end : Grid) → IsRight c → IsOfTile (λ T. T.end) c like → table_in c t names.End ≡ Some end → IsSound end.head
    → AreOfTiles (λ T. T.end) c like end
entity_like c t like end right of h sound =
    let f = tile_with (tile_at c t) end h in
    record {
      library = right.library;
      columns = right.columns;
      tile = of.tile;
      T = of.T;
      has = of.has;
      table = of.table;
      apart = of.sound.distinct;
      other = t;
      U = f.0;
      has_other = f.1.0;
      table_there = f.1.1;
      apart_there = sound.distinct;
    }

-- the rows of the tiles before one, and those of the tile
pub tile_put : (w v : Tally) (columns : List Col) (c : CoverageTables) (t count : ℕ) → count ≡ length (sources_before c t)
    → ((rows : List Row) → Holds w rows → Holds v (rows ++ numbered_from (count + 1) (glued_entity_row columns c) (sources_of c t)))
    → Holds w (numbered (glued_entity_row columns c) (sources_before c t)) → Holds v (numbered (glued_entity_row columns c) (sources_before c (t + 1)))
tile_put w v columns c t count many put holds =
    let f : ℕ → EntitySource → Row = glued_entity_row columns c in
    let z : count + 1 ≡ 1 + length (sources_before c t) = omega arith in
    let joined : numbered_from 1 (glued_entity_row columns c) (sources_before c (t + 1))
    ≡ numbered_from 1 (glued_entity_row columns c) (sources_before c t) ++ numbered_from (count + 1) (glued_entity_row columns c) (sources_of c t) =
    ap (λ (xs : List EntitySource). numbered_from 1 (glued_entity_row columns c) xs) (sources_more c t)
    ∙ numbered_join 1 (glued_entity_row columns c) (sources_before c t) (sources_of c t)
    ∙ ap (λ n. numbered_from 1 (glued_entity_row columns c) (sources_before c t) ++ numbered_from n (glued_entity_row columns c) (sources_of c t)) (sym z) in
    subst (Holds v) (sym joined) (put (numbered (glued_entity_row columns c) (sources_before c t)) holds)

pub count_more : (c : CoverageTables) (t count after : ℕ) → count ≡ length (sources_before c t) → after ≡ count + length (sources_of c t) → after ≡ length (sources_before c (t + 1))
count_more c t count after many is =
    let next : length (sources_before c (t + 1)) ≡ length (sources_before c t) + length (sources_of c t) = many_more c t in
    omega arith

pub all_put : (v : Tally) (columns : List Col) (c : CoverageTables) (t : ℕ) → t ≡ last_tile c
    → Holds v (numbered (glued_entity_row columns c) (sources_before c (t + 1))) → Holds v (numbered (glued_entity_row columns c) (entity_sources c))
all_put v columns c t last holds =
    subst (λ (xs : List EntitySource). Holds v (numbered (glued_entity_row columns c) xs)) (ap (λ n. sources_before c (n + 1)) last ∙ sources_all c) holds
