-- The tables pass no limit.
use Rattle.std.proofs.Common.{[], ◌≡◌, ℕ, zero, suc, ◌+◌, ◌*◌, ◌≤◌, false, List, ◌∷◌, length, map, refl, ap, subst, ◌∙◌, arith, length-append}
use Rattle.std.specs.Prelude.{None, nat_lt}
use Rattle.std.specs.List.{AllByRecursion, enumerate_from, range_with_len}
use Rattle.std.proofs.lemmas.Bool.Decides.{nat_tests}
use Rattle.std.proofs.lemmas.List.{length-map}
use Rattle.std.proofs.lemmas.List.FromFn.{length-enumerate_from, length-map-range_with_len}
use Rattle.vpf_value.specs.Values.{TextOf}
use Rattle.vpf_head.specs.Canonical.{canonical_header, canonical_text}
use Rattle.vpf_head.specs.Head.{Head, Col, varies_in}
use Rattle.vpf_table.specs.Canonical.{canonical_table, row_text, rows_text}
use Rattle.vpf_table.specs.Grid.{Row}
use Rattle.vpf_write.specs.Writing.{first_limit, limit_by}
use Rattle.vpf_vectors.specs.declared.cells.rows.EdgeRow.{EdgeRow}
use Rattle.vpf_vectors.specs.declared.cells.rows.RingRow.{RingRow}
use Rattle.vpf_vectors.specs.Heads.{plain_head, ids, numbers, tileref_head, edge_head, ring_head}
use Rattle.vpf_vectors.specs.Tables.{cell_of_number, tile_cells, edge_cells, ring_cells, pair_cells, padded_name, grid_tileref, edge_table, ring_table, pair_table}
use Rattle.vpf_vectors.specs.Inner.Writing.{HasPairs}
use Rattle.vpf_vectors.specs.Inner.HeadLaws.{short_tileref, short_edges, short_rings}
use Rattle.vpf_vectors.specs.Inner.StemLaws.{name_length}

-- a row has at most 30 bytes
abbrev IsShortRow : Head → Row → Type 0
IsShortRow h row = length (row_text h.order h.columns row) ≤ 30

rows_length : (h : Head) (rows : List Row) → AllByRecursion (IsShortRow h) rows → length (rows_text h.order h.columns rows) ≤ 30 * length rows
unfolding rows_text
rows_length h [] all = omega arith
rows_length h (row ∷ rows) all =
    let e = length-append (row_text h.order h.columns row) (rows_text h.order h.columns rows) in
    let f : length (row_text h.order h.columns row) ≤ 30 = all.0 in
    let g = rows_length h rows all.1 in
    let s : length (row ∷ rows) ≡ length rows + 1 = omega arith in
    omega (arith, e, f, g, s)

no_limit_by : (t r s : ℕ) → t ≤ 1000 → r ≤ 100000 → s ≤ 4000000 → limit_by t r s false ≡ None
unfolding limit_by
no_limit_by t r s ht hr hs =
    let a : nat_lt 65536 t ≡ false = grind (arith, nat_tests) in
    let b : nat_lt 16777215 r ≡ false = grind (arith, nat_tests) in
    let c : nat_lt 67108864 s ≡ false = grind (arith, nat_tests) in
    rw (a, b, c) refl

-- few short rows under a short header pass no limit
no_limit : (description : List ℕ) (columns : List Col) (rows : List Row) → length (canonical_text (plain_head description columns)) ≤ 1000
    → varies_in columns ≡ false → length rows ≤ 100000 → AllByRecursion (IsShortRow (plain_head description columns)) rows
    → first_limit (record { head = plain_head description columns; rows = rows }) ≡ None
no_limit description columns rows short fixed few all =
    let a = length-append (canonical_header (plain_head description columns)) (rows_text (plain_head description columns).order columns rows) in
    let b = rows_length (plain_head description columns) rows all in
    let c : length (canonical_header (plain_head description columns)) ≡ 4 + length (canonical_text (plain_head description columns)) = omega arith in
    let size = length (canonical_table (record { head = plain_head description columns; rows = rows })) in
    rw fixed (no_limit_by (length (canonical_text (plain_head description columns))) (length rows) size short few (omega (arith, a, b, c, short, few)))

each : {X : Type 0} (P : Row → Type 0) (f : X → Row) → ((x : X) → P (f x)) → (xs : List X) → AllByRecursion P (map f xs)
each P f p [] = tt
each P f p (x ∷ xs) = (p x, each P f p xs)

few_rows : {X : Type 0} (f : ℕ × X → Row) (first : ℕ) (xs : List X) → length xs ≤ 100000 → length (map f (enumerate_from first xs)) ≤ 100000
few_rows f first xs h = let a = length-map (enumerate_from first xs) f in let b = length-enumerate_from first xs in omega (arith, a, b)

edge_length : (p : ℕ × EdgeRow) → length (row_text edge_head.order edge_head.columns (edge_cells p)) ≡ 30
unfolding row_text
edge_length p = refl

ring_length : (p : ℕ × RingRow) → length (row_text ring_head.order ring_head.columns (ring_cells p)) ≡ 12
unfolding row_text
ring_length p = refl

pair_length : (description id name text : List ℕ) (p : ℕ × ℕ)
    → length (row_text (plain_head description []).order (ids id ∷ numbers name text ∷ []) (pair_cells p)) ≡ 8
unfolding row_text
pair_length description id name text p = refl

text_length : (k : ℕ) (text : List ℕ) → length text ≡ 8
    → length (row_text tileref_head.order tileref_head.columns (cell_of_number k ∷ TextOf text ∷ [])) ≡ 12
unfolding row_text
text_length k text h = let a = length-append text [] in omega (arith, a, h)

tiles_are_short : (a k : ℕ) → a + k ≤ 100001 → AllByRecursion (IsShortRow tileref_head) (map tile_cells (range_with_len a k))
tiles_are_short a zero h = tt
tiles_are_short a (suc k) h =
    (let e = text_length a (padded_name a) (name_length a (omega arith)) in omega (arith, e), tiles_are_short (a + 1) k (omega arith))

pub tileref_limit : (tiles : ℕ) → tiles ≤ 100000 → first_limit (grid_tileref tiles) ≡ None
tileref_limit tiles few =
    let l = length-map-range_with_len tile_cells 1 tiles in
    no_limit tileref_head.description tileref_head.columns (map tile_cells (range_with_len 1 tiles)) short_tileref refl (omega (arith, l))
    (tiles_are_short 1 tiles (omega arith))

pub edges_limit : (rows : List EdgeRow) → length rows ≤ 100000 → first_limit (edge_table rows) ≡ None
edges_limit rows few =
    no_limit edge_head.description edge_head.columns (map edge_cells (enumerate_from 1 rows)) short_edges refl (few_rows edge_cells 1 rows few)
    (each (IsShortRow edge_head) edge_cells (λ p. let l = edge_length p in omega (arith, l)) (enumerate_from 1 rows))

pub rings_limit : (rows : List RingRow) → length rows ≤ 100000 → first_limit (ring_table rows) ≡ None
rings_limit rows few =
    no_limit ring_head.description ring_head.columns (map ring_cells (enumerate_from 1 rows)) short_rings refl (few_rows ring_cells 1 rows few)
    (each (IsShortRow ring_head) ring_cells (λ p. let l = ring_length p in omega (arith, l)) (enumerate_from 1 rows))

-- the same of a header that is spelled out
pairs_limit_by : (description id name text : List ℕ) (first : ℕ) (values : List ℕ)
    → length (canonical_text (plain_head description (ids id ∷ numbers name text ∷ []))) ≤ 1000 → length values ≤ 100000
    → first_limit (pair_table (plain_head description (ids id ∷ numbers name text ∷ [])) first values) ≡ None
pairs_limit_by description id name text first values short few =
    no_limit description (ids id ∷ numbers name text ∷ []) (map pair_cells (enumerate_from first values)) short refl (few_rows pair_cells first values few)
    (each (IsShortRow (plain_head description (ids id ∷ numbers name text ∷ []))) pair_cells
    (λ p. let l = pair_length description id name text p in omega (arith, l)) (enumerate_from first values))

pub pairs_limit : (h : Head) (first : ℕ) (values : List ℕ) → HasPairs h → first + length values ≤ 100000 → first_limit (pair_table h first values) ≡ None
pairs_limit h first values p few =
    let short = subst (λ (g : Head). length (canonical_text g) ≤ 1000) p.is p.short in
    ap (λ (g : Head). first_limit (pair_table g first values)) p.is ∙ pairs_limit_by p.description p.id p.name p.text first values short (omega arith)
