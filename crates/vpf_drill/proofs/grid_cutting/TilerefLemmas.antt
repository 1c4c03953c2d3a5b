-- The table of tiles of the grid is one, within the bounds.
use Rattle.std.proofs.Common.{[], ◌≡◌, ◌≢◌, ℕ, zero, suc, ◌+◌, ◌-◌, ◌/◌, ◌^◌, ◌<◌, ◌≤◌, false, List, ◌∷◌, length, get_or, map, None, refl, sym, ap, subst, ◌∙◌, arith, length-append}
use Rattle.std.specs.Prelude.{◌==◌, codes, filter}
use Rattle.std.specs.Fmt.{decimal}
use Rattle.std.specs.List.{AllByRecursion, range_with_len}
use Rattle.std.proofs.lemmas.Bool.Decides.{nat_tests}
use Rattle.std.proofs.lemmas.Fmt.{decimal_injective, length-decimal-le}
use Rattle.std.proofs.lemmas.List.Elements.{All-from_recursion}
use Rattle.std.proofs.lemmas.List.FromFn.{length-map-range_with_len}
use Rattle.std.proofs.lemmas.Nat.{mul-le}
use Rattle.vpf_source.specs.Names.Items.{small}
use Rattle.vpf_table.specs.Grid.{Row}
use Rattle.vpf_prims.specs.Lists.{kth}
use Rattle.vpf_prims.specs.Numbering.{IsRowOf}
use Rattle.vpf_prims.specs.Reading.{named_cell, natural_in}
use Rattle.vpf_library_files.specs.Inner.Tileref.Laws.{StopsDecide}
use Rattle.vpf_library_files.specs.Tileref.Paths.{IsFolder, IsLetter, IsPath, TilePath, folders_in, is_some_name, path_of, path_text}
use Rattle.vpf_library_files.specs.Tileref.Stops.{IsBounded, tileref_stop}
use Rattle.vpf_library_files.specs.Tileref.Tileref.{IsTileref, name_column, paths_of, row_path}
use Rattle.vpf_vectors.specs.Inner.GridCoverage.RowLaws.{kth_row}
use Rattle.vpf_vectors.specs.Heads.{tileref_head}
use Rattle.vpf_vectors.specs.Library.{tiles}
use Rattle.vpf_vectors.specs.Tables.{padded_name, tile_cells, tile_name, grid_tileref}
use Rattle.vpf_drill.proofs.grid_cutting.NameLemmas.{IsDigit, all_digits, digits_of, name_small, name_trimmed, name_undivided}

-- how many tiles there are
pub few_tiles : (n : ℕ) → n ≤ 200 → tiles n ≤ 10000
unfolding tiles
few_tiles n h = mul-le (n / 2) (n / 2) 100 100 (omega arith) (omega arith)

-- the name of a tile is one folder
kept_name : (ds : List ℕ) → filter is_some_name ((116 ∷ ds) ∷ []) ≡ (116 ∷ ds) ∷ []
kept_name ds = let f : (suc (length ds) == 0) ≡ false = grind (arith, nat_tests) in rw f refl

path-is : (k : ℕ) → k < 2 ^ 64 → path_of (padded_name k) ≡ tile_name k ∷ []
path-is k h =
    let all = digits_of k h in
    ap (λ text. folders_in (small text)) (name_trimmed (decimal k) (8 - length (tile_name k)) all)
    ∙ ap folders_in (name_small (decimal k) all) ∙ ap (filter is_some_name) (name_undivided (decimal k) all) ∙ kept_name (decimal k)

digit_letter : (b : ℕ) → IsDigit b → IsLetter b
digit_letter b d =
    let low = d.from_first in
    let high = d.to_last in
    record {
      from_first = omega arith;
      to_last = omega arith;
      straight = λ e. (let f : b ≡ 47 = e in absurd (omega arith));
      other = λ e. (let f : b ≡ 92 = e in absurd (omega arith));
    }

first_letter : IsLetter 116
first_letter = record {
  from_first = omega arith;
  to_last = omega arith;
  straight = λ e. (let f : 116 ≡ 47 = e in absurd (omega arith));
  other = λ e. (let f : 116 ≡ 92 = e in absurd (omega arith));
}

not_dots : (ds : List ℕ) (b : ℕ) (bs : List ℕ) → b ≢ 116 → 116 ∷ ds ≡ b ∷ bs → ⊥
not_dots ds b bs other e = other (sym (ap (λ (x : List ℕ). get_or x 0 0) e))

folder : (k : ℕ) → k < 2 ^ 64 → IsFolder (tile_name k)
folder k h = record {
  some = λ e. cc;
  here = not_dots (decimal k) 46 [] (λ e. absurd (omega arith));
  around = not_dots (decimal k) 46 (46 ∷ []) (λ e. absurd (omega arith));
  letters = All-from_recursion IsLetter (tile_name k) (first_letter, all_digits IsLetter digit_letter (decimal k) (digits_of k h));
}

path : (k : ℕ) → k < 2 ^ 64 → IsPath (tile_name k ∷ [])
path k h = record { some = λ e. cc; folders = All-from_recursion IsFolder (tile_name k ∷ []) (folder k h, tt) }

-- the paths, row by row
twice : {Y : Type 0} (f : Row → Y) (g : ℕ → Row) (a m : ℕ) → map f (map g (range_with_len a m)) ≡ map (λ k. f (g k)) (range_with_len a m)
twice f g a zero = refl
twice f g a (suc m) = ap (λ ys. f (g a) ∷ ys) (twice f g (a + 1) m)

path_there : (m k : ℕ) → m ≤ 10000 → IsRowOf m k → kth (paths_of (grid_tileref m)) k [] ≡ tile_name k ∷ []
path_there m k few row =
    ap (λ (paths : List TilePath). kth paths k []) (twice (row_path (name_column tileref_head.columns)) tile_cells 1 m)
    ∙ kth_row (λ i. path_of (padded_name i)) m k [] row.0 row.1 ∙ path-is k (omega (arith, row))

same_name : (j k : ℕ) → tile_name j ∷ [] ≡ tile_name k ∷ [] → decimal j ≡ decimal k
same_name j k e = cc

rows-are : (m : ℕ) → length (grid_tileref m).rows ≡ m
rows-are m = length-map-range_with_len tile_cells 1 m

row_there : (m k : ℕ) → IsRowOf (length (grid_tileref m).rows) k → IsRowOf m k
row_there m k row = (row.0, subst (λ i. k ≤ i) (rows-are m) row.1)

tileref : (m : ℕ) → 1 ≤ m → m ≤ 10000 → IsTileref (grid_tileref m)
tileref m some few = record {
  columns = (refl, (refl, tt));
  some = subst (λ i. 1 ≤ i) (sym (rows-are m)) some;
  ids = λ k row.
      (let r = row_there m k row in
      ap (λ (cells : Row). natural_in (named_cell tileref_head.columns (codes "id") cells)) (kth_row tile_cells m k [] r.0 r.1));
  paths = λ k row. (let r = row_there m k row in subst IsPath (sym (path_there m k few r)) (path k (omega (arith, r))));
  apart = λ j k first second same.
      (let r = row_there m j first in
      let s = row_there m k second in
      let e : decimal j ≡ decimal k = same_name j k (sym (path_there m j few r) ∙ same ∙ path_there m k few s) in
      decimal_injective j k (omega (arith, r)) (omega (arith, s)) e);
}

-- each path is short
text_short : (k : ℕ) → k ≤ 100000 → length (path_text (tile_name k ∷ [])) ≤ 255
text_short k h =
    let d : length (decimal k) ≤ 6 = length-decimal-le 6 k (omega arith) (omega arith) (omega arith) in
    let a = length-append (tile_name k) [] in
    omega (arith, a, d)

texts_short : (a m : ℕ) → a + m ≤ 100001
    → AllByRecursion (λ (text : List ℕ). length text ≤ 255) (map path_text (map (row_path (name_column tileref_head.columns)) (map tile_cells (range_with_len a m))))
texts_short a zero h = tt
texts_short a (suc m) h = (
  subst (λ (p : TilePath). length (path_text p) ≤ 255) (sym (path-is a (omega arith))) (text_short a (omega arith)),
  texts_short (a + 1) m (omega arith),
)

bounded : (m : ℕ) → m ≤ 10000 → IsBounded (grid_tileref m)
bounded m few =
    let rows = rows-are m in
    record {
      few = omega (arith, rows);
      short = All-from_recursion (λ (text : List ℕ). length text ≤ 255) _ (texts_short 1 m (omega arith));
    }

-- so nothing ends its reading
pub goes_on : StopsDecide → (m : ℕ) → 1 ≤ m → m ≤ 10000 → tileref_stop (grid_tileref m) ≡ None
goes_on decide m some few = (decide (grid_tileref m)).1 (tileref m some few, bounded m few)
