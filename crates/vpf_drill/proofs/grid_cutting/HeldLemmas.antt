-- The files of the grid hold bytes.
use Rattle.std.proofs.Common.{[], ◌≡◌, ℕ, zero, suc, ◌+◌, ◌-◌, ◌^◌, ◌<◌, ◌≤◌, Bool, true, false, cond, List, ◌∷◌, ◌++◌, length, map, Option, Some, pos, refl, subst, arith}
use Rattle.std.specs.Prelude.{IfSome, replicate}
use Rattle.std.specs.Fmt.{decimal}
use Rattle.std.specs.Int.{w16, w32, cast_unsigned}
use Rattle.std.specs.List.{AllByRecursion, range_with_len}
use Rattle.std.specs.Str.{bytes_eq}
use Rattle.vpf_base.specs.Bytes.{IsBytes}
use Rattle.vpf_source.specs.Files.{Files, no_files, HoldsBytes}
use Rattle.vpf_source.specs.Making.{with_all}
use Rattle.vpf_source.specs.declared.file.File.{File}
use Rattle.vpf_base.specs.declared.orders.Order.TheVariants.{Little}
use Rattle.vpf_base.specs.Numbers.{number}
use Rattle.vpf_head.specs.Bytes.{space}
use Rattle.vpf_head.specs.Canonical.{canonical_text, columns_text, column_text}
use Rattle.vpf_table.specs.Canonical.{row_text}
use Rattle.vpf_table.specs.Grid.{Row}
use Rattle.vpf_vectors.specs.Cells.Rows.{edge_rows, face_rows, ring_rows, node_rows}
use Rattle.vpf_vectors.specs.Heads.{tileref_head, edge_head, face_head, ring_head, node_head, plan_head}
use Rattle.vpf_vectors.specs.Library.{grid_files, tiles}
use Rattle.vpf_vectors.specs.Tables.{edge_table, padded_name, pair_table, ring_table, tile_cells}
use Rattle.vpf_drill.specs.GridCutting.Held.{grid_held, cut_plan_grid, tileref_grid}
use Rattle.vpf_drill.proofs.grid_cutting.ByteLemmas.{AreBytes, cell_bytes, joined_bytes, number_bytes, numbers_bytes, table_bytes, tested_bytes}
use Rattle.vpf_drill.proofs.grid_cutting.TilerefLemmas.{few_tiles}
use Rattle.vpf_drill.proofs.grid_cutting.NameLemmas.{IsDigit, all_digits, digits_of}
use Rattle.vpf_base.proofs.Options.{some_is as some_same}
use Rattle.vpf_vectors.specs.Inner.HeadLaws.{one, eight}

-- the texts of the headers
tileref_text : AreBytes (canonical_text tileref_head)
unfolding canonical_text columns_text column_text
tileref_text = tested_bytes (canonical_text tileref_head) (rw (one, eight) refl)

edge_text : AreBytes (canonical_text edge_head)
unfolding canonical_text columns_text column_text
edge_text = tested_bytes (canonical_text edge_head) (rw one refl)

face_text : AreBytes (canonical_text face_head)
unfolding canonical_text columns_text column_text
face_text = tested_bytes (canonical_text face_head) (rw one refl)

ring_text : AreBytes (canonical_text ring_head)
unfolding canonical_text columns_text column_text
ring_text = tested_bytes (canonical_text ring_head) (rw one refl)

node_text : AreBytes (canonical_text node_head)
unfolding canonical_text columns_text column_text
node_text = tested_bytes (canonical_text node_head) (rw one refl)

plan_text : AreBytes (canonical_text plan_head)
unfolding canonical_text columns_text column_text
plan_text = tested_bytes (canonical_text plan_head) (rw one refl)

-- the rows of tiles
space_bytes : (m : ℕ) → AreBytes (replicate m space)
space_bytes zero = tt
space_bytes (suc m) = (omega arith, space_bytes m)

digit_byte : (b : ℕ) → IsDigit b → b < 256
digit_byte b d = let high = d.to_last in omega arith

name_bytes : (k : ℕ) → k < 2 ^ 64 → AreBytes (padded_name k)
name_bytes k h =
    joined_bytes (116 ∷ decimal k) (replicate (8 - length (116 ∷ decimal k)) space)
    (omega arith, all_digits (λ b. b < 256) digit_byte (decimal k) (digits_of k h)) (space_bytes (8 - length (116 ∷ decimal k)))

tile_bytes : (k : ℕ) → k < 2 ^ 64 → AreBytes (row_text Little tileref_head.columns (tile_cells k))
unfolding row_text
tile_bytes k h =
    joined_bytes (number Little w32 (cast_unsigned w32 (pos k))) (padded_name k ++ []) (number_bytes w32 (cast_unsigned w32 (pos k)))
    (joined_bytes (padded_name k) [] (name_bytes k h) tt)

tiles_bytes : (a m : ℕ) → a + m ≤ 100001 → AllByRecursion (λ (row : Row). AreBytes (row_text Little tileref_head.columns row)) (map tile_cells (range_with_len a m))
tiles_bytes a zero h = tt
tiles_bytes a (suc m) h = (tile_bytes a (omega arith), tiles_bytes (a + 1) m (omega arith))

-- each file
file_bytes : (n : ℕ) → n ≤ 200 → AllByRecursion (λ (f : File). IsBytes f.bytes) (grid_files n)
file_bytes n most =
    let few = few_tiles n most in
    let ids = cell_bytes w32 in
    let marks = cell_bytes w16 in (
      table_bytes (tileref_grid n) refl tileref_text (tiles_bytes 1 (tiles n) (omega arith)),
      (
        numbers_bytes (edge_table (edge_rows n)) refl edge_text (ids, (ids, (ids, (ids, (ids, (ids, (ids, (marks, tt)))))))),
        (
          numbers_bytes (pair_table face_head 1 (face_rows n)) refl face_text (ids, (ids, tt)),
          (
            numbers_bytes (ring_table (ring_rows n)) refl ring_text (ids, (ids, (ids, tt))),
            (
              numbers_bytes (pair_table node_head 1 (node_rows n)) refl node_text (ids, (ids, tt)),
              (numbers_bytes (cut_plan_grid n) refl plan_text (ids, (ids, tt)), tt),
            ),
          ),
        ),
      ),
    )

-- files that are made of bytes, in a tree that holds bytes
one_held : (b : Bool) (bytes : List ℕ) (o : Option (List ℕ)) → IsBytes bytes → IfSome o IsBytes → IfSome (cond b (Some bytes) o) IsBytes
one_held true bytes o new old = new
one_held false bytes o new old = old

pub all_held : (files : List File) (held after : Files) → HoldsBytes held → AllByRecursion (λ (f : File). IsBytes f.bytes) files
    → with_all files (Some held) ≡ Some after → HoldsBytes after
all_held [] held after old all e = subst HoldsBytes (some_same held after e) old
all_held (file ∷ files) held after old all e =
    all_held files (λ other. cond (bytes_eq file.name other) (Some file.bytes) (held other)) after
    (λ name. one_held (bytes_eq file.name name) file.bytes (held name) all.0 (old name)) all.1 e

pub holds_bytes : (n : ℕ) → n ≤ 200 → HoldsBytes (grid_held n)
holds_bytes n most = all_held (grid_files n) no_files (grid_held n) (λ name. tt) (file_bytes n most) refl
