-- The files of the worked coverage hold bytes.
use Rattle.std.proofs.Common.{◌≡◌, ℕ, true, List, refl, subst, sym}
use Rattle.std.specs.List.{AllByRecursion, list_all}
use Rattle.vpf_base.specs.Bytes.{IsBytes}
use Rattle.vpf_source.specs.Files.{no_files}
use Rattle.vpf_source.specs.declared.file.File.{File}
use Rattle.vpf_head.specs.Canonical.{canonical_text}
use Rattle.vpf_table.specs.Canonical.{canonical_table, row_text, rows_text}
use Rattle.vpf_table.specs.Grid.{Grid}
use Rattle.vpf_drill.specs.Inner.Worked.Held.{WorkedHoldsBytes, worked_files, worked_held, worked_index_bytes}
use Rattle.vpf_drill.specs.Inner.Worked.Tables.{worked_classes, worked_edges, worked_faces, worked_nodes, worked_plan, worked_rings, worked_roads, worked_tiles}
use Rattle.vpf_drill.proofs.grid_cutting.ByteLemmas.{are_bytes, is_byte, tested_bytes}
use Rattle.vpf_drill.proofs.grid_cutting.HeldLemmas.{all_held}
use Rattle.vpf_drill.proofs.worked.HeaderLemmas.{tiles_text, tiles_are, edges_text, edges_are, faces_text, faces_are, rings_text, rings_are, nodes_text, nodes_are, plan_text, plan_are, classes_text, classes_are, roads_text, roads_are}
use Rattle.vpf_drill.proofs.worked.ReadLemmas.{bytes_with}

-- a table is of bytes, where it passes the test with the text of its header
bytes_as : (text : List ℕ) (g : Grid) → canonical_text g.head ≡ text → list_all is_byte (bytes_with text g) ≡ true → IsBytes (canonical_table g)
bytes_as text g is all = subst (λ (t : List ℕ). IsBytes (bytes_with t g)) (sym is) (are_bytes (bytes_with text g) (tested_bytes (bytes_with text g) all))

-- each file
file_bytes : AllByRecursion (λ (f : File). IsBytes f.bytes) worked_files
unfolding row_text rows_text
file_bytes = (
  are_bytes worked_index_bytes (tested_bytes worked_index_bytes refl),
  (
    bytes_as tiles_text worked_tiles tiles_are refl,
    (
      bytes_as edges_text worked_edges edges_are refl,
      (
        bytes_as faces_text worked_faces faces_are refl,
        (
          bytes_as rings_text worked_rings rings_are refl,
          (
            bytes_as nodes_text worked_nodes nodes_are refl,
            (
              bytes_as plan_text worked_plan plan_are refl,
              (bytes_as classes_text worked_classes classes_are refl, (bytes_as roads_text worked_roads roads_are refl, tt)),
            ),
          ),
        ),
      ),
    ),
  ),
)

pub holds_bytes : WorkedHoldsBytes
holds_bytes = all_held worked_files no_files worked_held (λ name. tt) file_bytes refl
