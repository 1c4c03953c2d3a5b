use Rattle.std.proofs.Common.{◌≡◌, [], ◌∷◌, codes, sym, subst, arith}
use Rattle.vpf_source.specs.declared.file.File.{File}
use Rattle.vpf_table.specs.Grid.{Grid}
use Rattle.vpf_vectors.specs.Cells.Rows.{edge_rows, face_rows, ring_rows, node_rows, plan_rows}
use Rattle.vpf_wing.specs.WellFormed.{IsWellFormed}
use Rattle.vpf_vectors.specs.Heads.{face_head, node_head, plan_head}
use Rattle.vpf_vectors.specs.Library.{named_file, tiles}
use Rattle.vpf_vectors.specs.Tables.{grid_tileref, edge_table, ring_table, pair_table}
use Rattle.vpf_vectors.proofs.FileLemmas.{holds_table, one_more_file}
use Rattle.vpf_vectors.proofs.library.grid.Goals as goal

pub returns-clause-files : goal.returns-clause-files
returns-clause-files c =
    let tileref : Grid = grid_tileref (tiles c.args.n) in
    let edg : Grid = edge_table (edge_rows c.args.n) in
    let fac : Grid = pair_table face_head 1 (face_rows c.args.n) in
    let rng : Grid = ring_table (ring_rows c.args.n) in
    let cnd : Grid = pair_table node_head 1 (node_rows c.args.n) in
    let plan : Grid = pair_table plan_head 2 (plan_rows c.args.n) in
    let is_tileref = holds_table _ (codes "grid/tileref/tileref.aft") _ tileref c.in_ok-file.ensures c.in_ok-tileref.ensures in
    let is_edg = holds_table _ (codes "grid/g/edg") _ edg c.in_ok-file-2.ensures c.in_ok-edges.ensures in
    let is_fac = holds_table _ (codes "grid/g/fac") _ fac c.in_ok-file-3.ensures c.in_ok-faces.ensures in
    let is_rng = holds_table _ (codes "grid/g/rng") _ rng c.in_ok-file-4.ensures c.in_ok-rings.ensures in
    let is_cnd = holds_table _ (codes "grid/g/cnd") _ cnd c.in_ok-file-5.ensures c.in_ok-nodes.ensures in
    let is_plan = holds_table _ (codes "grid/g/plan") _ plan c.in_ok-file-6.ensures c.in_ok-plan.ensures in
    let file_tileref : File = named_file (codes "grid/tileref/tileref.aft", tileref) in
    let file_edg : File = named_file (codes "grid/g/edg", edg) in
    let file_fac : File = named_file (codes "grid/g/fac", fac) in
    let file_rng : File = named_file (codes "grid/g/rng", rng) in
    let file_cnd : File = named_file (codes "grid/g/cnd", cnd) in
    let file_plan : File = named_file (codes "grid/g/plan", plan) in
    let with_tileref : c.push.new.self.items ≡ file_tileref ∷ [] =
    one_more_file _ _ [] _ file_tileref c.in_ok-push.ensures.items c.new-files.ensures.items is_tileref in
    let with_edg : c.push-2.new.self.items ≡ file_tileref ∷ file_edg ∷ [] =
    one_more_file _ _ (file_tileref ∷ []) _ file_edg c.in_ok-push-2.ensures.items with_tileref is_edg in
    let with_fac : c.push-3.new.self.items ≡ file_tileref ∷ file_edg ∷ file_fac ∷ [] =
    one_more_file _ _ (file_tileref ∷ file_edg ∷ []) _ file_fac c.in_ok-push-3.ensures.items with_edg is_fac in
    let with_rng : c.push-4.new.self.items ≡ file_tileref ∷ file_edg ∷ file_fac ∷ file_rng ∷ [] =
    one_more_file _ _ (file_tileref ∷ file_edg ∷ file_fac ∷ []) _ file_rng c.in_ok-push-4.ensures.items with_fac is_rng in
    let with_cnd : c.push-5.new.self.items ≡ file_tileref ∷ file_edg ∷ file_fac ∷ file_rng ∷ file_cnd ∷ [] =
    one_more_file _ _ (file_tileref ∷ file_edg ∷ file_fac ∷ file_rng ∷ []) _ file_cnd c.in_ok-push-5.ensures.items with_rng is_cnd in
    one_more_file _ _ (file_tileref ∷ file_edg ∷ file_fac ∷ file_rng ∷ file_cnd ∷ []) _ file_plan c.in_ok-push-6.ensures.items with_cnd is_plan

pub returns-clause-well_formed : goal.returns-clause-well_formed
returns-clause-well_formed c =
    subst IsWellFormed (sym (c.tables_say_grid.ensures c.args.n)) (c.grid_is_well_formed.ensures.well_formed c.args.n (omega arith) c.requires.most)
