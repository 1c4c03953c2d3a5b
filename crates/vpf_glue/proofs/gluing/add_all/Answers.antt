-- The tables are added one behind another, up to the first that isn't.
use Rattle.std.proofs.Common.{◌≡◌, ℕ, ◌+◌, eqb, List, ◌∷◌, codes, length, map, sym, ap, ◌∙◌, subst}
use Rattle.std.specs.Option.{option_map}
use Rattle.std.proofs.lemmas.List.FromFn.{length-map-range_with_len}
use Rattle.vpf_prims.specs.Lists.{first_item}
use Rattle.std.proofs.lemmas.Result.{err_from_is_err_and}
use Rattle.vpf_table.specs.Grid.{Grid}
use Rattle.vpf_prims.specs.Coverages.{CoverageTables}
use Rattle.vpf_prims.specs.Libraries.{library_of}
use Rattle.vpf_prims.specs.Reading.{PrimitiveTables}
use Rattle.vpf_tiling.specs.Tiles.{Ring}
use Rattle.vpf_write.specs.Writing.{Writes}
use Rattle.vpf_renumbering.specs.Glued.{glued_rings}
use Rattle.vpf_primitive_tables.specs.Rings.{first_rings_of}
use Rattle.vpf_primitive_tables.specs.Inner.TableForms.Models.{PairsLike}
use Rattle.vpf_library_files.specs.TableFiles.Adding.{Adds, table_within}
use Rattle.vpf_renumbering.specs.declared.glued_faces.rings.GluedRing.{GluedRing}
use Rattle.vpf_renumbering.specs.Inner.GluedFaces.Rings.{HasHomeStart, ring_said}
use Rattle.vpf_glue.specs.GluedTables.Grids.{glued_edge_grid, glued_entity_grid, glued_face_grid, glued_node_grid, glued_ring_grid, plan_grid, whole_in}
use Rattle.vpf_glue.specs.Inner.Forms.{tables_by}
use Rattle.vpf_glue.specs.Inner.Sources.{IsOfTile}
use Rattle.vpf_glue.specs.Tables.{last_tables}
use Rattle.vpf_glue.proofs.AddLemmas.{first_fails, next_adds, next_fails}
use Rattle.vpf_glue.proofs.gluing.add_all.Goals as goal

pub write_faces-fac-requires-clause-each : goal.write_faces-fac-requires-clause-each
write_faces-fac-requires-clause-each c =
    ap (λ (xs : List ℕ). length xs) (c.as_slice-ring_ptrs.ensures.value ∙ c.in_ok-first_rings.ensures.firsts)
    ∙ length-map-range_with_len (λ k. first_item (λ (r : Ring). eqb r.face k) (map (ring_said (whole_in c.args.faces.now)) c.as_slice-rings.result.now)) 1 (length (whole_in c.args.faces.now).faces + 1)

pub write_rings-rng-requires-clause-rings : goal.write_rings-rng-requires-clause-rings
write_rings-rng-requires-clause-rings c =
    subst (λ (v : CoverageTables). map (ring_said (whole_in v)) c.as_slice-rings.result.now ≡ glued_rings (whole_in v)) c.requires.same
    (ap (λ (rs : List GluedRing). map (ring_said (whole_in c.args.faces.now)) rs) c.as_slice-rings.ensures.value ∙ c.in_ok-made.ensures.rings)

pub returns-in_err-add_table : goal.returns-in_err-add_table
returns-in_err-add_table c =
    let p = err_from_is_err_and c.from_residual-in_err-add_table.result c.from_residual-in_err-add_table.ensures.1 in
    let T = tables_by c.args.forms.now c.args.edges.now in
    let cov = c.args.cov.now in
    rw (p.1, p.2) (first_fails (table_within cov (codes "edg") T.edg)
    (table_within cov (codes "fac") T.fac ∷ table_within cov (codes "rng") T.rng ∷ table_within cov (codes "cnd") T.cnd ∷ last_tables cov T.end (plan_grid c.args.edges.now))
    c.in_err-add_table.field-0.0
    (c.in_err-add_table.ensures T.edg c.write_edges-edg.ensures))

pub returns-in_err-add_table-2 : goal.returns-in_err-add_table-2
returns-in_err-add_table-2 c =
    let p = err_from_is_err_and c.from_residual-in_err-add_table-2.result c.from_residual-in_err-add_table-2.ensures.1 in
    let T = tables_by c.args.forms.now c.args.edges.now in
    let cov = c.args.cov.now in
    let fac = subst (λ (v : CoverageTables). Writes (glued_face_grid c.args.forms.now.fac.table v) c.write_faces-fac.result) c.requires.same c.write_faces-fac.ensures in
    rw (p.1, p.2) (next_fails (table_within cov (codes "edg") T.edg)
    (table_within cov (codes "fac") T.fac ∷ table_within cov (codes "rng") T.rng ∷ table_within cov (codes "cnd") T.cnd ∷ last_tables cov T.end (plan_grid c.args.edges.now))
    c.args.files.now.items c.add_table.new.files.items c.in_err-add_table-2.field-0.0
    (c.in_ok-add_table.ensures T.edg c.write_edges-edg.ensures)
    (first_fails (table_within cov (codes "fac") T.fac)
    (table_within cov (codes "rng") T.rng ∷ table_within cov (codes "cnd") T.cnd ∷ last_tables cov T.end (plan_grid c.args.edges.now))
    c.in_err-add_table-2.field-0.0 (c.in_err-add_table-2.ensures T.fac fac)))

pub returns-in_err-add_table-3 : goal.returns-in_err-add_table-3
returns-in_err-add_table-3 c =
    let p = err_from_is_err_and c.from_residual-in_err-add_table-3.result c.from_residual-in_err-add_table-3.ensures.1 in
    let T = tables_by c.args.forms.now c.args.edges.now in
    let cov = c.args.cov.now in
    let fac = subst (λ (v : CoverageTables). Writes (glued_face_grid c.args.forms.now.fac.table v) c.write_faces-fac.result) c.requires.same c.write_faces-fac.ensures in
    rw (p.1, p.2) (next_fails (table_within cov (codes "edg") T.edg)
    (table_within cov (codes "fac") T.fac ∷ table_within cov (codes "rng") T.rng ∷ table_within cov (codes "cnd") T.cnd ∷ last_tables cov T.end (plan_grid c.args.edges.now))
    c.args.files.now.items c.add_table.new.files.items c.in_err-add_table-3.field-0.0
    (c.in_ok-add_table.ensures T.edg c.write_edges-edg.ensures)
    (next_fails (table_within cov (codes "fac") T.fac)
    (table_within cov (codes "rng") T.rng ∷ table_within cov (codes "cnd") T.cnd ∷ last_tables cov T.end (plan_grid c.args.edges.now))
    c.add_table.new.files.items c.add_table-2.new.files.items c.in_err-add_table-3.field-0.0 (c.in_ok-add_table-2.ensures T.fac fac)
    (first_fails (table_within cov (codes "rng") T.rng)
    (table_within cov (codes "cnd") T.cnd ∷ last_tables cov T.end (plan_grid c.args.edges.now))
    c.in_err-add_table-3.field-0.0 (c.in_err-add_table-3.ensures T.rng c.write_rings-rng.ensures))))

pub returns-in_err-add_table-4 : goal.returns-in_err-add_table-4
returns-in_err-add_table-4 c =
    let p = err_from_is_err_and c.from_residual-in_err-add_table-4.result c.from_residual-in_err-add_table-4.ensures.1 in
    let T = tables_by c.args.forms.now c.args.edges.now in
    let cov = c.args.cov.now in
    let fac = subst (λ (v : CoverageTables). Writes (glued_face_grid c.args.forms.now.fac.table v) c.write_faces-fac.result) c.requires.same c.write_faces-fac.ensures in
    rw (p.1, p.2) (next_fails (table_within cov (codes "edg") T.edg)
    (table_within cov (codes "fac") T.fac ∷ table_within cov (codes "rng") T.rng ∷ table_within cov (codes "cnd") T.cnd ∷ last_tables cov T.end (plan_grid c.args.edges.now))
    c.args.files.now.items c.add_table.new.files.items c.in_err-add_table-4.field-0.0
    (c.in_ok-add_table.ensures T.edg c.write_edges-edg.ensures)
    (next_fails (table_within cov (codes "fac") T.fac)
    (table_within cov (codes "rng") T.rng ∷ table_within cov (codes "cnd") T.cnd ∷ last_tables cov T.end (plan_grid c.args.edges.now))
    c.add_table.new.files.items c.add_table-2.new.files.items c.in_err-add_table-4.field-0.0 (c.in_ok-add_table-2.ensures T.fac fac)
    (next_fails (table_within cov (codes "rng") T.rng)
    (table_within cov (codes "cnd") T.cnd ∷ last_tables cov T.end (plan_grid c.args.edges.now))
    c.add_table-2.new.files.items c.add_table-3.new.files.items c.in_err-add_table-4.field-0.0 (c.in_ok-add_table-3.ensures T.rng c.write_rings-rng.ensures)
    (first_fails (table_within cov (codes "cnd") T.cnd) (last_tables cov T.end (plan_grid c.args.edges.now))
    c.in_err-add_table-4.field-0.0 (c.in_err-add_table-4.ensures T.cnd c.write_nodes-cnd.ensures)))))

pub returns : goal.returns
returns c =
    let T = tables_by c.args.forms.now c.args.edges.now in
    let cov = c.args.cov.now in
    let fac = subst (λ (v : CoverageTables). Writes (glued_face_grid c.args.forms.now.fac.table v) c.write_faces-fac.result) c.requires.same c.write_faces-fac.ensures in
    let last = subst (λ (v : CoverageTables). Adds (last_tables c.args.cov.now (option_map (λ (end : PairsLike). glued_entity_grid end.table v) c.args.forms.now.end) (plan_grid v))
    c.add_table-4.new.files.items c.add_last.new.files.items c.add_last.result) c.requires.same c.add_last.ensures in
    next_adds (table_within cov (codes "edg") T.edg)
    (table_within cov (codes "fac") T.fac ∷ table_within cov (codes "rng") T.rng ∷ table_within cov (codes "cnd") T.cnd ∷ last_tables cov T.end (plan_grid c.args.edges.now))
    c.args.files.now.items c.add_table.new.files.items c.add_last.new.files.items c.add_last.result
    (c.in_ok-add_table.ensures T.edg c.write_edges-edg.ensures)
    (next_adds (table_within cov (codes "fac") T.fac)
    (table_within cov (codes "rng") T.rng ∷ table_within cov (codes "cnd") T.cnd ∷ last_tables cov T.end (plan_grid c.args.edges.now))
    c.add_table.new.files.items c.add_table-2.new.files.items c.add_last.new.files.items c.add_last.result (c.in_ok-add_table-2.ensures T.fac fac)
    (next_adds (table_within cov (codes "rng") T.rng)
    (table_within cov (codes "cnd") T.cnd ∷ last_tables cov T.end (plan_grid c.args.edges.now))
    c.add_table-2.new.files.items c.add_table-3.new.files.items c.add_last.new.files.items c.add_last.result (c.in_ok-add_table-3.ensures T.rng c.write_rings-rng.ensures)
    (next_adds (table_within cov (codes "cnd") T.cnd) (last_tables cov T.end (plan_grid c.args.edges.now))
    c.add_table-3.new.files.items c.add_table-4.new.files.items c.add_last.new.files.items c.add_last.result (c.in_ok-add_table-4.ensures T.cnd c.write_nodes-cnd.ensures) last)))
