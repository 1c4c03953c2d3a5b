use Rattle.std.proofs.Common.{◌∷◌, codes, length, sym, ap, ◌∙◌, subst}
use Rattle.vpf_triplet.specs.declared.kinds.Kind.{Kind}
use Rattle.vpf_prims.specs.Coverages.{CoverageTables}
use Rattle.vpf_library_files.specs.Loading.Loading.{within}
use Rattle.vpf_library_files.specs.TableFiles.Adding.{Adds, table_within}
use Rattle.vpf_renumbering.specs.Glued.{plus_darts}
use Rattle.vpf_primitive_tables.specs.TableForms.Forms.{edge_kinds_of, head_like}
use Rattle.vpf_primitive_tables.specs.Inner.TableForms.CountedLaws.{length-numbered}
use Rattle.vpf_glue.specs.GluedTables.Grids.{glued_edge_grid, glued_edge_row, plan_grid, whole_in}
use Rattle.vpf_glue.specs.Inner.Forms.{tables_by}
use Rattle.vpf_glue.specs.Tables.{glued_coverage_tables, last_tables}
use Rattle.vpf_glue.proofs.AddLemmas.{limit_adds}
use Rattle.vpf_glue.proofs.gluing.add_coverage.Goals as goal

pub returns-then-count-from : goal.returns-then-count-from
returns-then-count-from c =
    let T = tables_by c.args.forms.now c.args.checked.now in
    let cov = c.args.cov.now in
    let limit = c.overfull-error.ensures.limit (glued_edge_grid c.args.forms.now.edg.table c.args.checked.now)
    (sym (c.header.ensures ∙ ap (λ (kind : Kind). head_like c.args.forms.now.edg.table (edge_kinds_of kind)) c.requires.edg_ids))
    (length-numbered (glued_edge_row c.args.forms.now.edg.table.head.columns c.args.checked.now) (plus_darts (whole_in c.args.checked.now)) ∙ sym c.edge_count-count.ensures) in
    limit_adds (within c.args.cov.now (codes "edg")) (glued_edge_grid c.args.forms.now.edg.table c.args.checked.now) c.overfull-error.result
    (table_within cov (codes "fac") T.fac ∷ table_within cov (codes "rng") T.rng ∷ table_within cov (codes "cnd") T.cnd ∷ last_tables cov T.end (plan_grid c.args.checked.now))
    c.args.files.now.items c.add_table.new.files.items c.add_table.result limit c.overfull-error.ensures.told
    (c.add_table.ensures (glued_edge_grid c.args.forms.now.edg.table c.args.checked.now) limit)

pub returns : goal.returns
returns c =
    subst (λ (v : CoverageTables). Adds (glued_coverage_tables c.args.cov.now (tables_by c.args.forms.now v) (plan_grid v)) c.args.files.now.items c.add_all.new.files.items c.add_all.result)
    c.in_ok-edges.ensures c.add_all.ensures
