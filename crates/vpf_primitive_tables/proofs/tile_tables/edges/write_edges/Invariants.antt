use Rattle.std.proofs.Common.{◌≡◌, [], take}
use Rattle.vpf_prims.specs.Lists.{kth}
use Rattle.vpf_write.specs.Revise.Revising.{revised}
use Rattle.vpf_tiling.specs.Ranks.{numbered}
use Rattle.vpf_tiling.specs.Tiles.{tiled_edge}
use Rattle.vpf_write.specs.Inner.Tallies.{Holds}
use Rattle.vpf_cutting.specs.Inner.Cuts.{plan_by}
use Rattle.vpf_primitive_tables.specs.TableForms.Forms.{edge_kinds_of, head_like}
use Rattle.vpf_primitive_tables.specs.TileTables.Grids.{edge_values}
use Rattle.vpf_primitive_tables.proofs.tile_tables.edges.write_edges.Given as goal

abbrev pub invariant-loop-k : goal.invariant-loop-k
invariant-loop-k l = record {
  head : l.made.head ≡ head_like l.form.table (edge_kinds_of l.form.references);
  put : Holds l.made (numbered (λ k e. revised (edge_values l.form.table.head.columns k (tiled_edge l.cut.source (plan_by l.cut.plan) l.tile k e)) (kth l.form.table.rows e [])) (take l.k l.edges));
}
