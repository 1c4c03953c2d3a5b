use Rattle.std.proofs.Common.{◌≡◌, take}
use Rattle.vpf_triplet.specs.declared.kinds.Kind.TheVariants.{I}
use Rattle.vpf_darts.specs.declared.darts.TileDart.{TileDart}
use Rattle.vpf_darts.specs.Darts.{tile_dart_code}
use Rattle.vpf_tiling.specs.Ranks.{numbered}
use Rattle.vpf_write.specs.Inner.Tallies.{Holds}
use Rattle.vpf_primitive_tables.specs.TableForms.Forms.{edge_kinds_of, head_like}
use Rattle.vpf_glue.specs.GluedTables.Grids.{glued_edge_row}
use Rattle.vpf_glue.proofs.edges.write_edges.Given as goal

abbrev pub invariant-loop-k : goal.invariant-loop-k
invariant-loop-k l = record {
  head : l.made.head ≡ head_like l.form.table (edge_kinds_of I);
  put : Holds l.made (numbered (λ k (d : TileDart). glued_edge_row l.form.table.head.columns l.edges k (tile_dart_code d)) (take l.k l.darts));
}
