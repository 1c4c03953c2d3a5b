use Rattle.std.proofs.Common.{subst}
use Rattle.vpf_prims.specs.Reading.{PrimitiveTables}
use Rattle.vpf_write.specs.Writing.{Writes}
use Rattle.vpf_cutting.specs.Inner.Cuts.{plan_by}
use Rattle.vpf_primitive_tables.specs.TileTables.Grids.{edges_made}
use Rattle.vpf_primitive_tables.proofs.tile_tables.FormLemmas.{edge_rows}
use Rattle.vpf_primitive_tables.proofs.tile_tables.forms.Forms.edges.Goals as goal

pub write_edges-requires-clause-rows : goal.write_edges-requires-clause-rows
write_edges-requires-clause-rows c = edge_rows c.args.cut.now.source c.self.inside c.args.self.now c.requires c.self.view_is

pub returns : goal.returns
returns c = subst (λ (t : PrimitiveTables). Writes (edges_made t.edg c.args.cut.now.source (plan_by c.args.cut.now.plan) c.args.tile) c.write_edges.result) c.self.view_is c.write_edges.ensures
