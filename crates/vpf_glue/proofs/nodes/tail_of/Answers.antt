use Rattle.std.proofs.Common.{◌^◌, ◌<◌, Option, length, not, refl, sym, ap, ◌∙◌, subst, arith}
use Rattle.std.specs.Option.{option_map}
use Rattle.vpf_prims.specs.declared.rows.EdgeRow.{EdgeRow}
use Rattle.vpf_prims.specs.Coverages.{tile_at}
use Rattle.vpf_prims.specs.Libraries.{library_of, primitives_in}
use Rattle.vpf_prims.specs.Numbering.{IsRowOf}
use Rattle.vpf_prims.specs.Primitives.{edges_in}
use Rattle.vpf_prims.specs.References.{id_of}
use Rattle.vpf_prims.specs.Tables.{TileTables}
use Rattle.vpf_follow.specs.Inner.Rows.{row_node}
use Rattle.vpf_glue.proofs.SourceLemmas.{no_tables, row_of_dart, tail_is}
use Rattle.vpf_glue.proofs.nodes.tail_of.Goals as goal

pub unreachable-requires : goal.unreachable-requires
unreachable-requires c =
    let few : c.args.dart.edge < 2 ^ 32 = omega arith in
    no_tables (tile_at c.args.coverage.now c.args.dart.tile) c.args.dart.edge (row_of_dart (library_of c.args.coverage.now) c.args.dart few c.requires)
    (sym c.tile.ensures ∙ ap (option_map (λ t. t.now)) c.in_default.is)

pub edge-requires : goal.edge-requires
edge-requires c =
    let few : c.args.dart.edge < 2 ^ 32 = omega arith in
    subst (λ (o : Option TileTables). IsRowOf (length (edges_in (primitives_in o))) c.args.dart.edge) (sym c.in-Some.ensures)
    (row_of_dart (library_of c.args.coverage.now) c.args.dart few c.requires)

pub returns : goal.returns
returns c =
    let few : c.args.dart.edge < 2 ^ 32 = omega arith in
    c.tail_in.ensures ∙ ap (λ (r : EdgeRow). id_of (row_node (not c.args.dart.minus) r)) c.edge.ensures
    ∙ sym (tail_is c.args.coverage.now c.args.dart c.in-Some.tile.now few (sym c.in-Some.ensures) (not c.args.dart.minus) refl)
