use Rattle.std.proofs.Common.{◌≡◌, ◌^◌, ◌<◌, true, sym, ap, ◌∙◌, subst, arith}
use Rattle.vpf_darts.specs.Darts.{tile_dart_code, tile_in}
use Rattle.vpf_prims.specs.Coverages.{CoverageTables, tile_at}
use Rattle.vpf_prims.specs.Libraries.{library_of}
use Rattle.vpf_prims.specs.Numbering.{IsRowOf}
use Rattle.vpf_prims.specs.Primitives.{node_count}
use Rattle.vpf_prims.specs.Reading.{PrimitiveTables}
use Rattle.vpf_wing.specs.Links.{links_of, tail_node}
use Rattle.vpf_follow.specs.Following.{is_home}
use Rattle.vpf_glue.specs.GluedTables.Grids.{row_in}
use Rattle.vpf_glue.proofs.SourceLemmas.{like_there, node_listed, node_there, row_is, tail_row}
use Rattle.vpf_renumbering.specs.Inner.GluedEdges.FaceLaws.{tile_is}
use Rattle.vpf_glue.proofs.nodes.node_row.Goals as goal

pub tail_of-node-requires : goal.tail_of-node-requires
tail_of-node-requires c =
    subst (λ (v : CoverageTables). is_home (links_of (library_of v)) (tile_dart_code c.args.dart) ≡ true) (sym c.coverage.ensures) c.requires

pub row_in_tile-requires : goal.row_in_tile-requires
row_in_tile-requires c =
    let few : c.args.dart.edge < 2 ^ 32 = omega arith in
    let node = c.tail_of-node.ensures ∙ ap (λ (v : CoverageTables). tail_node (links_of (library_of v)) (tile_dart_code c.args.dart)) c.coverage.ensures in
    let row = tail_row c.args.checked.now c.numbers_are_right.ensures (tile_dart_code c.args.dart) c.requires in
    node_listed (tile_at c.args.checked.now c.args.dart.tile) c.tail_of-node.result
    (subst (λ t. IsRowOf (node_count (library_of c.args.checked.now) t) c.tail_of-node.result) (tile_is c.args.dart few)
    (subst (λ n. IsRowOf (node_count (library_of c.args.checked.now) (tile_in (tile_dart_code c.args.dart))) n) (sym node) row))

pub returns-clause-row : goal.returns-clause-row
returns-clause-row c =
    let d = c.args.dart in
    let few : c.args.dart.edge < 2 ^ 32 = omega arith in
    let node = c.tail_of-node.ensures ∙ ap (λ (v : CoverageTables). tail_node (links_of (library_of v)) (tile_dart_code c.args.dart)) c.coverage.ensures in
    row_is (λ (T : PrimitiveTables). T.cnd) c.args.checked.now d.tile c.tail_of-node.result c.row_in_tile.result
    (node_there c.args.checked.now d.tile c.tail_of-node.result c.row_in_tile.result c.row_in_tile.ensures)
    ∙ ap (λ n. row_in (λ (T : PrimitiveTables). T.cnd) c.args.checked.now d.tile n) node
    ∙ sym (ap (λ t. row_in (λ (T : PrimitiveTables). T.cnd) c.args.checked.now t (tail_node (links_of (library_of c.args.checked.now)) (tile_dart_code d))) (tile_is d few))

pub returns-clause-fits : goal.returns-clause-fits
returns-clause-fits c = λ like of k n.
    let d = c.args.dart in
    let r = node_there c.args.checked.now d.tile c.tail_of-node.result c.row_in_tile.result c.row_in_tile.ensures in
    c.rows_of_tiles_fit.ensures.nodes c.args.checked.now like r.T.tables.cnd
    (like_there (λ (T : PrimitiveTables). T.cnd) c.args.checked.now d.tile c.tail_of-node.result c.row_in_tile.result like c.numbers_are_right.ensures r of) k n c.row_in_tile.result r.found.fits
