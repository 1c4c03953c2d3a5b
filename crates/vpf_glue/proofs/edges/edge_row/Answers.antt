use Rattle.std.proofs.Common.{◌^◌, ◌<◌, sym, ap, ◌∙◌, arith}
use Rattle.vpf_darts.specs.Darts.{edge_in, tile_dart_code}
use Rattle.vpf_prims.specs.Coverages.{tile_at}
use Rattle.vpf_prims.specs.Libraries.{library_of}
use Rattle.vpf_prims.specs.Reading.{PrimitiveTables}
use Rattle.vpf_glue.specs.GluedTables.Grids.{row_in}
use Rattle.vpf_glue.proofs.SourceLemmas.{edge_listed, edge_there, like_there, row_is, row_of_dart}
use Rattle.vpf_renumbering.specs.Inner.GluedEdges.FaceLaws.{edge_is, tile_is}
use Rattle.vpf_glue.proofs.edges.edge_row.Goals as goal

pub row_in_tile-requires : goal.row_in_tile-requires
row_in_tile-requires c =
    let few : c.args.dart.edge < 2 ^ 32 = omega arith in
    edge_listed (tile_at c.args.checked.now c.args.dart.tile) c.args.dart.edge (row_of_dart (library_of c.args.checked.now) c.args.dart few c.requires)

pub returns-clause-row : goal.returns-clause-row
returns-clause-row c =
    let d = c.args.dart in
    let few : c.args.dart.edge < 2 ^ 32 = omega arith in
    row_is (λ (T : PrimitiveTables). T.edg) c.args.checked.now d.tile d.edge c.row_in_tile.result (edge_there c.args.checked.now d.tile d.edge c.row_in_tile.result c.row_in_tile.ensures)
    ∙ sym (ap (λ t. row_in (λ (T : PrimitiveTables). T.edg) c.args.checked.now t (edge_in (tile_dart_code d))) (tile_is d few)
    ∙ ap (λ k. row_in (λ (T : PrimitiveTables). T.edg) c.args.checked.now d.tile k) (edge_is d few))

pub returns-clause-fits : goal.returns-clause-fits
returns-clause-fits c = λ like of k v.
    let d = c.args.dart in
    let r = edge_there c.args.checked.now d.tile d.edge c.row_in_tile.result c.row_in_tile.ensures in
    c.rows_of_tiles_fit.ensures.edges c.args.checked.now like r.T.tables.edg
    (like_there (λ (T : PrimitiveTables). T.edg) c.args.checked.now d.tile d.edge c.row_in_tile.result like c.numbers_are_right.ensures r of) of.sound.counts r.found.sound.counts k v c.row_in_tile.result r.found.fits
