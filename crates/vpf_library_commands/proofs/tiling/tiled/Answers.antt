use Rattle.std.proofs.Common.{◌≡◌, ◌∙◌, sym, ap, subst}
use Rattle.vpf_base.specs.Results.{Meets}
use Rattle.vpf_prims.specs.Coverages.{CoverageTables, tile_at}
use Rattle.vpf_library_files.specs.Loading.Loading.{tileref_name}
use Rattle.vpf_library_files.specs.Tileref.Stops.{IsBounded}
use Rattle.vpf_library_files.specs.Tileref.Tileref.{IsTileref}
use Rattle.vpf_tiler.specs.Making.{tile_error_seen, tiled_with_features}
use Rattle.vpf_replies.specs.Answer.{Answer}
use Rattle.vpf_library_commands.specs.Tile.{plan_name, tables_answer, tiled_answer}
use Rattle.vpf_library_commands.proofs.TileAnswers.{over_tables, tiled_same, untiled_tables}
use Rattle.vpf_base.proofs.Results.{if_ok_more}
use Rattle.vpf_library_commands.proofs.tiling.tiled.Goals as goal

pub tile-made-requires-clause-tileref : goal.tile-made-requires-clause-tileref
tile-made-requires-clause-tileref c =
    let p = c.requires.parts in
    let same = c.in_ok-tileref.ensures (tileref_name c.args.request.now.lib) p.0.tileref.grid p.1.tileref in
    subst IsTileref (sym same) ((c.stops_decide.ensures p.0.tileref.grid).0 p.1.goes_on).0

pub tile-made-requires-clause-bounded : goal.tile-made-requires-clause-bounded
tile-made-requires-clause-bounded c =
    let p = c.requires.parts in
    let same = c.in_ok-tileref.ensures (tileref_name c.args.request.now.lib) p.0.tileref.grid p.1.tileref in
    subst IsBounded (sym same) ((c.stops_decide.ensures p.0.tileref.grid).0 p.1.goes_on).1

pub returns : goal.returns
returns c parts are same =
    let request = c.args.request.now in
    let S = c.args.schema.now in
    let T = untiled_tables request.lib request.cov parts.coverage.coverage c.args.files.now.featured.coverage are.featured.untiled in
    let there = ap (λ (x : CoverageTables). tile_at x 0) same ∙ T.1 in
    let plan_is : c.in_ok-plan.plan ≡ parts.plan.grid = c.in_ok-plan.ensures.table (plan_name request.lib request.cov) parts.plan.grid are.plan.are in
    let tileref_is : c.in_ok-tileref.tileref ≡ parts.tileref.grid = c.in_ok-tileref.ensures (tileref_name request.lib) parts.tileref.grid are.tileref in
    let ought = tiled_with_features request.cov T.0.tables S parts.plan.grid parts.tileref.grid in
    let told : Meets (λ v. v.items) tile_error_seen c.tile-made.result ought =
    subst (Meets (λ v. v.items) tile_error_seen c.tile-made.result)
    (tiled_same T.0.tables S c.as_str-cov.result.now request.cov c.in_ok-plan.plan parts.plan.grid c.in_ok-tileref.tileref parts.tileref.grid c.as_str-cov.ensures plan_is tileref_is)
    (c.tile-made.ensures.exact T.0 there) in
    if_ok_more (λ (reply : Answer). reply ≡ tiled_answer request S ought)
    (λ (reply : Answer). reply ≡ tables_answer request S (tile_at parts.coverage.coverage 0) parts.plan.grid parts.tileref.grid) c.tiled_so.result
    (λ reply is. over_tables request S parts.coverage.coverage parts.plan.grid parts.tileref.grid T.0 reply T.1 is) (c.tiled_so.ensures ought told)
