use Rattle.std.proofs.Common.{◌≡◌, ℕ, ◌≤◌, List, length, refl, sym, ap, ◌∙◌, subst, arith}
use Rattle.vpf_prims.specs.Coverages.{CoverageTables, last_tile}
use Rattle.vpf_tiling.specs.Ranks.{numbered}
use Rattle.vpf_write.specs.Inner.Tallies.{Holds}
use Rattle.vpf_glue.specs.GluedTables.Grids.{EntitySource, glued_entity_row}
use Rattle.vpf_glue.proofs.EntityLemmas.{all_put, count_more, many_within, sources_none, tile_put}
use Rattle.vpf_glue.proofs.entities.put_all.Goals as goal

pub loop-tile-init : goal.loop-tile-init
loop-tile-init c = record {
  head = refl;
  count = sym (ap length (sources_none c.args.faces.now));
  put = subst (λ (xs : List EntitySource). Holds c.args.made.now (numbered (glued_entity_row c.args.form.now.table.head.columns c.args.faces.now) xs)) (sym (sources_none c.args.faces.now)) c.requires.holds;
}

pub put_tile-requires-clause-few : goal.put_tile-requires-clause-few
put_tile-requires-clause-few c =
    let last : c.tiles-tile-end.result ≡ last_tile c.args.faces.now = c.tiles-tile-end.ensures ∙ ap last_tile (c.coverage.ensures ∙ c.checked.ensures) in
    let inside : c.loop-tile.tile ≤ last_tile c.args.faces.now = omega arith in
    let count = c.loop-tile.invariant.count in
    omega (arith, many_within c.args.faces.now c.loop-tile.tile inside)

pub loop-tile-preserved : goal.loop-tile-preserved
loop-tile-preserved c = record {
  head = c.in_ok-after.ensures.head ∙ c.loop-tile.invariant.head;
  count = count_more c.args.faces.now c.loop-tile.tile c.loop-tile.count c.in_ok-after.after c.loop-tile.invariant.count c.in_ok-after.ensures.count;
  put = tile_put c.loop-tile.made c.put_tile.new.made c.args.form.now.table.head.columns c.args.faces.now c.loop-tile.tile c.loop-tile.count c.loop-tile.invariant.count
      c.in_ok-after.ensures.put c.loop-tile.invariant.put;
}

pub returns-in_ok-after-clause-put : goal.returns-in_ok-after-clause-put
returns-in_ok-after-clause-put c =
    let last : c.tiles-tile-end.result ≡ last_tile c.args.faces.now = c.tiles-tile-end.ensures ∙ ap last_tile (c.coverage.ensures ∙ c.checked.ensures) in
    let here : c.loop-tile.tile ≡ last_tile c.args.faces.now = omega arith in
    all_put c.put_tile.new.made c.args.form.now.table.head.columns c.args.faces.now c.loop-tile.tile here
    (tile_put c.loop-tile.made c.put_tile.new.made c.args.form.now.table.head.columns c.args.faces.now c.loop-tile.tile c.loop-tile.count c.loop-tile.invariant.count
    c.in_ok-after.ensures.put c.loop-tile.invariant.put)
