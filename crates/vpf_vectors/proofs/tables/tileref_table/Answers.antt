use Rattle.std.proofs.Common.{◌≡◌, ◌-◌, ◌∙◌, subst, map, arith}
use Rattle.std.specs.Prelude.{IfOk}
use Rattle.std.specs.List.{range_with_len}
use Rattle.vpf_table.specs.Canonical.{canonical_table}
use Rattle.vpf_table.specs.Grid.{Grid}
use Rattle.vpf_write.specs.Inner.Tallies.{Holds}
use Rattle.vpf_vectors.specs.Heads.{tileref_head}
use Rattle.vpf_vectors.specs.Tables.{tile_cells}
use Rattle.vpf_vectors.proofs.HeadLemmas.{tileref_ok, tileref_read}
use Rattle.vpf_vectors.proofs.LimitLemmas.{limit_with}
use Rattle.vpf_vectors.specs.Inner.LimitLaws.{tileref_limit}
use Rattle.vpf_vectors.proofs.RowLemmas.{put_next, table_with}
use Rattle.vpf_vectors.proofs.tables.tileref_table.Goals as goal

pub header_in-requires : goal.header_in-requires
header_in-requires c = tileref_ok

pub loop-tile-init : goal.loop-tile-init
loop-tile-init c = record {
  head = c.in_ok-writer.ensures.head ∙ c.in_ok-header.ensures tileref_head 62 tileref_read;
  holds = c.in_ok-writer.ensures.holds;
}

pub loop-tile-preserved : goal.loop-tile-preserved
loop-tile-preserved c = record {
  head = c.in_ok-put_tile.ensures.head;
  holds = put_next c.put_tile.new.writer tile_cells c.loop-tile.tile (omega arith)
      (c.in_ok-put_tile.ensures.put (map tile_cells (range_with_len 1 (c.loop-tile.tile - 1))) c.loop-tile.invariant.holds);
}

pub bytes_of-requires : goal.bytes_of-requires
bytes_of-requires c =
    let rows = map tile_cells (range_with_len 1 c.args.tiles) in
    let e : c.loop-tile.tile - 1 ≡ c.args.tiles = omega arith in
    let all = subst (λ k. Holds c.loop-tile.writer (map tile_cells (range_with_len 1 k))) e c.loop-tile.invariant.holds in
    (rows, (all, limit_with c.loop-tile.writer tileref_head rows c.loop-tile.invariant.head (tileref_limit c.args.tiles c.requires)))

pub returns : goal.returns
returns c =
    let rows = map tile_cells (range_with_len 1 c.args.tiles) in
    let e : c.loop-tile.tile - 1 ≡ c.args.tiles = omega arith in
    let all = subst (λ k. Holds c.loop-tile.writer (map tile_cells (range_with_len 1 k))) e c.loop-tile.invariant.holds in
    subst (λ (g : Grid). IfOk c.bytes_of.result (λ bytes. bytes ≡ canonical_table g))
    (table_with c.loop-tile.writer tileref_head rows c.loop-tile.invariant.head) (c.bytes_of.ensures rows all)
