use Rattle.std.proofs.Common.{◌≡◌, ◌+◌, ◌∙◌, refl, subst, map, take}
use Rattle.std.specs.Prelude.{IfOk}
use Rattle.std.specs.List.{enumerate_from}
use Rattle.vpf_table.specs.Canonical.{canonical_table}
use Rattle.vpf_table.specs.Grid.{Grid}
use Rattle.vpf_vectors.specs.Heads.{edge_head}
use Rattle.vpf_vectors.specs.Tables.{edge_cells}
use Rattle.vpf_vectors.proofs.HeadLemmas.{edges_ok, edges_read}
use Rattle.vpf_vectors.proofs.LimitLemmas.{limit_with}
use Rattle.vpf_vectors.specs.Inner.LimitLaws.{edges_limit}
use Rattle.vpf_vectors.proofs.RowLemmas.{table_with, no_edge}
use Rattle.vpf_vectors.specs.Inner.RowLaws.{put_rows_more as put_more, put_rows_all as put_all}
use Rattle.vpf_vectors.proofs.tables.edge_table.Goals as goal

pub header_in-requires : goal.header_in-requires
header_in-requires c = edges_ok

pub loop-i-init : goal.loop-i-init
loop-i-init c = record {
  head = c.in_ok-writer.ensures.head ∙ c.in_ok-header.ensures edge_head 234 edges_read;
  holds = c.in_ok-writer.ensures.holds;
}

pub loop-i-preserved : goal.loop-i-preserved
loop-i-preserved c = record {
  head = c.in_ok-put_edge.ensures.head;
  holds =
      put_more c.put_edge.new.writer edge_cells 1 c.loop-i.i (1 + c.loop-i.i) c.args.rows.now no_edge c.loop-i-test.true refl
      (c.in_ok-put_edge.ensures.put (map edge_cells (take c.loop-i.i (enumerate_from 1 c.args.rows.now))) c.loop-i.invariant.holds);
}

pub bytes_of-requires : goal.bytes_of-requires
bytes_of-requires c =
    let rows = map edge_cells (enumerate_from 1 c.args.rows.now) in
    let all = put_all c.loop-i.writer edge_cells 1 c.loop-i.i c.args.rows.now c.loop-i-test.false c.loop-i.invariant.holds in
    (rows, (all, limit_with c.loop-i.writer edge_head rows c.loop-i.invariant.head (edges_limit c.args.rows.now c.requires.few)))

pub returns : goal.returns
returns c =
    let rows = map edge_cells (enumerate_from 1 c.args.rows.now) in
    let all = put_all c.loop-i.writer edge_cells 1 c.loop-i.i c.args.rows.now c.loop-i-test.false c.loop-i.invariant.holds in
    subst (λ (g : Grid). IfOk c.bytes_of.result (λ bytes. bytes ≡ canonical_table g))
    (table_with c.loop-i.writer edge_head rows c.loop-i.invariant.head) (c.bytes_of.ensures rows all)
