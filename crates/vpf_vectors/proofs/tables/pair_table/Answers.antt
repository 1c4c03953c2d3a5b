use Rattle.std.proofs.Common.{◌≡◌, ◌+◌, ◌∙◌, refl, subst, map, take}
use Rattle.std.specs.Prelude.{IfOk}
use Rattle.std.specs.List.{enumerate_from}
use Rattle.vpf_table.specs.Canonical.{canonical_table}
use Rattle.vpf_table.specs.Grid.{Grid}
use Rattle.vpf_vectors.specs.Tables.{pair_cells}
use Rattle.vpf_vectors.proofs.LimitLemmas.{limit_with}
use Rattle.vpf_vectors.specs.Inner.LimitLaws.{pairs_limit}
use Rattle.vpf_vectors.proofs.RowLemmas.{table_with}
use Rattle.vpf_vectors.specs.Inner.RowLaws.{put_rows_more as put_more, put_rows_all as put_all}
use Rattle.vpf_vectors.proofs.tables.pair_table.Goals as goal

pub loop-i-preserved : goal.loop-i-preserved
loop-i-preserved c = record {
  head = c.in_ok-put_pair.ensures.head ∙ c.loop-i.invariant.head;
  holds =
      put_more c.put_pair.new.writer pair_cells c.args.first c.loop-i.i (c.args.first + c.loop-i.i) c.args.values.now 0 c.loop-i-test.true refl
      (c.in_ok-put_pair.ensures.put (map pair_cells (take c.loop-i.i (enumerate_from c.args.first c.args.values.now))) c.loop-i.invariant.holds);
}

pub bytes_of-requires : goal.bytes_of-requires
bytes_of-requires c =
    let rows = map pair_cells (enumerate_from c.args.first c.args.values.now) in
    let all = put_all c.loop-i.writer pair_cells c.args.first c.loop-i.i c.args.values.now c.loop-i-test.false c.loop-i.invariant.holds in
    let limit = pairs_limit c.args.header.now c.args.first c.args.values.now c.requires.head c.requires.few in
    (rows, (all, limit_with c.loop-i.writer c.args.header.now rows c.loop-i.invariant.head limit))

pub returns : goal.returns
returns c =
    let rows = map pair_cells (enumerate_from c.args.first c.args.values.now) in
    let all = put_all c.loop-i.writer pair_cells c.args.first c.loop-i.i c.args.values.now c.loop-i-test.false c.loop-i.invariant.holds in
    subst (λ (g : Grid). IfOk c.bytes_of.result (λ bytes. bytes ≡ canonical_table g))
    (table_with c.loop-i.writer c.args.header.now rows c.loop-i.invariant.head) (c.bytes_of.ensures rows all)
