use Rattle.std.proofs.Common.{◌+◌, map, take, subst, arith}
use Rattle.std.specs.List.{enumerate_from}
use Rattle.vpf_head.specs.Head.{Head}
use Rattle.vpf_write.specs.Writing.{Writes}
use Rattle.vpf_vectors.specs.Tables.{pair_cells}
use Rattle.vpf_vectors.specs.Inner.RowLaws.{put_rows_all as put_all, put_rows_more as put_more}
use Rattle.vpf_glue.proofs.glued_tables.plan.write_plan.Goals as goal

pub loop-k-preserved : goal.loop-k-preserved
loop-k-preserved c = record {
  head = c.in_ok-put_home.ensures.head;
  holds =
      put_more c.put_home.new.writer pair_cells 2 c.loop-k.k (c.loop-k.k + 2) c.args.tiles.now 0 (omega arith) (omega arith)
      (c.in_ok-put_home.ensures.put (map pair_cells (take c.loop-k.k (enumerate_from 2 c.args.tiles.now))) c.loop-k.invariant.holds);
}

pub returns : goal.returns
returns c =
    let rows = map pair_cells (enumerate_from 2 c.args.tiles.now) in
    let all = put_all c.loop-k.writer pair_cells 2 c.loop-k.k c.args.tiles.now (omega arith) c.loop-k.invariant.holds in
    subst (λ (h : Head). Writes (record { head = h; rows = rows }) c.finish.result) c.loop-k.invariant.head (c.finish.ensures.written rows all)
