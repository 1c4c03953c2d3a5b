use Rattle.std.proofs.Common.{◌≡◌, ◌<◌, length, sym, ◌∙◌, arith}
use Rattle.std.proofs.lemmas.Result.{err_from_is_err_and}
use Rattle.indexmap.specs.IndexMap.{values, index_map_len}
use Rattle.vpf_head.proofs.Entries.{length-values, room_here, room_next}
use Rattle.vpf_head.proofs.Makings.{columns_go_at, columns_refused_at, columns_more, columns_fewer, columns_done}
use Rattle.vpf_head.proofs.making.past_columns.Goals as goal

pub returns-then-c-len : goal.returns-then-c-len
returns-then-c-len c =
    let many : length (values c.args.read.now) ≡ index_map_len c.args.read.now = length-values c.args.read.now.entries in
    rw c.in_table.ensures (sym c.loop-c.invariant.same ∙ columns_more c.loop-c.at c.args.columns.now (values c.args.read.now) c.loop-c.c (omega arith) (omega arith))

pub past_column-requires : goal.past_column-requires
past_column-requires c =
    let lt : c.loop-c.c < length c.args.columns.now = omega arith in
    room_here _ _ c.args.columns.now c.loop-c.c _ lt c.loop-c.invariant.room c.requires

pub returns-in_err-at : goal.returns-in_err-at
returns-in_err-at c =
    let p = err_from_is_err_and c.from_residual.result c.from_residual.ensures.1 in
    let lt : c.loop-c.c < length c.args.columns.now = omega arith in
    rw (p.1, p.2) (sym c.loop-c.invariant.same ∙ columns_refused_at c.loop-c.at c.args.columns.now (values c.args.read.now) c.loop-c.c _ _ _ lt c.column_of.ensures c.in_err-at.ensures.exact)

pub loop-c-preserved : goal.loop-c-preserved
loop-c-preserved c =
    let many : length (values c.args.read.now) ≡ index_map_len c.args.read.now = length-values c.args.read.now.entries in
    let lt : c.loop-c.c < length c.args.columns.now = omega arith in
    record {
      same = sym (columns_go_at c.loop-c.at c.args.columns.now (values c.args.read.now) c.loop-c.c _ _ _ lt c.column_of.ensures c.in_ok-at.ensures.exact) ∙ c.loop-c.invariant.same;
      room = room_next _ _ _ c.args.columns.now c.loop-c.c _ lt c.in_ok-at.ensures.past c.loop-c.invariant.room;
      within = omega (arith, c.len.ensures.len, c.if-c-len.false);
    }

pub returns-then-columns-len : goal.returns-then-columns-len
returns-then-columns-len c =
    let many : length (values c.args.read.now) ≡ index_map_len c.args.read.now = length-values c.args.read.now.entries in
    rw c.in_table-then-columns-len.ensures (sym c.loop-c.invariant.same ∙ columns_fewer c.loop-c.at c.args.columns.now (values c.args.read.now) c.loop-c.c (omega arith) (omega arith))

pub returns : goal.returns
returns c =
    let many : length (values c.args.read.now) ≡ index_map_len c.args.read.now = length-values c.args.read.now.entries in
    sym c.loop-c.invariant.same ∙ columns_done c.loop-c.at c.args.columns.now (values c.args.read.now) c.loop-c.c (omega arith) (omega arith)
