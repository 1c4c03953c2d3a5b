use Rattle.std.proofs.Common.{◌≡◌, ◌∙◌, ◌+◌, ◌-◌, [], length, drop, refl, arith}
use Rattle.vpf_write.specs.Inner.Cuts.{cut}
use Rattle.vpf_write.proofs.Cutting.{next_row, no_rows}
use Rattle.vpf_write.proofs.Tallied.{all_put, put_next}
use Rattle.vpf_write.proofs.writing.put_rows.Goals as goal

pub overflow_add-next : goal.overflow_add-next
overflow_add-next c =
    let r = next_row c.args.writer.now.head.columns (c.args.rows - c.loop-r._r) (c.args.rows - (c.loop-r._r + 1)) c.args.cells.now c.loop-r.from (c.loop-r.from + c.args.width) (omega (arith, c.requires.some, c.requires.width)) (omega arith) (omega (arith, c.requires.width)) c.loop-r.invariant.fits in
    omega (arith, r.inside)

pub between-requires-clause-within : goal.between-requires-clause-within
between-requires-clause-within c = (next_row c.args.writer.now.head.columns (c.args.rows - c.loop-r._r) (c.args.rows - (c.loop-r._r + 1)) c.args.cells.now c.loop-r.from (c.loop-r.from + c.args.width) (omega (arith, c.requires.some, c.requires.width)) (omega arith) (omega (arith, c.requires.width)) c.loop-r.invariant.fits).inside

pub put_row-requires : goal.put_row-requires
put_row-requires c =
    let r = next_row c.args.writer.now.head.columns (c.args.rows - c.loop-r._r) (c.args.rows - (c.loop-r._r + 1)) c.args.cells.now c.loop-r.from (c.loop-r.from + c.args.width) (omega (arith, c.requires.some, c.requires.width)) (omega arith) (omega (arith, c.requires.width)) c.loop-r.invariant.fits in
    rw (c.between.ensures, c.loop-r.invariant.head) r.fits

pub loop-r-init : goal.loop-r-init
loop-r-init c =
    let all : c.args.rows - 0 ≡ c.args.rows = omega arith in
    rw all record { head = refl; fits = c.requires.fits; put = record { put = []; holds = c.requires.begun; whole = refl } }

pub loop-r-preserved : goal.loop-r-preserved
loop-r-preserved c =
    let r = next_row c.args.writer.now.head.columns (c.args.rows - c.loop-r._r) (c.args.rows - (c.loop-r._r + 1)) c.args.cells.now c.loop-r.from (c.loop-r.from + c.args.width) (omega (arith, c.requires.some, c.requires.width)) (omega arith) (omega (arith, c.requires.width)) c.loop-r.invariant.fits in
    let columns = c.args.writer.now.head.columns in
    let ok = rw c.between.ensures at c.in_ok-put_row.ensures.ok in
    record {
      head = c.in_ok-put_row.ensures.head ∙ c.loop-r.invariant.head;
      fits = r.more;
      put = put_next c.loop-r.writer c.put_row.new.self (cut (length columns) (c.args.rows - c.loop-r._r) (drop c.loop-r.from c.args.cells.now)) (cut (length columns) c.args.rows c.args.cells.now) _ _ r.is ok c.loop-r.invariant.put;
    }

pub returns-clause-put : goal.returns-clause-put
returns-clause-put c =
    let columns = c.args.writer.now.head.columns in
    all_put c.loop-r.writer (cut (length columns) (c.args.rows - c.loop-r._r) (drop c.loop-r.from c.args.cells.now)) (cut (length columns) c.args.rows c.args.cells.now) (no_rows (length columns) (c.args.rows - c.loop-r._r) (drop c.loop-r.from c.args.cells.now) (omega arith)) c.loop-r.invariant.put
