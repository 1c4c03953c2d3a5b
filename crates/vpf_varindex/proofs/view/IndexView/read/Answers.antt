use Rattle.std.proofs.Common.{◌-◌, ◌/◌, length, refl, arith}
use Rattle.vpf_varindex.proofs.Entries.{index_short, index_cut, index_extra, index_whole}
use Rattle.vpf_varindex.proofs.view.IndexView.read.Goals as goal

pub returns-then-bytes-lt-HEAD_BYTES : goal.returns-then-bytes-lt-HEAD_BYTES
returns-then-bytes-lt-HEAD_BYTES c = rw c.in_index.ensures (index_short c.args.order c.args.bytes.now c.if-bytes-lt-HEAD_BYTES.true)

pub returns-then-room-wanted : goal.returns-then-room-wanted
returns-then-room-wanted c =
    let bytes = c.args.bytes.now in
    let k = (length bytes - 8) / 8 in
    rw c.in_index-then-room-wanted.ensures (index_cut c.args.order bytes c.u32_from-count.result k _ (omega arith) c.u32_from-count.ensures refl (omega arith) (omega arith) (omega arith))

pub returns-then-room-wanted-2 : goal.returns-then-room-wanted-2
returns-then-room-wanted-2 c = rw c.in_index-then-room-wanted-2.ensures (index_extra c.args.order c.args.bytes.now c.u32_from-count.result _ (omega arith) c.u32_from-count.ensures refl (omega arith))

pub invariant_of-result : goal.invariant_of-result
invariant_of-result c =
    let w = index_whole c.args.order c.args.bytes.now c.u32_from-count.result (omega arith) c.u32_from-count.ensures (omega arith) in
    record { read = w.read; count = w.count }

pub returns : goal.returns
returns c = (index_whole c.args.order c.args.bytes.now c.u32_from-count.result (omega arith) c.u32_from-count.ensures (omega arith)).read
