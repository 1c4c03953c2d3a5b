use Rattle.std.proofs.Common.{◌≡◌, ◌++◌, drop}
use Rattle.vpf_varindex.specs.RowIndex.{entries_text, row_index}
use Rattle.vpf_varindex.proofs.making.index_of.Given as goal

abbrev pub invariant-loop-offset : goal.invariant-loop-offset
invariant-loop-offset l = l.out.items ++ entries_text l.order (drop l.offset-index l.spans) ≡ row_index l.order l.header_text l.spans
