use Rattle.std.proofs.Common.{sym, ◌∙◌}
use Rattle.vpf_table.proofs.SharedHeaders.{header_shared}
use Rattle.vpf_table.proofs.table_file.TableFile.header_like.Goals as goal

pub returns-in-Ok-clause-read : goal.returns-in-Ok-clause-read
returns-in-Ok-clause-read c =
    let t = c.self.inside in
    rw c.in-Ok.ensures.cases (header_shared c.cells_and_headers.ensures c.args.bytes.now t.bytes.now t.header.value t.start c.bytes_are_bytes.ensures c.self.invariant.begun (sym c.starts_with.ensures.value ∙ c.if-not-starts_with.false))
