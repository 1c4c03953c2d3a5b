use Rattle.std.proofs.Common.{sym, ap, ◌+◌, ℕ, length}
use Rattle.vpf_head.specs.Canonical.{canonical_text}
use Rattle.vpf_head.specs.Head.{varies_in}
use Rattle.vpf_write.specs.Writing.{limit_by}
use Rattle.vpf_write.proofs.WholeTables.{length-header}
use Rattle.vpf_write.proofs.writing.first_limit.Goals as goal

pub returns : goal.returns
returns c =
    let h = c.args.header.now in
    rw (c.limit_of.ensures, c.text_len.ensures, c.varies.ensures) (ap (λ (n : ℕ). limit_by (length (canonical_text h)) c.args.rows (n + c.args.rows_len) (varies_in h.columns)) (sym (length-header h)))
