use Rattle.vpf_coverage.proofs.opening.OpenLemmas.{tileref_opens}
use Rattle.vpf_coverage.proofs.opening.opening.open_tileref.Goals as goal

pub next_table-requires : goal.next_table-requires
next_table-requires c =
    let are = c.requires.1 in (
      are.tileref,
      are.behind,
      rw c.of.ensures (tileref_opens c.spelled_is_opened.ensures c.opened_is_read.ensures c.args.lib.now c.args.cov.now c.requires.0 c.args.files.now are),
    )

pub returns : goal.returns
returns c coverage are =
    c.next_table.ensures.table are.tileref are.behind
    (rw c.of.ensures (tileref_opens c.spelled_is_opened.ensures c.opened_is_read.ensures c.args.lib.now c.args.cov.now coverage c.args.files.now are))
