use Rattle.std.proofs.Common.{sym, subst}
use Rattle.vpf_coverage.specs.Inner.Opening.Opens.{Opens, OpensEnd}
use Rattle.vpf_coverage.proofs.opening.folders.open_tables.Goals as goal

pub next_table-requires-2 : goal.next_table-requires-2
next_table-requires-2 c =
    let t = c.requires.0 in
    let h = c.requires.2 in
    let fac_on = c.in_ok-next_table.ensures.rest t.edg h.fac_on h.edg in
    (t.fac, h.rng_on, subst (Opens t.fac h.rng_on) (sym fac_on) h.fac)

pub next_table-requires-3 : goal.next_table-requires-3
next_table-requires-3 c =
    let t = c.requires.0 in
    let h = c.requires.2 in
    let fac_on = c.in_ok-next_table.ensures.rest t.edg h.fac_on h.edg in
    let fac = subst (Opens t.fac h.rng_on) (sym (fac_on)) h.fac in
    let rng_on = c.in_ok-next_table-2.ensures.rest t.fac h.rng_on fac in
    (t.rng, h.cnd_on, subst (Opens t.rng h.cnd_on) (sym rng_on) h.rng)

pub next_table-requires-4 : goal.next_table-requires-4
next_table-requires-4 c =
    let t = c.requires.0 in
    let h = c.requires.2 in
    let fac_on = c.in_ok-next_table.ensures.rest t.edg h.fac_on h.edg in
    let fac = subst (Opens t.fac h.rng_on) (sym (fac_on)) h.fac in
    let rng_on = c.in_ok-next_table-2.ensures.rest t.fac h.rng_on fac in
    let rng = subst (Opens t.rng h.cnd_on) (sym (rng_on)) h.rng in
    let cnd_on = c.in_ok-next_table-3.ensures.rest t.rng h.cnd_on rng in
    (t.cnd, h.end_on, subst (Opens t.cnd h.end_on) (sym cnd_on) h.cnd)

pub open_end-requires : goal.open_end-requires
open_end-requires c =
    let t = c.requires.0 in
    let rest = c.requires.1 in
    let h = c.requires.2 in
    let fac_on = c.in_ok-next_table.ensures.rest t.edg h.fac_on h.edg in
    let fac = subst (Opens t.fac h.rng_on) (sym (fac_on)) h.fac in
    let rng_on = c.in_ok-next_table-2.ensures.rest t.fac h.rng_on fac in
    let rng = subst (Opens t.rng h.cnd_on) (sym (rng_on)) h.rng in
    let cnd_on = c.in_ok-next_table-3.ensures.rest t.rng h.cnd_on rng in
    let cnd = subst (Opens t.cnd h.end_on) (sym (cnd_on)) h.cnd in
    let end_on = c.in_ok-next_table-4.ensures.rest t.cnd h.end_on cnd in
    (t.end, rest, subst (OpensEnd c.args.folder.now t.end rest) (sym end_on) h.end)

pub returns-clause-tables : goal.returns-clause-tables
returns-clause-tables c t rest h =
    let fac_on = c.in_ok-next_table.ensures.rest t.edg h.fac_on h.edg in
    let fac = subst (Opens t.fac h.rng_on) (sym (fac_on)) h.fac in
    let rng_on = c.in_ok-next_table-2.ensures.rest t.fac h.rng_on fac in
    let rng = subst (Opens t.rng h.cnd_on) (sym (rng_on)) h.rng in
    let cnd_on = c.in_ok-next_table-3.ensures.rest t.rng h.cnd_on rng in
    let cnd = subst (Opens t.cnd h.end_on) (sym (cnd_on)) h.cnd in
    let end_on = c.in_ok-next_table-4.ensures.rest t.cnd h.end_on cnd in
    let one = c.in_ok-next_table.ensures.table t.edg h.fac_on h.edg in
    let two = c.in_ok-next_table-2.ensures.table t.fac h.rng_on fac in
    let three = c.in_ok-next_table-3.ensures.table t.rng h.cnd_on rng in
    let four = c.in_ok-next_table-4.ensures.table t.cnd h.end_on cnd in
    let five = c.in_ok-open_end.ensures.table t.end rest (subst (OpensEnd c.args.folder.now t.end rest) (sym end_on) h.end) in
    rw (one, two, three, four, five)

pub returns-clause-rest : goal.returns-clause-rest
returns-clause-rest c t rest h =
    let fac_on = c.in_ok-next_table.ensures.rest t.edg h.fac_on h.edg in
    let fac = subst (Opens t.fac h.rng_on) (sym (fac_on)) h.fac in
    let rng_on = c.in_ok-next_table-2.ensures.rest t.fac h.rng_on fac in
    let rng = subst (Opens t.rng h.cnd_on) (sym (rng_on)) h.rng in
    let cnd_on = c.in_ok-next_table-3.ensures.rest t.rng h.cnd_on rng in
    let cnd = subst (Opens t.cnd h.end_on) (sym (cnd_on)) h.cnd in
    let end_on = c.in_ok-next_table-4.ensures.rest t.cnd h.end_on cnd in
    c.in_ok-open_end.ensures.rest t.end rest (subst (OpensEnd c.args.folder.now t.end rest) (sym end_on) h.end)
