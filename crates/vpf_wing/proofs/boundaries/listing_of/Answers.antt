use Rattle.std.proofs.Common.{None, refl}
use Rattle.std.proofs.lemmas.Result.{err_from_is_err_and}
use Rattle.vpf_wing.proofs.ListLemmas.{ranking}
use Rattle.vpf_wing.proofs.GridLemmas.{HasEdges, is_read, tells_columns, tells_rows, tells_wings, among_them, wings_decide, mapped, boundary}
use Rattle.vpf_wing.proofs.boundaries.listing_of.Goals as goal

pub returns-in_err-columns-clause-first : goal.returns-in_err-columns-clause-first
returns-in_err-columns-clause-first c =
    let p = err_from_is_err_and c.from_residual.result c.from_residual.ensures.1 in
    rw (p.1, p.2) (tells_columns c.args.table.now c.header.result.now c.in_err-columns.field-0.0 c.header.ensures c.in_err-columns.ensures.first)

pub returns-in_err-edges-clause-first : goal.returns-in_err-edges-clause-first
returns-in_err-edges-clause-first c =
    let p = err_from_is_err_and c.from_residual-in_err-edges.result c.from_residual-in_err-edges.ensures.1 in
    let k = is_read c.args.table.now c.header.result.now c.in_ok-columns.columns c.header.ensures c.in_ok-columns.ensures.first c.in_ok-columns.ensures.columns in
    rw (p.1, p.2) (tells_rows c.args.table.now c.in_ok-columns.columns c.len.result c.in_err-edges.field-0.0 k c.len.ensures.value c.in_err-edges.ensures.first)

pub nexts-requires : goal.nexts-requires
nexts-requires c =
    let k = is_read c.args.table.now c.header.result.now c.in_ok-columns.columns c.header.ensures c.in_ok-columns.ensures.first c.in_ok-columns.ensures.columns in
    let wings = among_them c.args.table.now c.in_ok-columns.columns c.len.result c.in_ok-edges.edges.items
    (record { read = k; count = c.len.ensures.value; are = c.in_ok-edges.ensures.edges; none = c.in_ok-edges.ensures.first; wings = c.in_ok-edges.ensures.wings }) in
    λ _. ((refl, tt), (c.in_ok-edges.ensures.few, wings))

pub returns-in_err-nexts-clause-first : goal.returns-in_err-nexts-clause-first
returns-in_err-nexts-clause-first c =
    let p = err_from_is_err_and c.from_residual-in_err-nexts.result c.from_residual-in_err-nexts.ensures.1 in
    let k = is_read c.args.table.now c.header.result.now c.in_ok-columns.columns c.header.ensures c.in_ok-columns.ensures.first c.in_ok-columns.ensures.columns in
    rw (p.1, p.2) (tells_wings c.args.table.now c.in_ok-columns.columns c.len.result c.in_ok-edges.edges.items c.in_err-nexts.field-0.0
    (record { read = k; count = c.len.ensures.value; are = c.in_ok-edges.ensures.edges; none = c.in_ok-edges.ensures.first; wings = c.in_ok-edges.ensures.wings }) c.in_err-nexts.ensures.first)

pub cycles_of-requires-clause-permutation : goal.cycles_of-requires-clause-permutation
cycles_of-requires-clause-permutation c =
    let k = is_read c.args.table.now c.header.result.now c.in_ok-columns.columns c.header.ensures c.in_ok-columns.ensures.first c.in_ok-columns.ensures.columns in
    let h : HasEdges c.args.table.now c.in_ok-columns.columns c.len.result c.in_ok-edges.edges.items =
    record { read = k; count = c.len.ensures.value; are = c.in_ok-edges.ensures.edges; none = c.in_ok-edges.ensures.first; wings = c.in_ok-edges.ensures.wings } in
    rw c.deref.ensures.value (ranking c.in_ok-edges.edges.items c.in_ok-nexts.nexts.items c.in_ok-nexts.ensures.nexts (mapped c.args.table.now c.in_ok-columns.columns c.len.result c.in_ok-edges.edges.items h c.in_ok-nexts.ensures.first))

pub returns-clause-first : goal.returns-clause-first
returns-clause-first c =
    let k = is_read c.args.table.now c.header.result.now c.in_ok-columns.columns c.header.ensures c.in_ok-columns.ensures.first c.in_ok-columns.ensures.columns in
    wings_decide c.args.table.now c.in_ok-columns.columns c.len.result c.in_ok-edges.edges.items None
    (record { read = k; count = c.len.ensures.value; are = c.in_ok-edges.ensures.edges; none = c.in_ok-edges.ensures.first; wings = c.in_ok-edges.ensures.wings }) c.in_ok-nexts.ensures.first

pub returns-clause-listed : goal.returns-clause-listed
returns-clause-listed c =
    let k = is_read c.args.table.now c.header.result.now c.in_ok-columns.columns c.header.ensures c.in_ok-columns.ensures.first c.in_ok-columns.ensures.columns in
    boundary c.args.table.now c.in_ok-columns.columns c.len.result c.in_ok-edges.edges.items c.in_ok-nexts.nexts.items c.in_ok-cycles_of.field-0
    (record { read = k; count = c.len.ensures.value; are = c.in_ok-edges.ensures.edges; none = c.in_ok-edges.ensures.first; wings = c.in_ok-edges.ensures.wings })
    c.in_ok-nexts.ensures.nexts (rw c.deref.ensures.value at c.in_ok-cycles_of.ensures.listing) c.in_ok-cycles_of.ensures.untiled
