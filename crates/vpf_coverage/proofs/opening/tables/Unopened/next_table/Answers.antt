use Rattle.std.proofs.Common.{◌≡◌, subst}
use Rattle.vpf_coverage.specs.Inner.Opening.Opens.{Opens}
use Rattle.vpf_coverage.proofs.opening.CountLemmas.{count_of_first}
use Rattle.vpf_coverage.proofs.opening.tables.Unopened.next_table.Goals as goal

pub table_of_file-requires-clause-counted : goal.table_of_file-requires-clause-counted
table_of_file-requires-clause-counted c =
    let grid = c.requires.0 in
    let rest = c.requires.1 in
    let first = c.next_count-counted.ensures.first grid rest c.self.inside.files.now (rw (← c.self.view_is) at c.requires.2) c.self.invariant.counted in
    count_of_first c.next_file-file.result.now c.next_file-file.new.files.now c.next_count-counted.result.0 (rw c.next_file-file.ensures at first)

pub invariant_of-self : goal.invariant_of-self
invariant_of-self c =
    let grid = c.requires.0 in
    let rest = c.requires.1 in
    let opens = rw (← c.self.view_is) at c.requires.2 in
    let left : c.table_of_file.new.files.now ≡ rest = c.in_ok-table.ensures.rest grid rest (subst (Opens grid rest) c.next_file-file.ensures opens) in
    record { counted = rw left (c.next_count-counted.ensures.others grid rest c.self.inside.files.now opens c.self.invariant.counted); named = tt }

pub returns-clause-table : goal.returns-clause-table
returns-clause-table c grid rest opens =
    c.in_ok-table.ensures.table grid rest (subst (Opens grid rest) c.next_file-file.ensures (rw (← c.self.view_is) at opens))

pub returns-clause-rest : goal.returns-clause-rest
returns-clause-rest c grid rest opens =
    c.in_ok-table.ensures.rest grid rest (subst (Opens grid rest) c.next_file-file.ensures (rw (← c.self.view_is) at opens))
