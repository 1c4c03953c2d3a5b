use Rattle.std.proofs.Common.{length, refl}
use Rattle.std.proofs.lemmas.Option.{slice_get_read}
use Rattle.vpf_table.proofs.placed_header.PlacedHeader.placed.Goals as goal

pub returns-in-Some-clause-width : goal.returns-in-Some-clause-width
returns-in-Some-clause-width c =
    let there = c.deref.result.now in
    let read = c.in-Some.ensures.lookup in
    let found = slice_get_read there (length there) c.min-column.result c.in-Some.width.now refl read.3.0 read.1 in
    rw (← c.self.view_is) (c.self.invariant c.min-column.result c.in-Some.width.now (rw c.deref.ensures.value at found))

pub returns-in-None-clause-width : goal.returns-in-None-clause-width
returns-in-None-clause-width c = refl
