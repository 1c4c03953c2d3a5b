use Rattle.std.proofs.Common.{sym, subst}
use Rattle.vpf_coverage.specs.Inner.Opened.{HasCountedTiles}
use Rattle.vpf_coverage.proofs.FileLemmas.{is_counted}
use Rattle.vpf_coverage.proofs.coverage.open_unopened.Goals as goal

pub checked-requires-clause-placed : goal.checked-requires-clause-placed
checked-requires-clause-placed c = record { alike = c.in_ok-opened.ensures.alike; few = c.in_ok-opened.ensures.few }

pub checked-requires-clause-counted : goal.checked-requires-clause-counted
checked-requires-clause-counted c =
    let some = c.requires in
    subst HasCountedTiles (sym (c.in_ok-opened.ensures.opened some.0 some.1))
    (is_counted c.files_are_libraries.ensures.library c.args.lib.now c.args.cov.now some.0 c.args.files some.1)

pub returns-clause-first : goal.returns-clause-first
returns-clause-first c whole are = rw (← c.in_ok-opened.ensures.opened whole are) c.checked.ensures.first

pub returns-clause-opened : goal.returns-clause-opened
returns-clause-opened c whole are = rw (← c.in_ok-opened.ensures.opened whole are) c.checked.ensures.coverage
