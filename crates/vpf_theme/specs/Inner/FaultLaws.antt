-- What is known of the entries of a directory where no line says anything.
use Rattle.std.proofs.Common.{◌≡◌, ℕ, ◌-◌, ◌<◌, List, None, arith}
use Rattle.vpf_findings.specs.Inner.FirstLaws.{over_none}
use Rattle.vpf_theme.specs.declared.layout.Layout.{Layout}
use Rattle.vpf_theme.specs.Reading.{entry_line, entries_line}

pub entry_none : (l : Layout) (bytes : List ℕ) (i : ℕ) → entries_line l bytes ≡ None → i < l.entries → entry_line l bytes i ≡ None
unfolding entries_line
entry_none l bytes i h k = over_none (entry_line l bytes) 0 l.entries h i (omega arith) (omega arith)
