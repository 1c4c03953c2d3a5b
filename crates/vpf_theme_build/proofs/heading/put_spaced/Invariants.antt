use Rattle.std.proofs.Common.{◌≡◌, ◌++◌, take}
use Rattle.std.specs.Prelude.{replicate}
use Rattle.vpf_theme_build.proofs.heading.put_spaced.Given as goal

abbrev pub invariant-loop-i : goal.invariant-loop-i
invariant-loop-i l = l.out.items ≡ l.fn.out.items ++ take l.i (l.name ++ replicate l.len 32)
