use Rattle.std.proofs.Common.{◌≡◌, ◌<◌, ◌+◌, not, true, false, length, get_or, sym, ap, ◌∙◌, arith}
use Rattle.std.proofs.lemmas.Grind.{common_steps}
use Rattle.vpf_theme.specs.Findings.{stands}
use Rattle.vpf_theme.proofs.WalkLemmas.{find_range_pass}
use Rattle.vpf_theme.proofs.marking.check_missing.Goals as goal

pub loop-k-preserved : goal.loop-k-preserved
loop-k-preserved c =
    let marks = c.in_ok-marks.marks in
    let held = c.in_ok-marks.ensures in
    let in' : c.loop-k.k < length marks.items = grind (arith, common_steps) in
    let rows : c.loop-k.k < c.args.theme.now.rows = omega (arith, held.0) in
    let at : get_or marks.items c.loop-k.k false ≡ true = grind (arith, common_steps) in
    let is : stands c.args.theme.now.entries (c.loop-k.k + 1) ≡ true = sym (held.1 c.loop-k.k rows) ∙ at in
    find_range_pass _ c.loop-k.k c.args.theme.now.rows _ rows c.loop-k.invariant (ap not is)
