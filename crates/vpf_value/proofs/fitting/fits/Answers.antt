use Rattle.std.specs.Prelude.{IsTrue}
use Rattle.std.proofs.Common.{rules}
use Rattle.vpf_triplet.specs.Kinds.{allows}
use Rattle.vpf_value.specs.Values.{view}
use Rattle.vpf_value.proofs.FittingLaws.{fitting_spelled}
use Rattle.vpf_value.proofs.fitting.fits.Goals as goal

pub returns-then-allows-clause-spelled : goal.returns-then-allows-clause-spelled
returns-then-allows-clause-spelled c =
    let same = fitting_spelled c.args.kind c.args.count (view c.args.cell.now) in
    let allowed : IsTrue (allows c.args.kind c.args.count) = search rules in
    (λ t. same.0 (allowed, c.fits_kind.ensures.0 t), λ s. c.fits_kind.ensures.1 (same.1 s).1)
