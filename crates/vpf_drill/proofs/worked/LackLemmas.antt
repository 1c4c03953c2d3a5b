-- No thematic index that the features of the worked coverage lacked is there once its tiled library is made.
use Rattle.vpf_base.proofs.Options.{none_some}
use Rattle.vpf_drill.specs.Inner.Worked.Laws.{WorkedLacksThemes}

-- the one thematic index that a column names is there
pub lacks_themes : WorkedLacksThemes
lacks_themes after made = ((λ file named. absurd (none_some file named), tt), tt)
