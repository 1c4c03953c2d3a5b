use Rattle.vpf_prims.proofs.WingLemmas.{have_wings}
use Rattle.vpf_prims.proofs.laws.rows_have_wings.Goals as goal

pub returns : goal.returns
returns c = have_wings
