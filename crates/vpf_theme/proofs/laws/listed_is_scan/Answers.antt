use Rattle.vpf_theme.proofs.ScanLemmas.{listed_is_scan}
use Rattle.vpf_theme.proofs.laws.listed_is_scan.Goals as goal

pub returns : goal.returns
returns c = listed_is_scan
