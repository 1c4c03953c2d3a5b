use Rattle.vpf_table.proofs.OpenLemmas.{head_fails}
use Rattle.vpf_table.proofs.table_file.TableFile.read.Goals as goal

pub returns-in-Err-clause-exact : goal.returns-in-Err-clause-exact
returns-in-Err-clause-exact c = head_fails c.in-Err.error c.args.bytes.now c.in-Err.ensures.exact
