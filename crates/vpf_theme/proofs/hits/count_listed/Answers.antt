use Rattle.vpf_theme.proofs.HitLemmas.{listed_by}
use Rattle.vpf_theme.proofs.hits.count_listed.Goals as goal

pub returns-in-List : goal.returns-in-List
returns-in-List c = listed_by c.args.layout.now.form c.args.layout.now c.args.bytes.now c.args.extent c.max.result c.in-List.is c.max.ensures
