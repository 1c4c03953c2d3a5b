use Rattle.std.proofs.Common.{sym, ◌∙◌}
use Rattle.vpf_value.specs.Values.{view}
use Rattle.vpf_joins.proofs.keys.SearchLemmas.{no_rows}
use Rattle.vpf_joins.proofs.keys.index.KeyIndex.rows.Goals as goal

pub returns-else-is_key : goal.returns-else-is_key
returns-else-is_key c = no_rows (view c.args.key.now) c.args.self.now (sym c.is_key.ensures ∙ c.if-is_key.false)
