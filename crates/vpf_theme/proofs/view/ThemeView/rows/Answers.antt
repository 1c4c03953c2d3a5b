use Rattle.vpf_theme.proofs.EntryLemmas.{view_have_rows}
use Rattle.vpf_theme.proofs.view.ThemeView.rows.Goals as goal

pub returns-clause-listed : goal.returns-clause-listed
returns-clause-listed c = let t = c.self.inside in view_have_rows t.layout t.bytes.now c.args.self.now c.self.view_is c.self.invariant.faultless
