use Rattle.std.proofs.Common.{sym, ◌∙◌}
use Rattle.vpf_theme.proofs.EntryLemmas.{view_length, view_value}
use Rattle.vpf_theme.proofs.view.ThemeView.value.Goals as goal

pub sure_value-requires-clause-within : goal.sure_value-requires-clause-within
sure_value-requires-clause-within c = let t = c.self.inside in view_length t.layout t.bytes.now c.args.self.now c.args.i c.self.view_is c.requires

pub returns : goal.returns
returns c = let t = c.self.inside in c.sure_value.ensures ∙ sym (view_value t.layout t.bytes.now c.args.self.now c.args.i c.self.view_is (view_length t.layout t.bytes.now c.args.self.now c.args.i c.self.view_is c.requires))
