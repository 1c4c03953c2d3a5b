use Rattle.std.proofs.Common.{refl}
use Rattle.vpf_theme.proofs.EntryLemmas.{view_length, view_entry}
use Rattle.vpf_theme.proofs.view.ThemeView.hits.Goals as goal

pub hits_at-requires-clause-within : goal.hits_at-requires-clause-within
hits_at-requires-clause-within c = let t = c.self.inside in view_length t.layout t.bytes.now c.args.self.now c.args.i c.self.view_is c.requires

pub returns-clause-rows : goal.returns-clause-rows
returns-clause-rows c =
    let t = c.self.inside in
    let e = view_entry t.layout t.bytes.now c.args.self.now c.args.i c.self.view_is (view_length t.layout t.bytes.now c.args.self.now c.args.i c.self.view_is c.requires) in
    rw (e, c.hits_at.ensures.rows) refl
