use Rattle.vpf_theme.proofs.EntryLemmas.{view_one_field}
use Rattle.vpf_theme.proofs.view.ThemeView.have_one_field.Goals as goal

pub returns : goal.returns
returns c =
    let t = c.self.inside in
    let i = c.self.invariant in
    view_one_field t.layout t.bytes.now c.args.self.now c.fixed_cells.ensures i.values c.self.view_is i.faultless
