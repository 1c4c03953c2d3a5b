use Rattle.std.proofs.Common.{sym, ap, ◌∙◌, length}
use Rattle.std.proofs.lemmas.List.FromFn.{length-map-range_with_len}
use Rattle.vpf_theme.specs.Entries.{Theme, entry_of}
use Rattle.vpf_theme.proofs.view.ThemeView.entries.Goals as goal

pub returns : goal.returns
returns c = let t = c.self.inside in sym (length-map-range_with_len (entry_of t.layout t.bytes.now) 0 t.layout.entries) ∙ ap (λ (x : Theme). length x.entries) c.self.view_is
