use Rattle.std.proofs.Common.{ap, ◌∙◌}
use Rattle.vpf_cutting.specs.Inner.Copies.Presence.{tiles_of, has, is_one_of}
use Rattle.vpf_cutting.proofs.copies.CopyLemmas.{tiles_are, tiles_have}
use Rattle.vpf_cutting.proofs.copies.copies.Copies.tiles_of.Goals as goal

pub returns-clause-tiles : goal.returns-clause-tiles
returns-clause-tiles c = c.at.ensures ∙ tiles_are _ _ c.self.invariant c.args.item ∙ ap (λ p. tiles_of p c.args.item) c.self.view_is

pub returns-clause-each : goal.returns-clause-each
returns-clause-each c t = ap (λ xs. is_one_of xs t) (c.at.ensures ∙ tiles_are _ _ c.self.invariant c.args.item) ∙ tiles_have _ _ c.self.invariant t c.args.item ∙ ap (λ p. has p t c.args.item) c.self.view_is
