use Rattle.std.proofs.Common.{List, ℕ, ◌<◌, ◌^◌, length, ap, ◌∙◌, sym, subst}
use Rattle.vpf_cutting.specs.Inner.Copies.Presence.{items_in}
use Rattle.vpf_cutting.proofs.copies.CopyLemmas.{items_are, few_are}
use Rattle.vpf_cutting.proofs.copies.copies.Copies.in_tile.Goals as goal

pub returns-clause-items : goal.returns-clause-items
returns-clause-items c = c.at.ensures ∙ items_are _ _ c.self.invariant c.args.tile ∙ ap (λ p. items_in p c.args.tile) c.self.view_is

pub returns-clause-few : goal.returns-clause-few
returns-clause-few c = subst (λ (xs : List ℕ). length xs < 2 ^ 32) (sym c.at.ensures) (few_are _ _ c.self.invariant c.args.tile)
