use Rattle.std.proofs.Common.{◌∙◌, ap, sym, arith}
use Rattle.vpf_cutting.specs.Inner.Copies.Lists.{list_at}
use Rattle.vpf_cutting.proofs.copies.StartLemmas.{at_is, list_at_past}
use Rattle.vpf_cutting.proofs.copies.lists.Lists.at.Goals as goal

pub returns-then-k-len : goal.returns-then-k-len
returns-then-k-len c = at_is c.self.inside.starts.items c.self.inside.all.items c.deref.result.now c.args.self.now c.args.number c.index.result.now c.index-then-k-len.result.now c.self.view_is (omega (arith, c.len.ensures)) c.index.ensures c.index-then-k-len.ensures c.deref.ensures.value

pub returns-else-k-len : goal.returns-else-k-len
returns-else-k-len c =
    let past = list_at_past c.self.inside.starts.items c.self.inside.all.items c.args.number (omega (arith, c.len.ensures)) in
    sym (ap (λ v. list_at v c.args.number) (sym c.self.view_is) ∙ past)
