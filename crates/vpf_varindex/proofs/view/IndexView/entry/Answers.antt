use Rattle.std.proofs.Common.{◌-◌, length, refl, ap, arith}
use Rattle.vpf_varindex.proofs.Entries.{entry_stands}
use Rattle.vpf_varindex.proofs.view.IndexView.entry.Goals as goal

pub entry_in-requires : goal.entry_in-requires
entry_in-requires c =
    let x = c.self.inside in
    let s = entry_stands x.order x.bytes.now _ (c.args.k - 1) _ c.self.invariant.read (omega (arith, ap length c.self.view_is)) refl in
    s.room

pub returns : goal.returns
returns c =
    let x = c.self.inside in
    let s = entry_stands x.order x.bytes.now _ (c.args.k - 1) _ c.self.invariant.read (omega (arith, ap length c.self.view_is)) refl in
    rw (c.entry_in.ensures, ← c.self.view_is) s.item
