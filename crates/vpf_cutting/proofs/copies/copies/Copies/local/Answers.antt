use Rattle.std.proofs.Common.{Ok, Err, subst, sym}
use Rattle.std.proofs.lemmas.List.Sorted.{searched}
use Rattle.vpf_cutting.specs.Inner.Copies.Presence.{has}
use Rattle.vpf_cutting.proofs.copies.RisingLemmas.{Rises}
use Rattle.vpf_cutting.proofs.copies.FilterLemmas.{filter_up, up_at}
use Rattle.vpf_cutting.proofs.copies.CopyLemmas.{local_found, local_absent}
use Rattle.vpf_cutting.proofs.copies.copies.Copies.local.Goals as goal

pub returns-in-Ok : goal.returns-in-Ok
returns-in-Ok c =
    let p = c.args.self.now in
    let xs = c.in_tile.result.now in
    let up : Rises xs = subst Rises (sym c.in_tile.ensures.items) (filter_up (has p c.args.tile) p.items 1) in
    let s = searched xs c.args.item (Ok c.in-Ok.place) c.in-Ok.ensures.position (up_at xs up) in
    local_found p c.args.tile c.args.item c.in-Ok.place xs c.in_tile.ensures.items s.0 s.1

pub returns-in-Err : goal.returns-in-Err
returns-in-Err c =
    let p = c.args.self.now in
    let xs = c.in_tile.result.now in
    let up : Rises xs = subst Rises (sym c.in_tile.ensures.items) (filter_up (has p c.args.tile) p.items 1) in
    let s = searched xs c.args.item (Err c.in-Err.field-0) c.in-Err.ensures.position (up_at xs up) in
    local_absent p c.args.tile c.args.item c.in-Err.field-0 xs (c.in_tile.ensures.each c.args.item) s.1 s.2
