use std.Path.{fun_ext}
use Rattle.std.proofs.Common.{ℕ, ◌≡◌, List, ◌∙◌, ap, sym, map, subst}
use Rattle.vpf_cutting.specs.Inner.Copies.Lists.{is_paired, lists_by}
use Rattle.vpf_cutting.specs.Inner.Copies.Presence.{Presence, has, AreCopies}
use Rattle.vpf_cutting.proofs.copies.CopyLemmas.{has_present, copies_are, turned_are, pairs_stand, turned_stand}
use Rattle.vpf_cutting.proofs.copies.copies.Copies.of_pairs.Goals as goal

pub invariant_of-result : goal.invariant_of-result
invariant_of-result c =
    let ps = c.args.pairs.items in
    let ts = c.in_ok-turned.turned.items in
    let e = c.in_ok-turned.ensures ∙ ap (λ xs. map (λ (p : ℕ × ℕ). let q : ℕ × ℕ = (p.1, p.0) in q) xs) c.deref.ensures.value in
    let a : c.in_ok-by_tile.by_tile ≡ lists_by c.args.tiles c.args.items (is_paired ps) = c.in_ok-by_tile.ensures c.args.items (pairs_stand ps c.args.tiles c.args.items c.requires) in
    let b : c.in_ok-by_item.by_item ≡ lists_by c.args.items c.args.tiles (λ i t. is_paired ps t i) = c.in_ok-by_item.ensures c.args.tiles (turned_stand ps ts c.args.tiles c.args.items e c.requires) ∙ turned_are ps ts c.args.tiles c.args.items e in
    subst (λ (ls : List (List ℕ)). AreCopies (record { items = c.args.items; tiles = c.args.tiles; lists = ls }) c.in_ok-by_item.by_item) (sym a) (copies_are c.args.items c.args.tiles (is_paired ps) c.in_ok-by_item.by_item c.ranges.items.fits c.requires b)

pub returns-clause-copies : goal.returns-clause-copies
returns-clause-copies c =
    let a = c.in_ok-by_tile.ensures c.args.items (pairs_stand c.args.pairs.items c.args.tiles c.args.items c.requires) in
    ap (λ (ls : List (List ℕ)). let p : Presence = record { items = c.args.items; tiles = c.args.tiles; lists = ls } in p) a

pub returns-clause-has : goal.returns-clause-has
returns-clause-has c = ap has (returns-clause-copies c) ∙ fun_ext (λ t. fun_ext (λ i. has_present c.args.items c.args.tiles (is_paired c.args.pairs.items) c.requires t i))
