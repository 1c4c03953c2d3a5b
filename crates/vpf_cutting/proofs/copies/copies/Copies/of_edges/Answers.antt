use Rattle.std.proofs.Common.{◌≡◌, ◌≤◌, ℕ, Bool, length, sym, subst, IfOk}
use Rattle.std.proofs.lemmas.Result.{IfOk-weaker}
use Rattle.vpf_cutting.specs.Inner.Copies.Lists.{is_paired}
use Rattle.vpf_cutting.specs.Inner.Copies.Placing.{is_beside}
use Rattle.vpf_cutting.specs.Inner.Copies.Presence.{Presence, has, presence_of, tiles_of}
use Rattle.vpf_cutting.proofs.copies.PlacingLemmas.{edges_are, two_tiles}
use Rattle.vpf_cutting.proofs.copies.copies.Copies.of_edges.Goals as goal

pub returns-clause-copies : goal.returns-clause-copies
returns-clause-copies c =
    let sides = c.args.sides.now in
    let same : is_paired c.loop-k.pairs.items ≡ is_beside sides = edges_are sides c.loop-k.k c.loop-k.pairs.items c.loop-k-test.false c.loop-k.invariant in
    subst (λ (test : ℕ → ℕ → Bool). IfOk c.of_pairs.result (λ copies. copies ≡ presence_of (length sides) c.args.tiles test)) same c.of_pairs.ensures.copies

pub returns-clause-two : goal.returns-clause-two
returns-clause-two c =
    let sides = c.args.sides.now in
    IfOk-weaker c.of_pairs.result (λ copies. copies ≡ presence_of (length sides) c.args.tiles (is_beside sides)) (λ copies. (edge : ℕ) → length (tiles_of copies edge) ≤ 2) (λ copies e edge. subst (λ (p : Presence). length (tiles_of p edge) ≤ 2) (sym e) (two_tiles sides c.args.tiles edge c.requires.within)) (returns-clause-copies c)

pub returns-clause-has : goal.returns-clause-has
returns-clause-has c =
    let sides = c.args.sides.now in
    let same : is_paired c.loop-k.pairs.items ≡ is_beside sides = edges_are sides c.loop-k.k c.loop-k.pairs.items c.loop-k-test.false c.loop-k.invariant in
    subst (λ (test : ℕ → ℕ → Bool). IfOk c.of_pairs.result (λ copies. has copies ≡ test)) same c.of_pairs.ensures.has
