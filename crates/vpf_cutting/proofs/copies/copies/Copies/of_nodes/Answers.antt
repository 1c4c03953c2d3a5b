use Rattle.std.proofs.Common.{◌≡◌, ℕ, Bool, ap, sym, subst, arith, IfOk}
use Rattle.vpf_cutting.specs.Inner.Copies.Lists.{is_paired, AreNumbersWithin}
use Rattle.vpf_cutting.specs.Inner.Copies.Placing.{has_end}
use Rattle.vpf_cutting.specs.Inner.Copies.Presence.{Presence, AreCopies, has, is_one_of, presence_of}
use Rattle.vpf_cutting.proofs.copies.PlacingLemmas.{ends_are, ends_step, ends_within}
use Rattle.vpf_cutting.proofs.copies.copies.Copies.of_nodes.Goals as goal

pub loop-k-preserved : goal.loop-k-preserved
loop-k-preserved c t v = ends_step c.args.edges.now c.args.ends.now t v c.loop-k.k _ _ (is_one_of c.tiles_of.result.now t) (c.in_ok-put_ends.ensures t v) (c.tiles_of.ensures.each t) (c.loop-k.invariant t v)

pub of_pairs-requires : goal.of_pairs-requires
of_pairs-requires c =
    let p = c.args.edges.now in
    let same : is_paired c.loop-k.pairs.items ≡ has_end p c.args.ends.now = ends_are p c.args.ends.now c.loop-k.k c.loop-k.pairs.items (omega (arith, c.items-k-end.ensures)) c.loop-k.invariant in
    let copies : AreCopies p c.edges.inside.by_item = subst (λ (p : Presence). AreCopies p c.edges.inside.by_item) c.edges.view_is c.edges.invariant in
    let within : AreNumbersWithin (has_end p c.args.ends.now) c.edges.inside.tiles c.args.nodes = subst (λ n. AreNumbersWithin (has_end p c.args.ends.now) n c.args.nodes) (sym (ap (λ (p : Presence). p.tiles) c.edges.view_is)) (ends_within p c.edges.inside.by_item c.args.ends.now c.args.nodes copies c.requires.edges c.requires.within) in
    subst (λ (test : ℕ → ℕ → Bool). AreNumbersWithin test c.edges.inside.tiles c.args.nodes) (sym same) within

pub returns-clause-copies : goal.returns-clause-copies
returns-clause-copies c =
    let p = c.args.edges.now in
    let same : is_paired c.loop-k.pairs.items ≡ has_end p c.args.ends.now = ends_are p c.args.ends.now c.loop-k.k c.loop-k.pairs.items (omega (arith, c.items-k-end.ensures)) c.loop-k.invariant in
    subst (λ (test : ℕ → ℕ → Bool). IfOk c.of_pairs.result (λ copies. copies ≡ presence_of c.args.nodes p.tiles test)) same (subst (λ n. IfOk c.of_pairs.result (λ copies. copies ≡ presence_of c.args.nodes n (is_paired c.loop-k.pairs.items))) (ap (λ (p : Presence). p.tiles) c.edges.view_is) c.of_pairs.ensures.copies)

pub returns-clause-has : goal.returns-clause-has
returns-clause-has c =
    let p = c.args.edges.now in
    let same : is_paired c.loop-k.pairs.items ≡ has_end p c.args.ends.now = ends_are p c.args.ends.now c.loop-k.k c.loop-k.pairs.items (omega (arith, c.items-k-end.ensures)) c.loop-k.invariant in
    subst (λ (test : ℕ → ℕ → Bool). IfOk c.of_pairs.result (λ copies. has copies ≡ test)) same c.of_pairs.ensures.has
