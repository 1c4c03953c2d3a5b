use Rattle.std.proofs.Common.{◌≡◌, ℕ, Bool, length, subst, IfOk}
use Rattle.vpf_cutting.specs.Inner.Copies.Lists.{is_paired}
use Rattle.vpf_cutting.specs.Inner.Copies.Placing.{is_at}
use Rattle.vpf_cutting.specs.Inner.Copies.Presence.{has, presence_of}
use Rattle.vpf_cutting.proofs.copies.PlacingLemmas.{places_are}
use Rattle.vpf_cutting.proofs.copies.copies.Copies.of_places.Goals as goal

pub returns-clause-copies : goal.returns-clause-copies
returns-clause-copies c =
    let places = c.args.places.now in
    let same : is_paired c.loop-k.pairs.items ≡ is_at places = places_are places c.loop-k.k c.loop-k.pairs.items c.loop-k-test.false c.loop-k.invariant in
    subst (λ (test : ℕ → ℕ → Bool). IfOk c.of_pairs.result (λ copies. copies ≡ presence_of (length places) c.args.tiles test)) same c.of_pairs.ensures.copies

pub returns-clause-has : goal.returns-clause-has
returns-clause-has c =
    let places = c.args.places.now in
    let same : is_paired c.loop-k.pairs.items ≡ is_at places = places_are places c.loop-k.k c.loop-k.pairs.items c.loop-k-test.false c.loop-k.invariant in
    subst (λ (test : ℕ → ℕ → Bool). IfOk c.of_pairs.result (λ copies. has copies ≡ test)) same c.of_pairs.ensures.has
