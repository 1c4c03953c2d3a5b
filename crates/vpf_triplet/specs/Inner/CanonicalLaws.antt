-- The canonical spelling is a spelling, and the shortest.
use Rattle.std.proofs.Common.{ltb-true, ◌≡◌, ℕ, ◌+◌, ◌≤◌, Bool, true, false, cond, ltb, List, ◌++◌, length, Option, Some, None, refl, arith, inl, inr}
use Rattle.std.proofs.lemmas.Bool.{cases_lt, lt-ltb, le-ltb}
use Rattle.std.proofs.lemmas.List.{length-append}
use Rattle.std.specs.Prelude.{IsTrue}
use Rattle.vpf_base.specs.declared.orders.Order.{Order}
use Rattle.vpf_base.specs.declared.orders.Order.TheVariants.{Little, Big}
use Rattle.vpf_triplet.specs.declared.sizes.Size.{Size}
use Rattle.vpf_triplet.specs.declared.sizes.Size.TheVariants.{Absent, One, Two, Four}
use Rattle.vpf_triplet.specs.declared.triplets.Triplet.{Triplet}
use Rattle.vpf_triplet.specs.Canonical.{least, canonical, HasSmallParts}
use Rattle.vpf_triplet.specs.Reading.{is_small}
use Rattle.vpf_triplet.specs.Sizes.{size_bytes}
use Rattle.vpf_triplet.specs.Spelling.{HoldsPart, part, IsTriplet}
use Rattle.vpf_triplet.specs.Inner.SpelledLaws.{length-part}

least_some_by : (a b : Bool) → cond a One (cond b Two Four) ≡ Absent → ⊥
least_some_by true b e = cc
least_some_by false true e = cc
least_some_by false false e = cc

least_some : (n : ℕ) → least (Some n) ≡ Absent → ⊥
least_some n e = least_some_by (ltb n 256) (ltb n 65536) e

length-part_some : (o : Order) (s : Size) (n : ℕ) → (s ≡ Absent → ⊥) → length (part o s (Some n)) ≡ size_bytes s
length-part_some o Absent n h = absurd (h refl)
length-part_some o One n h = refl
length-part_some Little Two n h = refl
length-part_some Big Two n h = refl
length-part_some Little Four n h = refl
length-part_some Big Four n h = refl

length-part_least : (o : Order) (v : Option ℕ) → length (part o (least v) v) ≡ size_bytes (least v)
length-part_least o None = refl
length-part_least o (Some n) = length-part_some o (least (Some n)) n (least_some n)

pub length-canonical : (o : Order) (t : Triplet) → length (canonical o t) ≡ 1 + size_bytes (least t.id) + size_bytes (least t.tile) + size_bytes (least t.ext)
unfolding canonical
length-canonical o t =
    let x = part o (least t.id) t.id in
    let y = part o (least t.tile) t.tile in
    let z = part o (least t.ext) t.ext in
    omega (arith, length-append x (y ++ z), length-append y z, length-part_least o t.id, length-part_least o t.tile, length-part_least o t.ext)

pub bytes_few : (s : Size) → size_bytes s ≤ 4
bytes_few Absent = omega arith
bytes_few One = omega arith
bytes_few Two = omega arith
bytes_few Four = omega arith

holds_least : (v : Option ℕ) → IsTrue (is_small v) → HoldsPart (least v) v
holds_least None h = tt
holds_least (Some n) h =
    elim (cases_lt n 256) [
      | inl lt ↦ rw (lt-ltb _ _ lt) lt
      | inr le ↦ rw (le-ltb _ _ le) (elim (cases_lt n 65536) [ inl lt ↦ rw (lt-ltb _ _ lt) lt | inr le2 ↦ rw (le-ltb _ _ le2) (ltb-true _ _ h) ])
    ]

pub canonical_spelled : (o : Order) (t : Triplet) → HasSmallParts t → IsTriplet o t (canonical o t)
unfolding canonical
canonical_spelled o t h = record { id = least t.id; tile = least t.tile; ext = least t.ext; holds_id = holds_least t.id h.id; holds_tile = holds_least t.tile h.tile; holds_ext = holds_least t.ext h.ext; spelled = refl }

least_shortest : (s : Size) (v : Option ℕ) → HoldsPart s v → size_bytes (least v) ≤ size_bytes s
least_shortest Absent None h = omega arith
least_shortest Absent (Some n) h = absurd h
least_shortest One None h = absurd h
least_shortest One (Some n) h = rw (lt-ltb n 256 h) (omega arith)
least_shortest Two None h = absurd h
least_shortest Two (Some n) h = elim (cases_lt n 256) [ inl lt ↦ rw (lt-ltb _ _ lt) (omega arith) | inr le ↦ rw (le-ltb _ _ le, lt-ltb n 65536 h) (omega arith) ]
least_shortest Four None h = absurd h
least_shortest Four (Some n) h = bytes_few (least (Some n))

pub shortest : (o : Order) (t : Triplet) (bytes : List ℕ) → IsTriplet o t bytes → length (canonical o t) ≤ length bytes
shortest o t bytes s =
    let x = part o s.id t.id in
    let y = part o s.tile t.tile in
    let z = part o s.ext t.ext in
    rw s.spelled (omega (arith, length-canonical o t, length-append x (y ++ z), length-append y z, length-part o s.id t.id s.holds_id, length-part o s.tile t.tile s.holds_tile, length-part o s.ext t.ext s.holds_ext, least_shortest s.id t.id s.holds_id, least_shortest s.tile t.tile s.holds_tile, least_shortest s.ext t.ext s.holds_ext))
