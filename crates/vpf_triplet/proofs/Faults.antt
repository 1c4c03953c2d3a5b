-- A triplet id is refused exactly for its first fault.
use Rattle.std.proofs.Common.{◌≡◌, ℕ, ◌+◌, ◌<◌, ◌≤◌, Bool, true, false, ltb, List, length, drop, Err, refl, ◌∙◌, arith}
use Rattle.std.specs.Prelude.{◌&&◌}
use Rattle.std.proofs.lemmas.Bool.{lt-ltb, le-ltb, ne_eqb}
use Rattle.vpf_base.specs.declared.orders.Order.{Order}
use Rattle.vpf_triplet.specs.declared.places.Code.{Code}
use Rattle.vpf_triplet.specs.declared.places.Code.TheVariants as codes
use Rattle.vpf_triplet.specs.declared.sizes.Size.{Size}
use Rattle.vpf_triplet.specs.declared.sizes.Size.TheVariants.{Absent, One, Two, Four}
use Rattle.vpf_triplet.specs.declared.triplets.Triplet.{Triplet}
use Rattle.vpf_triplet.specs.Faults as faults
use Rattle.vpf_triplet.specs.Faults.{IsLarge, parts_bytes, FirstTripletFault}
use Rattle.vpf_triplet.specs.Reading.{is_small, parts_at, triplet_at}
use Rattle.vpf_triplet.specs.Sizes.{size_bytes, part_of}
use Rattle.vpf_triplet.specs.Inner.SpelledLaws.{type_back}

-- ---- a part that is too large

not_small : (o : Order) (s : Size) (bytes : List ℕ) → IsLarge o s bytes → is_small (part_of o s bytes) ≡ false
not_small o Absent bytes h = absurd h
not_small o One bytes h = absurd h
not_small o Two bytes h = absurd h
not_small o Four bytes h = le-ltb _ _ (omega (arith, h))

-- ---- the other parts of a refusal

-- ---- a fault refuses

cut_parts : (o : Order) (a b c : Size) (rest : List ℕ) → length rest < parts_bytes a b c → parts_at o a b c rest ≡ Err codes.CellCut
unfolding parts_at
cut_parts o a b c rest h = rw (lt-ltb _ _ h) refl

second_fails : (x y z : Bool) → y ≡ false → (x && y && z) ≡ false
second_fails true y z e = rw e refl
second_fails false y z e = refl

third_fails : (x y z : Bool) → z ≡ false → (x && y && z) ≡ false
third_fails true true z e = e
third_fails true false z e = refl
third_fails false y z e = refl

large_parts : (o : Order) (a b c : Size) (rest : List ℕ) → parts_bytes a b c ≤ length rest → (is_small (part_of o a rest) && is_small (part_of o b (drop (size_bytes a) rest)) && is_small (part_of o c (drop (size_bytes a + size_bytes b) rest))) ≡ false → parts_at o a b c rest ≡ Err codes.Triplet
unfolding parts_at
large_parts o a b c rest h e = rw (le-ltb _ _ h, e) refl

pub triplet_refused : (o : Order) (bytes : List ℕ) (code : Code) → FirstTripletFault o bytes code → triplet_at o bytes ≡ Err code
unfolding triplet_at
triplet_refused o bytes code faults.no_type = refl
triplet_refused o bytes code (faults.reserved first rest h) = rw (ne_eqb _ _ h) refl
triplet_refused o bytes code (faults.cut a b c rest h) = type_back o a b c rest ∙ cut_parts o a b c rest h
triplet_refused o bytes code (faults.large_id a b c rest h l) = type_back o a b c rest ∙ large_parts o a b c rest h (rw (not_small o a rest l) refl)
triplet_refused o bytes code (faults.large_tile a b c rest h l) = type_back o a b c rest ∙ large_parts o a b c rest h (second_fails (is_small (part_of o a rest)) _ _ (not_small o b (drop (size_bytes a) rest) l))
triplet_refused o bytes code (faults.large_ext a b c rest h l) = type_back o a b c rest ∙ large_parts o a b c rest h (third_fails (is_small (part_of o a rest)) (is_small (part_of o b (drop (size_bytes a) rest))) _ (not_small o c (drop (size_bytes a + size_bytes b) rest) l))
