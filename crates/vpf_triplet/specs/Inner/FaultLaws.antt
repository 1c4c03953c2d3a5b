-- A triplet id is refused exactly for its first fault.
use Rattle.std.proofs.Common.{[], ◌≡◌, ℕ, suc, ◌+◌, ◌/◌, ◌%◌, ◌≤◌, Bool, true, false, cond, ltb, eqb, List, ◌∷◌, length, drop, Option, Ok, Err, refl, subst, arith}
use Rattle.std.specs.Prelude.{◌&&◌}
use Rattle.std.proofs.lemmas.Bool.{ltb-true, ltb-false, eqb-true, eqb-false}
use Rattle.vpf_base.proofs.ByteLists.{IsBytes-drop}
use Rattle.vpf_base.specs.Bytes.{IsBytes}
use Rattle.vpf_base.proofs.Results.{failed, err_is, no_ok}
use Rattle.vpf_base.specs.declared.orders.Order.{Order}
use Rattle.vpf_base.specs.declared.orders.Order.TheVariants.{Little, Big}
use Rattle.vpf_triplet.specs.declared.places.Code.{Code}
use Rattle.vpf_triplet.specs.declared.places.Code.TheVariants as codes
use Rattle.vpf_triplet.specs.declared.sizes.Size.{Size}
use Rattle.vpf_triplet.specs.declared.sizes.Size.TheVariants.{Absent, One, Two, Four}
use Rattle.vpf_triplet.specs.declared.triplets.Triplet.{Triplet}
use Rattle.vpf_triplet.specs.Faults as faults
use Rattle.vpf_triplet.specs.Faults.{IsLarge, parts_bytes, FirstTripletFault}
use Rattle.vpf_triplet.specs.Reading.{is_small, parts_at, triplet_at}
use Rattle.vpf_triplet.specs.Sizes.{size_of, size_bytes, part_of}
use Rattle.vpf_triplet.specs.Spelling.{type_byte}
use Rattle.vpf_triplet.specs.Inner.SpelledLaws.{type_parts}

large_part : (o : Order) (s : Size) (bytes : List ℕ) → IsBytes bytes → is_small (part_of o s bytes) ≡ false → IsLarge o s bytes
large_part o Absent bytes fits e = absurd cc
large_part o One bytes fits e = absurd (omega (arith, fits 0, ltb-false _ _ e))
large_part Little Two bytes fits e = absurd (omega (arith, fits 0, fits 1, ltb-false _ _ e))
large_part Big Two bytes fits e = absurd (omega (arith, fits 0, fits 1, ltb-false _ _ e))
large_part o Four bytes fits e = omega (arith, ltb-false _ _ e)

parts_fault : (o : Order) (a b c : Size) (rest : List ℕ) (code : Code) → IsBytes rest → parts_at o a b c rest ≡ Err code → FirstTripletFault o (type_byte a b c ∷ rest) code
unfolding parts_at
parts_fault o a b c rest code fits e = by (ltb (length rest) (parts_bytes a b c)) refl e
  where
    id : Option ℕ
    id = part_of o a rest

    tile : Option ℕ
    tile = part_of o b (drop (size_bytes a) rest)

    ext : Option ℕ
    ext = part_of o c (drop (size_bytes a + size_bytes b) rest)

    read : Triplet × ℕ
    read = (record { id = id; tile = tile; ext = ext }, 1 + parts_bytes a b c)

    large : parts_bytes a b c ≤ length rest → (x y z : Bool) → is_small id ≡ x → is_small tile ≡ y → is_small ext ≡ z → cond (x && y && z) (Ok read) (Err codes.Triplet) ≡ failed code → FirstTripletFault o (type_byte a b c ∷ rest) code
    large h false y z p q r f = subst (FirstTripletFault o (type_byte a b c ∷ rest)) (err_is f) (faults.large_id a b c rest h (large_part o a rest fits p))
    large h true false z p q r f = subst (FirstTripletFault o (type_byte a b c ∷ rest)) (err_is f) (faults.large_tile a b c rest h (large_part o b (drop (size_bytes a) rest) (IsBytes-drop _ _ fits) q))
    large h true true false p q r f = subst (FirstTripletFault o (type_byte a b c ∷ rest)) (err_is f) (faults.large_ext a b c rest h (large_part o c (drop (size_bytes a + size_bytes b) rest) (IsBytes-drop _ _ fits) r))
    large h true true true p q r f = absurd (no_ok read code f)

    by : (t : Bool) → ltb (length rest) (parts_bytes a b c) ≡ t → cond t (Err codes.CellCut) (cond (is_small id && is_small tile && is_small ext) (Ok read) (Err codes.Triplet)) ≡ failed code → FirstTripletFault o (type_byte a b c ∷ rest) code
    by true q f = subst (FirstTripletFault o (type_byte a b c ∷ rest)) (err_is f) (faults.cut a b c rest (ltb-true _ _ q))
    by false q f = large (ltb-false _ _ q) (is_small id) (is_small tile) (is_small ext) refl refl refl f

pub triplet_faults : (o : Order) (bytes : List ℕ) (code : Code) → IsBytes bytes → triplet_at o bytes ≡ Err code → FirstTripletFault o bytes code
unfolding triplet_at
triplet_faults o [] code fits e = subst (FirstTripletFault o []) (err_is e) faults.no_type
triplet_faults o (first ∷ rest) code fits e = by (eqb (first % 4) 0) refl e
  where
    by : (t : Bool) → eqb (first % 4) 0 ≡ t → cond t (parts_at o (size_of (first / 64)) (size_of (first / 16 % 4)) (size_of (first / 4 % 4)) rest) (Err codes.Triplet) ≡ failed code → FirstTripletFault o (first ∷ rest) code
    by true q f = subst (λ (x : ℕ). FirstTripletFault o (x ∷ rest) code) (type_parts first (fits 0) (eqb-true _ _ q)) (parts_fault o (size_of (first / 64)) (size_of (first / 16 % 4)) (size_of (first / 4 % 4)) rest code (λ i. fits (suc i)) f)
    by false q f = subst (FirstTripletFault o (first ∷ rest)) (err_is f) (faults.reserved first rest (eqb-false _ _ q))
