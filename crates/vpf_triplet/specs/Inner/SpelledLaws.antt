-- What is read is spelled so, and what is spelled so is read.
use Rattle.std.proofs.Common.{[], ◌≡◌, ℕ, length, Option, Some, None, refl, zero, suc, ◌+◌, ◌*◌, ◌/◌, ◌%◌, ◌<◌, arith, ltb-true, take-add, ◌≤◌, true, false, ltb, eqb, List, ◌∷◌, ◌++◌, take, drop, Ok, sym, ap, subst, ◌∙◌, append_assoc}
use Rattle.vpf_base.specs.declared.orders.Order.{Order}
use Rattle.vpf_base.specs.declared.orders.Order.TheVariants.{Little, Big}
use Rattle.vpf_triplet.specs.declared.sizes.Size.{Size}
use Rattle.vpf_triplet.specs.declared.sizes.Size.TheVariants.{Absent, One, Two, Four}
use Rattle.vpf_triplet.specs.Sizes.{size_bytes, size_of, part_of}
use Rattle.vpf_triplet.specs.Spelling.{HoldsPart, part, bits_of, type_byte, spelling, IsTriplet}
use Rattle.std.proofs.lemmas.Bool.{lt-ltb, ltb-false, le-ltb, eqb-true, eq-eqb}
use Rattle.std.proofs.lemmas.List.{drop_at, length-append, length-drop}
use Rattle.std.proofs.lemmas.Nat.{le_bytes_2, be_bytes_2, le_bytes_4, be_bytes_4, from_le_bytes-to_le_bytes_2, from_be_bytes-to_be_bytes_2, from_le_bytes-to_le_bytes_4, from_be_bytes-to_be_bytes_4}
use Rattle.vpf_base.specs.Bytes.{IsBytes}
use Rattle.vpf_base.proofs.Booleans.{both}
use Rattle.vpf_base.proofs.Results.{ok_is, passed, guarded}
use Rattle.vpf_base.proofs.ByteLists.{IsBytes-drop, IsBytes-take}
use Rattle.vpf_triplet.specs.declared.triplets.Triplet.{Triplet}
use Rattle.vpf_triplet.specs.Reading.{is_small, parts_at, triplet_at}

pub length-part : (o : Order) (s : Size) (v : Option ℕ) → HoldsPart s v → length (part o s v) ≡ size_bytes s
length-part o Absent None h = refl
length-part o Absent (Some n) h = absurd h
length-part o One None h = absurd h
length-part o One (Some n) h = refl
length-part o Two None h = absurd h
length-part Little Two (Some n) h = refl
length-part Big Two (Some n) h = refl
length-part o Four None h = absurd h
length-part Little Four (Some n) h = refl
length-part Big Four (Some n) h = refl

field_back : (k : ℕ) → k < 4 → bits_of (size_of k) ≡ k
field_back zero h = refl
field_back (suc zero) h = refl
field_back (suc (suc zero)) h = refl
field_back (suc (suc (suc n))) h = omega arith

byte_parts : (first : ℕ) → first < 256 → first % 4 ≡ 0 → 64 * (first / 64) + 16 * (first / 16 % 4) + 4 * (first / 4 % 4) ≡ first
byte_parts first h e = omega arith

-- a byte whose reserved field is 0 is the type byte of these sizes
pub type_parts : (first : ℕ) → first < 256 → first % 4 ≡ 0 → type_byte (size_of (first / 64)) (size_of (first / 16 % 4)) (size_of (first / 4 % 4)) ≡ first
type_parts first h e = rw (field_back (first / 64) (omega (arith, h)), field_back (first / 16 % 4) (omega arith), field_back (first / 4 % 4) (omega arith)) (byte_parts first h e)

IsBytes-two : (x y : ℕ) (bytes : List ℕ) → IsBytes (x ∷ y ∷ bytes) → IsBytes (x ∷ y ∷ [])
IsBytes-two x y bytes h = IsBytes-take 2 (x ∷ y ∷ bytes) h

size_back : (s : Size) → size_of (bits_of s) ≡ s
size_back Absent = refl
size_back One = refl
size_back Two = refl
size_back Four = refl

field_small : (s : Size) → bits_of s < 4
field_small Absent = omega arith
field_small One = omega arith
field_small Two = omega arith
field_small Four = omega arith

high : (a b c : ℕ) → a < 4 → b < 4 → c < 4 → (64 * a + 16 * b + 4 * c) / 64 ≡ a
high a b c p q r = omega arith

middle : (a b c : ℕ) → a < 4 → b < 4 → c < 4 → (64 * a + 16 * b + 4 * c) / 16 % 4 ≡ b
middle a b c p q r = omega arith

low : (a b c : ℕ) → a < 4 → b < 4 → c < 4 → (64 * a + 16 * b + 4 * c) / 4 % 4 ≡ c
low a b c p q r = omega arith

reserved : (a b c : ℕ) → (64 * a + 16 * b + 4 * c) % 4 ≡ 0
reserved a b c = omega arith

part_again : (o : Order) (s : Size) (v : Option ℕ) (rest : List ℕ) → HoldsPart s v → part_of o s (part o s v ++ rest) ≡ v
part_again o Absent None rest h = refl
part_again o Absent (Some n) rest h = absurd h
part_again o One None rest h = absurd h
part_again o One (Some n) rest h = refl
part_again o Two None rest h = absurd h
part_again Little Two (Some n) rest h = ap (λ (k : ℕ). Some k) (from_le_bytes-to_le_bytes_2 n h)
part_again Big Two (Some n) rest h = ap (λ (k : ℕ). Some k) (from_be_bytes-to_be_bytes_2 n h)
part_again o Four None rest h = absurd h
part_again Little Four (Some n) rest h = ap (λ (k : ℕ). Some k) (from_le_bytes-to_le_bytes_4 n (omega arith))
part_again Big Four (Some n) rest h = ap (λ (k : ℕ). Some k) (from_be_bytes-to_be_bytes_4 n (omega arith))

pub small_again : (s : Size) (v : Option ℕ) → HoldsPart s v → is_small v ≡ true
small_again s None h = refl
small_again Absent (Some n) h = absurd h
small_again One (Some n) h = lt-ltb _ _ (omega arith)
small_again Two (Some n) h = lt-ltb _ _ (omega arith)
small_again Four (Some n) h = lt-ltb _ _ h

pub parts_again : (o : Order) (a b c : Size) (t : Triplet) (rest : List ℕ) → HoldsPart a t.id → HoldsPart b t.tile → HoldsPart c t.ext
    → parts_at o a b c ((part o a t.id ++ (part o b t.tile ++ part o c t.ext)) ++ rest) ≡ Ok (t, 1 + (size_bytes a + size_bytes b + size_bytes c))
unfolding parts_at
parts_again o a b c t rest p q r =
    let la = length-part o a t.id p in
    let lb = length-part o b t.tile q in
    let lc = length-part o c t.ext r in
    let x = part o a t.id in
    let y = part o b t.tile in
    let z = part o c t.ext in
    let regrouped : (x ++ (y ++ z)) ++ rest ≡ x ++ (y ++ (z ++ rest)) = simp append_assoc in
    let regrouped2 : x ++ (y ++ (z ++ rest)) ≡ (x ++ y) ++ (z ++ rest) = simp append_assoc in
    let lxy : length (x ++ y) ≡ size_bytes a + size_bytes b = length-append x y ∙ omega arith in
    let long : ltb (length (x ++ (y ++ (z ++ rest)))) (size_bytes a + size_bytes b + size_bytes c) ≡ false = le-ltb _ _ (omega (arith, length-append x (y ++ (z ++ rest)), length-append y (z ++ rest), length-append z rest)) in
    let third : drop (size_bytes a + size_bytes b) (x ++ (y ++ (z ++ rest))) ≡ z ++ rest = rw regrouped2 (drop_at (x ++ y) (z ++ rest) (size_bytes a + size_bytes b) lxy) in
    ap (parts_at o a b c) regrouped ∙ rw (long, part_again o a t.id (y ++ (z ++ rest)) p, drop_at x (y ++ (z ++ rest)) (size_bytes a) la, part_again o b t.tile (z ++ rest) q, third, part_again o c t.ext rest r, small_again a t.id p, small_again b t.tile q, small_again c t.ext r) refl

-- the sizes that a type byte says
pub type_back : (o : Order) (a b c : Size) (rest : List ℕ) → triplet_at o (type_byte a b c ∷ rest) ≡ parts_at o a b c rest
unfolding triplet_at
type_back o a b c rest =
    let ha = field_small a in
    let hb = field_small b in
    let hc = field_small c in
    let res : eqb (type_byte a b c % 4) 0 ≡ true = eq-eqb _ _ (reserved (bits_of a) (bits_of b) (bits_of c)) in
    let n1 : size_of (type_byte a b c / 64) ≡ a = ap size_of (high (bits_of a) (bits_of b) (bits_of c) ha hb hc) ∙ size_back a in
    let n2 : size_of (type_byte a b c / 16 % 4) ≡ b = ap size_of (middle (bits_of a) (bits_of b) (bits_of c) ha hb hc) ∙ size_back b in
    let n3 : size_of (type_byte a b c / 4 % 4) ≡ c = ap size_of (low (bits_of a) (bits_of b) (bits_of c) ha hb hc) ∙ size_back c in
    rw (res, n1, n2, n3) refl

pub triplet_again : (o : Order) (t : Triplet) (text rest : List ℕ) → IsTriplet o t text → triplet_at o (text ++ rest) ≡ Ok (t, length text)
triplet_again o t text rest s =
    let a = s.id in
    let b = s.tile in
    let c = s.ext in
    let body = part o a t.id ++ (part o b t.tile ++ part o c t.ext) in
    let len : length (spelling o a b c t) ≡ 1 + (size_bytes a + size_bytes b + size_bytes c) = omega (arith, length-append (part o a t.id) (part o b t.tile ++ part o c t.ext), length-append (part o b t.tile) (part o c t.ext), length-part o a t.id s.holds_id, length-part o b t.tile s.holds_tile, length-part o c t.ext s.holds_ext) in
    let read : triplet_at o (type_byte a b c ∷ (body ++ rest)) ≡ Ok (t, 1 + (size_bytes a + size_bytes b + size_bytes c)) = type_back o a b c (body ++ rest) ∙ parts_again o a b c t rest s.holds_id s.holds_tile s.holds_ext in
    let goal : triplet_at o (spelling o a b c t ++ rest) ≡ Ok (t, length (spelling o a b c t)) = rw len read in
    subst (λ (x : List ℕ). triplet_at o (x ++ rest) ≡ Ok (t, length x)) (sym s.spelled) goal

part_takes : (o : Order) (s : Size) (bytes : List ℕ) → IsBytes bytes → size_bytes s ≤ length bytes → is_small (part_of o s bytes) ≡ true
    → HoldsPart s (part_of o s bytes) × (part o s (part_of o s bytes) ≡ take (size_bytes s) bytes)
part_takes o Absent bytes fits h e = (tt, refl)
part_takes o One [] fits h e = absurd (omega arith)
part_takes o One (x ∷ bytes) fits h e = (omega (arith, fits 0), refl)
part_takes o Two [] fits h e = absurd (omega arith)
part_takes o Two (x ∷ []) fits h e = absurd (omega arith)
part_takes Little Two (x ∷ y ∷ bytes) fits h e = (omega (arith, fits 0, fits 1), le_bytes_2 (x ∷ y ∷ []) _ refl (λ i. IsBytes-two x y bytes fits i) refl)
part_takes Big Two (x ∷ y ∷ bytes) fits h e = (omega (arith, fits 0, fits 1), be_bytes_2 (x ∷ y ∷ []) _ refl (λ i. IsBytes-two x y bytes fits i) refl)
part_takes o Four [] fits h e = absurd (omega arith)
part_takes o Four (x ∷ []) fits h e = absurd (omega arith)
part_takes o Four (x ∷ y ∷ []) fits h e = absurd (omega arith)
part_takes o Four (x ∷ y ∷ z ∷ []) fits h e = absurd (omega arith)
part_takes Little Four (x ∷ y ∷ z ∷ w ∷ bytes) fits h e = (ltb-true _ _ e, le_bytes_4 (x ∷ y ∷ z ∷ w ∷ []) _ refl (IsBytes-take 4 (x ∷ y ∷ z ∷ w ∷ bytes) fits) refl)
part_takes Big Four (x ∷ y ∷ z ∷ w ∷ bytes) fits h e = (ltb-true _ _ e, be_bytes_4 (x ∷ y ∷ z ∷ w ∷ []) _ refl (IsBytes-take 4 (x ∷ y ∷ z ∷ w ∷ bytes) fits) refl)

parts_take : (o : Order) (a b c : Size) (rest : List ℕ) (t : Triplet) (n : ℕ) → IsBytes rest → parts_at o a b c rest ≡ Ok (t, n)
    → (n ≡ 1 + (size_bytes a + size_bytes b + size_bytes c)) × (size_bytes a + size_bytes b + size_bytes c ≤ length rest) × HoldsPart a t.id × HoldsPart b t.tile × HoldsPart c t.ext
    × (take (size_bytes a + size_bytes b + size_bytes c) rest ≡ part o a t.id ++ (part o b t.tile ++ part o c t.ext))
unfolding parts_at
parts_take o a b c rest t n fits e =
    let g = guarded _ _ _ _ e in
    let p = passed _ _ _ _ g.1 in
    let long : size_bytes a + size_bytes b + size_bytes c ≤ length rest = ltb-false _ _ g.0 in
    let rest2 = drop (size_bytes a) rest in
    let rest3 = drop (size_bytes a + size_bytes b) rest in
    let s1 = both _ _ p.0 in
    let s2 = both _ _ s1.0 in
    let t1 = part_takes o a rest fits (omega arith) s2.0 in
    let t2 = part_takes o b rest2 (IsBytes-drop _ _ fits) (omega (arith, length-drop (size_bytes a) rest)) s2.1 in
    let t3 = part_takes o c rest3 (IsBytes-drop _ _ fits) (omega (arith, length-drop (size_bytes a + size_bytes b) rest)) s1.1 in
    let got : Triplet = record { id = part_of o a rest; tile = part_of o b rest2; ext = part_of o c rest3 } in
    let is = ok_is {x = (got, 1 + (size_bytes a + size_bytes b + size_bytes c))} {y = (t, n)} p.1 in
    subst (λ (x : Triplet × ℕ). (x.1 ≡ 1 + (size_bytes a + size_bytes b + size_bytes c)) × (size_bytes a + size_bytes b + size_bytes c ≤ length rest) × HoldsPart a x.0.id × HoldsPart b x.0.tile × HoldsPart c x.0.ext
    × (take (size_bytes a + size_bytes b + size_bytes c) rest ≡ part o a x.0.id ++ (part o b x.0.tile ++ part o c x.0.ext))) is
    (refl, long, t1.0, t2.0, t3.0, rw (t1.1, t2.1, t3.1) (take-add (size_bytes a + size_bytes b) (size_bytes c) rest ∙ rw (take-add (size_bytes a) (size_bytes b) rest) (append_assoc (take (size_bytes a) rest) (take (size_bytes b) rest2) (take (size_bytes c) rest3))))

pub triplet_takes : (o : Order) (bytes : List ℕ) (t : Triplet) (n : ℕ) → IsBytes bytes → triplet_at o bytes ≡ Ok (t, n) → (n ≤ length bytes) × IsTriplet o t (take n bytes)
unfolding triplet_at
triplet_takes o [] t n fits e = absurd cc
triplet_takes o (first ∷ rest) t n fits e =
    let a = size_of (first / 64) in
    let b = size_of (first / 16 % 4) in
    let c = size_of (first / 4 % 4) in
    let p = passed _ _ _ _ e in
    let low2 : first % 4 ≡ 0 = eqb-true _ _ p.0 in
    let k = parts_take o a b c rest t n (λ i. fits (suc i)) p.1 in
    let first_is : type_byte a b c ≡ first = type_parts first (fits 0) low2 in
    let n_is : n ≡ suc (size_bytes a + size_bytes b + size_bytes c) = omega (arith, k.0) in (
      omega (arith, k.0, k.1),
      record {
        id = a;
        tile = b;
        ext = c;
        holds_id = k.2;
        holds_tile = k.3;
        holds_ext = k.4;
        spelled = rw (n_is, first_is) (ap (λ (x : List ℕ). first ∷ x) k.5);
      },
    )
