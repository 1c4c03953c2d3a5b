-- The number of a face, and the face of a number, by the faces that stand before its tile.
use Rattle.std.proofs.Common.{◌≡◌, ◌≢◌, ℕ, zero, suc, ◌+◌, ◌-◌, ◌<◌, ◌≤◌, Bool, true, false, cond, eqb, ◌||◌, refl, sym, ap, ◌∙◌, subst, inl, inr, arith, None, Some, List, [], ◌∷◌, ◌++◌, length, length-append, map, get_or}
use Rattle.std.proofs.lemmas.Bool.{cases_Bool, eq-eqb, ne_eqb, or_left, or_right}
use Rattle.std.proofs.lemmas.List.{get_or-map}
use Rattle.std.proofs.lemmas.List.Concat.{flat_map-append, get_or-flat_map}
use Rattle.std.proofs.lemmas.List.FromFn.{get_or-range_with_len, length-range_with_len}
use Rattle.std.specs.List.{list_any, range_with_len}
use Rattle.std.specs.Prelude.{flat_map, take}
use Rattle.vpf_prims.specs.Lists.{first_from, first_item}
use Rattle.vpf_prims.specs.Primitives.{FacePrimitive, Library, face_count, tile_faces}
use Rattle.vpf_tiling.specs.Ranks.{numbered_from}
use Rattle.vpf_wing.specs.Inner.DartLaws.{never_both}
use Rattle.vpf_wing.specs.Links.{Beyond}
use Rattle.vpf_follow.specs.Following.{same_beyond}
use Rattle.vpf_tiling_laws.specs.Gluing.Glued.{face_number}
use Rattle.vpf_tiling_laws.specs.Gluing.Whole.{WholeFace, face_here, rest_of, whole_face, whole_faces, whole_of}
use Rattle.vpf_renumbering.specs.Inner.GluedFaces.Faces.{faces_before, nowhere}
use Rattle.vpf_renumbering.proofs.glued_faces.DistinctLemmas.{no_test}

-- ---- numbers in a row

pub range_split : (a m n k : ℕ) → m + n ≡ k → range_with_len a k ≡ range_with_len a m ++ range_with_len (a + m) n
range_split a zero n k e =
    ap (range_with_len a) (let s : k ≡ n = omega arith in s) ∙ ap (λ b. range_with_len b n) (let s : a ≡ a + 0 = omega arith in s)
range_split a (suc m) n zero e = absurd (omega arith)
range_split a (suc m) n (suc k) e =
    ap (λ v. a ∷ v) (range_split (a + 1) m n k (omega arith) ∙ ap (λ b. range_with_len (a + 1) m ++ range_with_len b n) (let s : (a + 1) + m ≡ a + suc m = omega arith in s))

take_range : (a n k : ℕ) → k ≤ n → take k (range_with_len a n) ≡ range_with_len a k
take_range a n zero h = refl
take_range a zero (suc k) h = absurd (omega arith)
take_range a (suc n) (suc k) h = ap (λ v. a ∷ v) (take_range (a + 1) n k (omega arith))

-- ---- how many faces a tile has

pub rest_many : {X : Type 0} → (xs : List X) → length (rest_of xs) ≡ length xs - 1
rest_many [] = refl
rest_many (x ∷ xs) = omega arith

numbered_many : (L : Library) (t a : ℕ) (rows : List FacePrimitive) → length (numbered_from a (whole_face L t) rows) ≡ length rows
numbered_many L t a [] = refl
numbered_many L t a (row ∷ rows) = ap suc (numbered_many L t (suc a) rows)

pub own_many : (L : Library) (t : ℕ) → length (whole_faces L t) ≡ face_count L t - 1
own_many L t = numbered_many L t 2 (rest_of (tile_faces L t)) ∙ rest_many (tile_faces L t)

-- ---- how many stand before a tile

pub none_before : (L : Library) → faces_before L 0 ≡ 0
unfolding faces_before
none_before L = refl

pub before_next : (L : Library) (t : ℕ) → faces_before L (t + 1) ≡ faces_before L t + length (whole_faces L t)
unfolding faces_before
before_next L t =
    let own : flat_map (whole_faces L) (range_with_len (0 + t) 1) ≡ whole_faces L t ++ [] = ap (λ b. whole_faces L b ++ []) (let z : 0 + t ≡ t = omega arith in z) in
    let all : flat_map (whole_faces L) (range_with_len 0 (t + 1)) ≡ flat_map (whole_faces L) (range_with_len 0 t) ++ (whole_faces L t ++ []) =
    ap (flat_map (whole_faces L)) (range_split 0 t 1 (t + 1) refl) ∙ flat_map-append (whole_faces L) (range_with_len 0 t) (range_with_len (0 + t) 1)
    ∙ ap (λ v. flat_map (whole_faces L) (range_with_len 0 t) ++ v) own in
    ap length all ∙ length-append (flat_map (whole_faces L) (range_with_len 0 t)) (whole_faces L t ++ [])
    ∙ ap (λ n. length (flat_map (whole_faces L) (range_with_len 0 t)) + n) (length-append (whole_faces L t) [] ∙ (let z : length (whole_faces L t) + 0 ≡ length (whole_faces L t) = omega arith in z))

pub before_rises : (L : Library) (t n : ℕ) → faces_before L t ≤ faces_before L (t + n)
before_rises L t zero = let e : faces_before L t ≡ faces_before L (t + 0) = ap (faces_before L) (let z : t ≡ t + 0 = omega arith in z) in omega arith
before_rises L t (suc n) =
    let less : faces_before L t ≤ faces_before L (t + n) = before_rises L t n in
    let next : faces_before L (t + n + 1) ≡ faces_before L (t + n) + length (whole_faces L (t + n)) = before_next L (t + n) in
    let same : faces_before L (t + suc n) ≡ faces_before L (t + n + 1) = ap (faces_before L) (let z : t + suc n ≡ t + n + 1 = omega arith in z) in
    omega arith

pub before_climbs : (L : Library) (s t : ℕ) → s ≤ t → faces_before L s ≤ faces_before L t
before_climbs L s t h =
    let more : faces_before L s ≤ faces_before L (s + (t - s)) = before_rises L s (t - s) in
    let same : faces_before L (s + (t - s)) ≡ faces_before L t = ap (faces_before L) (let z : s + (t - s) ≡ t = omega arith in z) in
    omega arith

pub before_end : (L : Library) → length (whole_of L).faces ≡ faces_before L (L.last + 1)
unfolding faces_before
before_end L = ap (λ n. length (flat_map (whole_faces L) (range_with_len 0 n))) (let z : suc L.last ≡ L.last + 1 = omega arith in z)

-- ---- the number of a face

abbrev is_face_at : ℕ → ℕ → WholeFace → Bool
is_face_at t f g = same_beyond g.at (record { tile = t; id = f })

first_past : {X : Type 0} → (p : X → Bool) (k : ℕ) (xs ys : List X) → list_any p xs ≡ false → first_from k p (xs ++ ys) ≡ first_from (length xs + k) p ys
first_past p k [] ys h = ap (λ j. first_from j p ys) (let z : k ≡ 0 + k = omega arith in z)
first_past p k (x ∷ xs) ys h =
    let here : p x ≡ false = no_test (p x) (λ t. never_both (p x || list_any p xs) (or_left (p x) (list_any p xs) t) h) in
    let rest : list_any p xs ≡ false = no_test (list_any p xs) (λ t. never_both (p x || list_any p xs) (or_right (p x) (list_any p xs) t) h) in
    rw here (first_past p (suc k) xs ys rest ∙ ap (λ j. first_from j p ys) (let z : length xs + suc k ≡ suc (length xs) + k = omega arith in z))

first_there : (L : Library) (t f a j k : ℕ) (rows : List FacePrimitive) (rest : List WholeFace) → a + j ≡ f → j < length rows
    → first_from k (is_face_at t f) (numbered_from a (whole_face L t) rows ++ rest) ≡ k + j
first_there L t f a j k [] rest e h = absurd (omega arith)
first_there L t f a zero k (row ∷ rows) rest e h =
    let tile : eqb t t ≡ true = eq-eqb t t refl in
    let face : eqb a f ≡ true = eq-eqb a f (omega arith) in
    rw (tile, face) (let z : k ≡ k + 0 = omega arith in z)
first_there L t f a (suc j) k (row ∷ rows) rest e h =
    let tile : eqb t t ≡ true = eq-eqb t t refl in
    let face : eqb a f ≡ false = ne_eqb a f (λ same. omega arith) in
    rw (tile, face) (first_there L t f (suc a) j (suc k) rows rest (omega arith) (omega arith) ∙ (let z : suc k + j ≡ k + suc j = omega arith in z))

none_in_tile : (L : Library) (t f s : ℕ) → s ≢ t → (a : ℕ) (rows : List FacePrimitive) → list_any (is_face_at t f) (numbered_from a (whole_face L s) rows) ≡ false
none_in_tile L t f s ne a [] = refl
none_in_tile L t f s ne a (row ∷ rows) = rw (ne_eqb s t ne) (none_in_tile L t f s ne (suc a) rows)

any_joined : {X : Type 0} → (p : X → Bool) (xs ys : List X) → list_any p xs ≡ false → list_any p ys ≡ false → list_any p (xs ++ ys) ≡ false
any_joined p [] ys a b = b
any_joined p (x ∷ xs) ys a b = elim (cases_Bool (p x)) [
  | inl t ↦ absurd (never_both (p x || list_any p xs) (or_left (p x) (list_any p xs) t) a)
  | inr f ↦ (let a' = rw f at a in rw f (any_joined p xs ys a' b))
]

none_in_tiles : (L : Library) (t f a n : ℕ) → a + n ≤ t → list_any (is_face_at t f) (flat_map (whole_faces L) (range_with_len a n)) ≡ false
none_in_tiles L t f a zero h = refl
none_in_tiles L t f a (suc n) h =
    any_joined (is_face_at t f) (whole_faces L a) (flat_map (whole_faces L) (range_with_len (a + 1) n))
    (none_in_tile L t f a (λ e. (let e' : a ≡ t = e in omega arith)) 2 (rest_of (tile_faces L a))) (none_in_tiles L t f (a + 1) n (omega arith))

-- the faces are those of the tiles before one, its own, and those after it
faces_split : (L : Library) (t : ℕ) → t ≤ L.last
    → (whole_of L).faces ≡ flat_map (whole_faces L) (range_with_len 0 t) ++ (whole_faces L t ++ flat_map (whole_faces L) (range_with_len (t + 1) (L.last - t)))
faces_split L t h =
    ap (flat_map (whole_faces L)) (range_split 0 t (suc (L.last - t)) (suc L.last) (omega arith))
    ∙ flat_map-append (whole_faces L) (range_with_len 0 t) (range_with_len (0 + t) (suc (L.last - t)))
    ∙ ap (λ b. flat_map (whole_faces L) (range_with_len 0 t) ++ flat_map (whole_faces L) (range_with_len b (suc (L.last - t)))) (let z : 0 + t ≡ t = omega arith in z)

pub number_is : (L : Library) (t f : ℕ) → t ≤ L.last → 2 ≤ f → f ≤ face_count L t → face_number (whole_of L) (face_here t f) ≡ faces_before L t + f
unfolding faces_before
number_is L t f h two le =
    let front : List WholeFace = flat_map (whole_faces L) (range_with_len 0 t) in
    let back : List WholeFace = flat_map (whole_faces L) (range_with_len (t + 1) (L.last - t)) in
    let other : eqb f 1 ≡ false = ne_eqb f 1 (λ e. (let e' : f ≡ 1 = e in omega arith)) in
    let rows : length (rest_of (tile_faces L t)) ≡ face_count L t - 1 = rest_many (tile_faces L t) in
    let first : first_item (is_face_at t f) (whole_of L).faces ≡ (length front + 1) + (f - 2) =
    ap (first_item (is_face_at t f)) (faces_split L t h) ∙ first_past (is_face_at t f) 1 front (whole_faces L t ++ back) (none_in_tiles L t f 0 t (omega arith))
    ∙ first_there L t f 2 (f - 2) (length front + 1) (rest_of (tile_faces L t)) back (omega arith) (omega arith) in
    ap (λ b. face_number (whole_of L) (cond b None (Some (record { tile = t; id = f })))) other ∙ ap (λ n. 1 + n) first
    ∙ (let z : 1 + ((length front + 1) + (f - 2)) ≡ length front + f = omega arith in z)

pub number_of_universe : (L : Library) (t : ℕ) → face_number (whole_of L) (face_here t 1) ≡ 1
number_of_universe L t = refl

-- no number is past the end
pub number_inside : (L : Library) (t f : ℕ) → t ≤ L.last → f ≤ face_count L t → 2 ≤ f → faces_before L t + f ≤ length (whole_of L).faces + 1
number_inside L t f h le two =
    let next : faces_before L (t + 1) ≡ faces_before L t + length (whole_faces L t) = before_next L t in
    let own : length (whole_faces L t) ≡ face_count L t - 1 = own_many L t in
    let last : faces_before L (t + 1) ≤ faces_before L (L.last + 1) = before_climbs L (t + 1) (L.last + 1) (omega arith) in
    let end : length (whole_of L).faces ≡ faces_before L (L.last + 1) = before_end L in
    omega arith

-- ---- the face of a place

numbered_at : (L : Library) (t a j : ℕ) (rows : List FacePrimitive) (d : WholeFace) → j < length rows
    → (get_or (numbered_from a (whole_face L t) rows) j d).at ≡ record { tile = t; id = a + j }
numbered_at L t a j [] d h = absurd (omega arith)
numbered_at L t a zero (row ∷ rows) d h = ap (λ (i : ℕ). let b : Beyond = record { tile = t; id = i } in b) (let z : a ≡ a + 0 = omega arith in z)
numbered_at L t a (suc j) (row ∷ rows) d h =
    numbered_at L t (suc a) j rows d (omega arith) ∙ ap (λ (i : ℕ). let b : Beyond = record { tile = t; id = i } in b) (let z : suc a + j ≡ a + suc j = omega arith in z)

abbrev no_face : WholeFace
no_face = record { at = nowhere; carried = []; rings = [] }

-- the face at place j among those of a tile
pub face_at_place : (L : Library) (t j : ℕ) → t ≤ L.last → j < length (whole_faces L t)
    → get_or (map (λ (f : WholeFace). f.at) (whole_of L).faces) (faces_before L t + j) nowhere ≡ record { tile = t; id = 2 + j }
unfolding faces_before
face_at_place L t j h lt =
    let ts : List ℕ = range_with_len 0 (suc L.last) in
    let tile : get_or ts t 0 ≡ t = get_or-range_with_len 0 (suc L.last) t 0 (omega arith) ∙ (let z : 0 + t ≡ t = omega arith in z) in
    let front : take t ts ≡ range_with_len 0 t = take_range 0 (suc L.last) t (omega arith) in
    let inside : t < length ts = let many : length ts ≡ suc L.last = length-range_with_len 0 (suc L.last) in omega arith in
    let here : j < length (whole_faces L (get_or ts t 0)) = subst (λ s. j < length (whole_faces L s)) (sym tile) lt in
    let at : get_or (whole_of L).faces (length (flat_map (whole_faces L) (range_with_len 0 t)) + j) no_face ≡ get_or (whole_faces L t) j no_face =
    ap (λ xs. get_or (whole_of L).faces (length (flat_map (whole_faces L) xs) + j) no_face) (sym front) ∙ get_or-flat_map (whole_faces L) ts t j 0 no_face inside here
    ∙ ap (λ s. get_or (whole_faces L s) j no_face) tile in
    let place : faces_before L t + j < length (whole_of L).faces =
    (let next : faces_before L (t + 1) ≡ faces_before L t + length (whole_faces L t) = before_next L t in
    let last : faces_before L (t + 1) ≤ faces_before L (L.last + 1) = before_climbs L (t + 1) (L.last + 1) (omega arith) in
    let end : length (whole_of L).faces ≡ faces_before L (L.last + 1) = before_end L in
    omega arith) in
    let rows : j < length (rest_of (tile_faces L t)) = let same : length (whole_faces L t) ≡ length (rest_of (tile_faces L t)) = numbered_many L t 2 (rest_of (tile_faces L t)) in omega arith in
    get_or-map (λ (f : WholeFace). f.at) (whole_of L).faces (faces_before L t + j) no_face nowhere place ∙ ap (λ (f : WholeFace). f.at) at
    ∙ numbered_at L t 2 j (rest_of (tile_faces L t)) no_face rows
