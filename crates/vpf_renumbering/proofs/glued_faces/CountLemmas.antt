-- The numbers that are kept for each tile, and what is found by them.
use Rattle.std.proofs.Common.{◌≡◌, ◌≢◌, ℕ, zero, suc, ◌+◌, ◌-◌, ◌*◌, ◌^◌, ◌<◌, ◌≤◌, true, false, leb, refl, sym, ap, ◌∙◌, inl, inr, arith, Option, List, [], ◌++◌, length, length-append, map, get_or}
use Rattle.std.proofs.lemmas.Bool.{cases_lt, leb-true, le-leb}
use Rattle.std.proofs.lemmas.List.{length-map}
use Rattle.std.proofs.lemmas.List.Concat.{flat_map-append}
use Rattle.std.proofs.lemmas.List.FromFn.{get_or-map-range_with_len, length-map-range_with_len}
use Rattle.std.proofs.lemmas.List.Sorted.{IsPartitionedBy-leb}
use Rattle.std.specs.List.{range_with_len}
use Rattle.std.specs.List.Sorted.{IsPartitionPoint, IsPartitionedBy}
use Rattle.std.specs.Prelude.{flat_map}
use Rattle.vpf_base.specs.Limits.{most_rows}
use Rattle.vpf_prims.specs.Coverages.{CoverageTables, last_tile, tile_at}
use Rattle.vpf_prims.specs.Libraries.{library_of, primitives_in}
use Rattle.vpf_prims.specs.Numbering.{IsRowOf}
use Rattle.vpf_prims.specs.Primitives.{EntityPrimitive, Library, face_count, faces_in, tile_entities}
use Rattle.vpf_prims.specs.References.{id_of}
use Rattle.vpf_prims.specs.Tables.{TileTables}
use Rattle.vpf_wing.specs.Inner.DartLaws.{never_both, some-or-none}
use Rattle.vpf_wing.specs.Links.{Beyond}
use Rattle.vpf_follow.specs.Inner.TileLaws.{tile-below}
use Rattle.vpf_tiling_laws.specs.Gluing.Glued.{face_number}
use Rattle.vpf_tiling_laws.specs.Gluing.Whole.{WholeEntity, WholeFace, face_here, whole_entities, whole_faces, whole_of}
use Rattle.vpf_renumbering.specs.Inner.GluedFaces.Faces.{AreFaceCounts, faces_before, nowhere}
use Rattle.vpf_renumbering.proofs.glued_faces.NumberLemmas.{before_climbs, before_end, before_next, face_at_place, none_before, number_inside, number_is, own_many, range_split}

pub counts_long : (c : CoverageTables) (xs : List ℕ) → AreFaceCounts c xs → length xs ≡ last_tile c + 2
counts_long c xs a = ap (λ (ys : List ℕ). length ys) a.counted ∙ length-map-range_with_len (faces_before (library_of c)) 0 (last_tile c + 2)

pub count_at : (c : CoverageTables) (xs : List ℕ) → AreFaceCounts c xs → (t d : ℕ) → t ≤ last_tile c + 1 → get_or xs t d ≡ faces_before (library_of c) t
count_at c xs a t d h =
    ap (λ (ys : List ℕ). get_or ys t d) a.counted
    ∙ get_or-map-range_with_len (faces_before (library_of c)) 0 (last_tile c + 2) t t d (omega arith) (let z : 0 + t ≡ t = omega arith in z)

-- the last is of all faces
pub count_end : (c : CoverageTables) (xs : List ℕ) → AreFaceCounts c xs → (d : ℕ) → get_or xs (length xs - 1) d ≡ length (whole_of (library_of c)).faces
count_end c xs a d =
    let long : length xs ≡ last_tile c + 2 = counts_long c xs a in
    let end : length xs - 1 ≡ last_tile c + 1 = omega arith in
    ap (λ i. get_or xs i d) end ∙ count_at c xs a (last_tile c + 1) d (omega arith) ∙ sym (before_end (library_of c))

-- a tile with faces is one of the tiles
pub row_tile : (c : CoverageTables) (t f : ℕ) → IsRowOf (face_count (library_of c) t) f → t ≤ last_tile c
row_tile c t f r = elim (some-or-none (tile_at c t)) [
  | inl T ↦ tile-below c t T.0 T.1
  | inr none ↦ (
      let low : 1 ≤ f = r.0 in
      let high : f ≤ face_count (library_of c) t = r.1 in
      let empty : face_count (library_of c) t ≡ 0 = ap (λ (o : Option TileTables). length (faces_in (primitives_in o))) none in
      absurd (omega arith))
]

-- n is the number of a face
pub record IsFaceNumber (c : CoverageTables) (t f n : ℕ) : Type 0 where
  pub is : n ≡ face_number (whole_of (library_of c)) (face_here t f)
  pub row : IsRowOf (length (whole_of (library_of c)).faces + 1) n
  pub few : n < 2 ^ 25

pub number_at : (c : CoverageTables) (xs : List ℕ) → AreFaceCounts c xs → (t f x : ℕ) → IsRowOf (face_count (library_of c) t) f → f ≢ 1 → x ≡ get_or xs t x
    → IsFaceNumber c t f (x + f)
number_at c xs a t f x r other is =
    let L : Library = library_of c in
    let low : 1 ≤ f = r.0 in
    let high : f ≤ face_count (library_of c) t = r.1 in
    let two : 2 ≤ f = omega arith in
    let inside : t ≤ last_tile c = row_tile c t f r in
    let before : x ≡ faces_before (library_of c) t = is ∙ count_at c xs a t x (omega arith) in
    let within : faces_before (library_of c) t + f ≤ length (whole_of (library_of c)).faces + 1 = number_inside (library_of c) t f inside high two in
    let few : length (whole_of (library_of c)).faces ≤ 2 * most_rows = a.faces in
    record {
      is = ap (λ b. b + f) before ∙ sym (number_is (library_of c) t f inside two high);
      row = (omega arith, omega arith);
      few = omega arith;
    }

pub universe_number : (c : CoverageTables) (xs : List ℕ) → AreFaceCounts c xs → (t f : ℕ) → f ≡ 1 → IsFaceNumber c t f 1
universe_number c xs a t f e = record {
  is = ap (λ g. face_number (whole_of (library_of c)) (face_here t g)) (sym e);
  row = (omega arith, omega arith);
  few = omega arith;
}

-- ---- the face at a place

pub counts_climb : (c : CoverageTables) (xs : List ℕ) → AreFaceCounts c xs → (place : ℕ) → IsPartitionedBy (λ y. leb y place) xs
counts_climb c xs a place = IsPartitionedBy-leb (λ y. y) xs place (λ i j d le lt. (
    let long : length xs ≡ last_tile c + 2 = counts_long c xs a in
    let x : get_or xs i d ≡ faces_before (library_of c) i = count_at c xs a i d (omega arith) in
    let y : get_or xs j d ≡ faces_before (library_of c) j = count_at c xs a j d (omega arith) in
    let climb : faces_before (library_of c) i ≤ faces_before (library_of c) j = before_climbs (library_of c) i j le in
    omega arith))

-- where the counts pass a place, the face is in the tile before
pub record IsPoint (c : CoverageTables) (point : ℕ) : Type 0 where
  pub some : 1 ≤ point
  pub inside : point ≤ last_tile c + 1

above : (a b : ℕ) → leb a b ≡ false → b < a
above a b f = elim (cases_lt b a) [ inl lt ↦ lt | inr le ↦ absurd (never_both (leb a b) (le-leb a b le) f) ]

pub point_at : (c : CoverageTables) (xs : List ℕ) → AreFaceCounts c xs → (place point : ℕ) → place < length (whole_of (library_of c)).faces
    → IsPartitionPoint (λ y. leb y place ≡ true) (λ y. leb y place ≡ false) xs point → IsPoint c point
point_at c xs a place point lt h = record { some = some point h; inside = inside }
  where
    some : (i : ℕ) → IsPartitionPoint (λ y. leb y place ≡ true) (λ y. leb y place ≡ false) xs i → 1 ≤ i
    some zero q =
        let long : length xs ≡ last_tile c + 2 = counts_long c xs a in
        let first : get_or xs 0 0 ≡ faces_before (library_of c) 0 = count_at c xs a 0 0 (omega arith) in
        let none : faces_before (library_of c) 0 ≡ 0 = none_before (library_of c) in
        let past : place < get_or xs 0 0 = above (get_or xs 0 0) place (q.1 0 0 (omega arith) (omega arith)) in
        absurd (omega arith)
    some (suc i) q = omega arith

    inside : point ≤ last_tile c + 1
    inside = elim (cases_lt (last_tile c + 1) point) [
      | inr le ↦ le
      | inl more ↦ (
          let long : length xs ≡ last_tile c + 2 = counts_long c xs a in
          let last : get_or xs (last_tile c + 1) 0 ≡ faces_before (library_of c) (last_tile c + 1) = count_at c xs a (last_tile c + 1) 0 (omega arith) in
          let end : length (whole_of (library_of c)).faces ≡ faces_before (library_of c) (last_tile c + 1) = before_end (library_of c) in
          let below : get_or xs (last_tile c + 1) 0 ≤ place = leb-true (get_or xs (last_tile c + 1) 0) place (h.0 (last_tile c + 1) 0 (omega arith) (omega arith)) in
          absurd (omega arith))
    ]

-- a face at a place
pub record IsFaceAt (c : CoverageTables) (place t f : ℕ) : Type 0 where
  pub is : record { tile = t; id = f } ≡ get_or (map (λ (g : WholeFace). g.at) (whole_of (library_of c)).faces) place nowhere
  pub row : IsRowOf (face_count (library_of c) t) f
  pub other : 2 ≤ f

pub face_below : (c : CoverageTables) (xs : List ℕ) → AreFaceCounts c xs → (place point x : ℕ) → IsPoint c point
    → IsPartitionPoint (λ y. leb y place ≡ true) (λ y. leb y place ≡ false) xs point → x ≡ get_or xs (point - 1) x → x ≤ place
face_below c xs a place point x p h is =
    let some = p.some in
    let inside = p.inside in
    let long : length xs ≡ last_tile c + 2 = counts_long c xs a in
    let below : get_or xs (point - 1) x ≤ place = leb-true (get_or xs (point - 1) x) place (h.0 (point - 1) x (omega arith) (omega arith)) in
    omega arith

pub face_found : (c : CoverageTables) (xs : List ℕ) → AreFaceCounts c xs → (place point x : ℕ) → IsPoint c point
    → IsPartitionPoint (λ y. leb y place ≡ true) (λ y. leb y place ≡ false) xs point → x ≡ get_or xs (point - 1) x → IsFaceAt c place (point - 1) (place - x + 2)
face_found c xs a place point x p h is =
    let L : Library = library_of c in
    let t : ℕ = point - 1 in
    let some = p.some in
    let inside = p.inside in
    let long : length xs ≡ last_tile c + 2 = counts_long c xs a in
    let below : x ≤ place = face_below c xs a place point x p h is in
    let here : x ≡ faces_before (library_of c) (point - 1) = is ∙ count_at c xs a (point - 1) x (omega arith) in
    let past : place < get_or xs point 0 = above (get_or xs point 0) place (h.1 point 0 (omega arith) (omega arith)) in
    let next : get_or xs point 0 ≡ faces_before (library_of c) point = count_at c xs a point 0 (omega arith) in
    let same : faces_before (library_of c) point ≡ faces_before (library_of c) ((point - 1) + 1) = ap (faces_before (library_of c)) (let z : point ≡ (point - 1) + 1 = omega arith in z) in
    let more : faces_before (library_of c) ((point - 1) + 1) ≡ faces_before (library_of c) (point - 1) + length (whole_faces (library_of c) (point - 1)) = before_next (library_of c) (point - 1) in
    let j : ℕ = place - x in
    let lt : place - x < length (whole_faces (library_of c) (point - 1)) = omega arith in
    let own : length (whole_faces (library_of c) (point - 1)) ≡ face_count (library_of c) (point - 1) - 1 = own_many (library_of c) (point - 1) in
    let at : faces_before (library_of c) (point - 1) + (place - x) ≡ place = omega arith in
    record {
      is = ap (λ (i : ℕ). let b : Beyond = record { tile = point - 1; id = i } in b) (let z : place - x + 2 ≡ 2 + (place - x) = omega arith in z)
          ∙ sym (face_at_place (library_of c) (point - 1) (place - x) (omega arith) lt)
          ∙ ap (λ i. get_or (map (λ (g : WholeFace). g.at) (whole_of (library_of c)).faces) i nowhere) at;
      row = (omega arith, omega arith);
      other = omega arith;
    }

-- ---- entity nodes

pub entities_more : (L : Library) (t : ℕ)
    → length (flat_map (whole_entities L) (range_with_len 0 (t + 1))) ≡ length (flat_map (whole_entities L) (range_with_len 0 t)) + length (tile_entities L t)
entities_more L t =
    let own : length (whole_entities L t) ≡ length (tile_entities L t) =
    length-map (tile_entities L t) (λ (row : EntityPrimitive). let e : WholeEntity = record { face = face_here t (id_of row.containing_face); carried = row.carried } in e) in
    let last : flat_map (whole_entities L) (range_with_len (0 + t) 1) ≡ whole_entities L t ++ [] = ap (λ b. whole_entities L b ++ []) (let z : 0 + t ≡ t = omega arith in z) in
    let all : flat_map (whole_entities L) (range_with_len 0 (t + 1)) ≡ flat_map (whole_entities L) (range_with_len 0 t) ++ (whole_entities L t ++ []) =
    ap (flat_map (whole_entities L)) (range_split 0 t 1 (t + 1) refl) ∙ flat_map-append (whole_entities L) (range_with_len 0 t) (range_with_len (0 + t) 1)
    ∙ ap (λ v. flat_map (whole_entities L) (range_with_len 0 t) ++ v) last in
    ap length all ∙ length-append (flat_map (whole_entities L) (range_with_len 0 t)) (whole_entities L t ++ [])
    ∙ ap (λ n. length (flat_map (whole_entities L) (range_with_len 0 t)) + n)
    (length-append (whole_entities L t) [] ∙ (let z : length (whole_entities L t) + 0 ≡ length (whole_entities L t) = omega arith in z) ∙ own)
