-- The rings of the faces of tiles, as they are made.
use Rattle.std.proofs.Common.{[], ◌≡◌, ℕ, zero, suc, ◌+◌, ◌-◌, ◌*◌, ◌^◌, ◌<◌, ◌≤◌, true, cond, eqb, refl, sym, ap, ◌∙◌, subst, inl, inr, arith, Option, None, Some, List, ◌∷◌, ◌++◌, append_assoc, append-nil, length, length-append, map, get_or, take}
use Rattle.std.proofs.lemmas.Bool.{cases_Bool, ne_eqb}
use Rattle.std.proofs.lemmas.List.{length-map}
use Rattle.std.proofs.lemmas.List.Concat.{flat_map-append}
use Rattle.std.specs.List.{range_with_len}
use Rattle.std.specs.Prelude.{filter, flat_map}
use Rattle.vpf_base.specs.Limits.{most_rows}
use Rattle.vpf_cutting.specs.Inner.Copies.Presence.{Presence, items_in}
use Rattle.vpf_darts.specs.declared.darts.TileDart.{TileDart}
use Rattle.vpf_darts.specs.Darts.{tile_dart_code}
use Rattle.vpf_prims.specs.Coverages.{CoverageTables, tile_at}
use Rattle.vpf_prims.specs.Libraries.{library_of, primitives_in}
use Rattle.vpf_prims.specs.Lists.{first_from, first_item, kth}
use Rattle.vpf_prims.specs.Numbering.{IsRowOf}
use Rattle.vpf_prims.specs.Primitives.{FacePrimitive, Library, RingPrimitive, absent_ring, face_count, faces_in, ring_count, rings_in as tile_rings_in, tile_faces, tile_rings}
use Rattle.vpf_prims.specs.Reading.{primitives_of}
use Rattle.vpf_prims.specs.References.{id_of}
use Rattle.vpf_prims.specs.Tables.{TileTables}
use Rattle.vpf_tiling.specs.Ranks.{numbered_from, up_to}
use Rattle.vpf_tiling.specs.Tiles.{Ring}
use Rattle.vpf_wing.specs.Links.{links_of}
use Rattle.vpf_wing.specs.WellFormed.{StartsRing}
use Rattle.vpf_follow.specs.Following.{is_home}
use Rattle.vpf_tiling_laws.specs.Gluing.Glued.{edge_number, face_number, glued_rings, plus_darts, rings_of_face, universe_rings}
use Rattle.vpf_tiling_laws.specs.Gluing.Whole.{Whole, WholeFace, face_here, rest_of, ring_start_dart, whole_face, whole_faces, whole_of, whole_rings}
use Rattle.vpf_tiling_laws.specs.Inner.Gluing.ListLaws.{map_twice}
use Rattle.vpf_cut_rings.specs.declared.rings.CutRing.{CutRing}
use Rattle.vpf_cut_rings.specs.Inner.Rings.{KeepsRings, first_rings_of, ring_of as cut_ring_of}
use Rattle.vpf_cut_rings.specs.Inner.PlaceLaws.{IsRingOfFace, kept_of_face, made_more}
use Rattle.vpf_renumbering.specs.declared.glued_faces.rings.GluedRing.{GluedRing}
use Rattle.vpf_renumbering.specs.Inner.GluedFaces.Faces.{HasFewFaces, IsJoined}
use Rattle.vpf_renumbering.specs.Inner.GluedFaces.Rings.{ring_said, rings_said, rings_glued, rings_of_tile}
use Rattle.vpf_renumbering.proofs.glued_faces.DistinctLemmas.{flat_twice}
use Rattle.vpf_renumbering.proofs.glued_faces.NumberLemmas.{range_split, rest_many}
use Rattle.vpf_renumbering.proofs.glued_faces.StartLemmas.{home_start, ring_starts}

-- ring k of a tile, of face f, with its numbers in the glued coverage
unfoldable pub ring_at : Library → (t f k : ℕ) → Ring
ring_at L t f k = record {
  face = face_number (whole_of L) (face_here t f);
  edge = edge_number (whole_of L) (ring_start_dart (links_of L) t (id_of (kth (tile_rings L t) k absent_ring).start_edge) f);
}

rings_there : (c : CoverageTables) (t : ℕ) (T : TileTables) → tile_at c t ≡ Some T → tile_rings (library_of c) t ≡ (primitives_of T.tables).rings
rings_there c t T e = ap (λ o. tile_rings_in (primitives_in o)) e

pub one_ring : (c : CoverageTables) (t f k number edge : ℕ) (T : TileTables) (start : TileDart) → tile_at c t ≡ Some T
    → number ≡ face_number (whole_of (library_of c)) (face_here t f) → tile_dart_code start ≡ ring_start_dart (links_of (library_of c)) t edge f
    → edge ≡ id_of (kth (primitives_of T.tables).rings k absent_ring).start_edge
    → ring_said (whole_of (library_of c)) (record { face = number; start = start }) ≡ ring_at (library_of c) t f k
unfolding ring_at
one_ring c t f k number edge T start there n s e =
    let made : ℕ → ℕ → Ring = λ (a : ℕ). λ (b : ℕ). record { face = a; edge = b } in
    let W : Whole = whole_of (library_of c) in
    ap (λ a. made a (edge_number W (tile_dart_code start))) n
    ∙ ap (λ d. made (face_number W (face_here t f)) (edge_number W d)) s
    ∙ ap (λ b. made (face_number W (face_here t f)) (edge_number W (ring_start_dart (links_of (library_of c)) t b f))) e
    ∙ ap (λ (rs : List RingPrimitive). made (face_number W (face_here t f)) (edge_number W (ring_start_dart (links_of (library_of c)) t (id_of (kth rs k absent_ring).start_edge) f)))
    (sym (rings_there c t T there))

row_home : (L : Library) → IsJoined L → (t f k : ℕ) → IsRowOf (ring_count L t) k → id_of (kth (tile_rings L t) k absent_ring).face ≡ f → 2 ≤ f
    → is_home (links_of L) (ring_start_dart (links_of L) t (id_of (kth (tile_rings L t) k absent_ring).start_edge) f) ≡ true
row_home L j t f zero r e two = let low : 1 ≤ 0 = r.0 in absurd (omega arith)
row_home L j t f (suc k) r e two =
    let high : suc k ≤ ring_count L t = r.1 in
    let s : StartsRing L t (suc k) (ring_start_dart (links_of L) t (id_of (get_or (tile_rings L t) k absent_ring).start_edge) f) =
    ring_starts L (record { numbered = j.numbered; cycles = j.cycles }) t f k (omega arith) e in
    (home_start L t f _ (λ one. (let one' : f ≡ 1 = one in omega arith)) (record { dart = s.dart; face = s.face ∙ e })).home

-- its start is a home dart
pub start_home : (c : CoverageTables) → IsJoined (library_of c) → (t f k edge : ℕ) (T : TileTables) (start : TileDart) → tile_at c t ≡ Some T
    → IsRingOfFace (primitives_of T.tables) f k → 2 ≤ f → tile_dart_code start ≡ ring_start_dart (links_of (library_of c)) t edge f
    → edge ≡ id_of (kth (primitives_of T.tables).rings k absent_ring).start_edge → is_home (links_of (library_of c)) (tile_dart_code start) ≡ true
start_home c j t f k edge T start there r two s e =
    let same : tile_rings (library_of c) t ≡ (primitives_of T.tables).rings = rings_there c t T there in
    ap (is_home (links_of (library_of c)))
    (s ∙ ap (λ b. ring_start_dart (links_of (library_of c)) t b f) (e ∙ ap (λ (rs : List RingPrimitive). id_of (kth rs k absent_ring).start_edge) (sym same)))
    ∙ row_home (library_of c) j t f k (subst (λ (rs : List RingPrimitive). IsRowOf (length rs) k) (sym same) r.row)
    (ap (λ (rs : List RingPrimitive). id_of (kth rs k absent_ring).face) same ∙ r.face) two

-- one more ring is made
pub more_made : (L : Library) (t f : ℕ) (ks : List ℕ) (i : ℕ) → i < length ks → (old before after : List GluedRing) (x : GluedRing) → after ≡ before ++ x ∷ []
    → ring_said (whole_of L) x ≡ ring_at L t f (get_or ks i 0) → rings_glued L before ≡ rings_glued L old ++ map (ring_at L t f) (take i ks)
    → rings_glued L after ≡ rings_glued L old ++ map (ring_at L t f) (take (i + 1) ks)
unfolding rings_glued
more_made L t f ks i h old before after x a e was = made_more (ring_at L t f) (ring_said (whole_of L)) ks i h (map (ring_said (whole_of L)) old) before after x a e was

-- the rings of a face are those that are kept for it
pub face_made : (c : CoverageTables) (t f : ℕ) (T : TileTables) → tile_at c t ≡ Some T → (rings : Presence) → KeepsRings (primitives_of T.tables) rings → 2 ≤ f
    → map (ring_at (library_of c) t f) (items_in rings f) ≡ rings_said (library_of c) t f
unfolding ring_at rings_said
face_made c t f T there rings k two =
    let L : Library = library_of c in
    let W : Whole = whole_of (library_of c) in
    let made : ℕ → Ring = λ (d : ℕ). record { face = face_number W (face_here t f); edge = edge_number W d } in
    let start : RingPrimitive → ℕ = λ (r : RingPrimitive). ring_start_dart (links_of L) t (id_of r.start_edge) f in
    let same : tile_rings (library_of c) t ≡ (primitives_of T.tables).rings = rings_there c t T there in
    ap (λ (rs : List RingPrimitive). map (λ k. made (start (kth rs k absent_ring))) (items_in rings f)) same
    ∙ sym (kept_of_face (primitives_of T.tables) rings k f (λ e. (let e' : f ≡ 0 = e in omega arith)) (λ r. made (start r)))
    ∙ ap (λ (rs : List RingPrimitive). map (λ r. made (start r)) (filter (λ r. eqb (id_of r.face) f) rs)) (sym same)
    ∙ sym (map_twice made start (filter (λ (r : RingPrimitive). eqb (id_of r.face) f) (tile_rings L t)))

-- ---- of a tile

pub no_rings_yet : (xs : List Ring) → xs ≡ xs ++ []
no_rings_yet xs = sym (append-nil xs)

pub faces_more : (L : Library) (t k : ℕ) (old before after : List Ring) → after ≡ before ++ rings_said L t (k + 2)
    → before ≡ old ++ flat_map (rings_said L t) (range_with_len 2 k) → after ≡ old ++ flat_map (rings_said L t) (range_with_len 2 (k + 1))
faces_more L t k old before after a was =
    let last : flat_map (rings_said L t) (range_with_len (2 + k) 1) ≡ rings_said L t (k + 2) =
    ap (λ f. rings_said L t f ++ []) (let z : 2 + k ≡ k + 2 = omega arith in z) ∙ append-nil (rings_said L t (k + 2)) in
    a ∙ ap (λ v. v ++ rings_said L t (k + 2)) was ∙ append_assoc old (flat_map (rings_said L t) (range_with_len 2 k)) (rings_said L t (k + 2))
    ∙ ap (λ v. old ++ v) (ap (λ v. flat_map (rings_said L t) (range_with_len 2 k) ++ v) (sym last)
    ∙ sym (ap (flat_map (rings_said L t)) (range_split 2 k 1 (k + 1) refl) ∙ flat_map-append (rings_said L t) (range_with_len 2 k) (range_with_len (2 + k) 1)))

one_face : (L : Library) (t a : ℕ) (row : FacePrimitive) → 2 ≤ a → rings_of_face (whole_of L) (whole_face L t a row) ≡ rings_said L t a
unfolding rings_said
one_face L t a row two =
    ap (λ b. map (λ d. let r : Ring = record { face = face_number (whole_of L) (cond b None (Some (record { tile = t; id = a }))); edge = edge_number (whole_of L) d } in r) (whole_rings L t a))
    (sym (ne_eqb a 1 (λ e. (let e' : a ≡ 1 = e in omega arith))))

numbered_faces : (L : Library) (t a : ℕ) (rows : List FacePrimitive) → 2 ≤ a
    → flat_map (rings_said L t) (range_with_len a (length rows)) ≡ flat_map (rings_of_face (whole_of L)) (numbered_from a (whole_face L t) rows)
numbered_faces L t a [] two = refl
numbered_faces L t a (row ∷ rows) two =
    ap (λ v. v ++ flat_map (rings_said L t) (range_with_len (a + 1) (length rows))) (sym (one_face L t a row two))
    ∙ ap (λ v. rings_of_face (whole_of L) (whole_face L t a row) ++ v)
    (ap (λ b. flat_map (rings_said L t) (range_with_len b (length rows))) (let z : a + 1 ≡ suc a = omega arith in z) ∙ numbered_faces L t (suc a) rows (omega arith))

pub tile_made : (L : Library) (t n : ℕ) → n ≡ face_count L t - 1 → flat_map (rings_said L t) (range_with_len 2 n) ≡ rings_of_tile L t
unfolding rings_of_tile
tile_made L t n e =
    ap (λ k. flat_map (rings_said L t) (range_with_len 2 k)) (e ∙ sym (rest_many (tile_faces L t))) ∙ numbered_faces L t 2 (rest_of (tile_faces L t)) (omega arith)

-- an empty tile has none
pub none_made : (c : CoverageTables) (t : ℕ) → None ≡ tile_at c t → (xs : List Ring) → xs ≡ xs ++ rings_of_tile (library_of c) t
none_made c t e xs =
    let none : face_count (library_of c) t ≡ 0 = ap (λ (o : Option TileTables). length (faces_in (primitives_in o))) (sym e) in
    no_rings_yet xs ∙ ap (λ v. xs ++ v) (tile_made (library_of c) t 0 (omega arith))

-- ---- of all tiles

pub tiles_more : (L : Library) (t : ℕ) (old before after : List Ring) → after ≡ before ++ rings_of_tile L t → before ≡ old ++ flat_map (rings_of_tile L) (range_with_len 0 t)
    → after ≡ old ++ flat_map (rings_of_tile L) (range_with_len 0 (t + 1))
tiles_more L t old before after a was =
    let last : flat_map (rings_of_tile L) (range_with_len (0 + t) 1) ≡ rings_of_tile L t =
    ap (λ s. rings_of_tile L s ++ []) (let z : 0 + t ≡ t = omega arith in z) ∙ append-nil (rings_of_tile L t) in
    a ∙ ap (λ v. v ++ rings_of_tile L t) was ∙ append_assoc old (flat_map (rings_of_tile L) (range_with_len 0 t)) (rings_of_tile L t)
    ∙ ap (λ v. old ++ v) (ap (λ v. flat_map (rings_of_tile L) (range_with_len 0 t) ++ v) (sym last)
    ∙ sym (ap (flat_map (rings_of_tile L)) (range_split 0 t 1 (t + 1) refl) ∙ flat_map-append (rings_of_tile L) (range_with_len 0 t) (range_with_len (0 + t) 1)))

pub all_made : (L : Library) (n : ℕ) → n ≡ L.last + 1 → universe_rings (whole_of L) ++ flat_map (rings_of_tile L) (range_with_len 0 n) ≡ glued_rings (whole_of L)
unfolding rings_of_tile
all_made L n e =
    ap (λ k. universe_rings (whole_of L) ++ flat_map (rings_of_tile L) (range_with_len 0 k)) (e ∙ (let z : L.last + 1 ≡ suc L.last = omega arith in z))
    ∙ ap (λ v. universe_rings (whole_of L) ++ v) (sym (flat_twice (rings_of_face (whole_of L)) (whole_faces L) (range_with_len 0 (suc L.last))))

pub made_map : (L : Library) (rings : List GluedRing) → rings_glued L rings ≡ map (ring_said (whole_of L)) rings
unfolding rings_glued
made_map L rings = refl

pub made_many : (L : Library) (rings : List GluedRing) → length (rings_glued L rings) ≡ length rings
unfolding rings_glued
made_many L rings = length-map rings (ring_said (whole_of L))

faces_rings_many : (w : Whole) (fs : List WholeFace) → length (flat_map (rings_of_face w) fs) ≡ length (flat_map (λ (f : WholeFace). f.rings) fs)
faces_rings_many w [] = refl
faces_rings_many w (f ∷ fs) =
    length-append (rings_of_face w f) (flat_map (rings_of_face w) fs)
    ∙ ap (λ n. n + length (flat_map (rings_of_face w) fs)) (length-map f.rings (λ d. let r : Ring = record { face = face_number w (Some f.at); edge = edge_number w d } in r))
    ∙ ap (λ n. length f.rings + n) (faces_rings_many w fs) ∙ sym (length-append f.rings (flat_map (λ (g : WholeFace). g.rings) fs))

pub glued_many : (w : Whole) → length (glued_rings w) ≡ length (universe_rings w) + length (flat_map (λ (f : WholeFace). f.rings) w.faces)
glued_many w = length-append (universe_rings w) (flat_map (rings_of_face w) w.faces) ∙ ap (λ n. length (universe_rings w) + n) (faces_rings_many w w.faces)

most : (all universe faces edges : ℕ) → all ≡ universe + faces → universe ≤ 2 * edges → faces ≤ 2 * edges → edges ≤ most_rows → all < 2 ^ 26
most all universe faces edges e u f h = omega arith

pub rings_few : (c : CoverageTables) → HasFewFaces (library_of c) → length (plus_darts (whole_of (library_of c))) ≤ most_rows → (universe all : List GluedRing)
    → length universe ≤ 2 * length (plus_darts (whole_of (library_of c))) → rings_glued (library_of c) universe ≡ universe_rings (whole_of (library_of c))
    → map (ring_said (whole_of (library_of c))) all ≡ glued_rings (whole_of (library_of c)) → length all < 2 ^ 26
rings_few c few edges universe all less own made =
    most (length all) (length universe) (length (flat_map (λ (f : WholeFace). f.rings) (whole_of (library_of c)).faces)) (length (plus_darts (whole_of (library_of c))))
    (sym (length-map all (ring_said (whole_of (library_of c)))) ∙ ap length made ∙ glued_many (whole_of (library_of c))
    ∙ ap (λ n. n + length (flat_map (λ (f : WholeFace). f.rings) (whole_of (library_of c)).faces)) (ap length (sym own) ∙ made_many (library_of c) universe))
    less few.rings edges

-- ---- the first of each face

abbrev cut_of : GluedRing → CutRing
cut_of r = record { face = r.face; edge = r.start.edge }

first_same : (w : Whole) (f j : ℕ) (rings : List GluedRing)
    → first_from j (λ (r : Ring). eqb r.face f) (map cut_ring_of (map cut_of rings)) ≡ first_from j (λ (r : Ring). eqb r.face f) (map (ring_said w) rings)
first_same w f j [] = refl
first_same w f j (x ∷ xs) = elim (cases_Bool (eqb x.face f)) [ inl t ↦ rw t refl | inr g ↦ rw g (first_same w f (suc j) xs) ]

map_same : {X Y : Type 0} → (g h : X → Y) → ((x : X) → g x ≡ h x) → (xs : List X) → map g xs ≡ map h xs
map_same g h e [] = refl
map_same g h e (x ∷ xs) = ap (λ y. y ∷ map g xs) (e x) ∙ ap (λ ys. h x ∷ ys) (map_same g h e xs)

pub firsts_same : (w : Whole) (n : ℕ) (rings : List GluedRing) → first_rings_of n (map cut_ring_of (map cut_of rings)) ≡ first_rings_of n (map (ring_said w) rings)
firsts_same w n rings =
    map_same (λ k. first_item (λ (r : Ring). eqb r.face k) (map cut_ring_of (map cut_of rings))) (λ k. first_item (λ (r : Ring). eqb r.face k) (map (ring_said w) rings))
    (λ k. first_same w k 1 rings) (up_to n)
