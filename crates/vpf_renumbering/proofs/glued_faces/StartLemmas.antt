-- Where the rings of the faces of a tile start: each with a home dart of its face, and no two with one.
use Rattle.std.proofs.Common.{◌≡◌, ◌≢◌, ℕ, suc, ◌+◌, ◌<◌, ◌≤◌, Bool, true, false, cond, not, eqb, ◌&&◌, refl, sym, ap, ◌∙◌, subst, inl, inr, arith, Option, None, Some, List, [], ◌∷◌, ◌++◌, length, get_or}
use Rattle.std.proofs.lemmas.Bool.{cases_Bool, and_from, eq-eqb, eqb-true, ne_eqb}
use Rattle.std.proofs.lemmas.List.{length-map}
use Rattle.std.specs.List.{AllByRecursion, IsDistinct, list_any, range_with_len}
use Rattle.std.specs.Prelude.{filter, flat_map, is_some}
use Rattle.vpf_darts.specs.Darts.{code, edge_in, flip, sign_in, tile_in}
use Rattle.vpf_prims.specs.Lists.{first_from, first_item, kth}
use Rattle.vpf_prims.specs.Numbering.{IsFaceOf, IsNumbered, IsRowOf}
use Rattle.vpf_prims.specs.Primitives.{FacePrimitive, Library, Primitives, RingPrimitive, absent_face, absent_ring, face_count, faces_in, has_tables, is_there, ring_count, rings_in, tile_faces, tile_rings}
use Rattle.vpf_prims.specs.References.{id_of}
use Rattle.vpf_tiling.specs.Ranks.{numbered_from}
use Rattle.vpf_wing.specs.Inner.DartLaws.{code-parts, flip-edge, flip-has, flip-tile, sign-cases}
use Rattle.vpf_wing.specs.Links.{links_of}
use Rattle.vpf_wing.specs.WellFormed.{GoesRound, HasCycles, IsDartOf, StartsRing}
use Rattle.vpf_follow.specs.Following.{is_far_face, is_home}
use Rattle.vpf_tiling_laws.specs.Gluing.Whole.{WholeFace, rest_of, ring_start_dart, whole_face, whole_faces, whole_rings}
use Rattle.vpf_renumbering.proofs.glued_faces.DistinctLemmas.{IsNumberOf, StandsInOne, all_lists, distinct_kept, distinct_lists, flat_same, flat_twice, number_of, stands_in_one}

-- a library whose tiles are numbered and whose cycles hold
pub record HasTiles (L : Library) : Type 0 where
  pub numbered : (t : ℕ) → has_tables L t ≡ true → IsNumbered L t
  pub cycles : (t : ℕ) → has_tables L t ≡ true → HasCycles L t

-- ---- the start of a ring

rings_there : (o : Option Primitives) (j : ℕ) → j < length (rings_in o) → is_there o ≡ true
rings_there None j h = absurd (omega arith)
rings_there (Some c) j h = refl

faces_there : (o : Option Primitives) (j : ℕ) → j < length (rest_of (faces_in o)) → is_there o ≡ true
faces_there None j h = absurd (omega arith)
faces_there (Some c) j h = refl

abbrev ring_at : Library → ℕ → ℕ → RingPrimitive
ring_at L t j = get_or (tile_rings L t) j absent_ring

abbrev start_at : Library → (t f j : ℕ) → ℕ
start_at L t f j = ring_start_dart (links_of L) t (id_of (ring_at L t j).start_edge) f

minus-flips : (t e : ℕ) → flip (code t e 1) ≡ code t e 0
unfolding code flip
minus-flips t e = omega arith

start_plus : (L : Library) (t e f : ℕ) → ((links_of L).face (code t e 0)).id ≡ f → ring_start_dart (links_of L) t e f ≡ code t e 0
start_plus L t e f h = ap (λ b. cond b (code t e 0) (code t e 1)) (eq-eqb ((links_of L).face (code t e 0)).id f h)

start_minus : (L : Library) (t e f : ℕ) → eqb ((links_of L).face (code t e 0)).id f ≡ false → ring_start_dart (links_of L) t e f ≡ code t e 1
start_minus L t e f h = ap (λ b. cond b (code t e 0) (code t e 1)) h

-- ring j + 1 of a tile starts with a dart of the tile that has the ring's face
pub ring_starts : (L : Library) → HasTiles L → (t f j : ℕ) → j < ring_count L t → id_of (ring_at L t j).face ≡ f → StartsRing L t (suc j) (start_at L t f j)
ring_starts L h t f j lt face =
    let e : ℕ = id_of (ring_at L t j).start_edge in
    let there : has_tables L t ≡ true = rings_there (L.tile t) j lt in
    let q : (d : ℕ) × StartsRing L t (suc j) d = (h.cycles t there).ring_cycle (suc j) (omega arith, omega arith) in
    let d : ℕ = q.0 in
    let s : StartsRing L t (suc j) d = q.1 in
    let is : d ≡ code t e (sign_in d) = sym (code-parts d) ∙ ap (λ v. code v (edge_in d) (sign_in d)) s.dart.tile ∙ ap (λ v. code t v (sign_in d)) s.edge in
    elim (sign-cases d) [
      | inl plus ↦ (
          let at : d ≡ code t e 0 = is ∙ ap (code t e) plus in
          let start : start_at L t f j ≡ code t e 0 = start_plus L t e f (ap (λ v. ((links_of L).face v).id) (sym at) ∙ s.face ∙ face) in
          subst (StartsRing L t (suc j)) (at ∙ sym start) s)
      | inr minus ↦ (
          let at : d ≡ code t e 1 = is ∙ ap (code t e) minus in
          elim (cases_Bool (eqb ((links_of L).face (code t e 0)).id f)) [
            | inl same ↦ (
                let other : flip d ≡ code t e 0 = ap flip at ∙ minus-flips t e in
                let start : start_at L t f j ≡ code t e 0 = start_plus L t e f (eqb-true _ _ same) in
                subst (StartsRing L t (suc j)) (other ∙ sym start) (record {
                  row = s.row;
                  dart = record { has = flip-has L d s.dart.has; tile = flip-tile d ∙ s.dart.tile };
                  edge = flip-edge d ∙ s.edge;
                  face = ap (λ v. ((links_of L).face v).id) other ∙ eqb-true ((links_of L).face (code t e 0)).id f same ∙ sym face;
                }))
            | inr not_same ↦ subst (StartsRing L t (suc j)) (at ∙ sym (start_minus L t e f not_same)) s
          ])
    ]

-- no two rings start with one dart
starts_apart : (L : Library) → HasTiles L → (t f i j : ℕ) → i < j → j < ring_count L t → id_of (ring_at L t i).face ≡ f → id_of (ring_at L t j).face ≡ f
    → start_at L t f i ≡ start_at L t f j → ⊥
starts_apart L h t f i j lt below fi fj same =
    let a : StartsRing L t (suc i) (start_at L t f i) = ring_starts L h t f i (omega arith) fi in
    let b : StartsRing L t (suc j) (start_at L t f j) = ring_starts L h t f j below fj in
    let there : has_tables L t ≡ true = rings_there (L.tile t) j below in
    let round_a : GoesRound L t (suc i) (start_at L t f i) = record { start = start_at L t f i; starts = a; on = (0, refl) } in
    let round_b : GoesRound L t (suc j) (start_at L t f i) = record { start = start_at L t f j; starts = b; on = (0, same) } in
    let one : suc i ≡ suc j = (h.cycles t there).ring_once (suc i) (suc j) (start_at L t f i) a.dart round_a round_b in
    omega arith

-- ---- the rings of the faces of a tile

-- a dart of the tile that has this face of it
pub record IsStart (L : Library) (t f d : ℕ) : Type 0 where
  pub dart : IsDartOf (links_of L) t d
  pub face : ((links_of L).face d).id ≡ f

abbrev start_of : Library → (t f : ℕ) → RingPrimitive → ℕ
start_of L t f r = ring_start_dart (links_of L) t (id_of r.start_edge) f

abbrev is_of_face : ℕ → RingPrimitive → Bool
is_of_face f r = eqb (id_of r.face) f

pub starts_stand : (L : Library) → HasTiles L → (t f q : ℕ) → list_any (eqb q) (whole_rings L t f) ≡ true → IsStart L t f q
starts_stand L h t f q s =
    let n : IsNumberOf (start_of L t f) (is_of_face f) (tile_rings L t) absent_ring q = number_of (start_of L t f) (is_of_face f) (tile_rings L t) absent_ring q s in
    let face : id_of (ring_at L t n.place).face ≡ f = eqb-true _ _ n.passes in
    let r : StartsRing L t (suc n.place) (start_at L t f n.place) = ring_starts L h t f n.place n.inside face in
    subst (IsStart L t f) (sym n.is) (record { dart = r.dart; face = r.face ∙ face })

face_distinct : (L : Library) → HasTiles L → (t f : ℕ) → IsDistinct eqb (whole_rings L t f)
face_distinct L h t f =
    distinct_kept (start_of L t f) (is_of_face f) (tile_rings L t) absent_ring
    (λ i j lt below pi pj same. starts_apart L h t f i j lt below (eqb-true _ _ pi) (eqb-true _ _ pj) same)

-- the rings of the faces of a tile but the universe
abbrev pub tile_starts : Library → ℕ → List ℕ
tile_starts L t = flat_map (whole_rings L t) (range_with_len 2 (length (rest_of (tile_faces L t))))

tile_distinct : (L : Library) → HasTiles L → (t : ℕ) → IsDistinct eqb (tile_starts L t)
tile_distinct L h t =
    distinct_lists (whole_rings L t) (λ q. ((links_of L).face q).id) (face_distinct L h t) (λ f q s. (starts_stand L h t f q s).face) 2 (length (rest_of (tile_faces L t)))

-- what starts one of them is a home dart of the tile
pub record IsHomeStart (L : Library) (t q : ℕ) : Type 0 where
  pub home : is_home (links_of L) q ≡ true
  pub tile : tile_in q ≡ t

pub home_start : (L : Library) (t f q : ℕ) → f ≢ 1 → IsStart L t f q → IsHomeStart L t q
home_start L t f q ne s =
    let own : eqb ((links_of L).face q).id 1 ≡ false = ap (λ v. eqb v 1) s.face ∙ ne_eqb f 1 ne in
    record {
      home = and_from ((links_of L).has q) (not (is_far_face ((links_of L).face q))) s.dart.has (ap (λ b. not (b && is_some ((links_of L).face q).out)) own);
      tile = s.dart.tile;
    }

tile_homes : (L : Library) → HasTiles L → (t q : ℕ) → list_any (eqb q) (tile_starts L t) ≡ true → IsHomeStart L t q
tile_homes L h t q s =
    let r : StandsInOne (whole_rings L t) 2 (length (rest_of (tile_faces L t))) q = stands_in_one (whole_rings L t) 2 (length (rest_of (tile_faces L t))) q s in
    let low : 2 ≤ r.at = r.from in
    home_start L t r.at q (λ e. (let e' : r.at ≡ 1 = e in omega arith)) (starts_stand L h t r.at q r.stands)

-- ---- and of all tiles

pub all_distinct : (L : Library) → HasTiles L → (n : ℕ) → IsDistinct eqb (flat_map (tile_starts L) (range_with_len 0 n))
all_distinct L h n = distinct_lists (tile_starts L) tile_in (tile_distinct L h) (λ t q s. (tile_homes L h t q s).tile) 0 n

pub all_homes : (L : Library) → HasTiles L → (n q : ℕ) → list_any (eqb q) (flat_map (tile_starts L) (range_with_len 0 n)) ≡ true → is_home (links_of L) q ≡ true
all_homes L h n q s =
    let r : StandsInOne (tile_starts L) 0 n q = stands_in_one (tile_starts L) 0 n q s in
    (tile_homes L h r.at q r.stands).home

numbered_starts : (L : Library) (t a : ℕ) (rows : List FacePrimitive)
    → flat_map (λ f. f.rings) (numbered_from a (whole_face L t) rows) ≡ flat_map (whole_rings L t) (range_with_len a (length rows))
numbered_starts L t a [] = refl
numbered_starts L t a (row ∷ rows) =
    ap (λ v. whole_rings L t a ++ v) (numbered_starts L t (suc a) rows ∙ ap (λ b. flat_map (whole_rings L t) (range_with_len b (length rows))) (let e : suc a ≡ a + 1 = omega arith in e))

-- the rings of the faces of all tiles, in their order
pub starts_are : (L : Library) (ts : List ℕ) → flat_map (λ (f : WholeFace). f.rings) (flat_map (whole_faces L) ts) ≡ flat_map (tile_starts L) ts
starts_are L ts =
    flat_twice (λ (f : WholeFace). f.rings) (whole_faces L) ts
    ∙ flat_same (λ t. flat_map (λ (f : WholeFace). f.rings) (whole_faces L t)) (tile_starts L) (λ t. numbered_starts L t 2 (rest_of (tile_faces L t))) ts

-- ---- each face but the universe has a ring

some_kept : {X : Type 0} → (p : X → Bool) (k : ℕ) (xs : List X) → 1 ≤ first_from k p xs → 1 ≤ length (filter p xs)
some_kept p k [] h = absurd (omega arith)
some_kept p k (x ∷ xs) h = elim (cases_Bool (p x)) [
  | inl t ↦ rw t (omega arith)
  | inr f ↦ (let h' = rw f at h in rw f (some_kept p (suc k) xs h'))
]

face_has_ring : (L : Library) → HasTiles L → (t f : ℕ) → has_tables L t ≡ true → 2 ≤ f → f ≤ face_count L t → 1 ≤ length (whole_rings L t f)
face_has_ring L h t f there two le =
    let row : IsRowOf (face_count L t) f = (omega arith, le) in
    let face : IsFaceOf L t f (kth (tile_faces L t) f absent_face) = (h.numbered t there).faces f row in
    let other : eqb f 1 ≡ false = ne_eqb f 1 (λ e. (let e' : f ≡ 1 = e in omega arith)) in
    let low : 1 ≤ face.ring_ptr.id = subst (λ b. cond b 0 1 ≤ face.ring_ptr.id) other face.ring_ptr.from_low in
    let number : id_of (kth (tile_faces L t) f absent_face).ring_ptr ≡ face.ring_ptr.id = ap id_of face.ring_ptr.is in
    let first : id_of (kth (tile_faces L t) f absent_face).ring_ptr ≡ first_item (is_of_face f) (tile_rings L t) = (h.cycles t there).ring_ptr f row in
    let some : 1 ≤ first_item (is_of_face f) (tile_rings L t) = omega arith in
    let kept : 1 ≤ length (filter (is_of_face f) (tile_rings L t)) = some_kept (is_of_face f) 1 (tile_rings L t) some in
    let many : length (whole_rings L t f) ≡ length (filter (is_of_face f) (tile_rings L t)) = length-map (filter (is_of_face f) (tile_rings L t)) (start_of L t f) in
    omega arith

rest_length : {X : Type 0} → (xs : List X) (j : ℕ) → j < length (rest_of xs) → length xs ≡ suc (length (rest_of xs))
rest_length [] j h = absurd (omega arith)
rest_length (x ∷ xs) j h = refl

all_numbered : (L : Library) (t a : ℕ) (rows : List FacePrimitive) → ((f : ℕ) → a ≤ f → f < a + length rows → 1 ≤ length (whole_rings L t f))
    → AllByRecursion (λ (f : WholeFace). 1 ≤ length f.rings) (numbered_from a (whole_face L t) rows)
all_numbered L t a [] h = tt
all_numbered L t a (row ∷ rows) h = (h a (omega arith) (omega arith), all_numbered L t (suc a) rows (λ f low high. h f (omega arith) (omega arith)))

tile_rows : (L : Library) → HasTiles L → (t : ℕ) → AllByRecursion (λ (f : WholeFace). 1 ≤ length f.rings) (whole_faces L t)
tile_rows L h t = all_numbered L t 2 (rest_of (tile_faces L t)) (λ f low high.
    let n : ℕ = length (rest_of (tile_faces L t)) in
    let some : 0 < n = omega arith in
    let there : has_tables L t ≡ true = faces_there (L.tile t) 0 some in
    let many : length (tile_faces L t) ≡ suc n = rest_length (tile_faces L t) 0 some in
    face_has_ring L h t f there low (omega arith))

pub all_rows : (L : Library) → HasTiles L → (ts : List ℕ) → AllByRecursion (λ (f : WholeFace). 1 ≤ length f.rings) (flat_map (whole_faces L) ts)
all_rows L h ts = all_lists (λ (f : WholeFace). 1 ≤ length f.rings) (whole_faces L) (tile_rows L h) ts
