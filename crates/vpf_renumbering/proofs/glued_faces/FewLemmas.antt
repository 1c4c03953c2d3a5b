-- How many faces and rings there are next to the edges.
use Rattle.std.proofs.Common.{[], ◌≡◌, ℕ, zero, suc, ◌+◌, ◌*◌, ◌<◌, ◌≤◌, Bool, true, false, not, eqb, ◌||◌, refl, sym, ap, ◌∙◌, subst, inl, inr, arith, List, ◌∷◌, ◌++◌, length, length-append, map, get_or}
use Rattle.std.proofs.lemmas.Bool.{eq-eqb, eqb-true, or_left, or_right}
use Rattle.std.proofs.lemmas.List.{length-map}
use Rattle.std.proofs.lemmas.List.Filters.{length-filter_both}
use Rattle.std.proofs.lemmas.Map.Keys.{apart_from_distinct}
use Rattle.std.specs.List.{AllByRecursion, IsDistinct, list_any, range_with_len}
use Rattle.std.specs.Prelude.{filter, flat_map}
use Rattle.vpf_darts.specs.Darts.{sign_in}
use Rattle.vpf_prims.specs.Primitives.{Library}
use Rattle.vpf_tiling.specs.Inner.PresenceLaws.{stands_filter}
use Rattle.vpf_wing.specs.Inner.DartLaws.{darts-stand, never_both, sign-cases, stands_in}
use Rattle.vpf_wing.specs.Links.{DartLinks, links_of}
use Rattle.vpf_follow.specs.Inner.FollowLaws.{home_has}
use Rattle.vpf_follow.specs.Following.{is_home, library_map}
use Rattle.vpf_tiling_laws.specs.Gluing.Whole.{WholeFace, tiles_in, whole_of}
use Rattle.vpf_tiling_laws.specs.Gluing.Glued.{plus_darts}
use Rattle.vpf_renumbering.specs.Inner.GluedFaces.Faces.{HasFewFaces, IsJoined}
use Rattle.vpf_renumbering.proofs.glued_faces.DistinctLemmas.{IsNumberOf, distinct_kept, few_among, number_of}
use Rattle.vpf_renumbering.proofs.glued_faces.StartLemmas.{HasTiles, all_distinct, all_homes, all_rows, starts_are, tile_starts}
use Rattle.vpf_renumbering.proofs.glued_edges.PlusLemmas.{is_plus}

pub any_stands : (q : ℕ) (xs : List ℕ) → stands_in q xs ≡ list_any (eqb q) xs
any_stands q [] = refl
any_stands q (x ∷ xs) = ap (λ b. eqb q x || b) (any_stands q xs)

-- a home dart stands among the + darts, where it is one
plus_stands : (L : Library) (d : ℕ) → is_home (links_of L) d ≡ true → sign_in d ≡ 0 → list_any (eqb d) (plus_darts (whole_of L)) ≡ true
plus_stands L d home plus =
    let C : DartLinks = links_of L in
    let in_order : stands_in d (filter (is_home C) C.darts) ≡ true = stands_filter (is_home C) d C.darts home (darts-stand L d (home_has C d home)) in
    sym (any_stands d (plus_darts (whole_of L))) ∙ stands_filter (λ x. eqb (sign_in x) 0) d (filter (is_home C) C.darts) (eq-eqb (sign_in d) 0 plus) in_order

-- the other home dart of a - dart's edge is a + dart
turned_home : (L : Library) → IsJoined L → (d : ℕ) → is_home (links_of L) d ≡ true → is_home (links_of L) ((library_map (links_of L)).flip d) ≡ true
turned_home L j d home = j.is_map.flip_has d home

turned_sign : (L : Library) → IsJoined L → (d : ℕ) → is_home (links_of L) d ≡ true → eqb (sign_in d) 0 ≡ false → sign_in ((library_map (links_of L)).flip d) ≡ 0
turned_sign L j d home minus = elim (sign-cases ((library_map (links_of L)).flip d)) [
  | inl z ↦ z
  | inr o ↦ (elim (sign-cases d) [
    | inl z ↦ absurd (never_both (eqb (sign_in d) 0) (eq-eqb (sign_in d) 0 z) minus)
    | inr one ↦ absurd (j.signs d home (o ∙ sym one))
  ])
]

any_at : (xs : List ℕ) (i : ℕ) → i < length xs → list_any (eqb (get_or xs i 0)) xs ≡ true
any_at [] i h = absurd (omega arith)
any_at (x ∷ xs) zero h = or_left (eqb x x) (list_any (eqb x) xs) (eq-eqb x x refl)
any_at (x ∷ xs) (suc i) h = or_right (eqb (get_or xs i 0) x) (list_any (eqb (get_or xs i 0)) xs) (any_at xs i (omega arith))

-- home darts of which none stands twice are no more than twice the edges
pub few_homes : (L : Library) → IsJoined L → (xs : List ℕ) → IsDistinct eqb xs → ((q : ℕ) → list_any (eqb q) xs ≡ true → is_home (links_of L) q ≡ true)
    → length xs ≤ 2 * length (plus_darts (whole_of L))
few_homes L j xs distinct homes =
    let turn : ℕ → ℕ = (library_map (links_of L)).flip in
    let apart : (a b : ℕ) → a < b → b < length xs → get_or xs a 0 ≡ get_or xs b 0 → ⊥ = λ a b lt below same.
    never_both (eqb (get_or xs a 0) (get_or xs b 0)) (eq-eqb _ _ same) (apart_from_distinct eqb xs a b 0 distinct lt below) in
    let home : (a : ℕ) → a < length xs → is_home (links_of L) (get_or xs a 0) ≡ true = λ a below. homes (get_or xs a 0) (any_at xs a below) in
    let plus : length (map (λ d. d) (filter is_plus xs)) ≤ length (plus_darts (whole_of L)) =
    few_among (map (λ d. d) (filter is_plus xs)) (plus_darts (whole_of L)) (distinct_kept (λ d. d) is_plus xs 0 (λ a b lt below pa pb same. apart a b lt below same)) (λ q s.
    let n : IsNumberOf (λ d. d) is_plus xs 0 q = number_of (λ d. d) is_plus xs 0 q s in
    subst (λ v. list_any (eqb v) (plus_darts (whole_of L)) ≡ true) (sym n.is) (plus_stands L (get_or xs n.place 0) (home n.place n.inside) (eqb-true _ _ n.passes))) in
    let minus : length (map turn (filter (λ d. not (is_plus d)) xs)) ≤ length (plus_darts (whole_of L)) =
    few_among (map turn (filter (λ d. not (is_plus d)) xs)) (plus_darts (whole_of L))
    (distinct_kept turn (λ d. not (is_plus d)) xs 0 (λ a b lt below pa pb same. apart a b lt below
    (sym (j.is_map.flip_flip (get_or xs a 0) (home a (omega arith))) ∙ ap turn same ∙ j.is_map.flip_flip (get_or xs b 0) (home b below)))) (λ q s.
    let n : IsNumberOf turn (λ d. not (is_plus d)) xs 0 q = number_of turn (λ d. not (is_plus d)) xs 0 q s in
    let h : is_home (links_of L) (get_or xs n.place 0) ≡ true = home n.place n.inside in
    subst (λ v. list_any (eqb v) (plus_darts (whole_of L)) ≡ true) (sym n.is)
    (plus_stands L (turn (get_or xs n.place 0)) (turned_home L j (get_or xs n.place 0) h) (turned_sign L j (get_or xs n.place 0) h (not_true (is_plus (get_or xs n.place 0)) n.passes)))) in
    let both : length (filter is_plus xs) + length (filter (λ d. not (is_plus d)) xs) ≡ length xs = length-filter_both is_plus (λ d. not (is_plus d)) (λ d. refl) xs in
    let a : length (map (λ d. d) (filter is_plus xs)) ≡ length (filter is_plus xs) = length-map (filter is_plus xs) (λ d. d) in
    let b : length (map turn (filter (λ d. not (is_plus d)) xs)) ≡ length (filter (λ d. not (is_plus d)) xs) = length-map (filter (λ d. not (is_plus d)) xs) turn in
    omega arith
  where
    not_true : (b : Bool) → not b ≡ true → b ≡ false
    not_true true h = sym h
    not_true false h = refl

each_some : (fs : List WholeFace) → AllByRecursion (λ (f : WholeFace). 1 ≤ length f.rings) fs → length fs ≤ length (flat_map (λ (f : WholeFace). f.rings) fs)
each_some [] h = omega arith
each_some (f ∷ fs) h =
    let one : 1 ≤ length f.rings = h.0 in
    let rest : length fs ≤ length (flat_map (λ (g : WholeFace). g.rings) fs) = each_some fs h.1 in
    let both : length (f.rings ++ flat_map (λ (g : WholeFace). g.rings) fs) ≡ length f.rings + length (flat_map (λ (g : WholeFace). g.rings) fs) =
    length-append f.rings (flat_map (λ (g : WholeFace). g.rings) fs) in
    omega arith

pub few_faces : (L : Library) → IsJoined L → HasFewFaces L
few_faces L j =
    let h : HasTiles L = record { numbered = j.numbered; cycles = j.cycles } in
    let starts : flat_map (λ (f : WholeFace). f.rings) (whole_of L).faces ≡ flat_map (tile_starts L) (range_with_len 0 (suc L.last)) = starts_are L (tiles_in L) in
    let few : length (flat_map (tile_starts L) (range_with_len 0 (suc L.last))) ≤ 2 * length (plus_darts (whole_of L)) =
    few_homes L j (flat_map (tile_starts L) (range_with_len 0 (suc L.last))) (all_distinct L h (suc L.last)) (all_homes L h (suc L.last)) in
    let same : length (flat_map (λ (f : WholeFace). f.rings) (whole_of L).faces) ≡ length (flat_map (tile_starts L) (range_with_len 0 (suc L.last))) = ap length starts in
    record { faces = each_some (whole_of L).faces (all_rows L h (tiles_in L)); rings = omega arith }
