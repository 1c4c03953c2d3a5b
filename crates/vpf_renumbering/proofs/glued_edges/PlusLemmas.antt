-- The edges of a library by their + darts, and how many darts it has for them.
use Rattle.std.proofs.Common.{[], ◌≡◌, ◌≢◌, ℕ, ◌+◌, ◌*◌, ◌^◌, ◌<◌, ◌≤◌, Bool, true, false, not, cond, eqb, refl, sym, ap, ◌∙◌, subst, inl, inr, arith, List, ◌∷◌, ◌++◌, length, get_or, map, take, append-nil}
use Rattle.std.specs.Prelude.{All, filter}
use Rattle.std.specs.List.Sorted.{IsStrictlyIncreasing}
use Rattle.std.proofs.lemmas.Bool.{cases_Bool, eq-eqb, eqb-true, or_cases, or_left, or_right}
use Rattle.std.proofs.lemmas.List.{get_or-map, length-map, map-append, take_more}
use Rattle.std.proofs.lemmas.List.Elements.{filter-append}
use Rattle.std.proofs.lemmas.List.Filters.{length-filter_both}
use Rattle.std.proofs.lemmas.List.Kept.{IsStrictlyIncreasing-filter}
use Rattle.vpf_darts.specs.declared.darts.TileDart.{TileDart}
use Rattle.vpf_darts.specs.Darts.{sign_in, sign_of, tile_dart_code}
use Rattle.vpf_darts.specs.Maps.{DartMap, IsMap, turn}
use Rattle.vpf_prims.specs.Numbering.{IsRowOf}
use Rattle.vpf_prims.specs.Primitives.{Library}
use Rattle.vpf_wing.specs.Links.{links_of}
use Rattle.vpf_wing.specs.Inner.DartLaws.{code-sign, never_both, sign-cases, sign-small, stands_in}
use Rattle.vpf_tiling.specs.Inner.PresenceLaws.{stands_filter}
use Rattle.vpf_tiling.specs.Ranks.{is_least}
use Rattle.vpf_tiling_laws.specs.Inner.Tiled.WalkLaws.{Distinct, distinct_few}
use Rattle.vpf_cut_rings.specs.Inner.OrderLaws.{RisesStrictly as Rises, kept_stands, rises_of, each_of_all as all_at}
use Rattle.vpf_follow.specs.Following.{is_home, library_map}
use Rattle.vpf_wing.specs.Inner.Kept.Kept.{AreInOrder, place_among}
use Rattle.vpf_wing.specs.Inner.Kept.PlaceLaws.{at_place, stands_at}
use Rattle.vpf_tiling_laws.specs.Gluing.Whole.{whole_of}
use Rattle.vpf_tiling_laws.specs.Gluing.Glued.{first_darts, listed_at, plus_darts}
use Rattle.vpf_renumbering.specs.Inner.Whole.Gathering.{AreHomeDarts}
use Rattle.vpf_renumbering.proofs.glued_edges.TurnLemmas.{listed_place}

-- a dart is a + dart
abbrev pub is_plus : ℕ → Bool
is_plus d = eqb (sign_in d) 0

-- ---- + darts as they are put

pub sign_is : (d : TileDart) (m : Bool) → d.minus ≡ m → sign_in (tile_dart_code d) ≡ sign_of m
sign_is d m e = code-sign d.tile d.edge (sign_of d.minus) (sign-small d.minus) ∙ ap sign_of e

plus_more : (darts : List TileDart) (k : ℕ) (none d : TileDart) → k < length darts → get_or darts k none ≡ d
    → filter is_plus (map tile_dart_code (take (k + 1) darts)) ≡ filter is_plus (map tile_dart_code (take k darts)) ++ filter is_plus (tile_dart_code d ∷ [])
plus_more darts k none d h at =
    ap (λ ds. filter is_plus (map tile_dart_code ds)) (take_more darts k none h ∙ ap (λ v. take k darts ++ v ∷ []) at)
    ∙ ap (filter is_plus) (map-append tile_dart_code (take k darts) (d ∷ []))
    ∙ filter-append is_plus (map tile_dart_code (take k darts)) (tile_dart_code d ∷ [])

pub plus_put : (darts edges : List TileDart) (k : ℕ) (none d : TileDart) → k < length darts → get_or darts k none ≡ d → d.minus ≡ false
    → map tile_dart_code edges ≡ filter is_plus (map tile_dart_code (take k darts))
    → map tile_dart_code (edges ++ d ∷ []) ≡ filter is_plus (map tile_dart_code (take (k + 1) darts))
plus_put darts edges k none d h at plus was =
    map-append tile_dart_code edges (d ∷ []) ∙ ap (λ v. v ++ tile_dart_code d ∷ []) was
    ∙ sym (plus_more darts k none d h at ∙ ap (λ b. filter is_plus (map tile_dart_code (take k darts)) ++ cond b (tile_dart_code d ∷ []) [])
    (ap (λ s. eqb s 0) (sign_is d false plus)))

pub plus_left : (darts edges : List TileDart) (k : ℕ) (none d : TileDart) → k < length darts → get_or darts k none ≡ d → d.minus ≡ true
    → map tile_dart_code edges ≡ filter is_plus (map tile_dart_code (take k darts))
    → map tile_dart_code edges ≡ filter is_plus (map tile_dart_code (take (k + 1) darts))
plus_left darts edges k none d h at minus was =
    was ∙ sym (plus_more darts k none d h at ∙ ap (λ b. filter is_plus (map tile_dart_code (take k darts)) ++ cond b (tile_dart_code d ∷ []) [])
    (ap (λ s. eqb s 0) (sign_is d true minus)) ∙ append-nil (filter is_plus (map tile_dart_code (take k darts))))

pub plus_in_order : (darts edges : List TileDart) → AreInOrder darts → All (λ d. d.edge < 2 ^ 32) edges
    → map tile_dart_code edges ≡ filter is_plus (map tile_dart_code darts) → AreInOrder edges
plus_in_order darts edges order small is =
    record { small = small; rise = subst IsStrictlyIncreasing (sym is) (IsStrictlyIncreasing-filter is_plus (map tile_dart_code darts) order.rise) }

-- ---- the + dart of an edge

-- what is so of the map of a library
pub record IsPaired (L : Library) : Type 0 where
  pub is_map : IsMap (library_map (links_of L))
  pub signs : (d : ℕ) → is_home (links_of L) d ≡ true → sign_in ((library_map (links_of L)).flip d) ≢ sign_in d
  pub each : (d : ℕ) → stands_in d (whole_of L).order ≡ is_home (links_of L) d

pub order_home : (L : Library) (darts : List TileDart) → AreHomeDarts L darts → (d : ℕ) → stands_in d (whole_of L).order ≡ is_home (links_of L) d
order_home L darts h d = ap (stands_in d) (sym h.numbers) ∙ h.each d

pub paired : (L : Library) (darts : List TileDart) → AreHomeDarts L darts → IsMap (library_map (links_of L))
    → ((d : ℕ) → is_home (links_of L) d ≡ true → sign_in ((library_map (links_of L)).flip d) ≢ sign_in d) → IsPaired L
paired L darts h is_map signs = record { is_map = is_map; signs = signs; each = order_home L darts h }

plus_stands : (L : Library) → IsPaired L → (d : ℕ) → is_home (links_of L) d ≡ true → sign_in d ≡ 0 → stands_in d (plus_darts (whole_of L)) ≡ true
plus_stands L p d home s = stands_filter is_plus d (whole_of L).order (eq-eqb (sign_in d) 0 s) (p.each d ∙ home)

flip_sign : (L : Library) → IsPaired L → (d : ℕ) → is_home (links_of L) d ≡ true → sign_in d ≡ 1 → sign_in ((library_map (links_of L)).flip d) ≡ 0
flip_sign L p d home s = elim (sign-cases ((library_map (links_of L)).flip d)) [ inl z ↦ z | inr o ↦ absurd (p.signs d home (o ∙ sym s)) ]

-- the + dart of a dart's edge is one of those
abbrev pub plus_of : Library → ℕ → ℕ
plus_of L d = cond (eqb (sign_in d) 0) d ((library_map (links_of L)).flip d)

pub plus_there : (L : Library) → IsPaired L → (d : ℕ) → is_home (links_of L) d ≡ true → stands_in (plus_of L d) (plus_darts (whole_of L)) ≡ true
plus_there L p d home = elim (sign-cases d) [
  | inl z ↦
      ap (λ b. stands_in (cond b d ((library_map (links_of L)).flip d)) (plus_darts (whole_of L))) (eq-eqb (sign_in d) 0 z) ∙ plus_stands L p d home z
  | inr o ↦
      ap (λ b. stands_in (cond b d ((library_map (links_of L)).flip d)) (plus_darts (whole_of L))) (ap (λ s. eqb s 0) o)
      ∙ plus_stands L p ((library_map (links_of L)).flip d) (p.is_map.flip_has d home) (flip_sign L p d home o)
]

-- the place of what stands in a list is a row of it
pub listed_row : (x : ℕ) (xs : List ℕ) → stands_in x xs ≡ true → IsRowOf (length xs) (listed_at x xs)
listed_row x xs s = (
    let e : listed_at x xs ≡ place_among xs x + 1 = listed_place x xs s in
    let below = (at_place xs x s).0 in
    (omega arith, omega arith))

-- ---- home darts of edges and nodes

pub plus_home : (L : Library) (darts : List TileDart) → AreHomeDarts L darts → (d : ℕ) → stands_in d (plus_darts (whole_of L)) ≡ true → is_home (links_of L) d ≡ true
plus_home L darts h d s = sym (order_home L darts h d) ∙ (kept_stands is_plus d (whole_of L).order s).1

pub first_home : (L : Library) (darts : List TileDart) → AreHomeDarts L darts → (d : ℕ) → stands_in d (first_darts (whole_of L)) ≡ true → is_home (links_of L) d ≡ true
first_home L darts h d s =
    sym (order_home L darts h d) ∙ (kept_stands (is_least (turn (whole_of L).darts) (length (whole_of L).order)) d (whole_of L).order s).1

pub all_home : (L : Library) (darts : List TileDart) (xs : List ℕ) → map tile_dart_code darts ≡ xs
    → ((d : ℕ) → stands_in d xs ≡ true → is_home (links_of L) d ≡ true) → All (λ d. is_home (links_of L) (tile_dart_code d) ≡ true) darts
all_home L darts xs is h i d lt =
    let many : length (map tile_dart_code darts) ≡ length darts = length-map darts tile_dart_code in
    let at : get_or (map tile_dart_code darts) i 0 ≡ tile_dart_code (get_or darts i d) = get_or-map tile_dart_code darts i d 0 lt in
    h (tile_dart_code (get_or darts i d))
    (subst (λ v. stands_in v xs ≡ true) at (subst (λ ys. stands_in (get_or (map tile_dart_code darts) i 0) ys ≡ true) is
    (stands_at (map tile_dart_code darts) i (omega arith))))

-- ---- there are no more than two darts an edge

distinct_rising : (xs : List ℕ) → Rises xs → Distinct xs
distinct_rising [] r = tt
distinct_rising (x ∷ xs) r = (fresh, distinct_rising xs r.1)
  where
    fresh : stands_in x xs ≡ false
    fresh = elim (cases_Bool (stands_in x xs)) [ inr f ↦ f | inl t ↦ (let over : x < x = all_at (λ y. x < y) x xs r.0 t in absurd (omega arith)) ]

from_map : (f : ℕ → ℕ) (z : ℕ) (xs : List ℕ) → stands_in z (map f xs) ≡ true → (y : ℕ) × (stands_in y xs ≡ true) × (f y ≡ z)
from_map f z [] s = absurd (never_both false s refl)
from_map f z (x ∷ xs) s = elim (or_cases (eqb z (f x)) (stands_in z (map f xs)) s) [
  | inl e ↦ (x, or_left (eqb x x) (stands_in x xs) (eq-eqb x x refl), sym (eqb-true z (f x) e))
  | inr r ↦ (let q = from_map f z xs r in (q.0, or_right (eqb q.0 x) (stands_in q.0 xs) q.1, q.2))
]

distinct_map : (f : ℕ → ℕ) (xs : List ℕ) → Distinct xs → ((x y : ℕ) → stands_in x xs ≡ true → stands_in y xs ≡ true → f x ≡ f y → x ≡ y) → Distinct (map f xs)
distinct_map f [] d h = tt
distinct_map f (x ∷ xs) d h = (
  elim (cases_Bool (stands_in (f x) (map f xs))) [
    | inr fresh ↦ fresh
    | inl t ↦ (
        let q = from_map f (f x) xs t in
        let same : x ≡ q.0 = h x q.0 (or_left (eqb x x) (stands_in x xs) (eq-eqb x x refl)) (or_right (eqb q.0 x) (stands_in q.0 xs) q.1) (sym q.2) in
        absurd (never_both (stands_in x xs) (ap (λ v. stands_in v xs) same ∙ q.1) d.0))
  ],
  distinct_map f xs d.1 (λ y z sy sz. h y z (or_right (eqb y x) (stands_in y xs) sy) (or_right (eqb z x) (stands_in z xs) sz)),
)

pub darts_few : (L : Library) → IsPaired L → IsStrictlyIncreasing (whole_of L).order → length (whole_of L).order ≤ 2 * length (plus_darts (whole_of L))
darts_few L p rise =
    let M : DartMap = library_map (links_of L) in
    let order : List ℕ = (whole_of L).order in
    let minus : List ℕ = filter (λ d. not (is_plus d)) (whole_of L).order in
    let all : length (plus_darts (whole_of L)) + length (filter (λ d. not (is_plus d)) (whole_of L).order) ≡ length (whole_of L).order =
    length-filter_both is_plus (λ d. not (is_plus d)) (λ d. refl) (whole_of L).order in
    let turned : length (map M.flip minus) ≡ length (filter (λ d. not (is_plus d)) (whole_of L).order) = length-map minus M.flip in
    let few : length (map M.flip minus) ≤ length (plus_darts (whole_of L)) =
    distinct_few (map M.flip minus) (plus_darts (whole_of L))
    (distinct_map M.flip minus (distinct_rising minus (rises_of minus (IsStrictlyIncreasing-filter (λ d. not (is_plus d)) order rise)))
    (λ x y sx sy e. sym (p.is_map.flip_flip x (minus_home x sx)) ∙ ap M.flip e ∙ p.is_map.flip_flip y (minus_home y sy)))
    (λ z s. (let q = from_map M.flip z minus s in
    subst (λ v. stands_in v (plus_darts (whole_of L)) ≡ true) q.2 (plus_stands L p (M.flip q.0) (p.is_map.flip_has q.0 (minus_home q.0 q.1))
    (flip_sign L p q.0 (minus_home q.0 q.1) (minus_sign q.0 q.1))))) in
    omega arith
  where
    minus_home : (x : ℕ) → stands_in x (filter (λ d. not (is_plus d)) (whole_of L).order) ≡ true → is_home (links_of L) x ≡ true
    minus_home x s = sym (p.each x) ∙ (kept_stands (λ d. not (is_plus d)) x (whole_of L).order s).1

    minus_sign : (x : ℕ) → stands_in x (filter (λ d. not (is_plus d)) (whole_of L).order) ≡ true → sign_in x ≡ 1
    minus_sign x s = elim (sign-cases x) [
      | inr o ↦ o
      | inl z ↦ absurd (never_both (not (is_plus x)) (kept_stands (λ d. not (is_plus d)) x (whole_of L).order s).0 (ap not (eq-eqb (sign_in x) 0 z)))
    ]
