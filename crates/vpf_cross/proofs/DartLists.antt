-- The darts of a library in their order, and what is found first among them.
use Rattle.std.proofs.Common.{[], ◌≡◌, ◌⊎◌, ℕ, zero, suc, ◌^◌, ◌<◌, ◌≤◌, Bool, true, false, cond, ◌&&◌, leb, Some, None, List, ◌∷◌, ◌++◌, refl, sym, subst, arith, inl, inr}
use Rattle.std.specs.Prelude.{find}
use Rattle.std.proofs.lemmas.Bool.{cases_eq, and_parts, and_from, leb-true, le-leb}
use Rattle.vpf_darts.specs.Darts.{code, tile_in, edge_in, sign_in}
use Rattle.vpf_prims.specs.Primitives.{Library, edge_count}
use Rattle.vpf_wing.specs.Links.{links_of, row_darts, tile_darts}
use Rattle.vpf_cross.proofs.LinkLemmas.{tile-code, edge-code}

-- x is one of some numbers
abbrev pub Among : List ℕ → ℕ → Type 0
Among [] x = ⊥
Among (y ∷ ys) x = (y ≡ x) ⊎ Among ys x

found_at : (p : ℕ → Bool) (y : ℕ) (ys : List ℕ) (x : ℕ) (b : Bool) → p y ≡ b → cond b (Some y) (find p ys) ≡ Some x
    → (find p ys ≡ Some x → (p x ≡ true) × Among ys x) → (p x ≡ true) × Among (y ∷ ys) x
found_at p y ys x true is h rest = let e : y ≡ x = cc in (subst (λ v. p v ≡ true) e is, inl e)
found_at p y ys x false is h rest = let r = rest h in (r.0, inr r.1)

-- what is found passes, and is one of them
pub find_found : (p : ℕ → Bool) (xs : List ℕ) (x : ℕ) → find p xs ≡ Some x → (p x ≡ true) × Among xs x
find_found p [] x h = absurd cc
find_found p (y ∷ ys) x h = found_at p y ys x (p y) refl h (find_found p ys x)

missed_at : (p : ℕ → Bool) (y : ℕ) (ys : List ℕ) (b : Bool) → p y ≡ b → cond b (Some y) (find p ys) ≡ None → (p y ≡ false) × (find p ys ≡ None)
missed_at p y ys true is h = absurd cc
missed_at p y ys false is h = (is, h)

-- where nothing is found, none passes
pub find_missed : (p : ℕ → Bool) (xs : List ℕ) → find p xs ≡ None → (x : ℕ) → Among xs x → p x ≡ false
find_missed p [] h x there = absurd there
find_missed p (y ∷ ys) h x (inl e) = subst (λ v. p v ≡ false) e (missed_at p y ys (p y) refl h).0
find_missed p (y ∷ ys) h x (inr there) = find_missed p ys (missed_at p y ys (p y) refl h).1 x there

in_either : (xs ys : List ℕ) (x : ℕ) → Among (xs ++ ys) x → Among xs x ⊎ Among ys x
in_either [] ys x h = inr h
in_either (y ∷ xs) ys x (inl e) = inl (inl e)
in_either (y ∷ xs) ys x (inr h) = elim (in_either xs ys x h) [ inl l ↦ inl (inr l) | inr r ↦ inr r ]

in_first : (xs ys : List ℕ) (x : ℕ) → Among xs x → Among (xs ++ ys) x
in_first [] ys x h = absurd h
in_first (y ∷ xs) ys x (inl e) = inl e
in_first (y ∷ xs) ys x (inr h) = inr (in_first xs ys x h)

in_later : (xs ys : List ℕ) (x : ℕ) → Among ys x → Among (xs ++ ys) x
in_later [] ys x h = h
in_later (y ∷ xs) ys x h = inr (in_later xs ys x h)

-- the number of a dart, by its parts
pub parts-code : (x : ℕ) → code (tile_in x) (edge_in x) (sign_in x) ≡ x
unfolding code tile_in edge_in sign_in
parts-code x = omega arith

pub sign-small : (x : ℕ) → sign_in x < 2
unfolding sign_in
sign-small x = omega arith

-- a dart of one of so many edges of a tile
pub record IsOfRow (t n x : ℕ) : Type 0 where
  pub tile : tile_in x ≡ t
  pub from_one : 1 ≤ edge_in x
  pub to_count : edge_in x ≤ n

of_code : (t k s n x : ℕ) → k < 2 ^ 32 → s < 2 → 1 ≤ k → k ≤ n → code t k s ≡ x → IsOfRow t n x
of_code t k zero n x few small low high e =
    subst (IsOfRow t n) e (
    let tile = tile-code t k false few in
    let edge = edge-code t k false few in
    record { tile = tile; from_one = subst (λ v. 1 ≤ v) (sym edge) low; to_count = subst (λ v. v ≤ n) (sym edge) high })
of_code t k (suc zero) n x few small low high e =
    subst (IsOfRow t n) e (
    let tile = tile-code t k true few in
    let edge = edge-code t k true few in
    record { tile = tile; from_one = subst (λ v. 1 ≤ v) (sym edge) low; to_count = subst (λ v. v ≤ n) (sym edge) high })
of_code t k (suc (suc s)) n x few small low high e = absurd (omega arith)

in_row : (t n x : ℕ) → n < 2 ^ 32 → Among (row_darts t n) x → IsOfRow t n x
in_row t zero x few h = absurd h
in_row t (suc n) x few h = elim (in_either (row_darts t n) (code t (suc n) 0 ∷ code t (suc n) 1 ∷ []) x h) [
  | inl before ↦ (let r : IsOfRow t n x = in_row t n x (omega arith) before in record { tile = r.tile; from_one = r.from_one; to_count = omega (arith, r.to_count) })
  | inr here ↦ elim here [
    | inl e ↦ of_code t (suc n) 0 (suc n) x few (omega arith) (omega arith) (omega arith) e
    | inr last ↦ elim last [
      | inl e ↦ of_code t (suc n) 1 (suc n) x few (omega arith) (omega arith) (omega arith) e
      | inr none ↦ absurd none
    ]
  ]
]

last_of_row : (t n x s : ℕ) → s < 2 → code t n s ≡ x → Among (code t n 0 ∷ code t n 1 ∷ []) x
last_of_row t n x zero small e = inl e
last_of_row t n x (suc zero) small e = inr (inl e)
last_of_row t n x (suc (suc s)) small e = absurd (omega arith)

from_row : (t n x : ℕ) → IsOfRow t n x → Among (row_darts t n) x
from_row t zero x r = absurd (omega (arith, r.from_one, r.to_count))
from_row t (suc n) x r = elim (cases_eq (edge_in x) (suc n)) [
  | inl e ↦ in_later (row_darts t n) (code t (suc n) 0 ∷ code t (suc n) 1 ∷ []) x (last_of_row t (suc n) x (sign_in x) (sign-small x) (
      subst (λ v. code v (suc n) (sign_in x) ≡ x) r.tile (subst (λ v. code (tile_in x) v (sign_in x) ≡ x) e (parts-code x))))
  | inr ne ↦ in_first (row_darts t n) (code t (suc n) 0 ∷ code t (suc n) 1 ∷ []) x (
      from_row t n x (record { tile = r.tile; from_one = r.from_one; to_count = omega (arith, r.to_count) }))
]

-- a dart of one of the edges of the tiles 0 to t
pub record IsOfTiles (edges : ℕ → ℕ) (t x : ℕ) : Type 0 where
  pub from_one : 1 ≤ edge_in x
  pub to_count : edge_in x ≤ edges (tile_in x)
  pub to_last : tile_in x ≤ t

of_row : (edges : ℕ → ℕ) (t x : ℕ) → IsOfRow t (edges t) x → IsOfTiles edges t x
of_row edges t x r = record {
  from_one = r.from_one;
  to_count = subst (λ v. edge_in x ≤ edges v) (sym r.tile) r.to_count;
  to_last = omega (arith, r.tile);
}

in_tiles_darts : (edges : ℕ → ℕ) (t x : ℕ) → ((u : ℕ) → edges u < 2 ^ 24) → Among (tile_darts edges t) x → IsOfTiles edges t x
in_tiles_darts edges zero x few h = of_row edges 0 x (in_row 0 (edges 0) x (omega (arith, few 0)) h)
in_tiles_darts edges (suc t) x few h = elim (in_either (tile_darts edges t) (row_darts (suc t) (edges (suc t))) x h) [
  | inl before ↦ (
      let r : IsOfTiles edges t x = in_tiles_darts edges t x few before in
      record { from_one = r.from_one; to_count = r.to_count; to_last = omega (arith, r.to_last) })
  | inr here ↦ of_row edges (suc t) x (in_row (suc t) (edges (suc t)) x (omega (arith, few (suc t))) here)
]

from_tiles_darts : (edges : ℕ → ℕ) (t x : ℕ) → IsOfTiles edges t x → Among (tile_darts edges t) x
from_tiles_darts edges zero x r = let z : tile_in x ≡ 0 = omega (arith, r.to_last) in
    from_row 0 (edges 0) x (record { tile = z; from_one = r.from_one; to_count = subst (λ v. edge_in x ≤ edges v) z r.to_count })
from_tiles_darts edges (suc t) x r = elim (cases_eq (tile_in x) (suc t)) [
  | inl e ↦ in_later (tile_darts edges t) (row_darts (suc t) (edges (suc t))) x (
      from_row (suc t) (edges (suc t)) x (record { tile = e; from_one = r.from_one; to_count = subst (λ v. edge_in x ≤ edges v) e r.to_count }))
  | inr ne ↦ in_first (tile_darts edges t) (row_darts (suc t) (edges (suc t))) x (
      from_tiles_darts edges t x (record { from_one = r.from_one; to_count = r.to_count; to_last = omega (arith, r.to_last) }))
]

-- the parts of being a dart
pub there : (L : Library) (d : ℕ) → (links_of L).has d ≡ true → IsOfTiles (edge_count L) L.last d
there L d h =
    let low = leb 1 (edge_in d) in
    let high = leb (edge_in d) (edge_count L (tile_in d)) in
    let q = and_parts (low && high) (leb (tile_in d) L.last) h in
    let p = and_parts low high q.0 in
    record {
      from_one = leb-true 1 (edge_in d) p.0;
      to_count = leb-true (edge_in d) (edge_count L (tile_in d)) p.1;
      to_last = leb-true (tile_in d) L.last q.1;
    }

pub has_from : (L : Library) (d : ℕ) → IsOfTiles (edge_count L) L.last d → (links_of L).has d ≡ true
has_from L d i =
    let low = leb 1 (edge_in d) in
    let high = leb (edge_in d) (edge_count L (tile_in d)) in
    let both = and_from low high (le-leb 1 (edge_in d) i.from_one) (le-leb (edge_in d) (edge_count L (tile_in d)) i.to_count) in
    and_from (low && high) (leb (tile_in d) L.last) both (le-leb (tile_in d) L.last i.to_last)

-- the darts of a library are in their list, and nothing else is
pub darts_are : (L : Library) → ((t : ℕ) → edge_count L t < 2 ^ 24) → (d : ℕ) → Among (links_of L).darts d → (links_of L).has d ≡ true
darts_are L few d h = has_from L d (in_tiles_darts (edge_count L) L.last d few h)

pub darts_hold : (L : Library) (d : ℕ) → (links_of L).has d ≡ true → Among (links_of L).darts d
darts_hold L d h = from_tiles_darts (edge_count L) L.last d (there L d h)
