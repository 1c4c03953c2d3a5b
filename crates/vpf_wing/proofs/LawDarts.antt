-- The darts of a library, by their numbers.
use Rattle.std.proofs.Common.{◌≡◌, ℕ, ◌+◌, ◌-◌, ◌*◌, ◌/◌, ◌%◌, ◌^◌, ◌<◌, ◌≤◌, true, leb, ◌&&◌, sym, subst, arith}
use Rattle.std.proofs.lemmas.Bool.{and_parts, and_from, leb-true, le-leb}
use Rattle.vpf_darts.specs.Darts.{code, tile_in, edge_in, sign_in}
use Rattle.vpf_prims.specs.Primitives.{Library, edge_count}
use Rattle.vpf_wing.specs.Links.{links_of}
use Rattle.vpf_wing.specs.WellFormed.{IsDartOf}

-- the parts of being a dart
pub record IsThere (L : Library) (d : ℕ) : Type 0 where
  pub from_one : 1 ≤ edge_in d
  pub to_count : edge_in d ≤ edge_count L (tile_in d)
  pub to_last : tile_in d ≤ L.last

pub is_there : (L : Library) (d : ℕ) → (links_of L).has d ≡ true → IsThere L d
is_there L d h =
    let low = leb 1 (edge_in d) in
    let high = leb (edge_in d) (edge_count L (tile_in d)) in
    let q = and_parts (low && high) (leb (tile_in d) L.last) h in
    let p = and_parts low high q.0 in
    record {
      from_one = leb-true 1 (edge_in d) p.0;
      to_count = leb-true (edge_in d) (edge_count L (tile_in d)) p.1;
      to_last = leb-true (tile_in d) L.last q.1;
    }

pub has_from : (L : Library) (d : ℕ) → IsThere L d → (links_of L).has d ≡ true
has_from L d i =
    let low = leb 1 (edge_in d) in
    let high = leb (edge_in d) (edge_count L (tile_in d)) in
    let both = and_from low high (le-leb 1 (edge_in d) i.from_one) (le-leb (edge_in d) (edge_count L (tile_in d)) i.to_count) in
    and_from (low && high) (leb (tile_in d) L.last) both (le-leb (tile_in d) L.last i.to_last)

-- the number of the dart at a place of a tile
abbrev pub number_at : ℕ → ℕ → ℕ
number_at t p = code t (p / 2 + 1) (p % 2)

pub number_is : (t p : ℕ) → number_at t p ≡ p + 2 + 2 ^ 33 * t
unfolding code
number_is t p = omega arith

pub number-tile : (t p : ℕ) → p < 2 ^ 25 → tile_in (number_at t p) ≡ t
unfolding code tile_in
number-tile t p few = omega arith

pub number-edge : (t p : ℕ) → p < 2 ^ 25 → edge_in (number_at t p) ≡ p / 2 + 1
unfolding code edge_in
number-edge t p few = omega arith

pub number-sign : (t p : ℕ) → sign_in (number_at t p) ≡ p % 2
unfolding code sign_in
number-sign t p = omega arith

pub number-apart : (t p q : ℕ) → number_at t p ≡ number_at t q → p ≡ q
number-apart t p q e = omega (arith, number_is t p, number_is t q)

-- the place of a dart in its tile
abbrev pub place_in : ℕ → ℕ
place_in d = 2 * (edge_in d - 1) + sign_in d

pub number_back : (d : ℕ) → 1 ≤ edge_in d → number_at (tile_in d) (place_in d) ≡ d
unfolding code tile_in edge_in sign_in
number_back d h = omega arith

-- a dart of a tile by its place
pub record AtPlace (L : Library) (t d : ℕ) : Type 0 where
  pub place : ℕ
  pub below : place < 2 * edge_count L t
  pub is : number_at t place ≡ d

sign_small : (d : ℕ) → sign_in d ≤ 1
unfolding sign_in
sign_small d = omega arith

pub at_place : (L : Library) (t d : ℕ) → IsDartOf (links_of L) t d → AtPlace L t d
at_place L t d h =
    let i : IsThere L d = is_there L d h.has in
    let high : edge_in d ≤ edge_count L t = subst (λ s. edge_in d ≤ edge_count L s) h.tile i.to_count in
    let low = i.from_one in
    record {
      place = place_in d;
      below = omega (arith, sign_small d);
      is = subst (λ s. number_at s (place_in d) ≡ d) h.tile (number_back d i.from_one);
    }

pub number_dart : (L : Library) (t p : ℕ) → t ≤ L.last → edge_count L t < 2 ^ 24 → p < 2 * edge_count L t → IsDartOf (links_of L) t (number_at t p)
number_dart L t p last few h =
    let tile : tile_in (number_at t p) ≡ t = number-tile t p (omega arith) in
    let edge : edge_in (number_at t p) ≡ p / 2 + 1 = number-edge t p (omega arith) in
    record {
      has = has_from L (number_at t p) (record {
        from_one = omega arith;
        to_count = subst (λ s. edge_in (number_at t p) ≤ edge_count L s) (sym tile) (omega arith);
        to_last = omega arith;
      });
      tile = tile;
    }
