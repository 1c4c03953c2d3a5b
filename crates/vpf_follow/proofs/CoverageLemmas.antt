-- The tiles of a coverage, and those of its library.
use Rattle.std.proofs.Common.{◌≡◌, ℕ, ◌^◌, ◌<◌, ◌≤◌, Option, Some, None, List, length, get_or, refl, ap, arith, inl, inr}
use Rattle.std.proofs.lemmas.Bool.{cases_Bool, cases_eq, leb-true, leb-false}
use Rattle.std.proofs.lemmas.List.{get_or_past}
use Rattle.std.specs.Prelude.{nat_le}
use Rattle.vpf_prims.specs.Coverages.{CoverageTables, last_tile, tile_at}
use Rattle.vpf_prims.specs.Primitives.{edge_count, edges_in, tile_edges}
use Rattle.vpf_prims.specs.Reading.{primitives_of}
use Rattle.vpf_prims.specs.Tables.{TileTables}
use Rattle.vpf_prims.specs.Libraries.{library_of, primitives_in}
use Rattle.vpf_follow.specs.Inner.Homes.{HasFewEdges}
use Rattle.vpf_follow.proofs.RowLemmas.{EndsAtLast}

inside : (xs : List (Option TileTables)) (t : ℕ) (T : TileTables) → get_or xs t None ≡ Some T → t < length xs
inside xs t T is = elim (cases_Bool (nat_le (length xs) t)) [
  | inl past ↦ (let none : get_or xs t None ≡ None = get_or_past xs t None (leb-true (length xs) t past) in absurd cc)
  | inr in' ↦ leb-false (length xs) t in'
]

-- a tile that has tables is among those of the coverage
pub tile_last : (c : CoverageTables) (t : ℕ) (T : TileTables) → tile_at c t ≡ Some T → t ≤ last_tile c
tile_last c t T is = let h : t < length c.tiles = inside c.tiles t T is in omega arith

pub ends_at_last : (c : CoverageTables) → EndsAtLast (library_of c)
ends_at_last c t some = by (tile_at c t) refl some
  where
    by : (o : Option TileTables) → tile_at c t ≡ o → 1 ≤ length (edges_in (primitives_in o)) → t ≤ last_tile c
    by None none h = absurd (omega arith)
    by (Some T) is h = tile_last c t T is

-- its edges are those of its tables
pub edges_are : (c : CoverageTables) (t : ℕ) (T : TileTables) → tile_at c t ≡ Some T → tile_edges (library_of c) t ≡ (primitives_of T.tables).edges
edges_are c t T is = ap (λ o. edges_in (primitives_in o)) is

pub no_edges : (c : CoverageTables) (t : ℕ) → tile_at c t ≡ None → edge_count (library_of c) t ≡ 0
no_edges c t none = ap (λ o. length (edges_in (primitives_in o))) none

-- there are few edges in each tile where there are in each up to the last
pub few_to_last : (c : CoverageTables) → ((t : ℕ) → t ≤ last_tile c → edge_count (library_of c) t < 2 ^ 24) → HasFewEdges (library_of c)
few_to_last c few t = elim (cases_Bool (nat_le t (last_tile c))) [
  | inl low ↦ few t (leb-true t (last_tile c) low)
  | inr high ↦ elim (cases_eq (edge_count (library_of c) t) 0) [
    | inl none ↦ rw none (omega arith)
    | inr some ↦ (let past : last_tile c < t = leb-false t (last_tile c) high in let low : t ≤ last_tile c = ends_at_last c t (omega (arith, some)) in
        absurd (omega arith))
  ]
]
