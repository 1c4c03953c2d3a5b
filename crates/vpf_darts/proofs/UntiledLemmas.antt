-- The darts of a listing of an untiled map are in tile 0.
use Rattle.std.proofs.Common.{◌≡◌, ℕ, zero, suc, ◌+◌, ◌^◌, ◌<◌, ◌≤◌, Bool, true, List, [], ◌∷◌, length, map, arith}
use Rattle.std.specs.List.{All, AllByRecursion, concat}
use Rattle.vpf_darts.specs.declared.darts.TileDart.{TileDart}
use Rattle.vpf_darts.specs.Cycles.{IsListing, count_of}
use Rattle.vpf_darts.specs.Darts.{tile_dart_code}
use Rattle.vpf_darts.specs.Listings.{numbers_of}
use Rattle.vpf_darts.specs.MapLists.{MapLists, AreMapLists, dart_map, is_among}
use Rattle.vpf_darts.specs.Inner.Laws.{LiveBelow}
use Rattle.vpf_darts.proofs.DartLemmas.{untiled}
use Rattle.vpf_darts.proofs.NextLemmas.{among_bounds}
use Rattle.vpf_darts.proofs.RenameLemmas.{AllLive, lists_live, live_from_count}

-- a live dart of the map has a number below 2^33
pub live_below : (m : MapLists) → AreMapLists m → (d : ℕ) → (dart_map m).live d ≡ true → d < 2 ^ 33
live_below m h d l =
    let b : (2 ≤ d) × (d < length m.next + 2) = among_bounds (length m.next) d (h.is_map.live_has d l) in
    omega (arith, b.1, h.darts, h.few)

-- darts of numbers below 2^33 are in tile 0
pub untiled_list : (live : ℕ → Bool) → LiveBelow (2 ^ 33) live → (xs : List TileDart) → AllLive live (map tile_dart_code xs) → All (λ d. d.tile ≡ 0) xs
untiled_list live below [] all k d lt = absurd (omega arith)
untiled_list live below (x ∷ xs) all zero d lt = untiled x (below (tile_dart_code x) all.0)
untiled_list live below (x ∷ xs) all (suc k) d lt = untiled_list live below xs all.1 k d (omega arith)

pub untiled_lists : (live : ℕ → Bool) → LiveBelow (2 ^ 33) live → (lists : List (List TileDart)) → AllByRecursion (AllLive live) (numbers_of lists) → All (All (λ d. d.tile ≡ 0)) lists
untiled_lists live below [] all k d lt = absurd (omega arith)
untiled_lists live below (xs ∷ lists) all zero d lt = untiled_list live below xs all.0
untiled_lists live below (xs ∷ lists) all (suc k) d lt = untiled_lists live below lists all.1 k d (omega arith)

pub untiled_cycles : (next : ℕ → ℕ) (live : ℕ → Bool) → LiveBelow (2 ^ 33) live → (lists : List (List TileDart)) → IsListing next live (numbers_of lists) → All (All (λ d. d.tile ≡ 0)) lists
untiled_cycles next live below lists listing =
    let held : (d : ℕ) → 0 < count_of d (concat (numbers_of lists)) → live d ≡ true = λ d s. live_from_count (live d) (count_of d (concat (numbers_of lists))) s (listing.cycles.once d) in
    untiled_lists live below lists (lists_live live (numbers_of lists) held)

pub untiled_listing : (m : MapLists) → AreMapLists m → (lists : List (List TileDart)) → IsListing (dart_map m).next (dart_map m).live (numbers_of lists) → All (All (λ d. d.tile ≡ 0)) lists
untiled_listing m h lists listing = untiled_cycles (dart_map m).next (dart_map m).live (live_below m h) lists listing

pub among_below : (n : ℕ) → n + 2 ≤ 2 ^ 33 → LiveBelow (2 ^ 33) (is_among n)
among_below n few d l = let b = among_bounds n d l in omega (arith, b.1)
