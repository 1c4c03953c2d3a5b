-- The ranks of the darts that a walk keeps.
use Rattle.std.proofs.Common.{◌≡◌, ℕ, ◌<◌, Bool, true, false, not, List, length, map, get_or, ltb, refl, sym, ap, ◌∙◌, subst, arith}
use Rattle.std.proofs.lemmas.Bool.{and_parts}
use Rattle.std.proofs.lemmas.List.{get_or-map, length-map}
use Rattle.vpf_darts.specs.declared.darts.TileDart.{TileDart}
use Rattle.vpf_darts.specs.Cycles.{IsListing}
use Rattle.vpf_darts.specs.Darts.{tile_dart_code}
use Rattle.vpf_darts.specs.Inner.Laws.{RisingRenamingKeepsListing}
use Rattle.vpf_darts.specs.Listings.{numbers_of}
use Rattle.vpf_darts.specs.Maps.{DartMap, is_of_any, without}
use Rattle.vpf_darts.specs.Inner.Ranks.{IsRanking, IsRankedListing}
use Rattle.vpf_darts.specs.Inner.WithoutLaws.{live_without_all, without-is_map}
use Rattle.vpf_wing.specs.Inner.DartLaws.{stands_in}
use Rattle.vpf_wing.specs.Inner.Kept.Kept.{AreKept, next_rank, place_among}
use Rattle.vpf_wing.proofs.kept.RankLemmas.{AreRanked, is_ranking, listing_by_ranks, live_at, next_inside}

pub kept_ranked : (m : DartMap) (es : List ℕ) (darts : List TileDart) → AreKept m es darts → AreRanked (without m es) (map tile_dart_code darts)
kept_ranked m es darts k = record { is_map = without-is_map m es k.is_map k.edges; rise = k.in_order.rise; live = k.kept }

-- a dart that is kept is one of the map, and of none of the edges that are passed over
pub record KeptAt (m : DartMap) (es : List ℕ) (d : ℕ) : Type 0 where
  pub has : m.has d ≡ true
  pub kept : is_of_any m.flip es d ≡ false
  pub live : (without m es).live d ≡ true

inside : (darts : List TileDart) (i : ℕ) → i < length darts → i < length (map tile_dart_code darts)
inside darts i h = let e = length-map darts tile_dart_code in omega arith

number_at : (darts : List TileDart) (i : ℕ) → i < length darts → (d : TileDart) → get_or (map tile_dart_code darts) i 0 ≡ tile_dart_code (get_or darts i d)
number_at darts i h d = get_or-map tile_dart_code darts i d 0 h

pub kept_at : (m : DartMap) (es : List ℕ) (darts : List TileDart) → AreKept m es darts → (i : ℕ) → i < length darts → (d : TileDart) → KeptAt m es (tile_dart_code (get_or darts i d))
kept_at m es darts k i h d =
    subst (KeptAt m es) (number_at darts i h d)
    (let n : ℕ = get_or (map tile_dart_code darts) i 0 in
    let live : (without m es).live (get_or (map tile_dart_code darts) i 0) ≡ true = live_at (without m es) (map tile_dart_code darts) (kept_ranked m es darts k) i (inside darts i h) in
    let p = and_parts (m.live n) (not (is_of_any m.flip es n)) (sym (live_without_all m es n) ∙ live) in
    record { has = k.is_map.live_has n p.0; kept = untrue _ p.1; live = live })
  where
    untrue : (b : Bool) → not b ≡ true → b ≡ false
    untrue true h = sym h
    untrue false h = refl

-- its next is kept
pub next_there : (m : DartMap) (es : List ℕ) (darts : List TileDart) → AreKept m es darts → (i : ℕ) → i < length darts → (d : TileDart) (next : ℕ)
    → next ≡ (without m es).next (tile_dart_code (get_or darts i d)) → stands_in next (map tile_dart_code darts) ≡ true
next_there m es darts k i h d next is =
    k.kept next ∙ ap (without m es).live is ∙ (kept_ranked m es darts k).is_map.next_live (tile_dart_code (get_or darts i d)) ∙ (kept_at m es darts k i h d).live

pub next_place : (m : DartMap) (es : List ℕ) (darts : List TileDart) → AreKept m es darts → (i : ℕ) → i < length darts → (d : TileDart) (next : ℕ)
    → next ≡ (without m es).next (tile_dart_code (get_or darts i d)) → place_among (map tile_dart_code darts) next ≡ next_rank (without m es) (map tile_dart_code darts) i
next_place m es darts k i h d next is =
    ap (place_among (map tile_dart_code darts)) (is ∙ ap (without m es).next (sym (number_at darts i h d)))
    ∙ sym (next_inside (without m es) (map tile_dart_code darts) i (inside darts i h))

pub kept_ranking : (m : DartMap) (es : List ℕ) (darts : List TileDart) → AreKept m es darts
    → IsRanking (length darts) (next_rank (without m es) (map tile_dart_code darts)) (λ i. ltb i (length darts))
kept_ranking m es darts k =
    subst (λ n. IsRanking n (next_rank (without m es) (map tile_dart_code darts)) (λ i. ltb i n)) (length-map darts tile_dart_code)
    (is_ranking (without m es) (map tile_dart_code darts) (kept_ranked m es darts k))

pub kept_listing : RisingRenamingKeepsListing → (m : DartMap) (es : List ℕ) (darts : List TileDart) → AreKept m es darts → (lists : List (List TileDart))
    → IsRankedListing (λ i. get_or (map tile_dart_code darts) i 0) (next_rank (without m es) (map tile_dart_code darts)) (λ i. ltb i (length darts)) lists
    → IsListing (without m es).next (without m es).live (numbers_of lists)
kept_listing law m es darts k lists h =
    listing_by_ranks law (without m es) (map tile_dart_code darts) (kept_ranked m es darts k) lists
    (subst (λ n. IsRankedListing (λ i. get_or (map tile_dart_code darts) i 0) (next_rank (without m es) (map tile_dart_code darts)) (λ i. ltb i n) lists)
    (sym (length-map darts tile_dart_code)) h)
