-- The ranks of darts in their order, and the listing of a map by them.
use Rattle.std.proofs.Common.{◌≡◌, ℕ, ◌<◌, ◌≤◌, true, cond, ltb, List, length, get_or, refl, sym, ap, ◌∙◌, subst, inl, inr, arith}
use Rattle.std.specs.List.Sorted.{IsStrictlyIncreasing}
use Rattle.std.proofs.lemmas.Bool.{cases_lt, ltb-true, lt-ltb, le-ltb}
use Rattle.vpf_darts.specs.declared.darts.TileDart.{TileDart}
use Rattle.vpf_darts.specs.Cycles.{IsListing}
use Rattle.vpf_darts.specs.Inner.Laws.{IsRenaming, RisingRenamingKeepsListing}
use Rattle.vpf_darts.specs.Listings.{numbers_of}
use Rattle.vpf_darts.specs.Maps.{DartMap, IsMap}
use Rattle.vpf_darts.specs.Inner.Ranks.{IsRanking, IsRankedListing}
use Rattle.vpf_wing.specs.Inner.DartLaws.{stands_in}
use Rattle.vpf_wing.specs.Inner.Kept.Kept.{next_rank, place_among}
use Rattle.vpf_wing.specs.Inner.Kept.PlaceLaws.{apart_at, at_place, place_of_at, rises, stands_at}

-- ---- the nexts of ranks are those of the darts

-- these are the live darts of a map, in their order
pub record AreRanked (m : DartMap) (darts : List ℕ) : Type 0 where
  pub is_map : IsMap m
  pub rise : IsStrictlyIncreasing darts
  pub live : (d : ℕ) → stands_in d darts ≡ m.live d

pub live_at : (m : DartMap) (darts : List ℕ) → AreRanked m darts → (i : ℕ) → i < length darts → m.live (get_or darts i 0) ≡ true
live_at m darts r i h = sym (r.live (get_or darts i 0)) ∙ stands_at darts i h

pub next_inside : (m : DartMap) (darts : List ℕ) (i : ℕ) → i < length darts → next_rank m darts i ≡ place_among darts (m.next (get_or darts i 0))
unfolding next_rank
next_inside m darts i h = ap (λ b. cond b (place_among darts (m.next (get_or darts i 0))) i) (lt-ltb i (length darts) h)

next_outside : (m : DartMap) (darts : List ℕ) (i : ℕ) → length darts ≤ i → next_rank m darts i ≡ i
unfolding next_rank
next_outside m darts i h = ap (λ b. cond b (place_among darts (m.next (get_or darts i 0))) i) (le-ltb i (length darts) h)

record GoesOn (m : DartMap) (darts : List ℕ) (i : ℕ) : Type 0 where
  pub inside : next_rank m darts i < length darts
  pub next : get_or darts (next_rank m darts i) 0 ≡ m.next (get_or darts i 0)

goes_on : (m : DartMap) (darts : List ℕ) → AreRanked m darts → (i : ℕ) → i < length darts → GoesOn m darts i
goes_on m darts r i h =
    let there : stands_in (m.next (get_or darts i 0)) darts ≡ true = r.live (m.next (get_or darts i 0)) ∙ r.is_map.next_live (get_or darts i 0) ∙ live_at m darts r i h in
    let p = at_place darts (m.next (get_or darts i 0)) there in
    let e : next_rank m darts i ≡ place_among darts (m.next (get_or darts i 0)) = next_inside m darts i h in
    record {
      inside = subst (λ k. k < length darts) (sym e) p.0;
      next = ap (λ k. get_or darts k 0) e ∙ p.1;
    }

ranks_apart : (m : DartMap) (darts : List ℕ) → AreRanked m darts → (c d : ℕ) → next_rank m darts c ≡ next_rank m darts d → c ≡ d
ranks_apart m darts r c d same = elim (cases_lt c (length darts)) [
  | inl hc ↦ (
      let gc : GoesOn m darts c = goes_on m darts r c hc in
      elim (cases_lt d (length darts)) [
        | inl hd ↦ (
            let gd : GoesOn m darts d = goes_on m darts r d hd in
            apart_at darts r.rise c d hc hd (r.is_map.next_apart _ _ (sym gc.next ∙ ap (λ k. get_or darts k 0) same ∙ gd.next)))
        | inr out ↦ (let inside = gc.inside in let e = next_outside m darts d out in absurd (omega arith))
      ])
  | inr out ↦ (elim (cases_lt d (length darts)) [
    | inl hd ↦ (let inside = (goes_on m darts r d hd).inside in let e = next_outside m darts c out in absurd (omega arith))
    | inr out' ↦ sym (next_outside m darts c out) ∙ same ∙ next_outside m darts d out'
  ])
]

pub is_ranking : (m : DartMap) (darts : List ℕ) → AreRanked m darts → IsRanking (length darts) (next_rank m darts) (λ i. ltb i (length darts))
is_ranking m darts r = record {
  apart = ranks_apart m darts r;
  inside = λ i h. (goes_on m darts r i h).inside;
  outside = next_outside m darts;
  next_live = λ i. elim (cases_lt i (length darts)) [
    | inl h ↦ lt-ltb (next_rank m darts i) (length darts) (goes_on m darts r i h).inside ∙ sym (lt-ltb i (length darts) h)
    | inr out ↦ ap (λ k. ltb k (length darts)) (next_outside m darts i out)
  ];
  live_inside = λ i h. ltb-true i (length darts) h;
}

-- ---- and so are their cycles

-- the map of the ranks
abbrev rank_map : DartMap → List ℕ → DartMap
rank_map m darts = record {
  has = λ i. ltb i (length darts);
  next = next_rank m darts;
  flip = λ i. place_among darts (m.flip (get_or darts i 0));
  live = λ i. ltb i (length darts);
}

back_at : (m : DartMap) (darts : List ℕ) → AreRanked m darts → (d : ℕ) → m.live d ≡ true → (place_among darts d < length darts) × (get_or darts (place_among darts d) 0 ≡ d)
back_at m darts r d live = at_place darts d (r.live d ∙ live)

renames : (m : DartMap) (darts : List ℕ) → AreRanked m darts → IsRenaming (rank_map m darts) m (λ i. get_or darts i 0) (place_among darts)
renames m darts r =
    let inside : (i : ℕ) → ltb i (length darts) ≡ true → i < length darts = λ i h. ltb-true i (length darts) h in
    record {
      live = λ i h. live_at m darts r i (inside i h);
      back_live = λ d live. lt-ltb (place_among darts d) (length darts) (back_at m darts r d live).0;
      back_f = λ i h. sym (place_of_at darts r.rise i (get_or darts i 0) (inside i h) refl);
      f_back = λ d live. (back_at m darts r d live).1;
      next = λ i h. sym (goes_on m darts r i (inside i h)).next;
      flip = λ i h. (
          let live : m.live (get_or darts i 0) ≡ true = live_at m darts r i (inside i h) in
          let turned : m.live (m.flip (get_or darts i 0)) ≡ true = r.is_map.flip_live (get_or darts i 0) (r.is_map.live_has (get_or darts i 0) live) ∙ live in
          sym (back_at m darts r (m.flip (get_or darts i 0)) turned).1);
    }

-- a listing by ranks is that of the map
pub listing_by_ranks : RisingRenamingKeepsListing → (m : DartMap) (darts : List ℕ) → AreRanked m darts → (lists : List (List TileDart))
    → IsRankedListing (λ i. get_or darts i 0) (next_rank m darts) (λ i. ltb i (length darts)) lists → IsListing m.next m.live (numbers_of lists)
listing_by_ranks law m darts r lists h =
    subst (IsListing m.next m.live) (sym h.darts)
    (law (rank_map m darts) m (λ i. get_or darts i 0) (place_among darts) h.ranks (renames m darts r)
    (λ c d hc hd lt. rises darts r.rise c d lt (ltb-true d (length darts) hd)) h.listing)
