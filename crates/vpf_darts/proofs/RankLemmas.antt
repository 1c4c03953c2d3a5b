-- The loops that list cycles by ranks.
use Rattle.std.proofs.Common.{[], ◌≡◌, ℕ, ◌+◌, ◌<◌, ◌≤◌, Bool, true, false, not, List, ◌∷◌, ◌++◌, length, map, set, refl, sym, ap, ◌∙◌, arith}
use Rattle.std.proofs.lemmas.List.{append_assoc, map-append, length-append, get_or_past}
use Rattle.vpf_darts.specs.declared.darts.TileDart.{TileDart}
use Rattle.vpf_darts.specs.Cycles.{count_of, IsListing}
use Rattle.vpf_darts.specs.Darts.{tile_dart_code}
use Rattle.vpf_darts.specs.Listings.{RiseTo, pieces, numbers_of}
use Rattle.vpf_darts.specs.Inner.Ranks.{IsRanking, IsRankedListing, AddsCycle, IsClosed, Marks, marked}
use Rattle.vpf_darts.specs.Inner.CycleLaws.{IsDartWalk as IsWalk, IsWalk-more, IsWalk-at_start, IsCycle-from_walk, length-counted, first_of-walk}
use Rattle.vpf_darts.proofs.ListingLemmas.{IsListed, IsListed-begin, IsListed-skip, IsListed-add, IsListed-end}
use Rattle.vpf_darts.proofs.MarkLemmas.{Marks-more, Marks-once, Marks-new}
use Rattle.vpf_darts.proofs.PieceLemmas.{pieces-push, RiseTo-push, map-pieces}

-- a walk round a cycle from start that has come to a rank, and put the darts before it after those that
-- were there
pub record IsGoingRound (count : ℕ) (code next : ℕ → ℕ) (start rank : ℕ) (old new : ℕ → Bool) (before darts : List ℕ) : Type 0 where
  pub walked : List ℕ
  pub inside : rank < count
  pub walk : IsWalk next start walked rank
  pub marks : Marks old new walked
  pub fresh : old rank ≡ false
  pub adds : darts ≡ before ++ map code walked

pub round_goes : (count : ℕ) (code next : ℕ → ℕ) (live : ℕ → Bool) (start rank after dart : ℕ) (old : ℕ → Bool) (marks : List Bool) (before darts : List ℕ) → IsRanking count next live → IsClosed next old → IsGoingRound count code next start rank old (marked marks) before darts
    → length marks ≡ count → marked marks rank ≡ false → dart ≡ code rank → after ≡ next rank → IsGoingRound count code next start after old (marked (set marks rank true)) before (darts ++ dart ∷ [])
round_goes count code next live start rank after dart old marks before darts r closed so_far len unmarked dart_is after_is =
    let in' : rank < length marks = omega (arith, so_far.inside) in
    rw (after_is, dart_is) (record {
      walked = so_far.walked ++ rank ∷ [];
      inside = r.inside rank so_far.inside;
      walk = IsWalk-more next start so_far.walked rank so_far.walk;
      marks = Marks-more old marks so_far.walked rank in' unmarked so_far.marks;
      fresh = closed rank ∙ so_far.fresh;
      adds = ap (λ xs. xs ++ code rank ∷ []) so_far.adds ∙ append_assoc before (map code so_far.walked) (code rank ∷ []) ∙ ap (λ xs. before ++ xs) (sym (map-append code so_far.walked (rank ∷ [])));
    })

pub round_ends : (count : ℕ) (code next : ℕ → ℕ) (live : ℕ → Bool) (start rank : ℕ) (old new : ℕ → Bool) (before darts : List ℕ) → IsRanking count next live → IsGoingRound count code next start rank old new before darts → new rank ≡ true → AddsCycle code next start old new before darts
round_ends count code next live start rank old new before darts r so_far now =
    let some : 0 < count_of rank so_far.walked = Marks-new old new so_far.walked so_far.marks rank now so_far.fresh in
    let few : 0 < length so_far.walked = length-counted rank so_far.walked some in
    let back : rank ≡ start = IsWalk-at_start next r.apart start so_far.walked rank so_far.walk (Marks-once old new so_far.walked so_far.marks) some in
    let walk : IsWalk next start so_far.walked start = rw back at so_far.walk in
    record {
      ranks = so_far.walked;
      cycle = IsCycle-from_walk next start so_far.walked few walk;
      first = first_of-walk next start so_far.walked rank few so_far.walk;
      marks = so_far.marks;
      adds = so_far.adds;
    }

-- the cycles below start are listed, one after the other, each up to its end
pub record IsListedTo (code next : ℕ → ℕ) (live marks : ℕ → Bool) (darts ends : List ℕ) (start : ℕ) : Type 0 where
  pub ranks : List (List ℕ)
  pub listed : IsListed next live marks ranks start
  pub rise : RiseTo 0 ends (length darts)
  pub parts : pieces 0 ends darts ≡ map (map code) ranks

pub list_begins : (count : ℕ) (code next : ℕ → ℕ) (live marks : ℕ → Bool) → IsRanking count next live → ((d : ℕ) → marks d ≡ not (live d)) → IsListedTo code next live marks [] [] 0
list_begins count code next live marks r dead = record {
  ranks = [];
  listed = IsListed-begin count next live marks r dead;
  rise = refl;
  parts = refl;
}

pub list_skips : (code next : ℕ → ℕ) (live marks : ℕ → Bool) (darts ends : List ℕ) (start : ℕ) → IsListedTo code next live marks darts ends start → marks start ≡ true → IsListedTo code next live marks darts ends (start + 1)
list_skips code next live marks darts ends start so_far here = record {
  ranks = so_far.ranks;
  listed = IsListed-skip next live marks so_far.ranks start so_far.listed here;
  rise = so_far.rise;
  parts = so_far.parts;
}

pub list_adds : (count : ℕ) (code next : ℕ → ℕ) (live marks new : ℕ → Bool) (darts after ends : List ℕ) (start end : ℕ) → IsRanking count next live → IsListedTo code next live marks darts ends start → AddsCycle code next start marks new darts after → end ≡ length after → IsListedTo code next live new after (ends ++ end ∷ []) (start + 1)
list_adds count code next live marks new darts after ends start end r so_far cycle end_is =
    let more : length after ≡ length darts + length (map code cycle.ranks) = ap length cycle.adds ∙ length-append darts (map code cycle.ranks) in
    let parts : pieces 0 (ends ++ end ∷ []) after ≡ pieces 0 ends darts ++ map code cycle.ranks ∷ []
    = ap (pieces 0 (ends ++ end ∷ [])) cycle.adds ∙ pieces-push 0 ends darts (map code cycle.ranks) end so_far.rise (end_is ∙ ap length cycle.adds) in
    record {
      ranks = so_far.ranks ++ cycle.ranks ∷ [];
      listed = IsListed-add next live marks so_far.ranks start new cycle.ranks r.apart so_far.listed cycle.cycle cycle.first cycle.marks;
      rise = rw end_is (RiseTo-push 0 ends (length darts) (length after) so_far.rise (omega arith));
      parts = parts ∙ ap (λ xs. xs ++ map code cycle.ranks ∷ []) so_far.parts ∙ sym (map-append (map code) so_far.ranks (cycle.ranks ∷ []));
    }

pub list_ends : (count : ℕ) (code next : ℕ → ℕ) (live : ℕ → Bool) (marks : List Bool) (darts : List TileDart) (ends : List ℕ) (start : ℕ) → length marks ≡ count → count ≤ start → IsListedTo code next live (marked marks) (map tile_dart_code darts) ends start → IsRankedListing code next live (pieces 0 ends darts)
list_ends count code next live marks darts ends start len all so_far = record {
  ranks = so_far.ranks;
  listing = IsListed-end next live (marked marks) so_far.ranks start so_far.listed (λ d h. get_or_past marks d true (omega arith));
  darts = map-pieces tile_dart_code 0 ends darts ∙ so_far.parts;
}

pub map-same : (xs : List ℕ) → map (λ x. x) xs ≡ xs
map-same [] = refl
map-same (x ∷ xs) = ap (λ ys. x ∷ ys) (map-same xs)

pub each-map-same : (lists : List (List ℕ)) → map (map (λ x. x)) lists ≡ lists
each-map-same [] = refl
each-map-same (xs ∷ lists) = ap (λ ys. ys ∷ map (map (λ x. x)) lists) (map-same xs) ∙ ap (λ ys. xs ∷ ys) (each-map-same lists)

-- where each rank is the number of its dart
pub listing_by_numbers : (next : ℕ → ℕ) (live : ℕ → Bool) (lists : List (List TileDart)) → IsRankedListing (λ d. d) next live lists → IsListing next live (numbers_of lists)
listing_by_numbers next live lists h = rw (h.darts, each-map-same) h.listing
