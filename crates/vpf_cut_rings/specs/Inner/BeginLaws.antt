-- The darts that the cycles of a tile begin with, and the rings of these.
use Rattle.std.proofs.Common.{[], ◌≡◌, ℕ, zero, suc, ◌+◌, ◌<◌, ◌≤◌, Bool, true, false, eqb, cond, refl, sym, ap, ◌∙◌, subst, inl, inr, arith, Some, List, ◌∷◌, ◌++◌, append-nil, length, map, get_or, take}
use Rattle.std.specs.Prelude.{filter, slice_get}
use Rattle.std.specs.List.{AllByRecursion, concat}
use Rattle.std.proofs.lemmas.Bool.{cases_Bool, eq-eqb, or_left}
use Rattle.std.proofs.lemmas.List.{map-append, take_more}
use Rattle.std.proofs.lemmas.List.Elements.{filter-append}
use Rattle.vpf_darts.specs.declared.darts.TileDart.{TileDart}
use Rattle.vpf_darts.specs.Cycles.{IsCycle, IsListing, count_of, first_of}
use Rattle.vpf_darts.specs.Darts.{tile_dart_code}
use Rattle.vpf_darts.specs.Listings.{numbers_of}
use Rattle.vpf_wing.specs.Inner.DartLaws.{same_some, none_is_some, stands_in, stands-right}
use Rattle.vpf_cut_rings.specs.Inner.LeastLaws.{stands_counts}
use Rattle.vpf_base.proofs.Booleans.{one_if}

-- a list of a listing: it has a dart that it begins with, and this one is live
pub record BeginsRing (live : ℕ → Bool) (lists : List (List TileDart)) (i : ℕ) (cycle : List TileDart) (d : TileDart) : Type 0 where
  pub some : 0 < length cycle
  pub first : first_of (get_or (numbers_of lists) i []) ≡ tile_dart_code (get_or cycle 0 d)
  pub lives : live (tile_dart_code (get_or cycle 0 d)) ≡ true

-- the same but that it stands in the lists
record Heads (lists : List (List TileDart)) (i : ℕ) (cycle : List TileDart) (d : TileDart) : Type 0 where
  pub some : 0 < length cycle
  pub first : first_of (get_or (numbers_of lists) i []) ≡ tile_dart_code (get_or cycle 0 d)
  pub there : stands_in (tile_dart_code (get_or cycle 0 d)) (concat (numbers_of lists)) ≡ true

here : (next : ℕ → ℕ) (l : List TileDart) (lists : List (List TileDart)) (d : TileDart) → IsCycle next (map tile_dart_code l) → Heads (l ∷ lists) 0 l d
here next [] lists d c = absurd c
here next (x ∷ xs) lists d c = record {
  some = omega arith;
  first = refl;
  there = or_left (eqb (tile_dart_code x) (tile_dart_code x)) (stands_in (tile_dart_code x) (map tile_dart_code xs ++ concat (numbers_of lists)))
      (eq-eqb (tile_dart_code x) (tile_dart_code x) refl);
}

heads : (next : ℕ → ℕ) (lists : List (List TileDart)) (i : ℕ) (cycle : List TileDart) (d : TileDart) → AllByRecursion (IsCycle next) (numbers_of lists)
    → slice_get lists i ≡ Some cycle → Heads lists i cycle d
heads next [] i cycle d c is = absurd (none_is_some cycle is)
heads next (l ∷ lists) zero cycle d c is = subst (λ v. Heads (l ∷ lists) 0 v d) (same_some l cycle is) (here next l lists d c.0)
heads next (l ∷ lists) (suc i) cycle d c is = (
    let r : Heads lists i cycle d = heads next lists i cycle d c.1 is in
    record {
      some = r.some;
      first = r.first;
      there = stands-right (tile_dart_code (get_or cycle 0 d)) (map tile_dart_code l) (concat (numbers_of lists)) r.there;
    })

listed_live : (next : ℕ → ℕ) (live : ℕ → Bool) (lists : List (List ℕ)) → IsListing next live lists → (x : ℕ) → stands_in x (concat lists) ≡ true → live x ≡ true
listed_live next live lists l x s = elim (cases_Bool (live x)) [
  | inl t ↦ t
  | inr f ↦ (
      let one : 1 ≤ count_of x (concat lists) = stands_counts x (concat lists) s in
      let none : count_of x (concat lists) ≡ 0 = l.cycles.once x ∙ ap one_if f in
      absurd (omega arith))
]

pub begins : (next : ℕ → ℕ) (live : ℕ → Bool) (lists : List (List TileDart)) → IsListing next live (numbers_of lists) → (i : ℕ) (cycle : List TileDart)
    (d : TileDart) → slice_get lists i ≡ Some cycle → BeginsRing live lists i cycle d
begins next live lists l i cycle d is = (
    let h : Heads lists i cycle d = heads next lists i cycle d l.cycles.cycles is in
    record { some = h.some; first = h.first; lives = listed_live next live (numbers_of lists) l (tile_dart_code (get_or cycle 0 d)) h.there })

-- what is made of the firsts that pass, with one more
module _ {R : Type 0} (g : ℕ → R) (p : ℕ → Bool) where
  pub firsts_more : (lists : List (List ℕ)) (i : ℕ) → i < length lists
      → map g (filter p (map first_of (take (i + 1) lists)))
      ≡ map g (filter p (map first_of (take i lists))) ++ map g (filter p (first_of (get_or lists i []) ∷ []))
  firsts_more lists i h =
      ap (λ ls. map g (filter p (map first_of ls))) (take_more lists i [] h)
      ∙ ap (λ ds. map g (filter p ds)) (map-append first_of (take i lists) (get_or lists i [] ∷ []))
      ∙ ap (map g) (filter-append p (map first_of (take i lists)) (first_of (get_or lists i []) ∷ []))
      ∙ map-append g (filter p (map first_of (take i lists))) (filter p (first_of (get_or lists i []) ∷ []))

  pub one_kept : (lists : List (List ℕ)) (i d : ℕ) → i < length lists → d ≡ first_of (get_or lists i []) → p d ≡ true
      → map g (filter p (map first_of (take (i + 1) lists))) ≡ map g (filter p (map first_of (take i lists))) ++ g d ∷ []
  one_kept lists i d h is t =
      firsts_more lists i h ∙ ap (λ v. map g (filter p (map first_of (take i lists))) ++ map g (filter p (v ∷ []))) (sym is)
      ∙ ap (λ b. map g (filter p (map first_of (take i lists))) ++ map g (cond b (d ∷ []) [])) t

  pub one_dropped : (lists : List (List ℕ)) (i d : ℕ) → i < length lists → d ≡ first_of (get_or lists i []) → p d ≡ false
      → map g (filter p (map first_of (take (i + 1) lists))) ≡ map g (filter p (map first_of (take i lists)))
  one_dropped lists i d h is f =
      firsts_more lists i h ∙ ap (λ v. map g (filter p (map first_of (take i lists))) ++ map g (filter p (v ∷ []))) (sym is)
      ∙ ap (λ b. map g (filter p (map first_of (take i lists))) ++ map g (cond b (d ∷ []) [])) f
      ∙ append-nil (map g (filter p (map first_of (take i lists))))
