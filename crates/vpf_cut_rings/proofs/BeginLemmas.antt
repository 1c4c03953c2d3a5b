-- The darts that the cycles of a tile begin with, and the rings of these.
use Rattle.std.proofs.Common.{[], ◌≡◌, ℕ, zero, ◌+◌, ◌<◌, true, false, not, sym, ap, ◌∙◌, arith, Some, List, ◌∷◌, ◌++◌, length, map, get_or, take}
use Rattle.std.specs.Prelude.{filter, slice_get}
use Rattle.std.proofs.lemmas.List.{map-append}
use Rattle.vpf_darts.specs.declared.darts.TileDart.{TileDart}
use Rattle.vpf_darts.specs.Cycles.{IsListing, first_of}
use Rattle.vpf_darts.specs.Darts.{code, edge_in, sign_of, tile_dart_code, tile_in}
use Rattle.vpf_darts.specs.Listings.{numbers_of}
use Rattle.vpf_prims.specs.Primitives.{Primitives}
use Rattle.vpf_tiling.specs.Presence.{is_present, is_within, local_edge, tile_map}
use Rattle.vpf_tiling.specs.Inner.PresenceLaws.{in_zero, present_has}
use Rattle.vpf_tiling.specs.Tiles.{Ring}
use Rattle.vpf_cut_rings.specs.declared.rings.CutRing.{CutRing}
use Rattle.vpf_cut_rings.specs.Inner.Rings.{outer_ring, ring_of}
use Rattle.vpf_cut_rings.proofs.DartLemmas.{tile_live}
use Rattle.vpf_cut_rings.specs.Inner.BeginLaws.{begins, BeginsRing as Begins, one_dropped, one_kept}

-- ---- in a tile

-- a dart that is in tile 0 by its number is in tile 0
code-zero : (t e s : ℕ) → tile_in (code t e s) ≡ 0 → t ≡ 0
unfolding tile_in code
code-zero t e s h = omega arith

-- what a cycle of a tile begins with is a dart of the untiled coverage, which is present in the tile
pub record BeginsHere (c : Primitives) (plan : ℕ → ℕ) (t : ℕ) (lists : List (List TileDart)) (i : ℕ) (cycle : List TileDart) (d : TileDart) : Type 0 where
  pub some : 0 < length cycle
  pub first : code 0 (get_or cycle 0 d).edge (sign_of (get_or cycle 0 d).minus) ≡ first_of (get_or (numbers_of lists) i [])
  pub there : is_present c plan t (code 0 (get_or cycle 0 d).edge (sign_of (get_or cycle 0 d).minus)) ≡ true

pub begins_here : (c : Primitives) (plan : ℕ → ℕ) (t : ℕ) (lists : List (List TileDart)) → IsListing (tile_map c plan t).next (tile_map c plan t).live (numbers_of lists)
    → (i : ℕ) (cycle : List TileDart) (d : TileDart) → slice_get lists i ≡ Some cycle → BeginsHere c plan t lists i cycle d
begins_here c plan t lists l i cycle d is =
    let b : Begins (tile_map c plan t).live lists i cycle d = begins (tile_map c plan t).next (tile_map c plan t).live lists l i cycle d is in
    let x : TileDart = get_or cycle 0 d in
    let there : is_present c plan t (tile_dart_code x) ≡ true = sym (tile_live c plan t (tile_dart_code x)) ∙ b.lives in
    let zero_tile : x.tile ≡ 0 = code-zero x.tile x.edge (sign_of x.minus) (in_zero c (tile_dart_code x) (present_has c plan t (tile_dart_code x) there)).tile in
    let same : tile_dart_code x ≡ code 0 x.edge (sign_of x.minus) = ap (λ k. code k x.edge (sign_of x.minus)) zero_tile in
    record {
      some = b.some;
      first = sym same ∙ sym b.first;
      there = ap (is_present c plan t) (sym same) ∙ there;
    }

-- the darts of a tile by which its outer rings are made
abbrev pub rings_to : Primitives → (ℕ → ℕ) → ℕ → List (List ℕ) → List Ring
rings_to c plan t lists = map (outer_ring c plan t) (filter (λ d. not (is_within c plan t d)) (map first_of lists))

pub outer_one : (c : Primitives) (plan : ℕ → ℕ) (t : ℕ) (lists : List (List ℕ)) (i d : ℕ) → i < length lists → d ≡ first_of (get_or lists i [])
    → is_within c plan t d ≡ false → (before after : List CutRing) (edge : ℕ) → after ≡ before ++ record { face = 1; edge = edge } ∷ []
    → edge ≡ local_edge c plan t (edge_in d) → map ring_of before ≡ rings_to c plan t (take i lists) → map ring_of after ≡ rings_to c plan t (take (i + 1) lists)
outer_one c plan t lists i d h is out before after edge a e was =
    let x : CutRing = record { face = 1; edge = edge } in
    let made : ℕ → Ring = λ (k : ℕ). record { face = 1; edge = k } in
    ap (map ring_of) a ∙ map-append ring_of before (x ∷ []) ∙ ap (λ v. v ++ made edge ∷ []) was
    ∙ ap (λ k. rings_to c plan t (take i lists) ++ made k ∷ []) e
    ∙ sym (one_kept (outer_ring c plan t) (λ v. not (is_within c plan t v)) lists i d h is (ap not out))

pub outer_none : (c : Primitives) (plan : ℕ → ℕ) (t : ℕ) (lists : List (List ℕ)) (i d : ℕ) → i < length lists → d ≡ first_of (get_or lists i [])
    → is_within c plan t d ≡ true → (rings : List Ring) → rings ≡ rings_to c plan t (take i lists) → rings ≡ rings_to c plan t (take (i + 1) lists)
outer_none c plan t lists i d h is within rings was =
    was ∙ sym (one_dropped (outer_ring c plan t) (λ v. not (is_within c plan t v)) lists i d h is (ap not within))
