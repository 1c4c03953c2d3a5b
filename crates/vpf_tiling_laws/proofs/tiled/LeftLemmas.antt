-- The boundary cycles of the tiled library are those of the coverage with each dart called by its name.
use Rattle.std.proofs.Common.{◌≡◌, ℕ, true, false, cond, ◌&&◌, sym, ap, ◌∙◌, subst, inl, inr, map}
use Rattle.std.proofs.lemmas.Bool.{cases_Bool, and_from}
use mathlib.Core.Path.{fun_ext}
use Rattle.vpf_darts.specs.Cycles.{AreCycles, IsListing}
use Rattle.vpf_darts.specs.Darts.{flip}
use Rattle.vpf_tiling_laws.proofs.tiled.Facts.{MapLaws}
use Rattle.vpf_darts.specs.Inner.Laws.{RemovalLeavesAMap, RenamingGivesAMap, RenamingKeepsCycles, RenamingKeepsRemoval, IsRenaming}
use Rattle.vpf_darts.specs.Maps.{DartMap, IsMap, is_of_any, without}
use Rattle.vpf_prims.specs.Primitives.{Primitives, is_tile_line, untiled}
use Rattle.vpf_wing.specs.Links.{DartLinks}
use Rattle.vpf_follow.specs.Following.{library_map}
use Rattle.vpf_trace.specs.Tracing.{tile_lines}
use Rattle.vpf_tiling_laws.specs.Tiled.Names.{dart_behind, is_name, named_map}
use Rattle.vpf_tiling.specs.Presence.{untiled_links, coverage_map, dart_name}
use Rattle.vpf_tiling.specs.Tiles.{tiled_library}
use Rattle.vpf_tiling.specs.Plans.{IsTileable}
use Rattle.vpf_tiling_laws.specs.Inner.Tiled.Laws.{CyclesAreNamed, ListingIsNamed}
use Rattle.vpf_wing.specs.Inner.DartLaws.{never_both}
use Rattle.vpf_tiling_laws.proofs.tiled.FollowLemmas.{library_links}
use Rattle.vpf_tiling_laws.proofs.tiled.NamedLemmas.{named_home, map_is_named}
use Rattle.vpf_tiling_laws.proofs.tiled.LineLemmas.{behind, name_is_name, is_renaming, named_is_map, source_lines, name_mark, library_lines, source_edges, library_edges, without_has}

-- what is left of the coverage's map without its lines, and of the map of names without the library's
abbrev pub source_left : Primitives → DartMap
source_left c = without (coverage_map c) (tile_lines (untiled c))

abbrev pub names_left : Primitives → (ℕ → ℕ) → ℕ → DartMap
names_left c plan tiles = without (named_map c plan (coverage_map c)) (tile_lines (tiled_library c plan tiles))

-- a name is of a line exactly where its dart is
pub same_lines : MapLaws → RenamingGivesAMap → (c : Primitives) (plan : ℕ → ℕ) (tiles : ℕ) → IsTileable c plan tiles
    → (x : ℕ) → (untiled_links c).has x ≡ true
    → is_of_any (named_map c plan (coverage_map c)).flip (tile_lines (tiled_library c plan tiles)) (dart_name c plan x)
    ≡ is_of_any flip (tile_lines (untiled c)) x
same_lines maps gives c plan tiles w x h =
    library_lines maps gives c plan tiles w (dart_name c plan x) (named_home c plan tiles w (dart_name c plan x) (name_is_name c plan tiles w x h))
    ∙ ap is_tile_line (name_mark c plan tiles w x h) ∙ sym (source_lines c w.well_formed x h)

-- the names of darts rename one to the other
pub left_renamed : MapLaws → RenamingGivesAMap → RenamingKeepsRemoval → (c : Primitives) (plan : ℕ → ℕ) (tiles : ℕ) → IsTileable c plan tiles
    → IsRenaming (source_left c) (names_left c plan tiles) (dart_name c plan) (dart_behind c plan)
left_renamed maps gives keeps c plan tiles w =
    keeps (coverage_map c) (named_map c plan (coverage_map c)) (dart_name c plan) (dart_behind c plan) (tile_lines (untiled c))
    (tile_lines (tiled_library c plan tiles)) (maps.has_map c w.few w.well_formed) (named_is_map maps gives c plan tiles w)
    (is_renaming c plan tiles w) (source_edges c) (library_edges c plan tiles w) (same_lines maps gives c plan tiles w)

-- what is left of the named map is the named map of what is left
pub record LeftNamed (c : Primitives) (plan : ℕ → ℕ) (N M : DartMap) : Type 0 where
  pub next : (x : ℕ) → N.next x ≡ (named_map c plan M).next x
  pub live : (x : ℕ) → N.live x ≡ (named_map c plan M).live x

pub left_named : MapLaws → RemovalLeavesAMap → RenamingGivesAMap → RenamingKeepsRemoval → (c : Primitives) (plan : ℕ → ℕ) (tiles : ℕ) → IsTileable c plan tiles
    → LeftNamed c plan (names_left c plan tiles) (source_left c)
left_named maps stays gives keeps c plan tiles w = record { next = nexts; live = lives }
  where
    is_N : IsMap (names_left c plan tiles)
    is_N =
        stays (named_map c plan (coverage_map c)) (tile_lines (tiled_library c plan tiles)) (named_is_map maps gives c plan tiles w)
        (library_edges c plan tiles w)

    is_M : IsMap (source_left c)
    is_M = stays (coverage_map c) (tile_lines (untiled c)) (maps.has_map c w.few w.well_formed) (source_edges c)

    r : IsRenaming (source_left c) (names_left c plan tiles) (dart_name c plan) (dart_behind c plan)
    r = left_renamed maps gives keeps c plan tiles w

    live_has : (d : ℕ) → (source_left c).live d ≡ true → (untiled_links c).has d ≡ true
    live_has d h = ap (λ f. f d) (sym (without_has (coverage_map c) (tile_lines (untiled c)))) ∙ is_M.live_has d h

    live_name : (x : ℕ) → (names_left c plan tiles).live x ≡ true → is_name c plan x ≡ true
    live_name x h =
        ap (is_name c plan) (sym (r.f_back x h)) ∙ name_is_name c plan tiles w (dart_behind c plan x) (live_has (dart_behind c plan x) (r.back_live x h))

    dead_behind : (x : ℕ) → (names_left c plan tiles).live x ≡ false → is_name c plan x ≡ true
        → (source_left c).live (dart_behind c plan x) ≡ false
    dead_behind x g h = elim (cases_Bool ((source_left c).live (dart_behind c plan x))) [
      | inr f ↦ f
      | inl t ↦
          absurd (never_both ((names_left c plan tiles).live x)
          (ap (names_left c plan tiles).live (sym (behind c plan tiles w x h).named)
          ∙ r.live (dart_behind c plan x) t) g)
    ]

    nexts : (x : ℕ)
        → (names_left c plan tiles).next x
        ≡ (named_map c plan (source_left c)).next x
    nexts x = elim (cases_Bool ((names_left c plan tiles).live x)) [
      | inl h ↦ ap (names_left c plan tiles).next (sym (r.f_back x h))
          ∙ r.next (dart_behind c plan x) (r.back_live x h)
          ∙ sym (ap (λ b. cond b (dart_name c plan ((source_left c).next (dart_behind c plan x))) x)
          (live_name x h))
      | inr g ↦ is_N.next_dead x g ∙ (elim (cases_Bool (is_name c plan x)) [
        | inl h ↦
            sym (ap (λ b. cond b (dart_name c plan ((source_left c).next (dart_behind c plan x))) x) h
            ∙ ap (dart_name c plan) (is_M.next_dead (dart_behind c plan x) (dead_behind x g h)) ∙ (behind c plan tiles w x h).named)
        | inr f ↦ sym (ap (λ b. cond b (dart_name c plan ((source_left c).next (dart_behind c plan x))) x) f)
      ])
    ]

    lives : (x : ℕ)
        → (names_left c plan tiles).live x
        ≡ (named_map c plan (source_left c)).live x
    lives x = elim (cases_Bool ((names_left c plan tiles).live x)) [
      | inl h ↦ h
          ∙ sym (and_from (is_name c plan x) ((source_left c).live (dart_behind c plan x)) (live_name x h)
          (r.back_live x h))
      | inr g ↦ g ∙ (elim (cases_Bool (is_name c plan x)) [
        | inl h ↦ sym (ap (λ b. b && (source_left c).live (dart_behind c plan x)) h ∙ dead_behind x g h)
        | inr f ↦ sym (ap (λ b. b && (source_left c).live (dart_behind c plan x)) f)
      ])
    ]

pub listing_is_named : MapLaws → RemovalLeavesAMap → RenamingGivesAMap → RenamingKeepsRemoval → ListingIsNamed
listing_is_named maps stays gives keeps c plan tiles w lists = (
    let C : DartLinks = library_links c plan tiles in
    let T : DartMap = named_map c plan (source_left c) in
    let e : library_map C ≡ named_map c plan (coverage_map c) = map_is_named maps c plan tiles w in
    let l = left_named maps stays gives keeps c plan tiles w in
    let p : (without (library_map C) (tile_lines (tiled_library c plan tiles))).next ≡ T.next = ap (λ (z : DartMap). (without z (tile_lines (tiled_library c plan tiles))).next) e ∙ fun_ext l.next in
    let q : (without (library_map C) (tile_lines (tiled_library c plan tiles))).live ≡ T.live = ap (λ (z : DartMap). (without z (tile_lines (tiled_library c plan tiles))).live) e ∙ fun_ext l.live in (
      λ h. subst (λ v. IsListing T.next v lists) q (subst (λ u. IsListing u (without (library_map C) (tile_lines (tiled_library c plan tiles))).live lists) p h),
      λ h. subst (λ v. IsListing (without (library_map C) (tile_lines (tiled_library c plan tiles))).next v lists) (sym q) (subst (λ u. IsListing u T.live lists) (sym p) h),
    ))

pub cycles_are_named : MapLaws → RenamingGivesAMap → RenamingKeepsRemoval → RenamingKeepsCycles → CyclesAreNamed
cycles_are_named maps gives keeps cycles c plan tiles w lists h =
    let C : DartLinks = library_links c plan tiles in
    let e : library_map C ≡ named_map c plan (coverage_map c) = map_is_named maps c plan tiles w in
    subst (λ (z : DartMap). AreCycles (without z (tile_lines (tiled_library c plan tiles))).next (without z (tile_lines (tiled_library c plan tiles))).live (map (map (dart_name c plan)) lists)) (sym e)
    (cycles (source_left c) (names_left c plan tiles) (dart_name c plan) (dart_behind c plan) lists (left_renamed maps gives keeps c plan tiles w) h)
