-- The lines between tiles of a coverage and of its tiled library.
use Rattle.std.proofs.Common.{[], ◌≡◌, ℕ, Bool, true, false, not, cond, eqb, ◌&&◌, refl, sym, ap, ◌∙◌, inl, inr, List, ◌∷◌}
use Rattle.std.specs.List.{AllByRecursion}
use Rattle.std.specs.Prelude.{filter}
use Rattle.std.proofs.lemmas.Bool.{cases_Bool, and_parts, and_from, or_cases, or_left, or_right, eqb-true, eq-eqb}
use Rattle.vpf_darts.specs.Darts.{tile_in, edge_in, flip}
use Rattle.vpf_tiling_laws.proofs.tiled.Facts.{MapLaws}
use Rattle.vpf_darts.specs.Inner.Laws.{RenamingGivesAMap, IsRenaming}
use Rattle.vpf_darts.specs.Maps.{DartMap, IsMap, AreEdges, is_of, is_of_any, without, without_edge}
use Rattle.vpf_prims.specs.Primitives.{Primitives, Library, untiled, absent_edge, tile_edges, is_tile_line}
use Rattle.vpf_prims.specs.Lists.{kth}
use Rattle.vpf_wing.specs.WellFormed.{IsWellFormed}
use Rattle.vpf_wing.specs.Links.{DartLinks, links_of, is_minus}
use Rattle.vpf_follow.specs.Following.{is_home}
use Rattle.vpf_trace.specs.Tracing.{is_on_line, tile_lines}
use Rattle.vpf_tiling_laws.specs.Tiled.Names.{dart_behind, is_name, named_map}
use Rattle.vpf_tiling.specs.Presence.{untiled_links, coverage_map, next_of, home, is_present, copy_in, dart_name}
use Rattle.vpf_tiling.specs.Tiles.{tiled_library}
use Rattle.vpf_tiling.specs.Plans.{IsTileable}
use Rattle.vpf_wing.specs.Inner.DartLaws.{flip-minus, never_both, stands_in, darts-stand, flip-flip, flip-has, flip-tile, flip-edge}
use Rattle.vpf_follow.specs.Inner.FollowLaws.{home_has}
use Rattle.vpf_tiling_laws.proofs.tiled.LocalLemmas.{all_home}
use Rattle.vpf_tiling_laws.proofs.tiled.CopyLemmas.{copy_at, copies_have_links}
use Rattle.vpf_tiling_laws.proofs.tiled.SideLemmas.{present_home}
use Rattle.vpf_tiling_laws.proofs.tiled.FollowLemmas.{library_links, home_at}
use Rattle.vpf_tiling_laws.proofs.tiled.NameLemmas.{IsCopyOf, copy_by_number, name_apart}
use Rattle.vpf_tiling_laws.proofs.tiled.NamedLemmas.{NameIs, name_parts, home_named, named_home}
use Rattle.vpf_tiling.specs.Inner.PresenceLaws.{of_any_from, present_has, stands_filter}
use Rattle.vpf_base.proofs.Booleans.{same_bool}

-- a name is the name of the dart behind it
pub record Behind (c : Primitives) (plan : ℕ → ℕ) (x : ℕ) : Type 0 where
  pub has : (untiled_links c).has (dart_behind c plan x) ≡ true
  pub present : is_present c plan (tile_in x) (dart_behind c plan x) ≡ true
  pub named : dart_name c plan (dart_behind c plan x) ≡ x

pub behind : (c : Primitives) (plan : ℕ → ℕ) (tiles : ℕ) → IsTileable c plan tiles → (x : ℕ) → is_name c plan x ≡ true → Behind c plan x
behind c plan tiles w x h = (
    let n : NameIs c plan x = name_parts c plan x h in
    let k : IsCopyOf c plan x = copy_by_number c plan x w.few n.from_one n.to_last in
    record {
      has = present_has c plan (tile_in x) (dart_behind c plan x) k.present;
      present = k.present;
      named =
          ap (λ t. copy_in c plan t (dart_behind c plan x)) n.home ∙ k.copy;
    })

pub name_is_name : (c : Primitives) (plan : ℕ → ℕ) (tiles : ℕ) → IsTileable c plan tiles → (d : ℕ) → (untiled_links c).has d ≡ true
    → is_name c plan (dart_name c plan d) ≡ true
name_is_name c plan tiles w d h =
    home_named c plan tiles w (dart_name c plan d) (home_at c plan tiles w (home c plan d) d (present_home c plan tiles w d h)
    ∙ eq-eqb (home c plan d) (home c plan d) refl)

pub behind_name : (c : Primitives) (plan : ℕ → ℕ) (tiles : ℕ) → IsTileable c plan tiles → (d : ℕ) → (untiled_links c).has d ≡ true
    → dart_behind c plan (dart_name c plan d) ≡ d
behind_name c plan tiles w d h = (
    let b : Behind c plan (dart_name c plan d) = behind c plan tiles w (dart_name c plan d) (name_is_name c plan tiles w d h) in
    name_apart c plan tiles w (dart_behind c plan (dart_name c plan d)) d b.has h b.named)

-- the named map on names
pub named_next : (c : Primitives) (plan : ℕ → ℕ) (tiles : ℕ) → IsTileable c plan tiles → (m : DartMap) (d : ℕ) → (untiled_links c).has d ≡ true
    → (named_map c plan m).next (dart_name c plan d) ≡ dart_name c plan (m.next d)
named_next c plan tiles w m d h =
    ap (λ b. cond b (dart_name c plan (m.next (dart_behind c plan (dart_name c plan d)))) (dart_name c plan d)) (name_is_name c plan tiles w d h)
    ∙ ap (λ e. dart_name c plan (m.next e)) (behind_name c plan tiles w d h)

pub named_flip : (c : Primitives) (plan : ℕ → ℕ) (tiles : ℕ) → IsTileable c plan tiles → (m : DartMap) (d : ℕ) → (untiled_links c).has d ≡ true
    → (named_map c plan m).flip (dart_name c plan d) ≡ dart_name c plan (m.flip d)
named_flip c plan tiles w m d h =
    ap (λ b. cond b (dart_name c plan (m.flip (dart_behind c plan (dart_name c plan d)))) (dart_name c plan d)) (name_is_name c plan tiles w d h)
    ∙ ap (λ e. dart_name c plan (m.flip e)) (behind_name c plan tiles w d h)

pub is_renaming : (c : Primitives) (plan : ℕ → ℕ) (tiles : ℕ) → IsTileable c plan tiles
    → IsRenaming (coverage_map c) (named_map c plan (coverage_map c)) (dart_name c plan) (dart_behind c plan)
is_renaming c plan tiles w = record {
  live =
      λ d h. and_from (is_name c plan (dart_name c plan d)) ((untiled_links c).has (dart_behind c plan (dart_name c plan d))) (name_is_name c plan tiles w d h)
      (ap (untiled_links c).has (behind_name c plan tiles w d h) ∙ h);
  back_live = λ x h. (and_parts (is_name c plan x) ((untiled_links c).has (dart_behind c plan x)) h).1;
  back_f = λ d h. behind_name c plan tiles w d h;
  f_back = λ x h. (behind c plan tiles w x (and_parts (is_name c plan x) ((untiled_links c).has (dart_behind c plan x)) h).0).named;
  next = λ d h. named_next c plan tiles w (coverage_map c) d h;
  flip = λ d h. named_flip c plan tiles w (coverage_map c) d h;
}

pub live_named : (c : Primitives) (plan : ℕ → ℕ) (tiles : ℕ) → IsTileable c plan tiles → (x : ℕ) → is_name c plan x ≡ (named_map c plan (coverage_map c)).live x
live_named c plan tiles w x = elim (cases_Bool (is_name c plan x)) [
  | inl h ↦ h ∙ sym (and_from (is_name c plan x) ((untiled_links c).has (dart_behind c plan x)) h (behind c plan tiles w x h).has)
  | inr g ↦ g ∙ sym (ap (λ b. b && (untiled_links c).has (dart_behind c plan x)) g)
]

pub named_is_map : MapLaws → RenamingGivesAMap → (c : Primitives) (plan : ℕ → ℕ) (tiles : ℕ) → IsTileable c plan tiles
    → IsMap (named_map c plan (coverage_map c))
named_is_map maps law c plan tiles w =
    law (coverage_map c) (named_map c plan (coverage_map c)) (dart_name c plan) (dart_behind c plan) (maps.has_map c w.few w.well_formed)
    (is_renaming c plan tiles w) (live_named c plan tiles w) (λ x h. dead x (live_named c plan tiles w x ∙ h))
  where
    dead : (x : ℕ) → is_name c plan x ≡ false → (named_map c plan (coverage_map c)).next x ≡ x
    dead x h = ap (λ b. cond b (dart_name c plan (next_of c (dart_behind c plan x))) x) h

-- where a list has the + darts of all marked edges, an edge is in it exactly where it is marked
pub in_lines : (live line minus : ℕ → Bool) (fl : ℕ → ℕ) (darts : List ℕ) → ((x : ℕ) → live x ≡ true → stands_in x darts ≡ true)
    → ((x : ℕ) → live x ≡ true → live (fl x) ≡ true) → ((x : ℕ) → live x ≡ true → line (fl x) ≡ line x)
    → ((x : ℕ) → live x ≡ true → minus (fl x) ≡ not (minus x)) → ((x : ℕ) → live x ≡ true → fl (fl x) ≡ x)
    → (x : ℕ) → live x ≡ true → line x ≡ true → is_of_any fl (filter (λ d. live d && (line d && not (minus d))) darts) x ≡ true
in_lines live line minus fl darts all lf ln mn ff x h m = elim (cases_Bool (minus x)) [
  | inr plus ↦
      of_any_from fl x x _ (stands_filter (λ d. live d && (line d && not (minus d))) x darts
      (and_from (live x) (line x && not (minus x)) h (and_from (line x) (not (minus x)) m (ap not plus))) (all x h))
      (or_left (eqb x x) (eqb x (fl x)) (eq-eqb x x refl))
  | inl neg ↦
      of_any_from fl (fl x) x _ (stands_filter (λ d. live d && (line d && not (minus d))) (fl x) darts
      (and_from (live (fl x)) (line (fl x) && not (minus (fl x))) (lf x h)
      (and_from (line (fl x)) (not (minus (fl x))) (ln x h ∙ m) (ap not (mn x h ∙ ap not neg)))) (all (fl x) (lf x h)))
      (or_right (eqb x (fl x)) (eqb x (fl (fl x))) (eq-eqb x (fl (fl x)) (sym (ff x h))))
]

pub marked_lines : (live line minus : ℕ → Bool) (fl : ℕ → ℕ) (darts : List ℕ) → ((x : ℕ) → live x ≡ true → line (fl x) ≡ line x)
    → (x : ℕ) → is_of_any fl (filter (λ d. live d && (line d && not (minus d))) darts) x ≡ true → line x ≡ true
marked_lines live line minus fl [] ln x h = absurd (never_both false h refl)
marked_lines live line minus fl (e ∷ es) ln x h = elim (cases_Bool (live e && (line e && not (minus e)))) [
  | inr f ↦ marked_lines live line minus fl es ln x (rw f at h)
  | inl t ↦ (
      let h' = rw t at h in
      let a = and_parts (live e) (line e && not (minus e)) t in
      let m : line e ≡ true = (and_parts (line e) (not (minus e)) a.1).0 in
      elim (or_cases (is_of fl e x) (is_of_any fl (filter (λ d. live d && (line d && not (minus d))) es) x) h') [
        | inl i ↦ (elim (or_cases (eqb x e) (eqb x (fl e)) i) [ inl s ↦ ap line (eqb-true x e s) ∙ m | inr s ↦ ap line (eqb-true x (fl e) s) ∙ ln e a.0 ∙ m ])
        | inr r ↦ marked_lines live line minus fl es ln x r
      ])
]

pub lines_are : (live line minus : ℕ → Bool) (fl : ℕ → ℕ) (darts : List ℕ) → ((x : ℕ) → live x ≡ true → stands_in x darts ≡ true)
    → ((x : ℕ) → live x ≡ true → live (fl x) ≡ true) → ((x : ℕ) → live x ≡ true → line (fl x) ≡ line x)
    → ((x : ℕ) → live x ≡ true → minus (fl x) ≡ not (minus x)) → ((x : ℕ) → live x ≡ true → fl (fl x) ≡ x)
    → (x : ℕ) → live x ≡ true → is_of_any fl (filter (λ d. live d && (line d && not (minus d))) darts) x ≡ line x
lines_are live line minus fl darts all lf ln mn ff x h =
    same_bool _ _ (marked_lines live line minus fl darts ln x) (in_lines live line minus fl darts all lf ln mn ff x h)

pub mark_flip : (L : Library) (x : ℕ) → (links_of L).mark (flip x) ≡ (links_of L).mark x
mark_flip L x =
    ap (λ t. (kth (tile_edges L t) (edge_in (flip x)) absent_edge).mark) (flip-tile x)
    ∙ ap (λ e. (kth (tile_edges L (tile_in x)) e absent_edge).mark) (flip-edge x)

-- an edge of the coverage is among its lines exactly where it is marked
pub source_lines : (c : Primitives) → IsWellFormed c → (x : ℕ) → (untiled_links c).has x ≡ true
    → is_of_any flip (tile_lines (untiled c)) x ≡ is_on_line (untiled c) x
unfolding tile_lines
source_lines c w x h =
    lines_are (is_home (untiled_links c)) (is_on_line (untiled c)) is_minus flip (untiled_links c).darts
    (λ y hy. darts-stand (untiled c) y (home_has (untiled_links c) y hy))
    (λ y hy. all_home c w (flip y) ∙ flip-has (untiled c) y (home_has (untiled_links c) y hy)) (λ y hy. ap is_tile_line (mark_flip (untiled c) y))
    (λ y hy. flip-minus y) (λ y hy. flip-flip y) x (all_home c w x ∙ h)

pub name_mark : (c : Primitives) (plan : ℕ → ℕ) (tiles : ℕ) → IsTileable c plan tiles → (d : ℕ) → (untiled_links c).has d ≡ true
    → (library_links c plan tiles).mark (dart_name c plan d) ≡ (untiled_links c).mark d
name_mark c plan tiles w d h = (copies_have_links c plan tiles w (home c plan d) d (present_home c plan tiles w d h)).mark

pub name_minus : (c : Primitives) (plan : ℕ → ℕ) (tiles : ℕ) → IsTileable c plan tiles → (d : ℕ) → (untiled_links c).has d ≡ true
    → is_minus (dart_name c plan d) ≡ is_minus d
name_minus c plan tiles w d h = ap (λ s. eqb s 1) (copy_at c plan tiles w (home c plan d) d (present_home c plan tiles w d h)).sign

-- an edge of the library is among its lines exactly where it is marked
pub library_lines : MapLaws → RenamingGivesAMap → (c : Primitives) (plan : ℕ → ℕ) (tiles : ℕ) → IsTileable c plan tiles → (x : ℕ)
    → is_home (library_links c plan tiles) x ≡ true
    → is_of_any (named_map c plan (coverage_map c)).flip (tile_lines (tiled_library c plan tiles)) x ≡ is_on_line (tiled_library c plan tiles) x
unfolding tile_lines
library_lines maps law c plan tiles w x h = (
    let C : DartLinks = library_links c plan tiles in
    let n : DartMap = named_map c plan (coverage_map c) in
    lines_are (is_home C) (is_on_line (tiled_library c plan tiles)) is_minus n.flip C.darts (λ y hy. darts-stand (tiled_library c plan tiles) y (home_has C y hy)) flip_home line_same
    minus_other (λ y hy. (named_is_map maps law c plan tiles w).flip_flip y (home_named c plan tiles w y hy)) x h)
  where
    back : (y : ℕ) → is_home (library_links c plan tiles) y ≡ true → Behind c plan y
    back y hy = behind c plan tiles w y (home_named c plan tiles w y hy)

    flip_is : (y : ℕ) (hy : is_home (library_links c plan tiles) y ≡ true)
        → (named_map c plan (coverage_map c)).flip y ≡ dart_name c plan (flip (dart_behind c plan y))
    flip_is y hy = ap (λ b. cond b (dart_name c plan (flip (dart_behind c plan y))) y) (home_named c plan tiles w y hy)

    other_has : (y : ℕ) (hy : is_home (library_links c plan tiles) y ≡ true) → (untiled_links c).has (flip (dart_behind c plan y)) ≡ true
    other_has y hy = flip-has (untiled c) (dart_behind c plan y) (back y hy).has

    flip_home : (y : ℕ) → is_home (library_links c plan tiles) y ≡ true
        → is_home (library_links c plan tiles) ((named_map c plan (coverage_map c)).flip y) ≡ true
    flip_home y hy =
        ap (is_home (library_links c plan tiles)) (flip_is y hy)
        ∙ named_home c plan tiles w (dart_name c plan (flip (dart_behind c plan y)))
        (name_is_name c plan tiles w (flip (dart_behind c plan y)) (other_has y hy))

    line_same : (y : ℕ) → is_home (library_links c plan tiles) y ≡ true
        → is_on_line (tiled_library c plan tiles) ((named_map c plan (coverage_map c)).flip y) ≡ is_on_line (tiled_library c plan tiles) y
    line_same y hy =
        ap (is_on_line (tiled_library c plan tiles)) (flip_is y hy)
        ∙ ap is_tile_line (name_mark c plan tiles w (flip (dart_behind c plan y)) (other_has y hy) ∙ mark_flip (untiled c) (dart_behind c plan y)
        ∙ sym (name_mark c plan tiles w (dart_behind c plan y) (back y hy).has)) ∙ ap (is_on_line (tiled_library c plan tiles)) (back y hy).named

    minus_other : (y : ℕ) → is_home (library_links c plan tiles) y ≡ true → is_minus ((named_map c plan (coverage_map c)).flip y) ≡ not (is_minus y)
    minus_other y hy =
        ap is_minus (flip_is y hy) ∙ name_minus c plan tiles w (flip (dart_behind c plan y)) (other_has y hy) ∙ flip-minus (dart_behind c plan y)
        ∙ ap not (sym (name_minus c plan tiles w (dart_behind c plan y) (back y hy).has) ∙ ap is_minus (back y hy).named)

pub all_kept : (P : ℕ → Type 0) (q : ℕ → Bool) → ((x : ℕ) → q x ≡ true → P x) → (xs : List ℕ) → AllByRecursion P (filter q xs)
all_kept P q h [] = tt
all_kept P q h (x ∷ xs) = elim (cases_Bool (q x)) [
  | inl t ↦ rw t (h x t, all_kept P q h xs)
  | inr f ↦ rw f (all_kept P q h xs)
]

pub source_edges : (c : Primitives) → AreEdges (coverage_map c) (tile_lines (untiled c))
unfolding tile_lines
source_edges c =
    all_kept (λ e. (untiled_links c).has e ≡ true) (λ d. is_home (untiled_links c) d && (is_on_line (untiled c) d && not (is_minus d)))
    (λ x h. home_has (untiled_links c) x (and_parts (is_home (untiled_links c) x) _ h).0) (untiled_links c).darts

pub library_edges : (c : Primitives) (plan : ℕ → ℕ) (tiles : ℕ) → IsTileable c plan tiles
    → AreEdges (named_map c plan (coverage_map c)) (tile_lines (tiled_library c plan tiles))
unfolding tile_lines
library_edges c plan tiles w =
    all_kept (λ e. is_name c plan e ≡ true) (λ d. is_home (library_links c plan tiles) d && (is_on_line (tiled_library c plan tiles) d && not (is_minus d)))
    (λ x h. home_named c plan tiles w x (and_parts (is_home (library_links c plan tiles) x) _ h).0) (library_links c plan tiles).darts

pub without_has : (m : DartMap) (es : List ℕ) → (without m es).has ≡ m.has
unfolding without_edge
without_has m [] = refl
without_has m (e ∷ es) = without_has (without_edge m e) es
