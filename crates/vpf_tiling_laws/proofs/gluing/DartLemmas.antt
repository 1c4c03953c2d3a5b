-- What is read of the tiled library for gluing, dart by dart.
use Rattle.std.proofs.Common.{◌≡◌, ℕ, Bool, true, false, cond, sym, ap, ◌∙◌, inl, inr, arith, Some, None, [], length}
use Rattle.std.specs.Prelude.{filter}
use Rattle.std.proofs.lemmas.Bool.{cases_Bool, cases_lt}
use mathlib.Core.Path.{fun_ext}
use Rattle.vpf_darts.specs.Darts.{tile_in}
use Rattle.vpf_prims.specs.Primitives.{Primitives, untiled, edges_in, edge_count}
use Rattle.vpf_wing.specs.Links.{tail_node, tile_darts}
use Rattle.vpf_wing.specs.Inner.DartLaws.{never_both}
use Rattle.vpf_follow.specs.Following.{face_name, is_home}
use Rattle.vpf_trace.specs.CarriedLines.{first_tile, node_carried}
use Rattle.vpf_tiling.specs.Presence.{copy_in, face_of, has_edge, is_present, present_edges, tail_of, untiled_links}
use Rattle.vpf_tiling.specs.Inner.PresenceLaws.{no_edge_zero}
use Rattle.vpf_tiling.specs.Plans.{IsTileable}
use Rattle.vpf_tiling.specs.Tiles.{is_made, tiled_library, tiled_primitives}
use Rattle.vpf_tiling_laws.specs.Tiled.Names.{dart_behind, is_name}
use Rattle.vpf_tiling_laws.proofs.tiled.CopyLemmas.{copies_have_links, copy_at}
use Rattle.vpf_tiling_laws.proofs.tiled.FollowLemmas.{face_name_at, library_links, tail_at}
use Rattle.vpf_tiling_laws.proofs.tiled.NameLemmas.{AtPlace, IsCopyOf, at_place, copy_by_number}
use Rattle.vpf_tiling_laws.proofs.tiled.NamedLemmas.{NameIs, home_is_named, name_parts}
use Rattle.vpf_tiling_laws.proofs.tiled.ReferenceLemmas.{edges_many}
use Rattle.vpf_tiling_laws.proofs.tiled.RowLemmas.{first_tables, made_at, made_from, node_row_at, universe_row}
use Rattle.vpf_tiling_laws.specs.Gluing.Whole.{face_place}
use Rattle.vpf_tiling_laws.specs.Inner.Gluing.Gluing.{CarriedAreNamed, CountsArePresent, FacesOfDartsAreNamed, MarksAreNamed, NodesAreNamed, OrderIsNamed, UniverseIsNamed}

-- a tile without tables has no present edge
none_present : (c : Primitives) (plan : ℕ → ℕ) (tiles : ℕ) → IsTileable c plan tiles → (t : ℕ) → is_made c plan tiles t ≡ false
    → length (present_edges c plan t) ≡ 0
none_present c plan tiles w t g = (
    let n : ℕ = length (present_edges c plan t) in
    elim (cases_lt 0 n) [
      | inr ge ↦ omega arith
      | inl lt ↦ (
          let r : AtPlace (has_edge c plan t) (length c.edges) 0 _ = at_place (has_edge c plan t) (no_edge_zero c plan t) (length c.edges) 0 lt in
          absurd (never_both (is_made c plan tiles t) (made_at c plan tiles w t _ r.passes) g))
    ])

pub counts_are_present : CountsArePresent
counts_are_present c plan tiles w t = elim (cases_Bool (is_made c plan tiles t)) [
  | inl m ↦ edges_many c plan tiles t m
  | inr g ↦ ap (λ b. length (edges_in (cond b (Some (tiled_primitives c plan t)) None))) g ∙ sym (none_present c plan tiles w t g)
]

-- the home darts in their order are the names in their order
pub order_is_named : OrderIsNamed
order_is_named c plan tiles w =
    ap (λ (p : ℕ → Bool). filter p (tile_darts (edge_count (tiled_library c plan tiles)) tiles)) (fun_ext (home_is_named c plan tiles w))
    ∙ ap (λ (f : ℕ → ℕ). filter (is_name c plan) (tile_darts f tiles)) (fun_ext (counts_are_present c plan tiles w))

-- what is said of the names alone is the same of the library and of the coverage where it is the same of each copy
at_names : {X : Type 0} → (c : Primitives) (plan : ℕ → ℕ) (tiles : ℕ) → IsTileable c plan tiles → (f g : ℕ → X) (z : X)
    → ((t d : ℕ) → is_present c plan t d ≡ true → f (copy_in c plan t d) ≡ g d) → (x : ℕ)
    → cond (is_home (library_links c plan tiles) x) (f x) z ≡ cond (is_name c plan x) (g (dart_behind c plan x)) z
at_names c plan tiles w f g z h x = ap (λ b. cond b (f x) z) (home_is_named c plan tiles w x) ∙ (elim (cases_Bool (is_name c plan x)) [
  | inl n ↦ (
      let p : NameIs c plan x = name_parts c plan x n in
      let k : IsCopyOf c plan x = copy_by_number c plan x w.few p.from_one p.to_last in
      ap (λ b. cond b (f x) z) n ∙ ap f (sym k.copy) ∙ h (tile_in x) (dart_behind c plan x) k.present
      ∙ sym (ap (λ b. cond b (g (dart_behind c plan x)) z) n))
  | inr m ↦ ap (λ b. cond b (f x) z) m ∙ sym (ap (λ b. cond b (g (dart_behind c plan x)) z) m)
])

pub marks_are_named : MarksAreNamed
marks_are_named c plan tiles w =
    fun_ext (at_names c plan tiles w (library_links c plan tiles).mark (untiled_links c).mark None (λ t d h. (copies_have_links c plan tiles w t d h).mark))

pub carried_are_named : CarriedAreNamed
carried_are_named c plan tiles w =
    fun_ext (at_names c plan tiles w (library_links c plan tiles).carried (untiled_links c).carried []
    (λ t d h. (copies_have_links c plan tiles w t d h).carried))

pub faces_of_darts_are_named : FacesOfDartsAreNamed
faces_of_darts_are_named c plan tiles w =
    fun_ext (at_names c plan tiles w (face_name (library_links c plan tiles)) (λ d. face_place c plan (face_of c d)) None (face_name_at c plan tiles w))

pub nodes_are_named : NodesAreNamed
nodes_are_named c plan tiles w =
    fun_ext (at_names c plan tiles w (λ x. node_carried (tiled_library c plan tiles) (tile_in x) (tail_node (library_links c plan tiles) x))
    (λ d. node_carried (untiled c) 0 (tail_of c d)) [] (λ t d h.
    ap (λ s. node_carried (tiled_library c plan tiles) s (tail_node (library_links c plan tiles) (copy_in c plan t d))) (copy_at c plan tiles w t d h).tile
    ∙ ap (node_carried (tiled_library c plan tiles) t) (tail_at c plan tiles w t d h)
    ∙ node_row_at c plan tiles w t d h))

-- the first tile with tables carries what the universe of the coverage does
pub universe_is_named : UniverseIsNamed
universe_is_named c plan tiles w =
    universe_row c plan tiles (first_tile (tiled_library c plan tiles))
    (made_from c plan tiles (first_tile (tiled_library c plan tiles)) (first_tables c plan tiles w.plans.some))
