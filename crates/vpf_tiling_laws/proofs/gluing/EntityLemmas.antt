-- The entity nodes of the tiled library are those of the coverage, by their names.
use Rattle.std.proofs.Common.{◌≡◌, ℕ, ◌≤◌, true, false, cond, leb, refl, sym, ap, ◌∙◌, inl, inr, arith, Option, Some, None, List, [], length, map}
use Rattle.std.specs.Prelude.{flat_map, is_some}
use Rattle.std.specs.List.{list_any}
use Rattle.std.specs.Option.{option_map, unwrap_or}
use Rattle.std.proofs.lemmas.Bool.{and_parts, cases_Bool, ne_eqb}
use mathlib.Core.Path.{fun_ext}
use Rattle.vpf_prims.specs.Lists.{kth}
use Rattle.vpf_prims.specs.Primitives.{EntityPrimitive, Primitives, absent_entity, entities_in, tile_entities, untiled}
use Rattle.vpf_prims.specs.References.{id_of}
use Rattle.vpf_wing.specs.Inner.DartLaws.{never_both}
use Rattle.vpf_tiling.specs.Ranks.{numbered, up_to}
use Rattle.vpf_tiling.specs.Presence.{containing_face, held_entities, holds_entity, holds_face, local_face}
use Rattle.vpf_tiling.specs.Inner.PresenceLaws.{any_from, up_stands}
use Rattle.vpf_tiling.specs.Plans.{IsTileable}
use Rattle.vpf_tiling.specs.Tiles.{is_made, numbered_entity, tiled_library, tiled_primitives}
use Rattle.vpf_tiling_laws.proofs.tiled.CopyLemmas.{tile_is}
use Rattle.vpf_tiling_laws.proofs.tiled.RowLemmas.{first_made}
use Rattle.vpf_tiling_laws.proofs.tiled.SideLemmas.{above}
use Rattle.vpf_tiling_laws.proofs.tiled.TableLemmas.{HeldFace, held_is}
use Rattle.vpf_tiling_laws.specs.Gluing.Whole.{WholeEntity, face_here, face_place, has_entities, named_entity, tiles_in, whole_entities, whole_of}
use Rattle.vpf_tiling_laws.specs.Inner.Gluing.Gluing.{EntitiesAreNamed}
use Rattle.vpf_tiling_laws.proofs.gluing.ListLemmas.{filter_empty, map_numbered, map_passing, none_passes}
use Rattle.vpf_tiling_laws.proofs.gluing.FaceLemmas.{none_held}

-- an entity node by the number of its face in its tile
entity_named : (c : Primitives) (plan : ℕ → ℕ) (t n : ℕ) (rows : List EntityPrimitive) → holds_entity c plan t n ≡ true
    → record { face = face_here t (local_face c plan t (containing_face c n)); carried = (kth rows n absent_entity).carried } ≡ named_entity c plan rows n
entity_named c plan t n rows h = (
    let f : ℕ = containing_face c n in
    let k : HeldFace c plan t f = held_is c plan t f (and_parts (leb 1 n) (holds_face c plan t f) h).1 in
    let e : face_here t (local_face c plan t f) ≡ face_place c plan f =
    ap (λ b. cond b None (Some (record { tile = t; id = local_face c plan t f }))) (ne_eqb (local_face c plan t f) 1 (above _))
    ∙ ap (λ s. Some (record { tile = s; id = local_face c plan s f })) (sym k.planned)
    ∙ sym (ap (λ b. cond b None (Some (record { tile = plan f; id = local_face c plan (plan f) f }))) (ne_eqb f 1 k.other)) in
    ap (λ p. record { face = p; carried = (kth rows n absent_entity).carried }) e)

entities_are : (c : Primitives) (plan : ℕ → ℕ) (tiles t : ℕ) (rows : List EntityPrimitive) → is_made c plan tiles t ≡ true → c.entities ≡ Some rows
    → tile_entities (tiled_library c plan tiles) t ≡ numbered (numbered_entity c plan t rows) (held_entities c plan t)
entities_are c plan tiles t rows m e =
    ap entities_in (tile_is c plan tiles t m)
    ∙ ap (λ o. unwrap_or (option_map (λ v. numbered (numbered_entity c plan t v) (held_entities c plan t)) o) []) e

-- the entity nodes of a tile
tile_entities_named : (c : Primitives) (plan : ℕ → ℕ) (tiles : ℕ) → IsTileable c plan tiles → (rows : List EntityPrimitive) → c.entities ≡ Some rows → (t : ℕ)
    → whole_entities (tiled_library c plan tiles) t ≡ map (named_entity c plan rows) (held_entities c plan t)
tile_entities_named c plan tiles w rows e t = elim (cases_Bool (is_made c plan tiles t)) [
  | inr g ↦
      ap (λ b. map (read t) (entities_in (cond b (Some (tiled_primitives c plan t)) None))) g
      ∙ sym (ap (map (named_entity c plan rows)) (filter_empty (holds_entity c plan t) (λ n. none n g) (up_to (length (tile_entities (untiled c) 0)))))
  | inl m ↦
      ap (map (read t)) (entities_are c plan tiles t rows m e)
      ∙ map_numbered (read t) (numbered_entity c plan t rows) at_rank (λ k n. refl) 1 (held_entities c plan t)
      ∙ map_passing at_rank (named_entity c plan rows) (holds_entity c plan t) (λ n h. entity_named c plan t n rows h)
      (up_to (length (tile_entities (untiled c) 0)))
]
  where
    read : ℕ → EntityPrimitive → WholeEntity
    read s row = record { face = face_here s (id_of row.containing_face); carried = row.carried }

    at_rank : ℕ → WholeEntity
    at_rank n = record { face = face_here t (local_face c plan t (containing_face c n)); carried = (kth rows n absent_entity).carried }

    none : (n : ℕ) → is_made c plan tiles t ≡ false → holds_entity c plan t n ≡ false
    none n g = elim (cases_Bool (holds_entity c plan t n)) [
      | inr f ↦ f
      | inl h ↦
          absurd (never_both (holds_face c plan t (containing_face c n)) (and_parts (leb 1 n) (holds_face c plan t (containing_face c n)) h).1
          (none_held c plan tiles t w g (containing_face c n)))
    ]

-- without a table of entity nodes no tile has one, and with one the first tile has
no_entities : (c : Primitives) (plan : ℕ → ℕ) (tiles t : ℕ) → c.entities ≡ None → has_entities ((tiled_library c plan tiles).tile t) ≡ false
no_entities c plan tiles t e = elim (cases_Bool (is_made c plan tiles t)) [
  | inr g ↦ ap (λ b. has_entities (cond b (Some (tiled_primitives c plan t)) None)) g
  | inl m ↦
      ap has_entities (tile_is c plan tiles t m)
      ∙ ap (λ o. is_some (option_map (λ v. numbered (numbered_entity c plan t v) (held_entities c plan t)) o)) e
]

some_entities : (c : Primitives) (plan : ℕ → ℕ) (tiles : ℕ) → 1 ≤ tiles → (rows : List EntityPrimitive) → c.entities ≡ Some rows
    → list_any (λ t. has_entities ((tiled_library c plan tiles).tile t)) (tiles_in (tiled_library c plan tiles)) ≡ true
some_entities c plan tiles one rows e = (
    let m : is_made c plan tiles 1 ≡ true = first_made c plan tiles one in
    let h : has_entities ((tiled_library c plan tiles).tile 1) ≡ true =
    ap has_entities (tile_is c plan tiles 1 m) ∙ ap (λ o. is_some (option_map (λ v. numbered (numbered_entity c plan 1 v) (held_entities c plan 1)) o)) e in
    any_from (λ t. has_entities ((tiled_library c plan tiles).tile t)) (tiles_in (tiled_library c plan tiles)) 1 (up_stands tiles 1 (omega arith) one) h)

entities_by : (c : Primitives) (plan : ℕ → ℕ) (tiles : ℕ) → IsTileable c plan tiles → (o : Option (List EntityPrimitive)) → c.entities ≡ o
    → (whole_of (tiled_library c plan tiles)).entities
    ≡ option_map (λ rows. flat_map (λ t. map (named_entity c plan rows) (held_entities c plan t)) (up_to tiles)) o
entities_by c plan tiles w None e =
    ap (λ b. cond b (Some (flat_map (whole_entities (tiled_library c plan tiles)) (tiles_in (tiled_library c plan tiles)))) None)
    (none_passes (λ t. has_entities ((tiled_library c plan tiles).tile t)) (λ t. no_entities c plan tiles t e) (tiles_in (tiled_library c plan tiles)))
entities_by c plan tiles w (Some rows) e =
    ap (λ b. cond b (Some (flat_map (whole_entities (tiled_library c plan tiles)) (tiles_in (tiled_library c plan tiles)))) None)
    (some_entities c plan tiles w.plans.some rows e)
    ∙ ap (λ (g : ℕ → List WholeEntity). Some (flat_map g (up_to tiles))) (fun_ext (tile_entities_named c plan tiles w rows e))

pub entities_are_named : EntitiesAreNamed
entities_are_named c plan tiles w = entities_by c plan tiles w c.entities refl
