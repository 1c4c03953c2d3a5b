-- The tables of a tiled library row by row, and what its tiles carry.
use Rattle.std.proofs.lemmas.List.FromFn.{length-range_with_len}
use Rattle.std.proofs.Common.{[], ◌≡◌, ℕ, zero, suc, ◌+◌, ◌^◌, ◌<◌, ◌≤◌, Bool, true, false, not, cond, eqb, leb, ◌||◌, ◌&&◌, refl, sym, ap, ◌∙◌, subst, inl, inr, arith, Option, Some, None, List, ◌∷◌, length, get_or}
use Rattle.std.specs.Prelude.{filter}
use Rattle.std.specs.List.{list_any}
use Rattle.std.specs.Option.{unwrap_or, option_map}
use Rattle.std.proofs.lemmas.Bool.{cases_Bool, cases_eq, and_parts, and_from, leb-true, le-leb}
use Rattle.vpf_darts.specs.Darts.{tile_in, flip}
use Rattle.vpf_prims.specs.Lists.{kth}
use Rattle.vpf_tiling.specs.Ranks.{rank, up_to, numbered_from, numbered}
use Rattle.vpf_prims.specs.Primitives.{Primitives, Library, EntityPrimitive, absent_face, absent_entity, absent_node, edges_in, faces_in, nodes_in, entities_in, tile_faces, tile_entities, edge_count, has_tables, is_there}
use Rattle.vpf_prims.specs.References.{id_of}
use Rattle.vpf_tiling.specs.Presence.{untiled_links, next_of, tail_of, head_of, home, is_present, has_node, present_edges, held_faces, held_entities, local_node, copy_in}
use Rattle.vpf_tiling.specs.Tiles.{tiled_edge, tiled_edges, numbered_node, numbered_entity, tiled_primitives, tiled_library, is_made}
use Rattle.vpf_trace.specs.Agreeing.{AreInhabited}
use Rattle.vpf_findings.specs.Firsts.{unless}
use Rattle.vpf_findings.specs.Inner.FirstLaws.{over_none}
use Rattle.vpf_trace.specs.CarriedLines.{first_passing, first_tile, node_carried}
use Rattle.vpf_prims.specs.Numbering.{IsRowOf}
use Rattle.vpf_prims.specs.Libraries.{IsLibrary}
use Rattle.vpf_tiling.specs.Plans.{IsTileable}
use Rattle.vpf_tiling_laws.proofs.tiled.Parts.{HasLinks, OfTiled, NodeCarried, UniverseCarried, TiledAcross}
use Rattle.vpf_wing.specs.Inner.DartLaws.{never_both, none_is_some, same_some, some-or-none}
use Rattle.vpf_tiling_laws.proofs.tiled.Facts.{MapLaws}
use Rattle.vpf_tiling_laws.proofs.tiled.CopyLemmas.{copy_at, copies_have_links, made, tile_is, edges_are}
use Rattle.vpf_tiling_laws.proofs.tiled.SideLemmas.{present_home, node_there, above}
use Rattle.vpf_tiling_laws.proofs.tiled.FollowLemmas.{library_links, reference_id, link_here, link_there}
use Rattle.vpf_tiling_laws.proofs.tiled.AcrossLemmas.{at_each, one_inside, inside_plain, outside_part, same_part, follows, follow_apart, home_flip, home_sign, home_mark, home_carried, goes_on, tiled_loops}
use Rattle.vpf_tiling.specs.Inner.PresenceLaws.{InNodes, held, no_node_zero, present_flip, present_has, source_next, tail_in_nodes, tail_next}
use Rattle.vpf_tiling.specs.Inner.RankLaws.{count_is, numbered_many, rank_rises, row_of_number}
use Rattle.vpf_trace.specs.CarriedLaws.{passing_is}

pub numbered_at : {X R : Type 0} → (row : ℕ → X → R) (k : ℕ) (xs : List X) (j : ℕ) (d : R) (x : X) → j < length xs
    → get_or (numbered_from k row xs) j d ≡ row (j + k) (get_or xs j x)
numbered_at row k [] j d x h = absurd (omega arith)
numbered_at row k (y ∷ ys) zero d x h = ap (λ n. row n y) (let e : k ≡ 0 + k = omega arith in e)
numbered_at row k (y ∷ ys) (suc j) d x h =
    numbered_at row (suc k) ys j d x (omega arith) ∙ ap (λ n. row n (get_or ys j x)) (let e : j + suc k ≡ suc j + k = omega arith in e)

-- row k of a table whose rows are numbered
pub item_numbered : {X R : Type 0} → (row : ℕ → X → R) (xs : List X) (k : ℕ) (d : R) (x : X) → IsRowOf (length xs) k
    → kth (numbered row xs) k d ≡ row k (kth xs k x)
item_numbered row xs zero d x r = absurd (let a = r.0 in omega arith)
item_numbered row xs (suc j) d x r =
    (let b = r.1 in numbered_at row 1 xs j d x (omega arith) ∙ ap (λ n. row n (get_or xs j x)) (let e : j + 1 ≡ suc j = omega arith in e))

-- the rank of a number that passes is a row of those that pass
pub rank_row : (p : ℕ → Bool) → p 0 ≡ false → (n e : ℕ) → p e ≡ true → e ≤ n → IsRowOf (length (filter p (up_to n))) (rank p e + 1)
rank_row p z n e h le =
    (let many : length (filter p (up_to n)) ≡ rank p (suc n) = count_is p z n in let r : rank p e < rank p (suc n) = rank_rises p e n h le in
    (omega arith, omega arith))

pub made_at : (c : Primitives) (plan : ℕ → ℕ) (tiles : ℕ) → IsTileable c plan tiles → (t d : ℕ) → is_present c plan t d ≡ true → is_made c plan tiles t ≡ true
made_at c plan tiles w t d h = made c plan tiles t w.plans (held c plan t d h)

pub made_from : (c : Primitives) (plan : ℕ → ℕ) (tiles t : ℕ) → has_tables (tiled_library c plan tiles) t ≡ true → is_made c plan tiles t ≡ true
made_from c plan tiles t h = elim (cases_Bool (is_made c plan tiles t)) [
  | inl m ↦ m
  | inr n ↦ absurd (never_both (has_tables (tiled_library c plan tiles) t) h (ap (λ b. is_there (cond b (Some (tiled_primitives c plan t)) None)) n))
]

pub made_tables : (c : Primitives) (plan : ℕ → ℕ) (tiles t : ℕ) → is_made c plan tiles t ≡ true → has_tables (tiled_library c plan tiles) t ≡ true
made_tables c plan tiles t m = ap is_there (tile_is c plan tiles t m)

-- the row of the node where a present dart begins
pub node_row_at : (c : Primitives) (plan : ℕ → ℕ) (tiles : ℕ) → IsTileable c plan tiles → (t d : ℕ) → is_present c plan t d ≡ true
    → node_carried (tiled_library c plan tiles) t (local_node c plan t (tail_of c d)) ≡ (kth c.nodes (tail_of c d) absent_node).carried
node_row_at c plan tiles w t d h = (
    let n : ℕ = tail_of c d in
    let i : InNodes c n = tail_in_nodes c w.well_formed d (present_has c plan t d h) in
    ap (λ o. (kth (nodes_in o) (local_node c plan t n) absent_node).carried) (tile_is c plan tiles t (made_at c plan tiles w t d h))
    ∙ ap (λ r.
    r.carried) (row_of_number (numbered_node c (tiled_edges c plan t)) (has_node c plan t) (length c.nodes) n absent_node
    (no_node_zero c plan w.well_formed t) (node_there c plan t d h) i.from_one i.to_last))

pub nodes_carry : OfTiled NodeCarried
nodes_carry c plan tiles w x p hx e =
    at_each (λ x. ((library_links c plan tiles).node x).out ≡ Some p
    → node_carried (tiled_library c plan tiles) (tile_in x) ((library_links c plan tiles).node x).id
    ≡ node_carried (tiled_library c plan tiles) p.tile p.id) c plan tiles w (λ t d h o. (
    let L : Library = tiled_library c plan tiles in
    let x : ℕ = copy_in c plan t d in
    let s : ℕ = home c plan (next_of c d) in
    let hd : (untiled_links c).has d ≡ true = present_has c plan t d h in
    let q : HasLinks c plan tiles t d = copies_have_links c plan tiles w t d h in
    elim (cases_eq s t) [
      | inl same ↦ absurd (none_is_some p (sym (ap (λ k. k.out) q.node ∙ ap (λ k. k.out) (link_here t s _ _ same)) ∙ o))
      | inr ne ↦ (
          let there : ℕ = local_node c plan s (head_of c d) in
          let is : p ≡ record { tile = s; id = there } =
          same_some p (record { tile = s; id = there }) (sym o ∙ ap (λ k. k.out) q.node
          ∙ ap (λ k. k.out) (link_there t s (local_node c plan t (head_of c d)) there ne)) in
          let near : node_carried L t (local_node c plan t (head_of c d)) ≡ (kth c.nodes (head_of c d) absent_node).carried =
          node_row_at c plan tiles w t (flip d) (present_flip c plan t d h) in
          let tails : tail_of c (next_of c d) ≡ head_of c d = tail_next c w.well_formed d hd in
          let far : node_carried L s there ≡ (kth c.nodes (head_of c d) absent_node).carried =
          subst (λ n. node_carried L s (local_node c plan s n) ≡ (kth c.nodes n absent_node).carried) tails
          (node_row_at c plan tiles w s (next_of c d) (present_home c plan tiles w (next_of c d) (source_next c w.well_formed d hd).has)) in
          ap (λ z. node_carried L z ((library_links c plan tiles).node x).id) (copy_at c plan tiles w t d h).tile
          ∙ ap (λ z. node_carried L t z) (ap (λ k. k.id) q.node ∙ reference_id t _ _ _)
          ∙ near ∙ sym far ∙ sym (ap (λ z. node_carried L z.tile z.id) is))
    ])) x hx e

pub universe_row : (c : Primitives) (plan : ℕ → ℕ) (tiles t : ℕ) → is_made c plan tiles t ≡ true
    → (kth (tile_faces (tiled_library c plan tiles) t) 1 absent_face).carried ≡ (kth c.faces 1 absent_face).carried
universe_row c plan tiles t m = ap (λ o. (kth (faces_in o) 1 absent_face).carried) (tile_is c plan tiles t m)

pub first_made : (c : Primitives) (plan : ℕ → ℕ) (tiles : ℕ) → 1 ≤ tiles → is_made c plan tiles 1 ≡ true
first_made c plan tiles h =
    and_from (leb 1 1 && leb 1 tiles) (eqb 1 1 || list_any (λ f. true) (held_faces c plan 1)) (and_from (leb 1 1) (leb 1 tiles) refl (le-leb 1 tiles h)) refl

pub first_tables : (c : Primitives) (plan : ℕ → ℕ) (tiles : ℕ) → 1 ≤ tiles
    → has_tables (tiled_library c plan tiles) (first_tile (tiled_library c plan tiles)) ≡ true
unfolding first_tile
first_tables c plan tiles h =
    let L : Library = tiled_library c plan tiles in
    let one : has_tables L 1 ≡ true = made_tables c plan tiles 1 (first_made c plan tiles h) in
    elim (some-or-none (first_passing (has_tables L) 0 (tiles + 1))) [
      | inl s ↦ ap (λ o. has_tables L (unwrap_or o 0)) s.1 ∙ passing_is (has_tables L) 0 (tiles + 1) s.0 s.1
      | inr none ↦ (
          let silent : unless (not (has_tables L 1)) 1 ≡ None =
          over_none (λ t. unless (not (has_tables L t)) t) 0 (tiles + 1) none 1 (omega arith) (omega arith) in
          let said : unless (not (has_tables L 1)) 1 ≡ Some 1 = ap (λ b. unless (not b) 1) one in
          absurd (none_is_some 1 (sym silent ∙ said)))
    ]

pub universes_carry : OfTiled UniverseCarried
universes_carry c plan tiles w t h =
    universe_row c plan tiles t (made_from c plan tiles t h)
    ∙ sym (universe_row c plan tiles (first_tile (tiled_library c plan tiles))
    (made_from c plan tiles (first_tile (tiled_library c plan tiles)) (first_tables c plan tiles w.plans.some)))

-- a row of entity nodes of a tile
pub record EntityAt (c : Primitives) (plan : ℕ → ℕ) (tiles t n : ℕ) : Type 0 where
  pub made : is_made c plan tiles t ≡ true
  pub rows : List EntityPrimitive
  pub is : kth (tile_entities (tiled_library c plan tiles) t) n absent_entity ≡ numbered_entity c plan t rows n (kth (held_entities c plan t) n 0)
  pub there : IsRowOf (length (held_entities c plan t)) n

pub optional : (g : List EntityPrimitive → List EntityPrimitive) (n : ℕ) (o : Option (List EntityPrimitive))
    → IsRowOf (length (unwrap_or (option_map g o) [])) n
    → (rows : List EntityPrimitive) × (kth (unwrap_or (option_map g o) []) n absent_entity ≡ kth (g rows) n absent_entity) × IsRowOf (length (g rows)) n
optional g n None r = absurd (let a = r.0 in let b = r.1 in omega arith)
optional g n (Some rows) r = (rows, refl, r)

pub entity_at : (c : Primitives) (plan : ℕ → ℕ) (tiles t n : ℕ) → IsRowOf (length (tile_entities (tiled_library c plan tiles) t)) n → EntityAt c plan tiles t n
entity_at c plan tiles t n r = elim (cases_Bool (is_made c plan tiles t)) [
  | inl m ↦ (
      let there : List ℕ = held_entities c plan t in
      let g : List EntityPrimitive → List EntityPrimitive = λ rows. numbered (numbered_entity c plan t rows) there in
      let e : tile_entities (tiled_library c plan tiles) t ≡ unwrap_or (option_map g c.entities) [] = ap entities_in (tile_is c plan tiles t m) in
      let o : (rows : List EntityPrimitive) × (kth (unwrap_or (option_map g c.entities) []) n absent_entity ≡ kth (g rows) n absent_entity)
      × IsRowOf (length (g rows)) n = optional g n c.entities (subst (λ z. IsRowOf (length z) n) e r) in
      let s : IsRowOf (length there) n = subst (λ z. IsRowOf z n) (numbered_many (numbered_entity c plan t o.0) 1 there) o.2 in
      record {
        made = m;
        rows = o.0;
        is = ap (λ z. kth z n absent_entity) e ∙ o.1 ∙ item_numbered (numbered_entity c plan t o.0) there n absent_entity 0 s;
        there = s;
      })
  | inr f ↦
      (let z : length (tile_entities (tiled_library c plan tiles) t) ≡ 0 = ap (λ b. length (entities_in (cond b (Some (tiled_primitives c plan t)) None))) f in
      absurd (let a = r.0 in let b = r.1 in omega arith))
]

pub entity_inside : OfTiled AreInhabited
entity_inside c plan tiles w t n r e =
    (let a : EntityAt c plan tiles t n = entity_at c plan tiles t n r in above _ (sym (ap (λ z. id_of z.containing_face) a.is) ∙ e))

pub tiled_across : MapLaws → TiledAcross
tiled_across law c plan tiles w = record {
  sides = record {
    one_inside = one_inside c plan tiles w;
    loops = tiled_loops c plan tiles w;
    inside_plain = inside_plain c plan tiles w;
    outside_part = outside_part c plan tiles w;
    same_part = same_part c plan tiles w;
  };
  follows = record { follows = follows law c plan tiles w; follow_apart = follow_apart law c plan tiles w };
  homes = record {
    flips = home_flip law c plan tiles w;
    signs = home_sign law c plan tiles w;
    marks = home_mark law c plan tiles w;
    carried = home_carried law c plan tiles w;
  };
  rounds = goes_on law c plan tiles w;
  carried = record { nodes = nodes_carry c plan tiles w; universe = universes_carry c plan tiles w };
  inhabited = entity_inside c plan tiles w;
}

pub filter_few : (p : ℕ → Bool) (xs : List ℕ) → length (filter p xs) ≤ length xs
filter_few p [] = omega arith
filter_few p (x ∷ xs) = (let e : length (filter p xs) ≤ length xs = filter_few p xs in elim (cases_Bool (p x)) [
  | inl t ↦ rw t (more (length (filter p xs)) (length xs) e)
  | inr f ↦ rw f (over (length (filter p xs)) (length xs) e)
])
  where
    more : (a b : ℕ) → a ≤ b → suc a ≤ suc b
    more a b h = omega arith

    over : (a b : ℕ) → a ≤ b → a ≤ suc b
    over a b h = omega arith

pub tiled_is_library : OfTiled IsLibrary
tiled_is_library c plan tiles w = record {
  few = λ t. elim (cases_Bool (is_made c plan tiles t)) [
    | inl m ↦ (
        let many : edge_count (tiled_library c plan tiles) t ≡ length (present_edges c plan t) =
        ap length (edges_are c plan tiles t m) ∙ numbered_many (tiled_edge c plan t) 1 (present_edges c plan t) in
        let small : length (present_edges c plan t) ≤ length (up_to (length c.edges)) = filter_few _ (up_to (length c.edges)) in
        let all : length (up_to (length c.edges)) ≡ length c.edges = length-range_with_len 1 (length c.edges) in
        let few : length c.edges < 2 ^ 24 = w.few in
        omega arith)
    | inr f ↦
        (let z : edge_count (tiled_library c plan tiles) t ≡ 0 = ap (λ b. length (edges_in (cond b (Some (tiled_primitives c plan t)) None))) f in omega arith)
  ];
  none_after = λ t lt. elim (cases_Bool (is_made c plan tiles t)) [
    | inl m ↦ (
        let q = and_parts (leb 1 t && leb t tiles) (eqb t 1 || list_any (λ f. true) (held_faces c plan t)) m in
        let le : t ≤ tiles = leb-true t tiles (and_parts (leb 1 t) (leb t tiles) q.0).1 in
        absurd (omega arith))
    | inr f ↦ ap (λ b. cond b (Some (tiled_primitives c plan t)) None) f
  ];
  from_one = λ h. refl;
  one = λ h. absurd (never_both true refl h);
  some = 1;
  has_some = made_tables c plan tiles 1 (first_made c plan tiles w.plans.some);
}
