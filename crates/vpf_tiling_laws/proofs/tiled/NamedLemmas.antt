-- The map of the tiled library is the coverage's map with each dart called by its name.
use Rattle.std.proofs.Common.{◌≡◌, ℕ, ◌≤◌, Bool, true, cond, eqb, leb, ◌&&◌, sym, ap, ◌∙◌, subst, inl, inr, arith, Some, None, length}
use Rattle.std.specs.Option.{unwrap_or}
use Rattle.std.proofs.lemmas.Bool.{cases_Bool, and_parts, and_from, eqb-true, eq-eqb, leb-true, le-leb}
use mathlib.Core.Path.{fun_ext}
use Rattle.vpf_darts.specs.Darts.{tile_in, edge_in, flip}
use Rattle.vpf_tiling_laws.proofs.tiled.Facts.{MapLaws}
use Rattle.vpf_darts.specs.Maps.{DartMap}
use Rattle.vpf_prims.specs.Primitives.{Primitives, Library, edges_in, edge_count}
use Rattle.vpf_wing.specs.Links.{DartLinks}
use Rattle.vpf_follow.specs.Following.{is_home, follow, home_copy, library_map}
use Rattle.vpf_tiling.specs.Presence.{untiled_links, coverage_map, next_of, home, present_edges, copy_in, dart_name}
use Rattle.vpf_tiling.specs.Tiles.{tiled_edge, tiled_primitives, tiled_library, is_made}
use Rattle.vpf_tiling_laws.specs.Tiled.Names.{dart_behind, is_name, named_map}
use Rattle.vpf_tiling.specs.Plans.{IsTileable}
use Rattle.vpf_tiling_laws.specs.Inner.Tiled.Laws.{MapIsNamed}
use Rattle.vpf_wing.specs.Inner.DartLaws.{never_both, IsThere, has-there}
use Rattle.vpf_tiling_laws.proofs.tiled.CopyLemmas.{edges_are}
use Rattle.vpf_tiling_laws.proofs.tiled.FollowLemmas.{home_at, following_is_next, library_links, copy_flip}
use Rattle.vpf_tiling_laws.proofs.tiled.NameLemmas.{IsCopyOf, copy_by_number, library_copy, home_is_name}
use Rattle.vpf_follow.specs.Inner.FollowLaws.{home_has}
use Rattle.vpf_tiling.specs.Inner.PresenceLaws.{present_flip, present_has}
use Rattle.vpf_tiling.specs.Inner.RankLaws.{numbered_many}

-- the parts of being a name
pub record NameIs (c : Primitives) (plan : ℕ → ℕ) (x : ℕ) : Type 0 where
  pub from_one : 1 ≤ edge_in x
  pub to_last : edge_in x ≤ length (present_edges c plan (tile_in x))
  pub home : home c plan (dart_behind c plan x) ≡ tile_in x

pub name_parts : (c : Primitives) (plan : ℕ → ℕ) (x : ℕ) → is_name c plan x ≡ true → NameIs c plan x
name_parts c plan x h = (
    let a =
    and_parts (leb 1 (edge_in x) && leb (edge_in x) (length (present_edges c plan (tile_in x)))) (eqb (home c plan (dart_behind c plan x)) (tile_in x)) h in
    let b = and_parts (leb 1 (edge_in x)) (leb (edge_in x) (length (present_edges c plan (tile_in x)))) a.0 in
    record { from_one = leb-true 1 (edge_in x) b.0; to_last = leb-true (edge_in x) _ b.1; home = eqb-true _ _ a.1 })

pub name_from : (c : Primitives) (plan : ℕ → ℕ) (x : ℕ) → NameIs c plan x → is_name c plan x ≡ true
name_from c plan x n =
    and_from (leb 1 (edge_in x) && leb (edge_in x) (length (present_edges c plan (tile_in x)))) (eqb (home c plan (dart_behind c plan x)) (tile_in x))
    (and_from (leb 1 (edge_in x)) (leb (edge_in x) (length (present_edges c plan (tile_in x)))) (le-leb 1 (edge_in x) n.from_one)
    (le-leb (edge_in x) (length (present_edges c plan (tile_in x))) n.to_last)) (eq-eqb _ _ n.home)

-- whether a number is at home, by the dart behind it
pub home_behind : (c : Primitives) (plan : ℕ → ℕ) (tiles : ℕ) → IsTileable c plan tiles → (x : ℕ) → IsCopyOf c plan x
    → is_home (library_links c plan tiles) x ≡ eqb (tile_in x) (home c plan (dart_behind c plan x))
home_behind c plan tiles w x k =
    subst (λ v. is_home (library_links c plan tiles) v ≡ eqb (tile_in x) (home c plan (dart_behind c plan x))) k.copy
    (home_at c plan tiles w (tile_in x) (dart_behind c plan x) k.present)

pub few_edges : (c : Primitives) (plan : ℕ → ℕ) (tiles : ℕ) → IsTileable c plan tiles → (x : ℕ) → (library_links c plan tiles).has x ≡ true
    → edge_in x ≤ length (present_edges c plan (tile_in x))
few_edges c plan tiles w x h = (
    let L : Library = tiled_library c plan tiles in
    let i : IsThere L x = has-there L x h in
    let a = i.from_one in
    let b = i.to_count in
    elim (cases_Bool (is_made c plan tiles (tile_in x))) [
      | inl m ↦
          (let many : edge_count L (tile_in x) ≡ length (present_edges c plan (tile_in x)) = ap length (edges_are c plan tiles (tile_in x) m)
          ∙ numbered_many (tiled_edge c plan (tile_in x)) 1 (present_edges c plan (tile_in x)) in omega arith)
      | inr g ↦
          (let z : edge_count L (tile_in x) ≡ 0 = ap (λ v. length (edges_in (cond v (Some (tiled_primitives c plan (tile_in x))) None))) g in
          absurd (omega arith))
    ])

pub home_named : (c : Primitives) (plan : ℕ → ℕ) (tiles : ℕ) → IsTileable c plan tiles → (x : ℕ) → is_home (library_links c plan tiles) x ≡ true
    → is_name c plan x ≡ true
home_named c plan tiles w x h = (
    let hx : (library_links c plan tiles).has x ≡ true = home_has (library_links c plan tiles) x h in
    let k : IsCopyOf c plan x = library_copy c plan tiles w x hx in
    name_from c plan x (record {
      from_one = (has-there (tiled_library c plan tiles) x hx).from_one;
      to_last = few_edges c plan tiles w x hx;
      home = sym (eqb-true (tile_in x) _ (sym (home_behind c plan tiles w x k) ∙ h));
    }))

pub named_home : (c : Primitives) (plan : ℕ → ℕ) (tiles : ℕ) → IsTileable c plan tiles → (x : ℕ) → is_name c plan x ≡ true
    → is_home (library_links c plan tiles) x ≡ true
named_home c plan tiles w x h = (
    let n : NameIs c plan x = name_parts c plan x h in
    let k : IsCopyOf c plan x = copy_by_number c plan x w.few n.from_one n.to_last in
    home_behind c plan tiles w x k ∙ eq-eqb (tile_in x) _ (sym n.home))

-- the home darts are the names
pub home_is_named : (c : Primitives) (plan : ℕ → ℕ) (tiles : ℕ) → IsTileable c plan tiles → (x : ℕ) → is_home (library_links c plan tiles) x ≡ is_name c plan x
home_is_named c plan tiles w x = elim (cases_Bool (is_home (library_links c plan tiles) x)) [
  | inl h ↦ h ∙ sym (home_named c plan tiles w x h)
  | inr g ↦ (elim (cases_Bool (is_name c plan x)) [
    | inl n ↦ absurd (never_both (is_home (library_links c plan tiles) x) (named_home c plan tiles w x n) g)
    | inr m ↦ g ∙ sym m
  ])
]

pub map_equal : (m n : DartMap) → m.has ≡ n.has → m.next ≡ n.next → m.flip ≡ n.flip → m.live ≡ n.live → m ≡ n
map_equal m n p q r s =
    ap (λ (z : ℕ → Bool). record { has = z; next = m.next; flip = m.flip; live = m.live }) p
    ∙ ap (λ (z : ℕ → ℕ). record { has = n.has; next = z; flip = m.flip; live = m.live }) q
    ∙ ap (λ (z : ℕ → ℕ). record { has = n.has; next = n.next; flip = z; live = m.live }) r
    ∙ ap (λ (z : ℕ → Bool). record { has = n.has; next = n.next; flip = n.flip; live = z }) s

pub map_is_named : MapLaws → MapIsNamed
map_is_named law c plan tiles w = (
    let C : DartLinks = library_links c plan tiles in
    map_equal (library_map C) (named_map c plan (coverage_map c)) (fun_ext (home_is_named c plan tiles w)) (fun_ext nexts) (fun_ext flips) (fun_ext lives))
  where
    behind : (x : ℕ) → is_home (library_links c plan tiles) x ≡ true → IsCopyOf c plan x
    behind x h = library_copy c plan tiles w x (home_has (library_links c plan tiles) x h)

    nexts : (x : ℕ) → (library_map (library_links c plan tiles)).next x ≡ (named_map c plan (coverage_map c)).next x
    nexts x = elim (cases_Bool (is_home (library_links c plan tiles) x)) [
      | inl h ↦ (
          let k : IsCopyOf c plan x = behind x h in
          let f : follow (library_links c plan tiles) x ≡ Some (dart_name c plan (next_of c (dart_behind c plan x))) =
          subst (λ v. follow (library_links c plan tiles) v ≡ Some (dart_name c plan (next_of c (dart_behind c plan x)))) k.copy
          (following_is_next law c plan tiles w (tile_in x) (dart_behind c plan x) k.present) in
          ap (λ b. cond b (unwrap_or (follow (library_links c plan tiles) x) x) x) h ∙ ap (λ o. unwrap_or o x) f
          ∙ sym (ap (λ b. cond b (dart_name c plan (next_of c (dart_behind c plan x))) x) (home_named c plan tiles w x h)))
      | inr g ↦ ap (λ b. cond b (unwrap_or (follow (library_links c plan tiles) x) x) x) g
          ∙ sym (ap (λ b. cond b (dart_name c plan (next_of c (dart_behind c plan x))) x) (sym (home_is_named c plan tiles w x) ∙ g))
    ]

    flips : (x : ℕ) → (library_map (library_links c plan tiles)).flip x ≡ (named_map c plan (coverage_map c)).flip x
    flips x = elim (cases_Bool (is_home (library_links c plan tiles) x)) [
      | inl h ↦ (
          let k : IsCopyOf c plan x = behind x h in
          let d : ℕ = dart_behind c plan x in
          let e : flip x ≡ copy_in c plan (tile_in x) (flip d) = ap flip (sym k.copy) ∙ copy_flip c plan (tile_in x) d in
          ap (λ b. cond b (home_copy (library_links c plan tiles) (flip x)) x) h ∙ ap (home_copy (library_links c plan tiles)) e
          ∙ home_is_name law c plan tiles w (tile_in x) (flip d) (present_flip c plan (tile_in x) d k.present)
          ∙ sym (ap (λ b. cond b (dart_name c plan (flip d)) x) (home_named c plan tiles w x h)))
      | inr g ↦ ap (λ b. cond b (home_copy (library_links c plan tiles) (flip x)) x) g
          ∙ sym (ap (λ b. cond b (dart_name c plan (flip (dart_behind c plan x))) x) (sym (home_is_named c plan tiles w x) ∙ g))
    ]

    lives : (x : ℕ) → (library_map (library_links c plan tiles)).live x ≡ (named_map c plan (coverage_map c)).live x
    lives x = elim (cases_Bool (is_home (library_links c plan tiles) x)) [
      | inl h ↦
          (let k : IsCopyOf c plan x = behind x h in h
          ∙ sym (and_from (is_name c plan x) ((untiled_links c).has (dart_behind c plan x)) (home_named c plan tiles w x h)
          (present_has c plan (tile_in x) (dart_behind c plan x) k.present)))
      | inr g ↦ g ∙ sym (ap (λ b. b && (untiled_links c).has (dart_behind c plan x)) (sym (home_is_named c plan tiles w x) ∙ g))
    ]
