-- What is kept of the edges and nodes of a glued coverage, and the numbers that are read of it.
use Rattle.std.proofs.Common.{◌≡◌, ◌≢◌, ℕ, ◌+◌, ◌<◌, true, false, cond, eqb, sym, ap, ◌∙◌, subst, arith, length, map, get_or}
use Rattle.std.proofs.lemmas.List.{get_or_default, length-map}
use Rattle.vpf_darts.specs.declared.darts.TileDart.{TileDart}
use Rattle.vpf_darts.specs.Darts.{sign_in, tile_dart_code}
use Rattle.vpf_darts.specs.Maps.{IsMap}
use Rattle.vpf_prims.specs.Coverages.{CoverageTables}
use Rattle.vpf_prims.specs.Libraries.{library_of}
use Rattle.vpf_prims.specs.Numbering.{IsRowOf}
use Rattle.vpf_prims.specs.Primitives.{Library}
use Rattle.vpf_wing.specs.Links.{links_of}
use Rattle.vpf_wing.specs.Inner.DartLaws.{stands_in}
use Rattle.vpf_follow.specs.Following.{is_home, library_map}
use Rattle.vpf_wing.specs.Inner.Kept.Kept.{place_among}
use Rattle.vpf_tiling_laws.specs.Gluing.Whole.{whole_of}
use Rattle.vpf_tiling_laws.specs.Gluing.Glued.{edge_number, first_darts, listed_at, node_number, plus_darts}
use Rattle.vpf_renumbering.specs.declared.glued_edges.glued.GluedEdges.TheInside.{Inside}
use Rattle.vpf_renumbering.specs.Inner.GluedEdges.Glued.{KeepsGlued}
use Rattle.vpf_renumbering.proofs.glued_edges.PlusLemmas.{IsPaired, order_home, paired, plus_of, sign_is}
use Rattle.vpf_renumbering.proofs.glued_edges.TurnLemmas.{listed_place}

-- it is of the coverage that is seen
pub kept_of : (g : Inside) (c : CoverageTables) → g.whole ≡ c → KeepsGlued (library_of g.whole) g.darts.items g.edges.items g.nodes
    → KeepsGlued (library_of c) g.darts.items g.edges.items g.nodes
kept_of g c is k = subst (λ v. KeepsGlued (library_of v) g.darts.items g.edges.items g.nodes) is k

pub paired_of : (g : Inside) (c : CoverageTables) → g.whole ≡ c → KeepsGlued (library_of g.whole) g.darts.items g.edges.items g.nodes
    → IsMap (library_map (links_of (library_of g.whole)))
    → ((d : ℕ) → is_home (links_of (library_of g.whole)) d ≡ true → sign_in ((library_map (links_of (library_of g.whole))).flip d) ≢ sign_in d)
    → IsPaired (library_of c)
paired_of g c is k is_map signs = subst (λ v. IsPaired (library_of v)) is (paired (library_of g.whole) g.darts.items k.darts is_map signs)

-- the + dart of the edge of a + dart is itself
pub plus_same : (L : Library) (d : TileDart) → d.minus ≡ false → tile_dart_code d ≡ plus_of L (tile_dart_code d)
plus_same L d plus =
    sym (ap (λ s. cond (eqb s 0) (tile_dart_code d) ((library_map (links_of L)).flip (tile_dart_code d))) (sign_is d false plus))

-- that of the edge of a - dart is the other one
pub plus_other : (L : Library) (d : TileDart) → d.minus ≡ true → (library_map (links_of L)).flip (tile_dart_code d) ≡ plus_of L (tile_dart_code d)
plus_other L d minus =
    sym (ap (λ s. cond (eqb s 0) (tile_dart_code d) ((library_map (links_of L)).flip (tile_dart_code d))) (sign_is d true minus))

-- the number of an edge by the place of its + dart
pub edge_placed : (L : Library) (d x place : ℕ) → x ≡ plus_of L d → stands_in x (plus_darts (whole_of L)) ≡ true
    → place ≡ place_among (plus_darts (whole_of L)) x → place + 1 ≡ edge_number (whole_of L) d
edge_placed L d x place is there at =
    ap (λ k. k + 1) at ∙ sym (listed_place x (plus_darts (whole_of L)) there) ∙ ap (λ v. listed_at v (plus_darts (whole_of L))) is

-- each dart has a number
node_inside : (L : Library) (g : Inside) → KeepsGlued L g.darts.items g.edges.items g.nodes → (place : ℕ) → place < length g.darts.items
    → place < length g.nodes.numbers.items
node_inside L g k place h =
    let many : length (map tile_dart_code g.darts.items) ≡ length g.darts.items = length-map g.darts.items tile_dart_code in
    let all : length g.nodes.numbers.items ≡ length (map tile_dart_code g.darts.items) = k.nodes.one_each ∙ ap length (sym k.darts.numbers) in
    omega arith

-- the number of a node as it is kept
pub node_placed : (L : Library) (g : Inside) → KeepsGlued L g.darts.items g.edges.items g.nodes → (d place number : ℕ)
    → is_home (links_of L) d ≡ true → place < length g.darts.items → place ≡ place_among (map tile_dart_code g.darts.items) d
    → number ≡ get_or g.nodes.numbers.items place number → number ≡ node_number (whole_of L) d
node_placed L g k d place number here inside at is =
    is ∙ get_or_default g.nodes.numbers.items place number 0 (node_inside L g k place inside)
    ∙ ap (λ i. get_or g.nodes.numbers.items i 0) (at ∙ ap (λ xs. place_among xs d) k.darts.numbers)
    ∙ k.nodes.numbers d (order_home L g.darts.items k.darts d ∙ here)

pub node_row : (L : Library) (g : Inside) → KeepsGlued L g.darts.items g.edges.items g.nodes → (d number : ℕ)
    → is_home (links_of L) d ≡ true → number ≡ node_number (whole_of L) d → IsRowOf (length (first_darts (whole_of L))) number
node_row L g k d number here is =
    subst (IsRowOf (length (first_darts (whole_of L)))) (sym is) (k.nodes.rows d (order_home L g.darts.items k.darts d ∙ here))
