-- Laws of what a rule finds in the tiles of a coverage, edge by edge, and of the darts in them.
use Rattle.std.proofs.Common.{◌≡◌, ℕ, zero, suc, ◌+◌, ◌^◌, ◌<◌, ◌≤◌, Bool, true, false, not, nat_eq, Option, Some, None, length, refl, sym, ap, ◌∙◌, subst, inl, inr, arith}
use Rattle.std.specs.Option.{option_eq}
use Rattle.std.proofs.lemmas.Bool.{cases_lt, eqb-true, eq-eqb}
use Rattle.std.proofs.lemmas.List.{get_or_past}
use Rattle.vpf_darts.specs.Darts.{code, tile_in, edge_in, sign_of}
use Rattle.vpf_findings.specs.Findings.{Disagreement}
use Rattle.vpf_findings.specs.Firsts.{◌or◌, unless}
use Rattle.vpf_findings.specs.Inner.FirstLaws.{or-none_both, over_none, over_silent}
use Rattle.vpf_prims.specs.Lists.{kth}
use Rattle.vpf_prims.specs.Primitives.{absent_edge, edges_in, edge_count}
use Rattle.vpf_prims.specs.Reading.{primitives_of}
use Rattle.vpf_prims.specs.Tables.{TileTables}
use Rattle.vpf_prims.specs.Coverages.{CoverageTables, tile_at, last_tile}
use Rattle.vpf_wing.specs.Links.{links_of, edge_of_dart}
use Rattle.vpf_prims.specs.Libraries.{primitives_in, library_of, in_tile, in_tiles}
use Rattle.vpf_follow.specs.Libraries.{over_edges}
use Rattle.vpf_wing.specs.Inner.DartLaws.{IsThere, has-there, there-has, none_is_some, never_both, code-tile, code-edge, sign-small}

-- a line says nothing exactly where its test holds
pub unless-none : {F : Type 0} (b : Bool) (f : F) → unless b f ≡ None → b ≡ true
unless-none true f h = refl
unless-none false f h = absurd cc

pub unless-true : {F : Type 0} (b : Bool) (f : F) → b ≡ true → unless b f ≡ None
unless-true true f h = refl
unless-true false f h = absurd cc

-- two lines say nothing where neither does
pub or-silent : {F : Type 0} (a b : Option F) → a ≡ None → b ≡ None → (a or b) ≡ None
or-silent a b ha hb = rw (ha, hb) refl

-- a tile that has tables is among those of the coverage
pub tile-below : (c : CoverageTables) (t : ℕ) (T : TileTables) → tile_at c t ≡ Some T → t ≤ last_tile c
tile-below c t T e = elim (cases_lt t (length c.tiles)) [
  | inl lt ↦ omega arith
  | inr past ↦ absurd (none_is_some T (sym (get_or_past c.tiles t None past) ∙ e))
]

-- nothing is found exactly where nothing is in any tile that has tables
pub tiles-none : (rule : ℕ → TileTables → Option Disagreement) (c : CoverageTables) → in_tiles rule c ≡ None
    → (t : ℕ) (T : TileTables) → tile_at c t ≡ Some T → rule t T ≡ None
unfolding in_tiles
tiles-none rule c none t T e =
    let below : t ≤ last_tile c = tile-below c t T e in
    let here : in_tile (rule t) (tile_at c t) ≡ None =
    over_none (λ s. in_tile (rule s) (tile_at c s)) 0 (last_tile c + 1) none t (omega arith) (omega arith) in
    ap (in_tile (rule t)) (sym e) ∙ here

tile-silent : (rule : TileTables → Option Disagreement) (o : Option TileTables) → ((T : TileTables) → o ≡ Some T → rule T ≡ None) → in_tile rule o ≡ None
tile-silent rule None h = refl
tile-silent rule (Some T) h = h T refl

pub tiles-silent : (rule : ℕ → TileTables → Option Disagreement) (c : CoverageTables)
    → ((t : ℕ) (T : TileTables) → tile_at c t ≡ Some T → rule t T ≡ None) → in_tiles rule c ≡ None
unfolding in_tiles
tiles-silent rule c h =
    over_silent (λ s. in_tile (rule s) (tile_at c s)) 0 (last_tile c + 1) (λ t low high. tile-silent (rule t) (tile_at c t) (h t))

-- the same of the edges of a tile
pub edges-none : (lines : ℕ → Option Disagreement) (T : TileTables) → over_edges lines T ≡ None
    → (k : ℕ) → 1 ≤ k → k ≤ length (primitives_of T.tables).edges → lines k ≡ None
unfolding over_edges
edges-none lines T none zero low high = absurd (omega arith)
edges-none lines T none (suc i) low high =
    let e : i + 1 ≡ suc i = omega arith in
    subst (λ k. lines k ≡ None) e
    (over_none (λ i. lines (i + 1)) 0 (length (primitives_of T.tables).edges) none i (omega arith) (omega arith))

pub edges-silent : (lines : ℕ → Option Disagreement) (T : TileTables)
    → ((k : ℕ) → 1 ≤ k → k ≤ length (primitives_of T.tables).edges → lines k ≡ None) → over_edges lines T ≡ None
unfolding over_edges
edges-silent lines T h =
    over_silent (λ i. lines (i + 1)) 0 (length (primitives_of T.tables).edges) (λ i low high. h (i + 1) (omega arith) (omega arith))

-- the edges of a tile that has tables
pub tile-edges : (c : CoverageTables) (t : ℕ) (T : TileTables) → tile_at c t ≡ Some T
    → edges_in ((library_of c).tile t) ≡ (primitives_of T.tables).edges
tile-edges c t T e = ap (λ o. edges_in (primitives_in o)) e

pub tile-count : (c : CoverageTables) (t : ℕ) (T : TileTables) → tile_at c t ≡ Some T
    → edge_count (library_of c) t ≡ length (primitives_of T.tables).edges
tile-count c t T e = ap length (tile-edges c t T e)

-- the tile of a dart, and its edge there
pub record TileOfDart (c : CoverageTables) (d : ℕ) : Type 0 where
  pub tables : TileTables
  pub at : tile_at c (tile_in d) ≡ Some tables
  pub from_one : 1 ≤ edge_in d
  pub to_count : edge_in d ≤ length (primitives_of tables.tables).edges
  pub edge : edge_of_dart (library_of c) d ≡ kth (primitives_of tables.tables).edges (edge_in d) absent_edge

edges-there : (o : Option TileTables) → 1 ≤ length (edges_in (primitives_in o)) → (T : TileTables) × (o ≡ Some T)
edges-there None h = absurd (omega arith)
edges-there (Some T) h = (T, refl)

pub dart-tile : (c : CoverageTables) (d : ℕ) → (links_of (library_of c)).has d ≡ true → TileOfDart c d
dart-tile c d h =
    let i : IsThere (library_of c) d = has-there (library_of c) d h in
    let low = i.from_one in
    let high = i.to_count in
    let T : (T : TileTables) × (tile_at c (tile_in d) ≡ Some T) = edges-there (tile_at c (tile_in d)) (omega arith) in
    record {
      tables = T.0;
      at = T.1;
      from_one = i.from_one;
      to_count = subst (λ n. edge_in d ≤ n) (tile-count c (tile_in d) T.0 T.1) i.to_count;
      edge = ap (λ es. kth es (edge_in d) absent_edge) (tile-edges c (tile_in d) T.0 T.1);
    }

-- a dart of an edge of a tile
pub record DartOfEdge (c : CoverageTables) (t : ℕ) (T : TileTables) (k : ℕ) (minus : Bool) : Type 0 where
  pub has : (links_of (library_of c)).has (code t k (sign_of minus)) ≡ true
  pub tile : tile_in (code t k (sign_of minus)) ≡ t
  pub number : edge_in (code t k (sign_of minus)) ≡ k
  pub edge : edge_of_dart (library_of c) (code t k (sign_of minus)) ≡ kth (primitives_of T.tables).edges k absent_edge

pub edge-dart : (c : CoverageTables) (t : ℕ) (T : TileTables) (k : ℕ) (minus : Bool) → edge_count (library_of c) t < 2 ^ 24 → tile_at c t ≡ Some T
    → 1 ≤ k → k ≤ length (primitives_of T.tables).edges → DartOfEdge c t T k minus
edge-dart c t T k minus few e low high =
    let count : edge_count (library_of c) t ≡ length (primitives_of T.tables).edges = tile-count c t T e in
    let most : k ≤ edge_count (library_of c) t = omega arith in
    let small : k < 2 ^ 32 = omega arith in
    let tile : tile_in (code t k (sign_of minus)) ≡ t = code-tile t k (sign_of minus) small (sign-small minus) in
    let number : edge_in (code t k (sign_of minus)) ≡ k = code-edge t k (sign_of minus) small (sign-small minus) in
    record {
      has = there-has (library_of c) (code t k (sign_of minus)) (record {
        from_one = subst (λ n. 1 ≤ n) (sym number) low;
        to_count = subst (λ s. edge_in (code t k (sign_of minus)) ≤ edge_count (library_of c) s) (sym tile)
            (subst (λ n. n ≤ edge_count (library_of c) t) (sym number) most);
        to_last = subst (λ s. s ≤ last_tile c) (sym tile) (tile-below c t T e);
      });
      tile = tile;
      number = number;
      edge = ap (λ s. kth (edges_in ((library_of c).tile s)) (edge_in (code t k (sign_of minus))) absent_edge) tile
          ∙ ap (λ n. kth (edges_in ((library_of c).tile t)) n absent_edge) number
          ∙ ap (λ es. kth es k absent_edge) (tile-edges c t T e);
    }

-- the lines on both darts of an edge, that of one of them first
abbrev pub both_lines : (ℕ → TileTables → ℕ → Bool → Option Disagreement) → Bool → ℕ → TileTables → ℕ → Option Disagreement
both_lines line first t T k = line t T k first or line t T k (not first)

-- nothing is found exactly where the line says nothing of any dart
pub darts-none : (line : ℕ → TileTables → ℕ → Bool → Option Disagreement) (first : Bool) (c : CoverageTables)
    → in_tiles (λ t T. over_edges (both_lines line first t T) T) c ≡ None
    → (t : ℕ) (T : TileTables) (k : ℕ) (minus : Bool) → tile_at c t ≡ Some T → 1 ≤ k → k ≤ length (primitives_of T.tables).edges → line t T k minus ≡ None
darts-none line first c none t T k minus e low high =
    let here : over_edges (both_lines line first t T) T ≡ None = tiles-none (λ t T. over_edges (both_lines line first t T) T) c none t T e in
    let both = or-none_both (line t T k first) (line t T k (not first)) (edges-none (both_lines line first t T) T here k low high) in
    one_of first minus both.0 both.1
  where
    one_of : (a m : Bool) → line t T k a ≡ None → line t T k (not a) ≡ None → line t T k m ≡ None
    one_of true true x y = x
    one_of true false x y = y
    one_of false true x y = y
    one_of false false x y = x

pub darts-silent : (line : ℕ → TileTables → ℕ → Bool → Option Disagreement) (first : Bool) (c : CoverageTables)
    → ((t : ℕ) (T : TileTables) (k : ℕ) (minus : Bool) → tile_at c t ≡ Some T → 1 ≤ k → k ≤ length (primitives_of T.tables).edges → line t T k minus ≡ None)
    → in_tiles (λ t T. over_edges (both_lines line first t T) T) c ≡ None
darts-silent line first c h =
    tiles-silent (λ t T. over_edges (both_lines line first t T) T) c (λ t T e.
    edges-silent (both_lines line first t T) T (λ k low high.
    or-silent (line t T k first) (line t T k (not first)) (h t T k first e low high) (h t T k (not first) e low high)))

-- optional numbers are told apart
pub options-same : (a b : Option ℕ) → option_eq nat_eq a b ≡ true → a ≡ b
options-same None None h = refl
options-same None (Some b) h = absurd (never_both false h refl)
options-same (Some a) None h = absurd (never_both false h refl)
options-same (Some a) (Some b) h = ap Some (eqb-true a b h)

pub same-options : (a b : Option ℕ) → a ≡ b → option_eq nat_eq a b ≡ true
same-options a b e = subst (λ z. option_eq nat_eq a z ≡ true) e (itself a)
  where
    itself : (o : Option ℕ) → option_eq nat_eq o o ≡ true
    itself None = refl
    itself (Some x) = eq-eqb x x refl
