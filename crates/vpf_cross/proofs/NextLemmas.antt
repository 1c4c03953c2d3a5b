-- The next of a dart in its tile, by the rows of edges.
use Rattle.std.proofs.Common.{◌≡◌, ℕ, zero, suc, ◌-◌, ◌^◌, ◌<◌, ◌≤◌, Bool, true, false, not, Some, None, List, length, map, refl, sym, ap, ◌∙◌, arith}
use Rattle.std.specs.Prelude.{if◌then◌else◌}
use Rattle.std.specs.Option.{option_map}
use Rattle.vpf_darts.specs.declared.darts.Dart.{Dart}
use Rattle.vpf_darts.specs.Darts.{code, tile_in, sign_of, flip}
use Rattle.vpf_prims.specs.declared.rows.Edge.{Edge}
use Rattle.vpf_prims.specs.Coverages.{CoverageTables, tile_at, last_tile}
use Rattle.vpf_prims.specs.Lists.{kth}
use Rattle.vpf_prims.specs.Numbering.{IsRowOf}
use Rattle.vpf_prims.specs.Primitives.{Primitives, EdgePrimitive, absent_edge, edge_count, own_edge, own_edges}
use Rattle.vpf_prims.specs.Reading.{primitives_of}
use Rattle.vpf_prims.specs.References.{id_of}
use Rattle.vpf_prims.specs.Inner.Owning.{NamesItsOwn, OwnsEdge}
use Rattle.vpf_prims.specs.Tables.{TileTables}
use Rattle.vpf_wing.specs.Links.{Link, face_by, is_next, local_next, next_to, node_by, only, tail_node, wing_by}
use Rattle.vpf_wing.specs.Nexts.{edge_at, face, follows, head, next_dart, tail, the_one, wing}
use Rattle.vpf_prims.specs.Libraries.{library_of}
use Rattle.vpf_cross.specs.HomeLines.{coverage_links}
use Rattle.vpf_cross.proofs.DartLists.{IsOfTiles, has_from}
use Rattle.vpf_cross.proofs.LinkLemmas.{edge-code, edges_at, flip-code, flip-plus, face_at, node_at, tile-code, wing_at}
use Rattle.vpf_wing.specs.Inner.RangeLaws.{own_edge_at}

-- an edge of a tile by its own numbers
own_row : (es : List EdgePrimitive) (k : ℕ) → 1 ≤ k → edge_at (map own_edge es) k ≡ own_edge (kth es k absent_edge)
own_row es zero h = absurd (omega arith)
own_row es (suc i) h = let e : suc i - 1 ≡ i = omega arith in rw e (own_edge_at es i)

-- the parts of a dart of a tile, by the row of its edge
tail_by : (es : List EdgePrimitive) (k : ℕ) (s : Bool) → 1 ≤ k → tail (map own_edge es) (record { edge = k; minus = s }) ≡ id_of (node_by (not s) (kth es k absent_edge))
unfolding tail
tail_by es k false h = rw (own_row es k h) refl
tail_by es k true h = rw (own_row es k h) refl

face_by_row : (es : List EdgePrimitive) (k : ℕ) (s : Bool) → 1 ≤ k → face (map own_edge es) (record { edge = k; minus = s }) ≡ id_of (face_by s (kth es k absent_edge))
unfolding face
face_by_row es k false h = rw (own_row es k h) refl
face_by_row es k true h = rw (own_row es k h) refl

wing_by_row : (es : List EdgePrimitive) (k : ℕ) (s : Bool) → 1 ≤ k → wing (map own_edge es) (record { edge = k; minus = s }) ≡ id_of (wing_by s (kth es k absent_edge))
unfolding wing
wing_by_row es k false h = rw (own_row es k h) refl
wing_by_row es k true h = rw (own_row es k h) refl

head_by_row : (es : List EdgePrimitive) (k : ℕ) (s : Bool) → 1 ≤ k → head (map own_edge es) (record { edge = k; minus = s }) ≡ id_of (node_by s (kth es k absent_edge))
head_by_row es k false h = tail_by es k true h
head_by_row es k true h = tail_by es k false h

-- a dart of a tile
pub has_code : (c : CoverageTables) (t : ℕ) (T : TileTables) (k : ℕ) (s : Bool) → tile_at c t ≡ Some T → t ≤ last_tile c → k < 2 ^ 32 → IsRowOf (length (primitives_of T.tables).edges) k
    → (coverage_links c).has (code t k (sign_of s)) ≡ true
has_code c t T k s e last small row =
    let d = code t k (sign_of s) in
    let tile = tile-code t k s small in
    let edge = edge-code t k s small in
    let count : edge_count (library_of c) (tile_in d) ≡ length (primitives_of T.tables).edges = ap (edge_count (library_of c)) tile ∙ ap (λ (es : List EdgePrimitive). length es) (edges_at c t T e) in
    let there : IsOfTiles (edge_count (library_of c)) (last_tile c) (code t k (sign_of s)) = record {
      from_one = omega (arith, edge, row.0);
      to_count = omega (arith, edge, count, row.1);
      to_last = omega (arith, tile);
    } in
    has_from (library_of c) d there

-- whether a dart of the wing edge is the next, by both readings
module _ (c : CoverageTables) (t : ℕ) (T : TileTables) (k w : ℕ) (m : Bool) (is : tile_at c t ≡ Some T) (last : t ≤ last_tile c) (few : length (primitives_of T.tables).edges < 2 ^ 24)
    (row : IsRowOf (length (primitives_of T.tables).edges) k) (wing_row : IsRowOf (length (primitives_of T.tables).edges) w) where
  next_same : (s : Bool)
      → is_next (coverage_links c) (id_of (node_by m (kth (primitives_of T.tables).edges k absent_edge))) (id_of (face_by m (kth (primitives_of T.tables).edges k absent_edge))) (code t w (sign_of s))
      ≡ follows (own_edges (primitives_of T.tables)) (record { edge = k; minus = m }) (record { edge = w; minus = s })
  next_same s =
      let es = (primitives_of T.tables).edges in
      let C = coverage_links c in
      let small : w < 2 ^ 32 = omega (arith, few, wing_row.1) in
      let has = has_code c t T w s is last small wing_row in
      let tail_is : tail_node C (code t w (sign_of s)) ≡ id_of (node_by (not s) (kth es w absent_edge)) =
      ap (λ d. (C.node d).id) (flip-code t w s) ∙ ap (λ (l : Link). l.id) (node_at c t T w (not s) is small) in
      let face_is : (C.face (code t w (sign_of s))).id ≡ id_of (face_by s (kth es w absent_edge)) = ap (λ (l : Link). l.id) (face_at c t T w s is small) in
      rw (has, tail_is, face_is, tail_by es w s wing_row.0, face_by_row es w s wing_row.0, head_by_row es k m row.0, face_by_row es k m row.0) refl

chosen : (a b : Bool) (d e : ℕ) (plus minus : Dart) (number : Dart → ℕ) → number plus ≡ d → number minus ≡ e
    → (if a then (if b then None else Some d) else (if b then Some e else None)) ≡ option_map number (the_one a b plus minus)
chosen true true d e plus minus number u v = refl
chosen true false d e plus minus number u v = ap Some (sym u)
chosen false true d e plus minus number u v = ap Some (sym v)
chosen false false d e plus minus number u v = refl

only_is : (p : ℕ → Bool) (d e : ℕ) (a b : Bool) (plus minus : Dart) (number : Dart → ℕ) → flip d ≡ e → p d ≡ a → p e ≡ b → number plus ≡ d → number minus ≡ e
    → only p d ≡ option_map number (the_one a b plus minus)
only_is p d e a b plus minus number f x y u v = rw (f, x, y) (chosen a b d e plus minus number u v)

-- a dart of a tile by its number
abbrev pub number_in : ℕ → Dart → ℕ
number_in t x = code t x.edge (sign_of x.minus)

wing_in : (m : Bool) (c : Primitives) (e : EdgePrimitive) → OwnsEdge c e → IsRowOf (length c.edges) (id_of (wing_by m e))
wing_in false c e s = s.right_edge
wing_in true c e s = s.left_edge

next_by : (edges : List Edge) (d : Dart) (w : ℕ) → wing edges d ≡ w
    → next_dart edges d ≡ the_one (follows edges d (record { edge = w; minus = false })) (follows edges d (record { edge = w; minus = true })) (record { edge = w; minus = false }) (record { edge = w; minus = true })
unfolding next_dart
next_by edges d w e = rw e refl

-- the local next is the next by the edges of the tile
pub local_next_is : (c : CoverageTables) (t : ℕ) (T : TileTables) (k : ℕ) (m : Bool) → tile_at c t ≡ Some T → t ≤ last_tile c → length (primitives_of T.tables).edges < 2 ^ 24
    → NamesItsOwn (primitives_of T.tables) → IsRowOf (length (primitives_of T.tables).edges) k
    → local_next (coverage_links c) (code t k (sign_of m)) ≡ option_map (number_in t) (next_dart (own_edges (primitives_of T.tables)) (record { edge = k; minus = m }))
local_next_is c t T k m is last few numbers row =
    let C = coverage_links c in
    let es = (primitives_of T.tables).edges in
    let d = code t k (sign_of m) in
    let w : ℕ = id_of (wing_by m (kth (primitives_of T.tables).edges k absent_edge)) in
    let node : ℕ = id_of (node_by m (kth (primitives_of T.tables).edges k absent_edge)) in
    let side : ℕ = id_of (face_by m (kth (primitives_of T.tables).edges k absent_edge)) in
    let small : k < 2 ^ 32 = omega (arith, few, row.1) in
    let wing_row = wing_in m (primitives_of T.tables) (kth es k absent_edge) (numbers.edges k row) in
    let edges = own_edges (primitives_of T.tables) in
    let here : Dart = record { edge = k; minus = m } in
    ap (λ x. next_to C x (C.wing d).id (C.node d).id (C.face d).id) (tile-code t k m small)
    ∙ ap (λ (l : Link). next_to C t l.id (C.node d).id (C.face d).id) (wing_at c t T k m is small)
    ∙ ap (λ (l : Link). next_to C t w l.id (C.face d).id) (node_at c t T k m is small)
    ∙ ap (λ (l : Link). next_to C t w node l.id) (face_at c t T k m is small)
    ∙ only_is (is_next C node side) (code t w 0) (code t w 1) (follows edges here (record { edge = w; minus = false })) (follows edges here (record { edge = w; minus = true }))
    (record { edge = w; minus = false }) (record { edge = w; minus = true }) (number_in t) (flip-plus t w)
    (next_same c t T k w m is last few row wing_row false) (next_same c t T k w m is last few row wing_row true) refl refl
    ∙ ap (option_map (number_in t)) (sym (next_by edges here w (wing_by_row es k m row.0)))
