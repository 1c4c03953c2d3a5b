-- The next dart round a face, as the wings of edges say (MIL-STD-2407, 5.2.2, winged-edge topology).
use Rattle.std.specs.Prelude.{◌≡◌, ℕ, ◌+◌, ◌-◌, ◌*◌, ◌/◌, ◌%◌, ◌<◌, Bool, true, false, not, if◌then◌else◌, ◌==◌, ◌&&◌, Option, Some, None, List, length, All, slice_get, slice_index_or}
use Rattle.vpf_darts.specs.declared.darts.Dart.{Dart}
use Rattle.vpf_darts.specs.Darts.{dart_code}
use Rattle.vpf_darts.specs.MapLists.{IsInRange}
use Rattle.vpf_findings.specs.Firsts.{where_holds, first_over}
use Rattle.vpf_prims.specs.declared.rows.Edge.{Edge}

-- what stands in place of an edge that there is not
abbrev pub no_edge : Edge
no_edge = record { start_node = 0; end_node = 0; right_face = 0; left_face = 0; right_edge = 0; left_edge = 0 }

-- the edge of this number, from 1
abbrev pub edge_at : List Edge → ℕ → Edge
edge_at edges k = slice_index_or edges (k - 1) no_edge

-- the other dart of the edge
abbrev pub flipped : Dart → Dart
flipped d = record { edge = d.edge; minus = not d.minus }

-- the node where a dart begins: e+ runs from the start node to the end node, and e- back
unfoldable pub tail : List Edge → Dart → ℕ
tail edges d = let e = edge_at edges d.edge in if d.minus then e.end_node else e.start_node

-- the node where a dart ends, the tail of the other dart of its edge
abbrev pub head : List Edge → Dart → ℕ
head edges d = tail edges (flipped d)

-- the face of a dart: e+ has the right face, and e- the left face
unfoldable pub face : List Edge → Dart → ℕ
face edges d = let e = edge_at edges d.edge in if d.minus then e.left_face else e.right_face

-- the wing of the + or - dart of an edge: the right edge of e+, the left edge of e-
abbrev pub wing_in : Bool → Edge → ℕ
wing_in minus e = if minus then e.left_edge else e.right_edge

-- the edge that follows a dart round its face
unfoldable pub wing : List Edge → Dart → ℕ
wing edges d = wing_in d.minus (edge_at edges d.edge)

-- x begins where d ends, and has d's face
abbrev pub follows : List Edge → Dart → Dart → Bool
follows edges d x = (tail edges x == head edges d) && (face edges x == face edges d)

-- the one of two that passes
abbrev pub the_one : Bool → Bool → Dart → Dart → Option Dart
the_one true false x y = Some x
the_one false true x y = Some y
the_one true true x y = None
the_one false false x y = None

-- the one dart of d's wing edge that begins where d ends and has d's face
unfoldable pub next_dart : List Edge → Dart → Option Dart
next_dart edges d =
    let plus : Dart = record { edge = wing edges d; minus = false } in
    let minus : Dart = record { edge = wing edges d; minus = true } in
    the_one (follows edges d plus) (follows edges d minus) plus minus

-- the dart at this place of 1+, 1-, 2+ and so on, counted from 0
abbrev pub dart_at : ℕ → Dart
dart_at place = record { edge = place / 2 + 1; minus = place % 2 == 1 }

-- whether a next dart is x
abbrev pub is_dart : Option Dart → Dart → Bool
is_dart None x = false
is_dart (Some y) x = dart_code y == dart_code x

-- the first dart before this place whose next dart is x
abbrev pub earlier : List Edge → Dart → ℕ → Option Dart
earlier edges x place = first_over (λ i. where_holds (is_dart (next_dart edges (dart_at i)) x) (dart_at i)) 0 place

-- the next darts of 1+, 1-, 2+ and so on
pub record AreNexts (edges : List Edge) (nexts : List Dart) : Type 0 where
  pub count : length nexts ≡ 2 * length edges
  pub each : (i : ℕ) → i < length nexts → slice_get nexts i ≡ next_dart edges (dart_at i)
  pub in_range : All (IsInRange (2 * length edges)) nexts

-- the wings make a map: each dart has one next dart, and no two the same
pub record MakeMap (edges : List Edge) : Type 0 where
  pub one : (place : ℕ) → place < 2 * length edges → (next : Dart) × (next_dart edges (dart_at place) ≡ Some next)
  pub apart : (i j : ℕ) (x y : Dart) → i < 2 * length edges → j < 2 * length edges → next_dart edges (dart_at i) ≡ Some x → next_dart edges (dart_at j) ≡ Some y → dart_code x ≡ dart_code y → i ≡ j
