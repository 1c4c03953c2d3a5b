-- What disagrees in the wings of edges, dart by dart.
use Rattle.std.specs.Prelude.{ℕ, pos, ◌*◌, if◌then◌else◌, Option, Some, None, List, length}
use Rattle.std.specs.Option.{option_map}
use Rattle.vpf_value.specs.Values.{Value, NumberOf}
use Rattle.vpf_darts.specs.declared.darts.Dart.{Dart}
use Rattle.vpf_findings.specs.declared.finding.SeenWord.TheVariants as words
use Rattle.vpf_findings.specs.Findings.{Sight, CellSeen, DartSeen, WordSeen, Disagreement}
use Rattle.vpf_findings.specs.Firsts.{first_over}
use Rattle.vpf_prims.specs.declared.rows.Edge.{Edge}
use Rattle.vpf_prims.specs.Columns.{RoleAt, in_table}
use Rattle.vpf_prims.specs.Edges.{EdgesAt}
use Rattle.vpf_wing.specs.Nexts.{wing, next_dart, dart_at, earlier}

-- the column that has a dart's wing
abbrev pub wing_column : EdgesAt → Dart → RoleAt
wing_column columns d = if d.minus then columns.left_edge else columns.right_edge

-- a dart of the table's tile
abbrev pub dart_seen : EdgesAt → Dart → Sight
dart_seen columns d = DartSeen (record { tile = columns.at.tile; edge = d.edge; minus = d.minus })

-- a finding at the wing of a dart
abbrev pub at_wing : EdgesAt → Dart → Sight → Sight → Disagreement
at_wing columns d found wanted = in_table columns.at 3 d.edge (wing_column columns d).name found wanted

-- a dart, whose wing's cell is this, has no one next dart
abbrev pub no_next : EdgesAt → (Dart → Value) → Dart → Disagreement
no_next columns cell d = at_wing columns d (CellSeen (wing_column columns d).kind (cell d)) (WordSeen words.Dart)

-- an earlier dart has the next dart of d
abbrev pub repeated : EdgesAt → Dart → Dart → Dart → Disagreement
repeated columns d next owner = at_wing columns d (dart_seen columns next) (dart_seen columns owner)

-- the two lines on the wing of the dart at this place, by its next dart
abbrev pub next_line : EdgesAt → (Dart → Value) → List Edge → ℕ → Option Dart → Option Disagreement
next_line columns cell edges place None = Some (no_next columns cell (dart_at place))
next_line columns cell edges place (Some next) = option_map (repeated columns (dart_at place) next) (earlier edges next place)

-- the two lines on the wing of the dart at this place
abbrev pub wing_line : EdgesAt → (Dart → Value) → List Edge → ℕ → Option Disagreement
wing_line columns cell edges place = next_line columns cell edges place (next_dart edges (dart_at place))

-- the first finding on wings, dart by dart: 1+, 1-, 2+ and so on
abbrev pub wings_finding : EdgesAt → (Dart → Value) → List Edge → Option Disagreement
wings_finding columns cell edges = first_over (wing_line columns cell edges) 0 (2 * length edges)

-- the cell of a wing that is a number alone
abbrev pub number_cell : List Edge → Dart → Value
number_cell edges d = NumberOf (pos (wing edges d))
