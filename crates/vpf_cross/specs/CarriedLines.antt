-- What disagrees in the carried cells of nodes that tiles share, in those of the universe, and in the faces of entity nodes.
use Rattle.std.specs.Prelude.{ℕ, pos, ◌+◌, Bool, true, false, not, ◌==◌, length, List, Option, Some, None, codes}
use Rattle.std.specs.Option.{option_map, unwrap_or}
use Rattle.vpf_value.specs.Values.{Value}
use Rattle.vpf_table.specs.Grid.{Grid}
use Rattle.vpf_darts.specs.Darts.{code, sign_of}
use Rattle.vpf_findings.specs.Findings.{NumberSeen, RangeSeen, Disagreement}
use Rattle.vpf_findings.specs.Firsts.{◌or◌, unless, first_over}
use Rattle.vpf_prims.specs.Columns.{in_table}
use Rattle.vpf_prims.specs.Lists.{kth}
use Rattle.vpf_prims.specs.Primitives.{Library, EntityPrimitive, absent_face, absent_node, absent_entity, tile_faces, tile_nodes, has_tables, entities_in}
use Rattle.vpf_prims.specs.Reading.{primitives_of}
use Rattle.vpf_prims.specs.References.{id_of}
use Rattle.vpf_prims.specs.Roles.{face_roles, node_roles}
use Rattle.vpf_prims.specs.Columns.{reference_column}
use Rattle.vpf_prims.specs.Suiting.{carried_columns}
use Rattle.vpf_prims.specs.Tables.{TileTables, fac_at, entities_at, at_citation}
use Rattle.vpf_wing.specs.Links.{Beyond, Link, links_of}
use Rattle.vpf_follow.specs.Libraries.{over_edges}
use Rattle.vpf_follow.specs.SideLines.{node_citation}
use Rattle.vpf_cross.specs.Carrying.{Difference, first_difference}

-- what node n of tile t carries
abbrev pub node_carried : Library → (t n : ℕ) → List Value
node_carried L t n = (kth (tile_nodes L t) n absent_node).carried

-- what the universe of tile t carries
abbrev pub universe_carried : Library → ℕ → List Value
universe_carried L t = (kth (tile_faces L t) 1 absent_face).carried

-- the numbers from k on that pass a test, of so many: the first of them
abbrev pub first_passing : (ℕ → Bool) → (k n : ℕ) → Option ℕ
first_passing p k n = first_over (λ t. unless (not (p t)) t) k n

-- the first tile that has tables
unfoldable pub first_tile : Library → ℕ
first_tile L = unwrap_or (first_passing (has_tables L) 0 (L.last + 1)) 0

-- a node has another carried cell than the node that it names in another tile
abbrev pub shared_node_line : Library → ℕ → TileTables → ℕ → Bool → (n : ℕ) → Option Beyond → Option Disagreement
shared_node_line L t T k minus n None = None
shared_node_line L t T k minus n (Some p) =
    option_map (λ (f : Difference). at_citation t T (node_citation minus) 7 k f.here f.there)
    (first_difference (carried_columns node_roles T.tables.cnd.head.columns) (node_carried L t n) (node_carried L p.tile p.id))

-- the line on the head node of a dart
abbrev pub head_node_line : Library → ℕ → TileTables → ℕ → Bool → Option Disagreement
head_node_line L t T k minus =
    let node : Link = (links_of L).node (code t k (sign_of minus)) in
    shared_node_line L t T k minus node.id node.out

-- the lines on the nodes of edge k
abbrev pub nodes_lines : Library → ℕ → TileTables → ℕ → Option Disagreement
nodes_lines L t T k = head_node_line L t T k true or head_node_line L t T k false

-- the universe has other carried cells than in the first tile that has tables
abbrev pub universe_line : Library → ℕ → TileTables → Option Disagreement
universe_line L t T =
    option_map (λ (f : Difference). in_table (fac_at t T) 7 1 f.column f.here f.there)
    (first_difference (carried_columns face_roles T.tables.fac.head.columns) (universe_carried L t) (universe_carried L (first_tile L)))

-- what disagrees first in the carried cells of tile t
abbrev pub carried_finding : Library → ℕ → TileTables → Option Disagreement
carried_finding L t T = over_edges (nodes_lines L t T) T or universe_line L t T

-- an entity node lies in the universe
abbrev pub universe_entity_line : ℕ → TileTables → Grid → ℕ → EntityPrimitive → Option Disagreement
universe_entity_line t T end n e =
    unless (not (id_of e.containing_face == 1))
    (in_table (entities_at t T) 8 n (reference_column end.head.columns (codes "containing_face")).name (NumberSeen (pos 1))
    (RangeSeen 2 (length (primitives_of T.tables).faces)))

-- what disagrees first in the entity nodes of tile t, where they have a table
abbrev pub inhabited_finding_in : ℕ → TileTables → Option Grid → Option Disagreement
inhabited_finding_in t T None = None
inhabited_finding_in t T (Some end) =
    first_over (λ i. universe_entity_line t T end (i + 1) (kth (entities_in (Some (primitives_of T.tables))) (i + 1) absent_entity)) 0 (length end.rows)

-- what disagrees first in the entity nodes of tile t
abbrev pub inhabited_finding : ℕ → TileTables → Option Disagreement
inhabited_finding t T = inhabited_finding_in t T T.tables.end
