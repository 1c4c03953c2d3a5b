-- What disagrees in the sides of the edges of a tile of a tiled coverage: edge by edge, in each by column.
use Rattle.std.specs.Prelude.{ℕ, Bool, true, false, not, ◌||◌, is_some, nat_eq, if◌then◌else◌, Option}
use Rattle.std.specs.Option.{option_eq}
use Rattle.vpf_findings.specs.declared.finding.SeenWord.TheVariants as words
use Rattle.vpf_findings.specs.Findings.{WordSeen, Disagreement}
use Rattle.vpf_findings.specs.Firsts.{◌or◌, unless}
use Rattle.vpf_prims.specs.declared.citing.Citation.{Citation}
use Rattle.vpf_prims.specs.declared.citing.Citation.TheVariants as cites
use Rattle.vpf_prims.specs.Lists.{kth}
use Rattle.vpf_prims.specs.Primitives.{EdgePrimitive, absent_edge, own_edge}
use Rattle.vpf_prims.specs.Reading.{primitives_of}
use Rattle.vpf_prims.specs.Tables.{TileTables, at_citation, cited_cell}
use Rattle.vpf_wing.specs.Links.{link_of, wing_by, node_by, face_by}
use Rattle.vpf_wing.specs.CycleLines.{loop_line}
use Rattle.vpf_follow.specs.Libraries.{over_edges}
use Rattle.vpf_follow.specs.Following.{beyond_tile, is_own_face, is_far_face}

-- the columns that have the wing, the head node and the face of the + or - dart of an edge
abbrev pub wing_citation : Bool → Citation
wing_citation minus = if minus then cites.LeftEdge else cites.RightEdge

abbrev pub node_citation : Bool → Citation
node_citation minus = if minus then cites.StartNode else cites.EndNode

abbrev pub face_citation : Bool → Citation
face_citation minus = if minus then cites.LeftFace else cites.RightFace

-- a head node and its wing go on in different tiles, or one alone goes on
abbrev pub part_line : ℕ → TileTables → ℕ → Bool → EdgePrimitive → Option Disagreement
part_line t T k minus e =
    unless (option_eq nat_eq (beyond_tile (link_of (node_by minus e)).out) (beyond_tile (link_of (wing_by minus e)).out))
    (at_citation t T (node_citation minus) 2 k (cited_cell T.tables (node_citation minus) k) (cited_cell T.tables (wing_citation minus) k))

-- no side of an edge is in its tile
abbrev pub inside_line : ℕ → TileTables → ℕ → EdgePrimitive → Option Disagreement
inside_line t T k e =
    unless (is_own_face (link_of e.right_face) || is_own_face (link_of e.left_face))
    (at_citation t T cites.RightFace 2 k (cited_cell T.tables cites.RightFace k) (WordSeen words.Inside))

-- a dart inside its tile goes on in another
abbrev pub inside_wing_line : ℕ → TileTables → ℕ → Bool → EdgePrimitive → Option Disagreement
inside_wing_line t T k minus e =
    unless (not (is_own_face (link_of (face_by minus e))) || not (is_some (link_of (wing_by minus e)).out))
    (at_citation t T (wing_citation minus) 2 k (cited_cell T.tables (wing_citation minus) k) (WordSeen words.Plain))

-- a dart of another tile's face doesn't go on in that tile
abbrev pub outside_wing_line : ℕ → TileTables → ℕ → Bool → EdgePrimitive → Option Disagreement
outside_wing_line t T k minus e =
    unless (not (is_far_face (link_of (face_by minus e))) || option_eq nat_eq (beyond_tile (link_of (wing_by minus e)).out)
    (beyond_tile (link_of (face_by minus e)).out))
    (at_citation t T (wing_citation minus) 2 k (cited_cell T.tables (wing_citation minus) k) (WordSeen words.Tile))

-- the lines on the wing of a dart
abbrev pub side_wing_lines : ℕ → TileTables → ℕ → Bool → EdgePrimitive → Option Disagreement
side_wing_lines t T k minus e = inside_wing_line t T k minus e or outside_wing_line t T k minus e

-- the lines on edge k, by column
abbrev pub side_lines : ℕ → TileTables → ℕ → EdgePrimitive → Option Disagreement
side_lines t T k e =
    part_line t T k true e
    or part_line t T k false e
    or inside_line t T k e
    or loop_line t T k (own_edge e)
    or side_wing_lines t T k false e
    or side_wing_lines t T k true e

-- what disagrees first in the sides of the edges of tile t
abbrev pub sides_finding : ℕ → TileTables → Option Disagreement
sides_finding t T = over_edges (λ k. side_lines t T k (kth (primitives_of T.tables).edges k absent_edge)) T
