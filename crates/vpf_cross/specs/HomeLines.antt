-- What disagrees in the home copies of the outside darts of a tile: a dart and its home copy are of one edge.
use Rattle.std.specs.Prelude.{ℕ, Bool, true, false, ◌==◌, nat_eq, if◌then◌else◌, Option, Some, None}
use Rattle.std.specs.Option.{option_eq, option_map}
use Rattle.vpf_darts.specs.Darts.{code, tile_in, edge_in, sign_in, sign_of, flip}
use Rattle.vpf_findings.specs.declared.finding.SeenWord.TheVariants as words
use Rattle.vpf_findings.specs.Findings.{Sight, WordSeen, Disagreement}
use Rattle.vpf_findings.specs.Firsts.{◌or◌, unless}
use Rattle.vpf_prims.specs.declared.citing.Citation.TheVariants as cites
use Rattle.vpf_prims.specs.Columns.{in_table}
use Rattle.vpf_prims.specs.Coverages.{CoverageTables, tile_at}
use Rattle.vpf_prims.specs.Roles.{edge_roles}
use Rattle.vpf_prims.specs.Suiting.{carried_columns}
use Rattle.vpf_prims.specs.Tables.{TileTables, edg_at, at_citation, cited_cell}
use Rattle.vpf_wing.specs.Links.{DartLinks, links_of}
use Rattle.vpf_prims.specs.Libraries.{library_of}
use Rattle.vpf_follow.specs.Libraries.{over_edges}
use Rattle.vpf_follow.specs.Following.{is_outside, home_copy, number_seen}
use Rattle.vpf_follow.specs.SideLines.{face_citation}
use Rattle.vpf_follow.specs.FollowLines.{at_wing_of}
use Rattle.vpf_cross.specs.Carrying.{Difference, first_difference}

-- the darts of a coverage
abbrev pub coverage_links : CoverageTables → DartLinks
coverage_links c = links_of (library_of c)

-- the mark of edge k of a tile, as it is seen
abbrev pub mark_seen : Option TileTables → ℕ → Sight
mark_seen None k = WordSeen words.Absent
mark_seen (Some T) k = cited_cell T.tables cites.TileLine k

-- the home copy of the home copy's flip isn't the flip of the dart
abbrev pub home_flip_line : DartLinks → ℕ → TileTables → ℕ → Bool → Option Disagreement
home_flip_line C t T k minus =
    let d = code t k (sign_of minus) in
    let back = home_copy C (flip (home_copy C d)) in
    unless (back == flip d) (at_citation t T (face_citation minus) 5 k (number_seen back) (number_seen (flip d)))

-- the home copy has another sign
abbrev pub home_sign_line : DartLinks → ℕ → TileTables → ℕ → Bool → Option Disagreement
home_sign_line C t T k minus =
    let home = home_copy C (code t k (sign_of minus)) in
    unless (sign_in home == sign_of minus) (at_wing_of t T 5 k minus (number_seen home) (WordSeen words.Sign))

-- the home copy has another mark
abbrev pub home_mark_line : CoverageTables → ℕ → TileTables → ℕ → Bool → Option Disagreement
home_mark_line c t T k minus =
    let C = coverage_links c in
    let d = code t k (sign_of minus) in
    let home = home_copy C d in
    unless (option_eq nat_eq (C.mark d) (C.mark home))
    (at_citation t T cites.TileLine 5 k (cited_cell T.tables cites.TileLine k) (mark_seen (tile_at c (tile_in home)) (edge_in home)))

-- the home copy has another carried cell
abbrev pub home_carried_line : DartLinks → ℕ → TileTables → ℕ → Bool → Option Disagreement
home_carried_line C t T k minus =
    let d = code t k (sign_of minus) in
    option_map (λ (f : Difference). in_table (edg_at t T) 5 k f.column f.here f.there)
    (first_difference (carried_columns edge_roles T.tables.edg.head.columns) (C.carried d) (C.carried (home_copy C d)))

-- the lines on the home copy of a dart
abbrev pub home_lines : CoverageTables → ℕ → TileTables → ℕ → Bool → Option Disagreement
home_lines c t T k minus =
    home_flip_line (coverage_links c) t T k minus
    or home_sign_line (coverage_links c) t T k minus
    or home_mark_line c t T k minus
    or home_carried_line (coverage_links c) t T k minus

-- of an outside dart alone
abbrev pub outside_lines : CoverageTables → ℕ → TileTables → ℕ → Bool → Option Disagreement
outside_lines c t T k minus = if is_outside (coverage_links c) (code t k (sign_of minus)) then home_lines c t T k minus else None

-- of both darts of edge k
abbrev pub copies_lines : CoverageTables → ℕ → TileTables → ℕ → Option Disagreement
copies_lines c t T k = outside_lines c t T k false or outside_lines c t T k true

-- what disagrees first in the home copies of the outside darts of tile t
abbrev pub homes_finding : CoverageTables → ℕ → TileTables → Option Disagreement
homes_finding c t T = over_edges (copies_lines c t T) T
