-- What disagrees in what follows the darts of a tile of a tiled coverage, dart by dart.
use Rattle.std.specs.Prelude.{ℕ, Bool, true, false, ◌==◌, if◌then◌else◌, Option, Some, None}
use Rattle.std.specs.Option.{option_map}
use Rattle.vpf_darts.specs.Darts.{code, sign_of}
use Rattle.vpf_findings.specs.declared.finding.SeenWord.TheVariants as words
use Rattle.vpf_findings.specs.Findings.{Sight, WordSeen, Disagreement}
use Rattle.vpf_findings.specs.Firsts.{◌or◌, unless}
use Rattle.vpf_prims.specs.Tables.{TileTables, at_citation, cited_cell}
use Rattle.vpf_wing.specs.Links.{DartLinks}
use Rattle.vpf_follow.specs.Libraries.{over_edges}
use Rattle.vpf_follow.specs.Following.{is_home, follow, first_home, number_seen}
use Rattle.vpf_follow.specs.SideLines.{wing_citation}

-- a place at the wing of a dart
abbrev pub at_wing_of : ℕ → TileTables → (rule k : ℕ) → Bool → (found wanted : Sight) → Disagreement
at_wing_of t T rule k minus found wanted = at_citation t T (wing_citation minus) rule k found wanted

-- the wing of a dart, as it is seen
abbrev pub wing_seen : TileTables → ℕ → Bool → Sight
wing_seen T k minus = cited_cell T.tables (wing_citation minus) k

-- the first home dart that is followed by e isn't d: it comes before d then
abbrev pub earlier_home : (d : ℕ) → Option ℕ → Option ℕ
earlier_home d None = None
earlier_home d (Some x) = unless (x == d) x

-- the line on a dart by what follows it: nothing does, or an earlier home dart is followed by the same as a home dart
abbrev pub follow_line_at : DartLinks → ℕ → TileTables → ℕ → Bool → Option ℕ → Option Disagreement
follow_line_at C t T k minus None = Some (at_wing_of t T 4 k minus (wing_seen T k minus) (WordSeen words.Dart))
follow_line_at C t T k minus (Some e) =
    if is_home C (code t k (sign_of minus))
    then option_map (λ x. at_wing_of t T 4 k minus (number_seen e) (number_seen x)) (earlier_home (code t k (sign_of minus)) (first_home C (Some e)))
    else None

-- the line on a dart
abbrev pub follow_line : DartLinks → ℕ → TileTables → ℕ → Bool → Option Disagreement
follow_line C t T k minus = follow_line_at C t T k minus (follow C (code t k (sign_of minus)))

-- the lines on both darts of edge k
abbrev pub follow_lines : DartLinks → ℕ → TileTables → ℕ → Option Disagreement
follow_lines C t T k = follow_line C t T k false or follow_line C t T k true

-- what disagrees first in what follows the darts of tile t
abbrev pub follows_finding : DartLinks → ℕ → TileTables → Option Disagreement
follows_finding C t T = over_edges (follow_lines C t T) T
