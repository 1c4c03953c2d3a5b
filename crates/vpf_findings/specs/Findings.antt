-- What disagrees in the tables of a library.
use Rattle.std.specs.Prelude.{ℕ, ℤ, List}
use Rattle.vpf_value.specs.Kind.{Kind}
use Rattle.vpf_value.specs.Count.{Count}
use Rattle.vpf_value.specs.Values.{Value, view}
use Rattle.vpf_darts.specs.declared.darts.TileDart.{TileDart}
use Rattle.vpf_findings.specs.declared.finding.TableName.{TableName}
use Rattle.vpf_findings.specs.declared.finding.SeenWord.{SeenWord}
use Rattle.vpf_findings.specs.declared.finding.Seen.{Seen}
use Rattle.vpf_findings.specs.declared.finding.Seen.TheVariants as seen
use Rattle.vpf_findings.specs.declared.finding.ColumnAt.{ColumnAt}
use Rattle.vpf_findings.specs.declared.finding.Finding.{Finding}

-- what is seen or wanted in a place, apart from where it lies in the file
pub data Sight : Type 0 where
  NumberSeen : ℤ → Sight
  -- the kind of its column, and what it says
  CellSeen : Kind → Value → Sight
  KindSeen : Kind → Count → Sight
  RangeSeen : ℕ → ℕ → Sight
  DartSeen : TileDart → Sight
  WordSeen : SeenWord → Sight

abbrev pub sight_of : Seen → Sight
sight_of (seen.Number n) = NumberSeen n
sight_of (seen.Cell kind cell) = CellSeen kind (view cell)
sight_of (seen.Kind kind count) = KindSeen kind count
sight_of (seen.Range low high) = RangeSeen low high
sight_of (seen.Dart dart) = DartSeen dart
sight_of (seen.Word word) = WordSeen word

-- the name of a column
abbrev pub column_name : ColumnAt → List ℕ
column_name c = c.name.now

-- a place that disagrees, with what was found and wanted there
pub record Disagreement : Type 0 where
  pub rule : ℕ
  pub tile : ℕ
  pub table : TableName
  pub file : ℕ
  pub row : ℕ
  pub column : List ℕ
  pub found : Sight
  pub wanted : Sight

abbrev pub disagreement_of : Finding → Disagreement
disagreement_of f = record { rule = f.rule; tile = f.tile; table = f.table; file = f.file; row = f.row; column = column_name f.column; found = sight_of f.found; wanted = sight_of f.wanted }
