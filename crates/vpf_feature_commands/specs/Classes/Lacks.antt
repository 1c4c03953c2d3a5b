-- Why there are no features to be told of.
use Rattle.std.specs.Prelude.{ℕ, List, Option, Some, None}
use Rattle.vpf_triplet.specs.declared.kinds.Kind.{Kind}
use Rattle.vpf_value.specs.Values.{Value, view}
use Rattle.vpf_findings.specs.Findings.{Disagreement, disagreement_of}
use Rattle.vpf_feature_commands.specs.declared.classes.errors.FeatureError.{FeatureError}
use Rattle.vpf_feature_commands.specs.declared.classes.errors.FeatureError.TheVariants as errors

pub data Lack : Type 0 where
  -- no row of the schema table has the class
  ClassLacks : Lack
  -- no row of the class joins a feature table to primitives, or the feature table of the first that does isn't there
  TableLacks : Lack
  -- the column of this name isn't there
  ColumnLacks : List ℕ → Lack
  -- the thematic index in this file isn't one of the column
  IndexUnfit : List ℕ → Disagreement → Lack
  -- the word says no value of the column
  ValueLacks : Lack
  -- the thematic index in this file lists a row whose cell isn't the value: the column's kind, the row, its cell and the value
  IndexWrong : List ℕ → Kind → ℕ → Value → Value → Lack

-- what an error of the code says; of want of memory nothing
abbrev pub lack_seen : FeatureError → Option Lack
lack_seen errors.NoClass = Some ClassLacks
lack_seen errors.NoTable = Some TableLacks
lack_seen (errors.NoColumn name) = Some (ColumnLacks name.items)
lack_seen (errors.Unfit file finding) = Some (IndexUnfit file.now (disagreement_of finding))
lack_seen errors.BadValue = Some ValueLacks
lack_seen (errors.Wrong file kind row cell value) = Some (IndexWrong file.now kind row (view cell) value)
lack_seen errors.NoMemory = None
