-- The class whose features are joined to primitives by these' numbers (MIL-STD-2407, 5.2.3, feature classes).
use Rattle.std.specs.Prelude.{ℕ, ◌-◌, List, [], Option, Some, None, codes, slice_get}
use Rattle.vpf_findings.specs.Text.Bytes.{printed}
use Rattle.vpf_findings.specs.Text.Texts.{◌&◌}
use Rattle.vpf_feature_files.specs.SchemaRows.Items.{name_in}
use Rattle.vpf_feature_files.specs.SchemaRows.Joins.{SchemaJoin}

-- the class that a row of a schema table says; where there is no row, an empty name
abbrev pub class_said : Option SchemaJoin → List ℕ
class_said (Some row) = row.class
class_said None = []

-- the class in this row, counted from 1
abbrev pub class_in_row : List SchemaJoin → ℕ → List ℕ
class_in_row rows row = class_said (slice_get rows (row - 1))

-- the line where a coverage isn't cut into tiles since features of this class are joined so: the name of the class as it is read
abbrev pub keyed_text : (class : List ℕ) → List ℕ
keyed_text class = codes "refused key-in-table " & printed (name_in class) & codes "\n"
