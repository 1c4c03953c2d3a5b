-- The names of classes, tables and columns in the cells of a feature class schema table (MIL-STD-2407, 5.2.3, feature classes).
use Rattle.std.specs.Prelude.{ℕ, ◌-◌, ◌||◌, Bool, List, drop, length, Option, Some, None, codes, nat_eq, if◌then◌else◌}
use Rattle.std.specs.Cmp.Lexicographic.{pointwise}
use Rattle.std.specs.Ordering.{on}
use Rattle.std.specs.Str.{bytes_eq}
use Rattle.vpf_findings.specs.declared.finding.TableName.{TableName}
use Rattle.vpf_findings.specs.declared.finding.TableName.TheVariants as tables
use Rattle.vpf_source.specs.Names.Items.{file_beside, small, trimmed}

-- a name as it is read: without padding around it, in small letters
abbrev pub name_in : List ℕ → List ℕ
name_in item = small (trimmed item)

-- two items name the same
abbrev pub same_item : List ℕ → List ℕ → Bool
same_item = on name_in (pointwise nat_eq)

-- the last of some bytes, so many of them at most
abbrev pub last_bytes : ℕ → List ℕ → List ℕ
last_bytes n bytes = drop (length bytes - n) bytes

-- the end of a name that tells a table of features: of points, of lines or of areas
abbrev pub is_feature_end : List ℕ → Bool
is_feature_end end = bytes_eq end (codes ".pft") || (bytes_eq end (codes ".lft") || bytes_eq end (codes ".aft"))

-- the item names a table of features
abbrev pub is_feature_table : List ℕ → Bool
is_feature_table item = is_feature_end (last_bytes 4 (name_in item))

-- the table of primitives that the item names, of those that features are joined to
abbrev pub primitive_named : List ℕ → Option TableName
primitive_named item =
    if bytes_eq (name_in item) (codes "edg") then Some tables.Edg
    else if bytes_eq (name_in item) (codes "fac") then Some tables.Fac
    else if bytes_eq (name_in item) (codes "cnd") then Some tables.Cnd
    else if bytes_eq (name_in item) (codes "end") then Some tables.End
    else None

-- the file that the item names in the folder of the coverage; none where no file of a folder can have the name
abbrev pub own_file : List ℕ → Option (List ℕ)
own_file item = file_beside (codes "") item
