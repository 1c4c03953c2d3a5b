-- The columns of a header that have a role, and what disagrees in them.
use Rattle.std.specs.Prelude.{ℕ, ◌<◌, List, [], ◌∷◌, Option, Some, None, IfSome, codes, slice_get}
use Rattle.std.specs.Option.{option_and_then}
use Rattle.vpf_triplet.specs.declared.kinds.Kind.{Kind}
use Rattle.vpf_triplet.specs.declared.kinds.Kind.TheVariants as kinds
use Rattle.vpf_table.specs.Head.{Col, place_of}
use Rattle.vpf_table.specs.SeenWord.TheVariants as words
use Rattle.vpf_table.specs.Findings.{Sight, KindSeen, WordSeen, Disagreement, column_name}
use Rattle.vpf_table.specs.Firsts.{◌or◌, unless}
use Rattle.vpf_prims.specs.declared.placing.TableAt.{TableAt}
use Rattle.vpf_prims.specs.declared.placing.RoleColumn.{RoleColumn}
use Rattle.vpf_prims.specs.Roles.{Role, suits, wanted_word, number_role, reference_role}

-- a column that has a role: where it stands, from 0; its name, as the header spells it; and its kind. One that is absent
-- stands nowhere, has the name of its role, and holds nothing
pub record RoleAt : Type 0 where
  pub place : Option ℕ
  pub name : List ℕ
  pub kind : Kind

-- a column of the code, its name as a list
abbrev pub role_at : RoleColumn → RoleAt
role_at c = record { place = c.place; name = column_name c.name; kind = c.kind }

-- the column of a name, in any case
abbrev pub column_of : List Col → List ℕ → Option Col
column_of columns name = option_and_then (slice_get columns) (place_of name columns)

-- the name of a column as it is spelled, or this one where there is none
abbrev pub name_or : Option Col → List ℕ → List ℕ
name_or None name = name
name_or (Some column) name = column.name

-- the kind of a column; one that is absent holds nothing
abbrev pub kind_or_none : Option Col → Kind
kind_or_none None = kinds.X
kind_or_none (Some column) = column.kind

-- the column of a role
abbrev pub role_column : List Col → Role → RoleAt
role_column columns role = record { place = place_of role.name columns; name = name_or (column_of columns role.name) role.name; kind = kind_or_none (column_of columns role.name) }

-- the column of ids
abbrev pub id_column : List Col → RoleAt
id_column columns = role_column columns (number_role (codes "id"))

-- the column of references of this name
abbrev pub reference_column : List Col → List ℕ → RoleAt
reference_column columns name = role_column columns (reference_role name)

-- the column stands among so many, where it is there
abbrev pub IsWithin : ℕ → RoleAt → Type 0
IsWithin width column = IfSome column.place (λ c. c < width)

-- what disagrees in a table, in a row or, at row 0, in the table as a whole
abbrev pub in_table : TableAt → (rule row : ℕ) → (column : List ℕ) → (found wanted : Sight) → Disagreement
in_table at rule row column found wanted = record { rule = rule; tile = at.tile; table = at.table; file = at.file; row = row; column = column; found = found; wanted = wanted }

-- the column of a role is absent, where it may not be, or is of another kind
abbrev pub placed_line : TableAt → Role → Option Col → Option Disagreement
placed_line at role None = unless role.optional (in_table at 1 0 role.name (WordSeen words.Absent) (WordSeen (wanted_word role.wants)))
placed_line at role (Some column) = unless (suits role.wants column.kind) (in_table at 1 0 column.name (KindSeen column.kind column.count) (WordSeen (wanted_word role.wants)))

-- the same of the columns of a header
abbrev pub role_line : TableAt → List Col → Role → Option Disagreement
role_line at columns role = placed_line at role (column_of columns role.name)

-- the first finding on columns, role by role
abbrev pub columns_finding : TableAt → List Col → List Role → Option Disagreement
columns_finding at columns [] = None
columns_finding at columns (role ∷ roles) = role_line at columns role or columns_finding at columns roles
