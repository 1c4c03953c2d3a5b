-- What disagrees in the columns of a table, next to those of the first tile that has the table: a column is its name at its place.
use Rattle.std.specs.Prelude.{ℕ, Bool, ◌&&◌, ◌==◌, List, [], ◌∷◌, Option, Some, None}
use Rattle.std.specs.Option.{option_eq}
use Rattle.vpf_triplet.specs.Kinds.{same_kind}
use Rattle.vpf_head.specs.Head.{Col, place_of}
use Rattle.vpf_head.specs.Making.{same_count}
use Rattle.vpf_findings.specs.declared.finding.SeenWord.TheVariants as words
use Rattle.vpf_findings.specs.Findings.{Sight, KindSeen, WordSeen, Disagreement}
use Rattle.vpf_findings.specs.Firsts.{◌or◌, unless}
use Rattle.vpf_prims.specs.declared.placing.TableAt.{TableAt}
use Rattle.vpf_prims.specs.Columns.{column_of, in_table, role_line}
use Rattle.vpf_prims.specs.Roles.{Role}
use Rattle.vpf_prims.specs.Suiting.{carried_columns}

-- the kind and count of a column, as they are seen
abbrev pub form_seen : Col → Sight
form_seen column = KindSeen column.kind column.count

-- nothing is seen
abbrev pub none_seen : Sight
none_seen = WordSeen words.Absent

-- a column stands at another place than there, or one of the two isn't there
abbrev pub moved_line : TableAt → (name : List ℕ) → (here there : Option Col) → (same : Bool) → Option Disagreement
moved_line at name None None same = None
moved_line at name None (Some there) same = Some (in_table at 1 0 name none_seen (form_seen there))
moved_line at name (Some here) there same = unless same (in_table at 1 0 here.name (form_seen here) none_seen)

-- the column of this name stands here as it does there
abbrev pub named_line : TableAt → (columns there : List Col) → List ℕ → Option Disagreement
named_line at columns there name =
    moved_line at name (column_of columns name) (column_of there name) (option_eq (λ m n. m == n) (place_of name columns) (place_of name there))

-- the same where there is something to be like
abbrev pub like_line : TableAt → List Col → Option (List Col) → List ℕ → Option Disagreement
like_line at columns None name = None
like_line at columns (Some there) name = named_line at columns there name

-- the lines on the column of a role
abbrev pub role_lines : TableAt → List Col → Option (List Col) → Role → Option Disagreement
role_lines at columns model role = role_line at columns role or like_line at columns model role.name

-- the first finding on the columns with a role, role by role
abbrev pub roles_finding : TableAt → List Col → Option (List Col) → List Role → Option Disagreement
roles_finding at columns model [] = None
roles_finding at columns model (role ∷ roles) = role_lines at columns model role or roles_finding at columns model roles

-- a column without a role is of another kind or count than the one of its name there
abbrev pub form_line : TableAt → Col → Option Col → Option Disagreement
form_line at column None = None
form_line at column (Some there) = unless (same_kind column.kind there.kind && same_count column.count there.count) (in_table at 1 0 column.name (form_seen column) (form_seen there))

-- the lines on a column without a role
abbrev pub carried_lines : TableAt → (columns there : List Col) → Col → Option Disagreement
carried_lines at columns there column = named_line at columns there column.name or form_line at column (column_of there column.name)

-- the first finding on some columns without a role
abbrev pub carried_columns_finding : TableAt → (columns there : List Col) → List Col → Option Disagreement
carried_columns_finding at columns there [] = None
carried_columns_finding at columns there (column ∷ carried) = carried_lines at columns there column or carried_columns_finding at columns there carried

-- the first of some columns there that is absent here
abbrev pub lacking_finding : TableAt → (columns there : List Col) → List Col → Option Disagreement
lacking_finding at columns there [] = None
lacking_finding at columns there (column ∷ carried) = named_line at columns there column.name or lacking_finding at columns there carried

-- the first finding on the columns without a role, next to those there: first those that are here, then those that are there
abbrev pub beside_finding : TableAt → List Role → List Col → Option (List Col) → Option Disagreement
beside_finding at roles columns None = None
beside_finding at roles columns (Some there) =
    carried_columns_finding at columns there (carried_columns roles columns)
    or lacking_finding at columns there (carried_columns roles there)

-- the first of the columns of a table that is to have none without a role
abbrev pub bare_line : TableAt → List Col → Option Disagreement
bare_line at [] = None
bare_line at (column ∷ columns) = Some (in_table at 1 0 column.name (form_seen column) none_seen)
