-- The columns of roles, one role after another.
use Rattle.std.proofs.Common.{◌≡◌, ℕ, ◌+◌, ◌<◌, Some, None, List, [], ◌∷◌, ◌++◌, length, map, drop, get_or, append_assoc, add-one, refl}
use Rattle.std.proofs.Math.Seq.{drop-cons}
use Rattle.std.proofs.lemmas.List.{map-append}
use Rattle.vpf_table.specs.Head.{Col}
use Rattle.vpf_table.specs.Findings.{Disagreement}
use Rattle.vpf_prims.specs.declared.roles.Role.{Role as LentRole}
use Rattle.vpf_prims.specs.declared.placing.TableAt.{TableAt}
use Rattle.vpf_prims.specs.declared.placing.RoleColumn.{RoleColumn}
use Rattle.vpf_prims.specs.Roles.{role_of}
use Rattle.vpf_prims.specs.Columns.{RoleAt, role_at, role_column, role_line, columns_finding}

-- a column without a finding is passed
pub placed_pass : (at : TableAt) (columns : List Col) (roles : List LentRole) (i : ℕ) (d : LentRole) → i < length roles → role_line at columns (role_of (get_or roles i d)) ≡ None
    → columns_finding at columns (map role_of (drop (i + 1) roles)) ≡ columns_finding at columns (map role_of (drop i roles))
placed_pass at columns roles i d h none = rw (drop-cons roles i d, none, add-one) refl

-- a finding of a column is the first of those that are left
pub placed_stop : (at : TableAt) (columns : List Col) (roles : List LentRole) (i : ℕ) (d : LentRole) (f : Disagreement) → i < length roles → role_line at columns (role_of (get_or roles i d)) ≡ Some f
    → columns_finding at columns (map role_of (drop i roles)) ≡ Some f
placed_stop at columns roles i d f h some = rw (drop-cons roles i d, some) refl

-- one more column is placed
pub placed_more : (columns : List Col) (roles : List LentRole) (i : ℕ) (d : LentRole) (placed more : List RoleColumn) (column : RoleColumn) (whole : List RoleAt) → i < length roles → more ≡ placed ++ column ∷ []
    → role_at column ≡ role_column columns (role_of (get_or roles i d)) → map role_at placed ++ map (role_column columns) (map role_of (drop i roles)) ≡ whole
    → map role_at more ++ map (role_column columns) (map role_of (drop (i + 1) roles)) ≡ whole
placed_more columns roles i d placed more column whole h pushed is done =
    rw (pushed, map-append role_at placed (column ∷ []), append_assoc, is, add-one) (rw (drop-cons roles i d) at done)
