use Rattle.std.proofs.Common.{◌≡◌, ◌++◌, drop, length, map}
use Rattle.std.specs.Prelude.{All}
use Rattle.vpf_prims.specs.Roles.{role_of}
use Rattle.vpf_prims.specs.Columns.{IsWithin, columns_finding, role_at, role_column}
use Rattle.vpf_prims.proofs.placing.place_roles.Given as goal

abbrev pub invariant-loop-role : goal.invariant-loop-role
invariant-loop-role l = record {
  left : columns_finding l.at l.header.columns (map role_of (drop l.role-index l.roles)) ≡ columns_finding l.at l.header.columns (map role_of l.roles);
  columns : map role_at l.columns.items ++ map (role_column l.header.columns) (map role_of (drop l.role-index l.roles)) ≡ map (role_column l.header.columns) (map role_of l.roles);
  within : All (λ column. IsWithin (length l.header.columns) (role_at column)) l.columns.items;
}
