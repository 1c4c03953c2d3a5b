use Rattle.std.proofs.Common.{◌≡◌, drop, map}
use Rattle.vpf_prims.specs.Roles.{role_of}
use Rattle.vpf_numbers.specs.Around.{columns_in_view}
use Rattle.vpf_numbers.specs.ColumnLines.{roles_finding}
use Rattle.vpf_numbers.proofs.columns.check_roles.Given as goal

abbrev pub invariant-loop-role : goal.invariant-loop-role
invariant-loop-role l =
    roles_finding l.at l.header.columns (columns_in_view l.model) (map role_of (drop l.role-index l.roles)) ≡ roles_finding l.at l.header.columns (columns_in_view l.model) (map role_of l.roles)
