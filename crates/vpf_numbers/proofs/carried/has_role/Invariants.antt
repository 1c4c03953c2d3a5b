use Rattle.std.proofs.Common.{◌≡◌, drop, map}
use Rattle.std.specs.List.{list_any}
use Rattle.vpf_head.specs.Folding.{same_name}
use Rattle.vpf_prims.specs.Roles.{Role, role_of}
use Rattle.vpf_numbers.proofs.carried.has_role.Given as goal

abbrev pub invariant-loop-role : goal.invariant-loop-role
invariant-loop-role l =
    list_any (λ (role : Role). same_name role.name l.name) (map role_of (drop l.role-index l.roles)) ≡ list_any (λ (role : Role). same_name role.name l.name) (map role_of l.roles)
