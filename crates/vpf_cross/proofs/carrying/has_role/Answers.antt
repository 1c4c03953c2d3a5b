use Rattle.std.proofs.Common.{◌∙◌, sym}
use Rattle.vpf_head.specs.Folding.{same_name}
use Rattle.vpf_prims.specs.Roles.{Role}
use Rattle.vpf_numbers.specs.Inner.CarriedLaws.{any_passed, any_found}
use Rattle.vpf_cross.proofs.carrying.has_role.Goals as goal

pub returns-then-is_same_name : goal.returns-then-is_same_name
returns-then-is_same_name c =
    sym (sym c.loop-role.invariant ∙ any_found (λ (role : Role). same_name role.name c.args.name.now) c.args.roles.now c.loop-role.role-index _ c.loop-role-test.true (sym c.is_same_name.ensures ∙ c.if-is_same_name.true))

pub loop-role-preserved : goal.loop-role-preserved
loop-role-preserved c =
    any_passed (λ (role : Role). same_name role.name c.args.name.now) c.args.roles.now c.loop-role.role-index _ c.loop-role-test.true (sym c.is_same_name.ensures ∙ c.if-is_same_name.false) ∙ c.loop-role.invariant
