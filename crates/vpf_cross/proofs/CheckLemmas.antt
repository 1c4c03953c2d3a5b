-- Lines that are looked at one after another.
use Rattle.std.proofs.Common.{◌≡◌, Option, Some, None, refl}
use Rattle.vpf_findings.specs.Firsts.{◌or◌}

-- the first of two lines says something
pub says : {F : Type 0} (a b : Option F) (f : F) → a ≡ Some f → (a or b) ≡ Some f
says a b f some = rw some refl

-- it says nothing
pub silent : {F : Type 0} (a b : Option F) → a ≡ None → (a or b) ≡ b
silent a b none = rw none refl
