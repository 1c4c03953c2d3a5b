-- Columns and roles that are looked at one after another.
use Rattle.std.proofs.Common.{◌≡◌, ℕ, ◌<◌, Bool, true, List, length, map, drop, get_or, refl, ◌+◌, false, add-one}
use Rattle.std.specs.List.{list_any}
use Rattle.std.proofs.Math.Seq.{drop-cons}
use Rattle.vpf_prims.specs.declared.roles.Role.{Role as LentRole}
use Rattle.vpf_prims.specs.Roles.{Role, role_of}

-- a role passes the test
pub any_found : (p : Role → Bool) (roles : List LentRole) (i : ℕ) (d : LentRole) → i < length roles → p (role_of (get_or roles i d)) ≡ true → list_any p (map role_of (drop i roles)) ≡ true
any_found p roles i d h is = rw (drop-cons roles i d, is) refl

-- a role doesn't
pub any_passed : (p : Role → Bool) (roles : List LentRole) (i : ℕ) (d : LentRole) → i < length roles → p (role_of (get_or roles i d)) ≡ false
    → list_any p (map role_of (drop (i + 1) roles)) ≡ list_any p (map role_of (drop i roles))
any_passed p roles i d h is = rw (drop-cons roles i d, is, add-one) refl
