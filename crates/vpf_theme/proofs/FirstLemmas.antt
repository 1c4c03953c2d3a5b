-- Loops over numbers that stop at the first thing that a line says.
use Rattle.std.proofs.Common.{◌≡◌, ℕ, ◌+◌, ◌-◌, ◌<◌, ◌≤◌, Option, Some, None, sym, ◌∙◌}
use Rattle.vpf_findings.specs.Firsts.{first_over}
use Rattle.vpf_findings.specs.Inner.FirstLaws.{over_pass, over_stop, over_end}

-- nothing is said of k
pub first_pass : {F : Type 0} (line : ℕ → Option F) (k n : ℕ) (whole : Option F) → k < n → first_over line k (n - k) ≡ whole → line k ≡ None → first_over line (k + 1) (n - (k + 1)) ≡ whole
first_pass line k n whole h left none = over_pass line k n h none ∙ left

-- something is said of k
pub first_stop : {F : Type 0} (line : ℕ → Option F) (k n : ℕ) (whole : Option F) (f : F) → k < n → first_over line k (n - k) ≡ whole → line k ≡ Some f → whole ≡ Some f
first_stop line k n whole f h left some = sym left ∙ over_stop line k n f h some

-- nothing is said of any
pub first_done : {F : Type 0} (line : ℕ → Option F) (k n : ℕ) (whole : Option F) → n ≤ k → first_over line k (n - k) ≡ whole → whole ≡ None
first_done line k n whole h left = sym left ∙ over_end line k n h
