-- Rows of which none has a finding.
use Rattle.std.proofs.Common.{◌≡◌, ℕ, zero, suc, ◌+◌, Option, None, List, length, get_or, refl, subst, arith}
use Rattle.vpf_findings.specs.Firsts.{◌or◌, first_of_rows}
use Rattle.vpf_findings.specs.Inner.FirstLaws.{rows_none, rows_silent}
use Rattle.vpf_prims.specs.Lists.{kth}
use Rattle.vpf_prims.specs.Numbering.{IsRowOf}

-- the same by the numbers of the rows
pub row_none : {F R : Type 0} (lines : ℕ → R → Option F) (rows : List R) (d : R) → first_of_rows lines 1 rows ≡ None → (k : ℕ) → IsRowOf (length rows) k
    → lines k (kth rows k d) ≡ None
row_none lines rows d none zero row = absurd (let a = row.0 in omega arith)
row_none lines rows d none (suc i) row =
    let high = row.1 in
    let e : 1 + i ≡ suc i = omega arith in
    subst (λ k. lines k (get_or rows i d) ≡ None) e (rows_none lines 1 rows none i d (omega arith))

pub row_silent : {F R : Type 0} (lines : ℕ → R → Option F) (rows : List R) (d : R)
    → ((k : ℕ) → IsRowOf (length rows) k → lines k (kth rows k d) ≡ None) → first_of_rows lines 1 rows ≡ None
row_silent lines rows d all = rows_silent lines 1 rows d (λ i h.
    let e : suc i ≡ 1 + i = omega arith in
    let here : lines (suc i) (get_or rows i d) ≡ None = all (suc i) (omega arith, omega arith) in
    subst (λ k. lines k (get_or rows i d) ≡ None) e here)

pub none_both : {F : Type 0} (a b : Option F) → a ≡ None → b ≡ None → (a or b) ≡ None
none_both a b ha hb = rw (ha, hb) refl
