-- The names of tiles in the width of their column.
use Rattle.std.proofs.Common.{◌≡◌, ℕ, suc, ◌-◌, ◌≤◌, length, arith, length-append}
use Rattle.std.specs.Prelude.{replicate}
use Rattle.std.specs.Fmt.{decimal}
use Rattle.std.proofs.lemmas.Fmt.{length-decimal-le}
use Rattle.std.proofs.lemmas.List.{length-replicate}
use Rattle.vpf_head.specs.Bytes.{space}
use Rattle.vpf_vectors.specs.Tables.{padded_name}

-- it has the column's width
pub name_length : (k : ℕ) → k ≤ 100000 → length (padded_name k) ≡ 8
name_length k h =
    let d : length (decimal k) ≤ 6 = length-decimal-le 6 k (omega arith) (omega arith) (omega arith) in
    let a = length-append (decimal k) (replicate (8 - suc (length (decimal k))) space) in
    let b = length-replicate (8 - suc (length (decimal k))) space in
    omega (arith, a, b)
