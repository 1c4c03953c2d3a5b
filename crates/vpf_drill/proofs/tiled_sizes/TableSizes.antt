-- Tables of short rows under a short header: how many bytes their files have, and that they pass no limit.
use Rattle.std.proofs.Common.{◌≡◌, ◌≤◌, ℕ, ◌+◌, ◌*◌, Bool, true, false, length, refl, arith, length-append}
use Rattle.std.specs.Prelude.{None, nat_lt, ◌&&◌}
use Rattle.std.specs.Int.{w32}
use Rattle.std.specs.List.{AllByRecursion}
use Rattle.std.proofs.lemmas.Bool.Decides.{nat_tests}
use Rattle.vpf_base.specs.Numbers.{number}
use Rattle.vpf_base.proofs.NumberLemmas.{length-number}
use Rattle.vpf_head.specs.Canonical.{canonical_header, canonical_text}
use Rattle.vpf_head.specs.Head.{varies_in}
use Rattle.vpf_varindex.specs.RowIndex.{row_index}
use Rattle.vpf_table.specs.Canonical.{canonical_spans, canonical_table, row_text, rows_text}
use Rattle.vpf_table.specs.Grid.{Grid}
use Rattle.vpf_write.specs.Writing.{first_limit, index_size, limit_by}
use Rattle.vpf_drill.proofs.tiled_sizes.RowSizes.{index_long, rows_few, spans_many}

-- a header text of at most 500 bytes, and rows of at most 104
pub record IsShort (g : Grid) : Type 0 where
  pub text : length (canonical_text g.head) ≤ 500
  pub rows : AllByRecursion (λ row. length (row_text g.head.order g.head.columns row) ≤ 104) g.rows

-- the bytes of the table
pub table_bytes : (g : Grid) → IsShort g → length (canonical_table g) ≤ 504 + 104 * length g.rows
table_bytes g s =
    let text = s.text in
    let a = length-append (canonical_header g.head) (rows_text g.head.order g.head.columns g.rows) in
    let c : length (canonical_header g.head) ≡ 4 + length (canonical_text g.head) =
    omega (arith, length-number g.head.order (length (canonical_text g.head)), length-append (number g.head.order w32 (length (canonical_text g.head))) (canonical_text g.head)) in
    omega (arith, a, c, text, rows_few g.head.order g.head.columns g.rows s.rows)

-- those of its index
pub index_bytes : (g : Grid) → length (row_index g.head.order (length (canonical_text g.head)) (canonical_spans g)) ≡ 8 + 8 * length g.rows
index_bytes g =
    let a = index_long g.head.order (length (canonical_text g.head)) (canonical_spans g) in
    let b = spans_many g.head.order g.head.columns (length (canonical_header g.head)) g.rows in
    omega (arith, a, b)

no_limit_by : (text rows size : ℕ) (varies : Bool) → text ≤ 500 → rows ≤ 500000 → size ≤ 60000000 → limit_by text rows size varies ≡ None
unfolding limit_by
no_limit_by text rows size varies t r s =
    let a : nat_lt 65536 text ≡ false = grind (arith, nat_tests) in
    let b : nat_lt 16777215 rows ≡ false = grind (arith, nat_tests) in
    let c : nat_lt 67108864 size ≡ false = grind (arith, nat_tests) in
    let d : nat_lt 67108864 (index_size rows) ≡ false = grind (arith, nat_tests) in
    rw (a, b, c, d, neither varies) refl
  where
    neither : (v : Bool) → (v && false) ≡ false
    neither true = refl
    neither false = refl

-- few rows pass no limit
pub no_limit : (g : Grid) → IsShort g → length g.rows ≤ 500000 → first_limit g ≡ None
no_limit g s few =
    let bytes = table_bytes g s in
    no_limit_by (length (canonical_text g.head)) (length g.rows) (length (canonical_table g)) (varies_in g.head.columns) s.text few (omega (arith, bytes, few))
