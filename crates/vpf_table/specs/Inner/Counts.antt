-- What counting a table found, and of which bytes.
use Rattle.std.specs.Prelude.{◌≡◌, ◌≤◌, ◌<◌, ◌^◌, ℕ, List, length, Ok, Some, IfSome}
use Rattle.vpf_base.specs.Limits.{most_rows}
use Rattle.vpf_head.specs.Head.{Head}
use Rattle.vpf_head.specs.Reading.{header_of}
use Rattle.vpf_table.specs.declared.counted.Counted.{Counted}
use Rattle.vpf_table.specs.Reading.{rows_at}
use Rattle.vpf_table.specs.Walking.{rows_of}
use Rattle.vpf_table.specs.Inner.Widths.{width_of}

-- from `start` on are rows, so many, and of this width where one is kept: it is wherever it fits a number
pub record IsCountedAs (bytes : List ℕ) (h : Head) (start : ℕ) (c : Counted) : Type 0 where
  pub read : rows_at most_rows h.order h.columns bytes start ≡ Ok (rows_of (rows_at most_rows h.order h.columns bytes start))
  pub count : c.rows ≡ length (rows_of (rows_at most_rows h.order h.columns bytes start))
  pub fixed : IfSome c.width (λ w. width_of h.columns ≡ Some w)
  pub known : (w : ℕ) → width_of h.columns ≡ Some w → w < 2 ^ 64 → c.width ≡ Some w
  pub inside : start ≤ length bytes

-- the bytes begin with a header, behind which the rows are that were counted
pub record IsCountOf (bytes : List ℕ) (c : Counted) : Type 0 where
  pub head : Head
  pub begun : header_of bytes ≡ Ok (head, c.start)
  pub counts : IsCountedAs bytes head c.start c
