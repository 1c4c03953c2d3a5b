-- Pieces of a file: what stands at an offset is read there, and what is read there stands.
use Rattle.std.proofs.Common.{◌≡◌, ℕ, ◌+◌, ◌<◌, ◌≤◌, List, ◌++◌, length, drop, sym, ap, ◌∙◌, arith}
use Rattle.std.specs.Int.{w32}
use Rattle.std.proofs.lemmas.List.{drop_at, drop-drop, length-append, length-drop}
use Rattle.vpf_base.specs.declared.orders.Order.{Order}
use Rattle.vpf_base.specs.Numbers.{number}
use Rattle.vpf_value.specs.declared.coords.WordWidth.TheVariants.{Four}
use Rattle.vpf_value.specs.Inner.NumberLaws.{length-number, length-number16}
use Rattle.vpf_theme.specs.declared.layout.RowSize.{RowSize}
use Rattle.vpf_theme.specs.declared.layout.RowSize.TheVariants as sizes
use Rattle.vpf_theme.specs.Layouts.{row_bytes}
use Rattle.vpf_theme.specs.Spelling.{StandsAt, row_width}

pub length-u32 : (o : Order) (n : ℕ) → length (number o w32 n) ≡ 4
length-u32 o n = length-number o Four n

pub length-row : (o : Order) (size : RowSize) (n : ℕ) → length (number o (row_width size) n) ≡ row_bytes size
length-row o sizes.Short n = length-number16 o n
length-row o sizes.Long n = length-number o Four n

-- what follows a piece
pub after : (bytes piece rest : List ℕ) (at n : ℕ) → length piece ≡ n → drop at bytes ≡ piece ++ rest → drop (at + n) bytes ≡ rest
after bytes piece rest at n len e = sym (drop-drop n at bytes) ∙ ap (drop n) e ∙ drop_at piece rest n len

-- a piece that has a byte lies in the file
pub piece_inside : (bytes piece : List ℕ) (at : ℕ) → 0 < length piece → StandsAt bytes at piece → at + length piece ≤ length bytes
piece_inside bytes piece at some s = omega (arith, length-drop at bytes, ap length s.1, length-append piece s.0)
