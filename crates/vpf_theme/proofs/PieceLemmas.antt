-- Pieces of a file: what stands at an offset is read there, and what is read there stands.
use Rattle.std.proofs.Common.{[], ◌≡◌, ℕ, suc, ◌+◌, ◌<◌, ◌≤◌, List, ◌∷◌, ◌++◌, length, take, drop, get_or, sym, ap, ◌∙◌, arith}
use Rattle.std.specs.Int.{w32}
use Rattle.std.proofs.lemmas.List.{drop-drop, get_or-drop, length-drop, take-append-drop}
use Rattle.std.proofs.Math.Seq.{drop-cons}
use Rattle.vpf_base.proofs.ByteLists.{IsBytes-drop}
use Rattle.vpf_base.specs.Bytes.{IsBytes}
use Rattle.vpf_base.specs.declared.orders.Order.{Order}
use Rattle.vpf_base.specs.Numbers.{number, number_of}
use Rattle.vpf_value.specs.declared.coords.WordWidth.TheVariants.{Four}
use Rattle.vpf_value.specs.Inner.NumberLaws.{number-number_of, number-number_of16, number_of-number, number_of-number16, number_of16_below, number_of_below}
use Rattle.vpf_theme.specs.declared.layout.RowSize.{RowSize}
use Rattle.vpf_theme.specs.declared.layout.RowSize.TheVariants as sizes
use Rattle.vpf_theme.specs.Layouts.{row_bytes, u32_at}
use Rattle.vpf_theme.specs.Entries.{row_number}
use Rattle.vpf_theme.specs.Spelling.{HoldsRow, IsNumberAt, StandsAt, row_width}

-- ---- numbers

pub row_again : (o : Order) (size : RowSize) (n : ℕ) (rest : List ℕ) → HoldsRow size n → row_number o size (number o (row_width size) n ++ rest) ≡ n
row_again o sizes.Short n rest h = number_of-number16 o n rest h
row_again o sizes.Long n rest h = number_of-number o Four n rest h

row_takes : (o : Order) (size : RowSize) (bytes : List ℕ) → IsBytes bytes → row_bytes size ≤ length bytes → number o (row_width size) (row_number o size bytes) ≡ take (row_bytes size) bytes
row_takes o sizes.Short bytes fits h = number-number_of16 o bytes fits h
row_takes o sizes.Long bytes fits h = number-number_of o Four bytes fits h

pub row_held : (o : Order) (size : RowSize) (bytes : List ℕ) → IsBytes bytes → HoldsRow size (row_number o size bytes)
row_held o sizes.Short bytes fits = number_of16_below o bytes fits
row_held o sizes.Long bytes fits = number_of_below o Four bytes fits

-- ---- what stands at an offset

pub u32_there : (o : Order) (n : ℕ) (bytes : List ℕ) (at : ℕ) → IsNumberAt o bytes at n → u32_at o bytes at ≡ n
u32_there o n bytes at h = ap (number_of o w32) h.1.1 ∙ number_of-number o Four n h.1.0 h.0

pub byte_there : (bytes rest : List ℕ) (at b : ℕ) → drop at bytes ≡ b ∷ rest → get_or bytes at 0 ≡ b
byte_there bytes rest at b e =
    let z : at + 0 ≡ at = omega arith in
    let g = get_or-drop at bytes 0 0 in
    sym (rw z at g) ∙ ap (λ (x : List ℕ). get_or x 0 0) e

pub letter_there : (bytes piece : List ℕ) (at : ℕ) → length piece ≡ 1 → StandsAt bytes at piece → get_or bytes at 0 ≡ get_or piece 0 0
letter_there bytes [] at len s = absurd (omega arith)
letter_there bytes (b ∷ piece) at len s = byte_there bytes (piece ++ s.0) at b s.1

-- ---- what is read at an offset stands there

pub byte_stands : (bytes : List ℕ) (at b : ℕ) → at < length bytes → get_or bytes at 0 ≡ b → StandsAt bytes at (b ∷ [])
byte_stands bytes at b h e = (drop (suc at) bytes, drop-cons bytes at 0 h ∙ ap (λ (x : ℕ). x ∷ drop (suc at) bytes) e)

-- the first bytes of a part
pub front_stands : (bytes piece : List ℕ) (at n : ℕ) → piece ≡ take n (drop at bytes) → drop at bytes ≡ piece ++ drop (at + n) bytes
front_stands bytes piece at n e = sym (take-append-drop n (drop at bytes)) ∙ ap (λ (x : List ℕ). x ++ drop n (drop at bytes)) (sym e) ∙ ap (λ (x : List ℕ). piece ++ x) (drop-drop n at bytes)

pub u32_stands : (o : Order) (bytes : List ℕ) (at n : ℕ) → IsBytes bytes → at + 4 ≤ length bytes → u32_at o bytes at ≡ n → IsNumberAt o bytes at n
u32_stands o bytes at n fits h e =
    let part = IsBytes-drop at bytes fits in
    let read = number-number_of o Four (drop at bytes) part (omega (arith, length-drop at bytes)) in
    rw (← e) (number_of_below o Four (drop at bytes) part, (drop (at + 4) bytes, front_stands bytes (number o w32 (u32_at o bytes at)) at 4 read))

pub row_stands : (o : Order) (size : RowSize) (bytes : List ℕ) (at : ℕ) → IsBytes bytes → at + row_bytes size ≤ length bytes → drop at bytes ≡ number o (row_width size) (row_number o size (drop at bytes)) ++ drop (at + row_bytes size) bytes
row_stands o size bytes at fits h = front_stands bytes (number o (row_width size) (row_number o size (drop at bytes))) at (row_bytes size) (row_takes o size (drop at bytes) (IsBytes-drop at bytes fits) (omega (arith, length-drop at bytes)))
