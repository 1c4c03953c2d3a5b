-- Cells behind columns of one width begin where these end.
use Rattle.std.proofs.Common.{[], ◌≡◌, ℕ, zero, suc, ◌+◌, ◌<◌, ◌≤◌, List, ◌∷◌, ◌++◌, length, take, drop, get_or, Option, Some, Ok, sym, ap, ◌∙◌, arith, inl, inr}
use Rattle.std.specs.Prelude.{slice_get}
use Rattle.std.proofs.lemmas.Bool.{cases_lt}
use Rattle.std.proofs.lemmas.List.{length-append, take_more, get_or_append_left, get_or_push}
use Rattle.std.proofs.lemmas.Option.{slice_get_within, slice_get-get_or, get_or_from_slice_get}
use Rattle.vpf_base.proofs.Results.{ok_is}
use Rattle.vpf_base.specs.declared.orders.Order.{Order}
use Rattle.vpf_findings.specs.Widths.{cell_width}
use Rattle.vpf_head.specs.Head.{Col}
use Rattle.vpf_table.specs.Grid.{Row}
use Rattle.vpf_table.specs.Inner.Offsets.{AreOffsets}
use Rattle.vpf_table.specs.Reading.{row_at}
use Rattle.vpf_table.specs.Inner.Widths.{width_of}
use Rattle.vpf_table.proofs.CellOf.{opens}
use Rattle.vpf_table.proofs.FixedWidth.{FixedCells, cell_ends}
use Rattle.vpf_table.specs.Inner.WidthLaws.{added}
use Rattle.vpf_base.proofs.Options.{some_is}

-- the width of columns and of one behind them
width_one : (a b : ℕ) (cs : List Col) (c : Col) → width_of cs ≡ Some a → cell_width c.kind c.count ≡ Some b → width_of (cs ++ c ∷ []) ≡ Some (a + b)
width_one a b [] c e f = let z : 0 ≡ a = some_is 0 a e in rw f (ap (λ (n : ℕ). Option.Some n) (omega (arith, z)))
width_one a b (x ∷ xs) c e f =
    let s = added (cell_width x.kind x.count) (width_of xs) a e in
    rw (s.2, width_one s.1 b xs c s.3 f) (ap (λ (n : ℕ). Option.Some n) (omega (arith, s.4)))

pub width_more : (cs : List Col) (i a b : ℕ) (c : Col) → slice_get cs i ≡ Some c → width_of (take i cs) ≡ Some a → cell_width c.kind c.count ≡ Some b → width_of (take (i + 1) cs) ≡ Some (a + b)
width_more cs i a b c e f g =
    let here : get_or cs i c ≡ c = get_or_from_slice_get cs i c c e in
    let more : take (i + 1) cs ≡ take i cs ++ c ∷ [] = take_more cs i c (slice_get_within cs i c e) ∙ ap (λ (x : Col). take i cs ++ x ∷ []) here in
    rw more (width_one a b (take i cs) c f g)

-- the offset of a further column
pub offsets_more : (cs : List Col) (offsets : List ℕ) (i w : ℕ) → AreOffsets cs offsets → length offsets ≡ i → width_of (take i cs) ≡ Some w → AreOffsets cs (offsets ++ w ∷ [])
offsets_more cs offsets i w are long width c n e =
    let all : List ℕ = offsets ++ w ∷ [] in
    let inside : c < length all = slice_get_within all c n e in
    let is : get_or all c n ≡ n = get_or_from_slice_get all c n n e in
    elim (cases_lt c (length offsets)) [
      | inl lt ↦ are c n (slice_get-get_or offsets c n lt ∙ ap (λ (x : ℕ). Option.Some x) (sym (get_or_append_left offsets (w ∷ []) n c lt) ∙ is))
      | inr le ↦
          let here : length offsets ≡ c = omega (arith, le, inside, length-append offsets (w ∷ [])) in
          let same : w ≡ n = sym (get_or_push offsets w n c here) ∙ is in
          let column : i ≡ c = sym long ∙ here in
          rw (← same, ← column) width
    ]

-- behind columns of one width the others are left where these end
pub left_behind : FixedCells → (k : ℕ) (o : Order) (cs : List Col) (bytes : List ℕ) (at w : ℕ) (row : Row) (past : ℕ) → width_of (take k cs) ≡ Some w → at ≤ length bytes → row_at o cs bytes at ≡ Ok (row, past)
    → (row_at o (drop k cs) bytes (at + w) ≡ Ok (drop k row, past)) × (at + w ≤ length bytes)
unfolding row_at
left_behind cells zero o cs bytes at w row past f inside e =
    let z : at ≡ at + w = let none = some_is 0 w f in omega (arith, none) in
    (rw (← z) e, omega (arith, z, inside))
left_behind cells (suc k) o [] bytes at w row past f inside e =
    let z : at ≡ at + w = let none = some_is 0 w f in omega (arith, none) in
    let is : [] ≡ row = ap (λ (x : Row × ℕ). x.0) (ok_is {x = ([], at)} {y = (row, past)} e) in
    (rw (← z, ← is) (rw (← is) at e), omega (arith, z, inside))
left_behind cells (suc k) o (c ∷ cs) bytes at w row past f inside e =
    let a = added (cell_width c.kind c.count) (width_of (take k cs)) w f in
    let s = opens o c cs bytes at row past e in
    let first = cell_ends cells o c bytes at s.next a.0 s.value a.2 inside s.cell in
    let others = left_behind cells k o cs bytes s.next a.1 s.others past a.3 first.1 s.rest in
    let there : s.next + a.1 ≡ at + w = omega (arith, first.0, a.4) in
    rw (s.is, ← there) others
