-- Walks over rows and entries, one after another.
use Rattle.std.proofs.Common.{[], ◌≡◌, ℕ, suc, ◌+◌, ◌-◌, ◌<◌, ◌≤◌, Bool, true, false, ◌||◌, ◌==◌, List, ◌∷◌, ◌++◌, length, take, map, set, get_or, Option, Some, append_assoc, refl, sym, ap, ◌∙◌, arith, inl, inr}
use Rattle.std.specs.Prelude.{find, slice_get, slice_index_or, nat_eq}
use Rattle.std.specs.List.{list_any, range_with_len}
use Rattle.std.proofs.lemmas.Bool.{cases_eq, eq-eqb, ne_eqb}
use Rattle.std.proofs.lemmas.List.{map-append, get_or-map, get_or-set_same, get_or-set_other, take_more}
use Rattle.std.proofs.lemmas.List.Folds.{list_any-append}
use Rattle.std.proofs.lemmas.Option.{get_or_from_slice_get}
use Rattle.vpf_base.proofs.Booleans.{or_true, or_false}
use Rattle.vpf_value.specs.declared.cells.Cell.{Cell}
use Rattle.vpf_value.specs.Values.{Value, Nothing, view}
use Rattle.vpf_table.specs.Grid.{Row}
use Rattle.vpf_theme.specs.Entries.{Entry}
use Rattle.vpf_theme.specs.Findings.{entry_at, no_entry}
use Rattle.vpf_theme.specs.Inner.Keeping.{HoldMarks}

-- ---- the cells of a column

pub cells_more : (f : Row → Value) (c : ℕ) (items more : List Cell) (cell : Cell) (row : Row) (rows rest : List Row) (whole : List Value) → ((r : Row) → f r ≡ slice_index_or r c Nothing) → more ≡ items ++ cell ∷ [] → slice_get row c ≡ Some (view cell) → rows ≡ row ∷ rest → map view items ++ map f rows ≡ whole → map view more ++ map f rest ≡ whole
cells_more f c items more cell row rows rest whole by pushed is steps done =
    let e : f row ≡ view cell = by row ∙ get_or_from_slice_get row c (view cell) Nothing is in
    let d = rw (steps, e) at done in
    rw (pushed, map-append view items (cell ∷ []), append_assoc) d

pub cell_there : (cells : List Cell) (k : ℕ) (cell : Cell) → k < length cells → cell ≡ get_or cells k cell → get_or (map view cells) k Nothing ≡ view cell
cell_there cells k cell h e = get_or-map view cells k cell Nothing h ∙ ap view (sym e)

-- ---- marks

pub mark_more : (marks : List Bool) (k row : ℕ) (rows rest : List ℕ) (whole : Bool) → rows ≡ row ∷ rest → 1 ≤ row → row ≤ length marks → k < length marks → (get_or marks k false || list_any (λ r. r == k + 1) rows) ≡ whole → (get_or (set marks (row - 1) true) k false || list_any (λ r. r == k + 1) rest) ≡ whole
mark_more marks k row rows rest whole steps low high h is = let done = rw steps at is in elim (cases_eq row (k + 1)) [
  | inl e ↦
      let at : row - 1 ≡ k = omega arith in
      let t : nat_eq row (k + 1) ≡ true = eq-eqb row (k + 1) e in
      let d = rw (t, or_true) at done in
      rw (at, get_or-set_same marks k true false h) d
  | inr ne ↦
      let apart : k ≡ row - 1 → ⊥ = λ z. ne (omega arith) in
      let t : nat_eq row (k + 1) ≡ false = ne_eqb row (k + 1) ne in
      let d = rw t at done in
      rw (get_or-set_other marks (row - 1) k true false apart) d
]

pub marks_more : (es : List Entry) (i n : ℕ) (marks new : List Bool) → i < length es → HoldMarks (take i es) n marks → length new ≡ length marks → ((k : ℕ) → k < length marks → get_or new k false ≡ (get_or marks k false || list_any (λ row. row == k + 1) (entry_at es i).rows)) → HoldMarks (take (i + 1) es) n new
marks_more es i n marks new h held len step = (
  len ∙ held.0,
  λ k m.
      let e = take_more es i no_entry h in
      let a = list_any-append (λ (x : Entry). list_any (λ r. r == k + 1) x.rows) (take i es) (entry_at es i ∷ []) in
      rw (e, a, or_false, step k (omega (arith, held.0)), held.1 k m) refl,
)

-- ---- numbers one after another

pub find_range_pass : (p : ℕ → Bool) (k n : ℕ) (whole : Option ℕ) → k < n → find p (range_with_len (k + 1) (n - k)) ≡ whole → p (k + 1) ≡ false → find p (range_with_len (k + 1 + 1) (n - (k + 1))) ≡ whole
find_range_pass p k n whole h left q = let e : n - k ≡ suc (n - (k + 1)) = omega arith in let d = rw e at left in rw q at d
