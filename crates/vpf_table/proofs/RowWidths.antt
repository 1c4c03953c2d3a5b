-- Each row has a cell for each column.
use Rattle.std.proofs.Common.{◌≡◌, ℕ, zero, suc, leb, List, [], ◌∷◌, length, ◌+◌, Ok, Err, sym, inl, inr}
use Rattle.std.specs.Prelude.{All}
use Rattle.std.proofs.lemmas.List.Elements.{All-nil, All-cons, All-same}
use Rattle.vpf_base.specs.Limits.{most_rows}
use Rattle.vpf_base.proofs.Booleans.{tested}
use Rattle.vpf_base.proofs.Results.{ok_is, bind_ok}
use Rattle.vpf_base.specs.Results.{◌>>=◌}
use Rattle.vpf_base.specs.declared.orders.Order.{Order}
use Rattle.vpf_triplet.specs.declared.places.Code.TheVariants as codes
use Rattle.vpf_triplet.specs.Places.{fault}
use Rattle.vpf_head.specs.Head.{Col}
use Rattle.vpf_table.specs.Grid.{Row}
use Rattle.vpf_table.specs.Reading.{row_at, rows_at}
use Rattle.vpf_table.proofs.Parts.{rows}
use Rattle.vpf_table.proofs.CellOf.{length-row}

abbrev IsWide : List Col → Row → Type 0
IsWide cs row = length row ≡ length cs

pub rows_are_wide : (m : ℕ) (o : Order) (cs : List Col) (bytes : List ℕ) (at : ℕ) (rs : List Row) → rows_at m o cs bytes at ≡ Ok rs → All (IsWide cs) rs
unfolding rows_at
rows_are_wide zero o cs bytes at rs e =
    elim (tested (leb (length bytes) at) (rows []) (Err (fault at (codes.LimitRows (most_rows + 1)))) (rows rs) e) [
      | inl t ↦ All-same (IsWide cs) rs [] (sym (ok_is {x = []} {y = rs} t.1)) (All-nil (IsWide cs))
      | inr t ↦ absurd (let f = t.1 in cc)
    ]
rows_are_wide (suc m) o cs bytes at rs e =
    elim (tested (leb (length bytes) at) (rows []) (row_at o cs bytes at >>= λ r. rows_at m o cs bytes r.1 >>= λ others. Ok (r.0 ∷ others)) (rows rs) e) [
      | inl t ↦ All-same (IsWide cs) rs [] (sym (ok_is {x = []} {y = rs} t.1)) (All-nil (IsWide cs))
      | inr t ↦
          let a = bind_ok (row_at o cs bytes at) (λ r. rows_at m o cs bytes r.1 >>= λ others. Ok (r.0 ∷ others)) rs t.1 in
          let b = bind_ok (rows_at m o cs bytes a.0.1) (λ others. Ok (a.0.0 ∷ others)) rs a.2 in
          let first = length-row o cs bytes at a.0.0 a.0.1 a.1 in
          let others = rows_are_wide m o cs bytes a.0.1 b.0 b.1 in
          All-same (IsWide cs) rs (a.0.0 ∷ b.0) (sym (ok_is {x = (a.0.0 ∷ b.0)} {y = rs} b.2)) (All-cons (IsWide cs) a.0.0 b.0 first others)
    ]
