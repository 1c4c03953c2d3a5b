-- What is selected without an index.
use Rattle.std.proofs.Common.{◌≡◌, ◌∙◌, ℕ, List, refl, sym}
use Rattle.std.specs.Prelude.{Result, Ok, None}
use Rattle.vpf_base.specs.Results.{Told}
use Rattle.vpf_value.specs.Values.{Value}
use Rattle.vpf_theme.specs.Agreeing.{scan_of}
use Rattle.vpf_select.specs.Selecting.{row_refused, selected}
use Rattle.vpf_select.specs.declared.selecting.SelectError.{SelectError}
use Rattle.vpf_select.specs.declared.selecting.SelectError.TheVariants as errors

-- it is the plain scan,
pub is_scan : (v : Value) (cells : List Value) → selected None v cells ≡ Ok (scan_of v cells)
unfolding selected
is_scan v cells = refl

-- and so no row is refused
pub none_refused : (error : SelectError) (row : ℕ) (v : Value) (cells : List Value) → error ≡ errors.Disagrees row → Told (row_refused error) (selected None v cells) → ⊥
none_refused error row v cells is told = absurd (cc (sym (is_scan v cells) ∙ (rw is at told)))

-- the rows that are selected are those of the scan
pub scanned_rows : (v : Value) (cells : List Value) (rows : List ℕ) → selected None v cells ≡ Ok rows → scan_of v cells ≡ rows
scanned_rows v cells rows h =
    let e : ◌≡◌ {A = Result (List ℕ) ℕ} (Ok (scan_of v cells)) (Ok rows) = sym (is_scan v cells) ∙ h in
    cc
