-- What a reading that comes to a value says of its steps.
use Rattle.std.proofs.Common.{◌≡◌, ◌∙◌, ℕ, true, false, List, Result, Ok, Err, refl, sym, ap}
use Rattle.vpf_triplet.specs.declared.places.Place.{Place}
use Rattle.vpf_head.specs.Head.{varies_in}
use Rattle.vpf_table.specs.Grid.{Grid}
use Rattle.vpf_base.proofs.Results.{no_ok, ok_is}
use Rattle.vpf_library_files.specs.declared.loading.loading.LoadStop.{LoadStop}
use Rattle.vpf_library_files.specs.declared.loading.loading.LoadStop.TheVariants as stops
use Rattle.vpf_library_files.specs.Loading.Loading.{Read, ◌and_then◌, graded}

-- what reading comes to
abbrev pub gives : {V : Type 0} → V → ℕ → Read V
gives v n = (Ok v, n)

-- what stops it
abbrev pub stopped : {V : Type 0} → LoadStop → ℕ → Read V
stopped stop n = (Err stop, n)

abbrev outcome : {V : Type 0} → Read V → Result V LoadStop
outcome read = read.0

pub no_value : {V : Type 0} (stop : LoadStop) (n k : ℕ) (v : V) → stopped {V = V} stop n ≡ (Ok v, k) → ⊥
no_value stop n k v e = no_ok v stop (sym (ap outcome e))

-- one reading comes to one value and one count
pub value_is : {V : Type 0} (x y : V) (m n : ℕ) → gives x m ≡ gives y n → x ≡ y
value_is x y m n e = ok_is (ap outcome e)

abbrev outcome_count : {V : Type 0} → Read V → ℕ
outcome_count read = read.1

pub one_count : {V : Type 0} (x y : V) (m n : ℕ) → gives x m ≡ gives y n → m ≡ n
one_count x y m n e = ap outcome_count e

-- two steps that came to a value
pub steps : {V W : Type 0} (read : Read V) (next : V → ℕ → Read W) (w : W) (k : ℕ) → (read and_then next) ≡ (Ok w, k)
    → (v : V) × (n : ℕ) × (read ≡ (Ok v, n)) × (next v n ≡ (Ok w, k))
steps (Ok v, n) next w k e = (v, n, refl, e)
steps (Err stop, n) next w k e = absurd (no_value stop n k w e)

-- a table that was read
pub graded_is : {V : Type 0} (name : List ℕ) (over : Grid → ℕ → Read V) (table : Result Grid Place) (n : ℕ) (v : V) (k : ℕ)
    → graded name over table n ≡ (Ok v, k)
    → (grid : Grid) × (table ≡ Ok grid) × (over grid n ≡ (Ok v, k))
graded_is name over (Ok grid) n v k e = (grid, refl, e)
graded_is name over (Err place) n v k e = absurd (no_value (stops.Place name place) n k v e)

-- the rows of one table don't both vary and not
pub never_vary_both_ways : (x y : Grid) → x ≡ y → varies_in x.head.columns ≡ false → varies_in y.head.columns ≡ true → ⊥
never_vary_both_ways x y same f t = let e : false ≡ true = sym f ∙ ap (λ (g : Grid). varies_in g.head.columns) same ∙ t in cc
