-- The first of what several lines say, and a call that answers it: a check says nothing where it passes, and else what it finds.
use Rattle.std.specs.Prelude.{◌≡◌, ℕ, suc, zero, Bool, true, false, Option, Some, None, Result, Ok, Err, List, [], ◌∷◌}
use Rattle.std.specs.Option.{option_or}
use Rattle.vpf_findings.specs.declared.finding.Finding.{Finding}
use Rattle.vpf_findings.specs.declared.errors.FindError.{FindError}
use Rattle.vpf_findings.specs.declared.errors.FindError.TheVariants as errors
use Rattle.vpf_findings.specs.Findings.{Disagreement, disagreement_of}

infixr 5 ◌or◌
-- what the first of two lines says, or else the second
abbrev pub ◌or◌ : {F : Type 0} → Option F → Option F → Option F
first or later = option_or first later

-- f, unless this holds
abbrev pub unless : {F : Type 0} → Bool → F → Option F
unless true f = None
unless false f = Some f

-- f, where this holds
abbrev pub where_holds : {F : Type 0} → Bool → F → Option F
where_holds true f = Some f
where_holds false f = None

-- what the lines of a row say, for the rows k, k + 1 and so on, at the first row where they say anything
abbrev pub first_of_rows : {F R : Type 0} → (ℕ → R → Option F) → ℕ → List R → Option F
first_of_rows lines k [] = None
first_of_rows lines k (row ∷ rows) = lines k row or first_of_rows lines (suc k) rows

-- what a line says at the numbers k, k + 1 and so on, n numbers in all, at the first where it says anything
abbrev pub first_over : {F : Type 0} → (ℕ → Option F) → ℕ → ℕ → Option F
first_over line k zero = None
first_over line k (suc n) = line k or first_over line (suc k) n

-- a call answered Ok where there is no finding, and else the first finding
abbrev pub Finds : {V : Type 0} → Result V Finding → Option Disagreement → Type 0
Finds (Ok v) first = first ≡ None
Finds (Err f) first = first ≡ Some (disagreement_of f)

-- the same of a call that may want memory, of which nothing is said
abbrev pub Tells : {V : Type 0} → Result V FindError → Option Disagreement → Type 0
Tells (Ok v) first = first ≡ None
Tells (Err (errors.Finding f)) first = first ≡ Some (disagreement_of f)
Tells (Err errors.NoMemory) first = Unit {0}
