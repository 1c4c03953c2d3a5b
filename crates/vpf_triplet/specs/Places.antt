-- What a call that reads answers, against what reading gives.
use Rattle.std.specs.Prelude.{◌≡◌, ℕ, ◌-◌, ◌≤◌, List, ◌++◌, codes, Result, Ok, Err, Option, Some, None, IfSome}
use Rattle.std.specs.Fmt.{decimal}
use Rattle.vpf_base.specs.Results.{Meets, Told}
use Rattle.vpf_triplet.specs.declared.places.Place.{Place}
use Rattle.vpf_triplet.specs.declared.places.PlaceError.{PlaceError}
use Rattle.vpf_triplet.specs.declared.places.PlaceError.TheVariants as errors
use Rattle.vpf_triplet.specs.declared.places.Part.TheVariants.{Table, Index, Theme}
use Rattle.vpf_triplet.specs.declared.places.Code.{Code}
use Rattle.vpf_triplet.specs.Codes.{code_text}

-- a fault of the table's own file
abbrev pub fault : ℕ → Code → Place
fault at code = record { part = Table; at = at; code = code }

-- a fault of a variable-length index
abbrev pub index_fault : ℕ → Code → Place
index_fault at code = record { part = Index; at = at; code = code }

-- a fault of a thematic index
abbrev pub theme_fault : ℕ → Code → Place
theme_fault at code = record { part = Theme; at = at; code = code }

-- the words of a place
abbrev pub place_text : Place → List ℕ
place_text place = code_text place.code ++ (codes " at " ++ decimal place.at)

-- A call answered for what begins at `at`: the value and the offset past it, or the fault there. What is read is counted
-- from `at` on.
abbrev pub Reads : {X : Type 0} → ℕ → Result (X × ℕ) Place → Result (X × ℕ) Code → Type 0
Reads at (Ok r) read = (at ≤ r.1) × (read ≡ Ok (r.0, r.1 - at))
Reads at (Err p) read = (read ≡ Err p.code) × (p ≡ fault at p.code)

-- a call answered what reading gives
abbrev pub Gives : {X Y : Type 0} → (X → Y) → Result X Place → Result Y Place → Type 0
Gives view result read = Meets view (λ p. Some p) result read

-- the place of a refusal; want of memory has none
abbrev pub place_in : PlaceError → Option Place
place_in errors.NoMemory = None
place_in (errors.Place p) = Some p

-- an error is that of reading, or memory ran out
abbrev pub Fails : {Y : Type 0} → PlaceError → Result Y Place → Type 0
Fails error read = Told (place_in error) read

-- what holds of the place of a refusal
abbrev pub ForPlace : (Place → Type 0) → PlaceError → Type 0
ForPlace P error = IfSome (place_in error) P

-- a call answered what reading gives, unless memory ran out
abbrev pub Answers : {X Y : Type 0} → (X → Y) → Result X PlaceError → Result Y Place → Type 0
Answers view result read = Meets view place_in result read
