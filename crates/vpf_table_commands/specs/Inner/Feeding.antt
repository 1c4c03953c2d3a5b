-- A file that is fed piece by piece, or the reply to its first fault.
use Rattle.std.specs.Prelude.{◌≡◌, ℕ, ◌+◌, ◌-◌, ◌<◌, ◌≤◌, List, length, take, Result, Ok, Err}
use Rattle.vpf_triplet.specs.declared.places.PlaceError.{PlaceError}
use Rattle.vpf_triplet.specs.declared.places.PlaceError.TheVariants as errors
use Rattle.vpf_table.specs.Reading.{table_of}
use Rattle.vpf_feed.specs.declared.summary.Summary.{Summary}
use Rattle.vpf_feed.specs.Inner.Progress.{FeedProgress, summed}
use Rattle.vpf_feed.specs.Inner.Stages.{HoldsFed}
use Rattle.vpf_replies.specs.declared.halting.Halt.{Halt}
use Rattle.vpf_replies.specs.declared.halting.Halt.TheVariants as halts
use Rattle.vpf_replies.specs.declared.halting.Stop.TheVariants as stops
use Rattle.vpf_replies.specs.Halting.{Halts}
use Rattle.vpf_replies.specs.Tables.{fault_answer}
use Rattle.vpf_table_commands.specs.Accept.{summed_answer}

-- the halt at an error of a feed: the reply to the fault of the table, unless memory runs out
abbrev pub IsHaltOf : List ℕ → PlaceError → Halt → Type 0
IsHaltOf name (errors.Place place) halt = Halts (λ reply. reply ≡ fault_answer name place) halt
IsHaltOf name errors.NoMemory halt = halt ≡ halts.Stop stops.NoMemory

-- a reply in place of what comes is the answer to the file
abbrev pub HaltsSummed : List ℕ → List ℕ → Halt → Type 0
HaltsSummed name file halt = Halts (λ reply. reply ≡ summed_answer name (summed (table_of file))) halt

-- the first bytes of a file, up to an offset, and so many more are fed: at least one, where there is one and room for it
abbrev pub IsFedOn : List ℕ → List ℕ → ℕ → ℕ → FeedProgress → Result ℕ Halt → Type 0
IsFedOn name file at room fed (Ok n) = HoldsFed fed (take (at + n) file) × (n ≤ length file - at) × (at < length file → 0 < room → 0 < n)
IsFedOn name file at room fed (Err halt) = HaltsSummed name file halt

-- the whole file is fed
abbrev pub IsFedWhole : {U : Type 0} → List ℕ → List ℕ → FeedProgress → Result U Halt → Type 0
IsFedWhole name file fed (Ok done) = HoldsFed fed file
IsFedWhole name file fed (Err halt) = HaltsSummed name file halt

-- what the file is summed up to
abbrev pub IsSummed : List ℕ → List ℕ → Result Summary Halt → Type 0
IsSummed name file (Ok s) = summed (table_of file) ≡ Ok s
IsSummed name file (Err halt) = HaltsSummed name file halt
