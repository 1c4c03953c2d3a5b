-- What a sink was given.
use Rattle.std.specs.Prelude.{◌≡◌, ℕ, List, take, Option, is_some}
use Rattle.std.specs.Io.KnownBytes.{Appends}

-- some prefix of the bytes was appended
pub record AppendsPrefix (old new : Option (List ℕ)) (bytes : List ℕ) : Type 0 where
  pub count : ℕ
  pub appended : Appends old new (take count bytes)

-- the sink tells its bytes afterwards exactly where it told them before
abbrev pub TellsAsBefore : Option (List ℕ) → Option (List ℕ) → Type 0
TellsAsBefore old new = is_some new ≡ is_some old
