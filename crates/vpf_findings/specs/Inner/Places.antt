-- Where keys stand first in a list.
use Rattle.std.specs.Prelude.{◌≡◌, ℕ, Bool, List, position}
use Rattle.std.specs.HashMap.{HashMap, get}

-- a map has the first place of each key of a list
abbrev pub HoldFirsts : {K S : Type 0} → (K → K → Bool) → List K → HashMap K ℕ S → Type 0
HoldFirsts {K} eq keys firsts = (key : K) → get eq firsts key ≡ position (eq key) keys
