-- Where keys stand first in a list, by numbers from 1.
use Rattle.std.specs.Prelude.{◌≡◌, ℕ, ◌^◌, ◌<◌, ◌==◌, List, length, slice_index_or}
use Rattle.vpf_prims.specs.Lists.{first_item}
use Rattle.vpf_wing.specs.declared.firsts.FirstByNumber.TheInside.{Inside}

-- the number of the first item that is this key, 0 where none is
abbrev pub first_of_key : List ℕ → ℕ → ℕ
first_of_key keys key = first_item (λ x. x == key) keys

-- the list holds that number for each key
abbrev pub HoldFirstNumbers : List ℕ → List ℕ → Type 0
HoldFirstNumbers keys firsts = (key : ℕ) → slice_index_or firsts key 0 ≡ first_of_key keys key

-- the keys of a table of first numbers are few, and it holds theirs
pub record AreFirsts (f : Inside) : Type 0 where
  pub few : length f.keys.items < 2 ^ 25
  pub hold : HoldFirstNumbers f.keys.items f.firsts.items
