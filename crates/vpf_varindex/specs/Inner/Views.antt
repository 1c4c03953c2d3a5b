-- What contracts see of a variable-length index.
use Rattle.std.specs.Prelude.{◌≡◌, ℕ, List, [], length, Result, Ok, Err}
use Rattle.vpf_triplet.specs.declared.places.Place.{Place}
use Rattle.vpf_varindex.specs.declared.view.IndexView.TheInside.{Inside}
use Rattle.vpf_varindex.specs.Reading.{index_at}

-- the entries that are read
abbrev pub entries_of : Result (List (ℕ × ℕ)) Place → List (ℕ × ℕ)
entries_of (Ok spans) = spans
entries_of (Err p) = []

-- the entries
abbrev pub entries : Inside → List (ℕ × ℕ)
entries x = entries_of (index_at x.order x.bytes.now)

-- the bytes are an index, with so many entries
pub record IsIndexRead (x : Inside) : Type 0 where
  pub read : index_at x.order x.bytes.now ≡ Ok (entries x)
  pub count : x.count ≡ length (entries x)
