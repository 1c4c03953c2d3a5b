-- The printed lines of usage, limits and faults.
use Rattle.std.specs.Prelude.{ℕ, List, codes}
use Rattle.std.specs.Fmt.{decimal}
use Rattle.vpf_triplet.specs.declared.places.Place.{Place}
use Rattle.vpf_triplet.specs.Codes.{code_text}
use Rattle.vpf_findings.specs.Text.Texts.{◌&◌}
use Rattle.vpf_findings.specs.Text.Bytes.{printed}

abbrev pub usage_text : List ℕ
usage_text = codes "usage\n"

-- a fault of a file at its place
abbrev pub refused_text : List ℕ → Place → List ℕ
refused_text name place = codes "refused " & code_text place.code & codes " " & printed name & codes " at " & decimal place.at & codes "\n"

-- a bound that is passed, the file in hand, and the number that passed it
abbrev pub limit_text : List ℕ → List ℕ → ℕ → List ℕ
limit_text bound name found = codes "limit " & bound & codes " " & printed name & codes " " & decimal found & codes "\n"
