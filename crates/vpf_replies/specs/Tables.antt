-- What is answered over a file that ought to be a table.
use Rattle.std.specs.Prelude.{◌≡◌, ℕ, List, Result, Ok, Err, codes}
use Rattle.vpf_triplet.specs.declared.places.Place.{Place}
use Rattle.vpf_triplet.specs.declared.places.Code.{Code}
use Rattle.vpf_triplet.specs.declared.places.Code.TheVariants.{LimitHeader, LimitColumns, LimitName, LimitRows}
use Rattle.vpf_table.specs.Grid.{Grid}
use Rattle.vpf_replies.specs.Answer.{Answer, refused, limited}
use Rattle.vpf_replies.specs.Texts.{refused_text, limit_text}

-- the answer to a fault, by its code: a bound that is passed is a limit
abbrev pub answer_by : List ℕ → Place → Code → Answer
answer_by name place (LimitHeader found) = limited (limit_text (codes "header") name found)
answer_by name place (LimitColumns found) = limited (limit_text (codes "columns") name found)
answer_by name place (LimitName found) = limited (limit_text (codes "name") name found)
answer_by name place (LimitRows found) = limited (limit_text (codes "rows") name found)
answer_by name place code = refused (refused_text name place)

-- the answer to the first fault of a file
abbrev pub fault_answer : List ℕ → Place → Answer
fault_answer name place = answer_by name place place.code

-- the answer where a file is this table, or has this first fault
abbrev pub on_table : (Grid → Answer) → List ℕ → Result Grid Place → Answer
on_table answer name (Ok grid) = answer grid
on_table answer name (Err place) = fault_answer name place

-- the same, where what is answered over a table is a relation
abbrev pub IsTableAnswer : (Grid → Answer → Type 0) → List ℕ → Result Grid Place → Answer → Type 0
IsTableAnswer over name (Ok grid) answer = over grid answer
IsTableAnswer over name (Err place) answer = answer ≡ fault_answer name place
