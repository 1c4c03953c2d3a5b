-- What is refused, and its line.
use Rattle.std.specs.Prelude.{ℕ, List, codes}
use Rattle.vpf_findings.specs.Text.Texts.{◌&◌}
use Rattle.vpf_findings.specs.Text.Bytes.{printed}
use Rattle.vpf_replies.specs.declared.refusing.Refusal.{Refusal}
use Rattle.vpf_replies.specs.declared.refusing.Refusal.TheVariants.{Missing, Variable, Untiled, NoClass, NoTable, NoColumn, NoIndex, BadValue}
use Rattle.vpf_replies.specs.Answer.{Answer, refused}

-- why a file or a word isn't taken, with what is named
pub data Reason : Type 0 where
  -- there is no file of this name
  MissingFile : List ℕ → Reason
  -- the rows of the table in the file of this name aren't of one length
  VaryingRows : List ℕ → Reason
  -- the coverage isn't tiled: it has edges of its own, in the file of this name
  UntiledCoverage : List ℕ → Reason
  -- no feature class has this name
  AbsentClass : List ℕ → Reason
  -- no feature table stands for the class of this name
  AbsentTable : List ℕ → Reason
  -- the table has no column of this name
  AbsentColumn : List ℕ → Reason
  -- no thematic index can be made of the column of this name
  PlainColumn : List ℕ → Reason
  -- a word is no value of the column of this name
  OtherValue : List ℕ → Reason

abbrev pub reason_of : Refusal → Reason
reason_of (Missing name) = MissingFile name.now
reason_of (Variable name) = VaryingRows name.now
reason_of (Untiled name) = UntiledCoverage name.now
reason_of (NoClass name) = AbsentClass name.now
reason_of (NoTable name) = AbsentTable name.now
reason_of (NoColumn name) = AbsentColumn name.now
reason_of (NoIndex name) = PlainColumn name.now
reason_of (BadValue name) = OtherValue name.now

-- a reason and the name that it is about
abbrev pub named_text : List ℕ → List ℕ → List ℕ
named_text reason name = reason & codes " " & printed name

-- what stands behind `refused`
abbrev pub reason_text : Reason → List ℕ
reason_text (MissingFile name) = named_text (codes "missing") name
reason_text (VaryingRows name) = named_text (codes "variable") name
reason_text (UntiledCoverage name) = named_text (codes "untiled") name
reason_text (AbsentClass name) = named_text (codes "no-class") name
reason_text (AbsentTable name) = named_text (codes "no-table") name
reason_text (AbsentColumn name) = named_text (codes "no-column") name
reason_text (PlainColumn name) = named_text (codes "no-index") name
reason_text (OtherValue name) = named_text (codes "bad-value") name

-- the line of a refusal
abbrev pub refusal_text : Reason → List ℕ
refusal_text reason = codes "refused " & reason_text reason & codes "\n"

-- the answer where a file or a word isn't taken
abbrev pub refusal_answer : Reason → Answer
refusal_answer reason = refused (refusal_text reason)
