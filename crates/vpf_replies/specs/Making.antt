-- The files that are made, listed.
use Rattle.std.specs.Prelude.{ℕ, List, length, codes}
use Rattle.std.specs.List.{flat_map}
use Rattle.std.specs.Fmt.{decimal}
use Rattle.vpf_source.specs.declared.file.File.{File}
use Rattle.vpf_findings.specs.Text.Texts.{◌&◌}
use Rattle.vpf_findings.specs.Text.Bytes.{printed}
use Rattle.vpf_replies.specs.Answer.{Answer, making}

-- the line of a file that is made, with its number of bytes
abbrev pub made_line : File → List ℕ
made_line file = codes "made " & printed file.name & codes " " & decimal (length file.bytes) & codes "\n"

-- a line for each file
abbrev pub made_lines : List File → List ℕ
made_lines files = flat_map made_line files

-- the files, and how many there are
abbrev pub made_text : List File → List ℕ
made_text files = made_lines files & codes "files " & decimal (length files) & codes "\n"

-- what is answered where files are made
abbrev pub made_answer : List File → Answer
made_answer files = making (made_text files) files
