-- What is answered where a library is made of another: the files of its tables, and behind them those of its features; or the first that passes a limit.
use Rattle.std.specs.Prelude.{◌≡◌, List, [], map, Ok, Err, ℕ}
use Rattle.vpf_source.specs.declared.file.File.{File}
use Rattle.vpf_table.specs.Limits.{bound_text}
use Rattle.vpf_library_files.specs.Loading.Loading.{within}
use Rattle.vpf_library_files.specs.declared.table_files.errors.AddError.{AddError}
use Rattle.vpf_library_files.specs.declared.table_files.errors.AddError.TheVariants as errors
use Rattle.vpf_feature_writing.specs.Making.{Made}
use Rattle.vpf_replies.specs.Answer.{Answer, limited, refused}
use Rattle.vpf_replies.specs.Making.{made_answer}
use Rattle.vpf_replies.specs.Texts.{limit_text}

-- a file under its name in a folder
abbrev pub file_within : (folder : List ℕ) → File → File
file_within folder file = record { name = within folder file.name; bytes = file.bytes }

-- the answer to files that are made in this folder, or to the first that passes a limit
abbrev pub files_answer : (out : List ℕ) → Made → Answer
files_answer out (Ok files) = made_answer (map (file_within out) files)
files_answer out (Err (errors.Limit name limit)) = limited (limit_text (bound_text limit.what) (within out name) limit.found)
files_answer out (Err errors.NoMemory) = refused []

-- this is the answer to why they aren't made; nothing is the answer to want of memory
abbrev pub IsUnmadeAnswer : (out : List ℕ) → AddError → Answer → Type 0
IsUnmadeAnswer out errors.NoMemory answer = ⊥
IsUnmadeAnswer out error answer = answer ≡ files_answer out (Err error)
