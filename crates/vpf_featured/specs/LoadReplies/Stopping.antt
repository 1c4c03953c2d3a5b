-- What is answered where a load is stopped.
use Rattle.std.specs.Prelude.{◌≡◌, []}
use Rattle.vpf_table.specs.Limits.{bound_text}
use Rattle.vpf_findings.specs.Printing.{own_text}
use Rattle.vpf_library_files.specs.declared.loading.loading.LoadStop.{LoadStop}
use Rattle.vpf_library_files.specs.declared.loading.loading.LoadStop.TheVariants as stops
use Rattle.vpf_replies.specs.Answer.{Answer, limited, refused}
use Rattle.vpf_replies.specs.Found.{missing_answer}
use Rattle.vpf_replies.specs.Refusals.{VaryingRows, refusal_answer}
use Rattle.vpf_replies.specs.Tables.{fault_answer}
use Rattle.vpf_replies.specs.Texts.{limit_text}

-- the answer to a file that isn't taken; a fault of the tree and want of memory have none
abbrev pub stop_answer : LoadStop → Answer
stop_answer (stops.Missing name) = missing_answer name
stop_answer (stops.Place name place) = fault_answer name place
stop_answer (stops.Limit name limit) = limited (limit_text (bound_text limit.what) name limit.found)
stop_answer (stops.Finding name f) = refused (own_text name f)
stop_answer (stops.Varies name) = refusal_answer (VaryingRows name)
stop_answer stops.Fault = refused []
stop_answer stops.NoMemory = refused []

-- this is the answer to it; nothing is the answer to a fault of the tree or to want of memory
abbrev pub IsStopAnswer : LoadStop → Answer → Type 0
IsStopAnswer stops.Fault answer = ⊥
IsStopAnswer stops.NoMemory answer = ⊥
IsStopAnswer stop answer = answer ≡ stop_answer stop
