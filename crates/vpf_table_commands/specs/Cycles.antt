-- `cycles`: the boundary cycles of an edge table.
use Rattle.std.specs.Prelude.{◌≡◌, ℕ, Bool, true, false, List, Option, Some, None}
use Rattle.vpf_source.specs.Files.{Files}
use Rattle.vpf_darts.specs.declared.darts.TileDart.{TileDart}
use Rattle.vpf_head.specs.Head.{varies_in}
use Rattle.vpf_table.specs.Grid.{Grid}
use Rattle.vpf_table.specs.Reading.{table_of}
use Rattle.vpf_findings.specs.Findings.{Disagreement}
use Rattle.vpf_wing.specs.Boundaries.{IsBoundaryListing, table_finding}
use Rattle.vpf_replies.specs.Answer.{Answer, done, refused}
use Rattle.vpf_replies.specs.Found.{IsRequiredAnswer}
use Rattle.vpf_replies.specs.Listings.{listing_text}
use Rattle.vpf_replies.specs.Refusals.{VaryingRows, refusal_answer}
use Rattle.vpf_replies.specs.Tables.{IsTableAnswer}
use Rattle.vpf_table_commands.specs.Words.{one_file}
use Rattle.vpf_table_commands.specs.declared.cycling.CyclesRequest.{CyclesRequest}
use Rattle.vpf_findings.specs.Printing.{disagree_text}

-- the request of a file
abbrev pub cycles_request_of : Option (List ℕ) → Option CyclesRequest
cycles_request_of None = None
cycles_request_of (Some file) = Some (record { file = file })

-- the request that the words after the verb spell
abbrev pub cycles_request : List (List ℕ) → Option CyclesRequest
cycles_request words = cycles_request_of (one_file words)

-- the answer over edges: that rows vary, or the first finding, or the listing of the cycles
abbrev pub IsEdgesAnswer : List ℕ → Grid → Bool → Option Disagreement → Answer → Type 0
IsEdgesAnswer name grid true finding answer = answer ≡ refusal_answer (VaryingRows name)
IsEdgesAnswer name grid false (Some finding) answer = answer ≡ refused (disagree_text name finding)
IsEdgesAnswer name grid false None answer = (cycles : List (List TileDart)) × IsBoundaryListing grid cycles × (answer ≡ done (listing_text cycles))

-- the answer over a table
abbrev pub IsGridCycles : List ℕ → Grid → Answer → Type 0
IsGridCycles name grid answer = IsEdgesAnswer name grid (varies_in grid.head.columns) (table_finding grid) answer

-- the answer over the bytes of a file
abbrev pub IsBytesCycles : List ℕ → List ℕ → Answer → Type 0
IsBytesCycles name bytes answer = IsTableAnswer (IsGridCycles name) name (table_of bytes) answer

-- the answer over the files of a tree
abbrev pub IsCyclesAnswer : Files → CyclesRequest → Answer → Type 0
IsCyclesAnswer files request answer = IsRequiredAnswer (IsBytesCycles request.file) request.file files answer

-- each request has an answer over the files of a tree
abbrev pub HasCyclesAnswer : Type 0
HasCyclesAnswer = (files : Files) (request : CyclesRequest) → (answer : Answer) × IsCyclesAnswer files request answer

-- .. and only one
abbrev pub OneCyclesAnswer : Type 0
OneCyclesAnswer = (files : Files) (request : CyclesRequest) (a b : Answer) → IsCyclesAnswer files request a → IsCyclesAnswer files request b → a ≡ b
