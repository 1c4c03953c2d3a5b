-- How a run ends.
use Rattle.std.specs.Prelude.{◌≡◌, ◌⊎◌, ℕ}
use Rattle.std.specs.Process.{exit_status}
use Rattle.std.specs.declared.process.ExitCode.{ExitCode}
use Rattle.vpf_replies.specs.declared.verdict.Verdict.{Verdict}
use Rattle.vpf_replies.specs.declared.verdict.Verdict.TheVariants as verdicts
use Rattle.vpf_run.specs.declared.status.Status.{Status}
use Rattle.vpf_run.specs.declared.status.Status.TheVariants as statuses

-- the status of a run that nothing stops
abbrev pub status_of : Verdict → Status
status_of verdicts.Done = statuses.Done
status_of verdicts.Refused = statuses.Refused
status_of verdicts.Usage = statuses.Usage
status_of verdicts.Limit = statuses.Limit

-- the exit status of the process
abbrev pub code_of : Status → ℕ
code_of statuses.Done = 0
code_of statuses.Refused = 1
code_of statuses.Usage = 2
code_of statuses.TreeFault = 3
code_of statuses.SinkFault = 4
code_of statuses.NoMemory = 5
code_of statuses.Limit = 6

-- the code of a run that ended with a status of which this is so
abbrev pub Ends : (Status → Type 0) → ExitCode → Type 0
Ends Told code = (status : Status) × (exit_status code ≡ code_of status) × Told status

-- the words were no command, unless the sink failed or memory ran out
abbrev pub EndsAsUsage : Status → Type 0
EndsAsUsage status = (status ≡ statuses.Usage) ⊎ ((status ≡ statuses.SinkFault) ⊎ (status ≡ statuses.NoMemory))

-- what was asked for is done, unless the sink failed or memory ran out
abbrev pub EndsAsDone : Status → Type 0
EndsAsDone status = (status ≡ statuses.Done) ⊎ ((status ≡ statuses.SinkFault) ⊎ (status ≡ statuses.NoMemory))
