-- What ends a command before its reply is known.
use Rattle.std.specs.Prelude.{ℕ, ◌≤◌, Result, Ok, Err, IsErrOf}
use Rattle.vpf_source.specs.Causes.{Rose, Stood}
use Rattle.vpf_replies.specs.declared.halting.Halt.{Halt}
use Rattle.vpf_replies.specs.declared.halting.Halt.TheVariants as halts
use Rattle.vpf_replies.specs.declared.halting.Stop.{Stop as Cause}
use Rattle.vpf_replies.specs.Answer.{Answer}

-- the reply of a halt is such an answer; where the run stops nothing is said
abbrev pub Halts : (Answer → Type 0) → Halt → Type 0
Halts Is (halts.Answered reply) = Is reply
Halts Is (halts.Stop stop) = Unit {0}

-- a command comes to such an answer: its reply, or the one that it was halted with
abbrev pub ComesTo : (Answer → Type 0) → Result Answer Halt → Type 0
ComesTo Is (Ok reply) = Is reply
ComesTo Is (Err halt) = Halts Is halt

-- the reply of a command, be it halted or not, or what stops the run
abbrev pub settled : Result Answer Halt → Result Answer Cause
settled (Ok reply) = Ok reply
settled (Err (halts.Answered reply)) = Ok reply
settled (Err (halts.Stop stop)) = Err stop

-- A call tells this fault exactly where the count of faults rose in it, and the count never falls.
pub record TellsFault {V E : Type 0} (result : Result V E) (fault : E) (before now : ℕ) : Type 0 where
  pub rose : IsErrOf result fault → Rose before now
  pub stood : ¬ IsErrOf result fault → Stood before now
  pub later : before ≤ now
