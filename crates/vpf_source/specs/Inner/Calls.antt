-- Calls that are counted, some of which are to fail.
use Rattle.std.specs.Prelude.{ℕ, Bool, ◌==◌, List, if◌then◌else◌}
use Rattle.std.specs.List.{list_any}
use Rattle.vpf_source.specs.Causes.{next_count}

-- how many calls were made, how many of them failed, and the numbers of those that are to fail, counted from 1
pub record Calls : Type 0 where
  pub made : ℕ
  pub faults : ℕ
  pub fail : List ℕ

-- before the first call
abbrev pub no_calls : List ℕ → Calls
no_calls fail = record { made = 0; faults = 0; fail = fail }

-- the next call is to fail: its number stands in the list
abbrev pub next_fails : Calls → Bool
next_fails calls = list_any (λ number. number == next_count calls.made) calls.fail

-- after the next call, which is a fault exactly where it is to fail
abbrev pub after_call : Calls → Calls
after_call calls = record {
  made = next_count calls.made;
  faults = if next_fails calls then next_count calls.faults else calls.faults;
  fail = calls.fail;
}
