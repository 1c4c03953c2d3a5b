-- What the steps of `drill` come to.
use Rattle.std.proofs.Common.{◌≡◌, ℕ, Option, None, Some, Result, Ok, Err, refl, sym, ap, ◌∙◌}
use Rattle.std.specs.Prelude.{IfOk}
use Rattle.vpf_findings.specs.Findings.{Disagreement}
use Rattle.vpf_findings.specs.Firsts.{◌or◌}
use Rattle.vpf_prims.specs.Coverages.{CoverageTables}
use Rattle.vpf_prims.specs.Libraries.{library_of}
use Rattle.vpf_replies.specs.declared.halting.Halt.{Halt}
use Rattle.vpf_replies.specs.declared.halting.Halt.TheVariants as halts
use Rattle.vpf_replies.specs.declared.halting.Stop.{Stop as Cause}
use Rattle.vpf_replies.specs.Answer.{Answer}
use Rattle.vpf_replies.specs.Halting.{ComesTo, settled}
use Rattle.vpf_library_commands.specs.Counting.{all_edges}
use Rattle.vpf_drill.specs.declared.numbers.SourceNumbers.{SourceNumbers}
use Rattle.vpf_drill.specs.Counting.{line_count}
use Rattle.vpf_drill.specs.Numbers.{source_numbers}

-- where neither of two looks finds anything
pub none_first : (a b : Option Disagreement) → a or b ≡ None → a ≡ None
none_first None b e = refl
none_first (Some d) b e = absurd cc

pub none_second : (a b : Option Disagreement) → a or b ≡ None → b ≡ None
none_second None b e = e
none_second (Some d) b e = absurd cc

-- a command that comes to one answer is settled to it
pub settled_is : (x : Answer) (outcome : Result Answer Halt) (result : Result Answer Cause) (reply : Answer) → ComesTo (λ a. a ≡ x) outcome → result ≡ settled outcome
    → result ≡ Ok reply → reply ≡ x
settled_is x outcome result reply h s e = by outcome h (sym s ∙ e)
  where
    by : (o : Result Answer Halt) → ComesTo (λ a. a ≡ x) o → settled o ≡ Ok reply → reply ≡ x
    by (Ok a) at is = let same : a ≡ reply = cc in sym same ∙ at
    by (Err (halts.Answered a)) at is = let same : a ≡ reply = cc in sym same ∙ at
    by (Err (halts.Stop stop)) at is = absurd cc

-- the numbers of a coverage
source_with : ℕ → ℕ → SourceNumbers
source_with edges lines = record { edges = edges; lines = lines }

pub source_is : (c d : CoverageTables) (edges lines : ℕ) → c ≡ d → edges ≡ all_edges c → lines ≡ line_count (library_of c)
    → record { edges = edges; lines = lines } ≡ source_numbers d
unfolding source_with
source_is c d edges lines same e l =
    ap (λ n. source_with n lines) e ∙ ap (λ n. source_with (all_edges c) n) l ∙ ap source_numbers same

-- what is so of a result that is given is so of it in other words
pub if_given : {V E : Type 0} (P Q : V → Type 0) (result : Result V E) → IfOk result P → ((v : V) → P v → Q v) → IfOk result Q
if_given P Q (Ok v) h more = more v h
if_given P Q (Err e) h more = tt
