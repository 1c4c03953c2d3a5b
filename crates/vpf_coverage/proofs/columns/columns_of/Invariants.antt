use Rattle.std.proofs.Common.{◌≡◌, ◌-◌, ◌<◌, ℕ, None, length, get_or}
use Rattle.vpf_findings.specs.Firsts.{first_over}
use Rattle.vpf_numbers.specs.TableLines.{coverage_numbers}
use Rattle.vpf_coverage.specs.Inner.Opening.Opened.{opened_coverage}
use Rattle.vpf_coverage.specs.Inner.Opened.{AreRightIn}
use Rattle.vpf_coverage.proofs.RightLemmas.{tile_line}
use Rattle.vpf_coverage.proofs.columns.columns_of.Given as goal

abbrev pub invariant-loop-t : goal.invariant-loop-t
invariant-loop-t l = record {
  left : first_over (tile_line l.opened) l.t (length l.opened.tiles.items - l.t) ≡ coverage_numbers (opened_coverage l.opened);
  made : length l.columns.items ≡ l.t;
  right : (k : ℕ) → k < l.t → AreRightIn (get_or l.opened.tiles.items k None) (get_or l.columns.items k None);
}
