use Rattle.std.proofs.Common.{◌≡◌, ◌-◌, ◌*◌, length}
use Rattle.std.specs.Prelude.{All}
use Rattle.vpf_darts.specs.MapLists.{IsInRange}
use Rattle.vpf_findings.specs.Firsts.{first_over}
use Rattle.vpf_wing.specs.Wings.{wing_line, wings_finding}
use Rattle.vpf_wing.proofs.NextLemmas.{HoldNexts, HoldOwners}
use Rattle.vpf_wing.proofs.following.nexts.Given as goal

abbrev pub invariant-loop-place : goal.invariant-loop-place
invariant-loop-place g l = record {
  left : first_over (wing_line l.columns (g.E.WingedEdges.wing_value l.edges) (g.E.WingedEdges.edges l.edges)) l.place (2 * length (g.E.WingedEdges.edges l.edges) - l.place) ≡ wings_finding l.columns (g.E.WingedEdges.wing_value l.edges) (g.E.WingedEdges.edges l.edges);
  room : length l.owners.items ≡ 2 * length (g.E.WingedEdges.edges l.edges);
  owners : HoldOwners (g.E.WingedEdges.edges l.edges) l.owners.items l.place;
  count : length l.nexts.items ≡ l.place;
  nexts : HoldNexts (g.E.WingedEdges.edges l.edges) l.nexts.items;
  in_range : All (IsInRange (2 * length (g.E.WingedEdges.edges l.edges))) l.nexts.items;
}
