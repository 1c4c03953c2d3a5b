use Rattle.std.proofs.Common.{◌≡◌, ◌<◌, ◌+◌, ◌^◌, map}
use Rattle.vpf_theme_build.specs.Grouping.{IsNext, spot_row}
use Rattle.vpf_theme_build.specs.Text.{row_bits}
use Rattle.vpf_theme_build.proofs.writing.byte_at.Given as goal

abbrev pub invariant-loop-b : goal.invariant-loop-b
invariant-loop-b l = record {
  byte : l.byte ≡ row_bits (map spot_row l.spots) l.first l.b;
  small : l.byte < 2 ^ l.b;
  next : IsNext (map spot_row l.spots) l.behind (l.first + l.b);
}
