use Rattle.std.proofs.Common.{◌≡◌, ◌+◌, ◌*◌, ◌++◌, map}
use Rattle.std.specs.List.{range_with_len}
use Rattle.vpf_theme_build.specs.Grouping.{IsNext, spot_row}
use Rattle.vpf_theme_build.specs.Text.{bitmap_byte}
use Rattle.vpf_theme_build.proofs.writing.put_bitmap.Given as goal

abbrev pub invariant-loop-j : goal.invariant-loop-j
invariant-loop-j l = record {
  bytes : l.out.items ≡ l.fn.out.items ++ map (bitmap_byte (map spot_row l.spots)) (range_with_len 0 l.j);
  next : IsNext (map spot_row l.spots) l.next (8 * l.j + 1);
}
