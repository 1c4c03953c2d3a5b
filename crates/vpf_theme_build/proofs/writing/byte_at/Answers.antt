use Rattle.std.proofs.Common.{◌≡◌, ◌+◌, map, arith}
use Rattle.std.proofs.lemmas.Bool.Decides.{when_true, when_false}
use Rattle.vpf_theme_build.specs.Grouping.{IsNext, spot_row}
use Rattle.vpf_theme_build.proofs.BitLemmas.{byte_set, byte_small, byte_clear, still_small}
use Rattle.vpf_theme_build.proofs.writing.byte_at.Goals as goal
use Rattle.vpf_theme_build.proofs.writing.byte_at.Goals.{then-is_next, else-is_next}

pub loop-b-preserved : goal.loop-b-preserved
loop-b-preserved c =
    let rows = map spot_row c.args.spots.now in
    let first = c.args.first in
    let b = c.loop-b.b in
    let i = c.loop-b.invariant in
    let e : first + b + 1 ≡ first + (b + 1) = omega arith in
    let yes = IsNext rows (c.loop-b.behind + 1) (first + b + 1) in
    let no = IsNext rows c.loop-b.behind (first + b + 1) in
    elim c.if-is_next.branch [
      | then-is_next w ↦ record {
        byte = byte_set rows first b c.loop-b.byte c.if-is_next.byte (omega arith) w.if-is_next.ensures.row i.byte i.small w.byte-is;
        small = byte_small b c.loop-b.byte c.if-is_next.byte (omega arith) i.small w.byte-is;
        next = rw (w.behind-is, ← e) (when_true yes no w.if-is_next.true c.is_next.ensures.behind);
      }
      | else-is_next w ↦ record {
        byte = rw w.byte-is (byte_clear rows first b c.loop-b.byte w.if-is_next.ensures.row i.byte);
        small = rw w.byte-is (still_small b c.loop-b.byte i.small);
        next = rw (w.behind-is, ← e) (when_false yes no w.if-is_next.false c.is_next.ensures.behind);
      }
    ]
