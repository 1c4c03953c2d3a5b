use Rattle.std.proofs.Common.{◌≡◌, ◌+◌, ◌*◌, ◌++◌, ℕ, List, map, append_assoc, append-nil, sym, ap, ◌∙◌, arith}
use Rattle.std.proofs.lemmas.List.FromFn.{map-range_with_len_more}
use Rattle.vpf_theme_build.specs.Grouping.{spot_row}
use Rattle.vpf_theme_build.specs.Text.{bitmap_byte}
use Rattle.vpf_theme_build.proofs.BitLemmas.{next_first}
use Rattle.vpf_theme_build.proofs.writing.put_bitmap.Goals as goal

pub loop-j-init : goal.loop-j-init
loop-j-init c = record { bytes = sym (append-nil c.args.out.now.items); next = next_first c.args.spots.now c.requires.first }

pub loop-j-preserved : goal.loop-j-preserved
loop-j-preserved c =
    let f = bitmap_byte (map spot_row c.args.spots.now) in
    let i = c.loop-j.invariant in
    let e : 8 * c.loop-j.j + 1 + 8 ≡ 8 * (c.loop-j.j + 1) + 1 = omega arith in
    record {
      bytes = c.in_ok-push.ensures.items ∙ rw (i.bytes, append_assoc, c.byte_at-byte.ensures.byte) (ap (λ (x : List ℕ). c.args.out.now.items ++ x) (sym (map-range_with_len_more f 0 c.loop-j.j c.loop-j.j (omega arith))));
      next = rw e at c.byte_at-byte.ensures.next;
    }
