use Rattle.std.proofs.Common.{◌≡◌, ◌<◌, ◌++◌, ◌∷◌, [], ◌+◌, true, length, map, sym, ap, ◌∙◌, arith, rules}
use Rattle.std.proofs.lemmas.List.{length-map, with_items_is}
use Rattle.vpf_darts.specs.Darts.{tile_dart_code}
use Rattle.vpf_darts.specs.Inner.Ranks.{AddsCycle, marked}
use Rattle.vpf_darts.proofs.MarkLemmas.{mark_read}
use Rattle.vpf_darts.proofs.RankLemmas.{IsListedTo, list_begins, list_skips, list_adds, list_ends}
use Rattle.vpf_darts.proofs.cycling.list_cycles.Goals as goal
use Rattle.vpf_darts.proofs.cycling.list_cycles.Goals.{then-not-index+in_ok-push_cycle+in_ok-push, else-not-index}

pub loop-start-init : goal.loop-start-init
loop-start-init g c = record {
  one_each = c.in_ok-marks.ensures.len;
  listed = rw (c.in_ok-listed.ensures.items, c.in_ok-ends.ensures.items) (list_begins (g.R.Ranked.count c.args.darts.now) (g.R.Ranked.code c.args.darts.now) (g.R.Ranked.next c.args.darts.now) (g.R.Ranked.live c.args.darts.now) (marked c.in_ok-marks.marks.items) c.requires c.in_ok-marks.ensures.dead);
}

pub loop-start-preserved : goal.loop-start-preserved
loop-start-preserved g c = elim c.if-not-index.branch [
  | then-not-index+in_ok-push_cycle+in_ok-push w ↦ (
      let was : w.deref_mut.result.now ≡ c.loop-start.marks.items = w.deref_mut.ensures.value in
      let cycle : AddsCycle (g.R.Ranked.code c.args.darts.now) (g.R.Ranked.next c.args.darts.now) c.loop-start.start (marked c.loop-start.marks.items) (marked w.push_cycle.new.marks) (map tile_dart_code c.loop-start.listed.items) (map tile_dart_code w.push_cycle.new.listed.items) = rw was at w.in_ok-push_cycle.ensures in
      let kept : c.if-not-index.marks.items ≡ w.push_cycle.new.marks = ap (λ v. v.items) w.marks-is ∙ with_items_is c.loop-start.marks w.push_cycle.new.marks (omega arith) in
      let same : length w.push_cycle.new.marks ≡ length c.loop-start.marks.items = omega arith in
      let len : length w.push_cycle.new.listed.items ≡ w.len.result = search rules in
      let end : w.len.result ≡ length (map tile_dart_code w.push_cycle.new.listed.items) = sym len ∙ sym (length-map w.push_cycle.new.listed.items tile_dart_code) in
      let added : IsListedTo (g.R.Ranked.code c.args.darts.now) (g.R.Ranked.next c.args.darts.now) (g.R.Ranked.live c.args.darts.now) (marked w.push_cycle.new.marks) (map tile_dart_code w.push_cycle.new.listed.items) (c.loop-start.ends.items ++ w.len.result ∷ []) (c.loop-start.start + 1)
      = list_adds (g.R.Ranked.count c.args.darts.now) (g.R.Ranked.code c.args.darts.now) (g.R.Ranked.next c.args.darts.now) (g.R.Ranked.live c.args.darts.now) (marked c.loop-start.marks.items) (marked w.push_cycle.new.marks) (map tile_dart_code c.loop-start.listed.items) (map tile_dart_code w.push_cycle.new.listed.items) c.loop-start.ends.items c.loop-start.start w.len.result c.requires c.loop-start.invariant.listed cycle end in
      rw (kept, w.listed-is, w.ends-is, w.in_ok-push.ensures.items) (record { one_each = same ∙ c.loop-start.invariant.one_each; listed = added }))
  | else-not-index w ↦ (
      let inside : c.loop-start.start < length c.loop-start.marks.items = omega (arith, c.loop-start.invariant.one_each, c.count-start-end.ensures) in
      let mark : marked c.loop-start.marks.items c.loop-start.start ≡ true = mark_read c.loop-start.marks.items c.loop-start.start true c.index.result.now true inside c.index.ensures w.if-not-index.false in
      rw (w.marks-is, w.listed-is, w.ends-is) (record {
        one_each = c.loop-start.invariant.one_each;
        listed = list_skips (g.R.Ranked.code c.args.darts.now) (g.R.Ranked.next c.args.darts.now) (g.R.Ranked.live c.args.darts.now) (marked c.loop-start.marks.items) (map tile_dart_code c.loop-start.listed.items) c.loop-start.ends.items c.loop-start.start c.loop-start.invariant.listed mark;
      }))
]

pub returns : goal.returns
returns g c = list_ends (g.R.Ranked.count c.args.darts.now) (g.R.Ranked.code c.args.darts.now) (g.R.Ranked.next c.args.darts.now) (g.R.Ranked.live c.args.darts.now) c.loop-start.marks.items c.loop-start.listed.items c.loop-start.ends.items c.loop-start.start c.loop-start.invariant.one_each (omega (arith, c.count-start-end.ensures)) c.loop-start.invariant.listed
