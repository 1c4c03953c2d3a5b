use Rattle.std.proofs.Common.{◌≡◌, ◌+◌, ◌≤◌, ℕ, ap, sym, ◌∙◌, arith, length, map, List, [], ◌∷◌, ◌++◌}
use Rattle.std.proofs.lemmas.List.FromFn.{map-range_with_len_more}
use Rattle.std.specs.List.{range_with_len}
use Rattle.vpf_prims.specs.Coverages.{last_tile}
use Rattle.vpf_prims.specs.Libraries.{library_of}
use Rattle.vpf_prims.specs.Primitives.{Library}
use Rattle.vpf_tiling_laws.specs.Gluing.Whole.{whole_faces, whole_of}
use Rattle.vpf_renumbering.specs.Inner.GluedFaces.Faces.{faces_before}
use Rattle.vpf_renumbering.proofs.glued_faces.NumberLemmas.{before_climbs, before_end, before_next, none_before}
use Rattle.vpf_renumbering.proofs.glued_faces.counting.counts.Goals as goal
use Rattle.vpf_renumbering.proofs.glued_faces.counting.counts.Goals.{else-loop-tile-test, then-loop-tile-test+in_ok-push+else-tile-tile-end}

pub loop-tile-init : goal.loop-tile-init
loop-tile-init c = record { count = sym (none_before (library_of c.args.coverage.now)); counted = c.new-counts.ensures.items }

counted_more : (L : Library) (t n : ℕ) (before after : List ℕ) → after ≡ before ++ n ∷ [] → n ≡ faces_before L t
    → before ≡ map (faces_before L) (range_with_len 0 t) → after ≡ map (faces_before L) (range_with_len 0 (t + 1))
counted_more L t n before after a e was =
    a ∙ ap (λ v. v ++ n ∷ []) was ∙ ap (λ k. map (faces_before L) (range_with_len 0 t) ++ k ∷ []) e
    ∙ sym (map-range_with_len_more (faces_before L) 0 t t (let z : 0 + t ≡ t = omega arith in z))

count_more : (L : Library) (t n own : ℕ) → n ≡ faces_before L t → own ≡ length (whole_faces L t) → n + own ≡ faces_before L (t + 1)
count_more L t n own e o = let next : faces_before L (t + 1) ≡ faces_before L t + length (whole_faces L t) = before_next L t in omega arith

pub overflow_add-count : goal.overflow_add-count
overflow_add-count c =
    let L : Library = library_of c.args.coverage.now in
    let inside : c.loop-tile.tile ≤ L.last = omega arith in
    let sum : c.loop-tile.count + c.own_faces-count.result ≡ faces_before L (c.loop-tile.tile + 1) =
    count_more (library_of c.args.coverage.now) c.loop-tile.tile c.loop-tile.count c.own_faces-count.result c.loop-tile.invariant.count c.own_faces-count.ensures in
    let all : faces_before L (c.loop-tile.tile + 1) ≤ faces_before L (L.last + 1) = before_climbs (library_of c.args.coverage.now) (c.loop-tile.tile + 1) (last_tile c.args.coverage.now + 1) (omega arith) in
    let end : length (whole_of L).faces ≡ faces_before L (L.last + 1) = before_end (library_of c.args.coverage.now) in
    omega arith

pub loop-tile-preserved : goal.loop-tile-preserved
loop-tile-preserved c = record {
  count = count_more (library_of c.args.coverage.now) c.loop-tile.tile c.loop-tile.count c.own_faces-count.result c.loop-tile.invariant.count c.own_faces-count.ensures;
  counted = counted_more (library_of c.args.coverage.now) c.loop-tile.tile c.loop-tile.count c.loop-tile.counts.items c.push.new.self.items c.in_ok-push.ensures.items
      c.loop-tile.invariant.count c.loop-tile.invariant.counted;
}

pub returns : goal.returns
returns c = elim c.loop-tile-test.branch [
  | else-loop-tile-test w ↦ absurd (omega arith)
  | then-loop-tile-test+in_ok-push+else-tile-tile-end w ↦ (
      let L : Library = library_of c.args.coverage.now in
      let last : c.loop-tile.tile ≡ last_tile c.args.coverage.now = omega arith in
      let two : (c.loop-tile.tile + 1) + 1 ≡ last_tile c.args.coverage.now + 2 = omega arith in
      let counts : c.loop-tile-test.counts.items ≡ map (faces_before L) (range_with_len 0 (c.loop-tile.tile + 1)) =
      ap (λ v. v.items) w.counts-is
      ∙ counted_more (library_of c.args.coverage.now) c.loop-tile.tile c.loop-tile.count c.loop-tile.counts.items w.push.new.self.items w.in_ok-push.ensures.items
      c.loop-tile.invariant.count c.loop-tile.invariant.counted in
      let count : c.loop-tile-test.count ≡ faces_before L (c.loop-tile.tile + 1) =
      w.count-is ∙ count_more (library_of c.args.coverage.now) c.loop-tile.tile c.loop-tile.count w.own_faces-count.result c.loop-tile.invariant.count w.own_faces-count.ensures in
      counted_more (library_of c.args.coverage.now) (c.loop-tile.tile + 1) c.loop-tile-test.count c.loop-tile-test.counts.items c.push-2.new.self.items c.in_ok-push-2.ensures.items count counts
      ∙ ap (λ n. map (faces_before L) (range_with_len 0 n)) two)
]
