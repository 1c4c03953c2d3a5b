use Rattle.std.proofs.Common.{◌≡◌, ℕ, ◌+◌, ◌-◌, ◌^◌, ◌<◌, true, false, leb, rules, sym, ap, subst, arith, length, List}
use Rattle.std.proofs.lemmas.List.Sorted.{IsPartitionPoint-from_clause}
use Rattle.std.specs.List.Sorted.{IsPartitionPoint, IsPartitionedBy}
use Rattle.vpf_prims.specs.Coverages.{CoverageTables, last_tile}
use Rattle.vpf_prims.specs.Libraries.{library_of}
use Rattle.vpf_tiling_laws.specs.Gluing.Whole.{whole_of}
use Rattle.vpf_renumbering.proofs.glued_faces.CountLemmas.{IsFaceAt, IsPoint, counts_climb, counts_long, face_below, face_found, point_at}
use Rattle.vpf_renumbering.proofs.glued_faces.faces.GluedFaces.face_at.Goals as goal

pub overflow_sub-tile : goal.overflow_sub-tile
overflow_sub-tile c =
    let inside : c.args.place < length (whole_of (library_of c.self.inside.checked.now)).faces =
    subst (λ (v : CoverageTables). c.args.place < length (whole_of (library_of v)).faces) (sym c.self.view_is) c.requires in
    let turns : IsPartitionPoint (λ y. leb y c.args.place ≡ true) (λ y. leb y c.args.place ≡ false) c.self.inside.counts.items c.partition_point-tile.result =
    subst (λ (xs : List ℕ). IsPartitionPoint (λ y. leb y c.args.place ≡ true) (λ y. leb y c.args.place ≡ false) xs c.partition_point-tile.result) c.deref.ensures.value
    (IsPartitionPoint-from_clause (λ y. leb y c.args.place) c.deref.result.now c.partition_point-tile.result c.partition_point-tile.ensures.partitioned
    (subst (λ (xs : List ℕ). IsPartitionedBy (λ y. leb y c.args.place) xs) (sym c.deref.ensures.value)
    (counts_climb c.self.inside.checked.now c.self.inside.counts.items c.self.invariant c.args.place)) (λ a r f h. search rules)) in
    let point : IsPoint c.self.inside.checked.now c.partition_point-tile.result =
    point_at c.self.inside.checked.now c.self.inside.counts.items c.self.invariant c.args.place c.partition_point-tile.result inside turns in
    point.some

pub index-requires : goal.index-requires
index-requires c =
    let inside : c.args.place < length (whole_of (library_of c.self.inside.checked.now)).faces =
    subst (λ (v : CoverageTables). c.args.place < length (whole_of (library_of v)).faces) (sym c.self.view_is) c.requires in
    let turns : IsPartitionPoint (λ y. leb y c.args.place ≡ true) (λ y. leb y c.args.place ≡ false) c.self.inside.counts.items c.partition_point-tile.result =
    subst (λ (xs : List ℕ). IsPartitionPoint (λ y. leb y c.args.place ≡ true) (λ y. leb y c.args.place ≡ false) xs c.partition_point-tile.result) c.deref.ensures.value
    (IsPartitionPoint-from_clause (λ y. leb y c.args.place) c.deref.result.now c.partition_point-tile.result c.partition_point-tile.ensures.partitioned
    (subst (λ (xs : List ℕ). IsPartitionedBy (λ y. leb y c.args.place) xs) (sym c.deref.ensures.value)
    (counts_climb c.self.inside.checked.now c.self.inside.counts.items c.self.invariant c.args.place)) (λ a r f h. search rules)) in
    let point : IsPoint c.self.inside.checked.now c.partition_point-tile.result =
    point_at c.self.inside.checked.now c.self.inside.counts.items c.self.invariant c.args.place c.partition_point-tile.result inside turns in
    let some = point.some in
    let low = point.inside in
    let long : length c.self.inside.counts.items ≡ last_tile c.self.inside.checked.now + 2 = counts_long c.self.inside.checked.now c.self.inside.counts.items c.self.invariant in
    omega arith

pub overflow_sub-result : goal.overflow_sub-result
overflow_sub-result c =
    let inside : c.args.place < length (whole_of (library_of c.self.inside.checked.now)).faces =
    subst (λ (v : CoverageTables). c.args.place < length (whole_of (library_of v)).faces) (sym c.self.view_is) c.requires in
    let turns : IsPartitionPoint (λ y. leb y c.args.place ≡ true) (λ y. leb y c.args.place ≡ false) c.self.inside.counts.items c.partition_point-tile.result =
    subst (λ (xs : List ℕ). IsPartitionPoint (λ y. leb y c.args.place ≡ true) (λ y. leb y c.args.place ≡ false) xs c.partition_point-tile.result) c.deref.ensures.value
    (IsPartitionPoint-from_clause (λ y. leb y c.args.place) c.deref.result.now c.partition_point-tile.result c.partition_point-tile.ensures.partitioned
    (subst (λ (xs : List ℕ). IsPartitionedBy (λ y. leb y c.args.place) xs) (sym c.deref.ensures.value)
    (counts_climb c.self.inside.checked.now c.self.inside.counts.items c.self.invariant c.args.place)) (λ a r f h. search rules)) in
    let point : IsPoint c.self.inside.checked.now c.partition_point-tile.result =
    point_at c.self.inside.checked.now c.self.inside.counts.items c.self.invariant c.args.place c.partition_point-tile.result inside turns in
    face_below c.self.inside.checked.now c.self.inside.counts.items c.self.invariant c.args.place c.partition_point-tile.result c.index.result.now point turns c.index.ensures

pub returns-clause-face : goal.returns-clause-face
returns-clause-face c =
    let inside : c.args.place < length (whole_of (library_of c.self.inside.checked.now)).faces =
    subst (λ (v : CoverageTables). c.args.place < length (whole_of (library_of v)).faces) (sym c.self.view_is) c.requires in
    let turns : IsPartitionPoint (λ y. leb y c.args.place ≡ true) (λ y. leb y c.args.place ≡ false) c.self.inside.counts.items c.partition_point-tile.result =
    subst (λ (xs : List ℕ). IsPartitionPoint (λ y. leb y c.args.place ≡ true) (λ y. leb y c.args.place ≡ false) xs c.partition_point-tile.result) c.deref.ensures.value
    (IsPartitionPoint-from_clause (λ y. leb y c.args.place) c.deref.result.now c.partition_point-tile.result c.partition_point-tile.ensures.partitioned
    (subst (λ (xs : List ℕ). IsPartitionedBy (λ y. leb y c.args.place) xs) (sym c.deref.ensures.value)
    (counts_climb c.self.inside.checked.now c.self.inside.counts.items c.self.invariant c.args.place)) (λ a r f h. search rules)) in
    let point : IsPoint c.self.inside.checked.now c.partition_point-tile.result =
    point_at c.self.inside.checked.now c.self.inside.counts.items c.self.invariant c.args.place c.partition_point-tile.result inside turns in
    let found : IsFaceAt c.self.inside.checked.now c.args.place (c.partition_point-tile.result - 1) (c.args.place - c.index.result.now + 2) =
    face_found c.self.inside.checked.now c.self.inside.counts.items c.self.invariant c.args.place c.partition_point-tile.result c.index.result.now point turns c.index.ensures in
    (subst (λ (v : CoverageTables). IsFaceAt v c.args.place (c.partition_point-tile.result - 1) (c.args.place - c.index.result.now + 2)) c.self.view_is found).is

pub returns-clause-row : goal.returns-clause-row
returns-clause-row c =
    let inside : c.args.place < length (whole_of (library_of c.self.inside.checked.now)).faces =
    subst (λ (v : CoverageTables). c.args.place < length (whole_of (library_of v)).faces) (sym c.self.view_is) c.requires in
    let turns : IsPartitionPoint (λ y. leb y c.args.place ≡ true) (λ y. leb y c.args.place ≡ false) c.self.inside.counts.items c.partition_point-tile.result =
    subst (λ (xs : List ℕ). IsPartitionPoint (λ y. leb y c.args.place ≡ true) (λ y. leb y c.args.place ≡ false) xs c.partition_point-tile.result) c.deref.ensures.value
    (IsPartitionPoint-from_clause (λ y. leb y c.args.place) c.deref.result.now c.partition_point-tile.result c.partition_point-tile.ensures.partitioned
    (subst (λ (xs : List ℕ). IsPartitionedBy (λ y. leb y c.args.place) xs) (sym c.deref.ensures.value)
    (counts_climb c.self.inside.checked.now c.self.inside.counts.items c.self.invariant c.args.place)) (λ a r f h. search rules)) in
    let point : IsPoint c.self.inside.checked.now c.partition_point-tile.result =
    point_at c.self.inside.checked.now c.self.inside.counts.items c.self.invariant c.args.place c.partition_point-tile.result inside turns in
    let found : IsFaceAt c.self.inside.checked.now c.args.place (c.partition_point-tile.result - 1) (c.args.place - c.index.result.now + 2) =
    face_found c.self.inside.checked.now c.self.inside.counts.items c.self.invariant c.args.place c.partition_point-tile.result c.index.result.now point turns c.index.ensures in
    (subst (λ (v : CoverageTables). IsFaceAt v c.args.place (c.partition_point-tile.result - 1) (c.args.place - c.index.result.now + 2)) c.self.view_is found).row

pub overflow_cast-result : goal.overflow_cast-result
overflow_cast-result c =
    let inside : c.args.place < length (whole_of (library_of c.self.inside.checked.now)).faces =
    subst (λ (v : CoverageTables). c.args.place < length (whole_of (library_of v)).faces) (sym c.self.view_is) c.requires in
    let turns : IsPartitionPoint (λ y. leb y c.args.place ≡ true) (λ y. leb y c.args.place ≡ false) c.self.inside.counts.items c.partition_point-tile.result =
    subst (λ (xs : List ℕ). IsPartitionPoint (λ y. leb y c.args.place ≡ true) (λ y. leb y c.args.place ≡ false) xs c.partition_point-tile.result) c.deref.ensures.value
    (IsPartitionPoint-from_clause (λ y. leb y c.args.place) c.deref.result.now c.partition_point-tile.result c.partition_point-tile.ensures.partitioned
    (subst (λ (xs : List ℕ). IsPartitionedBy (λ y. leb y c.args.place) xs) (sym c.deref.ensures.value)
    (counts_climb c.self.inside.checked.now c.self.inside.counts.items c.self.invariant c.args.place)) (λ a r f h. search rules)) in
    let point : IsPoint c.self.inside.checked.now c.partition_point-tile.result =
    point_at c.self.inside.checked.now c.self.inside.counts.items c.self.invariant c.args.place c.partition_point-tile.result inside turns in
    let last : last_tile c.coverage.result.now ≡ last_tile c.self.inside.checked.now = ap last_tile c.coverage.ensures in
    let below = point.inside in
    let fits : c.tiles-last.result < 2 ^ 32 = c.tiles-last.type_inv in
    omega (arith, c.tiles-last.ensures)
