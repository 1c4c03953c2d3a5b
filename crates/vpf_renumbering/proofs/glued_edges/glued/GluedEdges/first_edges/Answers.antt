use Rattle.std.proofs.Common.{◌≡◌, ℕ, ◌+◌, ◌<◌, ◌≤◌, false, length, get_or, sym, ap, ◌∙◌, subst, arith}
use Rattle.std.proofs.lemmas.List.{get_or-map, length-map, with_items_is}
use Rattle.vpf_base.specs.Limits.{most_rows}
use Rattle.vpf_darts.specs.declared.darts.TileDart.{TileDart}
use Rattle.vpf_darts.specs.Darts.{tile_dart_code}
use Rattle.vpf_prims.specs.Libraries.{library_of}
use Rattle.vpf_cutting.specs.Inner.Rows.{ArePutAt}
use Rattle.vpf_tiling_laws.specs.Gluing.Glued.{plus_darts}
use Rattle.vpf_tiling_laws.specs.Gluing.Whole.{whole_of}
use Rattle.vpf_renumbering.proofs.glued_edges.FirstLemmas.{AreFirsts, firsts_are, firsts_few, firsts_more}
use Rattle.vpf_renumbering.proofs.glued_edges.glued.GluedEdges.first_edges.Goals as goal

pub loop-k-preserved : goal.loop-k-preserved
loop-k-preserved c =
    let none : TileDart = record { tile = 0; edge = 0; minus = false } in
    let k : ℕ = c.loop-k.k in
    let same : length c.put_ends.new.firsts ≡ length c.loop-k.firsts.items = c.put_ends.ensures.nodes ∙ ap length c.deref_mut.ensures.value in
    let here : c.loop-k.k < length c.edges-edge-items.result.now = omega arith in
    let many : length (plus_darts (whole_of (library_of c.args.self.now))) ≡ length c.edges-edge-items.result.now =
    ap length (sym c.edges-edge-items.ensures.edges) ∙ length-map c.edges-edge-items.result.now tile_dart_code in
    let below : c.loop-k.k < length (plus_darts (whole_of (library_of c.args.self.now))) = omega arith in
    let put : ArePutAt c.ends-ends.result (c.loop-k.k + 1) c.loop-k.firsts.items c.put_ends.new.firsts =
    subst (λ old. ArePutAt c.ends-ends.result (c.loop-k.k + 1) old c.put_ends.new.firsts) c.deref_mut.ensures.value c.put_ends.ensures in
    subst (AreFirsts (whole_of (library_of c.args.self.now)) (c.loop-k.k + 1)) (sym (with_items_is c.loop-k.firsts c.put_ends.new.firsts (omega arith)))
    (firsts_more (whole_of (library_of c.args.self.now)) k (tile_dart_code (get_or c.edges-edge-items.result.now k none)) c.ends-ends.result c.loop-k.firsts.items
    c.put_ends.new.firsts below
    (ap (λ xs. get_or xs k 0) (sym c.edges-edge-items.ensures.edges) ∙ get_or-map tile_dart_code c.edges-edge-items.result.now k none 0 here)
    c.ends-ends.ensures.start c.ends-ends.ensures.end c.loop-k.invariant put)

pub returns-clause-firsts : goal.returns-clause-firsts
returns-clause-firsts c =
    let past : length c.edges-edge-items.result.now ≤ c.loop-k.k = omega arith in
    let many : length (plus_darts (whole_of (library_of c.args.self.now))) ≡ length c.edges-edge-items.result.now =
    ap length (sym c.edges-edge-items.ensures.edges) ∙ length-map c.edges-edge-items.result.now tile_dart_code in
    firsts_are (whole_of (library_of c.args.self.now)) c.loop-k.k c.loop-k.firsts.items (omega arith) c.loop-k.invariant

pub returns-clause-few : goal.returns-clause-few
returns-clause-few c =
    let past : length c.edges-edge-items.result.now ≤ c.loop-k.k = omega arith in
    let many : length (plus_darts (whole_of (library_of c.args.self.now))) ≡ length c.edges-edge-items.result.now =
    ap length (sym c.edges-edge-items.ensures.edges) ∙ length-map c.edges-edge-items.result.now tile_dart_code in
    firsts_few (whole_of (library_of c.args.self.now)) most_rows c.loop-k.k c.loop-k.firsts.items (omega arith) (omega (arith, c.edges-edge-items.ensures.few)) c.loop-k.invariant
