use Rattle.std.proofs.Common.{◌≡◌, ℕ, ◌+◌, ◌^◌, ◌<◌, ◌≤◌, ap, ◌∙◌, sym, subst, arith, List, length, get_or}
use Rattle.std.proofs.lemmas.List.{with_items_is}
use Rattle.vpf_tiling.specs.Presence.{present_edges}
use Rattle.vpf_cutting.specs.Inner.Cuts.{plan_by}
use Rattle.vpf_cutting.specs.Inner.Rows.{ArePutAt}
use Rattle.vpf_cutting.proofs.FirstLemmas.{AreFirsts, firsts_are, firsts_few, firsts_more}
use Rattle.vpf_cutting.proofs.cut.Cut.first_edges.Goals as goal

pub loop-k-preserved : goal.loop-k-preserved
loop-k-preserved c =
    let k : ℕ = c.loop-k.k in
    let same : length c.put_ends.new.firsts ≡ length c.loop-k.firsts.items = c.put_ends.ensures.nodes ∙ ap length c.deref_mut.ensures.value in
    let here : c.loop-k.k < length c.edges_in-edges.result.now = omega arith in
    let below : c.loop-k.k < length (present_edges c.args.self.now.source (plan_by c.args.self.now.plan) c.args.tile) = subst (λ (xs : List ℕ). c.loop-k.k < length xs) c.edges_in-edges.ensures.edges here in
    let put : ArePutAt c.ends_in-ends.result (c.loop-k.k + 1) c.loop-k.firsts.items c.put_ends.new.firsts =
    subst (λ old. ArePutAt c.ends_in-ends.result (c.loop-k.k + 1) old c.put_ends.new.firsts) c.deref_mut.ensures.value c.put_ends.ensures in
    subst (AreFirsts c.args.self.now.source (plan_by c.args.self.now.plan) c.args.tile (c.loop-k.k + 1)) (sym (with_items_is c.loop-k.firsts c.put_ends.new.firsts (omega arith)))
    (firsts_more c.args.self.now.source (plan_by c.args.self.now.plan) c.args.tile k _ c.ends_in-ends.result c.loop-k.firsts.items c.put_ends.new.firsts below
    (ap (λ xs. get_or xs k 0) (sym c.edges_in-edges.ensures.edges)) c.ends_in-ends.ensures.start c.ends_in-ends.ensures.end c.loop-k.invariant put)

pub returns-clause-firsts : goal.returns-clause-firsts
returns-clause-firsts c =
    let past : length c.edges_in-edges.result.now ≤ c.loop-k.k = omega arith in
    firsts_are c.args.self.now.source (plan_by c.args.self.now.plan) c.args.tile c.loop-k.k c.loop-k.firsts.items
    (subst (λ (xs : List ℕ). length xs ≤ c.loop-k.k) c.edges_in-edges.ensures.edges past) c.loop-k.invariant

pub returns-clause-few : goal.returns-clause-few
returns-clause-few c =
    let past : length c.edges_in-edges.result.now ≤ c.loop-k.k = omega arith in
    firsts_few c.args.self.now.source (plan_by c.args.self.now.plan) c.args.tile c.loop-k.k c.loop-k.firsts.items
    (subst (λ (xs : List ℕ). length xs ≤ c.loop-k.k) c.edges_in-edges.ensures.edges past)
    (subst (λ (xs : List ℕ). length xs < 2 ^ 24) c.edges_in-edges.ensures.edges c.edges_in-edges.ensures.few) c.loop-k.invariant
