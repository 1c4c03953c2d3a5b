use Rattle.std.proofs.Common.{◌≡◌, ◌+◌, ◌-◌, ◌*◌, ◌≤◌, ap, ◌∙◌, subst, arith, length, get_or}
use Rattle.vpf_base.specs.Limits.{most_rows}
use Rattle.vpf_prims.specs.Coverages.{CoverageTables}
use Rattle.vpf_prims.specs.Libraries.{library_of}
use Rattle.vpf_tiling_laws.specs.Gluing.Whole.{whole_of}
use Rattle.vpf_renumbering.proofs.glued_faces.CountLemmas.{count_end}
use Rattle.vpf_renumbering.proofs.glued_faces.faces.GluedFaces.count.Goals as goal

pub overflow_add-result : goal.overflow_add-result
overflow_add-result c =
    let all : c.index.result.now ≡ length (whole_of (library_of c.self.inside.checked.now)).faces =
    c.index.ensures ∙ ap (λ n. get_or c.self.inside.counts.items (n - 1) c.index.result.now) (let len : c.len.result ≡ length c.self.inside.counts.items = omega arith in len)
    ∙ count_end c.self.inside.checked.now c.self.inside.counts.items c.self.invariant c.index.result.now in
    let few : length (whole_of (library_of c.self.inside.checked.now)).faces ≤ 2 * most_rows = c.self.invariant.faces in
    omega arith

pub returns-clause-value : goal.returns-clause-value
returns-clause-value c =
    let all : c.index.result.now ≡ length (whole_of (library_of c.self.inside.checked.now)).faces =
    c.index.ensures ∙ ap (λ n. get_or c.self.inside.counts.items (n - 1) c.index.result.now) (let len : c.len.result ≡ length c.self.inside.counts.items = omega arith in len)
    ∙ count_end c.self.inside.checked.now c.self.inside.counts.items c.self.invariant c.index.result.now in
    subst (λ (v : CoverageTables). c.index.result.now + 1 ≡ length (whole_of (library_of v)).faces + 1) c.self.view_is (ap (λ n. n + 1) all)

pub returns-clause-few : goal.returns-clause-few
returns-clause-few c =
    let all : c.index.result.now ≡ length (whole_of (library_of c.self.inside.checked.now)).faces =
    c.index.ensures ∙ ap (λ n. get_or c.self.inside.counts.items (n - 1) c.index.result.now) (let len : c.len.result ≡ length c.self.inside.counts.items = omega arith in len)
    ∙ count_end c.self.inside.checked.now c.self.inside.counts.items c.self.invariant c.index.result.now in
    let few : length (whole_of (library_of c.self.inside.checked.now)).faces ≤ 2 * most_rows = c.self.invariant.faces in
    omega arith
