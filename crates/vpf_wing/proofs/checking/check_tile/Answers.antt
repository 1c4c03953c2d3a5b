use Rattle.std.proofs.Common.{◌≡◌, Some, None, refl, sym, ◌∙◌}
use Rattle.std.proofs.lemmas.Result.{err_from_is_err_and}
use Rattle.vpf_prims.specs.Primitives.{own_edges}
use Rattle.vpf_prims.specs.Reading.{primitives_of}
use Rattle.vpf_wing.specs.CycleLines.{cycles_finding}
use Rattle.vpf_wing.proofs.GridLemmas.{tells_on}
use Rattle.vpf_wing.proofs.TileLemmas.{or_later, tells_same, wings_part, sides_part, rings_part, nodes_part, wings_told, sides_told, rings_told}
use Rattle.vpf_findings.specs.Inner.FirstLaws.{or_first}
use Rattle.vpf_wing.proofs.checking.check_tile.Goals as goal

pub returns-in_err-darts : goal.returns-in_err-darts
returns-in_err-darts c =
    let p = err_from_is_err_and c.from_residual.result c.from_residual.ensures.1 in
    let t = c.args.number in
    let T = c.args.tile.now in
    rw (p.1, p.2) (tells_on c.in_err-darts.field-0.0 (wings_part t T) (cycles_finding t T) (wings_told t T) c.in_err-darts.ensures.first)

pub returns-in_err-check_sides : goal.returns-in_err-check_sides
returns-in_err-check_sides c =
    let t = c.args.number in
    let T = c.args.tile.now in
    let is : c.in_ok-cycles.cycles ≡ own_edges (primitives_of c.args.tile.now.tables) = c.in_ok-cycles.ensures ∙ c.in_ok-darts.ensures.darts in
    let p = err_from_is_err_and c.from_residual-in_err-check_sides.result c.from_residual-in_err-check_sides.ensures.1 in
    rw (p.1, p.2) (sides_told t T _ c.in_ok-darts.ensures.first (rw is at c.in_err-check_sides.ensures))

pub returns-in_err-check_rings : goal.returns-in_err-check_rings
returns-in_err-check_rings c =
    let t = c.args.number in
    let T = c.args.tile.now in
    let is : c.in_ok-cycles.cycles ≡ own_edges (primitives_of c.args.tile.now.tables) = c.in_ok-cycles.ensures ∙ c.in_ok-darts.ensures.darts in
    let p = err_from_is_err_and c.from_residual-in_err-check_rings.result c.from_residual-in_err-check_rings.ensures.1 in
    let sides : sides_part t T ≡ None = rw is at c.in_ok-check_sides.ensures in
    rw (p.1, p.2) (tells_on c.in_err-check_rings.field-0.0 (rings_part t T) (cycles_finding t T)
    (λ f some. rings_told t T (Some f) c.in_ok-darts.ensures.first sides (or_first (rings_part t T) (nodes_part t T) f some)) (rw is at c.in_err-check_rings.ensures))

pub returns : goal.returns
returns c =
    let t = c.args.number in
    let T = c.args.tile.now in
    let is : c.in_ok-cycles.cycles ≡ own_edges (primitives_of c.args.tile.now.tables) = c.in_ok-cycles.ensures ∙ c.in_ok-darts.ensures.darts in
    let sides : sides_part t T ≡ None = rw is at c.in_ok-check_sides.ensures in
    let rings : rings_part t T ≡ None = rw is at c.in_ok-check_rings.ensures in
    let same : cycles_finding t T ≡ nodes_part t T =
    rings_told t T (nodes_part t T) c.in_ok-darts.ensures.first sides (or_later (rings_part t T) (nodes_part t T) (nodes_part t T) rings refl) in
    tells_same c.check_nodes-2.result (nodes_part t T) (cycles_finding t T) (sym same) (rw (c.into_darts.ensures, is) at c.check_nodes-2.ensures)
