use Rattle.std.proofs.Common.{◌+◌, ◌<◌, sym, ◌∙◌, arith}
use Rattle.vpf_prims.specs.declared.tile.Tile.{Tile}
use Rattle.vpf_prims.specs.Coverages.{last_tile}
use Rattle.vpf_prims.specs.Primitives.{has_tables}
use Rattle.std.specs.Borrow.{Bor}
use Rattle.vpf_prims.specs.Libraries.{library_of}
use Rattle.vpf_cross.specs.CarriedLines.{first_tile}
use Rattle.vpf_cross.proofs.CarriedLemmas.{first_found, first_none, first_passed, tables_there}
use Rattle.vpf_cross.proofs.carried.first_tile.Goals as goal

pub returns-then-is_some : goal.returns-then-is_some
unfolding first_tile
returns-then-is_some c =
    let h : c.loop-t.t < last_tile c.args.coverage.now + 1 = omega (arith, c.tiles-t-end.ensures) in
    let there = tables_there (λ (t : Bor Tile). t.now) c.tile.result c.args.coverage.now c.loop-t.t c.tile.ensures in
    first_found (has_tables (library_of c.args.coverage.now)) c.loop-t.t (last_tile c.args.coverage.now + 1) _ h (sym there ∙ sym c.is_some.ensures ∙ c.if-is_some.true) c.loop-t.invariant

pub loop-t-preserved : goal.loop-t-preserved
loop-t-preserved c =
    let h : c.loop-t.t < last_tile c.args.coverage.now + 1 = omega (arith, c.tiles-t-end.ensures) in
    let there = tables_there (λ (t : Bor Tile). t.now) c.tile.result c.args.coverage.now c.loop-t.t c.tile.ensures in
    first_passed (has_tables (library_of c.args.coverage.now)) c.loop-t.t (last_tile c.args.coverage.now + 1) _ h (sym there ∙ sym c.is_some.ensures ∙ c.if-is_some.false) c.loop-t.invariant

pub returns-else-is_some : goal.returns-else-is_some
unfolding first_tile
returns-else-is_some c =
    let h : c.loop-t.t < last_tile c.args.coverage.now + 1 = omega (arith, c.tiles-t-end.ensures) in
    let there = tables_there (λ (t : Bor Tile). t.now) c.tile.result c.args.coverage.now c.loop-t.t c.tile.ensures in
    let left = first_passed (has_tables (library_of c.args.coverage.now)) c.loop-t.t (last_tile c.args.coverage.now + 1) _ h (sym there ∙ sym c.is_some.ensures ∙ c.if-is_some.false) c.loop-t.invariant in
    first_none (has_tables (library_of c.args.coverage.now)) (c.loop-t.t + 1) (last_tile c.args.coverage.now + 1) _ (omega (arith, c.tiles-t-end.ensures)) left
