use Rattle.std.proofs.Common.{◌≡◌, ℕ, List, length, ap, ◌∙◌, arith}
use Rattle.std.proofs.lemmas.List.{length-map}
use Rattle.vpf_renumbering.specs.TilingLawsWhole.{WholeFace}
use Rattle.vpf_glue.specs.GluedTables.Grids.{whole_in}
use Rattle.vpf_glue.proofs.gluing.plan_written.Goals as goal

pub write_plan-requires-clause-few : goal.write_plan-requires-clause-few
write_plan-requires-clause-few c =
    let many : length c.as_slice.result.now ≡ length (whole_in c.args.faces.now).faces =
    ap (λ (xs : List ℕ). length xs) (c.as_slice.ensures.value ∙ c.in_ok-tiles.ensures.tiles) ∙ length-map (whole_in c.args.faces.now).faces (λ (f : WholeFace). f.at.tile) in
    omega (arith, c.count-count.ensures.value, c.count-count.ensures.few)
