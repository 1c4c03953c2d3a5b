use Rattle.vpf_cutting.proofs.PlacingLemmas.{plan_few}
use Rattle.vpf_cutting.proofs.cut.Cut.face_cell.Goals as goal

pub cross-requires-clause-tile : goal.cross-requires-clause-tile
cross-requires-clause-tile c = plan_few c.args.self.now c.plan_holds.ensures c.args.face c.tile_of_face-own.result c.requires c.tile_of_face-own.ensures
