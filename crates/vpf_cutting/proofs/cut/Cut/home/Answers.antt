use Rattle.vpf_cutting.proofs.DartLemmas.{IsHome, home_by_other, home_by_own}
use Rattle.vpf_cutting.proofs.cut.Cut.home.Goals as goal

pub returns-then-face-eq1 : goal.returns-then-face-eq1
returns-then-face-eq1 c =
    let home : IsHome c.args.self.now c.args.dart c.tile_of_face.result =
    home_by_other c.args.self.now c.plan_holds.ensures c.args.dart c.flip.result c.face-face.result c.face.result c.tile_of_face.result c.requires
    c.flip.ensures c.face-face.ensures.value c.if-face-eq1.true c.face.ensures.value c.tile_of_face.ensures in
    record { value = home.value; there = home.there; few = home.few }

pub returns-else-face-eq1 : goal.returns-else-face-eq1
returns-else-face-eq1 c =
    let home : IsHome c.args.self.now c.args.dart c.tile_of_face-else-face-eq1.result =
    home_by_own c.args.self.now c.plan_holds.ensures c.args.dart c.face-face.result c.tile_of_face-else-face-eq1.result c.requires c.face-face.ensures.value
    c.if-face-eq1.false c.tile_of_face-else-face-eq1.ensures in
    record { value = home.value; there = home.there; few = home.few }
