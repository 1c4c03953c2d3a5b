use Rattle.std.proofs.Common.{◌≡◌, ◌-◌, ap, arith, length, Option}
use Rattle.vpf_prims.specs.Libraries.{library_of, primitives_in}
use Rattle.vpf_prims.specs.Primitives.{face_count, faces_in}
use Rattle.vpf_prims.specs.Reading.{primitives_of}
use Rattle.vpf_prims.specs.Tables.{TileTables}
use Rattle.vpf_tiling_laws.specs.Gluing.Whole.{whole_faces}
use Rattle.vpf_renumbering.proofs.glued_faces.NumberLemmas.{own_many}
use Rattle.vpf_renumbering.proofs.glued_faces.counting.own_faces.Goals as goal

pub returns-in-Some : goal.returns-in-Some
returns-in-Some c =
    let own : length (whole_faces (library_of c.args.coverage.now) c.args.tile) ≡ face_count (library_of c.args.coverage.now) c.args.tile - 1 =
    own_many (library_of c.args.coverage.now) c.args.tile in
    let many : length (primitives_of c.in-Some.tables.now.tables).faces ≡ face_count (library_of c.args.coverage.now) c.args.tile =
    ap (λ (o : Option TileTables). length (faces_in (primitives_in o))) c.in-Some.ensures in
    omega (arith, c.faces.ensures.value, c.saturating_sub.ensures)
