use Rattle.std.proofs.Common.{Option, sym, ap, ◌∙◌, subst}
use Rattle.std.specs.Prelude.{IfSome}
use Rattle.vpf_darts.specs.Darts.{tile_dart_code}
use Rattle.vpf_prims.specs.Coverages.{CoverageTables}
use Rattle.vpf_prims.specs.Libraries.{library_of}
use Rattle.vpf_wing.specs.Links.{Beyond}
use Rattle.vpf_renumbering.specs.Glued.{face_number}
use Rattle.vpf_glue.specs.GluedTables.Grids.{whole_in}
use Rattle.vpf_glue.specs.Inner.Sources.{IsFaceThere, IsRight}
use Rattle.vpf_glue.proofs.SourceLemmas.{side_there}
use Rattle.vpf_glue.proofs.edges.sides.Goals as goal

pub face_number-requires : goal.face_number-requires
face_number-requires c =
    let right = subst IsRight c.checked_of.ensures c.numbers_are_right.ensures in
    subst (λ (v : CoverageTables). IfSome c.faces_of-right.result.0 (IsFaceThere (library_of v))) (sym c.requires.same)
    (subst (λ (o : Option Beyond). IfSome o (IsFaceThere (library_of c.args.edges.now))) (sym c.faces_of-right.ensures.own)
    (side_there c.args.edges.now right (tile_dart_code c.args.dart)))

pub face_number-requires-2 : goal.face_number-requires-2
face_number-requires-2 c =
    let right = subst IsRight c.checked_of.ensures c.numbers_are_right.ensures in
    subst (λ (v : CoverageTables). IfSome c.faces_of-right.result.1 (IsFaceThere (library_of v))) (sym c.requires.same)
    (subst (λ (o : Option Beyond). IfSome o (IsFaceThere (library_of c.args.edges.now))) (sym c.faces_of-right.ensures.other)
    (side_there c.args.edges.now right ((whole_in c.args.edges.now).darts.flip (tile_dart_code c.args.dart))))

pub returns-clause-right : goal.returns-clause-right
returns-clause-right c =
    c.face_number.ensures.number ∙ ap (λ (v : CoverageTables). face_number (whole_in v) c.faces_of-right.result.0) c.requires.same
    ∙ ap (face_number (whole_in c.args.edges.now)) c.faces_of-right.ensures.own

pub returns-clause-left : goal.returns-clause-left
returns-clause-left c =
    c.face_number-2.ensures.number ∙ ap (λ (v : CoverageTables). face_number (whole_in v) c.faces_of-right.result.1) c.requires.same
    ∙ ap (face_number (whole_in c.args.edges.now)) c.faces_of-right.ensures.other
