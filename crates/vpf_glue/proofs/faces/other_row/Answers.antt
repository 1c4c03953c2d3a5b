use Rattle.std.proofs.Common.{ap, ◌∙◌, subst}
use Rattle.std.specs.Option.{IsSomeAnd}
use Rattle.vpf_findings.specs.declared.finding.TableName.TheVariants as names
use Rattle.vpf_prims.specs.Coverages.{CoverageTables}
use Rattle.vpf_prims.specs.Reading.{PrimitiveTables}
use Rattle.vpf_wing.specs.Links.{Beyond}
use Rattle.vpf_glue.specs.GluedTables.Grids.{row_in}
use Rattle.vpf_glue.specs.Inner.Sources.{IsRight, IsRowIn, table_in}
use Rattle.vpf_glue.proofs.SourceLemmas.{face_there, like_there, row_is}
use Rattle.vpf_glue.proofs.FaceLemmas.{source_at}
use Rattle.vpf_glue.proofs.faces.other_row.Goals as goal

pub returns-clause-row : goal.returns-clause-row
returns-clause-row c =
    let f = c.face.inside in
    let there = face_there c.args.faces.now c.face.inside.tile c.face.inside.face c.row_in_tile.result
    (subst (λ (v : CoverageTables). IsSomeAnd (table_in v c.face.inside.tile names.Fac) (λ grid. IsRowIn grid c.face.inside.face c.row_in_tile.result)) c.checked-2.ensures c.row_in_tile.ensures) in
    row_is (λ (T : PrimitiveTables). T.fac) c.args.faces.now c.face.inside.tile c.face.inside.face c.row_in_tile.result there
    ∙ ap (λ (p : Beyond). row_in (λ (T : PrimitiveTables). T.fac) c.args.faces.now p.tile p.id) c.face.view_is
    ∙ source_at c.args.faces.now c.args.like.now c.args.place c.face_at-face.result c.requires.row c.face_at-face.ensures.face

pub returns-clause-fits : goal.returns-clause-fits
returns-clause-fits c = λ k n.
    let right = subst IsRight c.checked.ensures c.numbers_are_right.ensures in
    let there = face_there c.args.faces.now c.face.inside.tile c.face.inside.face c.row_in_tile.result
    (subst (λ (v : CoverageTables). IsSomeAnd (table_in v c.face.inside.tile names.Fac) (λ grid. IsRowIn grid c.face.inside.face c.row_in_tile.result)) c.checked-2.ensures c.row_in_tile.ensures) in
    c.rows_of_tiles_fit.ensures.faces c.args.faces.now c.args.like.now there.T.tables.fac
    (like_there (λ (T : PrimitiveTables). T.fac) c.args.faces.now c.face.inside.tile c.face.inside.face c.row_in_tile.result c.args.like.now right there c.requires.like) k n
    c.row_in_tile.result there.found.fits
