use Rattle.vpf_glue.specs.Tables.{glued_made}
use Rattle.vpf_glue.proofs.gluing.glue.Goals as goal

pub returns : goal.returns
returns c = record {
  exact = c.with_features.ensures (glued_made c.args.cov.now c.args.checked.now c.args.tileref.now) c.glued_files-tables.ensures;
}
