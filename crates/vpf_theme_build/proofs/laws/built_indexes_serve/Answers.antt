use Rattle.vpf_theme_build.proofs.ServingLemmas.{built_serve}
use Rattle.vpf_theme_build.proofs.laws.built_indexes_serve.Goals as goal

pub returns : goal.returns
returns c = built_serve (record {
  wide = c.fitting_is_written.ensures.width;
  total = c.values_are_ordered.ensures.total;
  agree = c.built_indexes_agree.ensures;
  read = c.built_indexes_are_read.ensures;
  spelled = c.read_is_spelled.ensures;
  writable = c.read_is_writable.ensures;
})
