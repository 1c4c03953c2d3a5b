use Rattle.vpf_theme_build.proofs.TextLemmas.{rows_inside}
use Rattle.vpf_theme_build.proofs.writing.put_data.Goals as goal

pub put_rows-requires-clause-rows : goal.put_rows-requires-clause-rows
put_rows-requires-clause-rows c = λ k d h. (rows_inside c.args.layout.now.rows c.args.spots.now c.requires.inside k d h).1

pub put_bitmap-requires-clause-first : goal.put_bitmap-requires-clause-first
put_bitmap-requires-clause-first c = λ k d h. (rows_inside c.args.layout.now.rows c.args.spots.now c.requires.inside k d h).0
