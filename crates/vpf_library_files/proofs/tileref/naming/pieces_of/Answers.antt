use Rattle.std.proofs.Common.{rules, tests}
use Rattle.std.proofs.lemmas.Iterator.Consumers.{map_from_collect}
use Rattle.std.proofs.lemmas.Iterator.Splits.{YieldsList-from_slice_split}
use Rattle.vpf_library_files.specs.Tileref.Paths.{is_slash}
use Rattle.vpf_library_files.proofs.tileref.naming.pieces_of.Goals as goal

pub returns : goal.returns
returns c =
    map_from_collect _ c.collect.ensures.ran
    (YieldsList-from_slice_split _ is_slash c.args.text.now c.split.ensures.rest c.split.ensures.done c.split.ensures.closure
    (λ x b q r. search (rules, tests)))
