-- The worked coverage is what `tile` cuts, with its features.
use Rattle.std.proofs.Common.{refl}
use Rattle.vpf_library_commands.specs.Inner.TileTheorem.Tilings.Laws.{CutIsSource, RequestsHaveNames}
use Rattle.vpf_library_commands.specs.TileTheorem.Tilings.Cutting.{cut_files}
use Rattle.vpf_library_commands.specs.TileTheorem.Tilings.Tilings.{HasNames}
use Rattle.vpf_drill.specs.Inner.Worked.Laws.{HasIndexedFeatures, WorkedIsCut, WorkedIsSource, WorkedLacksThemes, WorkedStandsAlone}
use Rattle.vpf_drill.specs.Inner.Worked.Held.{WorkedHoldsBytes, worked_held}
use Rattle.vpf_drill.specs.Inner.Worked.Request.{WorkedHasTables, WorkedIsAsked, WorkedIsRead, WorkedIsUnfound, WorkedServes, worked_parts, worked_request, worked_tile_tables, worked_words}
use Rattle.vpf_drill.specs.Inner.Worked.Tables.{worked_schema}
use Rattle.vpf_drill.proofs.TiledLemmas.{made_some}
use Rattle.vpf_drill.proofs.worked.CutLemmas.{features_fit, fits}

-- it may be cut, since what is read of it is in order
pub is_cut : WorkedIsRead → WorkedHasTables → WorkedIsUnfound → WorkedServes → WorkedIsCut
is_cut read tables unfound serves = record {
  read = read;
  tables = tables;
  agrees = unfound;
  serves = serves;
  fits = fits;
  joins = refl;
  features_fit = features_fit;
}

-- its features have a thematic index
featured : HasIndexedFeatures worked_schema
featured = record { fcs = _; classes = refl; table = _; tables = refl; column = 1; index = _; indexed = refl }

-- so it is a source
pub is_source : CutIsSource → RequestsHaveNames → WorkedIsAsked → WorkedHoldsBytes → WorkedIsCut → WorkedStandsAlone → WorkedLacksThemes → WorkedIsSource
is_source only requests asked bytes cut alone lacks =
    let names : HasNames worked_request = requests worked_words worked_request asked.0 asked.1 in
    let some = made_some (cut_files worked_request worked_parts worked_tile_tables) worked_held in
    record {
      words = worked_words;
      text = asked.0;
      asked = asked.1;
      names = names;
      bytes = bytes;
      source = only worked_held worked_request worked_parts worked_tile_tables bytes names cut;
      featured = featured;
      alone = alone;
      after = some.0;
      made = some.1;
      lacks = lacks some.0 some.1;
    }
