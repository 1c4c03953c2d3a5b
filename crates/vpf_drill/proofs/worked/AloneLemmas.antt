-- What is made of the worked coverage stands alone.
use Rattle.std.proofs.Common.{◌≤◌, List, ◌++◌, codes, refl, sym, subst, arith}
use Rattle.std.specs.Prelude.{AllPairs}
use Rattle.vpf_source.specs.declared.file.File.{File}
use Rattle.vpf_library_files.specs.Inner.Loading.FileLaws.{bytes_of_both}
use Rattle.vpf_library_files.specs.Loading.Holding.{bytes_in}
use Rattle.vpf_library_files.specs.Loading.Loading.{most_loaded}
use Rattle.vpf_library_files.specs.TableFiles.Adding.{files_made}
use Rattle.vpf_library_commands.specs.Inner.TileTheorem.Tilings.MadeLaws.{bytes_within}
use Rattle.vpf_library_commands.specs.TileTheorem.Tilings.Cutting.{cut_tables}
use Rattle.vpf_drill.specs.Inner.Worked.Laws.{WorkedStandsAlone}
use Rattle.vpf_drill.specs.Inner.Worked.Request.{worked_parts, worked_request, worked_tile_tables}
use Rattle.vpf_drill.proofs.worked.CutLemmas.{cut_load, feature_list}
use Rattle.vpf_drill.proofs.worked.NameLemmas.{Differ, made_are, made_list, they_differ}
use Rattle.vpf_drill.proofs.worked.ReadLemmas.{classes_size, roads_size}
use Rattle.vpf_drill.proofs.worked.ThemeLemmas.{index_size}

-- how many bytes the files have
made_few : bytes_in made_list ≤ most_loaded
unfolding made_list
made_few =
    let tables = files_made (cut_tables worked_request worked_parts worked_tile_tables) in
    omega (arith, bytes_within (codes "out") (tables ++ feature_list), bytes_of_both tables feature_list, cut_load, classes_size, roads_size, index_size)

pub stands_alone : WorkedStandsAlone
stands_alone = record {
  empty = λ name. refl;
  apart = subst (AllPairs Differ) (sym made_are) they_differ;
  few = subst (λ (files : List File). bytes_in files ≤ most_loaded) (sym made_are) made_few;
}
