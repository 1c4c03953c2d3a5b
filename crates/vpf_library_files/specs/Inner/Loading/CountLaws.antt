-- The first of the tables that were loaded, and its count.
use Rattle.std.proofs.Common.{List, [], ◌∷◌, ◌++◌, sym, subst}
use Rattle.vpf_source.specs.declared.file.File.{File}
use Rattle.vpf_table.specs.declared.counted.Counted.{Counted}
use Rattle.vpf_library_files.specs.Inner.Loading.Counting.{AreCounted, IsFirstCounted}

first_before : (here rest : List File) (c : Counted) → IsFirstCounted here c → IsFirstCounted (here ++ rest) c
first_before [] rest c h = absurd h
first_before (file ∷ here) rest c h = h

-- the first count is that of the first table
pub first_counted : (files : List File) (c : Counted) (counts : List Counted) → AreCounted files (c ∷ counts) → IsFirstCounted files c
first_counted files c counts (here, rest, are, table, others) =
    subst (λ (x : List File). IsFirstCounted x c) (sym are) (first_before here rest c table.counted)
