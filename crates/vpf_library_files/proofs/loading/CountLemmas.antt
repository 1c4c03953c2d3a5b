-- Tables that were loaded, with their counts.
use Rattle.std.proofs.Common.{◌≡◌, ◌∙◌, inl, inr, ℕ, List, [], ◌∷◌, ◌++◌, Option, Some, None, ap, append-nil, append_assoc, refl, subst, sym}
use Rattle.std.specs.Prelude.{IfSome}
use Rattle.vpf_source.specs.declared.file.File.{File}
use Rattle.vpf_table.specs.Grid.{Grid}
use Rattle.vpf_table.specs.declared.counted.Counted.{Counted}
use Rattle.vpf_library_files.specs.Tileref.Stops.{path_texts}
use Rattle.vpf_library_files.specs.Loading.Loading.{LoadedTable}
use Rattle.vpf_library_files.specs.Loading.Holding.{AreFilesOf}
use Rattle.vpf_library_files.specs.Loading.Loads.{LoadsTileref}
use Rattle.vpf_library_files.specs.Inner.Loading.Counting.{AreCounted, IsCountedTable, IsFirstNamed}
use Rattle.vpf_library_files.proofs.loading.TableLaws.{OpenedIsRead, SpelledIsOpened}

-- some tables, and others behind them
pub counted_both : (a b : List File) (cs ds : List Counted) → AreCounted a cs → AreCounted b ds → AreCounted (a ++ b) (cs ++ ds)
counted_both a b [] ds none h = subst (λ (x : List File). AreCounted (x ++ b) ds) (sym none) h
counted_both a b (c ∷ cs) ds (here, rest, are, table, others) h =
    (here, rest ++ b, ap (λ (x : List File). x ++ b) are ∙ append_assoc here rest b, table, counted_both rest b cs ds others h)

pub one_counted : (files : List File) (c : Counted) → IsCountedTable files c → AreCounted files (c ∷ [])
one_counted files c table = (files, [], sym (append-nil files), table, refl)

-- what the first table names, whatever stands behind it
named_first : (files more : List File) (paths : List (List ℕ)) → IsFirstNamed files paths → IsFirstNamed (files ++ more) paths
named_first [] more paths h = absurd h
named_first (file ∷ files) more paths h = h

pub named_before : (files more : List File) (paths : Option (List (List ℕ))) → IfSome paths (IsFirstNamed files) → IfSome paths (IsFirstNamed (files ++ more))
named_before files more None h = tt
named_before files more (Some paths) h = named_first files more paths h

own_paths : SpelledIsOpened → OpenedIsRead → (name : List ℕ) (grid : Grid) (files : List File) (paths : List (List ℕ)) → AreFilesOf name grid files → paths ≡ path_texts grid
    → IsFirstNamed files paths
own_paths spelled again name grid files paths (inl p) is =
    subst (λ (x : List File). IsFirstNamed x paths) (sym p.are) (grid, spelled p.bytes None grid p.opened, is)
own_paths spelled again name grid files paths (inr p) is =
    subst (λ (x : List File). IsFirstNamed x paths) (sym p.are) (grid, again p.bytes (Some p.index) grid (spelled p.bytes (Some p.index) grid p.opened), is)

-- the table of tiles, and tables behind it
pub paths_named : SpelledIsOpened → OpenedIsRead → (name : List ℕ) (t : LoadedTable) (files all more : List File) (paths : List (List ℕ)) → LoadsTileref name files paths t
    → all ≡ files ++ more → IsFirstNamed all paths
paths_named spelled again name t files all more paths h behind =
    let own = subst (λ (x : List File). IsFirstNamed x paths) (sym h.all) (own_paths spelled again name t.grid t.files paths h.are h.names) in
    subst (λ (x : List File). IsFirstNamed x paths) (sym behind) (named_first files more paths own)
