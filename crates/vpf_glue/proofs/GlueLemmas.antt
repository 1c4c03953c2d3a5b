-- What gluing comes to.
use Rattle.std.proofs.Common.{◌≡◌, ℕ, List, [], ◌∷◌, Option, None, Some, Ok, refl, sym, ap, ◌∙◌, subst}
use Rattle.std.specs.Option.{option_map}
use Rattle.vpf_base.specs.Results.{Told}
use Rattle.vpf_source.specs.declared.file.File.{File}
use Rattle.vpf_table.specs.Grid.{Grid}
use Rattle.vpf_prims.specs.Coverages.{CoverageTables, tile_at}
use Rattle.vpf_prims.specs.Libraries.{library_of}
use Rattle.vpf_prims.specs.Reading.{PrimitiveTables}
use Rattle.vpf_prims.specs.Tables.{TileTables}
use Rattle.vpf_cross.specs.CarriedLines.{first_tile}
use Rattle.vpf_library_files.specs.declared.table_files.errors.AddError.{AddError}
use Rattle.vpf_library_files.specs.TableFiles.Adding.{AreAdded, FailsAdding, NamedTable, error_seen, made_of_tables}
use Rattle.vpf_library_files.specs.Inner.TableFiles.AddLaws.{added_then, made_are, made_fail}
use Rattle.vpf_glue.specs.GluedTables.Grids.{glued_tables, plan_grid}
use Rattle.vpf_glue.specs.Tables.{glued_coverage_tables, glued_made, glued_tables_like, glued_tileref}
use Rattle.vpf_glue.proofs.AddLemmas.{first_fails, next_fails}

-- where no tile has tables, nothing is made
pub none_glued : (cov : List ℕ) (c : CoverageTables) (tileref : Grid) (files : List File) → tile_at c (first_tile (library_of c)) ≡ None → files ≡ []
    → glued_made cov c tileref ≡ Ok files
none_glued cov c tileref files none empty =
    ap (λ (o : Option TileTables). made_of_tables (glued_tables_like cov c tileref (option_map (λ (T : TileTables). T.tables) o))) none ∙ ap Ok (sym empty)

-- the tables of the glued coverage like those of the first tile
abbrev pub tables_behind : List ℕ → CoverageTables → PrimitiveTables → List NamedTable
tables_behind cov c first = glued_coverage_tables cov (glued_tables first c) (plan_grid c)

is_made : (cov : List ℕ) (c : CoverageTables) (tileref : Grid) (T : TileTables) → tile_at c (first_tile (library_of c)) ≡ Some T
    → glued_made cov c tileref ≡ made_of_tables (glued_tileref tileref ∷ tables_behind cov c T.tables)
is_made cov c tileref T at = ap (λ (o : Option TileTables). made_of_tables (glued_tables_like cov c tileref (option_map (λ (T : TileTables). T.tables) o))) at

fails : (cov : List ℕ) (c : CoverageTables) (tileref : Grid) (T : TileTables) (e : AddError) → tile_at c (first_tile (library_of c)) ≡ Some T
    → FailsAdding (glued_tileref tileref ∷ tables_behind cov c T.tables) e → Told (error_seen e) (glued_made cov c tileref)
fails cov c tileref T e at a =
    subst (Told (error_seen e)) (sym (is_made cov c tileref T at)) (made_fail (glued_tileref tileref ∷ tables_behind cov c T.tables) e a)

-- the table of tiles isn't added
pub tiles_fail : (cov : List ℕ) (c : CoverageTables) (tileref : Grid) (T : TileTables) (e : AddError) → tile_at c (first_tile (library_of c)) ≡ Some T
    → FailsAdding (glued_tileref tileref ∷ []) e → Told (error_seen e) (glued_made cov c tileref)
tiles_fail cov c tileref T e at a = fails cov c tileref T e at (first_fails (glued_tileref tileref) (tables_behind cov c T.tables) e a)

-- it is, and some of the others aren't
pub others_fail : (cov : List ℕ) (c : CoverageTables) (tileref : Grid) (T : TileTables) (by : PrimitiveTables) (old mid : List File) (e : AddError)
    → tile_at c (first_tile (library_of c)) ≡ Some T → by ≡ glued_tables T.tables c → AreAdded (glued_tileref tileref ∷ []) old mid
    → FailsAdding (glued_coverage_tables cov by (plan_grid c)) e → Told (error_seen e) (glued_made cov c tileref)
others_fail cov c tileref T by old mid e at same a b =
    fails cov c tileref T e at (next_fails (glued_tileref tileref) (tables_behind cov c T.tables) old mid e a
    (subst (λ (t : PrimitiveTables). FailsAdding (glued_coverage_tables cov t (plan_grid c)) e) same b))

-- all are
pub all_added : (cov : List ℕ) (c : CoverageTables) (tileref : Grid) (T : TileTables) (by : PrimitiveTables) (old mid new : List File)
    → tile_at c (first_tile (library_of c)) ≡ Some T → by ≡ glued_tables T.tables c → old ≡ [] → AreAdded (glued_tileref tileref ∷ []) old mid
    → AreAdded (glued_coverage_tables cov by (plan_grid c)) mid new → glued_made cov c tileref ≡ Ok new
all_added cov c tileref T by old mid new at same empty a b =
    is_made cov c tileref T at
    ∙ made_are (glued_tileref tileref ∷ tables_behind cov c T.tables) new
    (subst (λ (fs : List File). AreAdded (glued_tileref tileref ∷ tables_behind cov c T.tables) fs new) empty
    (added_then (glued_tileref tileref ∷ []) (tables_behind cov c T.tables) old mid new a (subst (λ (t : PrimitiveTables). AreAdded (glued_coverage_tables cov t (plan_grid c)) mid new) same b)))
