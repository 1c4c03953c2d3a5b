-- No file of a tiled library that is made is a schema table: none ends with its last letter.
use Rattle.std.proofs.Common.{[], ◌≡◌, ◌≢◌, ◌∙◌, ℕ, Bool, true, false, cond, List, ◌∷◌, ◌++◌, Option, None, Some, length, sym, refl, ap, arith}
use Rattle.std.specs.Prelude.{codes, nat_eq}
use Rattle.std.specs.List.{AllByRecursion, ends_with}
use Rattle.vpf_source.specs.declared.file.File.{File}
use Rattle.vpf_source.specs.Names.Indexes.{index_name, without_last}
use Rattle.vpf_source.specs.Names.Naming.{slash}
use Rattle.vpf_table.specs.Canonical.{canonical_index}
use Rattle.vpf_table.specs.Grid.{Grid}
use Rattle.vpf_prims.specs.Lists.{kth}
use Rattle.vpf_prims.specs.Primitives.{Primitives}
use Rattle.vpf_prims.specs.Reading.{PrimitiveTables}
use Rattle.vpf_library_files.specs.Tileref.Stops.{path_texts}
use Rattle.vpf_tiling.specs.Ranks.{up_to}
use Rattle.vpf_tiling.specs.Tiles.{is_made}
use Rattle.vpf_write.specs.Made.Files.{index_files}
use Rattle.vpf_library_files.specs.Loading.Loading.{within}
use Rattle.vpf_library_files.specs.TableFiles.Adding.{NamedTable, files_made, files_of_table}
use Rattle.vpf_tiler.specs.TileFiles.Tables.{entity_tables, library_tables, tables_if_made, tile_tables}
use Rattle.vpf_feature_files.specs.Reading.{schema_name}
use Rattle.vpf_tiler.specs.Inner.TiledFiles.AbsentLaws.{IsOtherName as IsOther}
use Rattle.vpf_tiler.specs.Inner.TiledFiles.StemLaws.{within_within}
use Rattle.vpf_tiler.specs.Inner.TiledFiles.PairLaws.{all_of_lists, all_weaker}
use Rattle.vpf_base.proofs.Lists.{all_joined as all_both}
use Rattle.vpf_tiler.specs.Inner.TiledFeatures.Laws.{NoSchemaTableIsMade}

-- ---- the last letters of names

-- the last byte of a name, 0 where there is none
abbrev last_of : List ℕ → ℕ
last_of [] = 0
last_of (x ∷ []) = x
last_of (x ∷ y ∷ ys) = last_of (y ∷ ys)

last_append : (xs : List ℕ) (y : ℕ) (ys : List ℕ) → last_of (xs ++ y ∷ ys) ≡ last_of (y ∷ ys)
last_append [] y ys = refl
last_append (x ∷ []) y ys = refl
last_append (x ∷ z ∷ zs) y ys = last_append (z ∷ zs) y ys

last_within : (folder : List ℕ) (y : ℕ) (ys : List ℕ) → last_of (within folder (y ∷ ys)) ≡ last_of (y ∷ ys)
last_within folder y ys = by (ends_with nat_eq folder (slash ∷ []))
  where
    by : (c : Bool) → last_of (cond c (folder ++ y ∷ ys) (folder ++ slash ∷ y ∷ ys)) ≡ last_of (y ∷ ys)
    by true = last_append folder y ys
    by false = last_append folder slash (y ∷ ys)

-- the name doesn't end with the last letter of `fcs`
abbrev EndsOtherwise : List ℕ → Type 0
EndsOtherwise name = last_of name ≢ 115

three_end : (folder : List ℕ) (a b c : ℕ) → c ≢ 115 → EndsOtherwise (within folder (a ∷ b ∷ c ∷ []))
three_end folder a b c ne e = ne (sym (last_within folder a (b ∷ c ∷ [])) ∙ e)

-- nor does that of an index
index_ends : (name : List ℕ) → EndsOtherwise (index_name name)
index_ends name e = let x : last_of (index_name name) ≡ 120 = last_append (without_last name) 120 [] in omega (arith, x, e)

-- ---- the tables of a library

abbrev TableEnds : NamedTable → Type 0
TableEnds table = EndsOtherwise table.name

end_tables : (folder : List ℕ) (end : Option Grid) (c : Primitives) (plan : ℕ → ℕ) (t : ℕ) → AllByRecursion TableEnds (entity_tables folder end c plan t)
end_tables folder None c plan t = tt
end_tables folder (Some grid) c plan t = (three_end folder 101 110 100 (λ e. omega (arith, e)), tt)

tables_end : (folder : List ℕ) (T : PrimitiveTables) (c : Primitives) (plan : ℕ → ℕ) (t : ℕ) → AllByRecursion TableEnds (tile_tables folder T c plan t)
tables_end folder T c plan t = (
  three_end folder 101 100 103 (λ e. omega (arith, e)),
  (
    three_end folder 102 97 99 (λ e. omega (arith, e)),
    (three_end folder 114 110 103 (λ e. omega (arith, e)), (three_end folder 99 110 100 (λ e. omega (arith, e)), end_tables folder T.end c plan t)),
  ),
)

if_made : (made : Bool) (tables : List NamedTable) → AllByRecursion TableEnds tables → AllByRecursion TableEnds (cond made tables [])
if_made true tables h = h
if_made false tables h = tt

library_ends : (cov : List ℕ) (T : PrimitiveTables) (c : Primitives) (plan : ℕ → ℕ) (tileref : Grid)
    → AllByRecursion TableEnds (library_tables cov T c plan tileref)
library_ends cov T c plan tileref =
    let paths = path_texts tileref in
    let tiles = length tileref.rows in (
      λ e. omega (arith, e),
      all_of_lists TableEnds (tables_if_made cov paths T c plan tiles)
          (λ t. if_made (is_made c plan tiles t) (tile_tables (within cov (kth paths t [])) T c plan t)
          (tables_end (within cov (kth paths t [])) T c plan t)) (up_to tiles),
    )

-- ---- their files

abbrev FileEnds : File → Type 0
FileEnds file = EndsOtherwise file.name

index_files_end : (name : List ℕ) (index : Option (List ℕ)) → AllByRecursion FileEnds (index_files name index)
index_files_end name None = tt
index_files_end name (Some bytes) = (index_ends name, tt)

files_end : (tables : List NamedTable) → AllByRecursion TableEnds tables → AllByRecursion FileEnds (files_made tables)
files_end [] h = tt
files_end (table ∷ tables) h =
    all_both FileEnds (files_of_table table) (files_made tables) (h.0, index_files_end table.name (canonical_index table.grid)) (files_end tables h.1)

-- none of them is a schema table
other_name : (cov : List ℕ) (file : File) → FileEnds file → IsOther (schema_name cov) file
other_name cov file ends e = ends (ap last_of e ∙ last_within cov 102 (99 ∷ 115 ∷ []))

pub no_schema_table : NoSchemaTableIsMade
no_schema_table held folder cov T c plan tileref named exactly =
    let tables = library_tables cov T c plan tileref in
    ap held (sym (within_within folder cov (codes "fcs") named))
    ∙ exactly.others (schema_name cov) (all_weaker FileEnds (IsOther (schema_name cov)) (other_name cov) (files_made tables)
    (files_end tables (library_ends cov T c plan tileref)))
