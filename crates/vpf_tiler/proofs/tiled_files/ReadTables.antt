-- The files of tables within a folder, as they are read there.
use Rattle.std.proofs.Common.{[], ◌≡◌, ℕ, List, ◌∷◌, ◌++◌, map, Option, Some, None, refl, ap, ◌∙◌, inl, inr}
use Rattle.std.specs.List.{AllByRecursion}
use Rattle.std.proofs.lemmas.List.{map-append}
use Rattle.std.proofs.lemmas.List.Concat.{flat_map-append}
use Rattle.vpf_source.specs.declared.file.File.{File}
use Rattle.vpf_triplet.specs.declared.places.Part.{Part}
use Rattle.vpf_source.specs.Names.Indexes.{index_name}
use Rattle.vpf_table.specs.declared.limit.Limit.{Limit as Passed}
use Rattle.vpf_table.specs.Canonical.{IsWritable, canonical_table}
use Rattle.vpf_table.specs.Grid.{Grid}
use Rattle.vpf_findings.specs.Firsts.{◌or◌}
use Rattle.vpf_write.specs.Writing.{first_limit}
use Rattle.vpf_write.specs.Made.Files.{index_files, table_files}
use Rattle.vpf_library_files.specs.Loading.Holding.{AreFilesOf}
use Rattle.vpf_library_files.specs.Loading.Loading.{loaded_file, within}
use Rattle.vpf_library_files.specs.TableFiles.Adding.{NamedTable, files_made, files_of_table, first_limit_of, named_limit}
use Rattle.vpf_tiler.specs.Inner.TiledFiles.WrittenLaws.{Indexed, Plain}
use Rattle.vpf_tiler.specs.Inner.TiledFiles.WrittenLaws.{OpensWritten as Opens}
use Rattle.vpf_tiler.specs.Inner.TiledFiles.TableLaws.{moved, TableCanBeRead as CanBeRead}

-- ---- what holds of each of some things

-- ---- tables that can be read again

neither_limit : (name : List ℕ) (stop : Option (Part × Passed)) (later : Option (List ℕ × Passed)) → (named_limit name stop or later) ≡ None
    → (stop ≡ None) × (later ≡ None)
neither_limit name None later e = (refl, e)
neither_limit name (Some stop) later e = absurd cc

-- so are tables none of which passes one
pub can_be_read : (tables : List NamedTable) → AllByRecursion (λ (table : NamedTable). IsWritable table.grid) tables → first_limit_of tables ≡ None
    → AllByRecursion CanBeRead tables
can_be_read [] w none = tt
can_be_read (table ∷ tables) w none =
    let e = neither_limit table.name (first_limit table.grid) (first_limit_of tables) none in
    ((w.0, e.0), can_be_read tables w.1 e.1)

-- ---- files within a folder

-- the files of tables as they are read
abbrev pub read_files : List ℕ → List NamedTable → List File
read_files out tables = map (moved out) (files_made tables)

pub read_both : (out : List ℕ) (a b : List NamedTable) → read_files out (a ++ b) ≡ read_files out a ++ read_files out b
read_both out a b = ap (map (moved out)) (flat_map-append files_of_table a b) ∙ map-append (moved out) (files_made a) (files_made b)

-- the files of a table are that table, where its index has the name that is asked for
pub table_read : (out name asked : List ℕ) (g : Grid) → Opens g → within out name ≡ asked → within out (index_name name) ≡ index_name asked
    → AreFilesOf asked g (map (moved out) (table_files name g))
table_read out name asked g (Plain one none opened) here there =
    inl (record {
      bytes = canonical_table g;
      are = ap (λ (o : Option (List ℕ)). map (moved out) (loaded_file name (canonical_table g) ∷ index_files name o)) none
          ∙ ap (λ (n : List ℕ). loaded_file n (canonical_table g) ∷ []) here;
      opened = opened;
      one_length = one;
    })
table_read out name asked g (Indexed index varies some opened few) here there =
    inr (record {
      bytes = canonical_table g;
      index = index;
      are = ap (λ (o : Option (List ℕ)). map (moved out) (loaded_file name (canonical_table g) ∷ index_files name o)) some
          ∙ ap (λ (n : List ℕ). loaded_file n (canonical_table g) ∷ loaded_file (within out (index_name name)) index ∷ []) here
          ∙ ap (λ (n : List ℕ). loaded_file asked (canonical_table g) ∷ loaded_file n index ∷ []) there;
      opened = opened;
      varies = varies;
    })

-- ---- how long they are

-- those of the first of some tables stand first
pub first_read : (out : List ℕ) (table : NamedTable) (tables : List NamedTable)
    → read_files out (table ∷ tables) ≡ map (moved out) (files_of_table table) ++ read_files out tables
first_read out table tables = map-append (moved out) (files_of_table table) (files_made tables)
