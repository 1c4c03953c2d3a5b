-- The files of tables within a folder, as they are read there.
use Rattle.std.proofs.Common.{[], ◌≡◌, ℕ, ◌+◌, ◌≤◌, List, ◌∷◌, ◌++◌, length, map, Option, Some, None, refl, sym, ap, subst}
use Rattle.std.specs.List.{AllByRecursion, flat_map}
use Rattle.vpf_base.specs.Limits.{most_bytes}
use Rattle.vpf_source.specs.Files.{Files}
use Rattle.vpf_source.specs.declared.file.File.{File}
use Rattle.vpf_table.specs.Canonical.{IsWritable}
use Rattle.vpf_table.specs.Grid.{Grid}
use Rattle.vpf_write.specs.Writing.{first_limit}
use Rattle.vpf_write.specs.Made.Files.{index_files, table_files}
use Rattle.vpf_library_files.specs.Loading.Holding.{AreHeld, bytes_in}
use Rattle.vpf_library_files.specs.Loading.Loading.{loaded_file, within}
use Rattle.vpf_library_files.specs.TableFiles.Adding.{NamedTable, files_made, files_of_table}
use Rattle.vpf_tiler.specs.Inner.TiledFiles.WrittenLaws.{Indexed, Plain, OpensWritten as Opens, table_fits}
use Rattle.vpf_base.proofs.Lists.{all_joined as all_both}

pub all_front : {X : Type 0} (P : X → Type 0) (xs ys : List X) → AllByRecursion P (xs ++ ys) → AllByRecursion P xs
all_front P [] ys h = tt
all_front P (x ∷ xs) ys h = (h.0, all_front P xs ys h.1)

pub all_behind : {X : Type 0} (P : X → Type 0) (xs ys : List X) → AllByRecursion P (xs ++ ys) → AllByRecursion P ys
all_behind P [] ys h = h
all_behind P (x ∷ xs) ys h = all_behind P xs ys h.1

pub all_of_each : {X Y : Type 0} (P : X → Type 0) (Q : Y → Type 0) (f : X → List Y) → ((x : X) → P x → AllByRecursion Q (f x)) → (xs : List X)
    → AllByRecursion P xs → AllByRecursion Q (flat_map f xs)
all_of_each P Q f each [] h = tt
all_of_each P Q f each (x ∷ xs) h = all_both Q (f x) (flat_map f xs) (each x h.0) (all_of_each P Q f each xs h.1)

-- a table that can be written and passes no limit
abbrev pub TableCanBeRead : NamedTable → Type 0
TableCanBeRead table = IsWritable table.grid × (first_limit table.grid ≡ None)

-- a made file as it is read: under its name within the folder
abbrev pub moved : List ℕ → File → File
moved out file = loaded_file (within out file.name) file.bytes

-- a file that is no larger than one may be
abbrev pub IsSmallFile : File → Type 0
IsSmallFile file = length file.bytes ≤ most_bytes

files_small : (name : List ℕ) (g : Grid) → Opens g → first_limit g ≡ None → AllByRecursion IsSmallFile (table_files name g)
files_small name g (Plain one none opened) fits =
    (table_fits g fits, subst (λ (o : Option (List ℕ)). AllByRecursion IsSmallFile (index_files name o)) (sym none) tt)
files_small name g (Indexed index varies some opened few) fits =
    (table_fits g fits, subst (λ (o : Option (List ℕ)). AllByRecursion IsSmallFile (index_files name o)) (sym some) (few, tt))

pub all_small : ((g : Grid) → IsWritable g → first_limit g ≡ None → Opens g) → (tables : List NamedTable) → AllByRecursion TableCanBeRead tables
    → AllByRecursion IsSmallFile (files_made tables)
all_small opens tables h =
    all_of_each TableCanBeRead IsSmallFile files_of_table (λ table r. files_small table.name table.grid (opens table.grid r.0 r.1) r.1) tables h

-- files that are there within the folder are held
pub files_held : (held : Files) (out : List ℕ) (files : List File) → AllByRecursion (λ (file : File). held (within out file.name) ≡ Some file.bytes) files
    → AllByRecursion IsSmallFile files → AreHeld held (map (moved out) files)
files_held held out [] h k = tt
files_held held out (file ∷ files) h k = (h.0, k.0, files_held held out files h.1 k.1)

pub bytes_moved : (out : List ℕ) (files : List File) → bytes_in (map (moved out) files) ≡ bytes_in files
bytes_moved out [] = refl
bytes_moved out (file ∷ files) = ap (λ (n : ℕ). length file.bytes + n) (bytes_moved out files)
