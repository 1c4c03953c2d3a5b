-- The names of the files of tables: those of one table differ in the last letter, those of two before it.
use Rattle.std.proofs.Common.{[], ◌≡◌, ◌≢◌, ◌<◌, ℕ, List, ◌∷◌, ◌++◌, get_or, Option, None, Some, refl, sym, ap, ◌∙◌, append_assoc}
use Rattle.std.specs.Prelude.{IsUtf8, codes}
use Rattle.std.specs.Char.{IsScalar}
use Rattle.std.specs.List.{AllByRecursion}
use Rattle.std.proofs.lemmas.Str.{encode_ascii}
use Rattle.vpf_source.specs.declared.file.File.{File}
use Rattle.vpf_source.specs.Names.Indexes.{without_last}
use Rattle.vpf_source.specs.Inner.Names.LetterLaws.{last_dropped}
use Rattle.vpf_table.specs.Canonical.{canonical_index}
use Rattle.vpf_table.specs.Grid.{Grid}
use Rattle.vpf_write.specs.Made.Files.{index_files}
use Rattle.vpf_library_files.specs.Loading.Loading.{within}
use Rattle.vpf_library_files.specs.TableFiles.Adding.{NamedTable, files_made, files_of_table, table_within}
use Rattle.vpf_tiler.specs.Inner.TiledFiles.StemLaws.{cut_ends, within_utf8, within_is}
use Rattle.vpf_tiler.specs.Inner.TiledFiles.TileLaws.{ascii, last_behind}
use Rattle.vpf_tiler.specs.Inner.TiledFiles.PairLaws.{Apart, all_weaker, apart_both}
use Rattle.vpf_base.proofs.Lists.{all_joined as all_both}

-- files of two names
abbrev pub OtherFile : File → File → Type 0
OtherFile a b = a.name ≢ b.name

-- the name of a file is a stem and one letter
pub record IsOfStem (stem : List ℕ) (file : File) : Type 0 where
  pub letter : ℕ
  pub is : file.name ≡ stem ++ letter ∷ []

-- the name of a table ends with a letter that isn't that of its index
pub record HasLetter (table : NamedTable) : Type 0 where
  pub letter : ℕ
  pub is : table.name ≡ without_last table.name ++ letter ∷ []
  pub other : letter ≢ 120

-- tables whose names differ before their last letters
abbrev pub OtherStem : NamedTable → NamedTable → Type 0
OtherStem a b = without_last a.name ≢ without_last b.name

stems_apart : (s t : List ℕ) (a b : File) → s ≢ t → IsOfStem s a → IsOfStem t b → OtherFile a b
stems_apart s t a b ne p q e = ne (cut_ends s t (p.letter ∷ []) (q.letter ∷ []) refl (sym p.is ∙ e ∙ q.is)).0

pub files_of_stem : (table : NamedTable) → HasLetter table → AllByRecursion (IsOfStem (without_last table.name)) (files_of_table table)
files_of_stem table h = (record { letter = h.letter; is = h.is }, by (canonical_index table.grid))
  where
    by : (index : Option (List ℕ)) → AllByRecursion (IsOfStem (without_last table.name)) (index_files table.name index)
    by None = tt
    by (Some bytes) = (record { letter = 120; is = refl }, tt)

files_apart : (table : NamedTable) → HasLetter table → Apart OtherFile (files_of_table table)
files_apart table h = by (canonical_index table.grid)
  where
    by : (index : Option (List ℕ)) → AllByRecursion (λ (file : File). table.name ≢ file.name) (index_files table.name index)
        × Apart OtherFile (index_files table.name index)
    by None = (tt, tt)
    by (Some bytes) = (
      (
        λ e. let stem = without_last table.name in
            let cut = cut_ends stem stem (h.letter ∷ []) (codes "x") refl (sym h.is ∙ e) in
            h.other (ap (λ (x : List ℕ). get_or x 0 0) cut.1),
        tt,
      ),
      (tt, tt),
    )

-- a file is apart from those of tables of other stems
file_apart : (table : NamedTable) (file : File) → IsOfStem (without_last table.name) file → (tables : List NamedTable) → AllByRecursion HasLetter tables
    → AllByRecursion (OtherStem table) tables → AllByRecursion (OtherFile file) (files_made tables)
file_apart table file s [] letters apart = tt
file_apart table file s (other ∷ tables) letters apart =
    all_both (OtherFile file) (files_of_table other) (files_made tables)
    (all_weaker (IsOfStem (without_last other.name)) (OtherFile file)
    (λ b q. stems_apart (without_last table.name) (without_last other.name) file b apart.0 s q) (files_of_table other) (files_of_stem other letters.0))
    (file_apart table file s tables letters.1 apart.1)

-- so no two files of tables of other stems have one name
pub made_apart : (tables : List NamedTable) → AllByRecursion HasLetter tables → Apart OtherStem tables → Apart OtherFile (files_made tables)
made_apart [] letters apart = tt
made_apart (table ∷ tables) letters apart =
    apart_both OtherFile (files_of_table table) (files_made tables) (files_apart table letters.0) (made_apart tables letters.1 apart.1)
    (all_weaker (IsOfStem (without_last table.name)) (λ file. AllByRecursion (OtherFile file) (files_made tables))
    (λ file s. file_apart table file s tables letters.1 apart.0) (files_of_table table) (files_of_stem table letters.0))

-- the name of a table in a folder is three letters, the first of them not that of the table of tiles
pub record IsInFolder (folder : List ℕ) (table : NamedTable) : Type 0 where
  pub first : ℕ
  pub second : ℕ
  pub stem : without_last table.name ≡ within folder [] ++ first ∷ second ∷ []
  pub inner : first ≢ 97
  pub letter : HasLetter table

-- what stands before the last letter
pub stem_of_three : (folder : List ℕ) (a b c : ℕ) → IsUtf8 folder → a < 128 → b < 128 → c < 128 → IsScalar c
    → without_last (within folder (a ∷ b ∷ c ∷ [])) ≡ within folder [] ++ a ∷ b ∷ []
stem_of_three folder a b c u h k l s =
    let behind : within folder (a ∷ b ∷ c ∷ []) ≡ within folder (a ∷ b ∷ []) ++ c ∷ [] = last_behind folder (a ∷ b ∷ []) c in
    ap without_last (behind ∙ ap (λ (x : List ℕ). within folder (a ∷ b ∷ []) ++ x) (sym (encode_ascii c l)))
    ∙ last_dropped (within folder (a ∷ b ∷ [])) c (within_utf8 folder (a ∷ b ∷ []) u (ascii a b h k)) s ∙ within_is folder (a ∷ b ∷ [])

pub three_in_folder : (folder : List ℕ) (a b c : ℕ) (g : Grid) → IsUtf8 folder → a < 128 → b < 128 → c < 128 → IsScalar c → a ≢ 97 → c ≢ 120
    → IsInFolder folder (table_within folder (a ∷ b ∷ c ∷ []) g)
three_in_folder folder a b c g u h k l s inner other =
    let stem = stem_of_three folder a b c u h k l s in
    record {
      first = a;
      second = b;
      stem = stem;
      inner = inner;
      letter = record {
        letter = c;
        is = within_is folder (a ∷ b ∷ c ∷ []) ∙ sym (append_assoc (within folder []) (a ∷ b ∷ []) (c ∷ []))
            ∙ ap (λ (x : List ℕ). x ++ c ∷ []) (sym stem);
        other = other;
      };
    }

-- tables whose letters differ are apart
pub letters_apart : (s t : List ℕ) (a b d e : ℕ) (x y : NamedTable) → without_last x.name ≡ s ++ a ∷ b ∷ [] → without_last y.name ≡ t ++ d ∷ e ∷ []
    → (s ≡ t → a ≡ d → b ≡ e → ⊥) → OtherStem x y
letters_apart s t a b d e x y is there apart same =
    let cut = cut_ends s t (a ∷ b ∷ []) (d ∷ e ∷ []) refl (sym is ∙ same ∙ there) in
    apart cut.0 (ap (λ (z : List ℕ). get_or z 0 0) cut.1) (ap (λ (z : List ℕ). get_or z 1 0) cut.1)
