-- The files of a folder are opened as its tables.
use Rattle.std.proofs.Common.{[], ◌≡◌, ℕ, ◌+◌, true, false, inl, inr, List, ◌∷◌, ◌++◌, length, Option, Some, None, Ok, refl, ap, sym, subst, ◌∙◌, append_assoc, arith, length-append}
use Rattle.std.specs.Prelude.{codes}
use Rattle.vpf_source.specs.declared.file.File.{File}
use Rattle.vpf_source.specs.Names.Indexes.{index_name}
use Rattle.vpf_table.specs.Grid.{Grid}
use Rattle.vpf_table.specs.Opening.{opened_of}
use Rattle.vpf_table.specs.Spans.{IsOpened}
use Rattle.vpf_prims.specs.Coverages.{CoverageTables}
use Rattle.vpf_prims.specs.Reading.{PrimitiveTables}
use Rattle.vpf_prims.specs.Tables.{files_of_grid}
use Rattle.vpf_library_files.specs.Loading.Loading.{tileref_name, within}
use Rattle.vpf_library_files.specs.Loading.Holding.{AreFilesOf, AreFilesOfOption, AreTileFiles, AreTiledFiles}
use Rattle.vpf_coverage.specs.Inner.Opening.Opens.{Opens, OpensEnd, OpensTables, OpensFolder, is_first_file, files_of_option, files_of_tables}
use Rattle.vpf_coverage.proofs.opening.NameLemmas.{same_name}
use Rattle.vpf_coverage.specs.Inner.Opening.OpenLaws.{OpenedReads}

-- what is spelled as a table is opened as that table
abbrev pub SpelledOpens : Type 0
SpelledOpens = (bytes : List ℕ) (index : Option (List ℕ)) (g : Grid) → IsOpened g bytes index → opened_of bytes index ≡ Ok g

-- the files of one table, and those that follow them
pub table_opens : SpelledOpens → OpenedReads → (name : List ℕ) (grid : Grid) (mine rest : List File) → AreFilesOf name grid mine → Opens grid rest (mine ++ rest)
table_opens spelled read name grid mine rest (inl plain) =
    inl (record { file = record { name = name; bytes = plain.bytes }; are = rw plain.are refl; read = spelled plain.bytes None grid plain.opened; one_length = plain.one_length })
table_opens spelled read name grid mine rest (inr indexed) =
    let opened = spelled indexed.bytes (Some indexed.index) grid indexed.opened in
    inr (record { file = record { name = name; bytes = indexed.bytes }; index = record { name = index_name name; bytes = indexed.index }; are = rw indexed.are refl; read = read indexed.bytes (Some indexed.index) grid opened; opened = opened; varies = indexed.varies })

-- the files of a tiled coverage begin with its table of tiles
pub tileref_opens : SpelledOpens → OpenedReads → (lib cov : List ℕ) (c : CoverageTables) (files : List File) (are : AreTiledFiles lib cov c files)
    → Opens are.tileref are.behind files
tileref_opens spelled read lib cov c files are =
    subst (λ (f : List File). Opens are.tileref are.behind f) (sym are.are)
    (table_opens spelled read (tileref_name lib) are.tileref are.before are.behind are.tileref_is)

-- the first of them has the name of the table
pub record Begins (name : List ℕ) (files : List File) : Type 0 where
  pub file : File
  pub others : List File
  pub are : files ≡ file ∷ others
  pub named : file.name ≡ name

pub table_begins : (name : List ℕ) (grid : Grid) (mine : List File) → AreFilesOf name grid mine → Begins name mine
table_begins name grid mine (inl plain) = record { file = record { name = name; bytes = plain.bytes }; others = []; are = plain.are; named = refl }
table_begins name grid mine (inr indexed) =
    record { file = record { name = name; bytes = indexed.bytes }; others = record { name = index_name name; bytes = indexed.index } ∷ []; are = indexed.are; named = refl }

pub begins_before : (name : List ℕ) (mine rest : List File) → Begins name mine → Begins name (mine ++ rest)
begins_before name mine rest h = record { file = h.file; others = h.others ++ rest; are = ap (λ (m : List File). m ++ rest) h.are; named = h.named }

pub begins_first : (name : List ℕ) (files : List File) → Begins name files → is_first_file name files ≡ true
begins_first name files h = rw (h.are, h.named) (same_name name)

-- so many files are a table
pub table_counted : (name : List ℕ) (grid : Grid) (mine : List File) → AreFilesOf name grid mine → length mine ≡ files_of_grid grid
table_counted name grid mine (inl plain) = rw (plain.are, plain.one_length) refl
table_counted name grid mine (inr indexed) = rw (indexed.are, indexed.varies) refl

option_counted : (name : List ℕ) (grid : Option Grid) (mine : List File) → AreFilesOfOption name grid mine → length mine ≡ files_of_option grid
option_counted name None mine are = rw are refl
option_counted name (Some grid) mine are = table_counted name grid mine are

five_counted : (a b c d e : List File) (k l m n o : ℕ) → length a ≡ k → length b ≡ l → length c ≡ m → length d ≡ n → length e ≡ o
    → length (a ++ (b ++ (c ++ (d ++ e)))) ≡ k + (l + (m + (n + o)))
five_counted a b c d e k l m n o p q r s t =
    omega (arith, length-append a (b ++ (c ++ (d ++ e))), length-append b (c ++ (d ++ e)), length-append c (d ++ e), length-append d e)

-- so many are the tables of a folder
pub tables_counted : (folder : List ℕ) (tables : PrimitiveTables) (files : List File) → AreTileFiles folder tables files → length files ≡ files_of_tables tables
tables_counted folder tables files h =
    ap length h.are
    ∙ five_counted h.edg h.fac h.rng h.cnd h.end _ _ _ _ _
    (table_counted _ tables.edg h.edg h.edg_is) (table_counted _ tables.fac h.fac h.fac_is) (table_counted _ tables.rng h.rng h.rng_is)
    (table_counted _ tables.cnd h.cnd h.cnd_is) (option_counted _ tables.end h.end h.end_is)

end_opens : SpelledOpens → OpenedReads → (folder : List ℕ) (end : Option Grid) (mine rest : List File)
    → AreFilesOfOption (within folder (codes "end")) end mine → is_first_file (within folder (codes "end")) rest ≡ false → OpensEnd folder end rest (mine ++ rest)
end_opens spelled read folder None mine rest are other = rw are (other, refl)
end_opens spelled read folder (Some grid) mine rest are other =
    let name = within folder (codes "end") in
    (begins_first name (mine ++ rest) (begins_before name mine rest (table_begins name grid mine are)), table_opens spelled read name grid mine rest are)

regrouped : (a b c d e rest : List File) → (a ++ (b ++ (c ++ (d ++ e)))) ++ rest ≡ a ++ (b ++ (c ++ (d ++ (e ++ rest))))
regrouped a b c d e rest = simp append_assoc

-- the files of a folder, where others follow that aren't its entity nodes
pub tables_open : SpelledOpens → OpenedReads → (folder : List ℕ) (tables : PrimitiveTables) (files rest : List File)
    → AreTileFiles folder tables files → is_first_file (within folder (codes "end")) rest ≡ false → OpensTables folder tables rest (files ++ rest)
tables_open spelled read folder tables files rest h other =
    let end_on = h.end ++ rest in
    let cnd_on = h.cnd ++ end_on in
    let rng_on = h.rng ++ cnd_on in
    let fac_on = h.fac ++ rng_on in
    let all : h.edg ++ fac_on ≡ files ++ rest = sym (ap (λ (f : List File). f ++ rest) h.are ∙ regrouped h.edg h.fac h.rng h.cnd h.end rest) in
    record {
      fac_on = fac_on;
      rng_on = rng_on;
      cnd_on = cnd_on;
      end_on = end_on;
      edg = subst (Opens tables.edg fac_on) all (table_opens spelled read _ tables.edg h.edg fac_on h.edg_is);
      fac = table_opens spelled read _ tables.fac h.fac rng_on h.fac_is;
      rng = table_opens spelled read _ tables.rng h.rng cnd_on h.rng_is;
      cnd = table_opens spelled read _ tables.cnd h.cnd end_on h.cnd_is;
      end = end_opens spelled read folder tables.end h.end rest h.end_is other;
    }

-- the first of them has the name of the edges
pub tables_begin : (folder : List ℕ) (tables : PrimitiveTables) (files : List File) → AreTileFiles folder tables files → Begins (within folder (codes "edg")) files
tables_begin folder tables files h =
    let name = within folder (codes "edg") in
    subst (Begins name) (sym h.are) (begins_before name h.edg _ (table_begins name tables.edg h.edg h.edg_is))

pub folder_opens : SpelledOpens → OpenedReads → (folder : List ℕ) (tables : PrimitiveTables) (files rest : List File)
    → AreTileFiles folder tables files → is_first_file (within folder (codes "end")) rest ≡ false → OpensFolder folder (Some tables) rest (files ++ rest)
folder_opens spelled read folder tables files rest h other =
    let name = within folder (codes "edg") in
    (begins_first name (files ++ rest) (begins_before name files rest (tables_begin folder tables files h)), tables_open spelled read folder tables files rest h other)
