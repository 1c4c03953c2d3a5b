-- Files of indexes and of feature tables, one by one.
use Rattle.std.proofs.Common.{◌≡◌, ◌∙◌, ◌<◌, ◌+◌, ℕ, zero, suc, Option, List, [], ◌∷◌, ◌++◌, length, take, get_or, map, ap, sym, refl, arith, add-one}
use Rattle.std.proofs.Math.Seq.{take-length}
use Rattle.std.proofs.lemmas.List.{map-append}
use Rattle.vpf_source.specs.declared.file.File.{File}
use Rattle.vpf_table.specs.Grid.{Grid}
use Rattle.vpf_base.specs.declared.orders.Order.{Order}
use Rattle.vpf_feature_files.specs.Inner.Held.{AreIndexFiles, AreTableFiles, AreTablesFiles, IsIndexFileOption}
use Rattle.vpf_feature_files.specs.Schemas.{FeatureTable, Index}
use Rattle.vpf_feature_files.specs.declared.files.TableFiles.{TableFiles}

-- the index of the file at a place
pub index_here : (order : Order) (i : ℕ) (indexes : List (Option Index)) (files : List (Option File)) (file d : Option File) → AreIndexFiles order indexes files → i < length files → file ≡ get_or files i d
    → (index : Option Index) × IsIndexFileOption order index file × (take (suc i) indexes ≡ take i indexes ++ index ∷ [])
index_here order i [] [] file d h l e = absurd (omega arith)
index_here order i [] (other ∷ files) file d h l e = absurd h
index_here order i (index ∷ indexes) [] file d h l e = absurd h
index_here order zero (index ∷ indexes) (other ∷ files) file d h l e = (index, rw e h.0, refl)
index_here order (suc i) (index ∷ indexes) (other ∷ files) file d h l e =
    let r = index_here order i indexes files file d h.1 (omega arith) e in
    (r.0, r.1, ap (λ (xs : List (Option Index)). index ∷ xs) r.2)

-- as many indexes as files
indexes_length : (order : Order) (indexes : List (Option Index)) (files : List (Option File)) → AreIndexFiles order indexes files → length indexes ≡ length files
indexes_length order [] [] h = refl
indexes_length order [] (file ∷ files) h = absurd h
indexes_length order (index ∷ indexes) [] h = absurd h
indexes_length order (index ∷ indexes) (file ∷ files) h = ap suc (indexes_length order indexes files h.1)

pub indexes_whole : (order : Order) (n : ℕ) (indexes : List (Option Index)) (files : List (Option File)) → AreIndexFiles order indexes files → n ≡ length files
    → take n indexes ≡ indexes
indexes_whole order n indexes files h e =
    ap (λ (k : ℕ). take k indexes) (e ∙ sym (indexes_length order indexes files h)) ∙ take-length indexes

-- one more is opened
pub one_more : {V X : Type 0} (view : V → X) (i : ℕ) (vs more : List V) (v : V) (xs : List X) (x : X) → more ≡ vs ++ v ∷ [] → map view vs ≡ take i xs → view v ≡ x
    → take (suc i) xs ≡ take i xs ++ x ∷ [] → map view more ≡ take (i + 1) xs
one_more view i vs more v xs x pushed before is next =
    let plus : i + 1 ≡ suc i = simp add-one in
    rw (pushed, map-append view vs (v ∷ []), before, is) (sym (ap (λ (k : ℕ). take k xs) plus ∙ next))

-- the files of a table at a place
pub table_here : (folder : List ℕ) (i : ℕ) (tables : List FeatureTable) (files : List TableFiles) (file d : TableFiles) → AreTablesFiles folder tables files → i < length files → file ≡ get_or files i d
    → (table : FeatureTable) × AreTableFiles folder table file × (take (suc i) tables ≡ take i tables ++ table ∷ [])
table_here folder i [] [] file d h l e = absurd (omega arith)
table_here folder i [] (other ∷ files) file d h l e = absurd h
table_here folder i (table ∷ tables) [] file d h l e = absurd h
table_here folder zero (table ∷ tables) (other ∷ files) file d h l e = (table, rw e h.0, refl)
table_here folder (suc i) (table ∷ tables) (other ∷ files) file d h l e =
    let r = table_here folder i tables files file d h.1 (omega arith) e in
    (r.0, r.1, ap (λ (xs : List FeatureTable). table ∷ xs) r.2)

-- as many tables as there are files of tables
tables_length : (folder : List ℕ) (tables : List FeatureTable) (files : List TableFiles) → AreTablesFiles folder tables files → length tables ≡ length files
tables_length folder [] [] h = refl
tables_length folder [] (file ∷ files) h = absurd h
tables_length folder (table ∷ tables) [] h = absurd h
tables_length folder (table ∷ tables) (file ∷ files) h = ap suc (tables_length folder tables files h.1)

pub tables_whole : (folder : List ℕ) (n : ℕ) (tables : List FeatureTable) (files : List TableFiles) → AreTablesFiles folder tables files → n ≡ length files
    → take n tables ≡ tables
tables_whole folder n tables files h e =
    ap (λ (k : ℕ). take k tables) (e ∙ sym (tables_length folder tables files h)) ∙ take-length tables

-- a table of the same name, with the same cells and indexes
pub same_table : (table : FeatureTable) (name : List ℕ) (grid : Grid) (indexes : List (Option Index)) → name ≡ table.name → grid ≡ table.grid → indexes ≡ table.indexes
    → record { name = name; grid = grid; indexes = indexes } ≡ table
same_table table name grid indexes n g i = rw (n, g, i) refl
