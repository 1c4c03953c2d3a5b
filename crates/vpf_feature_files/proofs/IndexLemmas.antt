-- What reading the thematic indexes of columns comes to.
use Rattle.std.proofs.Common.{[], Vec, Global, ◌≡◌, ◌∙◌, ℕ, ◌+◌, ◌≤◌, List, ◌∷◌, ◌++◌, length, drop, Option, Some, Ok, sym, ap, subst}
use Rattle.std.specs.Prelude.{option_map, slice_get}
use Rattle.std.proofs.lemmas.List.{append-nil, drop_all, drop_more}
use Rattle.std.proofs.lemmas.Option.{get_or_from_slice_get, slice_get_within}
use Rattle.vpf_source.specs.Files.{Files}
use Rattle.vpf_source.specs.declared.file.File.{File}
use Rattle.vpf_base.specs.declared.orders.Order.{Order}
use Rattle.vpf_head.specs.Head.{Col}
use Rattle.vpf_theme.specs.Reading.{theme_of}
use Rattle.vpf_library_files.specs.declared.loading.loading.LoadStop.{LoadStop}
use Rattle.vpf_library_files.specs.Loading.Loading.{◌and_then◌, read_optional, within}
use Rattle.vpf_library_files.specs.Loading.Loads.{Comes, ReadsStop, ReadsValue}
use Rattle.vpf_feature_files.specs.Inner.Held.{AreIndexFiles, IsIndexFileOption}
use Rattle.vpf_feature_files.specs.Reading.{read_index, read_indexes, read_named_index, theme_graded}
use Rattle.vpf_feature_files.specs.Schemas.{Index}
use Rattle.vpf_feature_files.proofs.Steps.{behind, behind_both, behind_none, ends, found_is}
use Rattle.vpf_library_files.specs.Inner.Loading.StepLaws.{gives}

-- the index in the bytes that were found
pub index_comes : (told : Option Files) (folder file name : List ℕ) (order : Order) (found : Option (Vec ℕ Global)) (bytes : Vec ℕ Global) (n0 n1 : ℕ) (kept : File)
    → name ≡ within folder file → found ≡ Some bytes
    → ((held : Files) → told ≡ Some held
    → ReadsValue (λ (v : Option (Vec ℕ Global)) (f : Option (List ℕ)). f ≡ option_map (λ (x : Vec ℕ Global). x.items) v) found n1 (read_optional held name n0))
    → ReadsValue (λ (k : File) (index : Option Index). IsIndexFileOption order index (Some k)) kept n1 (theme_graded folder file (theme_of order bytes.items) n1)
    → Comes told (λ held. read_named_index held folder order (Some file) n0) (λ index. IsIndexFileOption order index (Some kept)) n1
index_comes told folder file name order found bytes n0 n1 kept named there read graded = record {
  value = graded.value;
  is = graded.is;
  comes = λ held t.
      let e : read_optional held name n0 ≡ (Ok (Some bytes.items), n1) =
      found_is found n1 (read_optional held name n0) (read held t) ∙ ap (λ (x : Option (Vec ℕ Global)). gives (option_map (λ (v : Vec ℕ Global). v.items) x) n1) there in
      let e2 : read_optional held (within folder file) n0 ≡ (Ok (Some bytes.items), n1) = ap (λ (x : List ℕ). read_optional held x n0) (sym named) ∙ e in
      rw e2 graded.comes;
}

-- ---- column by column

pub next_column : (columns : List Col) (i : ℕ) (column : Col) → slice_get columns i ≡ Some column → drop i columns ≡ column ∷ drop (i + 1) columns
next_column columns i column h =
    drop_more columns i column (slice_get_within columns i column h) ∙ ap (λ (x : Col). x ∷ drop (i + 1) columns) (get_or_from_slice_get columns i column column h)

-- the indexes of the columns before the rest were read
pub record IndexesRead (told : Option Files) (folder : List ℕ) (order : Order) (columns rest : List Col) (n0 n : ℕ) (files : List (Option File)) : Type 0 where
  pub done : List (Option Index)
  pub are : AreIndexFiles order done files
  pub remains : (held : Files) → told ≡ Some held → read_indexes held folder order columns n0 ≡ (read_indexes held folder order rest n and_then behind done)

pub none_read : (told : Option Files) (folder : List ℕ) (order : Order) (columns : List Col) (n : ℕ) → IndexesRead told folder order columns columns n n []
none_read told folder order columns n = record { done = []; are = tt; remains = λ held t. behind_none (read_indexes held folder order columns n) }

are_more : (folder : List ℕ) (order : Order) (done : List (Option Index)) (files : List (Option File)) (index : Option Index) (file : Option File)
    → AreIndexFiles order done files → IsIndexFileOption order index file → AreIndexFiles order (done ++ index ∷ []) (files ++ file ∷ [])
are_more folder order [] [] index file h is = (is, tt)
are_more folder order [] (f ∷ files) index file h is = absurd h
are_more folder order (i ∷ done) [] index file h is = absurd h
are_more folder order (i ∷ done) (f ∷ files) index file h is = (h.0, are_more folder order done files index file h.1 is)

pub one_more : (told now : Option Files) (folder : List ℕ) (order : Order) (columns rest : List Col) (column : Col) (n0 n m : ℕ) (files : List (Option File)) (file : Option File)
    → now ≡ told → IndexesRead told folder order columns (column ∷ rest) n0 n files
    → Comes now (λ held. read_index held folder order column n) (λ index. IsIndexFileOption order index file) m
    → IndexesRead told folder order columns rest n0 m (files ++ file ∷ [])
one_more told now folder order columns rest column n0 n m files file same a b = record {
  done = a.done ++ b.value ∷ [];
  are = are_more folder order a.done files b.value file a.are b.is;
  remains = λ held t.
      let first : read_index held folder order column n ≡ (Ok b.value, m) = b.comes held (same ∙ t) in
      a.remains held t ∙ rw first (behind_both a.done (b.value ∷ []) (read_indexes held folder order rest m));
}

pub indexes_stop : (told now : Option Files) (folder : List ℕ) (order : Order) (columns rest : List Col) (column : Col) (n0 n m : ℕ) (files : List (Option File)) (stop : LoadStop)
    → now ≡ told → IndexesRead told folder order columns (column ∷ rest) n0 n files
    → ((held : Files) → now ≡ Some held → ReadsStop stop m (read_index held folder order column n))
    → ((held : Files) → told ≡ Some held → ReadsStop stop m (read_indexes held folder order columns n0))
indexes_stop told now folder order columns rest column n0 n m files stop same a h held t =
    rw (a.remains held t) (ends (behind a.done) (read_indexes held folder order (column ∷ rest) n) m stop
    (ends (λ index k. read_indexes held folder order rest k and_then behind (index ∷ [])) (read_index held folder order column n) m stop (h held (same ∙ t))))

pub indexes_done : (told : Option Files) (folder : List ℕ) (order : Order) (columns : List Col) (i n0 n : ℕ) (files : List (Option File)) → length columns ≤ i
    → IndexesRead told folder order columns (drop i columns) n0 n files
    → Comes told (λ held. read_indexes held folder order columns n0) (λ indexes. AreIndexFiles order indexes files) n
indexes_done told folder order columns i n0 n files past a = record {
  value = a.done;
  is = a.are;
  comes = λ held t.
      let b : read_indexes held folder order columns n0 ≡ (read_indexes held folder order [] n and_then behind a.done) =
      a.remains held t ∙ ap (λ (x : List Col). read_indexes held folder order x n and_then behind a.done) (drop_all i columns past) in
      b ∙ ap (λ (x : List (Option Index)). gives x n) (append-nil a.done);
}

-- the same order
pub in_order : (now : Option Files) (folder : List ℕ) (order given : Order) (column : Col) (n m : ℕ) (file : Option File) → given ≡ order
    → Comes now (λ held. read_index held folder given column n) (λ index. IsIndexFileOption given index file) m
    → Comes now (λ held. read_index held folder order column n) (λ index. IsIndexFileOption order index file) m
in_order now folder order given column n m file e h =
    subst (λ (o : Order). Comes now (λ held. read_index held folder o column n) (λ index. IsIndexFileOption o index file) m) e h

pub stop_in_order : (now : Option Files) (folder : List ℕ) (order given : Order) (column : Col) (n m : ℕ) (stop : LoadStop) → given ≡ order
    → ((held : Files) → now ≡ Some held → ReadsStop stop m (read_index held folder given column n))
    → ((held : Files) → now ≡ Some held → ReadsStop stop m (read_index held folder order column n))
stop_in_order now folder order given column n m stop e h =
    subst (λ (o : Order). (held : Files) → now ≡ Some held → ReadsStop stop m (read_index held folder o column n)) e h

-- the columns that are left begin with the one at hand
pub left_with : (told : Option Files) (folder : List ℕ) (order : Order) (columns : List Col) (i n0 n : ℕ) (column : Col) (files : List (Option File))
    → slice_get columns i ≡ Some column → IndexesRead told folder order columns (drop i columns) n0 n files
    → IndexesRead told folder order columns (column ∷ drop (i + 1) columns) n0 n files
left_with told folder order columns i n0 n column files at h =
    subst (λ (rest : List Col). IndexesRead told folder order columns rest n0 n files) (next_column columns i column at) h
