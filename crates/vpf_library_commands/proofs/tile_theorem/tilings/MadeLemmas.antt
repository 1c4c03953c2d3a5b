-- Files that are made in a folder without files: the folder holds exactly these.
use Rattle.std.proofs.Common.{[], ◌≡◌, ◌≢◌, ℕ, suc, ◌<◌, ◌≤◌, Bool, true, false, cond, List, ◌∷◌, ◌++◌, map, length, get_or, Some, refl, sym, ap, ◌∙◌, subst, inl, inr, arith, nat_eq}
use Rattle.std.specs.Prelude.{AllPairs}
use Rattle.std.specs.List.{AllByRecursion, ends_with}
use Rattle.std.specs.Str.{bytes_eq}
use Rattle.std.proofs.lemmas.Bool.{cases_Bool}
use Rattle.std.proofs.lemmas.List.{append_cancel_left}
use Rattle.std.proofs.lemmas.Slice.Eq.{bytes_eq-Decides}
use Rattle.vpf_source.specs.Names.Naming.{slash}
use Rattle.vpf_source.specs.Files.{Files}
use Rattle.vpf_source.specs.Making.{with_all}
use Rattle.vpf_source.specs.declared.file.File.{File}
use Rattle.vpf_library_files.specs.Loading.Holding.{bytes_in}
use Rattle.vpf_library_files.specs.Loading.Loading.{most_loaded, within}
use Rattle.vpf_library_commands.specs.Folders.{HoldsExactly}
use Rattle.vpf_library_commands.specs.Made.{file_within}
use Rattle.vpf_library_commands.specs.TileTheorem.Tilings.Tilings.{StandsAlone}
use Rattle.vpf_base.proofs.Options.{some_is as some_same}
use Rattle.vpf_library_commands.specs.Inner.TileTheorem.Tilings.MadeLaws.{bytes_within}

-- the files with one made, and with several
made_one : Files → File → Files
made_one held file other = cond (bytes_eq file.name other) (Some file.bytes) (held other)

made_all : List File → Files → Files
made_all [] held = held
made_all (file ∷ files) held = made_all files (made_one held file)

all_made : (files : List File) (held : Files) → with_all files (Some held) ≡ Some (made_all files held)
unfolding made_all made_one
all_made [] held = refl
all_made (file ∷ files) held = all_made files (made_one held file)

one_there : (held : Files) (file : File) → made_one held file file.name ≡ Some file.bytes
unfolding made_one
one_there held file = ap (λ b. cond b (Some file.bytes) (held file.name)) ((bytes_eq-Decides file.name file.name).1 refl)

one_elsewhere : (held : Files) (file : File) (name : List ℕ) → file.name ≢ name → made_one held file name ≡ held name
unfolding made_one
one_elsewhere held file name ne = elim (cases_Bool (bytes_eq file.name name)) [
  | inl t ↦ absurd (ne ((bytes_eq-Decides file.name name).0 t))
  | inr u ↦ ap (λ b. cond b (Some file.bytes) (held name)) u
]

-- a name that none of them has is as it was
elsewhere : (files : List File) (held : Files) (name : List ℕ) → AllByRecursion (λ (file : File). file.name ≢ name) files → made_all files held name ≡ held name
unfolding made_all
elsewhere [] held name h = refl
elsewhere (file ∷ files) held name h = elsewhere files (made_one held file) name h.1 ∙ one_elsewhere held file name h.0

later : (file : File) (files : List File) → AllPairs (λ (a b : File). a.name ≢ b.name) (file ∷ files)
    → AllByRecursion (λ (other : File). other.name ≢ file.name) files
later file files apart = by files (λ i d lt. apart 0 (suc i) d (omega arith) (omega arith))
  where
    by : (rest : List File) → ((i : ℕ) (d : File) → i < length rest → file.name ≢ (get_or rest i d).name)
        → AllByRecursion (λ (other : File). other.name ≢ file.name) rest
    by [] h = tt
    by (x ∷ xs) h = (λ e. h 0 x (omega arith) (sym e), by xs (λ i d lt. h (suc i) d (omega arith)))

-- each is there, where no two have one name
there : (files : List File) (held : Files) → AllPairs (λ (a b : File). a.name ≢ b.name) files
    → AllByRecursion (λ (file : File). made_all files held file.name ≡ Some file.bytes) files
unfolding made_all
there [] held apart = tt
there (file ∷ files) held apart = (
  elsewhere files (made_one held file) file.name (later file files apart) ∙ one_there held file,
  there files (made_one held file) (λ i j d lt few. apart (suc i) (suc j) d (omega arith) (omega arith)),
)

-- names within a folder differ where the names do
within_same : (folder a b : List ℕ) → within folder a ≡ within folder b → a ≡ b
within_same folder a b = by (ends_with nat_eq folder (slash ∷ []))
  where
    by : (c : Bool) → cond c (folder ++ a) (folder ++ slash ∷ a) ≡ cond c (folder ++ b) (folder ++ slash ∷ b) → a ≡ b
    by true e = append_cancel_left folder a b e
    by false e = append_cancel_left (slash ∷ []) a b (append_cancel_left folder (slash ∷ a) (slash ∷ b) e)

all_of_map : (P : File → Type 0) (folder : List ℕ) (files : List File) → AllByRecursion P (map (file_within folder) files)
    → AllByRecursion (λ file. P (file_within folder file)) files
all_of_map P folder [] h = tt
all_of_map P folder (file ∷ files) h = (h.0, all_of_map P folder files h.1)

none_within : (folder name : List ℕ) (files : List File) → AllByRecursion (λ (file : File). file.name ≢ name) files
    → AllByRecursion (λ (file : File). file.name ≢ within folder name) (map (file_within folder) files)
none_within folder name [] h = tt
none_within folder name (file ∷ files) h = (λ e. h.0 (within_same folder file.name name e), none_within folder name files h.1)

-- where files are made in a folder and stand alone, it holds exactly these
pub exactly : (held after : Files) (folder : List ℕ) (files : List File) → StandsAlone held folder (map (file_within folder) files)
    → with_all (map (file_within folder) files) (Some held) ≡ Some after → HoldsExactly after folder files
exactly held after folder files alone made =
    let own : List File = map (file_within folder) files in
    let same : made_all own held ≡ after = some_same (made_all own held) after (sym (all_made own held) ∙ made) in
    subst (λ (f : Files). HoldsExactly f folder files) same (record {
      there = all_of_map (λ (file : File). made_all own held file.name ≡ Some file.bytes) folder files (there own held alone.apart);
      others = λ name none. elsewhere own held (within folder name) (none_within folder name files none) ∙ alone.empty name;
    })

pub few_within : (held : Files) (folder : List ℕ) (files : List File) → StandsAlone held folder (map (file_within folder) files) → bytes_in files ≤ most_loaded
few_within held folder files alone = subst (λ n. n ≤ most_loaded) (bytes_within folder files) alone.few
