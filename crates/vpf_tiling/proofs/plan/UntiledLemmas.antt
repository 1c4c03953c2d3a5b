-- What reading an untiled coverage comes to.
use Rattle.std.proofs.Common.{[], ◌≡◌, ◌∙◌, inl, ℕ, Bool, true, false, List, Option, None, Some, Ok, Err, refl, sym, ap, subst}
use Rattle.std.specs.Prelude.{IfOk, IfSome, Result, codes}
use Rattle.std.proofs.lemmas.List.{append-nil}
use Rattle.vpf_base.specs.Results.{Meets, Told}
use Rattle.vpf_source.specs.Files.{Files}
use Rattle.vpf_source.specs.declared.file.File.{File}
use Rattle.vpf_library_files.specs.declared.loading.loading.LoadStop.{LoadStop}
use Rattle.vpf_library_files.specs.declared.loading.loading.LoadStop.TheVariants as stops
use Rattle.vpf_library_files.specs.Loading.Holding.{AreOfCoverage, AreUntiledFiles}
use Rattle.vpf_library_files.specs.Loading.Loading.{CountsAs, LoadedCoverage, LoadedTile, Read, loaded_read, read_tile, stop_seen, untiled_loaded, within}
use Rattle.vpf_library_files.specs.Loading.Loads.{AddsTile, Comes, LoadsAs, ReadsStop}
use Rattle.vpf_tiling.specs.Plan.Untiled.{AreOfUntiled, LoadsUntiled, read_untiled}
use Rattle.vpf_tiling.proofs.plan.ReadLemmas.{ends_next}
use Rattle.vpf_tiling.specs.Inner.Plan.ReadLaws.{came_same}

-- what was read of the coverage's own folder
abbrev FolderComes : (told : Option Files) (lib cov : List ℕ) (n0 n1 : ℕ) (old new : List File) (there : Bool) → Type 0
FolderComes told lib cov n0 n1 old new there = Comes told (λ held. read_tile held (within lib cov) n0) (λ tile. AddsTile (within lib cov) old new there tile) n1

abbrev UntiledComes : (told : Option Files) (lib cov : List ℕ) (n0 n1 : ℕ) (new : List File) → Type 0
UntiledComes told lib cov n0 n1 new = Comes told (λ held. read_untiled held lib cov n0) (λ c. LoadsUntiled lib cov new c) n1

-- what stops the reading of the folder
pub folder_ends : (held : Files) (lib cov : List ℕ) (n0 n1 : ℕ) (stop : LoadStop) → ReadsStop stop n1 (read_tile held (within lib cov) n0)
    → ReadsStop stop n1 (read_untiled held lib cov n0)
folder_ends held lib cov n0 n1 stop h = ends_next _ (read_tile held (within lib cov) n0) n1 stop h

-- it has tables
tables_come : (told : Option Files) (lib cov : List ℕ) (n0 n1 : ℕ) (new : List File) (there : Bool) (tile : Option LoadedTile) → there ≡ true
    → AddsTile (within lib cov) [] new there tile → ((held : Files) → told ≡ Some held → read_tile held (within lib cov) n0 ≡ (Ok tile, n1))
    → UntiledComes told lib cov n0 n1 new
tables_come told lib cov n0 n1 new there None so a comes = let e : true ≡ false = sym so ∙ a.tells in absurd cc
tables_come told lib cov n0 n1 new there (Some tile) so a comes = record {
  value = untiled_loaded tile;
  is = record { all = a.behind ∙ append-nil tile.files; are = record { tables = tile.tables; is = refl; are = a.are } };
  comes = λ held e. rw (comes held e) refl;
}

pub folder_comes : (told : Option Files) (lib cov : List ℕ) (n0 n1 : ℕ) (old new : List File) (there : Bool) → there ≡ true → old ≡ []
    → FolderComes told lib cov n0 n1 old new there → UntiledComes told lib cov n0 n1 new
folder_comes told lib cov n0 n1 old new there so none h =
    let a = subst (λ (x : List File). FolderComes told lib cov n0 n1 x new there) none h in
    tables_come told lib cov n0 n1 new there a.value so a.is a.comes

-- it has none
tables_missing : (held : Files) (lib cov : List ℕ) (n0 n1 : ℕ) (old new : List File) (there : Bool) (tile : Option LoadedTile) → there ≡ false
    → AddsTile (within lib cov) old new there tile → read_tile held (within lib cov) n0 ≡ (Ok tile, n1)
    → read_untiled held lib cov n0 ≡ (Err (stops.Missing (within (within lib cov) (codes "edg"))), n1)
tables_missing held lib cov n0 n1 old new there None so a e = rw e refl
tables_missing held lib cov n0 n1 old new there (Some tile) so a e = let f : false ≡ true = sym so ∙ a.tells in absurd cc

pub folder_missing : (told : Option Files) (lib cov name : List ℕ) (n0 n1 : ℕ) (old new : List File) (there : Bool) → there ≡ false
    → name ≡ within (within lib cov) (codes "edg") → FolderComes told lib cov n0 n1 old new there
    → (held : Files) → told ≡ Some held → ReadsStop (stops.Missing name) n1 (read_untiled held lib cov n0)
folder_missing told lib cov name n0 n1 old new there so named h held e = rw named (tables_missing held lib cov n0 n1 old new there h.value so h.is (h.comes held e))

-- ---- what was loaded, as the clauses say it

abbrev UntiledLoads : (told : Option Files) (lib cov : List ℕ) (n0 n1 : ℕ) → Result (List File) LoadStop → Type 0
UntiledLoads told lib cov n0 n1 result = LoadsAs told (λ held. read_untiled held lib cov n0) (λ (v : List File) c. LoadsUntiled lib cov v c) result n1

told_so : (read : Read LoadedCoverage) (n : ℕ) (seen : Option LoadStop) → IfSome seen (λ stop. read ≡ (Err stop, n)) → Told seen (loaded_read read)
told_so read n None h = tt
told_so read n (Some stop) h = rw h refl

pub untiled_told : (told : Option Files) (lib cov : List ℕ) (n0 n1 : ℕ) (result : Result (List File) LoadStop) → UntiledLoads told lib cov n0 n1 result
    → (held : Files) → told ≡ Some held → Meets (λ (v : List File). v) stop_seen result (loaded_read (read_untiled held lib cov n0))
untiled_told told lib cov n0 n1 (Ok v) h held e = rw (h.comes held e) (ap Ok (sym h.is.all))
untiled_told told lib cov n0 n1 (Err stop) h held e = told_so (read_untiled held lib cov n0) n1 (stop_seen stop) (h held e)

counted_so : (read : Read LoadedCoverage) (n : ℕ) (stop : LoadStop) → ReadsStop stop n read → CountsAs {V = List File} (Err stop) read n
counted_so read n stops.Fault h = tt
counted_so read n (stops.Missing name) h = rw h refl
counted_so read n (stops.Place name place) h = rw h refl
counted_so read n (stops.Limit name limit) h = rw h refl
counted_so read n (stops.Finding name found) h = rw h refl
counted_so read n (stops.Varies name) h = rw h refl
counted_so read n stops.NoMemory h = tt

pub untiled_counted : (told : Option Files) (lib cov : List ℕ) (n0 n1 : ℕ) (result : Result (List File) LoadStop) → UntiledLoads told lib cov n0 n1 result
    → (held : Files) → told ≡ Some held → CountsAs result (read_untiled held lib cov n0) n1
untiled_counted told lib cov n0 n1 (Ok v) h held e = rw (h.comes held e) refl
untiled_counted told lib cov n0 n1 (Err stop) h held e = counted_so (read_untiled held lib cov n0) n1 stop (h held e)

files_are : (lib cov : List ℕ) (files : List File) (x c : LoadedCoverage) → x ≡ c → LoadsUntiled lib cov files x → AreUntiledFiles lib cov c.coverage files
files_are lib cov files x c e h = rw (h.all, sym e) h.are

pub untiled_held : (told : Option Files) (lib cov : List ℕ) (n0 n1 : ℕ) (result : Result (List File) LoadStop) → UntiledLoads told lib cov n0 n1 result
    → (held : Files) → told ≡ Some held → (c : LoadedCoverage) (n : ℕ) → read_untiled held lib cov n0 ≡ (Ok c, n)
    → IfOk result (λ (v : List File). AreUntiledFiles lib cov c.coverage v)
untiled_held told lib cov n0 n1 (Ok v) h held e c n read = files_are lib cov v h.value c (came_same n1 n h.value c (sym (h.comes held e) ∙ read)) h.is
untiled_held told lib cov n0 n1 (Err stop) h held e c n read = tt

pub untiled_are : (told : Option Files) (lib cov : List ℕ) (n0 n1 : ℕ) (result : Result (List File) LoadStop) → UntiledLoads told lib cov n0 n1 result
    → IfOk result (λ (v : List File). AreOfUntiled lib cov v)
untiled_are told lib cov n0 n1 (Ok v) h = (h.value.coverage, files_are lib cov v h.value h.value refl h.is)
untiled_are told lib cov n0 n1 (Err stop) h = tt

pub untiled_coverage_are : (told : Option Files) (lib cov : List ℕ) (n0 n1 : ℕ) (result : Result (List File) LoadStop) → UntiledLoads told lib cov n0 n1 result
    → IfOk result (λ (v : List File). AreOfCoverage lib cov v)
untiled_coverage_are told lib cov n0 n1 (Ok v) h = (h.value.coverage, inl (files_are lib cov v h.value h.value refl h.is))
untiled_coverage_are told lib cov n0 n1 (Err stop) h = tt
