-- What the files of a coverage are, and what reading them comes to, step by step.
use Rattle.std.proofs.Common.{[], ◌≡◌, inr, ◌∙◌, ℕ, List, ◌∷◌, Option, Some, None, Ok, Err, Bool, true, false, nat_le, length, cond, refl, sym, ap}
use Rattle.std.specs.Prelude.{IfOk, IfSome, Result}
use Rattle.vpf_base.specs.Limits.{most_bytes}
use Rattle.vpf_base.specs.Results.{Meets, Told}
use Rattle.vpf_source.specs.Files.{Files}
use Rattle.vpf_source.specs.Loading.{load_answer}
use Rattle.vpf_source.specs.declared.file.File.{File}
use Rattle.vpf_head.specs.Head.{varies_in}
use Rattle.vpf_source.specs.Names.Indexes.{index_name}
use Rattle.vpf_table.specs.Grid.{Grid}
use Rattle.vpf_table.specs.Reading.{table_of}
use Rattle.vpf_table.specs.Spans.{IsOpened}
use Rattle.vpf_base.proofs.Results.{done, ok_is}
use Rattle.vpf_library_files.specs.declared.loading.loading.LoadStop.{LoadStop}
use Rattle.vpf_library_files.specs.declared.loading.loading.LoadStop.TheVariants as stops
use Rattle.vpf_library_files.specs.Loading.Loading.{Read, LoadedCoverage, ◌and_then◌, CountsAs, loaded_file, loaded_read, read_coverage, stop_seen}
use Rattle.vpf_library_files.specs.Loading.Holding.{AreCoverageFiles, AreFilesOf, AreOfCoverage}
use Rattle.vpf_library_files.specs.Loading.Loads.{LoadsAs, LoadsCoverage, ReadsStop}
use Rattle.vpf_library_files.specs.Inner.Loading.StepLaws.{value_is}

-- what a load gave is the file
loaded_within : (b : Bool) (bytes found : List ℕ) (n : ℕ) → cond b (done {E = ℕ} (Some bytes)) (Err n) ≡ Ok (Some found) → bytes ≡ found
loaded_within true bytes found n e = cc
loaded_within false bytes found n e = absurd cc

pub loaded_is : (file : Option (List ℕ)) (found : List ℕ) → load_answer file most_bytes ≡ Ok (Some found) → file ≡ Some found
loaded_is None found e = absurd cc
loaded_is (Some bytes) found e = ap Some (loaded_within (nat_le (length bytes) most_bytes) bytes found (length bytes) e)

-- a table whose rows vary, with its own index
pub indexed : (of name bytes index items : List ℕ) (t g : Grid) → name ≡ index_name of → items ≡ index → varies_in g.head.columns ≡ true
    → table_of bytes ≡ Ok g → table_of bytes ≡ Ok t → IsOpened t bytes (Some index)
    → AreFilesOf of t (loaded_file of bytes ∷ record { name = name; bytes = items } ∷ [])
indexed of name bytes index items t g named same varies read again opened =
    let one : t ≡ g = ok_is (sym again ∙ read) in
    inr (record { bytes = bytes; index = index; are = rw (named, same) refl; opened = opened; varies = rw one varies })

-- a stop that is seen, where reading goes on
onward : {V W : Type 0} (seen : Option LoadStop) (n : ℕ) (read : Read V) (next : V → ℕ → Read W)
    → IfSome seen (λ stop. read ≡ (Err stop, n)) → IfSome seen (λ stop. (read and_then next) ≡ (Err stop, n))
onward None n read next h = tt
onward (Some stop) n read next h = rw h refl

told : (seen : Option LoadStop) (n : ℕ) (read : Read LoadedCoverage) → IfSome seen (λ stop. read ≡ (Err stop, n)) → Told seen (loaded_read read)
told None n read h = tt
told (Some stop) n read h = rw h refl

-- a stop ends all that would be read after it
pub stops_all : {V W : Type 0} (stop : LoadStop) (n : ℕ) (read : Read V) (next : V → ℕ → Read W) → ReadsStop stop n read
    → ReadsStop stop n (read and_then next)
stops_all stop n read next h = onward (stop_seen stop) n read next h

-- ---- what was loaded, as the clauses of a load say it

counted_stop : (stop : LoadStop) (n : ℕ) (read : Read LoadedCoverage) → ReadsStop stop n read → CountsAs {V = List File} (Err stop) read n
counted_stop stops.Fault n read h = tt
counted_stop (stops.Missing name) n read h = rw h refl
counted_stop (stops.Place name place) n read h = rw h refl
counted_stop (stops.Limit name limit) n read h = rw h refl
counted_stop (stops.Finding name found) n read h = rw h refl
counted_stop (stops.Varies name) n read h = rw h refl
counted_stop stops.NoMemory n read h = tt

abbrev Loaded : (lib cov : List ℕ) → Option Files → (before : ℕ) → Result (List File) LoadStop → ℕ → Type 0
Loaded lib cov told before result n = LoadsAs told (λ held. read_coverage held lib cov before) (λ (v : List File) c. LoadsCoverage lib cov v c) result n

pub load_told : (lib cov : List ℕ) (tells : Option Files) (before n : ℕ) (result : Result (List File) LoadStop) → Loaded lib cov tells before result n
    → (held : Files) → tells ≡ Some held → Meets (λ (v : List File). v) stop_seen result (loaded_read (read_coverage held lib cov before))
load_told lib cov tells before n (Ok v) h held e = rw (h.comes held e) (ap Ok (sym h.is.all))
load_told lib cov tells before n (Err stop) h held e = told (stop_seen stop) n (read_coverage held lib cov before) (h held e)

pub load_counted : (lib cov : List ℕ) (tells : Option Files) (before n : ℕ) (result : Result (List File) LoadStop) → Loaded lib cov tells before result n
    → (held : Files) → tells ≡ Some held → CountsAs result (read_coverage held lib cov before) n
load_counted lib cov tells before n (Ok v) h held e = rw (h.comes held e) refl
load_counted lib cov tells before n (Err stop) h held e = counted_stop stop n (read_coverage held lib cov before) (h held e)

files_so : (lib cov : List ℕ) (x c : LoadedCoverage) (files : List File) → x ≡ c → LoadsCoverage lib cov files x → AreCoverageFiles lib cov c.coverage files
files_so lib cov x c files e h = rw (h.all, sym e) h.are

pub load_held : (lib cov : List ℕ) (tells : Option Files) (before n : ℕ) (result : Result (List File) LoadStop) → Loaded lib cov tells before result n
    → (held : Files) → tells ≡ Some held → (c : LoadedCoverage) (k : ℕ) → read_coverage held lib cov before ≡ (Ok c, k)
    → IfOk result (λ (v : List File). AreCoverageFiles lib cov c.coverage v)
load_held lib cov tells before n (Ok v) h held e c k read = files_so lib cov h.value c v (value_is h.value c n k (sym (h.comes held e) ∙ read)) h.is
load_held lib cov tells before n (Err stop) h held e c k read = tt

pub load_are : (lib cov : List ℕ) (tells : Option Files) (before n : ℕ) (result : Result (List File) LoadStop) → Loaded lib cov tells before result n
    → IfOk result (λ (v : List File). AreOfCoverage lib cov v)
load_are lib cov tells before n (Ok v) h = (h.value.coverage, files_so lib cov h.value h.value v refl h.is)
load_are lib cov tells before n (Err stop) h = tt
