-- What reading the table of tiles comes to.
use Rattle.std.proofs.Common.{◌≡◌, ◌∙◌, ℕ, List, [], ◌++◌, Option, Some, None, Ok, Err, refl, sym, ap, subst}
use Rattle.vpf_source.specs.Files.{Files}
use Rattle.vpf_source.specs.declared.file.File.{File}
use Rattle.vpf_table.specs.Grid.{Grid}
use Rattle.vpf_library_files.specs.Tileref.Stops.{StopsAt, TilerefStop, path_texts, tileref_stop}
use Rattle.vpf_library_files.specs.declared.tileref.errors.TilerefError.{TilerefError}
use Rattle.vpf_library_files.specs.declared.tileref.errors.TilerefError.TheVariants as errors
use Rattle.vpf_library_files.specs.declared.loading.loading.LoadStop.{LoadStop}
use Rattle.vpf_library_files.specs.Loading.Loading.{LoadedTable, ◌and_then◌, read_required, read_table, read_table_in, read_tileref, read_tileref_in, tileref_name, unless_stopped}
use Rattle.vpf_library_files.specs.Loading.Holding.{AreFilesOf}
use Rattle.vpf_library_files.specs.Loading.Loads.{Comes, IsTableFound, IsTilerefOf, IsTilerefStop, LoadsTileref, ReadsStop, ReadsValue}
use Rattle.vpf_library_files.proofs.loading.LoadLemmas.{stops_all}

-- nothing ends the reading of the table
pub goes_on : (name : List ℕ) (t : LoadedTable) (g : Grid) (paths : List (List ℕ)) (loaded : ℕ) → g ≡ t.grid → tileref_stop g ≡ None → paths ≡ path_texts g
    → ReadsValue (IsTilerefOf t) paths loaded (unless_stopped name (tileref_stop t.grid) t loaded)
goes_on name t g paths loaded same none names =
    let on : tileref_stop t.grid ≡ None = ap tileref_stop (sym same) ∙ none in
    record {
      value = t;
      comes = rw on refl;
      is = record { is = refl; goes_on = on; names = names ∙ ap path_texts same };
    }

-- something does
abbrev stop_is : {V : Type 0} → (name : List ℕ) → V → Option TilerefStop → ℕ → LoadStop → Type 0
stop_is name v first loaded stop = ReadsStop stop loaded (unless_stopped name first v loaded)

stops_by : (V : Type 0) (name : List ℕ) (t : LoadedTable) (first : Option TilerefStop) (error : TilerefError) (stop : LoadStop) (loaded : ℕ)
    → StopsAt {V = V} (Err error) first → IsTilerefStop name error stop → stop_is name t first loaded stop
stops_by V name t first (errors.Limit limit) stop loaded h is = rw (is, h) refl
stops_by V name t first (errors.Finding f) stop loaded h is = rw (is, h) refl
stops_by V name t first errors.NoMemory stop loaded h is = rw is tt

pub stops_so : (V : Type 0) (name : List ℕ) (t : LoadedTable) (g : Grid) (error : TilerefError) (stop : LoadStop) (loaded : ℕ) → g ≡ t.grid
    → StopsAt {V = V} (Err error) (tileref_stop g) → IsTilerefStop name error stop → ReadsStop stop loaded (unless_stopped name (tileref_stop t.grid) t loaded)
stops_so V name t g error stop loaded same h is =
    stops_by V name t (tileref_stop t.grid) error stop loaded (subst (λ (x : Grid). StopsAt {V = V} (Err error) (tileref_stop x)) same h) is

-- ---- the table in the bytes of its file

pub found_stops : (held : Files) (name bytes : List ℕ) (m n : ℕ) (stop : LoadStop) → ReadsStop stop n (read_table_in held name bytes m)
    → ReadsStop stop n (read_tileref_in held name bytes m)
found_stops held name bytes m n stop h = stops_all stop n (read_table_in held name bytes m) _ h

-- what was read of it, whatever ends the reading of its rows
abbrev pub FoundTileref : (told : Option Files) (name bytes : List ℕ) (m n : ℕ) → Grid → List File → Type 0
FoundTileref told name bytes m n grid files = Comes told (λ held. read_table_in held name bytes m) (λ t. IsTableFound grid files t) n

pub rows_stop : (told : Option Files) (name bytes : List ℕ) (m n : ℕ) (grid : Grid) (files : List File) (stop : LoadStop) → FoundTileref told name bytes m n grid files
    → ((read : LoadedTable) (loaded : ℕ) → grid ≡ read.grid → ReadsStop stop loaded (unless_stopped name (tileref_stop read.grid) read loaded))
    → (held : Files) → told ≡ Some held → ReadsStop stop n (read_tileref_in held name bytes m)
rows_stop told name bytes m n grid files stop a p held e = rw (a.comes held e) (p a.value n (sym a.is.grid_is))

pub rows_go_on : (told : Option Files) (name bytes : List ℕ) (m n : ℕ) (grid : Grid) (files own : List File) (paths : List (List ℕ)) → own ≡ files
    → FoundTileref told name bytes m n grid files → AreFilesOf name grid files
    → ((read : LoadedTable) (loaded : ℕ) → grid ≡ read.grid → ReadsValue (IsTilerefOf read) paths loaded (unless_stopped name (tileref_stop read.grid) read loaded))
    → Comes told (λ held. read_tileref_in held name bytes m) (λ t. LoadsTileref name own paths t) n
rows_go_on told name bytes m n grid files own paths kept a are p =
    let t = a.value in
    let r = p t n (sym a.is.grid_is) in
    let last : unless_stopped name (tileref_stop t.grid) t n ≡ (Ok t, n) = rw r.is.is at r.comes in
    let here : AreFilesOf name t.grid t.files = subst (λ (x : List File). AreFilesOf name t.grid x) (sym a.is.files_are) (subst (λ (x : Grid). AreFilesOf name x files) (sym a.is.grid_is) are) in
    record {
      value = t;
      is = record { all = kept ∙ sym a.is.files_are; are = here; goes_on = r.is.goes_on; names = r.is.names };
      comes = λ held e. rw (a.comes held e) last;
    }

-- ---- the table of a library, by the bytes of its file

abbrev ReadsBytes : {V : Type 0} → (told : Option Files) (name : List ℕ) (m n : ℕ) → (V → List ℕ) → V → Type 0
ReadsBytes {V} told name m n items v = (held : Files) → told ≡ Some held → ReadsValue (λ (x : V) (file : List ℕ). file ≡ items x) v n (read_required held name m)

bytes_then : (held : Files) (name bytes found : List ℕ) (m n : ℕ) → read_required held name m ≡ (Ok found, n) → found ≡ bytes
    → read_table held name m ≡ read_table_in held name bytes n
bytes_then held name bytes found m n e same = rw (e, same) refl

pub library_stops : {V : Type 0} → (told now : Option Files) (lib name : List ℕ) (n0 n1 n2 : ℕ) (items : V → List ℕ) (v : V) (stop : LoadStop) → name ≡ tileref_name lib → now ≡ told
    → ReadsBytes told name n0 n1 items v → ((held : Files) → now ≡ Some held → ReadsStop stop n2 (read_tileref_in held name (items v) n1))
    → (held : Files) → told ≡ Some held → ReadsStop stop n2 (read_tileref held lib n0)
library_stops told now lib name n0 n1 n2 items v stop named same read h held e =
    let r = read held e in
    let last = h held (same ∙ e) in
    subst (λ (x : List ℕ). ReadsStop stop n2 (read_table held x n0 and_then λ table n. unless_stopped x (tileref_stop table.grid) table n)) named
    (rw (bytes_then held name (items v) r.value n0 n1 r.comes r.is) last)

pub library_loads : {V : Type 0} → (told now : Option Files) (lib name : List ℕ) (n0 n1 n2 : ℕ) (items : V → List ℕ) (v : V) (old new files : List File) (paths : List (List ℕ))
    → name ≡ tileref_name lib → now ≡ told → old ≡ [] → new ≡ old ++ files → ReadsBytes told name n0 n1 items v
    → Comes now (λ held. read_tileref_in held name (items v) n1) (λ t. LoadsTileref name files paths t) n2
    → Comes told (λ held. read_tileref held lib n0) (λ t. LoadsTileref (tileref_name lib) new paths t) n2
library_loads told now lib name n0 n1 n2 items v old new files paths named same none behind read h =
    let all : new ≡ files = behind ∙ ap (λ (x : List File). x ++ files) none in
    subst (λ (x : List ℕ). Comes told (λ held. read_table held x n0 and_then λ table n. unless_stopped x (tileref_stop table.grid) table n) (λ t. LoadsTileref x new paths t) n2) named
    (record {
      value = h.value;
      is = record { all = all ∙ h.is.all; are = h.is.are; goes_on = h.is.goes_on; names = h.is.names };
      comes = λ held e. let r = read held e in rw (bytes_then held name (items v) r.value n0 n1 r.comes r.is) (h.comes held (same ∙ e));
    })

-- its file is stopped at
pub bytes_stop : (held : Files) (lib name : List ℕ) (n0 n1 : ℕ) (stop : LoadStop) → name ≡ tileref_name lib → ReadsStop stop n1 (read_required held name n0)
    → ReadsStop stop n1 (read_tileref held lib n0)
bytes_stop held lib name n0 n1 stop named h =
    subst (λ (x : List ℕ). ReadsStop stop n1 (read_table held x n0 and_then λ table n. unless_stopped x (tileref_stop table.grid) table n)) named
    (stops_all stop n1 (read_table held name n0) _ (stops_all stop n1 (read_required held name n0) (read_table_in held name) h))
