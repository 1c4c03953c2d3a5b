-- What reading a plan comes to.
use Rattle.std.proofs.Common.{◌≡◌, ◌∙◌, ℕ, List, Option, None, Some, Ok, Err, refl, sym, ap, subst}
use Rattle.std.specs.Prelude.{IfOk, IfSome, Result}
use Rattle.vpf_base.specs.Results.{Told}
use Rattle.vpf_source.specs.Files.{Files}
use Rattle.vpf_source.specs.declared.file.File.{File}
use Rattle.vpf_head.specs.Head.{Head}
use Rattle.vpf_table.specs.Grid.{Grid}
use Rattle.vpf_findings.specs.Findings.{Disagreement}
use Rattle.vpf_findings.specs.Printing.{own_of}
use Rattle.vpf_prims.specs.Columns.{columns_finding}
use Rattle.vpf_prims.specs.Roles.{plan_roles}
use Rattle.vpf_library_files.specs.declared.loading.loading.LoadStop.{LoadStop}
use Rattle.vpf_library_files.specs.declared.loading.loading.LoadStop.TheVariants as stops
use Rattle.vpf_library_files.specs.Loading.Holding.{AreFilesOf}
use Rattle.vpf_library_files.specs.Loading.Loading.{LoadedTable, read_table, stop_seen}
use Rattle.vpf_library_files.specs.Loading.Loads.{ReadsStop, ReadsValue}
use Rattle.vpf_tiling.specs.Inner.Plan.Laws.{PlansDecide}
use Rattle.vpf_tiling.specs.Plan.PlanLoads.{ArePlanFiles, AreOfPlan, read_plan, unless_found}
use Rattle.vpf_tiling.specs.Plan.Plans.{IsPlanTable, plan_at, plan_finding}
use Rattle.vpf_tiling.specs.Inner.Plan.ReadLaws.{OpensRead, SpelledOpens, came_same, table_is}

-- a value was let through
nothing_found : {V : Type 0} (name : List ℕ) (first : Option Disagreement) (v : V) → unless_found name first v ≡ Ok v → first ≡ None
nothing_found name None v e = refl
nothing_found name (Some d) v e = absurd cc

-- a finding on the table that was read
found_so : (held : Files) (name : List ℕ) (m n : ℕ) (t : LoadedTable) (seen : Option LoadStop) → read_table held name m ≡ (Ok t, n)
    → Told seen (unless_found name (plan_finding t.grid) t) → IfSome seen (λ stop. read_plan held name m ≡ (Err stop, n))
found_so held name m n t None e h = tt
found_so held name m n t (Some stop) e h = rw (e, h) refl

-- the table that was read, where files are some table
its_files : SpelledOpens → OpensRead → (held : Files) (name : List ℕ) (m n : ℕ) (t : LoadedTable) (files : List File) → read_table held name m ≡ (Ok t, n)
    → t.files ≡ files → (grid : Grid) × AreFilesOf name grid files → AreFilesOf name t.grid files
its_files spelled again held name m n t files e whole are = table_is spelled again held name m n t are.0 files e whole are.1

abbrev TableRead : (held : Files) (name : List ℕ) (m n : ℕ) (files : List File) → Type 0
TableRead held name m n files = ReadsValue (λ (v : List File) (t : LoadedTable). t.files ≡ v) files n (read_table held name m)

abbrev AreSome : (name : List ℕ) → List File → Type 0
AreSome name files = (grid : Grid) × AreFilesOf name grid files

-- the table that was read, in the slice that was looked at
in_slice : SpelledOpens → OpensRead → (held : Files) (name : List ℕ) (m n : ℕ) (files : List File) (slice : List File) (r : TableRead held name m n files)
    → slice ≡ files → AreSome name files → AreFilesOf name r.value.grid slice
in_slice spelled again held name m n files slice r same are =
    subst (λ (x : List File). AreFilesOf name r.value.grid x) (sym same) (its_files spelled again held name m n r.value files r.comes r.is are)

pub plan_halts : SpelledOpens → OpensRead → (held : Files) (name : List ℕ) (m n : ℕ) (files : List File) (slice : List File) (stop : LoadStop) → slice ≡ files
    → TableRead held name m n files → AreSome name files
    → ((table : LoadedTable) → AreFilesOf name table.grid slice → Told (stop_seen stop) (unless_found name (plan_finding table.grid) table))
    → ReadsStop stop n (read_plan held name m)
plan_halts spelled again held name m n files slice stop same r are finds =
    found_so held name m n r.value (stop_seen stop) r.comes (finds r.value (in_slice spelled again held name m n files slice r same are))

-- there is none
abbrev NoneFound : (name : List ℕ) → List File → Type 0
NoneFound name slice = (table : LoadedTable) → AreFilesOf name table.grid slice → unless_found name (plan_finding table.grid) table ≡ Ok table

plan_read : SpelledOpens → OpensRead → (held : Files) (name : List ℕ) (m n : ℕ) (files : List File) (slice : List File) (r : TableRead held name m n files)
    → slice ≡ files → AreSome name files → NoneFound name slice → read_plan held name m ≡ (Ok r.value, n)
plan_read spelled again held name m n files slice r same are finds =
    let none = finds r.value (in_slice spelled again held name m n files slice r same are) in
    rw (r.comes, none) refl

pub plan_comes : SpelledOpens → OpensRead → (held : Files) (name : List ℕ) (m n : ℕ) (files : List File) (slice : List File) → slice ≡ files
    → TableRead held name m n files → AreSome name files → NoneFound name slice
    → ReadsValue (λ (v : List File) (t : LoadedTable). t.files ≡ v) files n (read_plan held name m)
plan_comes spelled again held name m n files slice same r are finds =
    record { value = r.value; comes = plan_read spelled again held name m n files slice r same are finds; is = r.is }

pub plan_are : PlansDecide → (name : List ℕ) (files slice : List File) → slice ≡ files → AreSome name files → NoneFound name slice → AreOfPlan name files
plan_are decide name files slice same are finds =
    let t : LoadedTable = record { grid = are.0; files = files } in
    let here = subst (λ (x : List File). AreFilesOf name are.0 x) (sym same) are.1 in
    (are.0, record { are = are.1; plan = (decide are.0).0 (nothing_found name (plan_finding are.0) t (finds t here)) })

pub plan_held : SpelledOpens → OpensRead → PlansDecide → (held : Files) (name : List ℕ) (m n k : ℕ) (files : List File) (slice : List File) (table : LoadedTable)
    → slice ≡ files → TableRead held name m n files → AreSome name files → NoneFound name slice → read_plan held name m ≡ (Ok table, k)
    → ArePlanFiles name table.grid files
plan_held spelled again decide held name m n k files slice table same r are finds e =
    let one : r.value ≡ table = came_same n k r.value table (sym (plan_read spelled again held name m n files slice r same are finds) ∙ e) in
    let its = its_files spelled again held name m n r.value files r.comes r.is are in
    let none = nothing_found name (plan_finding r.value.grid) r.value (finds r.value (in_slice spelled again held name m n files slice r same are)) in
    let plan : ArePlanFiles name r.value.grid files = record { are = its; plan = (decide r.value.grid).0 none } in
    subst (λ (x : LoadedTable). ArePlanFiles name x.grid files) one plan

-- ---- what is found in the columns of a table

lets_through : {V : Type 0} (name : List ℕ) (first : Option Disagreement) (v : V) → first ≡ None → unless_found name first v ≡ Ok v
lets_through name first v e = rw e refl

told_stop : {V : Type 0} (name : List ℕ) (first : Option Disagreement) (v : V) (d : Disagreement) (stop : LoadStop) → first ≡ Some d
    → stop ≡ stops.Finding name (own_of d) → Told (stop_seen stop) (unless_found name first v)
told_stop name first v d stop e is = rw (is, e) refl

abbrev finding_of : Head → Option Disagreement
finding_of head = columns_finding plan_at head.columns plan_roles

same_finding : (head : Head) (grid : Grid) (t : LoadedTable) → head ≡ grid.head → grid ≡ t.grid → finding_of head ≡ plan_finding t.grid
same_finding head grid t h g = ap finding_of (h ∙ ap (λ (x : Grid). x.head) g)

pub columns_right : (name : List ℕ) (t : LoadedTable) (head : Head) (grid : Grid) → head ≡ grid.head → grid ≡ t.grid → finding_of head ≡ None
    → unless_found name (plan_finding t.grid) t ≡ Ok t
columns_right name t head grid h g none = lets_through name (plan_finding t.grid) t (sym (same_finding head grid t h g) ∙ none)

pub columns_wrong : (name : List ℕ) (t : LoadedTable) (head : Head) (grid : Grid) (d : Disagreement) (stop : LoadStop) → head ≡ grid.head → grid ≡ t.grid
    → finding_of head ≡ Some d → stop ≡ stops.Finding name (own_of d) → Told (stop_seen stop) (unless_found name (plan_finding t.grid) t)
columns_wrong name t head grid d stop h g some is = told_stop name (plan_finding t.grid) t d stop (sym (same_finding head grid t h g) ∙ some) is

pub is_plan : {E : Type 0} (grid : Grid) (result : Result Grid E) → IfOk result (λ table. table ≡ grid) → IsPlanTable grid → IfOk result IsPlanTable
is_plan grid (Ok table) e plan = rw e plan
is_plan grid (Err error) e plan = tt
