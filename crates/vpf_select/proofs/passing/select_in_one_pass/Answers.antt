use Rattle.std.proofs.Common.{◌≡◌, ◌∙◌, ℕ, Bool, List, Option, None, Some, length, ap, sym, subst}
use Rattle.std.specs.Prelude.{slice_index_or}
use Rattle.std.specs.Option.{option_map}
use Rattle.std.proofs.lemmas.List.{length-map}
use Rattle.vpf_value.specs.Values.{Value, Nothing, view}
use Rattle.vpf_table.specs.Grid.{Grid, Row}
use Rattle.vpf_theme.specs.Findings.{cells_of}
use Rattle.vpf_theme.specs.Ordering.{same_value}
use Rattle.vpf_theme.specs.Agreeing.{listed}
use Rattle.vpf_theme.specs.Entries.{found_in, AreRows}
use Rattle.vpf_theme.specs.Inner.Views.{Rows, all_rows}
use Rattle.vpf_select.specs.Inner.Passing.{first_unmet, met_by}
use Rattle.vpf_select.specs.Selecting.{RefusesRow, selected}
use Rattle.vpf_select.proofs.IndexLemmas.{own_value, own_rows}
use Rattle.vpf_select.proofs.ScanLemmas.{unmet_other}
use Rattle.vpf_select.proofs.passing.select_in_one_pass.Goals as goal

pub find-requires : goal.find-requires
find-requires g c = own_value c.args.theme.now c.args.table.now c.args.test.now.column (view c.args.test.now.value) c.requires.column c.requires.own c.requires.fits

-- a row of the table stands for each row that was passed
rows_many : (grid : Grid) (c : ℕ) (v : Value) → length (met_by v (cells_of grid c)) ≡ length grid.rows
rows_many grid c v = length-map (cells_of grid c) (λ cell. same_value cell v) ∙ length-map grid.rows (λ (row : Row). slice_index_or row c Nothing)

pub all_met-requires : goal.all_met-requires
all_met-requires g c =
    let grid = c.args.table.now in
    let column = c.args.test.now.column in
    let v = view c.args.test.now.value in
    let many = ap length (c.deref.ensures.value ∙ c.in_ok-met.ensures.value) ∙ rows_many grid column v in
    let own = own_rows c.args.theme.now grid column c.requires.column c.requires.own in
    subst (λ (n : ℕ). AreRows n c.in-Some.hits.left) (own ∙ sym many) c.in-Some.ensures.rows

pub returns-clause-refused : goal.returns-clause-refused
returns-clause-refused g c =
    let grid = c.args.table.now in
    let column = c.args.test.now.column in
    let many = ap length (c.deref.ensures.value ∙ c.in_ok-met.ensures.value) ∙ rows_many grid column (view c.args.test.now.value) in
    subst (λ (n : ℕ). RefusesRow n c.all_met.result) many c.all_met.ensures.refused

-- what the index lists are the rows that are found
listed_is : (found : Option (List ℕ)) (hits : Rows) → Some hits ≡ option_map all_rows found → listed found ≡ hits.left
listed_is None hits e = absurd (cc e)
listed_is (Some rows) hits e = let h : hits ≡ all_rows rows = cc e in ap (λ (x : Rows). x.left) (sym h)

pub returns-clause-value : goal.returns-clause-value
unfolding selected
returns-clause-value g c =
    let grid = c.args.table.now in
    let column = c.args.test.now.column in
    let v = view c.args.test.now.value in
    let cells = cells_of grid column in
    let rows = c.in-Some.hits.left in
    let met = c.deref.ensures.value ∙ c.in_ok-met.ensures.value in
    let own = own_rows c.args.theme.now grid column c.requires.column c.requires.own in
    let many = length-map grid.rows (λ (row : Row). slice_index_or row column Nothing) in
    let are : AreRows (length cells) rows = subst (λ (n : ℕ). AreRows n rows) (own ∙ sym many) c.in-Some.ensures.rows in
    let same = ap (λ (m : List Bool). first_unmet m rows) met ∙ unmet_other v cells rows are in
    let found = rw same at c.all_met.ensures.value in
    rw (listed_is (found_in v c.args.theme.now.entries) c.in-Some.hits c.in-Some.ensures.value) found
