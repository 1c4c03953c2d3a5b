-- Files that are made step by step, behind those of the steps before.
use Rattle.std.proofs.Common.{◌≡◌, ℕ, zero, suc, ◌+◌, ◌<◌, List, [], ◌∷◌, Option, Some, Ok, length, drop, get_or, map, slice_get, refl, sym, ap, ◌∙◌, subst, add-one, arith}
use Rattle.std.proofs.Math.Seq.{drop-cons}
use Rattle.std.specs.Option.{option_map}
use Rattle.vpf_base.specs.Results.{Told}
use Rattle.vpf_source.specs.declared.file.File.{File}
use Rattle.vpf_head.specs.Head.{Col}
use Rattle.vpf_library_files.specs.declared.table_files.errors.AddError.{AddError}
use Rattle.vpf_library_files.specs.TableFiles.Adding.{error_seen}
use Rattle.vpf_feature_files.specs.Schemas.{FeatureTable}
use Rattle.vpf_features.specs.Inner.Views.{index_seen, table_seen}
use Rattle.vpf_features.specs.declared.schema.FeatureView.{FeatureView}
use Rattle.vpf_features.specs.declared.schema.IndexView.{IndexView}
use Rattle.vpf_feature_writing.specs.Inner.AddLaws.{first_fail, first_made}
use Rattle.vpf_feature_writing.specs.Making.{Made, feature_table_made, feature_tables_made, index_made, indexes_made, then_files}

-- ---- places in lists

-- there is a column at a place within them
pub column_at : (columns : List Col) (c : ℕ) → c < length columns → (column : Col) × (slice_get columns c ≡ Some column)
column_at [] c inside = absurd (omega arith)
column_at (column ∷ columns) zero inside = (column, refl)
column_at (column ∷ columns) (suc c) inside = column_at columns c (omega arith)

-- from a place in a list on stand what is at it and what is behind it
drop_at : {V : Type 0} (k : ℕ) (vs : List V) (v d : V) → k < length vs → v ≡ get_or vs k d → drop k vs ≡ v ∷ drop (k + 1) vs
drop_at k vs v d inside is =
    let next : k + 1 ≡ suc k = add-one k in
    drop-cons vs k d inside ∙ ap (λ x. x ∷ drop (suc k) vs) (sym is) ∙ ap (λ n. v ∷ drop n vs) (sym next)

-- ---- indexes

-- one index more is made
pub index_more : (folder : List ℕ) (table : FeatureTable) (c : ℕ) (views : List (Option IndexView)) (view d : Option IndexView) (old mid : List File)
    → c < length views → view ≡ get_or views c d
    → then_files old (index_made folder table c (slice_get table.grid.head.columns c) (option_map index_seen view)) ≡ Ok mid
    → then_files mid (indexes_made folder table (c + 1) (map (option_map index_seen) (drop (c + 1) views)))
    ≡ then_files old (indexes_made folder table c (map (option_map index_seen) (drop c views)))
index_more folder table c views view d old mid inside is made =
    let next : suc c ≡ c + 1 = sym (add-one c) in
    let behind = map (option_map index_seen) (drop (c + 1) views) in
    sym (ap (λ (vs : List (Option IndexView)). then_files old (indexes_made folder table c (map (option_map index_seen) vs))) (drop_at c views view d inside is)
    ∙ first_made old mid (index_made folder table c (slice_get table.grid.head.columns c) (option_map index_seen view)) (indexes_made folder table (suc c) behind) made
    ∙ ap (λ n. then_files mid (indexes_made folder table n behind)) next)

-- ---- feature tables

-- those of the views from a place on
abbrev pub tables_from : (folder : List ℕ) → ℕ → List FeatureView → Made
tables_from folder k views = feature_tables_made folder (map table_seen (drop k views))

-- one feature table more is made
pub table_more : (folder : List ℕ) (k : ℕ) (views : List FeatureView) (view d : FeatureView) (old mid : List File) → k < length views → view ≡ get_or views k d
    → then_files old (feature_table_made folder (table_seen view)) ≡ Ok mid
    → then_files mid (tables_from folder (k + 1) views) ≡ then_files old (tables_from folder k views)
table_more folder k views view d old mid inside is made =
    sym (ap (λ (vs : List FeatureView). then_files old (feature_tables_made folder (map table_seen vs))) (drop_at k views view d inside is)
    ∙ first_made old mid (feature_table_made folder (table_seen view)) (tables_from folder (k + 1) views) made)

-- the next one isn't: those behind it don't matter
pub table_fails : (folder : List ℕ) (k : ℕ) (views : List FeatureView) (view d : FeatureView) (begun old : List File) (e : AddError)
    → k < length views → view ≡ get_or views k d
    → then_files old (tables_from folder k views) ≡ then_files begun (feature_tables_made folder (map table_seen views))
    → Told (error_seen e) (then_files old (feature_table_made folder (table_seen view)))
    → Told (error_seen e) (then_files begun (feature_tables_made folder (map table_seen views)))
table_fails folder k views view d begun old e inside is same told =
    let here = ap (λ (vs : List FeatureView). then_files old (feature_tables_made folder (map table_seen vs))) (drop_at k views view d inside is) in
    subst (Told (error_seen e)) (sym here ∙ same) (first_fail old (feature_table_made folder (table_seen view)) (tables_from folder (k + 1) views) e told)
