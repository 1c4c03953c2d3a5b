-- What is built, put together.
use Rattle.std.proofs.Common.{◌≡◌, ℕ, ◌≤◌, Bool, true, false, List, length, Some, Result, Ok, Err, refl, sym, ap, subst, ◌∙◌}
use Rattle.std.specs.Prelude.{IfOk, nat_le, slice_get, if◌then◌else◌}
use Rattle.std.proofs.lemmas.Bool.{leb-true}
use Rattle.std.proofs.lemmas.Option.{get_or_from_slice_get, slice_get_within}
use Rattle.vpf_base.specs.Limits.{most_bytes}
use Rattle.vpf_base.proofs.Results.{ok_is}
use Rattle.vpf_base.specs.declared.orders.Order.{Order}
use Rattle.vpf_triplet.specs.declared.kinds.Kind.{Kind}
use Rattle.vpf_triplet.specs.declared.places.Place.{Place}
use Rattle.vpf_triplet.specs.declared.kinds.Count.TheVariants.{Fixed}
use Rattle.vpf_value.specs.Values.{Value}
use Rattle.vpf_head.specs.Head.{Col, Head}
use Rattle.vpf_head.specs.Inner.Soundness.{IsCounted, IsSound}
use Rattle.vpf_table.specs.Grid.{Grid}
use Rattle.vpf_theme.specs.declared.layout.Form.{Form}
use Rattle.vpf_theme.specs.declared.layout.RowSize.{RowSize}
use Rattle.vpf_theme.specs.declared.layout.Layout.{Layout}
use Rattle.vpf_theme.specs.Layouts.{is_count, is_indexed}
use Rattle.vpf_theme.specs.Entries.{Entry, Theme}
use Rattle.vpf_theme.specs.Findings.{cells_of}
use Rattle.vpf_theme.specs.Agreeing.{AgreesWithColumn}
use Rattle.vpf_theme.specs.Reading.{theme_of}
use Rattle.vpf_theme_build.specs.declared.errors.BuildError.{BuildError}
use Rattle.vpf_theme_build.specs.declared.errors.BuildError.TheVariants as errors
use Rattle.vpf_theme_build.specs.Building.{AgreeAt, AreRead, Builds, built_by, index_for, layout_for, within_limit}
use Rattle.vpf_theme_build.specs.Grouping.{entries_for, values_of}
use Rattle.vpf_theme_build.specs.Text.{index_len, index_text, row_size_for}
use Rattle.vpf_theme_build.proofs.FieldLemmas.{counted}
use Rattle.vpf_theme_build.specs.Inner.BuildLaws.{one_column}

column_counted : (head : Head) (c : ℕ) (column : Col) → IsSound head → slice_get head.columns c ≡ Some column → IsCounted column
column_counted head c column sound is = subst IsCounted (get_or_from_slice_get head.columns c column column is) (sound.counts c column (slice_get_within head.columns c column is))

pub has_values : (head : Head) (c count : ℕ) (column : Col) → IsSound head → slice_get head.columns c ≡ Some column → column.count ≡ Fixed count → is_indexed column.kind ≡ true → (is_indexed column.kind ≡ true) × (is_count column.kind count ≡ true)
has_values head c count column sound is fixed indexed =
    let k = column_counted head c column sound is in
    (indexed, counted column.kind count (rw fixed at k.bounds) (rw fixed at k.allowed))

abbrev layout_with : Form → Kind → ℕ → Order → RowSize → ℕ → ℕ → Layout
layout_with form kind count order size rows entries = record { order = order; form = form; kind = kind; count = count; row_size = size; rows = rows; entries = entries; sorted = true }

pub layout_is : (o order : Order) (form : Form) (column : Col) (count : ℕ) (cells : List Value) (size : RowSize) (rows entries : ℕ) → o ≡ order → row_size_for (length cells) ≡ size → length cells ≡ rows → length (values_of cells) ≡ entries
    → layout_for o form column count cells ≡ record { order = order; form = form; kind = column.kind; count = count; row_size = size; rows = rows; entries = entries; sorted = true }
layout_is o order form column count cells size rows entries a b c d =
    ap (λ (x : Order). layout_with form column.kind count x (row_size_for (length cells)) (length cells) (length (values_of cells))) a
    ∙ ap (λ (x : RowSize). layout_with form column.kind count order x (length cells) (length (values_of cells))) b
    ∙ ap (λ (x : ℕ). layout_with form column.kind count order size x (length (values_of cells))) c
    ∙ ap (λ (x : ℕ). layout_with form column.kind count order size rows x) d

pub built_is : (o : Order) (name : List ℕ) (form : Form) (column : Col) (cells : List Value) (count : ℕ) (l : Layout) (es : List Entry) → is_indexed column.kind ≡ true → layout_for o form column count cells ≡ l → es ≡ entries_for cells → built_by o name form column cells (Fixed count) ≡ within_limit (index_len l es) (index_text l name column.name es)
built_is o name form column cells count l es indexed e f =
    rw indexed (ap (λ (x : Layout). within_limit (index_len x (entries_for cells)) (index_text x name column.name (entries_for cells))) e
    ∙ ap (λ (x : List Entry). within_limit (index_len l x) (index_text l name column.name x)) (sym f))

-- ---- what is built is read

-- bytes that are not too many
pub limited_ok : (b : Bool) (size : ℕ) (text out : List ℕ) → nat_le size most_bytes ≡ b → (if b then Ok text else Err (errors.Limit size)) ≡ Ok out → (size ≤ most_bytes) × (text ≡ out)
limited_ok true size text out t e = (leb-true size most_bytes t, ok_is {x = text} {y = out} e)
limited_ok false size text out t e = absurd (cc e)

-- what holds of the bytes of an index that are not too many holds of what a call built
pub if_built : {V : Type 0} (bytes : V → List ℕ) (P : List ℕ → Type 0) (r : Result V BuildError) (o : Order) (name : List ℕ) (form : Form) (column : Col) (cells : List Value) (count : ℕ) → is_indexed column.kind ≡ true → Builds bytes r (built_by o name form column cells (Fixed count))
    → (index_len (layout_for o form column count cells) (entries_for cells) ≤ most_bytes → P (index_text (layout_for o form column count cells) name column.name (entries_for cells))) → IfOk r (λ v. P (bytes v))
if_built bytes P (Ok v) o name form column cells count indexed b p =
    let l = layout_for o form column count cells in
    let text = index_text l name column.name (entries_for cells) in
    let e = rw indexed at b in
    let k = limited_ok (nat_le (index_len l (entries_for cells)) most_bytes) (index_len l (entries_for cells)) text (bytes v) refl e in
    subst P k.1 (p k.0)
if_built bytes P (Err e) o name form column cells count indexed b p = tt

same_count : (column : Col) (n m : ℕ) → column.count ≡ Fixed n → column.count ≡ Fixed m → n ≡ m
same_count column n m a b = cc

pub are_read : (grid : Grid) (c : ℕ) (form : Form) (column : Col) (count : ℕ) (bytes : List ℕ) → slice_get grid.head.columns c ≡ Some column → column.count ≡ Fixed count → theme_of grid.head.order bytes ≡ Ok (index_for form column count (cells_of grid c)) → AreRead grid c form bytes
are_read grid c form column count bytes is fixed e k n is' fixed' =
    let same = one_column grid.head.columns c column k is is' in
    let m = same_count k count n (subst (λ (x : Col). x.count ≡ Fixed count) same fixed) fixed' in
    subst (λ (x : ℕ). theme_of grid.head.order bytes ≡ Ok (index_for form k x (cells_of grid c))) m (subst (λ (x : Col). theme_of grid.head.order bytes ≡ Ok (index_for form x count (cells_of grid c))) same e)

pub agree_at : (grid : Grid) (c : ℕ) (form : Form) (column : Col) (count : ℕ) (bytes : List ℕ) → slice_get grid.head.columns c ≡ Some column → theme_of grid.head.order bytes ≡ Ok (index_for form column count (cells_of grid c)) → AgreesWithColumn (index_for form column count (cells_of grid c)) column (cells_of grid c) → AgreeAt grid c bytes
agree_at grid c form column count bytes is e agrees t read k is' =
    let same = one_column grid.head.columns c column k is is' in
    let theme : index_for form column count (cells_of grid c) ≡ t = theme_is (theme_of grid.head.order bytes) (index_for form column count (cells_of grid c)) t e read in
    subst (λ (x : Theme). AgreesWithColumn x k (cells_of grid c)) theme (subst (λ (x : Col). AgreesWithColumn (index_for form column count (cells_of grid c)) x (cells_of grid c)) same agrees)
  where
    theme_is : (r : Result Theme Place) (x y : Theme) → r ≡ Ok x → r ≡ Ok y → x ≡ y
    theme_is r x y a b = cc
