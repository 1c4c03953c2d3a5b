-- A thematic index that is read is one of a kind that can be indexed, and of a count that the kind allows.
use Rattle.std.proofs.Common.{[], ◌≡◌, ℕ, Bool, true, false, cond, List, ◌∷◌, length, Option, Some, None, Result, Ok, Err, refl, subst}
use Rattle.std.specs.Prelude.{bytes_eq, find, nat_lt, slice_index}
use Rattle.std.specs.List.{AllByRecursion}
use Rattle.vpf_base.specs.Results.{◌>>=◌}
use Rattle.vpf_base.proofs.Results.{bind_ok, guarded, ok_is}
use Rattle.vpf_base.specs.declared.orders.Order.{Order}
use Rattle.vpf_triplet.specs.declared.kinds.Kind.{Kind}
use Rattle.vpf_triplet.specs.declared.places.Place.{Place}
use Rattle.vpf_triplet.specs.declared.places.Code.TheVariants as codes
use Rattle.vpf_triplet.specs.Kinds.{kind_text}
use Rattle.vpf_triplet.specs.Places.{theme_fault}
use Rattle.vpf_theme.specs.declared.layout.Form.{Form}
use Rattle.vpf_theme.specs.declared.layout.RowSize.{RowSize}
use Rattle.vpf_theme.specs.declared.layout.Layout.{Layout}
use Rattle.vpf_theme.specs.Layouts.{allowed_count, asked, form_in, header_bytes, header_fields, indexed_kind_of, indexed_kinds, is_count, is_indexed, is_size, is_sorted_mark, layout_of, row_size_of, sized_layout, u32_at}
use Rattle.vpf_theme.specs.Entries.{Theme, theme_in}
use Rattle.vpf_theme.specs.Reading.{entries_line, theme_of, unless_fault}
use Rattle.vpf_base.proofs.Options.{count_case}
use Rattle.vpf_theme.specs.Inner.HeaderLaws.{asked_some, from_size, from_kind}

-- ---- the kind that a letter tells

-- the kind can be indexed
abbrev pub IsIndexed : Kind → Type 0
IsIndexed kind = is_indexed kind ≡ true

found_case : (b : Bool) (kind other : Kind) (rest : Option Kind) → IsIndexed other → (rest ≡ Some kind → IsIndexed kind) → cond b (Some other) rest ≡ Some kind
    → IsIndexed kind
found_case true kind other rest h next e = let same : other ≡ kind = cc e in subst IsIndexed same h
found_case false kind other rest h next e = next e

found_indexed : (test : Kind → Bool) (kinds : List Kind) (kind : Kind) → AllByRecursion IsIndexed kinds → find test kinds ≡ Some kind → IsIndexed kind
found_indexed test [] kind h e = absurd (cc e)
found_indexed test (other ∷ kinds) kind h e = found_case (test other) kind other (find test kinds) h.0 (found_indexed test kinds kind h.1) e

letter_indexed : (b : ℕ) (kind : Kind) → indexed_kind_of b ≡ Some kind → IsIndexed kind
letter_indexed b kind e =
    found_indexed (λ (x : Kind). bytes_eq (b ∷ []) (kind_text x)) indexed_kinds kind
    (refl, (refl, (refl, (refl, (refl, (refl, (refl, (refl, (refl, tt))))))))) e

-- ---- the header

count_told : (kind : Kind) (n m : ℕ) → allowed_count kind n ≡ Some m → is_count kind m ≡ true
count_told kind n m e = let c = count_case (is_count kind n) n m e in subst (λ (x : ℕ). is_count kind x ≡ true) c.1 c.0

-- the kind can be indexed, and allows the count
abbrev pub HasIndex : Kind → ℕ → Type 0
HasIndex kind count = IsIndexed kind × (is_count kind count ≡ true)

abbrev layout_with : Order → List ℕ → Form → Kind → ℕ → RowSize → Layout
layout_with o bytes form kind count size = record {
  order = o;
  form = form;
  kind = kind;
  count = count;
  row_size = size;
  rows = u32_at o bytes 8;
  entries = u32_at o bytes 4;
  sorted = is_sorted_mark (slice_index bytes 56);
}

abbrev from_count : Order → List ℕ → Form → Kind → ℕ → Result Layout Place
from_count o bytes form kind count = asked 18 codes.ThemeRowtype (row_size_of (slice_index bytes 18)) >>= from_size o bytes form kind count

abbrev from_form : Order → List ℕ → Form → Result Layout Place
from_form o bytes form = asked 13 codes.ThemeKind (indexed_kind_of (slice_index bytes 13)) >>= from_kind o bytes form

fields_indexed : (o : Order) (bytes : List ℕ) (l : Layout) → header_fields o bytes ≡ Ok l → HasIndex l.kind l.count
unfolding header_fields
fields_indexed o bytes l e =
    let form = bind_ok (asked 12 codes.ThemeForm (form_in (slice_index bytes 12))) (from_form o bytes) l e in
    let kind = bind_ok (asked 13 codes.ThemeKind (indexed_kind_of (slice_index bytes 13))) (from_kind o bytes form.0) l form.2 in
    let count = bind_ok (asked 14 codes.ThemeCount (allowed_count kind.0 (u32_at o bytes 14))) (from_count o bytes form.0 kind.0) l kind.2 in
    let size = bind_ok (asked 18 codes.ThemeRowtype (row_size_of (slice_index bytes 18))) (from_size o bytes form.0 kind.0 count.0) l count.2 in
    let is : layout_with o bytes form.0 kind.0 count.0 size.0 ≡ l = ok_is {x = layout_with o bytes form.0 kind.0 count.0 size.0} {y = l} size.2 in
    let told = asked_some 13 codes.ThemeKind (indexed_kind_of (slice_index bytes 13)) kind.0 kind.1 in
    let allowed = asked_some 14 codes.ThemeCount (allowed_count kind.0 (u32_at o bytes 14)) count.0 count.1 in
    subst (λ (x : Layout). HasIndex x.kind x.count) {x = layout_with o bytes form.0 kind.0 count.0 size.0} is
    (letter_indexed (slice_index bytes 13) kind.0 told, count_told kind.0 (u32_at o bytes 14) count.0 allowed)

sized_same : (b : Bool) (p : Place) (x l : Layout) → cond b (Ok x) (Err p) ≡ Ok l → x ≡ l
sized_same true p x l e = cc e
sized_same false p x l e = absurd (cc e)

layout_indexed : (o : Order) (bytes : List ℕ) (l : Layout) → layout_of o bytes ≡ Ok l → HasIndex l.kind l.count
unfolding layout_of
layout_indexed o bytes l e =
    let n = u32_at o bytes 0 in
    let whole = guarded (nat_lt (length bytes) header_bytes) (theme_fault 0 codes.ThemeCut) (header_fields o bytes >>= λ l. sized_layout n l) l e in
    let fields = bind_ok (header_fields o bytes) (λ l. sized_layout n l) l whole.1 in
    let same = sized_same (is_size fields.0 n) (theme_fault 0 codes.ThemeSize) fields.0 l fields.2 in
    subst (λ (x : Layout). HasIndex x.kind x.count) same (fields_indexed o bytes fields.0 fields.1)

-- ---- the index

unless_same : (first : Option Place) (x t : Theme) → unless_fault first x ≡ Ok t → x ≡ t
unless_same None x t e = cc e
unless_same (Some place) x t e = absurd (cc e)

pub theme_indexed : (o : Order) (bytes : List ℕ) (t : Theme) → theme_of o bytes ≡ Ok t → HasIndex t.kind t.count
unfolding theme_of
theme_indexed o bytes t e =
    let layout = bind_ok (layout_of o bytes) (λ l. unless_fault (entries_line l bytes) (theme_in l bytes)) t e in
    let same = unless_same (entries_line layout.0 bytes) (theme_in layout.0 bytes) t layout.2 in
    subst (λ (x : Theme). HasIndex x.kind x.count) same (layout_indexed o bytes layout.0 layout.1)
