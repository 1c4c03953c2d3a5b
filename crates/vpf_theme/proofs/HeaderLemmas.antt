-- A header is spelled exactly where it is read.
use Rattle.std.proofs.Common.{[], ◌≡◌, ℕ, ◌<◌, ◌≤◌, ◌⊎◌, Bool, true, false, ◌||◌, cond, List, ◌∷◌, length, get_or, Option, Some, Result, Ok, Err, refl, sym, ap, subst, ◌∙◌, arith, inl, inr}
use Rattle.std.specs.Prelude.{◌==◌, ◌↔◌, bytes_eq, find, nat_lt}
use Rattle.std.proofs.lemmas.Bool.{eq-eqb, eqb-true, le-ltb, ltb-false}
use Rattle.std.proofs.lemmas.Slice.Eq.{bytes_eq-Decides}
use Rattle.vpf_triplet.specs.Inner.KindLaws.{length-kind}
use Rattle.vpf_base.specs.Results.{◌>>=◌}
use Rattle.vpf_base.specs.Bytes.{IsBytes}
use Rattle.vpf_base.proofs.Results.{guarded, ok_is}
use Rattle.vpf_base.proofs.Booleans.{or_true, same_bool}
use Rattle.vpf_base.specs.declared.orders.Order.{Order}
use Rattle.vpf_triplet.specs.declared.kinds.Kind.{Kind}
use Rattle.vpf_triplet.specs.declared.kinds.Kind.TheVariants as kinds
use Rattle.vpf_triplet.specs.declared.places.Place.{Place}
use Rattle.vpf_triplet.specs.declared.places.Code.TheVariants as codes
use Rattle.vpf_triplet.specs.Kinds.{kind_text}
use Rattle.vpf_triplet.specs.Places.{theme_fault}
use Rattle.vpf_theme.specs.declared.layout.Form.{Form}
use Rattle.vpf_theme.specs.declared.layout.Form.TheVariants as forms
use Rattle.vpf_theme.specs.declared.layout.RowSize.{RowSize}
use Rattle.vpf_theme.specs.declared.layout.RowSize.TheVariants as sizes
use Rattle.vpf_theme.specs.declared.layout.Layout.{Layout}
use Rattle.vpf_theme.specs.Layouts.{HasValues, asked, allowed_count, directory_end, header_fields, form_in, form_text, is_count, is_indexed, is_size, indexed_kinds, is_sorted_mark, indexed_kind_of, layout_of, row_size_of, row_size_text, sized_layout, u32_at}
use Rattle.vpf_theme.specs.Spelling.{IsThemeHeader, StandsAt}
use Rattle.vpf_theme.proofs.PieceLemmas.{byte_stands, letter_there, u32_stands, u32_there}
use Rattle.vpf_base.proofs.Options.{count_case}
use Rattle.vpf_theme.specs.Inner.HeaderLaws.{length-form, length-size, asked_some, from_size, layout_with, from_kind, from_count}

-- ---- letters

pub form_again : (form : Form) → form_in (get_or (form_text form) 0 0) ≡ Some form
form_again forms.List = refl
form_again forms.Bitmap = refl

pub kind_again : (kind : Kind) → is_indexed kind ≡ true → indexed_kind_of (get_or (kind_text kind) 0 0) ≡ Some kind
kind_again kinds.T h = refl
kind_again kinds.L h = refl
kind_again kinds.M h = refl
kind_again kinds.N h = refl
kind_again kinds.F h = refl
kind_again kinds.R h = refl
kind_again kinds.S h = refl
kind_again kinds.I h = refl
kind_again kinds.D h = refl
kind_again kinds.X h = absurd (cc h)
kind_again kinds.K h = absurd (cc h)
kind_again kinds.C h = absurd (cc h)
kind_again kinds.B h = absurd (cc h)
kind_again kinds.Z h = absurd (cc h)
kind_again kinds.Y h = absurd (cc h)

pub size_again : (size : RowSize) → row_size_of (get_or (row_size_text size) 0 0) ≡ Some size
size_again sizes.Short = refl
size_again sizes.Long = refl

-- ---- what is spelled is read

mark_told : (b : ℕ) → is_sorted_mark b ≡ true → b ≡ 83
mark_told b h = let e = (bytes_eq-Decides (b ∷ []) (83 ∷ [])).0 h in cc e

mark_again : (bytes : List ℕ) (sorted : Bool) → 60 ≤ length bytes → (sorted ≡ true) ↔ StandsAt bytes 56 (83 ∷ []) → is_sorted_mark (get_or bytes 56 0) ≡ sorted
mark_again bytes sorted long is = same_bool (is_sorted_mark (get_or bytes 56 0)) sorted (λ h. is.1 (byte_stands bytes 56 83 (omega arith) (mark_told (get_or bytes 56 0) h))) (λ h. let e = letter_there bytes (83 ∷ []) 56 refl (is.0 h) in rw e refl)

fields_again : (l : Layout) (bytes : List ℕ) → HasValues l → IsThemeHeader l bytes → header_fields l.order bytes ≡ Ok l
unfolding header_fields
fields_again l bytes v h =
    let form = ap form_in (letter_there bytes (form_text l.form) 12 (length-form l.form) h.form) ∙ form_again l.form in
    let kind = ap indexed_kind_of (letter_there bytes (kind_text l.kind) 13 (length-kind l.kind) h.kind) ∙ kind_again l.kind v.0 in
    let size = ap row_size_of (letter_there bytes (row_size_text l.row_size) 18 (length-size l.row_size) h.row_size) ∙ size_again l.row_size in
    let count = u32_there l.order l.count bytes 14 h.count in
    let counts : is_count l.kind l.count ≡ true = v.1 in
    let rows = u32_there l.order l.rows bytes 8 h.rows in
    let entries = u32_there l.order l.entries bytes 4 h.entries in
    let mark = mark_again bytes l.sorted h.long h.sorted in
    rw (form, kind, count, counts, size, rows, entries, mark) refl

size_there : (l : Layout) (bytes : List ℕ) → IsThemeHeader l bytes → is_size l (u32_at l.order bytes 0) ≡ true
size_there l bytes h = elim h.size [
  | inl s ↦ let e = u32_there l.order 60 bytes 0 s in rw e refl
  | inr s ↦ let e = u32_there l.order (directory_end l) bytes 0 s in rw (e, eq-eqb (directory_end l) (directory_end l) refl) (or_true (directory_end l == 60))
]

pub layout_again : (l : Layout) (bytes : List ℕ) → HasValues l → IsThemeHeader l bytes → layout_of l.order bytes ≡ Ok l
unfolding layout_of
layout_again l bytes v h = rw (le-ltb (length bytes) 60 h.long, fields_again l bytes v h, size_there l bytes h) refl

-- ---- what is read is spelled

abbrev EachOf : {X : Type 0} → (X → Type 0) → List X → Type 0
EachOf P [] = Unit {0}
EachOf P (x ∷ xs) = P x × EachOf P xs

found_case : {X : Type 0} (P : X → Type 0) (p : X → Bool) (b : Bool) (y x : X) (rest : Option X) → p y ≡ b → P y → cond b (Some y) rest ≡ Some x → (rest ≡ Some x → (p x ≡ true) × P x) → (p x ≡ true) × P x
found_case P p true y x rest t h e f = let k : y ≡ x = cc e in subst (λ z. (p z ≡ true) × P z) k (t, h)
found_case P p false y x rest t h e f = f e

found_one : {X : Type 0} (P : X → Type 0) (p : X → Bool) (xs : List X) (x : X) → EachOf P xs → find p xs ≡ Some x → (p x ≡ true) × P x
found_one P p [] x h e = absurd (cc e)
found_one P p (y ∷ xs) x h e = found_case P p (p y) y x (find p xs) refl h.0 e (found_one P p xs x h.1)

letter_stands : (bytes piece : List ℕ) (at : ℕ) → at < length bytes → bytes_eq (get_or bytes at 0 ∷ []) piece ≡ true → StandsAt bytes at piece
letter_stands bytes piece at h t = subst (StandsAt bytes at) ((bytes_eq-Decides (get_or bytes at 0 ∷ []) piece).0 t) (byte_stands bytes at (get_or bytes at 0) h refl)

pub form_stands : (bytes : List ℕ) (at : ℕ) (form : Form) → at < length bytes → form_in (get_or bytes at 0) ≡ Some form → StandsAt bytes at (form_text form)
form_stands bytes at form h e = letter_stands bytes (form_text form) at h (found_one (λ (x : Form). Unit {0}) (λ (x : Form). bytes_eq (get_or bytes at 0 ∷ []) (form_text x)) (forms.List ∷ forms.Bitmap ∷ []) form (tt, (tt, tt)) e).0

pub size_stands : (bytes : List ℕ) (at : ℕ) (size : RowSize) → at < length bytes → row_size_of (get_or bytes at 0) ≡ Some size → StandsAt bytes at (row_size_text size)
size_stands bytes at size h e = letter_stands bytes (row_size_text size) at h (found_one (λ (x : RowSize). Unit {0}) (λ (x : RowSize). bytes_eq (get_or bytes at 0 ∷ []) (row_size_text x)) (sizes.Short ∷ sizes.Long ∷ []) size (tt, (tt, tt)) e).0

pub kind_stands : (bytes : List ℕ) (at : ℕ) (kind : Kind) → at < length bytes → indexed_kind_of (get_or bytes at 0) ≡ Some kind → (is_indexed kind ≡ true) × StandsAt bytes at (kind_text kind)
kind_stands bytes at kind h e =
    let f = found_one (λ (x : Kind). is_indexed x ≡ true) (λ (x : Kind). bytes_eq (get_or bytes at 0 ∷ []) (kind_text x)) indexed_kinds kind (refl, (refl, (refl, (refl, (refl, (refl, (refl, (refl, (refl, tt))))))))) e in
    (f.1, letter_stands bytes (kind_text kind) at h f.0)

pub then_ok : {A B : Type 0} (r : Result A Place) (next : A → Result B Place) (y : B) → (r >>= next) ≡ Ok y → (x : A) × (r ≡ Ok x) × (next x ≡ Ok y)
then_ok (Ok x) next y e = (x, refl, e)
then_ok (Err p) next y e = absurd (cc e)

abbrev pub from_form : Order → List ℕ → Form → Result Layout Place
from_form o bytes form = asked 13 codes.ThemeKind (indexed_kind_of (get_or bytes 13 0)) >>= from_kind o bytes form

-- what the fields say
record Read (o : Order) (bytes : List ℕ) (l : Layout) : Type 0 where
  order : l.order ≡ o
  form : form_in (get_or bytes 12 0) ≡ Some l.form
  kind : indexed_kind_of (get_or bytes 13 0) ≡ Some l.kind
  counted : is_count l.kind l.count ≡ true
  count : u32_at o bytes 14 ≡ l.count
  row_size : row_size_of (get_or bytes 18 0) ≡ Some l.row_size
  rows : u32_at o bytes 8 ≡ l.rows
  entries : u32_at o bytes 4 ≡ l.entries
  sorted : is_sorted_mark (get_or bytes 56 0) ≡ l.sorted

fields_read : (o : Order) (bytes : List ℕ) (l : Layout) → header_fields o bytes ≡ Ok l → Read o bytes l
unfolding header_fields
fields_read o bytes l e =
    let form = then_ok (asked 12 codes.ThemeForm (form_in (get_or bytes 12 0))) (from_form o bytes) l e in
    let kind = then_ok (asked 13 codes.ThemeKind (indexed_kind_of (get_or bytes 13 0))) (from_kind o bytes form.0) l form.2 in
    let count = then_ok (asked 14 codes.ThemeCount (allowed_count kind.0 (u32_at o bytes 14))) (from_count o bytes form.0 kind.0) l kind.2 in
    let size = then_ok (asked 18 codes.ThemeRowtype (row_size_of (get_or bytes 18 0))) (from_size o bytes form.0 kind.0 count.0) l count.2 in
    let is : layout_with o bytes form.0 kind.0 count.0 size.0 ≡ l = ok_is {x = (layout_with o bytes form.0 kind.0 count.0 size.0)} {y = l} size.2 in
    let counted = count_case (is_count kind.0 (u32_at o bytes 14)) (u32_at o bytes 14) count.0 (asked_some 14 codes.ThemeCount (allowed_count kind.0 (u32_at o bytes 14)) count.0 count.1) in
    subst (Read o bytes) is (record {
      order = refl;
      form = asked_some 12 codes.ThemeForm (form_in (get_or bytes 12 0)) form.0 form.1;
      kind = asked_some 13 codes.ThemeKind (indexed_kind_of (get_or bytes 13 0)) kind.0 kind.1;
      counted = subst (λ (n : ℕ). is_count kind.0 n ≡ true) counted.1 counted.0;
      count = counted.1;
      row_size = asked_some 18 codes.ThemeRowtype (row_size_of (get_or bytes 18 0)) size.0 size.1;
      rows = refl;
      entries = refl;
      sorted = refl;
    })

size_case : (a b : Bool) → (a || b) ≡ true → (a ≡ true) ⊎ (b ≡ true)
size_case true b h = inl refl
size_case false b h = inr h

-- a layout that is read: it has values, and its header stands
pub record IsRead (o : Order) (bytes : List ℕ) (l : Layout) : Type 0 where
  pub order : l.order ≡ o
  pub values : HasValues l
  pub header : IsThemeHeader l bytes

header_from : (bytes : List ℕ) (l : Layout) → IsBytes bytes → 60 ≤ length bytes → Read l.order bytes l → is_size l (u32_at l.order bytes 0) ≡ true → IsRead l.order bytes l
header_from bytes l fits long r size =
    let o = l.order in
    let kind = kind_stands bytes 13 l.kind (omega arith) r.kind in
    record {
      order = refl;
      values = (kind.0, r.counted);
      header = record {
        long = long;
        size = elim (size_case (u32_at o bytes 0 == 60) (u32_at o bytes 0 == directory_end l) size) [
          | inl t ↦ inl (u32_stands o bytes 0 60 fits (omega arith) (eqb-true (u32_at o bytes 0) 60 t))
          | inr t ↦ inr (u32_stands o bytes 0 (directory_end l) fits (omega arith) (eqb-true (u32_at o bytes 0) (directory_end l) t))
        ];
        entries = u32_stands o bytes 4 l.entries fits (omega arith) r.entries;
        rows = u32_stands o bytes 8 l.rows fits (omega arith) r.rows;
        form = form_stands bytes 12 l.form (omega arith) r.form;
        kind = kind.1;
        count = u32_stands o bytes 14 l.count fits (omega arith) r.count;
        row_size = size_stands bytes 18 l.row_size (omega arith) r.row_size;
        sorted = (λ h. byte_stands bytes 56 83 (omega arith) (mark_told (get_or bytes 56 0) (r.sorted ∙ h)), λ s. let e = letter_there bytes (83 ∷ []) 56 refl s in sym r.sorted ∙ ap is_sorted_mark e);
      };
    }

passed : {A : Type 0} (b : Bool) (p : Place) (x y : A) → cond b (Ok x) (Err p) ≡ Ok y → (b ≡ true) × (x ≡ y)
passed true p x y e = (refl, cc e)
passed false p x y e = absurd (cc e)

pub layout_read : (o : Order) (bytes : List ℕ) (l : Layout) → IsBytes bytes → layout_of o bytes ≡ Ok l → IsRead o bytes l
unfolding layout_of
layout_read o bytes l fits e =
    let n = u32_at o bytes 0 in
    let g = guarded (nat_lt (length bytes) 60) (theme_fault 0 codes.ThemeCut) (header_fields o bytes >>= λ l. sized_layout n l) l e in
    let f = then_ok (header_fields o bytes) (λ l. sized_layout n l) l g.1 in
    let s = passed (is_size f.0 n) (theme_fault 0 codes.ThemeSize) f.0 l f.2 in
    let r = fields_read o bytes f.0 f.1 in
    let read : IsRead o bytes f.0 = subst (λ (x : Order). Read x bytes f.0 → is_size f.0 (u32_at x bytes 0) ≡ true → IsRead x bytes f.0) r.order (header_from bytes f.0 fits (ltb-false (length bytes) 60 g.0)) r s.0 in
    subst (IsRead o bytes) s.1 read
