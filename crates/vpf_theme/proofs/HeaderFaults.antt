-- A header is refused exactly at its first field that is wrong.
use Rattle.std.proofs.Common.{◌≡◌, ℕ, ◌≤◌, Bool, true, false, ◌||◌, cond, List, length, get_or, Option, Some, None, Result, Ok, Err, refl, ap, subst, ◌∙◌, arith}
use Rattle.std.specs.Prelude.{◌≢◌, ◌==◌, nat_lt}
use Rattle.std.proofs.lemmas.Bool.{eqb-false, le-ltb, lt-ltb, ltb-false, ltb-true, ne_eqb}
use Rattle.vpf_triplet.specs.Inner.KindLaws.{length-kind}
use Rattle.vpf_base.specs.Results.{◌>>=◌}
use Rattle.vpf_base.specs.Bytes.{IsBytes}
use Rattle.vpf_base.proofs.Booleans.{neither}
use Rattle.vpf_base.proofs.Results.{failed, err_is, no_ok, ok_is}
use Rattle.vpf_base.specs.declared.orders.Order.{Order}
use Rattle.vpf_triplet.specs.declared.kinds.Kind.{Kind}
use Rattle.vpf_triplet.specs.declared.places.Place.{Place}
use Rattle.vpf_triplet.specs.declared.places.Code.{Code}
use Rattle.vpf_triplet.specs.declared.places.Code.TheVariants as codes
use Rattle.vpf_triplet.specs.Kinds.{kind_text}
use Rattle.vpf_triplet.specs.Places.{theme_fault}
use Rattle.vpf_theme.specs.declared.layout.Form.{Form}
use Rattle.vpf_theme.specs.declared.layout.RowSize.{RowSize}
use Rattle.vpf_theme.specs.declared.layout.Layout.{Layout}
use Rattle.vpf_theme.specs.Inner.Faults as faults
use Rattle.vpf_theme.specs.Inner.Faults.{HasForm, HasKind, HasCount, HasRowSize, HeaderFault}
use Rattle.vpf_theme.specs.Layouts.{asked, allowed_count, directory_end, header_fields, form_in, form_text, is_count, is_size, indexed_kind_of, layout_of, row_size_of, row_size_text, sized_layout, u32_at}
use Rattle.vpf_theme.specs.Spelling.{StandsAt}
use Rattle.vpf_theme.proofs.HeaderLemmas.{form_again, form_stands, from_form, kind_again, kind_stands, size_again, size_stands, then_ok}
use Rattle.vpf_theme.specs.Inner.HeaderLaws.{from_count, from_kind, from_size, layout_with, length-size, length-form}
use Rattle.vpf_theme.proofs.PieceLemmas.{letter_there, u32_stands, u32_there}

none_some : {X : Type 0} (x : X) (o : Option X) → o ≡ None → o ≡ Some x → ⊥
none_some x o e f = cc

-- ---- letters

form_told : (bytes : List ℕ) (form : Form) → StandsAt bytes 12 (form_text form) → form_in (get_or bytes 12 0) ≡ Some form
form_told bytes form s = ap form_in (letter_there bytes (form_text form) 12 (length-form form) s) ∙ form_again form

kind_told : (bytes : List ℕ) (kind : Kind) → HasKind kind bytes → indexed_kind_of (get_or bytes 13 0) ≡ Some kind
kind_told bytes kind h = ap indexed_kind_of (letter_there bytes (kind_text kind) 13 (length-kind kind) h.1) ∙ kind_again kind h.0

size_told : (bytes : List ℕ) (size : RowSize) → HasRowSize size bytes → row_size_of (get_or bytes 18 0) ≡ Some size
size_told bytes size s = ap row_size_of (letter_there bytes (row_size_text size) 18 (length-size size) s) ∙ size_again size

-- ---- what is asked for isn't there

unasked : {X : Type 0} (at : ℕ) (code : Code) (o : Option X) (p : Place) → asked at code o ≡ failed p → (o ≡ None) × (theme_fault at code ≡ p)
unasked at code None p e = (refl, err_is e)
unasked at code (Some x) p e = absurd (no_ok x p e)

uncounted : (kind : Kind) (n : ℕ) → allowed_count kind n ≡ None → is_count kind n ≡ false
uncounted kind n e = by (is_count kind n) refl e
  where
    by : (t : Bool) → is_count kind n ≡ t → cond t (Some n) None ≡ None → is_count kind n ≡ false
    by true q f = absurd (none_some n (Some n) f refl)
    by false q f = q

counted : (kind : Kind) (n m : ℕ) → allowed_count kind n ≡ Some m → (is_count kind n ≡ true) × (n ≡ m)
counted kind n m e = by (is_count kind n) refl e
  where
    by : (t : Bool) → is_count kind n ≡ t → cond t (Some n) None ≡ Some m → (is_count kind n ≡ true) × (n ≡ m)
    by true q f = (q, cc)
    by false q f = absurd cc

next_err : {A B : Type 0} (r : Result A Place) (f : A → Result B Place) (p : Place) (C : Type 0) → (r >>= f) ≡ Err p → (r ≡ failed p → C) → ((x : A) → r ≡ Ok x → f x ≡ Err p → C) → C
next_err (Ok x) f p C e bad good = good x refl e
next_err {A = A} (Err q) f p C e bad good = bad (let k : q ≡ p = err_is e in ap (λ (x : Place). let r : Result A Place = Err x in r) k)

asked_is : {X : Type 0} (at : ℕ) (code : Code) (o : Option X) (x : X) → asked at code o ≡ Ok x → o ≡ Some x
asked_is at code None x e = absurd cc
asked_is at code (Some y) x e = let k : y ≡ x = cc in ap (λ z. Some z) k

fields_fault : (o : Order) (bytes : List ℕ) (p : Place) → IsBytes bytes → 60 ≤ length bytes → header_fields o bytes ≡ Err p → HeaderFault o bytes p
unfolding header_fields
fields_fault o bytes p fits long e =
    let n = u32_at o bytes 14 in
    let stands = u32_stands o bytes 14 n fits (omega arith) refl in
    next_err (asked 12 codes.ThemeForm (form_in (get_or bytes 12 0))) (from_form o bytes) p (HeaderFault o bytes p) e
    (λ f. let u = unasked 12 codes.ThemeForm (form_in (get_or bytes 12 0)) p f in subst (HeaderFault o bytes) u.1 (faults.no_form long (λ form s. none_some form (form_in (get_or bytes 12 0)) u.0 (form_told bytes form s))))
    (λ form is f.
    let has : HasForm form bytes = (long, form_stands bytes 12 form (omega arith) (asked_is 12 codes.ThemeForm (form_in (get_or bytes 12 0)) form is)) in
    next_err (asked 13 codes.ThemeKind (indexed_kind_of (get_or bytes 13 0))) (from_kind o bytes form) p (HeaderFault o bytes p) f
    (λ g. let u = unasked 13 codes.ThemeKind (indexed_kind_of (get_or bytes 13 0)) p g in subst (HeaderFault o bytes) u.1 (faults.no_kind form has (λ kind k. none_some kind (indexed_kind_of (get_or bytes 13 0)) u.0 (kind_told bytes kind k))))
    (λ kind is2 g.
    let has2 : HasKind kind bytes = kind_stands bytes 13 kind (omega arith) (asked_is 13 codes.ThemeKind (indexed_kind_of (get_or bytes 13 0)) kind is2) in
    next_err (asked 14 codes.ThemeCount (allowed_count kind n)) (from_count o bytes form kind) p (HeaderFault o bytes p) g
    (λ h. let u = unasked 14 codes.ThemeCount (allowed_count kind n) p h in subst (HeaderFault o bytes) u.1 (faults.no_count form kind n has has2 stands (uncounted kind n u.0)))
    (λ count is3 h.
    let c = counted kind n count (asked_is 14 codes.ThemeCount (allowed_count kind n) count is3) in
    next_err (asked 18 codes.ThemeRowtype (row_size_of (get_or bytes 18 0))) (from_size o bytes form kind count) p (HeaderFault o bytes p) h
    (λ j. let u = unasked 18 codes.ThemeRowtype (row_size_of (get_or bytes 18 0)) p j in subst (HeaderFault o bytes) u.1 (faults.no_row_size form kind n has has2 (stands, c.0) (λ size s. none_some size (row_size_of (get_or bytes 18 0)) u.0 (size_told bytes size s))))
    (λ size is4 j. absurd (no_ok (layout_with o bytes form kind count size) p j)))))

-- what the fields say
record Fields (o : Order) (bytes : List ℕ) (l : Layout) : Type 0 where
  form : HasForm l.form bytes
  kind : HasKind l.kind bytes
  count : HasCount o l.kind l.count bytes
  row_size : HasRowSize l.row_size bytes
  entries : u32_at o bytes 4 ≡ l.entries

fields_stand : (o : Order) (bytes : List ℕ) (l : Layout) → IsBytes bytes → 60 ≤ length bytes → header_fields o bytes ≡ Ok l → Fields o bytes l
unfolding header_fields
fields_stand o bytes l fits long e =
    let n = u32_at o bytes 14 in
    let form = then_ok (asked 12 codes.ThemeForm (form_in (get_or bytes 12 0))) (from_form o bytes) l e in
    let kind = then_ok (asked 13 codes.ThemeKind (indexed_kind_of (get_or bytes 13 0))) (from_kind o bytes form.0) l form.2 in
    let count = then_ok (asked 14 codes.ThemeCount (allowed_count kind.0 n)) (from_count o bytes form.0 kind.0) l kind.2 in
    let size = then_ok (asked 18 codes.ThemeRowtype (row_size_of (get_or bytes 18 0))) (from_size o bytes form.0 kind.0 count.0) l count.2 in
    let c = counted kind.0 n count.0 (asked_is 14 codes.ThemeCount (allowed_count kind.0 n) count.0 count.1) in
    let stands = u32_stands o bytes 14 n fits (omega arith) refl in
    let has : HasCount o kind.0 count.0 bytes = subst (λ (m : ℕ). HasCount o kind.0 m bytes) c.1 (stands, c.0) in
    let is : layout_with o bytes form.0 kind.0 count.0 size.0 ≡ l = ok_is size.2 in
    subst (Fields o bytes) is (record {
      form = (long, form_stands bytes 12 form.0 (omega arith) (asked_is 12 codes.ThemeForm (form_in (get_or bytes 12 0)) form.0 form.1));
      kind = kind_stands bytes 13 kind.0 (omega arith) (asked_is 13 codes.ThemeKind (indexed_kind_of (get_or bytes 13 0)) kind.0 kind.1);
      count = has;
      row_size = size_stands bytes 18 size.0 (omega arith) (asked_is 18 codes.ThemeRowtype (row_size_of (get_or bytes 18 0)) size.0 size.1);
      entries = refl;
    })

size_fault : (o : Order) (bytes : List ℕ) (l : Layout) (p : Place) → IsBytes bytes → 60 ≤ length bytes → header_fields o bytes ≡ Ok l → sized_layout (u32_at o bytes 0) l ≡ Err p → HeaderFault o bytes p
size_fault o bytes l p fits long is e = by (is_size l (u32_at o bytes 0)) refl e
  where
    by : (t : Bool) → is_size l (u32_at o bytes 0) ≡ t → cond t (Ok l) (Err (theme_fault 0 codes.ThemeSize)) ≡ failed p → HeaderFault o bytes p
    by true q f = absurd (no_ok l p f)
    by false q f =
        let h = fields_stand o bytes l fits long is in
        let no = neither (u32_at o bytes 0 == 60) (u32_at o bytes 0 == directory_end l) q in
        let entries = u32_stands o bytes 4 l.entries fits (omega arith) h.entries in
        let first = u32_stands o bytes 0 (u32_at o bytes 0) fits (omega arith) refl in
        subst (HeaderFault o bytes) (err_is f) (faults.no_size l (u32_at o bytes 0) h.form h.kind h.count h.row_size entries first (eqb-false _ _ no.0) (eqb-false _ _ no.1))

pub header_fault : (o : Order) (bytes : List ℕ) (p : Place) → IsBytes bytes → layout_of o bytes ≡ Err p → HeaderFault o bytes p
unfolding layout_of
header_fault o bytes p fits e = by (nat_lt (length bytes) 60) refl e
  where
    by : (t : Bool) → nat_lt (length bytes) 60 ≡ t → cond t (Err (theme_fault 0 codes.ThemeCut)) (header_fields o bytes >>= λ l. sized_layout (u32_at o bytes 0) l) ≡ failed p → HeaderFault o bytes p
    by true q f = subst (HeaderFault o bytes) (err_is f) (faults.short (ltb-true _ _ q))
    by false q f =
        let long : 60 ≤ length bytes = ltb-false _ _ q in
        next_err (header_fields o bytes) (λ l. sized_layout (u32_at o bytes 0) l) p (HeaderFault o bytes p) f (λ g. fields_fault o bytes p fits long g) (λ l is g. size_fault o bytes l p fits long is g)

-- ---- a fault refuses

none_by : {X : Type 0} (o : Option X) → ((x : X) → o ≡ Some x → ⊥) → o ≡ None
none_by None h = refl
none_by (Some x) h = absurd (h x refl)

count_none : (kind : Kind) (n : ℕ) → is_count kind n ≡ false → allowed_count kind n ≡ None
count_none kind n e = rw e refl

count_some : (kind : Kind) (n : ℕ) → is_count kind n ≡ true → allowed_count kind n ≡ Some n
count_some kind n e = rw e refl

fields_fail : (o : Order) (bytes : List ℕ) (p : Place) → 60 ≤ length bytes → header_fields o bytes ≡ Err p → layout_of o bytes ≡ Err p
unfolding layout_of
fields_fail o bytes p long e = rw (le-ltb (length bytes) 60 long, e) refl

form_fails : (o : Order) (bytes : List ℕ) → form_in (get_or bytes 12 0) ≡ None → header_fields o bytes ≡ Err (theme_fault 12 codes.ThemeForm)
unfolding header_fields
form_fails o bytes e = rw e refl

kind_fails : (o : Order) (bytes : List ℕ) (form : Form) → HasForm form bytes → indexed_kind_of (get_or bytes 13 0) ≡ None → header_fields o bytes ≡ Err (theme_fault 13 codes.ThemeKind)
unfolding header_fields
kind_fails o bytes form f e = rw (form_told bytes form f.1, e) refl

count_fails : (o : Order) (bytes : List ℕ) (form : Form) (kind : Kind) (n : ℕ) → HasForm form bytes → HasKind kind bytes → u32_at o bytes 14 ≡ n → is_count kind n ≡ false → header_fields o bytes ≡ Err (theme_fault 14 codes.ThemeCount)
unfolding header_fields
count_fails o bytes form kind n f k at e = rw (form_told bytes form f.1, kind_told bytes kind k, at, count_none kind n e) refl

size_fails : (o : Order) (bytes : List ℕ) (form : Form) (kind : Kind) (n : ℕ) → HasForm form bytes → HasKind kind bytes → HasCount o kind n bytes → row_size_of (get_or bytes 18 0) ≡ None → header_fields o bytes ≡ Err (theme_fault 18 codes.ThemeRowtype)
unfolding header_fields
size_fails o bytes form kind n f k c e = rw (form_told bytes form f.1, kind_told bytes kind k, u32_there o n bytes 14 c.0, count_some kind n c.1, e) refl

fields_told : (o : Order) (bytes : List ℕ) (l : Layout) → HasForm l.form bytes → HasKind l.kind bytes → HasCount o l.kind l.count bytes → HasRowSize l.row_size bytes → header_fields o bytes ≡ Ok (layout_with o bytes l.form l.kind l.count l.row_size)
unfolding header_fields
fields_told o bytes l f k c s = rw (form_told bytes l.form f.1, kind_told bytes l.kind k, u32_there o l.count bytes 14 c.0, count_some l.kind l.count c.1, size_told bytes l.row_size s) refl

no_size : (n a b : ℕ) → n ≢ a → n ≢ b → ((n == a) || (n == b)) ≡ false
no_size n a b x y = rw (ne_eqb n a x, ne_eqb n b y) refl

sizes_fail : (o : Order) (bytes : List ℕ) (l k : Layout) (n : ℕ) → 60 ≤ length bytes → header_fields o bytes ≡ Ok k → u32_at o bytes 0 ≡ n → directory_end k ≡ directory_end l → n ≢ 60 → n ≢ directory_end l → layout_of o bytes ≡ Err (theme_fault 0 codes.ThemeSize)
unfolding layout_of
sizes_fail o bytes l k n long e first same x y =
    let none : is_size k n ≡ false = no_size n 60 (directory_end k) x (λ z. y (z ∙ same)) in
    rw (le-ltb (length bytes) 60 long, e, first, none) refl

pub header_refused : (o : Order) (bytes : List ℕ) (p : Place) → HeaderFault o bytes p → layout_of o bytes ≡ Err p
unfolding layout_of
header_refused o bytes p (faults.short h) = rw (lt-ltb (length bytes) 60 h) refl
header_refused o bytes p (faults.no_form long none) = fields_fail o bytes p long (form_fails o bytes (none_by (form_in (get_or bytes 12 0)) (λ form e. none form (form_stands bytes 12 form (omega (arith, long)) e))))
header_refused o bytes p (faults.no_kind form f none) = fields_fail o bytes p f.0 (kind_fails o bytes form f (none_by (indexed_kind_of (get_or bytes 13 0)) (λ kind e. none kind (kind_stands bytes 13 kind (omega (arith, f.0)) e))))
header_refused o bytes p (faults.no_count form kind n f k s bad) = fields_fail o bytes p f.0 (count_fails o bytes form kind n f k (u32_there o n bytes 14 s) bad)
header_refused o bytes p (faults.no_row_size form kind n f k c none) = fields_fail o bytes p f.0 (size_fails o bytes form kind n f k c (none_by (row_size_of (get_or bytes 18 0)) (λ size e. none size (size_stands bytes 18 size (omega (arith, f.0)) e))))
header_refused o bytes p (faults.no_size l n f k c s entries first x y) =
    let made = layout_with o bytes l.form l.kind l.count l.row_size in
    let same : directory_end made ≡ directory_end l = rw (u32_there o l.entries bytes 4 entries) refl in
    sizes_fail o bytes l made n f.0 (fields_told o bytes l f k c s) (u32_there o n bytes 0 first) same x y
