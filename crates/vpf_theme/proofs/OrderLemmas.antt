-- The order of values is total on those of one field, and a test tells equal values.
use Rattle.std.proofs.Common.{◌≡◌, ℕ, ℤ, pos, Bool, true, false, cond, nat_lt, List, [], length, Ok, Err, refl, sym, ap, subst, ◌∙◌}
use Rattle.std.specs.Prelude.{IsTrue}
use Rattle.std.specs.Cmp.{IsTotalOrder}
use Rattle.std.specs.Cmp.Lexicographic.{slice_cmp}
use Rattle.std.proofs.Common.{Ordering, Less, Equal, Greater}
use Rattle.std.specs.Ordering.{nat_cmp, int_cmp, is_eq, on, then_cmp, ordering_reverse, ordering_then}
use Rattle.std.proofs.lemmas.Bool.{false≢true}
use Rattle.std.proofs.lemmas.Cmp.{ranked, int_ranked, on_total, then_total, nat_cmp_total, int_cmp_total, nat_list_cmp_total, tied_itself}
use Rattle.std.proofs.lemmas.Map.Text.{is_eq-slice_cmp}
use Rattle.std.proofs.lemmas.Slice.Eq.{bytes_eq-Decides}
use Rattle.vpf_base.specs.declared.orders.Order.{Order}
use Rattle.vpf_triplet.specs.declared.kinds.Kind.{Kind}
use Rattle.vpf_triplet.specs.declared.kinds.Kind.TheVariants as kinds
use Rattle.vpf_triplet.specs.declared.kinds.Count.{Count}
use Rattle.vpf_triplet.specs.declared.kinds.Count.TheVariants.{Fixed}
use Rattle.vpf_triplet.specs.declared.places.Code.TheVariants as codes
use Rattle.vpf_value.specs.Values.{Value, TextOf, Word4Of, Word8Of, NumberOf, DateOf, Nothing, TripletOf, WordsOf}
use Rattle.vpf_value.specs.Inner.Fitting.{FitsKind}
use Rattle.vpf_value.specs.Reading.{CellAnswer, cell_from, sized}
use Rattle.vpf_theme.specs.Layouts.{is_indexed}
use Rattle.vpf_theme.specs.Ordering.{sort_rank, value_cmp}

-- ---- the order is total

abbrev text_in : Value → List ℕ
text_in (TextOf t) = t
text_in (DateOf t) = t
text_in v = []

abbrev word_in : Value → ℕ
word_in (Word4Of n) = n
word_in (Word8Of n) = n
word_in v = 0

abbrev number_in : Value → ℤ
number_in (NumberOf z) = z
number_in v = pos 0

-- by the sort, and then by what a value of the sort holds
abbrev parts_cmp : Value → Value → Ordering
parts_cmp = then_cmp (on sort_rank nat_cmp) (then_cmp (on text_in (slice_cmp nat_cmp)) (then_cmp (on word_in nat_cmp) (on number_in int_cmp)))

parts_total : IsTotalOrder parts_cmp
parts_total = then_total (on_total sort_rank nat_cmp_total) (then_total (on_total text_in nat_list_cmp_total) (then_total (on_total word_in nat_cmp_total) (on_total number_in int_cmp_total)))

then_equal : (o : Ordering) → ordering_then o Equal ≡ o
then_equal Less = refl
then_equal Equal = refl
then_equal Greater = refl

other_parts : (b : Value) → nat_cmp 5 (sort_rank b) ≡ ordering_then (nat_cmp 5 (sort_rank b)) (ordering_then (slice_cmp nat_cmp [] (text_in b)) (ordering_then (nat_cmp 0 (word_in b)) (int_cmp (pos 0) (number_in b))))
other_parts (TextOf b) = refl
other_parts (DateOf b) = refl
other_parts (Word4Of b) = refl
other_parts (Word8Of b) = refl
other_parts (NumberOf b) = refl
other_parts b = refl

by_parts : (a b : Value) → value_cmp a b ≡ parts_cmp a b
by_parts Nothing b = other_parts b
by_parts (TripletOf a) b = other_parts b
by_parts (WordsOf w a) b = other_parts b
by_parts (TextOf a) (TextOf b) = sym (then_equal (slice_cmp nat_cmp a b))
by_parts (DateOf a) (DateOf b) = sym (then_equal (slice_cmp nat_cmp a b))
by_parts (Word4Of a) (Word4Of b) = sym (then_equal (nat_cmp a b))
by_parts (Word8Of a) (Word8Of b) = sym (then_equal (nat_cmp a b))
by_parts (NumberOf a) (NumberOf b) = refl
by_parts a b = refl

pub values_total : IsTotalOrder value_cmp
values_total = record {
  antisymm = λ a b. by_parts a b ∙ parts_total.antisymm a b ∙ ap ordering_reverse (sym (by_parts b a));
  trans = λ a b c x y. by_parts a c ∙ parts_total.trans a b c (sym (by_parts a b) ∙ x) (sym (by_parts b c) ∙ y);
  congr = λ a b c x. by_parts a c ∙ parts_total.congr a b c (sym (by_parts a b) ∙ x) ∙ sym (by_parts b c);
}

pub cmp_trans : (a b c : Value) → value_cmp a b ≡ Less → value_cmp b c ≡ Less → value_cmp a c ≡ Less
cmp_trans a b c x y = values_total.trans a b c x y

pub cmp_back : (a b : Value) → value_cmp a b ≡ Greater → value_cmp b a ≡ Less
cmp_back a b x = values_total.antisymm b a ∙ ap ordering_reverse x

pub cmp_apart : (a b : Value) → value_cmp a b ≡ Less → a ≡ b → ⊥
cmp_apart a b x e = let y = tied_itself values_total a in let z : value_cmp a b ≡ value_cmp a a = ap (value_cmp a) (sym e) in let w : Less ≡ Equal = sym x ∙ z ∙ y in cc w

-- ---- the values of one field

pub data Sort : Type 0 where
  Texts : Sort
  Words4 : Sort
  Words8 : Sort
  Numbers : Sort
  Dates : Sort

abbrev pub IsOf : Sort → Value → Type 0
IsOf Texts (TextOf t) = Unit {0}
IsOf Words4 (Word4Of n) = Unit {0}
IsOf Words8 (Word8Of n) = Unit {0}
IsOf Numbers (NumberOf z) = Unit {0}
IsOf Dates (DateOf t) = Unit {0}
IsOf s v = ⊥

same_text : (a b : List ℕ) → slice_cmp nat_cmp a b ≡ Equal → a ≡ b
same_text a b e = (bytes_eq-Decides a b).0 (sym (is_eq-slice_cmp a b) ∙ ap is_eq e)

pub cmp_equal : (s : Sort) (a b : Value) → IsOf s a → IsOf s b → value_cmp a b ≡ Equal → a ≡ b
cmp_equal Texts (TextOf a) (TextOf b) h k e = ap TextOf (same_text a b e)
cmp_equal Texts (TextOf a) b h k e = absurd k
cmp_equal Texts a b h k e = absurd h
cmp_equal Words4 (Word4Of a) (Word4Of b) h k e = ap Word4Of (ranked a b Equal (sym e))
cmp_equal Words4 (Word4Of a) b h k e = absurd k
cmp_equal Words4 a b h k e = absurd h
cmp_equal Words8 (Word8Of a) (Word8Of b) h k e = ap Word8Of (ranked a b Equal (sym e))
cmp_equal Words8 (Word8Of a) b h k e = absurd k
cmp_equal Words8 a b h k e = absurd h
cmp_equal Numbers (NumberOf a) (NumberOf b) h k e = ap NumberOf (int_ranked a b Equal (sym e))
cmp_equal Numbers (NumberOf a) b h k e = absurd k
cmp_equal Numbers a b h k e = absurd h
cmp_equal Dates (DateOf a) (DateOf b) h k e = ap DateOf (same_text a b e)
cmp_equal Dates (DateOf a) b h k e = absurd k
cmp_equal Dates a b h k e = absurd h

-- ---- kinds

abbrev pub sort_of : Kind → Sort
sort_of kinds.F = Words4
sort_of kinds.R = Words8
sort_of kinds.S = Numbers
sort_of kinds.I = Numbers
sort_of kinds.D = Dates
sort_of kind = Texts

pub of_fits : (kind : Kind) (count : Count) (v : Value) → IsTrue (is_indexed kind) → FitsKind kind count v → IsOf (sort_of kind) v
of_fits kinds.T count (TextOf t) i f = tt
of_fits kinds.T count v i f = absurd f
of_fits kinds.L count (TextOf t) i f = tt
of_fits kinds.L count v i f = absurd f
of_fits kinds.M count (TextOf t) i f = tt
of_fits kinds.M count v i f = absurd f
of_fits kinds.N count (TextOf t) i f = tt
of_fits kinds.N count v i f = absurd f
of_fits kinds.F count (Word4Of n) i f = tt
of_fits kinds.F count v i f = absurd f
of_fits kinds.R count (Word8Of n) i f = tt
of_fits kinds.R count v i f = absurd f
of_fits kinds.S count (NumberOf z) i f = tt
of_fits kinds.S count v i f = absurd f
of_fits kinds.I count (NumberOf z) i f = tt
of_fits kinds.I count v i f = absurd f
of_fits kinds.D count (DateOf t) i f = tt
of_fits kinds.D count v i f = absurd f
of_fits kind count v i f = absurd (false≢true i)

same_read : (x y : Value × ℕ) → ◌≡◌ {A = CellAnswer} (Ok x) (Ok y) → x ≡ y
same_read x y e = cc

of_cond : (s : Sort) (b : Bool) (n : ℕ) (v u : Value) (w : ℕ) → IsOf s v → cond {A = CellAnswer} b (Err codes.CellCut) (Ok (v, n)) ≡ Ok (u, w) → IsOf s u
of_cond s true n v u w h e = absurd (cc e)
of_cond s false n v u w h e = let p = same_read (v, n) (u, w) e in subst (IsOf s) (ap (λ (x : Value × ℕ). x.0) p) h

of_sized : (s : Sort) (n : ℕ) (v u : Value) (bytes : List ℕ) (w : ℕ) → IsOf s v → sized n v bytes ≡ Ok (u, w) → IsOf s u
unfolding sized
of_sized s n v u bytes w h e = of_cond s (nat_lt (length bytes) n) n v u w h e

pub of_read : (o : Order) (kind : Kind) (n : ℕ) (bytes : List ℕ) (v : Value) (w : ℕ) → IsTrue (is_indexed kind) → cell_from o kind (Fixed n) bytes ≡ Ok (v, w) → IsOf (sort_of kind) v
of_read o kinds.T n bytes v w i e = of_sized Texts n _ v bytes w tt e
of_read o kinds.L n bytes v w i e = of_sized Texts n _ v bytes w tt e
of_read o kinds.M n bytes v w i e = of_sized Texts n _ v bytes w tt e
of_read o kinds.N n bytes v w i e = of_sized Texts n _ v bytes w tt e
of_read o kinds.F n bytes v w i e = of_sized Words4 _ _ v bytes w tt e
of_read o kinds.R n bytes v w i e = of_sized Words8 _ _ v bytes w tt e
of_read o kinds.S n bytes v w i e = of_sized Numbers _ _ v bytes w tt e
of_read o kinds.I n bytes v w i e = of_sized Numbers _ _ v bytes w tt e
of_read o kinds.D n bytes v w i e = of_sized Dates _ _ v bytes w tt e
of_read o kind n bytes v w i e = absurd (false≢true i)
