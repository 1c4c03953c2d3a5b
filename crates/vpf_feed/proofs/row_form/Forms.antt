-- The form of the rows of a header.
use Rattle.std.proofs.Common.{◌≡◌, ℕ, zero, suc, ◌*◌, ◌<◌, Bool, true, false, cond, List, [], ◌∷◌, length, Err, refl, ◌∙◌, arith, Some}
use Rattle.std.specs.List.{list_any, All}
use Rattle.std.specs.Prelude.{◌||◌}
use Rattle.std.proofs.lemmas.Bool.{lt-ltb}
use Rattle.vpf_base.specs.declared.orders.Order.{Order}
use Rattle.vpf_triplet.specs.declared.kinds.Kind.{Kind}
use Rattle.vpf_triplet.specs.declared.kinds.Kind.TheVariants as kinds
use Rattle.vpf_triplet.specs.declared.kinds.Count.{Count}
use Rattle.vpf_triplet.specs.declared.kinds.Count.TheVariants.{Fixed, Star}
use Rattle.vpf_triplet.specs.declared.places.Code.TheVariants as codes
use Rattle.vpf_value.specs.Reading.{cell_from, counted_from, triplet_from}
use Rattle.vpf_triplet.specs.Reading.{triplet_at}
use Rattle.vpf_head.specs.Head.{Col, is_data, holds_data}
use Rattle.vpf_head.specs.Inner.Soundness.{IsCounted, IsInBounds}
use Rattle.vpf_feed.specs.declared.row_form.form.Field.{Field}
use Rattle.vpf_feed.specs.Inner.RowForm.Form.{form_field, form_fields, extent, IsCutEmpty}
use Rattle.vpf_feed.specs.Inner.RowForm.Told.{told, told_many}
use Rattle.vpf_feed.specs.Inner.RowForm.Walk.{sized_end}
use Rattle.vpf_feed.proofs.row_form.Sizes.{told_is}

none_sized : (n : ℕ) → 0 < n → sized_end n [] ≡ Err codes.CellCut
none_sized n h = rw (lt-ltb 0 n h) refl

-- what is told of no bytes at all
fixed_empty : (o : Order) (kind : Kind) (count : Count) (n : ℕ) → told o kind count [] ≡ Some n → 0 < n → extent (cell_from o kind count []) ≡ Err codes.CellCut
fixed_empty o kind count n e h = told_is o kind count [] [] n e ∙ none_sized n h

many_empty : (o : Order) (kind : Kind) (size : ℕ) (count : Count) → 0 < size → told o kind count [] ≡ told_many o size count [] → extent (cell_from o kind Star []) ≡ Err codes.CellCut → IsInBounds count → extent (cell_from o kind count []) ≡ Err codes.CellCut
many_empty o kind size (Fixed n) some e star b = fixed_empty o kind (Fixed n) (size * n) e (grind arith)
many_empty o kind size Star some e star b = star

cut_empty : (o : Order) (kind : Kind) (count : Count) → is_data kind ≡ true → IsInBounds count → extent (cell_from o kind count []) ≡ Err codes.CellCut
unfolding counted_from triplet_from triplet_at
cut_empty o kinds.T count d b = many_empty o kinds.T 1 count (omega arith) refl refl b
cut_empty o kinds.L count d b = many_empty o kinds.L 1 count (omega arith) refl refl b
cut_empty o kinds.M count d b = many_empty o kinds.M 1 count (omega arith) refl refl b
cut_empty o kinds.N count d b = many_empty o kinds.N 1 count (omega arith) refl refl b
cut_empty o kinds.F count d b = fixed_empty o kinds.F count 4 refl (omega arith)
cut_empty o kinds.R count d b = fixed_empty o kinds.R count 8 refl (omega arith)
cut_empty o kinds.S count d b = fixed_empty o kinds.S count 2 refl (omega arith)
cut_empty o kinds.I count d b = fixed_empty o kinds.I count 4 refl (omega arith)
cut_empty o kinds.D count d b = fixed_empty o kinds.D count 20 refl (omega arith)
cut_empty o kinds.X count d b = absurd cc
cut_empty o kinds.K count d b = refl
cut_empty o kinds.C count d b = many_empty o kinds.C 8 count (omega arith) refl refl b
cut_empty o kinds.B count d b = many_empty o kinds.B 16 count (omega arith) refl refl b
cut_empty o kinds.Z count d b = many_empty o kinds.Z 12 count (omega arith) refl refl b
cut_empty o kinds.Y count d b = many_empty o kinds.Y 24 count (omega arith) refl refl b

all_cons : (P : Field → Type 0) (x : Field) (xs : List Field) → P x → All P xs → All P (x ∷ xs)
all_cons P x xs p h zero d l = p
all_cons P x xs p h (suc k) d l = h k d (omega arith)

-- the fields of columns whose counts are in bounds have bytes
pub all_cut : (cs : List Col) → All IsCounted cs → All IsCutEmpty (form_fields cs)
all_cut [] h = λ k d l. absurd (omega arith)
all_cut (c ∷ cs) h = by (all_cut cs (λ k d l. h (suc k) d (omega arith))) (is_data c.kind) refl
  where
    by : All IsCutEmpty (form_fields cs) → (b : Bool) → is_data c.kind ≡ b → All IsCutEmpty (cond b (form_field c ∷ form_fields cs) (form_fields cs))
    by others true q = all_cons IsCutEmpty (form_field c) (form_fields cs) (λ o. cut_empty o c.kind c.count q (h 0 c (omega arith)).bounds) others
    by others false q = others

pub some_field : (cs : List Col) → list_any holds_data cs ≡ true → length (form_fields cs) ≡ 0 → ⊥
some_field [] h = λ z. absurd cc
some_field (c ∷ cs) h = by (λ q. some_field cs q) (is_data c.kind) h
  where
    by : (list_any holds_data cs ≡ true → length (form_fields cs) ≡ 0 → ⊥) → (b : Bool) → (b || list_any holds_data cs) ≡ true → length (cond b (form_field c ∷ form_fields cs) (form_fields cs)) ≡ 0 → ⊥
    by others true q = λ z. omega arith
    by others false q = others q
