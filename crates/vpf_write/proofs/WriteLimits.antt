-- The limits of what is written, and what passes none.
use Rattle.std.specs.Prelude.{[], min, ◌&&◌}
use Rattle.std.specs.List.{list_any}
use Rattle.std.proofs.Common.{List, ◌∷◌, length, ◌≡◌, ℕ, ◌-◌, ◌^◌, ◌<◌, ◌≤◌, Bool, true, false, ltb, None, refl, sym, ◌∙◌, arith, inl, inr}
use Rattle.std.proofs.lemmas.Bool.{cases_lt, lt-ltb, le-ltb, ltb-false}
use Rattle.vpf_base.specs.Limits.{longest_text, most_rows, most_bytes}
use Rattle.vpf_head.specs.Head.{Head, Col, holds_data}
use Rattle.vpf_head.specs.Inner.Soundness.{IsSound}
use Rattle.vpf_write.specs.Writing.{index_size, limit_by}
use Rattle.vpf_write.specs.Inner.LimitLaws.{within_bound as within}
use Rattle.vpf_base.proofs.Options.{none_past}

-- sizes that are told alike pass the same limits
same_test : (a b : ℕ) → min a (2 ^ 64 - 1) ≡ min b (2 ^ 64 - 1) → ltb most_bytes a ≡ ltb most_bytes b
same_test a b e =
    elim (cases_lt most_bytes a) [
      | inl lt ↦ lt-ltb most_bytes a lt ∙ sym (lt-ltb most_bytes b (omega arith))
      | inr le ↦ le-ltb most_bytes a le ∙ sym (le-ltb most_bytes b (omega arith))
    ]

pub limit-told : (text rows a b : ℕ) (varies : Bool) → min a (2 ^ 64 - 1) ≡ min b (2 ^ 64 - 1) → limit_by text rows a varies ≡ limit_by text rows b varies
unfolding limit_by
limit-told text rows a b varies e = rw (same_test a b e, e) refl

-- sizes that pass no limit are as good as each other
pub limit-within : (text rows a b : ℕ) (varies : Bool) → a ≤ most_bytes → b ≤ most_bytes → limit_by text rows a varies ≡ limit_by text rows b varies
unfolding limit_by
limit-within text rows a b varies h k = rw (le-ltb most_bytes a h, le-ltb most_bytes b k) refl

-- numbers of rows that are told alike pass the same limits
pub limit-counted : (text a b size : ℕ) (varies : Bool) → min a (2 ^ 64 - 1) ≡ min b (2 ^ 64 - 1) → limit_by text a size varies ≡ limit_by text b size varies
unfolding limit_by
limit-counted text a b size varies e =
    elim (cases_lt most_rows a) [
      | inl lt ↦ rw (lt-ltb most_rows a lt, lt-ltb most_rows b (omega arith), e) refl
      | inr le ↦ let same : a ≡ b = omega arith in rw same refl
    ]

fewer_by : (varies : Bool) (a b : ℕ) → a ≤ b → (varies && ltb most_bytes b) ≡ false → (varies && ltb most_bytes a) ≡ false
fewer_by true a b h e = let k = ltb-false most_bytes b e in le-ltb most_bytes a (omega arith)
fewer_by false a b h e = refl

index_within : (text rows size : ℕ) (varies : Bool) → limit_by text rows size varies ≡ None → (varies && ltb most_bytes (index_size rows)) ≡ false
unfolding limit_by
index_within text rows size varies e =
    let a = none_past (ltb longest_text text) _ _ e in
    let b = none_past (ltb most_rows rows) _ _ a.1 in
    let c = none_past (ltb most_bytes size) _ _ b.1 in
    (none_past (varies && ltb most_bytes (index_size rows)) _ _ c.1).0

-- fewer rows and bytes pass no limit where more pass none
pub limit-fewer : (text rows more size longer : ℕ) (varies : Bool) → rows ≤ more → size ≤ longer → limit_by text more longer varies ≡ None → limit_by text rows size varies ≡ None
unfolding limit_by
limit-fewer text rows more size longer varies h k e =
    let w = within text more longer varies e in
    let rows_fit = w.rows_fit in
    let size_fits = w.size_fits in
    let index = fewer_by varies (index_size rows) (index_size more) (omega (arith, h)) (index_within text more longer varies e) in
    rw (le-ltb longest_text text w.text_fits, le-ltb most_rows rows (omega (arith, h, rows_fit)), le-ltb most_bytes size (omega (arith, k, size_fits)), index) refl

filled_columns : (cs : List Col) → list_any holds_data cs ≡ true → 0 < length cs
filled_columns [] e = absurd cc
filled_columns (c ∷ cs) e = omega arith

-- a sound header has a column
pub some_columns : (h : Head) → IsSound h → 0 < length h.columns
some_columns h sound = filled_columns h.columns sound.filled
