-- No finding is agreement, and agreement is no finding.
use Rattle.std.proofs.Common.{[], ◌≡◌, ℕ, zero, suc, ◌+◌, ◌<◌, ◌≤◌, Bool, true, false, not, ◌||◌, ◌&&◌, ◌==◌, nat_eq, cond, List, ◌∷◌, length, take, get_or, Option, Some, None, refl, sym, ap, subst, ◌∙◌, arith, inl, inr}
use Rattle.std.specs.Prelude.{Contains, find, nat_le, option_map}
use Rattle.std.specs.List.{list_any, range_with_len}
use Rattle.std.specs.List.Sorted.{IsStrictlyIncreasing}
use Rattle.std.specs.Option.{option_or}
use Rattle.std.proofs.lemmas.Bool.{false≢true, cases_lt, eqb-true, eq-eqb}
use Rattle.std.proofs.lemmas.Bool.Decides.{nat_tests}
use Rattle.std.proofs.lemmas.Slice.Eq.{bytes_eq-Decides}
use Rattle.vpf_triplet.specs.Inner.KindLaws.{kinds_same, counts_same}
use Rattle.vpf_base.proofs.Booleans.{not_false}
use Rattle.vpf_triplet.specs.declared.kinds.Kind.{Kind}
use Rattle.vpf_triplet.specs.declared.kinds.Count.{Count}
use Rattle.vpf_triplet.specs.Kinds.{kind_text, same_kind, is_fixed}
use Rattle.vpf_value.specs.Values.{Value}
use Rattle.vpf_head.specs.Head.{Col}
use Rattle.vpf_findings.specs.Findings.{Disagreement}
use Rattle.vpf_findings.specs.Inner.FirstLaws.{or-none_both, over_none, over_silent}
use Rattle.vpf_theme.specs.Ordering.{same_value}
use Rattle.vpf_theme.specs.Entries.{Entry, Theme}
use Rattle.vpf_theme.specs.Findings.{cell_of, entry_at, kind_line, row_count_line, fits_line, stands, missing_line, entry_place, repeated_line, other_line, first_fall, fall_line, lines_at, entries_finding, first_finding}
use Rattle.vpf_theme.specs.Agreeing.{AgreesWithColumn, HaveRows}
use Rattle.vpf_theme.specs.Inner.KeyLaws.{Decides-same_value, same_yes, same_no}
use Rattle.vpf_theme.proofs.AgreeLemmas.{fits_rows}

-- ---- kinds and counts

same_itself : (a : Kind) → same_kind a a ≡ true
same_itself a = (bytes_eq-Decides (kind_text a) (kind_text a)).1 refl

both : (a b : Bool) (d : Disagreement) → cond {A = Option Disagreement} (a && b) None (Some d) ≡ None → (a ≡ true) × (b ≡ true)
both true true d h = (refl, refl)
both true false d h = absurd (cc h)
both false b d h = absurd (cc h)

-- ---- what no finding says

mapped_none : {A B : Type 0} (f : A → B) (o : Option A) → option_map f o ≡ None → o ≡ None
mapped_none f None h = refl
mapped_none f (Some x) h = absurd (cc h)

found_none : (b : Bool) (x : ℕ) (o : Option ℕ) → cond b (Some x) o ≡ None → (b ≡ false) × (o ≡ None)
found_none true x o h = absurd (cc h)
found_none false x o h = (refl, h)

find_none : (p : ℕ → Bool) (xs : List ℕ) (k d : ℕ) → find p xs ≡ None → k < length xs → p (get_or xs k d) ≡ false
find_none p [] k d h m = absurd (omega arith)
find_none p (x ∷ xs) zero d h m = (found_none (p x) x (find p xs) h).0
find_none p (x ∷ xs) (suc k) d h m = find_none p xs k d (found_none (p x) x (find p xs) h).1 (omega arith)

range_none : (p : ℕ → Bool) (a n i : ℕ) → find p (range_with_len a n) ≡ None → a ≤ i → i < a + n → p i ≡ false
range_none p a zero i h low high = absurd (omega arith)
range_none p a (suc n) i h low high =
    let r = found_none (p a) a (find p (range_with_len (a + 1) n)) h in
    elim (cases_lt a i) [
      | inl lt ↦ range_none p (a + 1) n i r.1 (omega arith) (omega arith)
      | inr ge ↦ let e : i ≡ a = omega arith in rw e r.0
    ]

contains_step : (b : Bool) (x row : ℕ) (xs : List ℕ) (rest : Bool) → nat_eq x row ≡ b → (b || rest) ≡ true → (rest ≡ true → Contains xs row) → Contains (x ∷ xs) row
contains_step true x row xs rest e h more = (zero, omega arith, eqb-true x row e)
contains_step false x row xs rest e h more = let c = more h in (suc c.0, omega (arith, c.1), c.2)

pub contains_from : (xs : List ℕ) (row : ℕ) → list_any (λ r. r == row) xs ≡ true → Contains xs row
contains_from [] row h = absurd (false≢true h)
contains_from (x ∷ xs) row h = contains_step (nat_eq x row) x row xs (list_any (λ r. r == row) xs) refl h (contains_from xs row)

abbrev Stands : List Entry → ℕ → Type 0
Stands es row = (i : ℕ) × (i < length es) × Contains (entry_at es i).rows row

stands_step : (b : Bool) (e : Entry) (es : List Entry) (row : ℕ) (rest : Bool) → list_any (λ r. r == row) e.rows ≡ b → (b || rest) ≡ true → (rest ≡ true → Stands es row) → Stands (e ∷ es) row
stands_step true e es row rest t h more = (zero, omega arith, contains_from e.rows row t)
stands_step false e es row rest t h more = let s = more h in (suc s.0, omega (arith, s.1), s.2)

stands_from : (es : List Entry) (row : ℕ) → stands es row ≡ true → Stands es row
stands_from [] row h = absurd (false≢true h)
stands_from (e ∷ es) row h = stands_step (list_any (λ r. r == row) e.rows) e es row (stands es row) refl h (stands_from es row)

place_test : (b : Bool) (o : Option ℕ) → cond b (Some 0) (option_map suc o) ≡ None → (b ≡ false) × (o ≡ None)
place_test true o h = absurd (cc h)
place_test false o h = (refl, mapped_none suc o h)

place_none : (es : List Entry) (v : Value) (i j : ℕ) → entry_place (take i es) v ≡ None → j < i → j < length es → (entry_at es j).value ≡ v → ⊥
place_none [] v i j h a b e = absurd (omega arith)
place_none (x ∷ es) v zero j h a b e = absurd (omega arith)
place_none (x ∷ es) v (suc i) zero h a b e =
    let r = place_test (same_value x.value v) (entry_place (take i es) v) h in
    let t = same_yes x.value v e in
    absurd (false≢true (sym r.0 ∙ t))
place_none (x ∷ es) v (suc i) (suc j) h a b e = place_none es v i j (place_test (same_value x.value v) (entry_place (take i es) v) h).1 (omega arith) (omega arith) e

fall_test : (b : Bool) (row before : ℕ) (o : Option (ℕ × ℕ)) → cond b (Some (row, before)) o ≡ None → (b ≡ false) × (o ≡ None)
fall_test true row before o h = absurd (cc h)
fall_test false row before o h = (refl, h)

fall_head : (before row : ℕ) (rows : List ℕ) → first_fall before (row ∷ rows) ≡ None → before < row
fall_head before row rows h = let t = (fall_test (nat_le row before) row before (first_fall row rows) h).0 in grind (arith, nat_tests)

fall_none : (before : ℕ) (rows : List ℕ) → first_fall before rows ≡ None → IsStrictlyIncreasing rows
fall_none before [] h k m = absurd (omega arith)
fall_none before (row ∷ []) h k m = absurd (omega arith)
fall_none before (row ∷ next ∷ rows) h zero m = fall_head row next rows (fall_test (nat_le row before) row before (first_fall row (next ∷ rows)) h).1
fall_none before (row ∷ next ∷ rows) h (suc k) m =
    let e : suc k + 1 ≡ suc (k + 1) = omega arith in
    rw e (fall_none row (next ∷ rows) (fall_test (nat_le row before) row before (first_fall row (next ∷ rows)) h).1 k (omega arith))

contained : (xs : List ℕ) (row : ℕ) (P : ℕ → Type 0) → ((k d : ℕ) → k < length xs → P (get_or xs k d)) → Contains xs row → P row
contained xs row P h c = subst P c.2 (h c.0 row c.1)

entry_none : (t : Theme) (column : Col) (cells : List Value) (i : ℕ) → entries_finding t column cells ≡ None → i < length t.entries → lines_at t column cells i ≡ None
entry_none t column cells i h k = over_none (lines_at t column cells) 0 (length t.entries) h i (omega arith) (omega arith)

-- what is known of each entry
record Clean (t : Theme) (cells : List Value) (i : ℕ) : Type 0 where
  repeated : entry_place (take i t.entries) (entry_at t.entries i).value ≡ None
  other : find (λ row. not (same_value (cell_of cells row) (entry_at t.entries i).value)) (entry_at t.entries i).rows ≡ None
  fall : first_fall 0 (entry_at t.entries i).rows ≡ None

clean : (t : Theme) (column : Col) (cells : List Value) (i : ℕ) → lines_at t column cells i ≡ None → Clean t cells i
clean t column cells i h =
    let a = or-none_both (repeated_line t column i) (option_or (other_line column cells i (entry_at t.entries i)) (fall_line column i (entry_at t.entries i))) h in
    let b = or-none_both (other_line column cells i (entry_at t.entries i)) (fall_line column i (entry_at t.entries i)) a.1 in
    record { repeated = mapped_none _ _ a.0; other = mapped_none _ _ b.0; fall = mapped_none _ _ b.1 }

has_value : (t : Theme) (cells : List Value) (i row : ℕ) → Clean t cells i → Contains (entry_at t.entries i).rows row → cell_of cells row ≡ (entry_at t.entries i).value
has_value t cells i row k c =
    let v = (entry_at t.entries i).value in
    let f = contained (entry_at t.entries i).rows row (λ (r : ℕ). not (same_value (cell_of cells r) v) ≡ false) (λ n d m. find_none (λ (r : ℕ). not (same_value (cell_of cells r) v)) (entry_at t.entries i).rows n d k.other m) c in
    (Decides-same_value (cell_of cells row) v).0 (not_false (same_value (cell_of cells row) v) f)

pub agrees_from_none : (t : Theme) (column : Col) (cells : List Value) → HaveRows t → first_finding t column cells ≡ None → AgreesWithColumn t column cells
unfolding first_finding
agrees_from_none t column cells rows h =
    let a = or-none_both (fits_line t column (length cells)) (option_or (missing_line t column (length cells)) (entries_finding t column cells)) h in
    let b = or-none_both (missing_line t column (length cells)) (entries_finding t column cells) a.1 in
    let f = or-none_both (kind_line t column) (row_count_line t column (length cells)) a.0 in
    let k = both (same_kind t.kind column.kind) (is_fixed t.count column.count) _ f.0 in
    let n = fits_rows t column (length cells) a.0 in
    let each = λ (i : ℕ) (m : i < length t.entries). clean t column cells i (entry_none t column cells i b.1 m) in
    record {
      kind = kinds_same t.kind column.kind k.0;
      count = counts_same t.count column.count k.1;
      rows = n;
      differ = λ i j lt m e. place_none t.entries (entry_at t.entries j).value j i (each j m).repeated lt (omega arith) e;
      stands = λ row low high.
          let none = mapped_none _ _ b.0 in
          let s = stands_from t.entries row (not_false (stands t.entries row) (range_none (λ (r : ℕ). not (stands t.entries r)) 1 (length cells) row none low (omega arith))) in
          (s.0, s.1, sym (has_value t cells s.0 row (each s.0 s.1) s.2), s.2);
      only = λ i row m c.
          let r = contained (entry_at t.entries i).rows row (λ (x : ℕ). (1 ≤ x) × (x ≤ t.rows)) (λ q d z. rows i m q d z) c in
          (r.0, omega (arith, r.1, n), has_value t cells i row (each i m) c);
      rise = λ i m. fall_none 0 (entry_at t.entries i).rows (each i m).fall;
    }

-- ---- what agreement says

find_all : (p : ℕ → Bool) (xs : List ℕ) → ((k : ℕ) → k < length xs → p (get_or xs k 0) ≡ false) → find p xs ≡ None
find_all p [] h = refl
find_all p (x ∷ xs) h = rw (h zero (omega arith)) (find_all p xs (λ k m. h (suc k) (omega arith)))

range_all : (p : ℕ → Bool) (a n : ℕ) → ((i : ℕ) → a ≤ i → i < a + n → p i ≡ false) → find p (range_with_len a n) ≡ None
range_all p a zero h = refl
range_all p a (suc n) h = rw (h a (omega arith) (omega arith)) (range_all p (a + 1) n (λ i x y. h i (omega arith) (omega arith)))

or_left : (a b : Bool) → a ≡ true → (a || b) ≡ true
or_left true b h = refl
or_left false b h = absurd (false≢true h)

or_right : (a b : Bool) → b ≡ true → (a || b) ≡ true
or_right true b h = refl
or_right false b h = h

any_from : (xs : List ℕ) (row k : ℕ) → k < length xs → get_or xs k row ≡ row → list_any (λ r. r == row) xs ≡ true
any_from [] row k m e = absurd (omega arith)
any_from (x ∷ xs) row zero m e = or_left (nat_eq x row) (list_any (λ r. r == row) xs) (eq-eqb x row e)
any_from (x ∷ xs) row (suc k) m e = or_right (nat_eq x row) (list_any (λ r. r == row) xs) (any_from xs row k (omega arith) e)

stands_at : (es : List Entry) (row i : ℕ) → i < length es → Contains (entry_at es i).rows row → stands es row ≡ true
stands_at [] row i m c = absurd (omega arith)
stands_at (e ∷ es) row zero m c = or_left (list_any (λ r. r == row) e.rows) (stands es row) (any_from e.rows row c.0 c.1 c.2)
stands_at (e ∷ es) row (suc i) m c = or_right (list_any (λ r. r == row) e.rows) (stands es row) (stands_at es row i (omega arith) c)

pub no_place : (es : List Entry) (v : Value) (i : ℕ) → ((j : ℕ) → j < i → j < length es → (entry_at es j).value ≡ v → ⊥) → entry_place (take i es) v ≡ None
no_place [] v zero h = refl
no_place [] v (suc i) h = refl
no_place (x ∷ es) v zero h = refl
no_place (x ∷ es) v (suc i) h = rw (same_no x.value v (h zero (omega arith) (omega arith)), no_place es v i (λ j a b. h (suc j) (omega arith) (omega arith))) refl

le_false : (row before : ℕ) → before < row → nat_le row before ≡ false
le_false row before h = grind (arith, nat_tests)

pub tail_rises : (x : ℕ) (xs : List ℕ) → IsStrictlyIncreasing (x ∷ xs) → IsStrictlyIncreasing xs
tail_rises x xs rise k m = let e : suc k + 1 ≡ suc (k + 1) = omega arith in let r = rise (suc k) (omega arith) in rw e at r

no_fall : (before : ℕ) (rows : List ℕ) → (0 < length rows → before < get_or rows 0 0) → IsStrictlyIncreasing rows → first_fall before rows ≡ None
no_fall before [] h rise = refl
no_fall before (row ∷ rows) h rise = rw (le_false row before (h (omega arith))) (no_fall row rows (λ m. rise zero (omega arith)) (tail_rises row rows rise))

got : (xs : List ℕ) (k : ℕ) → k < length xs → Contains xs (get_or xs k 0)
got xs k m = (k, m, get_or_same xs k (get_or xs k 0) 0 m)
  where
    get_or_same : (xs : List ℕ) (k d e : ℕ) → k < length xs → get_or xs k d ≡ get_or xs k e
    get_or_same [] k d e m = absurd (omega arith)
    get_or_same (x ∷ xs) zero d e m = refl
    get_or_same (x ∷ xs) (suc k) d e m = get_or_same xs k d e (omega arith)

line_none : (t : Theme) (column : Col) (cells : List Value) (i : ℕ) → AgreesWithColumn t column cells → i < length t.entries → lines_at t column cells i ≡ None
line_none t column cells i a m =
    let e = entry_at t.entries i in
    let repeated = no_place t.entries e.value i (λ j lt n. a.differ j i lt m) in
    let other = find_all (λ (row : ℕ). not (same_value (cell_of cells row) e.value)) e.rows (λ k n. ap not (same_yes (cell_of cells (get_or e.rows k 0)) e.value (a.only i (get_or e.rows k 0) m (got e.rows k n)).2)) in
    let fall = no_fall 0 e.rows (λ n. (a.only i (get_or e.rows 0 0) m (got e.rows 0 n)).0) (a.rise i m) in
    rw (repeated, other, fall) refl

pub none_from_agrees : (t : Theme) (column : Col) (cells : List Value) → AgreesWithColumn t column cells → first_finding t column cells ≡ None
unfolding first_finding
none_from_agrees t column cells a =
    let kind : same_kind t.kind column.kind ≡ true = subst (λ (k : Kind). same_kind t.kind k ≡ true) a.kind (same_itself t.kind) in
    let count : is_fixed t.count column.count ≡ true = subst (λ (k : Count). is_fixed t.count k ≡ true) (sym a.count) (eq-eqb t.count t.count refl) in
    let rows : nat_eq t.rows (length cells) ≡ true = eq-eqb t.rows (length cells) a.rows in
    let missing = range_all (λ (row : ℕ). not (stands t.entries row)) 1 (length cells) (λ row low high. let s = a.stands row low (omega arith) in ap not (stands_at t.entries row s.0 s.1 s.3)) in
    let entries = over_silent (lines_at t column cells) 0 (length t.entries) (λ i x y. line_none t column cells i a (omega arith)) in
    rw (kind, count, rows, missing, entries) refl
