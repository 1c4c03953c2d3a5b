-- Laws of the first of what several lines say, for loops that stop at it.
use Rattle.std.proofs.Common.{◌≡◌, Bool, true, false, ℕ, zero, suc, ◌+◌, ◌-◌, ◌<◌, ◌≤◌, Option, Some, None, List, [], ◌∷◌, length, get_or, add-one, zero-add, refl, sym, ap, subst, ◌∙◌, arith, inl, inr}
use Rattle.std.specs.Option.{option_map}
use Rattle.std.proofs.lemmas.Bool.{cases_eq}
use Rattle.vpf_findings.specs.Firsts.{◌or◌, first_of_rows, first_over, unless}

pub or-none : {F : Type 0} (a : Option F) → (a or None) ≡ a
or-none None = refl
or-none (Some f) = refl

pub or-assoc : {F : Type 0} (a b c : Option F) → ((a or b) or c) ≡ (a or (b or c))
or-assoc None b c = refl
or-assoc (Some f) b c = refl

pub or-none_both : {F : Type 0} (a b : Option F) → (a or b) ≡ None → (a ≡ None) × (b ≡ None)
or-none_both None b h = (refl, h)
or-none_both (Some f) b h = absurd cc

-- a row with no finding is passed
pub rows_pass : {F R : Type 0} (lines : ℕ → R → Option F) (k : ℕ) (row : R) (rows rest : List R) → rows ≡ row ∷ rest → lines (k + 1) row ≡ None → first_of_rows lines (k + 1) rows ≡ first_of_rows lines ((k + 1) + 1) rest
rows_pass lines k row rows rest e none = rw e (rw none (simp add-one))

-- a finding of a row is the first of those that are left
pub rows_stop : {F R : Type 0} (lines : ℕ → R → Option F) (k : ℕ) (row : R) (rows rest : List R) (f : F) → rows ≡ row ∷ rest → lines (k + 1) row ≡ Some f → first_of_rows lines (k + 1) rows ≡ Some f
rows_stop lines k row rows rest f e some = rw e (rw some refl)

-- no finding at all: none in any row
pub rows_none : {F R : Type 0} (lines : ℕ → R → Option F) (k : ℕ) (rows : List R) → first_of_rows lines k rows ≡ None → (i : ℕ) (d : R) → i < length rows → lines (k + i) (get_or rows i d) ≡ None
rows_none lines k [] h i d l = absurd (omega arith)
rows_none lines k (row ∷ rows) h zero d l = let e : k + zero ≡ k = omega arith in rw e ((or-none_both (lines k row) (first_of_rows lines (suc k) rows) h).0)
rows_none lines k (row ∷ rows) h (suc i) d l =
    let e : k + suc i ≡ suc k + i = omega arith in
    rw e (rows_none lines (suc k) rows ((or-none_both (lines k row) (first_of_rows lines (suc k) rows) h).1) i d (omega arith))

pub over_pass : {F : Type 0} (line : ℕ → Option F) (d n : ℕ) → d < n → line d ≡ None → first_over line (d + 1) (n - (d + 1)) ≡ first_over line d (n - d)
over_pass line d n h none =
    let e : n - d ≡ suc (n - (d + 1)) = omega arith in
    rw (e, none) (simp add-one)

pub over_stop : {F : Type 0} (line : ℕ → Option F) (d n : ℕ) (f : F) → d < n → line d ≡ Some f → first_over line d (n - d) ≡ Some f
over_stop line d n f h some =
    let e : n - d ≡ suc (n - (d + 1)) = omega arith in
    rw (e, some) refl

over_last : {F : Type 0} (line : ℕ → Option F) (k n : ℕ) → first_over line k (suc n) ≡ (first_over line k n or line (k + n))
over_last line k zero = let e : k + zero ≡ k = omega arith in rw (e, or-none) refl
over_last line k (suc n) =
    let e : k + suc n ≡ suc k + n = omega arith in
    rw (e, or-assoc) (ap (λ v. line k or v) (over_last line (suc k) n))

pub over_more : {F : Type 0} (line : ℕ → Option F) (n : ℕ) → first_over line 0 (n + 1) ≡ (first_over line 0 n or line n)
over_more line n = simp add-one (over_last line 0 n ∙ rw zero-add refl)

-- a finding ends the loop
pub over_found : {F : Type 0} (line : ℕ → Option F) (d n : ℕ) (f g : F) (whole : Option F) → first_over line d (n - d) ≡ whole → d < n → line d ≡ Some f → g ≡ f → whole ≡ Some g
over_found line d n f g whole left h some same = sym left ∙ over_stop line d n f h some ∙ ap Some (sym same)

-- no finding at all: none at any number
pub over_none : {F : Type 0} (line : ℕ → Option F) (k n : ℕ) → first_over line k n ≡ None → (d : ℕ) → k ≤ d → d < k + n → line d ≡ None
over_none line k zero h d low high = absurd (omega arith)
over_none line k (suc n) h d low high =
    let r : (line k ≡ None) × (first_over line (suc k) n ≡ None) = or-none_both (line k) (first_over line (suc k) n) h in
    elim (cases_eq k d) [
      | inl e ↦ subst (λ v. line v ≡ None) e r.0
      | inr ne ↦ over_none line (suc k) n r.1 d (omega arith) (omega arith)
    ]

-- nothing is said at any number
pub over_silent : {F : Type 0} (line : ℕ → Option F) (k n : ℕ) → ((d : ℕ) → k ≤ d → d < k + n → line d ≡ None) → first_over line k n ≡ None
over_silent line k zero h = refl
over_silent line k (suc n) h = rw (h k (omega arith) (omega arith)) (over_silent line (suc k) n (λ d low high. h d (omega arith) (omega arith)))

-- no number is left
pub over_end : {F : Type 0} (line : ℕ → Option F) (d n : ℕ) → n ≤ d → first_over line d (n - d) ≡ None
over_end line d n h = let e : n - d ≡ zero = omega arith in rw e refl

pub option_map-none : {A B : Type 0} (f : A → B) (o : Option A) → option_map f o ≡ None → o ≡ None
option_map-none f None h = refl
option_map-none f (Some x) h = absurd cc

-- the first of two lines that says something is what both say
pub or_first : {F : Type 0} (a b : Option F) (f : F) → a ≡ Some f → (a or b) ≡ Some f
or_first a b f some = rw some refl

-- a line that says nothing unless a fact holds: it holds
pub unless_none : {F : Type 0} (b : Bool) (f : F) → unless b f ≡ None → b ≡ true
unless_none true f e = refl
unless_none false f e = absurd cc

-- nothing is said of any row
pub rows_silent : {F R : Type 0} (lines : ℕ → R → Option F) (k : ℕ) (rows : List R) (d : R)
    → ((i : ℕ) → i < length rows → lines (k + i) (get_or rows i d) ≡ None) → first_of_rows lines k rows ≡ None
rows_silent lines k [] d each = refl
rows_silent lines k (row ∷ rows) d each =
    let e : k + zero ≡ k = omega arith in
    let first : lines k row ≡ None = rw e at (each zero (omega arith)) in
    rw first (rows_silent lines (suc k) rows d (λ i h. let f : suc k + i ≡ k + suc i = omega arith in rw f (each (suc i) (omega arith))))
