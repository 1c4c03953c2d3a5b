-- The last of what is new: it counts where nothing before it is for its column.
use Rattle.std.proofs.Common.{◌≡◌, ◌≢◌, ℕ, zero, suc, ◌+◌, List, [], ◌∷◌, ◌++◌, map, refl, arith}
use Rattle.std.specs.List.{enumerate_from}
use Rattle.std.proofs.Math.ListN.{set}
use Rattle.std.proofs.lemmas.Grind.{common_steps}
use Rattle.vpf_triplet.specs.declared.kinds.Kind.{Kind}
use Rattle.vpf_value.specs.Values.{Value}
use Rattle.vpf_head.specs.Head.{Col, with_kind}
use Rattle.vpf_table.specs.Grid.{Row}
use Rattle.vpf_write.specs.declared.revise.changes.NewKind.{NewKind}
use Rattle.vpf_write.specs.Revise.Revising.{NewValue, revised_value, revised_column, revised, with_kinds}
use Rattle.vpf_write.proofs.revise.Placing.{each_same, each_set, each_own}

-- in other columns it changes nothing
value_other : (changes : List NewValue) (new : NewValue) (c : ℕ) (v : Value) → c ≢ new.column → revised_value (changes ++ new ∷ []) c v ≡ revised_value changes c v
value_other [] new c v e = grind (arith, common_steps)
value_other (m ∷ changes) new c v e = grind (arith, common_steps, value_other changes new c v e)

-- in its own it is what stood there before the others
value_here : (changes : List NewValue) (new : NewValue) (v : Value) → revised_value (changes ++ new ∷ []) new.column v ≡ revised_value changes new.column new.value
value_here [] new v = grind (arith, common_steps)
value_here (m ∷ changes) new v = grind (arith, common_steps, value_here changes new v)

-- the last new value first, and then the others
pub revised_last : (changes : List NewValue) (new : NewValue) (row : Row) → revised (changes ++ new ∷ []) row ≡ revised changes (set row new.column new.value)
revised_last changes new row = each_set (λ at. revised_value (changes ++ new ∷ []) at.0 at.1) (λ at. revised_value changes at.0 at.1) 0 new.column new.column row new.value (omega arith)
    (λ c v e. value_other changes new c v e) (λ v. value_here changes new v)

-- no new values
pub revised_none : (row : Row) → revised [] row ≡ row
revised_none row = each_own (λ at. revised_value [] at.0 at.1) 0 row (λ c v. refl)

-- in other columns it changes nothing
kind_other : (changes : List NewKind) (new : NewKind) (c : ℕ) (column : Col) → c ≢ new.column → revised_column (changes ++ new ∷ []) c column ≡ revised_column changes c column
kind_other [] new c column e = grind (arith, common_steps)
kind_other (m ∷ changes) new c column e = grind (arith, common_steps, kind_other changes new c column e)

-- in its own it is the kind before the others
kind_here : (changes : List NewKind) (new : NewKind) (column : Col)
    → revised_column (changes ++ new ∷ []) new.column column ≡ revised_column changes new.column (record column { kind = new.kind })
kind_here [] new column = grind (arith, common_steps)
kind_here (m ∷ changes) new column = grind (arith, common_steps, kind_here changes new column)

-- two changes that agree but for one column, which is of the other kind
each_kind : (f g : ℕ × Col → Col) (n m k : ℕ) (kind : Kind) (columns : List Col) → m ≡ n + k → ((c : ℕ) (x : Col) → c ≢ m → f (c, x) ≡ g (c, x))
    → ((x : Col) → f (m, x) ≡ g (m, record x { kind = kind })) → map f (enumerate_from n columns) ≡ map g (enumerate_from n (with_kind k kind columns))
each_kind f g n m k kind [] e others one = refl
each_kind f g n m zero kind (x ∷ xs) e others one =
    let here : m ≡ n = omega arith in
    let first = one x in
    let rest = each_same f g (n + 1) xs (λ c z le. others c z (omega arith)) in
    cc
each_kind f g n m (suc k) kind (x ∷ xs) e others one =
    let first = others n x (omega arith) in
    let rest = each_kind f g (n + 1) m k kind xs (omega arith) others one in
    cc

-- the last new kind first, and then the others
pub with_kinds_last : (changes : List NewKind) (new : NewKind) (columns : List Col)
    → with_kinds (changes ++ new ∷ []) columns ≡ with_kinds changes (with_kind new.column new.kind columns)
with_kinds_last changes new columns = each_kind (λ at. revised_column (changes ++ new ∷ []) at.0 at.1) (λ at. revised_column changes at.0 at.1) 0 new.column new.column new.kind columns (omega arith)
    (λ c x e. kind_other changes new c x e) (λ x. kind_here changes new x)

-- no new kinds
pub with_kinds_none : (columns : List Col) → with_kinds [] columns ≡ columns
with_kinds_none columns = each_own (λ at. revised_column [] at.0 at.1) 0 columns (λ c x. refl)
