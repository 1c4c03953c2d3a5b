-- What one turn of a loop does.
use Rattle.std.proofs.Common.{◌≡◌, ℕ, zero, suc, ◌+◌, ◌<◌, List, [], ◌∷◌, ◌++◌, length, map, take, get_or, All, Option, Some, None, IfSome, slice_get, refl, sym, ap, ◌∙◌, subst, append_assoc, arith}
use Rattle.std.specs.Option.{IsSomeAnd}
use Rattle.std.proofs.Math.ListN.{set}
use Rattle.std.proofs.lemmas.List.{get_or-map, length-map, map-append, map-set, take_more_set}
use Rattle.std.proofs.lemmas.List.Elements.{All-pop}
use Rattle.vpf_triplet.specs.declared.kinds.Kind.{Kind}
use Rattle.vpf_triplet.specs.declared.kinds.Count.TheVariants.{Fixed}
use Rattle.vpf_value.specs.declared.cells.Cell.{Cell}
use Rattle.vpf_value.specs.Inner.Fitting.{FitsCell}
use Rattle.vpf_value.specs.Values.{view}
use Rattle.vpf_head.specs.Head.{Head, Col, with_kind}
use Rattle.vpf_table.specs.Grid.{Row}
use Rattle.vpf_write.specs.declared.revise.changes.NewKind.{NewKind}
use Rattle.vpf_write.specs.declared.revise.changes.NewCell.{NewCell}
use Rattle.vpf_write.specs.Revise.Revising.{FitsIn, new_value, revised, with_kinds, head_with_kinds}
use Rattle.vpf_write.proofs.revise.Lasting.{revised_last, revised_none, with_kinds_last, with_kinds_none}

-- what is true of each element of a list is true of those before the last
pub all_before : {X : Type 0} (P : X → Type 0) (xs ys : List X) (x : X) → ys ≡ xs ++ x ∷ [] → All P ys → All P xs
all_before P xs ys x e all = (All-pop P ys xs (Some x) e all).0

-- and of the one behind it
pub last_of_all : {X : Type 0} (P : X → Type 0) (xs ys : List X) (x : X) → ys ≡ xs ++ x ∷ [] → All P ys → P x
last_of_all P xs ys x e all = (All-pop P ys xs (Some x) e all).1

-- a cell more is filled
pub filled : (cells : List Cell) (left more row : Row) (n m : ℕ) (cell : Cell) → more ≡ view cell ∷ left → m ≡ n + 1 → length more + n ≡ length cells
    → take n (map view cells) ++ more ≡ row → take m (map view (set cells n cell)) ++ left ≡ row
filled cells left more row n m cell e count many done =
    let long : n < length (map view cells) = rw length-map (omega (arith, ap length e)) in
    let taken = take_more_set (map view cells) n (view cell) long in
    let put = map-set view cells n cell in
    rw (count, put, taken, append_assoc) (rw e at done)

-- the new cells before this one are left
pub put : (cells : List Cell) (changes more : List NewCell) (new : NewCell) (row : Row) → more ≡ changes ++ new ∷ []
    → revised (map new_value more) (map view cells) ≡ row → revised (map new_value changes) (map view (set cells new.column new.cell)) ≡ row
put cells changes more new row e done =
    let named = ap (λ (changes : List NewCell). map new_value changes) e ∙ map-append new_value changes (new ∷ []) in
    rw (map-set view cells new.column new.cell) (sym (revised_last (map new_value changes) (new_value new) (map view cells)) ∙ rw named at done)

-- no new cell is left
pub all_put : (cells : List Cell) (changes : List NewCell) (row : Row) → length changes ≡ 0 → revised (map new_value changes) (map view cells) ≡ row → map view cells ≡ row
all_put cells [] row none done = sym (revised_none (map view cells)) ∙ done
all_put cells (new ∷ changes) row none done = absurd (omega arith)

-- a column whose count is known
pub counted_one : (columns changed : List Col) (c : ℕ) → map (λ (column : Col). column.count) changed ≡ map (λ (column : Col). column.count) columns
    → IsSomeAnd (slice_get columns c) (λ column. column.count ≡ Fixed 1) → IsSomeAnd (slice_get changed c) (λ column. column.count ≡ Fixed 1)
counted_one [] changed c same one = elim one [ ]
counted_one (x ∷ xs) [] c same one = cc
counted_one (x ∷ xs) (y ∷ ys) zero same one = (let equal : y.count ≡ x.count = cc in equal ∙ one)
counted_one (x ∷ xs) (y ∷ ys) (suc c) same one =
    let rest : map (λ (column : Col). column.count) ys ≡ map (λ (column : Col). column.count) xs = cc in
    counted_one xs ys c rest one

-- there is such a column
pub is_within : (columns : List Col) (c : ℕ) (P : Col → Type 0) → IsSomeAnd (slice_get columns c) P → c < length columns
is_within [] c P one = elim one [ ]
is_within (x ∷ xs) zero P one = omega arith
is_within (x ∷ xs) (suc c) P one = omega (arith, is_within xs c P one)

-- new cells that fit have columns in a list of as many cells
pub all_within : (columns : List Col) (changes : List NewCell) (cells : List Cell) (row : Row) → All (FitsIn columns) (map new_value changes)
    → length row ≡ length columns → map view cells ≡ row → All (λ (new : NewCell). new.column < length cells) changes
all_within columns changes cells row fits width same = λ k d within.
    let new = get_or changes k d in
    let there : FitsIn columns (new_value new) = subst (FitsIn columns) (get_or-map new_value changes k d (new_value d) within) (fits k (new_value d) (rw length-map within)) in
    let inside = is_within columns new.column (λ column. FitsCell column.kind column.count (view new.cell)) there in
    let long : length cells ≡ length row = sym (length-map cells view) ∙ ap length same in
    omega arith

-- what is true of a value that is there
pub if_some : {X : Type 0} (o : Option X) (P : X → Type 0) → IsSomeAnd o P → IfSome o P
if_some None P is = elim is [ ]
if_some (Some x) P is = is

-- counts stay
pub same_counts : (c : ℕ) (kind : Kind) (columns : List Col) → map (λ (column : Col). column.count) (with_kind c kind columns) ≡ map (λ (column : Col). column.count) columns
same_counts c kind [] = refl
same_counts zero kind (x ∷ xs) = refl
same_counts (suc c) kind (x ∷ xs) = ap (λ counts. x.count ∷ counts) (same_counts c kind xs)

-- the new kinds before this one are left
pub kind_set : (changes more : List NewKind) (new : NewKind) (h changed whole : Head) → more ≡ changes ++ new ∷ []
    → changed ≡ record h { columns = with_kind new.column new.kind h.columns } → head_with_kinds more h ≡ whole → head_with_kinds changes changed ≡ whole
kind_set changes more new h changed whole e set done =
    let last = with_kinds_last changes new h.columns in
    let same : with_kinds changes (with_kind new.column new.kind h.columns) ≡ with_kinds more h.columns = rw e (sym last) in
    rw set (ap (λ (columns : List Col). record h { columns = columns }) same ∙ done)

-- no new kind is left
pub all_set : (changes : List NewKind) (h whole : Head) → length changes ≡ 0 → head_with_kinds changes h ≡ whole → h ≡ whole
all_set [] h whole none done = ap (λ (columns : List Col). record h { columns = columns }) (sym (with_kinds_none h.columns)) ∙ done
all_set (new ∷ changes) h whole none done = absurd (omega arith)
