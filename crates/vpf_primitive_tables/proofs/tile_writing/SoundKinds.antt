-- A sound header stays sound where several columns of one value take kinds that name rows.
use Rattle.std.proofs.Common.{◌≡◌, ◌≢◌, ℕ, zero, suc, ◌+◌, ◌<◌, true, List, [], ◌∷◌, map, Option, Some, None, slice_get, unwrap_or, refl, sym, ap, subst, arith}
use Rattle.std.specs.Prelude.{IfSome, IsTrue}
use Rattle.std.specs.List.{AllByRecursion, enumerate_from}
use Rattle.std.specs.Option.{IsSomeAnd, option_map}
use Rattle.std.proofs.lemmas.Bool.{eq-eqb, ne_eqb}
use Rattle.vpf_triplet.specs.declared.kinds.Count.TheVariants.{Fixed}
use Rattle.vpf_triplet.specs.declared.kinds.Kind.{Kind}
use Rattle.vpf_head.specs.Head.{Col, Head, names_rows, with_kind}
use Rattle.vpf_head.specs.Inner.Soundness.{IsSound}
use Rattle.vpf_write.specs.declared.revise.changes.NewKind.{NewKind}
use Rattle.vpf_write.specs.Revise.Revising.{head_with_kinds, kind_for, revised_column, with_kinds}
use Rattle.vpf_primitive_tables.proofs.table_forms.NewCellLemmas.{PlacesColumns}

-- what the law of sound headers says of one new kind
abbrev pub StaysSound : Type 0
StaysSound = (h : Head) (c : ℕ) (kind : Kind) → IfSome (slice_get h.columns c) (λ column. column.count ≡ Fixed 1) → IsTrue (names_rows kind) → IsSound h
    → IsSound (record h { columns = with_kind c kind h.columns })

-- a new kind names rows, and its column is there and has one value
pub record TakesRows (columns : List Col) (new : NewKind) : Type 0 where
  pub one : IsSomeAnd (slice_get columns new.column) (λ column. column.count ≡ Fixed 1)
  pub rows : names_rows new.kind ≡ true

-- the column with the kind that is told
abbrev told : Option Kind → Col → Col
told kind column = record column { kind = unwrap_or kind column.kind }

-- of several new kinds for a column the first counts
own_kind : (new : NewKind) (news : List NewKind) (c : ℕ) → new.column ≡ c → kind_for c (new ∷ news) ≡ Some new.kind
own_kind new news c e = rw (eq-eqb new.column c e) refl

other_kind : (new : NewKind) (news : List NewKind) (c : ℕ) → new.column ≢ c → kind_for c (new ∷ news) ≡ kind_for c news
other_kind new news c e = rw (ne_eqb new.column c e) refl

-- behind its column a new kind changes nothing
later_columns : (new : NewKind) (news : List NewKind) (n : ℕ) (columns : List Col) → new.column < n
    → map (λ at. revised_column (new ∷ news) at.0 at.1) (enumerate_from n columns) ≡ map (λ at. revised_column news at.0 at.1) (enumerate_from n columns)
later_columns new news n [] h = refl
later_columns new news n (x ∷ xs) h =
    let other : new.column ≢ n = λ same. omega arith in
    let here : revised_column (new ∷ news) n x ≡ revised_column news n x = ap (λ (kind : Option Kind). told kind x) (other_kind new news n other) in
    let rest = later_columns new news (n + 1) xs (omega arith) in
    cc

first_kind : (new : NewKind) (news : List NewKind) (n k : ℕ) (columns : List Col) → new.column ≡ n + k
    → map (λ at. revised_column (new ∷ news) at.0 at.1) (enumerate_from n columns)
    ≡ with_kind k new.kind (map (λ at. revised_column news at.0 at.1) (enumerate_from n columns))
first_kind new news n k [] e = refl
first_kind new news n zero (x ∷ xs) e =
    let here : revised_column (new ∷ news) n x ≡ told (Some new.kind) x = ap (λ (kind : Option Kind). told kind x) (own_kind new news n (omega arith)) in
    let rest = later_columns new news (n + 1) xs (omega arith) in
    cc
first_kind new news n (suc k) (x ∷ xs) e =
    let other : new.column ≢ n = λ same. omega arith in
    let here : revised_column (new ∷ news) n x ≡ revised_column news n x = ap (λ (kind : Option Kind). told kind x) (other_kind new news n other) in
    let rest = first_kind new news (n + 1) k xs (omega arith) in
    cc

-- the first new kind is put last
kind_put : (new : NewKind) (news : List NewKind) (columns : List Col)
    → with_kinds (new ∷ news) columns ≡ with_kind new.column new.kind (with_kinds news columns)
kind_put new news columns = first_kind new news 0 new.column columns (omega arith)

-- no new kinds
no_kinds : (n : ℕ) (columns : List Col) → map (λ at. revised_column [] at.0 at.1) (enumerate_from n columns) ≡ columns
no_kinds n [] = refl
no_kinds n (x ∷ xs) = ap (λ (columns : List Col). x ∷ columns) (no_kinds (n + 1) xs)

-- new kinds leave the counts
stays_one : (news : List NewKind) (c : ℕ) (o : Option Col) → IsSomeAnd o (λ column. column.count ≡ Fixed 1)
    → IfSome (option_map (revised_column news c) o) (λ column. column.count ≡ Fixed 1)
stays_one news c None one = absurd one
stays_one news c (Some x) one = one

-- a sound header stays sound with all its new kinds
kinds_sound : StaysSound → PlacesColumns → (news : List NewKind) (h : Head) → AllByRecursion (TakesRows h.columns) news → IsSound h
    → IsSound (head_with_kinds news h)
kinds_sound law places [] h all sound = subst (λ (columns : List Col). IsSound (record h { columns = columns })) (sym (no_kinds 0 h.columns)) sound
kinds_sound law places (new ∷ news) h all sound =
    let rest : IsSound (head_with_kinds news h) = kinds_sound law places news h all.1 sound in
    let one : IfSome (slice_get (with_kinds news h.columns) new.column) (λ column. column.count ≡ Fixed 1) =
    subst (λ (o : Option Col). IfSome o (λ column. column.count ≡ Fixed 1)) (sym (places news h.columns new.column))
    (stays_one news new.column (slice_get h.columns new.column) all.0.one) in
    subst (λ (columns : List Col). IsSound (record h { columns = columns })) (sym (kind_put new news h.columns))
    (law (head_with_kinds news h) new.column new.kind one all.0.rows rest)

-- also where the new kinds are shown as others
pub shown_sound : StaysSound → PlacesColumns → (news shown : List NewKind) (h : Head) → news ≡ shown → AllByRecursion (TakesRows h.columns) shown → IsSound h
    → IsSound (head_with_kinds news h)
shown_sound law places news shown h e all sound =
    subst (λ (news : List NewKind). IsSound (head_with_kinds news h)) (sym e) (kinds_sound law places shown h all sound)
