-- Columns by their names: where they stand, that they differ, and that those which can name rows have one value.
use Rattle.std.proofs.Common.{[], ◌≡◌, ◌≢◌, ℕ, ◌<◌, true, false, List, length, get_or, Option, Some, None, slice_get, refl, subst}
use Rattle.std.specs.Prelude.{All}
use Rattle.std.specs.Option.{IsSomeAnd, option_and_then}
use Rattle.std.proofs.lemmas.Bool.{false≢true}
use Rattle.std.proofs.lemmas.List.Elements.{All-get_or}
use Rattle.std.proofs.lemmas.List.Quantifiers.{position-Some}
use Rattle.std.proofs.lemmas.Option.{get_or_from_slice_get, slice_get_within}
use Rattle.vpf_triplet.specs.declared.kinds.Count.TheVariants.{Fixed}
use Rattle.vpf_triplet.specs.declared.kinds.Kind.{Kind}
use Rattle.vpf_triplet.specs.declared.kinds.Kind.TheVariants as kinds
use Rattle.vpf_head.specs.Folding.{same_name}
use Rattle.vpf_head.specs.Head.{Col, names, names_rows, place_of}
use Rattle.vpf_head.specs.Inner.Soundness.{IsCounted}
use Rattle.vpf_prims.specs.Roles.{is_number, number_role}
use Rattle.vpf_prims.specs.Suiting.{SuitsRole}
use Rattle.vpf_primitive_tables.specs.Inner.TableForms.Places.{IsColumnAt, NamesRows}
use Rattle.vpf_primitive_tables.specs.Inner.TableForms.ColumnLaws.{one_value}

-- the column at the place of a name has that name
named : (name : List ℕ) (columns : List Col) (c : ℕ) → place_of name columns ≡ Some c → same_name name (get_or (names columns) c []) ≡ true
named name columns c e = (position-Some (same_name name) (names columns) c [] e).1

known_one : (columns : List Col) (c : ℕ) (o : Option Col) → slice_get columns c ≡ o → All IsCounted columns → IsSomeAnd o (λ column. names_rows column.kind ≡ true)
    → IsSomeAnd o (λ column. column.count ≡ Fixed 1)
known_one columns c None e counts h = h
known_one columns c (Some x) e counts h =
    let within : c < length columns = slice_get_within columns c x e in
    let counted : IsCounted x = subst IsCounted (get_or_from_slice_get columns c x x e) (All-get_or IsCounted columns c x within counts) in
    one_value x.kind x.count h counted.allowed

at_place : (columns : List Col) (name : List ℕ) (o : Option ℕ) → place_of name columns ≡ o → NamesRows columns name
    → IsSomeAnd (option_and_then (slice_get columns) o) (λ column. names_rows column.kind ≡ true)
at_place columns name o e h = subst (λ (o : Option ℕ). IsSomeAnd (option_and_then (slice_get columns) o) (λ column. names_rows column.kind ≡ true)) e h

-- a column that is there has a place
pub is_there : (columns : List Col) (name : List ℕ) → NamesRows columns name → place_of name columns ≡ None → ⊥
is_there columns name h e = at_place columns name None e h

-- where it stands it has one value
pub stands : (columns : List Col) (name : List ℕ) (c : ℕ) → All IsCounted columns → NamesRows columns name → place_of name columns ≡ Some c → IsColumnAt columns name c
stands columns name c counts h e = record { place = e; one = known_one columns c (slice_get columns c) refl counts (at_place columns name (Some c) e h) }

number_kind : (kind : Kind) → is_number kind ≡ true → names_rows kind ≡ true
number_kind kinds.S s = refl
number_kind kinds.I s = refl
number_kind kinds.K s = refl
number_kind kind s = absurd (false≢true s)

-- the column of a number, where it suits its role
pub number_names : (name : List ℕ) (o : Option Col) → SuitsRole (number_role name) o → IsSomeAnd o (λ column. names_rows column.kind ≡ true)
number_names name None s = absurd (false≢true s)
number_names name (Some x) s = number_kind x.kind s
