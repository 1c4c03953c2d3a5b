-- A loop over darts that keeps which dart has each next.
use Rattle.std.proofs.Common.{◌≡◌, ◌≢◌, ℕ, zero, suc, ◌+◌, ◌<◌, true, false, eqb, Option, Some, None, List, [], ◌∷◌, ◌++◌, length, get_or, set, get_or-set_same, get_or-set_other, length-set, refl, sym, ◌∙◌, arith, inl, inr}
use Rattle.std.specs.Prelude.{slice_get}
use Rattle.std.proofs.lemmas.Bool.{cases_eq, cases_lt}
use Rattle.std.proofs.lemmas.Bool.Decides.{nat_tests}
use Rattle.std.proofs.lemmas.Grind.{common_steps}
use Rattle.vpf_value.specs.Values.{Value}
use Rattle.vpf_darts.specs.declared.darts.Dart.{Dart}
use Rattle.vpf_darts.specs.Darts.{dart_code}
use Rattle.vpf_prims.specs.declared.rows.Edge.{Edge}
use Rattle.vpf_prims.specs.Edges.{EdgesAt}
use Rattle.vpf_findings.specs.Firsts.{◌or◌, where_holds}
use Rattle.vpf_wing.specs.Nexts.{next_dart, dart_at, is_dart, earlier}
use Rattle.vpf_wing.specs.Wings.{wing_line, no_next, repeated}
use Rattle.vpf_findings.specs.Inner.FirstLaws.{or-none, over_more}

-- each place holds the next of the dart there
abbrev pub HoldNexts : List Edge → List Dart → Type 0
HoldNexts edges nexts = (i : ℕ) → i < length nexts → slice_get nexts i ≡ next_dart edges (dart_at i)

-- each place holds the first of the darts before n whose next is the dart there
abbrev pub HoldOwners : List Edge → List (Option Dart) → ℕ → Type 0
HoldOwners edges owners n = (i : ℕ) (x : Dart) → i < length owners → i + 2 ≡ dart_code x → get_or owners i None ≡ earlier edges x n

pub eqb_same : (x y : ℕ) → x ≡ y → eqb x y ≡ true
eqb_same x y e = grind (arith, nat_tests)

pub eqb_apart : (x y : ℕ) → (x ≡ y → ⊥) → eqb x y ≡ false
eqb_apart x y ne = grind (arith, nat_tests)

held_length : (owners : List (Option Dart)) (i j : ℕ) (v : Option Dart) → j < length (set owners i v) → j < length owners
held_length owners i j v h = omega (arith, length-set {A = Option Dart} owners i v)

-- one more dart has its next
pub owners_more : (edges : List Edge) (owners : List (Option Dart)) (n i : ℕ) (next : Dart) → i < length owners → i + 2 ≡ dart_code next → next_dart edges (dart_at n) ≡ Some next
    → get_or owners i None ≡ None → HoldOwners edges owners n → HoldOwners edges (set owners i (Some (dart_at n))) (n + 1)
owners_more edges owners n i next in' is has free held j x inside named =
    let more : earlier edges x (n + 1) ≡ (earlier edges x n or where_holds (is_dart (next_dart edges (dart_at n)) x) (dart_at n)) =
    over_more (λ k. where_holds (is_dart (next_dart edges (dart_at k)) x) (dart_at k)) n in
    elim (cases_eq i j) [
      | inl same ↦ (
          let none : earlier edges x n ≡ None = sym (held i x in' (omega arith)) ∙ free in
          let here : eqb (dart_code next) (dart_code x) ≡ true = eqb_same _ _ (omega arith) in
          rw more (rw (← same, get_or-set_same owners i (Some (dart_at n)) None in', none, has, here) refl))
      | inr apart ↦ (
          let there : j < length owners = held_length owners i j (Some (dart_at n)) inside in
          let other : j ≢ i = λ q. apart (sym q) in
          let no : eqb (dart_code next) (dart_code x) ≡ false = eqb_apart _ _ (λ e. apart (omega arith)) in
          rw more (rw (get_or-set_other owners i j (Some (dart_at n)) None other, has, no, or-none) (held j x there named)))
    ]

pub line_free : (columns : EdgesAt) (cell : Dart → Value) (edges : List Edge) (owners : List (Option Dart)) (n i : ℕ) (next : Dart) → i < length owners → i + 2 ≡ dart_code next → next_dart edges (dart_at n) ≡ Some next
    → get_or owners i None ≡ None → HoldOwners edges owners n → wing_line columns cell edges n ≡ None
line_free columns cell edges owners n i next in' is has free held =
    let none : earlier edges next n ≡ None = sym (held i next in' is) ∙ free in
    rw (has, none) refl

pub line_none : (columns : EdgesAt) (cell : Dart → Value) (edges : List Edge) (n : ℕ) → next_dart edges (dart_at n) ≡ None → wing_line columns cell edges n ≡ Some (no_next columns cell (dart_at n))
line_none columns cell edges n none = rw none refl

pub line_taken : (columns : EdgesAt) (cell : Dart → Value) (edges : List Edge) (owners : List (Option Dart)) (n i : ℕ) (next owner : Dart) → i < length owners → i + 2 ≡ dart_code next → next_dart edges (dart_at n) ≡ Some next
    → get_or owners i None ≡ Some owner → HoldOwners edges owners n → wing_line columns cell edges n ≡ Some (repeated columns (dart_at n) next owner)
line_taken columns cell edges owners n i next owner in' is has taken held =
    let some : earlier edges next n ≡ Some owner = sym (held i next in' is) ∙ taken in
    rw (has, some) refl

get_push : (xs : List Dart) (x : Dart) (i : ℕ) → i < length xs → slice_get (xs ++ x ∷ []) i ≡ slice_get xs i
get_push [] x i h = absurd (omega arith)
get_push (y ∷ xs) x zero h = refl
get_push (y ∷ xs) x (suc i) h = get_push xs x i (omega arith)

get_last : (xs : List Dart) (x : Dart) → slice_get (xs ++ x ∷ []) (length xs) ≡ Some x
get_last [] x = refl
get_last (y ∷ xs) x = get_last xs x

pub nexts_more : (edges : List Edge) (nexts : List Dart) (n : ℕ) (next : Dart) → length nexts ≡ n → next_dart edges (dart_at n) ≡ Some next → HoldNexts edges nexts → HoldNexts edges (nexts ++ next ∷ [])
nexts_more edges nexts n next len has held i h = elim (cases_lt i (length nexts)) [
  | inl lt ↦ get_push nexts next i lt ∙ held i lt
  | inr ge ↦ (
      let l : length (nexts ++ next ∷ []) ≡ length nexts + 1 = grind (arith, common_steps) in
      let same : i ≡ length nexts = omega arith in
      rw same (get_last nexts next ∙ sym (rw len has)))
]
