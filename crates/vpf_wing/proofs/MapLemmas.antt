-- The map of edges whose nexts are each one dart of its own.
use Rattle.std.proofs.Common.{◌≡◌, ◌≢◌, ℕ, ◌+◌, ◌-◌, ◌*◌, ◌/◌, ◌%◌, ◌<◌, ◌≤◌, Bool, true, false, eqb, Option, Some, None, List, length, refl, sym, ap, subst, ◌∙◌, arith, inl, inr}
use Rattle.std.specs.Option.{option_map}
use Rattle.std.proofs.lemmas.Bool.{cases_eq, cases_lt, cases_Bool}
use Rattle.std.proofs.lemmas.Bool.Decides.{nat_tests}
use Rattle.vpf_value.specs.Values.{Value}
use Rattle.vpf_darts.specs.declared.darts.Dart.{Dart}
use Rattle.vpf_darts.specs.Darts.{code, dart_code, sign_of, flip}
use Rattle.vpf_darts.specs.Maps.{IsMap}
use Rattle.vpf_darts.specs.MapLists.{is_among}
use Rattle.vpf_prims.specs.declared.rows.Edge.{Edge}
use Rattle.vpf_prims.specs.Edges.{EdgesAt}
use Rattle.vpf_prims.specs.Edges.{HaveWings, IsEdge}
use Rattle.vpf_findings.specs.Firsts.{where_holds}
use Rattle.vpf_wing.specs.Nexts.{next_dart, dart_at, is_dart, earlier, the_one, wing, follows, MakeMap}
use Rattle.vpf_wing.specs.Wings.{wing_line, next_line, wings_finding, repeated}
use Rattle.vpf_wing.specs.Boundaries.{next_number, map_of}
use Rattle.vpf_findings.specs.Inner.FirstLaws.{over_none, over_silent, option_map-none}
use Rattle.vpf_wing.proofs.NextLemmas.{eqb_apart}
use Rattle.vpf_wing.proofs.WingLemmas.{wing_among}

-- the number of a dart of an untiled coverage
pub code_is : (d : Dart) → dart_code d ≡ 2 * d.edge + sign_of d.minus
unfolding code
code_is d = omega arith

pub sign_small : (minus : Bool) → sign_of minus ≤ 1
sign_small true = omega arith
sign_small false = omega arith

pub among : (n d : ℕ) → 2 ≤ d → d < n + 2 → is_among n d ≡ true
among n d low high = grind (arith, nat_tests)

pub inside : (n d : ℕ) → is_among n d ≡ true → (2 ≤ d) × (d < n + 2)
inside n d h = (grind (arith, nat_tests), grind (arith, nat_tests))

pub number_among : (n : ℕ) (x : Dart) → IsEdge n x.edge → is_among (2 * n) (dart_code x) ≡ true
number_among n x h = among (2 * n) (dart_code x) (omega (arith, code_is x, h.0)) (omega (arith, code_is x, sign_small x.minus, h.1))

one_edge : (a b : Bool) (p q x : Dart) → the_one a b p q ≡ Some x → p.edge ≡ q.edge → x.edge ≡ p.edge
one_edge true false p q x h e = let k : p ≡ x = cc in ap (λ (d : Dart). d.edge) (sym k)
one_edge false true p q x h e = let k : q ≡ x = cc in ap (λ (d : Dart). d.edge) (sym k) ∙ sym e
one_edge true true p q x h e = absurd cc
one_edge false false p q x h e = absurd cc

pub next_edge : (edges : List Edge) (d x : Dart) → next_dart edges d ≡ Some x → x.edge ≡ wing edges d
unfolding next_dart
next_edge edges d x h =
    let plus : Dart = record { edge = wing edges d; minus = false } in
    let minus : Dart = record { edge = wing edges d; minus = true } in
    one_edge (follows edges d plus) (follows edges d minus) plus minus x h refl

number_of_next : (edges : List Edge) (d : ℕ) (x : Dart) → is_among (2 * length edges) d ≡ true → next_dart edges (dart_at (d - 2)) ≡ Some x → next_number edges d ≡ dart_code x
unfolding next_number
number_of_next edges d x in' is = rw (in', is) refl

-- the next of a dart, one of the edges
pub record HasNext (edges : List Edge) (d : ℕ) : Type 0 where
  pub next : Dart
  pub is : next_dart edges (dart_at (d - 2)) ≡ Some next
  pub edge : IsEdge (length edges) next.edge
  pub number : next_number edges d ≡ dart_code next

pub has_next : (edges : List Edge) → HaveWings (length edges) edges → MakeMap edges → (d : ℕ) → is_among (2 * length edges) d ≡ true → HasNext edges d
has_next edges have made d h =
    let b = inside (2 * length edges) d h in
    let x = made.one (d - 2) (omega (arith, b.0, b.1)) in
    let low : 1 ≤ (d - 2) / 2 + 1 = omega arith in
    let high : (d - 2) / 2 + 1 ≤ length edges = omega (arith, b.0, b.1) in
    let w : IsEdge (length edges) (wing edges (dart_at (d - 2))) = wing_among edges (dart_at (d - 2)) have (low, high) in
    let e : x.0.edge ≡ wing edges (dart_at (d - 2)) = next_edge edges (dart_at (d - 2)) x.0 x.1 in
    record { next = x.0; is = x.1; edge = subst (λ (v : ℕ). IsEdge (length edges) v) (sym e) w; number = number_of_next edges d x.0 h x.1 }

pub next_outside : (edges : List Edge) (d : ℕ) → is_among (2 * length edges) d ≡ false → next_number edges d ≡ d
unfolding next_number
next_outside edges d h = rw h refl

pub flip_among : (n d : ℕ) → is_among (2 * n) d ≡ true → is_among (2 * n) (flip d) ≡ true
unfolding flip
flip_among n d h = let b = inside (2 * n) d h in among (2 * n) (d + 1 - 2 * (d % 2)) (omega (arith, b.0)) (omega (arith, b.1))

flip_flip : (d : ℕ) → 2 ≤ d → flip (flip d) ≡ d
unfolding flip
flip_flip d h = elim (cases_eq (d % 2) 0) [
  | inl even ↦ (
      let e : d + 1 - 2 * (d % 2) ≡ d + 1 = omega arith in
      let odd : (d + 1) % 2 ≡ 1 = omega arith in
      rw (e, odd) (omega arith))
  | inr odd ↦ (
      let one : d % 2 ≡ 1 = omega arith in
      let e : d + 1 - 2 * (d % 2) ≡ d - 1 = omega arith in
      let even : (d - 1) % 2 ≡ 0 = omega arith in
      rw (e, even) (omega arith))
]

flip_apart : (d : ℕ) → 2 ≤ d → flip d ≢ d
unfolding flip
flip_apart d h e = omega arith

pub is_map : (edges : List Edge) → HaveWings (length edges) edges → MakeMap edges → IsMap (map_of edges)
is_map edges have made =
    let goes : (d : ℕ) → is_among (2 * length edges) d ≡ true → is_among (2 * length edges) (next_number edges d) ≡ true = λ d h.
    let p = has_next edges have made d h in rw p.number (number_among (length edges) p.next p.edge) in
    record {
      next_apart = λ d e same. elim (cases_Bool (is_among (2 * length edges) d)) [
        | inl yd ↦ elim (cases_Bool (is_among (2 * length edges) e)) [
          | inl ye ↦ (
              let p = has_next edges have made d yd in
              let q = has_next edges have made e ye in
              let bd = inside (2 * length edges) d yd in
              let be = inside (2 * length edges) e ye in
              let s : dart_code p.next ≡ dart_code q.next = sym p.number ∙ same ∙ q.number in
              let i : d - 2 ≡ e - 2 = made.apart (d - 2) (e - 2) p.next q.next (omega (arith, bd.0, bd.1)) (omega (arith, be.0, be.1)) p.is q.is s in
              omega (arith, bd.0, be.0))
          | inr ne ↦ (let t : is_among (2 * length edges) e ≡ true = rw (next_outside edges e ne) at (rw same at (goes d yd)) in absurd (cc (ne, t)))
        ]
        | inr nd ↦ elim (cases_Bool (is_among (2 * length edges) e)) [
          | inl ye ↦ (let t : is_among (2 * length edges) d ≡ true = rw (next_outside edges d nd) at (rw (← same) at (goes e ye)) in absurd (cc (nd, t)))
          | inr ne ↦ sym (next_outside edges d nd) ∙ same ∙ next_outside edges e ne
        ]
      ];
      next_live = λ d. elim (cases_Bool (is_among (2 * length edges) d)) [
        | inl in' ↦ goes d in' ∙ sym in'
        | inr out ↦ ap (is_among (2 * length edges)) (next_outside edges d out)
      ];
      next_dead = λ d h. next_outside edges d h;
      live_has = λ d h. h;
      flip_has = λ d h. flip_among (length edges) d h;
      flip_live = λ d h. flip_among (length edges) d h ∙ sym h;
      flip_flip = λ d h. flip_flip d ((inside (2 * length edges) d h).0);
      flip_apart = λ d h. flip_apart d ((inside (2 * length edges) d h).0);
    }

-- ---- no finding is a map

some_next : (columns : EdgesAt) (cell : Dart → Value) (edges : List Edge) (i : ℕ) (o : Option Dart) → next_line columns cell edges i o ≡ None → (x : Dart) × (o ≡ Some x)
some_next columns cell edges i None h = absurd cc
some_next columns cell edges i (Some x) h = (x, refl)

same_number : (x y : Dart) → dart_code x ≡ dart_code y → is_dart (Some x) y ≡ true
same_number x y e = grind (arith, nat_tests)

-- two places don't have one next
apart : (columns : EdgesAt) (cell : Dart → Value) (edges : List Edge) → wings_finding columns cell edges ≡ None → (i j : ℕ) (x y : Dart) → i < j → j < 2 * length edges
    → next_dart edges (dart_at i) ≡ Some x → next_dart edges (dart_at j) ≡ Some y → dart_code x ≡ dart_code y → ⊥
apart columns cell edges none i j x y lt in' isx isy same =
    let line : wing_line columns cell edges j ≡ None = over_none (wing_line columns cell edges) 0 (2 * length edges) none j (omega arith) (omega arith) in
    let line' : option_map (repeated columns (dart_at j) y) (earlier edges y j) ≡ None = rw isy at line in
    let free : earlier edges y j ≡ None = option_map-none (repeated columns (dart_at j) y) (earlier edges y j) line' in
    let no : where_holds (is_dart (next_dart edges (dart_at i)) y) (dart_at i) ≡ None = over_none (λ k. where_holds (is_dart (next_dart edges (dart_at k)) y) (dart_at k)) 0 j free i (omega arith) (omega arith) in
    let no' : where_holds (is_dart (Some x) y) (dart_at i) ≡ None = rw isx at no in
    let no'' : where_holds true (dart_at i) ≡ None = rw (same_number x y same) at no' in
    cc

pub makes_map : (columns : EdgesAt) (cell : Dart → Value) (edges : List Edge) → wings_finding columns cell edges ≡ None → MakeMap edges
makes_map columns cell edges none = record {
  one = λ i h. some_next columns cell edges i (next_dart edges (dart_at i)) (over_none (wing_line columns cell edges) 0 (2 * length edges) none i (omega arith) (omega arith));
  apart = λ i j x y hi hj isx isy same. elim (cases_lt i j) [
    | inl lt ↦ absurd (apart columns cell edges none i j x y lt hj isx isy same)
    | inr ge ↦ elim (cases_lt j i) [
      | inl gt ↦ absurd (apart columns cell edges none j i y x gt hi isy isx (sym same))
      | inr le ↦ omega arith
    ]
  ];
}

free : (edges : List Edge) → MakeMap edges → (i j : ℕ) (x : Dart) → i < j → j < 2 * length edges → next_dart edges (dart_at j) ≡ Some x → where_holds (is_dart (next_dart edges (dart_at i)) x) (dart_at i) ≡ None
free edges made i j x lt in' is =
    let y = made.one i (omega arith) in
    rw y.1 (elim (cases_eq (dart_code y.0) (dart_code x)) [
      | inl same ↦ (let e : i ≡ j = made.apart i j y.0 x (omega arith) in' y.1 is same in absurd (omega arith))
      | inr other ↦ (let no : eqb (dart_code y.0) (dart_code x) ≡ false = eqb_apart _ _ other in rw no refl)
    ])

line_of_map : (columns : EdgesAt) (cell : Dart → Value) (edges : List Edge) → MakeMap edges → (j : ℕ) → j < 2 * length edges → wing_line columns cell edges j ≡ None
line_of_map columns cell edges made j in' =
    let x = made.one j in' in
    let none : earlier edges x.0 j ≡ None = over_silent (λ i. where_holds (is_dart (next_dart edges (dart_at i)) x.0) (dart_at i)) 0 j (λ i low high. free edges made i j x.0 (omega arith) in' x.1) in
    rw (x.1, none) refl

pub map_has_none : (columns : EdgesAt) (cell : Dart → Value) (edges : List Edge) → MakeMap edges → wings_finding columns cell edges ≡ None
map_has_none columns cell edges made = over_silent (wing_line columns cell edges) 0 (2 * length edges) (λ j low high. line_of_map columns cell edges made j (omega arith))

-- the place of a dart of the edges
pub place_inside : (n : ℕ) (x : Dart) (place : ℕ) {room : ℕ} → IsEdge n x.edge → place + 2 ≡ dart_code x → room ≡ 2 * n → place < room
place_inside n x place e is room = omega (arith, e.0, e.1, code_is x, sign_small x.minus)
