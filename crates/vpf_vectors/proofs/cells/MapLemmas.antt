-- The grid is a map.
use Rattle.std.proofs.Common.{◌≡◌, ◌≢◌, ℕ, ◌+◌, ◌-◌, ◌*◌, ◌%◌, ◌<◌, ◌≤◌, true, false, refl, sym, ap, ◌∙◌, inl, inr, arith}
use Rattle.std.proofs.lemmas.Bool.{cases_Bool}
use Rattle.std.proofs.lemmas.Bool.Decides.{nat_tests}
use Rattle.vpf_darts.specs.Darts.{flip}
use Rattle.vpf_darts.specs.Maps.{IsMap}
use Rattle.vpf_darts.specs.MapLists.{is_among}
use Rattle.vpf_vectors.specs.Cells.Corners.{next_arrow}
use Rattle.vpf_vectors.specs.Cells.Numbers.{edges, arrow_number, arrow_in}
use Rattle.vpf_vectors.specs.Cells.Maps.{has_dart, next_in_grid, grid_map}
use Rattle.vpf_vectors.proofs.cells.ArrowLemmas as arrows
use Rattle.vpf_vectors.proofs.cells.NumberLemmas.{number_has, arrow_of_number, arrow_has, number_of_arrow}

pub next_inside : (n d : ℕ) → has_dart n d ≡ true → next_in_grid n d ≡ arrow_number n (next_arrow n (arrow_in n d))
next_inside n d h = rw h refl

pub next_outside : (n d : ℕ) → has_dart n d ≡ false → next_in_grid n d ≡ d
next_outside n d h = rw h refl

-- what the next of a dart is, as an arrow
pub arrow_of_next : (n d : ℕ) → 1 ≤ n → has_dart n d ≡ true → arrow_in n (next_in_grid n d) ≡ next_arrow n (arrow_in n d)
arrow_of_next n d le h = ap (arrow_in n) (next_inside n d h)
    ∙ arrow_of_number n (next_arrow n (arrow_in n d)) (arrows.next_has n (arrow_in n d) le (arrow_has n d le h))

pub next_has : (n d : ℕ) → 1 ≤ n → has_dart n (next_in_grid n d) ≡ has_dart n d
next_has n d le = elim (cases_Bool (has_dart n d)) [
  | inl t ↦ ap (has_dart n) (next_inside n d t) ∙ number_has n (next_arrow n (arrow_in n d)) (arrows.next_has n (arrow_in n d) le (arrow_has n d le t)) ∙ sym t
  | inr f ↦ ap (has_dart n) (next_outside n d f)
]

pub next_apart : (n d e : ℕ) → 1 ≤ n → next_in_grid n d ≡ next_in_grid n e → d ≡ e
next_apart n d e le same =
    let alike : has_dart n d ≡ has_dart n e = sym (next_has n d le) ∙ ap (has_dart n) same ∙ next_has n e le in
    elim (cases_Bool (has_dart n d)) [
      | inl t ↦ (
          let u : has_dart n e ≡ true = sym alike ∙ t in
          let one : next_arrow n (arrow_in n d) ≡ next_arrow n (arrow_in n e) = sym (arrow_of_next n d le t) ∙ ap (arrow_in n) same ∙ arrow_of_next n e le u in
          sym (number_of_arrow n d le t)
          ∙ ap (arrow_number n) (arrows.next_apart n (arrow_in n d) (arrow_in n e) le (arrow_has n d le t) (arrow_has n e le u) one)
          ∙ number_of_arrow n e le u)
      | inr f ↦ sym (next_outside n d f) ∙ same ∙ next_outside n e (sym alike ∙ f)
    ]

flip_among : (e d : ℕ) → is_among (2 * e) d ≡ true → is_among (2 * e) (flip d) ≡ true
unfolding flip
flip_among e d h =
    let b : (2 ≤ d) × (d < 2 * e + 2) = grind (arith, nat_tests) in
    let low : 2 ≤ d + 1 - 2 * (d % 2) = omega arith in
    let high : d + 1 - 2 * (d % 2) < 2 * e + 2 = omega arith in
    grind (arith, nat_tests)

pub flip_has : (n d : ℕ) → has_dart n d ≡ true → has_dart n (flip d) ≡ true
flip_has n d h = flip_among (edges n) d h

pub flip_flip : (d : ℕ) → flip (flip d) ≡ d
unfolding flip
flip_flip d = omega arith

flip_apart : (d : ℕ) → flip d ≢ d
unfolding flip
flip_apart d e = omega arith

pub grid_is_map : (n : ℕ) → 1 ≤ n → IsMap (grid_map n)
grid_is_map n le = record {
  next_apart = λ d e same. next_apart n d e le same;
  next_live = λ d. next_has n d le;
  next_dead = λ d dead. next_outside n d dead;
  live_has = λ d h. h;
  flip_has = λ d h. flip_has n d h;
  flip_live = λ d h. flip_has n d h ∙ sym h;
  flip_flip = λ d h. flip_flip d;
  flip_apart = λ d h. flip_apart d;
}
