-- The next of a dart that the rows of the grid say is the next in the grid.
use Rattle.std.proofs.Common.{◌≡◌, ◌≢◌, ℕ, ◌/◌, ◌^◌, ◌<◌, ◌≤◌, Bool, true, false, ◌&&◌, ◌==◌, Option, Some, if◌then◌else◌, refl, sym, ap, ◌∙◌, inl, inr, arith}
use std.Path.{fun_ext}
use Rattle.std.specs.Option.{unwrap_or}
use Rattle.std.proofs.lemmas.Bool.{cases_Bool}
use Rattle.std.proofs.lemmas.Bool.Decides.{nat_tests}
use Rattle.vpf_darts.specs.Darts.{code, flip}
use Rattle.vpf_darts.specs.Maps.{DartMap}
use Rattle.vpf_wing.specs.Links.{is_minus, only, is_next, next_to, local_next, local_map, tail_node}
use Rattle.vpf_vectors.specs.Cells.Numbers.{edges}
use Rattle.vpf_vectors.specs.Cells.Maps.{has_dart, next_in_grid, grid_map, head_in, face_in}
use Rattle.vpf_vectors.specs.Inner.GridCoverage.Coverage.{grid_links}
use Rattle.vpf_vectors.proofs.grid_coverage.GridFacts.{GridFacts}
use Rattle.vpf_vectors.proofs.grid_coverage.DartLemmas.{there, has-is, node-is, tail-is, wing-is, plus_of_minus}
use Rattle.vpf_vectors.proofs.cells.MapLemmas.{flip_flip}
use Rattle.vpf_vectors.specs.Inner.GridCoverage.DartLaws.{tile-is, face-is, flip_there, plus_dart}

-- where one dart of an edge passes and the other doesn't, it is the one that passes
only_first : (p : ℕ → Bool) (x : ℕ) → p x ≡ true → p (flip x) ≡ false → only p x ≡ Some x
only_first p x t f = rw (t, f) refl

only_other : (p : ℕ → Bool) (x y : ℕ) → flip y ≡ x → p x ≡ true → p y ≡ false → only p y ≡ Some x
only_other p x y e t f = rw (f, e, t) refl

only_one : (p : ℕ → Bool) (x : ℕ) → p x ≡ true → p (flip x) ≡ false → only p (code 0 (x / 2) 0) ≡ Some x
only_one p x t f = elim (cases_Bool (is_minus x)) [
  | inl m ↦ ap (only p) (plus_of_minus x m) ∙ only_other p x (flip x) (flip_flip x) t f
  | inr m ↦ ap (only p) (plus_dart x m) ∙ only_first p x t f
]

-- a dart that is there, begins here and has this face passes; one that begins elsewhere doesn't
passes : (h : Bool) (a b c d : ℕ) → h ≡ true → a ≡ b → c ≡ d → (h && ((a == b) && (c == d))) ≡ true
passes h a b c d t e f = grind (arith, nat_tests)

fails : (h : Bool) (a b c d : ℕ) → a ≢ b → (h && ((a == b) && (c == d))) ≡ false
fails h a b c d ne = elim (cases_Bool h) [
  | inl t ↦ (let z : (a == b) ≡ false = grind (arith, nat_tests) in rw (t, z) refl)
  | inr f ↦ rw f refl
]

next_there : (F : GridFacts) (n d : ℕ) → 1 ≤ n → has_dart n d ≡ true → has_dart n (next_in_grid n d) ≡ true
next_there F n d le h = (F.map n le).next_live d ∙ h

next_fits : (F : GridFacts) (n d : ℕ) → 1 ≤ n → edges n < 2 ^ 32 → has_dart n d ≡ true
    → is_next (grid_links n) (head_in n d) (face_in n d) (next_in_grid n d) ≡ true
next_fits F n d le few h =
    let g = next_there F n d le h in
    passes ((grid_links n).has (next_in_grid n d)) (tail_node (grid_links n) (next_in_grid n d)) (head_in n d) ((grid_links n).face (next_in_grid n d)).id (face_in n d)
    (there n (next_in_grid n d) few g) (tail-is F n (next_in_grid n d) le few g ∙ (F.fit n d le h).tail) (face-is n (next_in_grid n d) few g ∙ (F.fit n d le h).face)

other_fails : (F : GridFacts) (n d : ℕ) → 1 ≤ n → edges n < 2 ^ 32 → has_dart n d ≡ true
    → is_next (grid_links n) (head_in n d) (face_in n d) (flip (next_in_grid n d)) ≡ false
other_fails F n d le few h =
    let g = next_there F n d le h in
    let o = flip_there n (next_in_grid n d) g in
    let t : tail_node (grid_links n) (flip (next_in_grid n d)) ≡ head_in n (next_in_grid n d) =
    tail-is F n (flip (next_in_grid n d)) le few o ∙ (F.fit n (next_in_grid n d) le g).back in
    fails ((grid_links n).has (flip (next_in_grid n d))) (tail_node (grid_links n) (flip (next_in_grid n d))) (head_in n d)
    ((grid_links n).face (flip (next_in_grid n d))).id (face_in n d)
    (λ e. (F.fit n (next_in_grid n d) le g).no_loop ((F.fit n d le h).tail ∙ sym e ∙ t))

pub next-is : (F : GridFacts) (n d : ℕ) → 1 ≤ n → edges n < 2 ^ 32 → has_dart n d ≡ true → local_next (grid_links n) d ≡ Some (next_in_grid n d)
next-is F n d le few h =
    ap (λ t. next_to (grid_links n) t ((grid_links n).wing d).id ((grid_links n).node d).id ((grid_links n).face d).id) (tile-is n d few h)
    ∙ ap (λ w. next_to (grid_links n) 0 w ((grid_links n).node d).id ((grid_links n).face d).id) (wing-is n d few h)
    ∙ ap (λ k. next_to (grid_links n) 0 (next_in_grid n d / 2) k ((grid_links n).face d).id) (node-is F n d le few h)
    ∙ ap (next_to (grid_links n) 0 (next_in_grid n d / 2) (head_in n d)) (face-is n d few h)
    ∙ only_one (is_next (grid_links n) (head_in n d) (face_in n d)) (next_in_grid n d) (next_fits F n d le few h) (other_fails F n d le few h)

next_by : (b : Bool) (o : Option ℕ) (d x : ℕ) → b ≡ true → o ≡ Some x → (if b then unwrap_or o d else d) ≡ x
next_by b o d x t e = rw (t, e) refl

next_of_none : (b : Bool) (o : Option ℕ) (d : ℕ) → b ≡ false → (if b then unwrap_or o d else d) ≡ d
next_of_none b o d f = rw f refl

pub map_next : (F : GridFacts) (n d : ℕ) → 1 ≤ n → edges n < 2 ^ 32 → (local_map (grid_links n)).next d ≡ next_in_grid n d
map_next F n d le few = elim (cases_Bool (has_dart n d)) [
  | inl t ↦ next_by ((grid_links n).has d) (local_next (grid_links n) d) d (next_in_grid n d) (has-is n d few ∙ t) (next-is F n d le few t)
  | inr f ↦ next_of_none ((grid_links n).has d) (local_next (grid_links n) d) d (has-is n d few ∙ f) ∙ sym ((F.map n le).next_dead d f)
]

-- a map by its darts and their nexts
abbrev map_by : (ℕ → Bool) → (ℕ → ℕ) → DartMap
map_by has next = record { has = has; next = next; flip = flip; live = has }

pub map-is : (F : GridFacts) (n : ℕ) → 1 ≤ n → edges n < 2 ^ 32 → local_map (grid_links n) ≡ grid_map n
map-is F n le few =
    let e : (grid_links n).has ≡ has_dart n = fun_ext (λ d. has-is n d few) in
    let f : (local_map (grid_links n)).next ≡ next_in_grid n = fun_ext (λ d. map_next F n d le few) in
    ap (λ has. map_by has (local_map (grid_links n)).next) e ∙ ap (map_by (has_dart n)) f
