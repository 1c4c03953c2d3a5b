-- The nexts of places, where the wings make a map, permute the places; the same walks by places and by the numbers of darts.
use Rattle.std.proofs.Common.{◌≡◌, ℕ, zero, suc, ◌+◌, ◌-◌, ◌*◌, ◌^◌, ◌<◌, ◌≤◌, Bool, true, false, cond, Option, Some, None, List, length, refl, sym, ap, subst, ◌∙◌, inl, inr, arith}
use Rattle.std.proofs.lemmas.Bool.{cases_lt}
use Rattle.std.specs.Option.{option_map, unwrap_or}
use Rattle.vpf_darts.specs.declared.darts.Dart.{Dart}
use Rattle.vpf_darts.specs.Darts.{dart_code}
use Rattle.vpf_darts.specs.Maps.{turn}
use Rattle.vpf_darts.specs.MapLists.{dart_place}
use Rattle.vpf_prims.specs.declared.rows.Edge.{Edge}
use Rattle.vpf_prims.specs.Edges.{IsEdge}
use Rattle.vpf_prims.specs.Primitives.{Library, edge_count}
use Rattle.vpf_wing.specs.Nexts.{dart_at, wing, next_dart, MakeMap}
use Rattle.vpf_wing.specs.Places.{place_or, next_place, least_place, flip_place, turn_place}
use Rattle.vpf_wing.specs.Walks.{Steps, LeadsTo}
use Rattle.vpf_wing.specs.Links.{links_of, local_next, local_map}
use Rattle.vpf_wing.proofs.MapLemmas.{code_is, next_edge}
use Rattle.vpf_wing.proofs.LawFacts.{below, past}
use Rattle.vpf_wing.proofs.LawDarts.{number_at, number-apart, number_dart}
use Rattle.vpf_wing.proofs.LawLinks.{rows_of, rows_count, dart_number, plus_dart, minus_dart, number_next, number_flip, flip_below}
use Rattle.vpf_wing.proofs.LawOrbits.{KeepsApart, StaysBelow, least_along, leads_from_least}

-- the wings of all darts are among the edges
abbrev pub AreAmong : List Edge → Type 0
AreAmong edges = (p : ℕ) → p < 2 * length edges → IsEdge (length edges) (wing edges (dart_at p))

sign_small : (d : Dart) → dart_code d ≤ 2 * d.edge + 1
sign_small d = small d.edge d.minus
  where
    small : (k : ℕ) (m : Bool) → dart_code (record { edge = k; minus = m }) ≤ 2 * k + 1
    small k true = omega (arith, code_is (record { edge = k; minus = true }))
    small k false = omega (arith, code_is (record { edge = k; minus = false }))

-- the dart at the place of a dart
back_by : (k : ℕ) (m : Bool) → 1 ≤ k → dart_at (dart_place (dart_code (record { edge = k; minus = m }))) ≡ (let d : Dart = record { edge = k; minus = m } in d)
back_by k true h =
    let e : dart_place (dart_code (record { edge = k; minus = true })) ≡ 2 * (k - 1) + 1 = omega (arith, code_is (record { edge = k; minus = true })) in
    rw e (minus_dart k h)
back_by k false h =
    let e : dart_place (dart_code (record { edge = k; minus = false })) ≡ 2 * (k - 1) = omega (arith, code_is (record { edge = k; minus = false })) in
    rw e (plus_dart k h)

pub dart_back : (d : Dart) → 1 ≤ d.edge → dart_at (dart_place (dart_code d)) ≡ d
dart_back d h = back_by d.edge d.minus h

-- the place of a next
pub next_within : (edges : List Edge) → AreAmong edges → (p : ℕ) (x : Dart) → p < 2 * length edges → next_dart edges (dart_at p) ≡ Some x
    → dart_place (dart_code x) < 2 * length edges
next_within edges among p x h e =
    let w : IsEdge (length edges) x.edge = subst (λ k. IsEdge (length edges) k) (sym (next_edge edges (dart_at p) x e)) (among p h) in
    omega (arith, w.0, w.1, sign_small x)

pub next_is_place : (edges : List Edge) (p : ℕ) (x : Dart) → p < 2 * length edges → next_dart edges (dart_at p) ≡ Some x
    → next_place edges p ≡ dart_place (dart_code x)
unfolding next_place
next_is_place edges p x h e = rw (below p (2 * length edges) h, e) refl

pub next_past : (edges : List Edge) (p : ℕ) → 2 * length edges ≤ p → next_place edges p ≡ p
unfolding next_place
next_past edges p h = rw (past p (2 * length edges) h) refl

next_or : (edges : List Edge) → AreAmong edges → (p : ℕ) (o : Option Dart) → p < 2 * length edges → next_dart edges (dart_at p) ≡ o
    → place_or o p < 2 * length edges
next_or edges among p None h e = h
next_or edges among p (Some x) h e = next_within edges among p x h e

-- a next stays among the places
pub stays_below : (edges : List Edge) → AreAmong edges → StaysBelow (next_place edges) (2 * length edges)
unfolding next_place
stays_below edges among p h = rw (below p (2 * length edges) h) (next_or edges among p (next_dart edges (dart_at p)) h refl)

pub same_code : (edges : List Edge) → AreAmong edges → (p q : ℕ) (x y : Dart) → p < 2 * length edges → q < 2 * length edges
    → next_dart edges (dart_at p) ≡ Some x → next_dart edges (dart_at q) ≡ Some y → dart_place (dart_code x) ≡ dart_place (dart_code y)
    → dart_code x ≡ dart_code y
same_code edges among p q x y hp hq ex ey e =
    let v : IsEdge (length edges) x.edge = subst (λ k. IsEdge (length edges) k) (sym (next_edge edges (dart_at p) x ex)) (among p hp) in
    let w : IsEdge (length edges) y.edge = subst (λ k. IsEdge (length edges) k) (sym (next_edge edges (dart_at q) y ey)) (among q hq) in
    omega (arith, v.0, w.0, code_is x, code_is y)

pub keeps_apart : (edges : List Edge) → AreAmong edges → MakeMap edges → KeepsApart (next_place edges)
keeps_apart edges among made p q e = elim (cases_lt p (2 * length edges)) [
  | inl lp ↦ (
      let bp : next_place edges p < 2 * length edges = stays_below edges among p lp in
      elim (cases_lt q (2 * length edges)) [
        | inl lq ↦ (
            let x = made.one p lp in
            let y = made.one q lq in
            let s : dart_place (dart_code x.0) ≡ dart_place (dart_code y.0) = sym (next_is_place edges p x.0 lp x.1) ∙ e ∙ next_is_place edges q y.0 lq y.1 in
            made.apart p q x.0 y.0 lp lq x.1 y.1 (same_code edges among p q x.0 y.0 lp lq x.1 y.1 s))
        | inr gq ↦ (let past : next_place edges q ≡ q = next_past edges q gq in absurd (omega arith))
      ])
  | inr gp ↦ (
      let past : next_place edges p ≡ p = next_past edges p gp in
      elim (cases_lt q (2 * length edges)) [
        | inl lq ↦ (let bq : next_place edges q < 2 * length edges = stays_below edges among q lq in absurd (omega arith))
        | inr gq ↦ (let past' : next_place edges q ≡ q = next_past edges q gq in omega arith)
      ])
]

-- a walk by the numbers of darts is one by places
pub steps_by : (f g num : ℕ → ℕ) (n : ℕ) → StaysBelow g n → ((p : ℕ) → p < n → f (num p) ≡ num (g p)) → ((p q : ℕ) → num p ≡ num q → p ≡ q)
    → (k p q : ℕ) → p < n → Steps f k (num p) (num q) → Steps g k p q
steps_by f g num n stays goes apart zero p q h s = apart p q s
steps_by f g num n stays goes apart (suc k) p q h s = steps_by f g num n stays goes apart k (g p) q (stays p h) (subst (λ v. Steps f k v (num q)) (goes p h) s)

pub steps_of : (f g num : ℕ → ℕ) (n : ℕ) → StaysBelow g n → ((p : ℕ) → p < n → f (num p) ≡ num (g p))
    → (k p q : ℕ) → p < n → Steps g k p q → Steps f k (num p) (num q)
steps_of f g num n stays goes zero p q h s = ap num s
steps_of f g num n stays goes (suc k) p q h s = subst (λ v. Steps f k v (num q)) (sym (goes p h)) (steps_of f g num n stays goes k (g p) q (stays p h) s)

-- a tile whose numbers are few, and whose wings are among its edges
pub record IsTile (L : Library) (t : ℕ) : Type 0 where
  pub last : t ≤ L.last
  pub few : edge_count L t < 2 ^ 24
  pub among : AreAmong (rows_of L t)

pub below_rows : (L : Library) (t p : ℕ) → p < 2 * edge_count L t → p < 2 * length (rows_of L t)
below_rows L t p h = omega (arith, rows_count L t)

pub next_of_number : (L : Library) (t p : ℕ) → IsTile L t → p < 2 * edge_count L t
    → local_next (links_of L) (number_at t p) ≡ option_map (dart_number t) (next_dart (rows_of L t) (dart_at p))
next_of_number L t p tile h =
    number_next L t p tile.last tile.few h (subst (λ n. IsEdge n (wing (rows_of L t) (dart_at p))) (rows_count L t) (tile.among p (below_rows L t p h)))

or_place : (t p : ℕ) (o : Option Dart) → unwrap_or (option_map (dart_number t) o) (number_at t p) ≡ number_at t (place_or o p)
or_place t p None = refl
or_place t p (Some x) = refl

-- the next by the numbers is the next by places
pub goes_next : (L : Library) (t : ℕ) → IsTile L t → (p : ℕ) → p < 2 * edge_count L t
    → (local_map (links_of L)).next (number_at t p) ≡ number_at t (next_place (rows_of L t) p)
unfolding next_place
goes_next L t tile p h =
    let has : (links_of L).has (number_at t p) ≡ true = (number_dart L t p tile.last tile.few h).has in
    ap (λ b. cond b (unwrap_or (local_next (links_of L) (number_at t p)) (number_at t p)) (number_at t p)) has
    ∙ ap (λ o. unwrap_or o (number_at t p)) (next_of_number L t p tile h)
    ∙ or_place t p (next_dart (rows_of L t) (dart_at p))
    ∙ rw (below p (2 * length (rows_of L t)) (below_rows L t p h)) refl

pub goes_turn : (L : Library) (t : ℕ) → IsTile L t → (p : ℕ) → p < 2 * edge_count L t
    → turn (local_map (links_of L)) (number_at t p) ≡ number_at t (turn_place (rows_of L t) p)
goes_turn L t tile p h = ap (local_map (links_of L)).next (number_flip t p) ∙ goes_next L t tile (flip_place p) (flip_below (edge_count L t) p h)

pub tile_stays : (L : Library) (t : ℕ) → IsTile L t → StaysBelow (next_place (rows_of L t)) (2 * edge_count L t)
tile_stays L t tile = subst (λ n. StaysBelow (next_place (rows_of L t)) (2 * n)) (rows_count L t) (stays_below (rows_of L t) tile.among)

pub turn_stays : (L : Library) (t : ℕ) → IsTile L t → StaysBelow (turn_place (rows_of L t)) (2 * edge_count L t)
turn_stays L t tile p h = tile_stays L t tile (flip_place p) (flip_below (edge_count L t) p h)

-- darts are on one cycle exactly where their places are
pub leads_by : (L : Library) (t : ℕ) → IsTile L t → (p q : ℕ) → p < 2 * edge_count L t → LeadsTo (local_map (links_of L)).next (number_at t p) (number_at t q)
    → LeadsTo (next_place (rows_of L t)) p q
leads_by L t tile p q h to = (
  to.0,
  steps_by (local_map (links_of L)).next (next_place (rows_of L t)) (number_at t) (2 * edge_count L t) (tile_stays L t tile)
      (goes_next L t tile) (number-apart t) to.0 p q h to.1,
)

pub leads_of : (L : Library) (t : ℕ) → IsTile L t → (p q : ℕ) → p < 2 * edge_count L t → LeadsTo (next_place (rows_of L t)) p q
    → LeadsTo (local_map (links_of L)).next (number_at t p) (number_at t q)
leads_of L t tile p q h to = (
  to.0,
  steps_of (local_map (links_of L)).next (next_place (rows_of L t)) (number_at t) (2 * edge_count L t) (tile_stays L t tile)
      (goes_next L t tile) to.0 p q h to.1,
)

pub turns_by : (L : Library) (t : ℕ) → IsTile L t → (p q : ℕ) → p < 2 * edge_count L t
    → LeadsTo (turn (local_map (links_of L))) (number_at t p) (number_at t q) → LeadsTo (turn_place (rows_of L t)) p q
turns_by L t tile p q h to = (
  to.0,
  steps_by (turn (local_map (links_of L))) (turn_place (rows_of L t)) (number_at t) (2 * edge_count L t) (turn_stays L t tile)
      (goes_turn L t tile) (number-apart t) to.0 p q h to.1,
)

pub turns_of : (L : Library) (t : ℕ) → IsTile L t → (p q : ℕ) → p < 2 * edge_count L t → LeadsTo (turn_place (rows_of L t)) p q
    → LeadsTo (turn (local_map (links_of L))) (number_at t p) (number_at t q)
turns_of L t tile p q h to = (
  to.0,
  steps_of (turn (local_map (links_of L))) (turn_place (rows_of L t)) (number_at t) (2 * edge_count L t) (turn_stays L t tile)
      (goes_turn L t tile) to.0 p q h to.1,
)

-- the nexts of a tile permute its places
pub record AreNextsOf (L : Library) (t : ℕ) : Type 0 where
  pub apart : KeepsApart (next_place (rows_of L t))
  pub stays : StaysBelow (next_place (rows_of L t)) (2 * length (rows_of L t))

pub nexts_of : (L : Library) (t : ℕ) → IsTile L t → MakeMap (rows_of L t) → AreNextsOf L t
nexts_of L t tile made = record { apart = keeps_apart (rows_of L t) tile.among made; stays = stays_below (rows_of L t) tile.among }

-- darts are on one cycle exactly where they have one least place
pub least_by : (L : Library) (t : ℕ) → IsTile L t → MakeMap (rows_of L t) → (p q : ℕ) → p < 2 * edge_count L t
    → LeadsTo (local_map (links_of L)).next (number_at t p) (number_at t q) → least_place (rows_of L t) p ≡ least_place (rows_of L t) q
unfolding least_place
least_by L t tile made p q h to =
    let n = nexts_of L t tile made in
    least_along (next_place (rows_of L t)) (2 * length (rows_of L t)) n.apart n.stays p q (below_rows L t p h) (leads_by L t tile p q h to)

pub least_leads : (L : Library) (t : ℕ) → IsTile L t → MakeMap (rows_of L t) → (p q : ℕ) → p < 2 * edge_count L t → q < 2 * edge_count L t
    → least_place (rows_of L t) p ≡ least_place (rows_of L t) q → LeadsTo (local_map (links_of L)).next (number_at t p) (number_at t q)
unfolding least_place
least_leads L t tile made p q hp hq e =
    let n = nexts_of L t tile made in
    leads_of L t tile p q hp (leads_from_least (next_place (rows_of L t)) (2 * length (rows_of L t)) n.apart n.stays p q (below_rows L t p hp)
    (below_rows L t q hq) e)
