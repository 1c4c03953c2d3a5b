-- What is counted of darts, and their first places, when one is put.
use Rattle.std.proofs.Common.{◌≡◌, ℕ, suc, ◌+◌, ◌*◌, ◌<◌, Bool, true, false, cond, Option, Some, None, List, [], ◌∷◌, ◌++◌, length, get_or, slice_set, Result, Ok, Err, add-zero, refl, sym, ap, subst, ◌∙◌, inl, inr, arith, eq-eqb, ne_eqb, rules}
use Rattle.std.specs.Prelude.{OnOk, OnErr, IfOk, position, is_some, if◌then◌else◌, ◌==◌, nat_eq}
use Rattle.std.specs.List.{position_from}
use Rattle.std.proofs.lemmas.Bool.{cases_eq, cases_Bool}
use Rattle.std.proofs.lemmas.List.{get_or-set_same, get_or-set_other}
use Rattle.std.proofs.lemmas.Iterator.Adapters.{position_from-zero}
use Rattle.vpf_darts.specs.declared.darts.TileDart.{TileDart}
use Rattle.vpf_darts.specs.contracts.darts.TileDartPartialEq.TheImpl.{eq-value}
use Rattle.vpf_darts.specs.Darts.{sign_of}
use Rattle.vpf_base.proofs.Booleans.{clash}
use Rattle.vpf_follow.proofs.DartLemmas.{same-is, same-refl}
use Rattle.vpf_follow.specs.Inner.DartPlaces.{count_for, counted_place, place_in_tile, HoldPlaces}

-- darts of one tile with one place are one
edges_same : (j k : ℕ) (a b : Bool) → 2 * j + sign_of a ≡ 2 * k + sign_of b → (j ≡ k) × (a ≡ b)
edges_same j k true true e = (omega arith, refl)
edges_same j k false false e = (omega arith, refl)
edges_same j k true false e = absurd (omega arith)
edges_same j k false true e = absurd (omega arith)

abbrev dart_with : ℕ → ℕ → Bool → TileDart
dart_with tile edge minus = record { tile = tile; edge = edge; minus = minus }

dart_same : (d e : TileDart) → e.tile ≡ d.tile → place_in_tile e ≡ place_in_tile d → e ≡ d
dart_same d e t p =
    let s = edges_same e.edge d.edge e.minus d.minus p in
    ap (λ x. dart_with x e.edge e.minus) t ∙ ap (λ x. dart_with d.tile x e.minus) s.0 ∙ ap (λ x. dart_with d.tile d.edge x) s.1

-- what was counted at a place
abbrev Set : (old new : List ℕ) → (place count : ℕ) → Type 0
Set old new place count = (i : ℕ) → get_or new i 0 ≡ (if i == place then count else get_or old i 0)

set_there : (tiles : List (List ℕ)) (old new : List ℕ) (d : TileDart) (n : ℕ) → d.tile < length tiles → Set old new (place_in_tile d) n
    → count_for (slice_set tiles d.tile new) d ≡ n
set_there tiles old new d n within set =
    let same = eq-eqb (place_in_tile d) (place_in_tile d) refl in
    rw (get_or-set_same tiles d.tile new [] within) (set (place_in_tile d) ∙ rw same refl)

set_elsewhere : (tiles : List (List ℕ)) (old new : List ℕ) (d e : TileDart) (n : ℕ) → d.tile < length tiles → old ≡ get_or tiles d.tile []
    → Set old new (place_in_tile d) n → (e ≡ d → ⊥) → count_for (slice_set tiles d.tile new) e ≡ count_for tiles e
set_elsewhere tiles old new d e n within was set other = elim (cases_eq e.tile d.tile) [
  | inl t ↦ (
      let apart : place_in_tile e ≡ place_in_tile d → ⊥ = λ p. other (dart_same d e t p) in
      let differ = ne_eqb (place_in_tile e) (place_in_tile d) apart in
      let row : get_or (slice_set tiles d.tile new) e.tile [] ≡ new = ap (λ k. get_or (slice_set tiles d.tile new) k []) t ∙ get_or-set_same tiles d.tile new [] within in
      let before : old ≡ get_or tiles e.tile [] = was ∙ ap (λ k. get_or tiles k []) (sym t) in
      ap (λ (r : List ℕ). get_or r (place_in_tile e) 0) row ∙ set (place_in_tile e) ∙ rw differ (ap (λ (r : List ℕ). get_or r (place_in_tile e) 0) before))
  | inr ne ↦ ap (λ (r : List ℕ). get_or r (place_in_tile e) 0) (get_or-set_other tiles d.tile e.tile new [] ne)
]

-- where it was set, so much is counted of the dart, and of the others as before
pub set_so : {E : Type 0} (r : Result (Unit {0}) E) (tiles : List (List ℕ)) (old new : List ℕ) (d : TileDart) (n : ℕ) → d.tile < length tiles
    → ((i : ℕ) → OnOk r (get_or new i 0 ≡ (if i == place_in_tile d then n else get_or old i 0)))
    → OnOk r (count_for (slice_set tiles d.tile new) d ≡ n)
set_so (Ok v) tiles old new d n within set = set_there tiles old new d n within set
set_so (Err x) tiles old new d n within set = tt

pub others_so : {E : Type 0} (r : Result (Unit {0}) E) (tiles before : List (List ℕ)) (old new : List ℕ) (d e : TileDart) (n : ℕ) → d.tile < length tiles
    → ((t : ℕ) → get_or tiles t [] ≡ get_or before t []) → old ≡ get_or tiles d.tile []
    → ((i : ℕ) → OnOk r (get_or new i 0 ≡ (if i == place_in_tile d then n else get_or old i 0)))
    → OnOk r ((e ≡ d → ⊥) → count_for (slice_set tiles d.tile new) e ≡ count_for before e)
others_so (Ok v) tiles before old new d e n within same was set =
    λ other. set_elsewhere tiles old new d e n within was set other ∙ ap (λ (row : List ℕ). get_or row (place_in_tile e) 0) (same e.tile)
others_so (Err x) tiles before old new d e n within same was set = tt

-- ---- first places

counted_from : {K : Type 0} (p : K → Bool) (i : ℕ) (xs : List K) (y : K)
    → counted_place (position_from p i (xs ++ y ∷ []))
    ≡ (if counted_place (position_from p i xs) == 0 then cond (p y) (i + length xs + 1) 0 else counted_place (position_from p i xs))
counted_from p i [] y = by (p y)
  where
    by : (b : Bool) → counted_place (cond b (Some i) None) ≡ cond b (i + 0 + 1) 0
    by true = omega arith
    by false = refl
counted_from p i (x ∷ xs) y = by (p x) (counted_from p (i + 1) xs y)
  where
    by : (b : Bool)
        → counted_place (position_from p (i + 1) (xs ++ y ∷ []))
        ≡ (if counted_place (position_from p (i + 1) xs) == 0 then cond (p y) ((i + 1) + length xs + 1) 0 else counted_place (position_from p (i + 1) xs))
        → counted_place (cond b (Some i) (position_from p (i + 1) (xs ++ y ∷ [])))
        ≡ (if counted_place (cond b (Some i) (position_from p (i + 1) xs)) == 0 then cond (p y) (i + suc (length xs) + 1) 0 else counted_place (cond b (Some i) (position_from p (i + 1) xs)))
    by true h = let e = ne_eqb (i + 1) 0 (λ z. absurd (omega arith)) in rw e refl
    by false h = let e : (i + 1) + length xs ≡ i + suc (length xs) = omega arith in rw e at h

-- the first place of a dart when one is put at the end
counted_push : {K : Type 0} (p : K → Bool) (xs : List K) (y : K)
    → counted_place (position p (xs ++ y ∷ []))
    ≡ (if counted_place (position p xs) == 0 then cond (p y) (length xs + 1) 0 else counted_place (position p xs))
counted_push p xs y =
    let zero : 0 + length xs ≡ length xs = omega arith in
    let pushed = position_from-zero p (xs ++ y ∷ []) in
    let was = position_from-zero p xs in
    rw (pushed, was, ← zero) (counted_from p 0 xs y)

-- a dart that stands nowhere yet
new_put : (darts : List TileDart) (old new : List (List ℕ)) (dart : TileDart) → HoldPlaces darts old → is_some (position ((eq-value).it dart) darts) ≡ false
    → count_for new dart ≡ length darts + 1 → ((e : TileDart) → (e ≡ dart → ⊥) → count_for new e ≡ count_for old e) → HoldPlaces (darts ++ dart ∷ []) new
new_put darts old new dart held none set others e = elim (cases_Bool ((eq-value).it e dart)) [
  | inl t ↦ (
      let is : e ≡ dart = same-is e dart t in
      let nowhere : counted_place (position ((eq-value).it e) darts) ≡ 0 = ap (λ (d : TileDart). counted_place (position ((eq-value).it d) darts)) is ∙ absent (position ((eq-value).it dart) darts) none in
      ap (count_for new) is ∙ set ∙ sym (counted_push ((eq-value).it e) darts dart ∙ rw (nowhere, t) refl))
  | inr f ↦ (
      let apart : e ≡ dart → ⊥ = λ is. clash ((eq-value).it e dart) (ap ((eq-value).it e) (sym is) ∙ same-refl e) f in
      others e apart ∙ held e ∙ sym (counted_push ((eq-value).it e) darts dart ∙ rw f (stays (counted_place (position ((eq-value).it e) darts)))))
]
  where
    absent : (o : Option ℕ) → is_some o ≡ false → counted_place o ≡ 0
    absent None h = refl
    absent (Some n) h = absurd cc

    stays : (n : ℕ) → (if n == 0 then 0 else n) ≡ n
    stays n = elim (cases_eq n 0) [
      | inl z ↦ (let t = eq-eqb n 0 z in rw t (sym z))
      | inr nz ↦ (let f = ne_eqb n 0 nz in rw f refl)
    ]

-- a dart that stands somewhere already
old_put : (darts : List TileDart) (tiles : List (List ℕ)) (dart : TileDart) → HoldPlaces darts tiles → is_some (position ((eq-value).it dart) darts) ≡ true
    → HoldPlaces (darts ++ dart ∷ []) tiles
old_put darts tiles dart held some e = held e ∙ sym (counted_push ((eq-value).it e) darts dart ∙ by ((eq-value).it e dart) refl)
  where
    there : (o : Option ℕ) → is_some o ≡ true → counted_place o ≡ 0 → ⊥
    there None h z = cc
    there (Some n) h z = omega (arith, z)

    kept : (n : ℕ) (b : Bool) → (n ≡ 0 → b ≡ false) → (if n == 0 then cond b (length darts + 1) 0 else n) ≡ n
    kept n b none = elim (cases_eq n 0) [
      | inl z ↦ (let t = eq-eqb n 0 z in let f = none z in rw (t, f) (sym z))
      | inr nz ↦ (let f = ne_eqb n 0 nz in rw f refl)
    ]

    by : (b : Bool) → (eq-value).it e dart ≡ b
        → (if counted_place (position ((eq-value).it e) darts) == 0 then cond ((eq-value).it e dart) (length darts + 1) 0 else counted_place (position ((eq-value).it e) darts))
        ≡ counted_place (position ((eq-value).it e) darts)
    by false f = rw f (kept (counted_place (position ((eq-value).it e) darts)) false (λ z. refl))
    by true t =
        let is : e ≡ dart = same-is e dart t in
        let some' : is_some (position ((eq-value).it e) darts) ≡ true = ap (λ (d : TileDart). is_some (position ((eq-value).it d) darts)) is ∙ some in
        kept (counted_place (position ((eq-value).it e) darts)) ((eq-value).it e dart) (λ z. absurd (there (position ((eq-value).it e) darts) some' z))

-- a dart is put at the end: one that stands nowhere yet is counted, and one that stands somewhere is left
pub put_first : (darts kept more : List TileDart) (old new : List (List ℕ)) (dart : TileDart) (first : Option ℕ) (count : ℕ) → HoldPlaces darts old
    → first ≡ position ((eq-value).it dart) darts → is_some first ≡ false → count ≡ length darts + 1 → kept ≡ darts → more ≡ kept ++ dart ∷ []
    → count_for new dart ≡ count → ((e : TileDart) → (e ≡ dart → ⊥) → count_for new e ≡ count_for old e) → HoldPlaces more new
put_first darts kept more old new dart first count held is none last same pushed set others =
    rw (pushed, same) (new_put darts old new dart held (ap is_some (sym is) ∙ none) (set ∙ last) others)

pub put_again : (darts kept more : List TileDart) (tiles : List (List ℕ)) (dart : TileDart) (first : Option ℕ) → HoldPlaces darts tiles
    → first ≡ position ((eq-value).it dart) darts → is_some first ≡ true → kept ≡ darts → more ≡ kept ++ dart ∷ [] → HoldPlaces more tiles
put_again darts kept more tiles dart first held is some same pushed = rw (pushed, same) (old_put darts tiles dart held (ap is_some (sym is) ∙ some))
