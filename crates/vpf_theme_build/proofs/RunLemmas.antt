-- The groups of cells of which equal ones stand side by side.
use Rattle.std.proofs.Common.{◌≡◌, ℕ, zero, suc, ◌+◌, ◌-◌, ◌<◌, ◌≤◌, Bool, true, false, cond, List, [], ◌∷◌, ◌++◌, length, map, take, drop, append_assoc, refl, sym, ap, ◌∙◌, arith, inl, inr, ◌⊎◌}
use Rattle.std.proofs.lemmas.List.{get_or-drop, length-drop, drop-drop, map-append}
use Rattle.vpf_value.specs.Values.{view}
use Rattle.vpf_theme.specs.Ordering.{same_value}
use Rattle.vpf_theme.specs.Entries.{Entry}
use Rattle.vpf_theme.specs.Inner.KeyLaws.{same_yes, same_no}
use Rattle.vpf_theme_build.specs.declared.grouping.Spot.{Spot}
use Rattle.vpf_theme_build.specs.declared.grouping.Group.{Group}
use Rattle.vpf_theme_build.specs.Grouping.{EndsAt, Spotted, entry_in, group_entry, grouped, joined_spot, seen, value_at}

-- the first entry has another value
abbrev HeadDiffers : Spotted → List Entry → Type 0
HeadDiffers p [] = Unit {0}
HeadDiffers p (e ∷ es) = same_value p.0 e.value ≡ false

differs : (p : Spotted) (gs : List Entry) → HeadDiffers p gs → joined_spot p gs ≡ record { value = p.0; rows = p.1 ∷ [] } ∷ gs
differs p [] h = refl
differs p (e ∷ es) h = rw h refl

value_case : (b : Bool) (p q : Spotted) (e : Entry) (es : List Entry) → same_value p.0 q.0 ≡ false → HeadDiffers p (cond b (record { value = q.0; rows = q.1 ∷ e.rows } ∷ es) (record { value = q.0; rows = q.1 ∷ [] } ∷ e ∷ es))
value_case true p q e es h = h
value_case false p q e es h = h

joined_differs : (p q : Spotted) (gs : List Entry) → same_value p.0 q.0 ≡ false → HeadDiffers p (joined_spot q gs)
joined_differs p q [] h = h
joined_differs p q (e ∷ es) h = value_case (same_value q.0 e.value) p q e es h

last_differs : (s : Spot) (spots : List Spot) → EndsAt (s ∷ spots) 0 → HeadDiffers (seen s) (grouped (map seen spots))
last_differs s [] e = tt
last_differs s (t ∷ spots) (inl e) = absurd (omega arith)
last_differs s (t ∷ spots) (inr e) = joined_differs (seen s) (seen t) (grouped (map seen spots)) (same_no (view s.cell) (view t.cell) (e s))

ends_tail : (s : Spot) (spots : List Spot) (n : ℕ) → EndsAt (s ∷ spots) (suc n) → EndsAt spots n
ends_tail s spots n (inl e) = inl (omega arith)
ends_tail s spots n (inr e) = inr (λ d k. let z : suc n + 1 ≡ suc (n + 1) = omega arith in let f = e d in let g = rw z at f in g k)

pub run_of : (n : ℕ) (spots : List Spot) → n < length spots → ((k : ℕ) (d : Spot) → k < n → value_at spots k d ≡ value_at spots (k + 1) d) → EndsAt spots n → grouped (map seen spots) ≡ group_entry (take (n + 1) spots) ∷ grouped (map seen (drop (n + 1) spots))
run_of n [] h same e = absurd (omega arith)
run_of zero (s ∷ spots) h same e = differs (seen s) (grouped (map seen spots)) (last_differs s spots e)
run_of (suc n) (s ∷ []) h same e = absurd (omega arith)
run_of (suc n) (s ∷ t ∷ spots) h same e =
    let z : suc n + 1 ≡ suc (n + 1) = omega arith in
    let rest = run_of n (t ∷ spots) (omega arith) (λ k d m. let r = same (suc k) d (omega arith) in let y : suc k + 1 ≡ suc (k + 1) = omega arith in rw y at r) (ends_tail s (t ∷ spots) n e) in
    let y : n + 1 ≡ suc n = omega arith in
    let first : view s.cell ≡ view t.cell = same zero s (omega arith) in
    rw (z, rest, y, same_yes (view s.cell) (view t.cell) first) refl

ends_here : (spots : List Spot) (start i : ℕ) (rest : List Spot) → length rest ≡ length spots - start → ((k : ℕ) (d : Spot) → value_at rest k d ≡ value_at spots (start + k) d) → start + (i - start) ≡ i → i < length spots → ((i + 1 ≡ length spots) ⊎ ((d : Spot) → value_at spots i d ≡ value_at spots (i + 1) d → ⊥)) → EndsAt rest (i - start)
ends_here spots start i rest len at e lt (inl k) = inl (omega arith)
ends_here spots start i rest len at e lt (inr f) = inr (λ d k.
    let z : start + (i - start + 1) ≡ i + 1 = omega arith in
    let a = at (i - start) d in
    let b = at (i - start + 1) d in
    f d (sym (rw e at a) ∙ k ∙ rw z at b))

-- one more group
pub groups_more : (spots : List Spot) (start i : ℕ) (items more : List Group) (group : Group) (whole : List Entry) → more ≡ items ++ group ∷ [] → group.start ≡ start → group.end ≡ i + 1 → start ≤ i → i < length spots
    → ((k : ℕ) (d : Spot) → start ≤ k → k < i → value_at spots k d ≡ value_at spots (k + 1) d) → ((i + 1 ≡ length spots) ⊎ ((d : Spot) → value_at spots i d ≡ value_at spots (i + 1) d → ⊥))
    → map (entry_in spots) items ++ grouped (map seen (drop start spots)) ≡ whole → map (entry_in spots) more ++ grouped (map seen (drop (i + 1) spots)) ≡ whole
groups_more spots start i items more group whole pushed a b le lt same ends done =
    let rest = drop start spots in
    let len = length-drop start spots in
    let at : (k : ℕ) (d : Spot) → value_at rest k d ≡ value_at spots (start + k) d = λ k d. ap (λ (s : Spot). view s.cell) (get_or-drop start spots k d) in
    let inner : (k : ℕ) (d : Spot) → k < i - start → value_at rest k d ≡ value_at rest (k + 1) d = λ k d m.
    let z : start + (k + 1) ≡ start + k + 1 = omega arith in
    let x = same (start + k) d (omega arith) (omega arith) in
    let y = at (k + 1) d in
    at k d ∙ x ∙ sym (rw z at y) in
    let e : start + (i - start) ≡ i = omega arith in
    let n : EndsAt rest (i - start) = ends_here spots start i rest len at e lt ends in
    let r = run_of (i - start) rest (omega (arith, len)) inner n in
    let x : i - start + 1 ≡ group.end - group.start = omega arith in
    let y : start + (i - start + 1) ≡ i + 1 = omega arith in
    let d = rw (r, drop-drop (i - start + 1) start spots, y, x) at done in
    rw (pushed, map-append (entry_in spots) items (group ∷ []), append_assoc, a) (rw a at d)
