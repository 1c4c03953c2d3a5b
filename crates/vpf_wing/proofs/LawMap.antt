-- A well-formed coverage is a map.
use Rattle.std.proofs.Common.{◌≡◌, ℕ, Bool, true, false, cond, eqb, ◌&&◌, sym, ap, ◌∙◌, subst, inl, inr, arith, Some}
use Rattle.std.proofs.lemmas.Bool.{cases_Bool, and_parts, eqb-true}
use Rattle.std.specs.Option.{unwrap_or}
use Rattle.vpf_darts.specs.Darts.{code, tile_in, flip}
use Rattle.vpf_darts.specs.Inner.DartLaws.{flip_flip, flip_apart}
use Rattle.vpf_prims.specs.Primitives.{Primitives, untiled}
use Rattle.vpf_wing.specs.Links.{DartLinks, links_of, only, tail_node, is_next, local_next, local_map}
use Rattle.vpf_wing.specs.WellFormed.{IsDartOf}
use Rattle.vpf_wing.specs.Inner.Laws.{WellFormedHasMap}
use Rattle.vpf_wing.proofs.LawFacts.{none_some, some_same}
use Rattle.vpf_base.proofs.Booleans.{clash}
use Rattle.vpf_wing.proofs.LawDarts.{IsThere, is_there}
use Rattle.vpf_wing.specs.Inner.DartLaws.{flip-has}

only_passes : (p : ℕ → Bool) (z y : ℕ) → only p z ≡ Some y → p y ≡ true
only_passes p z y h = elim (cases_Bool (p z)) [
  | inl t ↦ (elim (cases_Bool (p (flip z))) [
    | inl u ↦ (let h' = rw (t, u) at h in absurd (none_some y h'))
    | inr v ↦ (let h' = rw (t, v) at h in ap p (sym (some_same z y h')) ∙ t)
  ])
  | inr f ↦ (elim (cases_Bool (p (flip z))) [
    | inl u ↦ (let h' = rw (f, u) at h in ap p (sym (some_same (flip z) y h')) ∙ u)
    | inr v ↦ (let h' = rw (f, v) at h in absurd (none_some y h'))
  ])
]

-- the local next of a dart is a dart that begins where it ends and has its face
pub record NextIs (C : DartLinks) (x y : ℕ) : Type 0 where
  pub next : local_next C x ≡ Some y
  pub has : C.has y ≡ true
  pub tail : tail_node C y ≡ (C.node x).id
  pub face : (C.face y).id ≡ (C.face x).id

pub next_is : (C : DartLinks) (x y : ℕ) → local_next C x ≡ Some y → NextIs C x y
next_is C x y h =
    let p = only_passes (is_next C (C.node x).id (C.face x).id) (code (tile_in x) (C.wing x).id 0) y h in
    let q = and_parts (C.has y) (eqb (tail_node C y) (C.node x).id && eqb (C.face y).id (C.face x).id) p in
    let r = and_parts (eqb (tail_node C y) (C.node x).id) (eqb (C.face y).id (C.face x).id) q.1 in
    record { next = h; has = q.0; tail = eqb-true _ _ r.0; face = eqb-true _ _ r.1 }

-- the darts of an untiled coverage are in tile 0
pub in_zero : (c : Primitives) (d : ℕ) → (links_of (untiled c)).has d ≡ true → IsDartOf (links_of (untiled c)) 0 d
in_zero c d h =
    let i : IsThere (untiled c) d = is_there (untiled c) d h in
    let l = i.to_last in
    record { has = h; tile = omega arith }

pub well_formed_has_map : WellFormedHasMap
well_formed_has_map c few w =
    let C : DartLinks = links_of (untiled c) in
    let next : ℕ → ℕ = (local_map C).next in
    let live : (x : ℕ) → (h : C.has x ≡ true) → next x ≡ (w.cycles.next x (in_zero c x h)).0 = λ x h.
    ap (λ b. cond b (unwrap_or (local_next C x) x) x) h ∙ ap (λ z. unwrap_or z x) (w.cycles.next x (in_zero c x h)).1 in
    let is : (x : ℕ) → (h : C.has x ≡ true) → NextIs C x (next x) = λ x h.
    subst (NextIs C x) (sym (live x h)) (next_is C x (w.cycles.next x (in_zero c x h)).0 (w.cycles.next x (in_zero c x h)).1) in
    let dead : (x : ℕ) → C.has x ≡ false → next x ≡ x = λ x h. ap (λ b. cond b (unwrap_or (local_next C x) x) x) h in
    record {
      next_apart = λ d e q. elim (cases_Bool (C.has d)) [
        | inl hd ↦ (elim (cases_Bool (C.has e)) [
          | inl he ↦ w.cycles.next_apart d e (in_zero c d hd) (in_zero c e he) ((is d hd).next ∙ ap (λ z. Some z) q ∙ sym (is e he).next)
          | inr ne ↦ absurd (clash (C.has e) (ap C.has (sym (dead e ne)) ∙ ap C.has (sym q) ∙ (is d hd).has) ne)
        ])
        | inr nd ↦ (elim (cases_Bool (C.has e)) [
          | inl he ↦ absurd (clash (C.has d) (ap C.has (sym (dead d nd)) ∙ ap C.has q ∙ (is e he).has) nd)
          | inr ne ↦ sym (dead d nd) ∙ q ∙ dead e ne
        ])
      ];
      next_live = λ d. elim (cases_Bool (C.has d)) [ inl h ↦ (is d h).has ∙ sym h | inr g ↦ ap C.has (dead d g) ];
      next_dead = dead;
      live_has = λ d h. h;
      flip_has = λ d h. flip-has (untiled c) d h;
      flip_live = λ d h. flip-has (untiled c) d h ∙ sym h;
      flip_flip = λ d h. flip_flip d;
      flip_apart = λ d h. flip_apart d;
    }
