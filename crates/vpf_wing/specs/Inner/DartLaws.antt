-- Laws of the darts of a coverage by their numbers, for the proofs of the crates above too.
use Rattle.std.proofs.Common.{◌≡◌, ◌≢◌, ℕ, zero, suc, ◌+◌, ◌*◌, ◌%◌, ◌^◌, ◌<◌, ◌≤◌, ◌⊎◌, Bool, true, false, not, eqb, leb, ◌||◌, ◌&&◌, refl, sym, ap, ◌∙◌, subst, inl, inr, arith, Option, Some, None, List, [], ◌∷◌, ◌++◌}
use Rattle.std.specs.Prelude.{find}
use Rattle.std.proofs.lemmas.Bool.{cases_Bool, cases_eq, and_parts, and_from, or_cases, or_left, or_right, eqb-true, eq-eqb, leb-true, le-leb}
use Rattle.vpf_darts.specs.Darts.{code, tile_in, edge_in, sign_in, sign_of, flip}
use Rattle.vpf_prims.specs.Primitives.{Library, edge_count}
use Rattle.vpf_wing.specs.Links.{links_of, is_minus, row_darts, tile_darts, only}

-- no test both holds and fails
pub never_both : (b : Bool) → b ≡ true → b ≡ false → ⊥
never_both b t f = cc

pub none_is_some : {A : Type 0} (y : A) → None ≡ Some y → ⊥
none_is_some y h = cc

pub same_some : {A : Type 0} (x y : A) → Some x ≡ Some y → x ≡ y
same_some x y h = cc

pub some-or-none : {A : Type 0} (o : Option A) → ((x : A) × (o ≡ Some x)) ⊎ (o ≡ None)
some-or-none None = inr refl
some-or-none (Some x) = inl (x, refl)

-- the other dart of an edge
pub flip-tile : (x : ℕ) → tile_in (flip x) ≡ tile_in x
unfolding tile_in flip
flip-tile x = omega arith

pub flip-edge : (x : ℕ) → edge_in (flip x) ≡ edge_in x
unfolding edge_in flip
flip-edge x = omega arith

pub flip-flip : (x : ℕ) → flip (flip x) ≡ x
unfolding flip
flip-flip x = omega arith

pub flip-apart : (x : ℕ) → flip x ≢ x
unfolding flip
flip-apart x e = omega arith

pub flip-sign : (x : ℕ) → sign_in (flip x) ≢ sign_in x
unfolding sign_in flip
flip-sign x e = omega arith

pub sign-cases : (d : ℕ) → (sign_in d ≡ 0) ⊎ (sign_in d ≡ 1)
unfolding sign_in
sign-cases d = elim (cases_eq (d % 2) 0) [ inl e ↦ inl e | inr ne ↦ inr (omega arith) ]

pub flip-minus : (x : ℕ) → is_minus (flip x) ≡ not (is_minus x)
flip-minus x = elim (sign-cases x) [
  | inl e ↦ (elim (sign-cases (flip x)) [ inl f ↦ absurd (flip-sign x (f ∙ sym e)) | inr f ↦ rw (e, f) refl ])
  | inr e ↦ (elim (sign-cases (flip x)) [ inl f ↦ rw (e, f) refl | inr f ↦ absurd (flip-sign x (f ∙ sym e)) ])
]

-- the parts of a dart's number
pub code-parts : (x : ℕ) → code (tile_in x) (edge_in x) (sign_in x) ≡ x
unfolding code tile_in edge_in sign_in
code-parts x = omega arith

pub sign-minus : (x : ℕ) → sign_of (is_minus x) ≡ sign_in x
sign-minus x = elim (sign-cases x) [ inl e ↦ rw e refl | inr e ↦ rw e refl ]

pub code-minus : (x : ℕ) → code (tile_in x) (edge_in x) (sign_of (is_minus x)) ≡ x
code-minus x = ap (code (tile_in x) (edge_in x)) (sign-minus x) ∙ code-parts x

pub code-tile : (t e s : ℕ) → e < 2 ^ 32 → s < 2 → tile_in (code t e s) ≡ t
unfolding code tile_in
code-tile t e s he hs = omega arith

pub code-edge : (t e s : ℕ) → e < 2 ^ 32 → s < 2 → edge_in (code t e s) ≡ e
unfolding code edge_in
code-edge t e s he hs = omega arith

pub code-sign : (t e s : ℕ) → s < 2 → sign_in (code t e s) ≡ s
unfolding code sign_in
code-sign t e s hs = omega arith

pub sign-small : (m : Bool) → sign_of m < 2
sign-small true = omega arith
sign-small false = omega arith

pub minus-code : (t e : ℕ) (m : Bool) → is_minus (code t e (sign_of m)) ≡ m
minus-code t e true = ap (λ s. eqb s 1) (code-sign t e 1 (omega arith))
minus-code t e false = ap (λ s. eqb s 1) (code-sign t e 0 (omega arith))

-- the parts of being a dart
pub record IsThere (L : Library) (d : ℕ) : Type 0 where
  pub from_one : 1 ≤ edge_in d
  pub to_count : edge_in d ≤ edge_count L (tile_in d)
  pub to_last : tile_in d ≤ L.last

pub has-there : (L : Library) (d : ℕ) → (links_of L).has d ≡ true → IsThere L d
has-there L d h =
    let low = leb 1 (edge_in d) in
    let high = leb (edge_in d) (edge_count L (tile_in d)) in
    let q = and_parts (low && high) (leb (tile_in d) L.last) h in
    let p = and_parts low high q.0 in
    record {
      from_one = leb-true 1 (edge_in d) p.0;
      to_count = leb-true (edge_in d) (edge_count L (tile_in d)) p.1;
      to_last = leb-true (tile_in d) L.last q.1;
    }

pub there-has : (L : Library) (d : ℕ) → IsThere L d → (links_of L).has d ≡ true
there-has L d i =
    let low = leb 1 (edge_in d) in
    let high = leb (edge_in d) (edge_count L (tile_in d)) in
    let both = and_from low high (le-leb 1 (edge_in d) i.from_one) (le-leb (edge_in d) (edge_count L (tile_in d)) i.to_count) in
    and_from (low && high) (leb (tile_in d) L.last) both (le-leb (tile_in d) L.last i.to_last)

-- the other dart of an edge is a dart
pub flip-has : (L : Library) (x : ℕ) → (links_of L).has x ≡ true → (links_of L).has (flip x) ≡ true
flip-has L x h =
    let i : IsThere L x = has-there L x h in
    there-has L (flip x) (record {
      from_one = subst (λ e. 1 ≤ e) (sym (flip-edge x)) i.from_one;
      to_count = subst (λ t. edge_in (flip x) ≤ edge_count L t) (sym (flip-tile x)) (subst (λ e. e ≤ edge_count L (tile_in x)) (sym (flip-edge x)) i.to_count);
      to_last = subst (λ t. t ≤ L.last) (sym (flip-tile x)) i.to_last;
    })

-- the numbers of darts are below this one
abbrev pub dart_bound : Library → ℕ
dart_bound L = 2 * (2 ^ 32 * (L.last + 1))

number_below : (x last : ℕ) → tile_in x ≤ last → x < 2 * (2 ^ 32 * (last + 1))
unfolding tile_in
number_below x last h = omega arith

pub darts-below : (L : Library) (x : ℕ) → (links_of L).has x ≡ true → x < dart_bound L
darts-below L x h = number_below x L.last (has-there L x h).to_last

-- x stands in the list
abbrev pub stands_in : ℕ → List ℕ → Bool
stands_in x [] = false
stands_in x (y ∷ ys) = eqb x y || stands_in x ys

pub stands-left : (x : ℕ) (xs ys : List ℕ) → stands_in x xs ≡ true → stands_in x (xs ++ ys) ≡ true
stands-left x [] ys h = absurd (never_both false h refl)
stands-left x (z ∷ xs) ys h = elim (or_cases (eqb x z) (stands_in x xs) h) [
  | inl e ↦ or_left (eqb x z) (stands_in x (xs ++ ys)) e
  | inr i ↦ or_right (eqb x z) (stands_in x (xs ++ ys)) (stands-left x xs ys i)
]

pub stands-right : (x : ℕ) (xs ys : List ℕ) → stands_in x ys ≡ true → stands_in x (xs ++ ys) ≡ true
stands-right x [] ys h = h
stands-right x (z ∷ xs) ys h = or_right (eqb x z) (stands_in x (xs ++ ys)) (stands-right x xs ys h)

pub stands-either : (x : ℕ) (xs ys : List ℕ) → stands_in x (xs ++ ys) ≡ true → (stands_in x xs ≡ true) ⊎ (stands_in x ys ≡ true)
stands-either x [] ys h = inr h
stands-either x (z ∷ xs) ys h = elim (or_cases (eqb x z) (stands_in x (xs ++ ys)) h) [
  | inl e ↦ inl (or_left (eqb x z) (stands_in x xs) e)
  | inr i ↦ (elim (stands-either x xs ys i) [ inl a ↦ inl (or_right (eqb x z) (stands_in x xs) a) | inr b ↦ inr b ])
]

row_stands : (t k e s : ℕ) → 1 ≤ e → e ≤ k → (s ≡ 0) ⊎ (s ≡ 1) → stands_in (code t e s) (row_darts t k) ≡ true
row_stands t zero e s a b i = absurd (omega arith)
row_stands t (suc k) e s a b i = elim (cases_eq e (suc k)) [
  | inr ne ↦ stands-left (code t e s) (row_darts t k) (code t (suc k) 0 ∷ code t (suc k) 1 ∷ []) (row_stands t k e s a (omega arith) i)
  | inl same ↦ stands-right (code t e s) (row_darts t k) (code t (suc k) 0 ∷ code t (suc k) 1 ∷ []) (elim i [
    | inl z ↦ or_left (eqb (code t e s) (code t (suc k) 0)) _ (eq-eqb _ _ (ap (λ w. code t w s) same ∙ ap (code t (suc k)) z))
    | inr o ↦ or_right (eqb (code t e s) (code t (suc k) 0)) (eqb (code t e s) (code t (suc k) 1) || false)
        (or_left (eqb (code t e s) (code t (suc k) 1)) false (eq-eqb _ _ (ap (λ w. code t w s) same ∙ ap (code t (suc k)) o)))
  ])
]

tile_stands : (edges : ℕ → ℕ) (last t e s : ℕ) → t ≤ last → 1 ≤ e → e ≤ edges t → (s ≡ 0) ⊎ (s ≡ 1) → stands_in (code t e s) (tile_darts edges last) ≡ true
tile_stands edges zero t e s h a b i =
    let z : t ≡ 0 = omega arith in
    subst (λ w. stands_in (code w e s) (row_darts 0 (edges 0)) ≡ true) (sym z) (row_stands 0 (edges 0) e s a (subst (λ w. e ≤ edges w) z b) i)
tile_stands edges (suc last) t e s h a b i = elim (cases_eq t (suc last)) [
  | inl same ↦ stands-right (code t e s) (tile_darts edges last) (row_darts (suc last) (edges (suc last)))
      (subst (λ z. stands_in (code t e s) (row_darts z (edges z)) ≡ true) same (row_stands t (edges t) e s a b i))
  | inr ne ↦ stands-left (code t e s) (tile_darts edges last) (row_darts (suc last) (edges (suc last))) (tile_stands edges last t e s (omega arith) a b i)
]

-- each dart stands in the list of darts
pub darts-stand : (L : Library) (d : ℕ) → (links_of L).has d ≡ true → stands_in d (links_of L).darts ≡ true
darts-stand L d h =
    let i : IsThere L d = has-there L d h in
    subst (λ z. stands_in z (links_of L).darts ≡ true) (code-parts d)
    (tile_stands (edge_count L) L.last (tile_in d) (edge_in d) (sign_in d) i.to_last i.from_one i.to_count (sign-cases d))

-- what stands in the list of a tile's darts is a dart of the tile
record IsInRow (t n d : ℕ) : Type 0 where
  pub tile : tile_in d ≡ t
  pub from_one : 1 ≤ edge_in d
  pub to_all : edge_in d ≤ n

row_code : (t n e s d : ℕ) → d ≡ code t e s → 1 ≤ e → e ≤ n → n < 2 ^ 24 → s < 2 → IsInRow t n d
row_code t n e s d same a b few hs =
    let small : e < 2 ^ 32 = omega arith in
    let x : edge_in d ≡ e = ap edge_in same ∙ code-edge t e s small hs in
    record { tile = ap tile_in same ∙ code-tile t e s small hs; from_one = omega arith; to_all = omega arith }

row_more : (t n d : ℕ) → IsInRow t n d → IsInRow t (suc n) d
row_more t n d r = let b = r.to_all in record { tile = r.tile; from_one = r.from_one; to_all = omega arith }

row_only : (t n d : ℕ) → n < 2 ^ 24 → stands_in d (row_darts t n) ≡ true → IsInRow t n d
row_only t zero d few h = absurd (never_both false h refl)
row_only t (suc n) d few h = elim (stands-either d (row_darts t n) (code t (suc n) 0 ∷ code t (suc n) 1 ∷ []) h) [
  | inl a ↦ row_more t n d (row_only t n d (omega arith) a)
  | inr b ↦ (elim (or_cases (eqb d (code t (suc n) 0)) (eqb d (code t (suc n) 1) || false) b) [
    | inl e ↦ row_code t (suc n) (suc n) 0 d (eqb-true d (code t (suc n) 0) e) (omega arith) (omega arith) few (omega arith)
    | inr r ↦ (elim (or_cases (eqb d (code t (suc n) 1)) false r) [
      | inl e ↦ row_code t (suc n) (suc n) 1 d (eqb-true d (code t (suc n) 1) e) (omega arith) (omega arith) few (omega arith)
      | inr f ↦ absurd (never_both false f refl)
    ])
  ])
]

tile_only : (edges : ℕ → ℕ) (last d : ℕ) → ((t : ℕ) → edges t < 2 ^ 24) → stands_in d (tile_darts edges last) ≡ true
    → (tile_in d ≤ last) × IsInRow (tile_in d) (edges (tile_in d)) d
tile_only edges zero d few h =
    let r : IsInRow 0 (edges 0) d = row_only 0 (edges 0) d (few 0) h in
    let tile : tile_in d ≡ 0 = r.tile in
    (omega arith, subst (λ t. IsInRow t (edges t) d) (sym r.tile) r)
tile_only edges (suc last) d few h = elim (stands-either d (tile_darts edges last) (row_darts (suc last) (edges (suc last))) h) [
  | inl a ↦ (let q = tile_only edges last d few a in let below : tile_in d ≤ last = q.0 in (omega arith, q.1))
  | inr b ↦ (
      let r : IsInRow (suc last) (edges (suc last)) d = row_only (suc last) (edges (suc last)) d (few (suc last)) b in
      let tile : tile_in d ≡ suc last = r.tile in
      (omega arith, subst (λ t. IsInRow t (edges t) d) (sym r.tile) r))
]

-- what stands in the list of darts is one
pub stands-has : (L : Library) → ((t : ℕ) → edge_count L t < 2 ^ 24) → (d : ℕ) → stands_in d (links_of L).darts ≡ true → (links_of L).has d ≡ true
stands-has L few d h =
    let q = tile_only (edge_count L) L.last d few h in
    let r : IsInRow (tile_in d) (edge_count L (tile_in d)) d = q.1 in
    there-has L d (record { from_one = r.from_one; to_count = r.to_all; to_last = q.0 })

-- what is found passes and stands in the list, and where one in it passes some is found
pub found-passes : (p : ℕ → Bool) (xs : List ℕ) (w : ℕ) → find p xs ≡ Some w → (p w ≡ true) × (stands_in w xs ≡ true)
found-passes p [] w h = absurd (none_is_some w h)
found-passes p (x ∷ xs) w h = elim (cases_Bool (p x)) [
  | inl t ↦ (
      let h' = rw t at h in
      let e : x ≡ w = same_some x w h' in
      (ap p (sym e) ∙ t, or_left (eqb w x) (stands_in w xs) (eq-eqb w x (sym e))))
  | inr f ↦ (
      let h' = rw f at h in
      let q = found-passes p xs w h' in
      (q.0, or_right (eqb w x) (stands_in w xs) q.1))
]

pub found-some : (p : ℕ → Bool) (z : ℕ) → p z ≡ true → (xs : List ℕ) → stands_in z xs ≡ true → (w : ℕ) × (find p xs ≡ Some w)
found-some p z pz [] s = absurd (never_both false s refl)
found-some p z pz (x ∷ xs) s = elim (cases_Bool (p x)) [
  | inl t ↦ rw t (x, refl)
  | inr f ↦ (elim (or_cases (eqb z x) (stands_in z xs) s) [
    | inl e ↦ absurd (never_both (p x) (ap p (sym (eqb-true z x e)) ∙ pz) f)
    | inr r ↦ rw f (found-some p z pz xs r)
  ])
]

-- the one of an edge's darts that passes does, and is one of them
pub only-passes : (p : ℕ → Bool) (z y : ℕ) → only p z ≡ Some y → (p y ≡ true) × ((y ≡ z) ⊎ (y ≡ flip z))
only-passes p z y h = elim (cases_Bool (p z)) [
  | inl t ↦ (elim (cases_Bool (p (flip z))) [
    | inl u ↦ (let h' = rw (t, u) at h in absurd (none_is_some y h'))
    | inr v ↦ (let h' = rw (t, v) at h in let e : z ≡ y = same_some z y h' in (ap p (sym e) ∙ t, inl (sym e)))
  ])
  | inr f ↦ (elim (cases_Bool (p (flip z))) [
    | inl u ↦ (let h' = rw (f, u) at h in let e : flip z ≡ y = same_some (flip z) y h' in (ap p (sym e) ∙ u, inr (sym e)))
    | inr v ↦ (let h' = rw (f, v) at h in absurd (none_is_some y h'))
  ])
]
