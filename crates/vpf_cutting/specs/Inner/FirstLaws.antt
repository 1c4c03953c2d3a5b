-- The first edges of the nodes of a tile, edge by edge.
use Rattle.std.proofs.Common.{[], ◌≡◌, ◌≢◌, ℕ, ◌≤◌, Bool, true, false, cond, eqb, ◌||◌, refl, sym, ap, ◌∙◌, subst, inl, inr, arith, List, length, zero, suc, ◌+◌, ◌∷◌, ◌++◌, ◌<◌, replicate}
use Rattle.std.proofs.lemmas.Bool.{cases_eq, eq-eqb, ne_eqb}
use Rattle.vpf_cutting.specs.declared.copies.edges.EdgeNodes.{EdgeNodes}
use Rattle.vpf_prims.specs.Lists.{kth, first_from}
use Rattle.vpf_cutting.specs.Inner.Rows.{ArePutAt, first_or}

-- an edge is put for a node
pub record IsPut (node edge : ℕ) (old new : List ℕ) : Type 0 where
  pub nodes : length new ≡ length old
  pub here : kth new node 0 ≡ first_or (kth old node 0) edge
  pub others : (n : ℕ) → n ≢ node → kth new n 0 ≡ kth old n 0

put_at : (node edge : ℕ) (old new : List ℕ) → IsPut node edge old new → (n : ℕ)
    → kth new n 0 ≡ cond (eqb node n) (first_or (kth old n 0) edge) (kth old n 0)
put_at node edge old new p n = elim (cases_eq node n) [
  | inl e ↦
      subst (λ m. kth new m 0 ≡ first_or (kth old m 0) edge) e p.here ∙ ap (λ b. cond b (first_or (kth old n 0) edge) (kth old n 0)) (sym (eq-eqb node n e))
  | inr ne ↦ p.others n (λ e. ne (sym e)) ∙ ap (λ b. cond b (first_or (kth old n 0) edge) (kth old n 0)) (sym (ne_eqb node n ne))
]

pub first_some : (v edge : ℕ) → 1 ≤ v → first_or v edge ≡ v
first_some v edge h = ap (λ b. cond b edge v) (ne_eqb v 0 (λ z. omega arith))

first_twice : (v edge : ℕ) → 1 ≤ edge → first_or (first_or v edge) edge ≡ first_or v edge
first_twice v edge h = elim (cases_eq v 0) [
  | inl z ↦ ap (λ x. first_or (first_or x edge) edge) z ∙ first_some edge edge h ∙ sym (ap (λ x. first_or x edge) z)
  | inr some ↦ ap (λ x. first_or x edge) (first_some v edge (omega arith))
]

-- put at both ends
put_twice : (x y : Bool) (v edge : ℕ) → 1 ≤ edge
    → cond y (first_or (cond x (first_or v edge) v) edge) (cond x (first_or v edge) v) ≡ cond (x || y) (first_or v edge) v
put_twice true true v edge h = first_twice v edge h
put_twice true false v edge h = refl
put_twice false true v edge h = refl
put_twice false false v edge h = refl

pub put_both : (ends : EdgeNodes) (edge : ℕ) (old middle new : List ℕ) → 1 ≤ edge → IsPut ends.start edge old middle → IsPut ends.end edge middle new
    → ArePutAt ends edge old new
put_both ends edge old middle new some p q = record {
  nodes = q.nodes ∙ p.nodes;
  each = λ n. put_at ends.end edge middle new q n
      ∙ ap (λ v. cond (eqb ends.end n) (first_or v edge) v) (put_at ends.start edge old middle p n)
      ∙ put_twice (eqb ends.start n) (eqb ends.end n) (kth old n 0) edge some;
}

pub first_none : (v : ℕ) → first_or v 0 ≡ v
first_none v = elim (cases_eq v 0) [ inl z ↦ ap (λ x. first_or x 0) z ∙ sym z | inr some ↦ first_some v 0 (omega arith) ]

pub put_or_not : (x : Bool) (v edge : ℕ) → cond x (first_or v edge) v ≡ first_or v (cond x edge 0)
put_or_not true v edge = refl
put_or_not false v edge = sym (first_none v)

-- the first of one item more
pub first_more : {X : Type 0} (p : X → Bool) (j : ℕ) (xs : List X) (x : X) → 1 ≤ j
    → first_from j p (xs ++ x ∷ []) ≡ first_or (first_from j p xs) (cond (p x) (length xs + j) 0)
first_more p zero xs x h = absurd (omega arith)
first_more p (suc j) [] x h = ap (λ m. cond (p x) m 0) (let e : suc j ≡ 0 + suc j = omega arith in e)
first_more p (suc j) (y ∷ ys) x h = later (p y) (first_more p (suc (suc j)) ys x (omega arith)) where
  later : (b : Bool) → first_from (suc (suc j)) p (ys ++ x ∷ []) ≡ first_or (first_from (suc (suc j)) p ys) (cond (p x) (length ys + suc (suc j)) 0)
      → cond b (suc j) (first_from (suc (suc j)) p (ys ++ x ∷ [])) ≡ first_or (cond b (suc j) (first_from (suc (suc j)) p ys)) (cond (p x) (length (y ∷ ys) + suc j) 0)
  later true before = sym (first_some (suc j) (cond (p x) (length (y ∷ ys) + suc j) 0) (omega arith))
  later false before =
      before ∙ ap (λ m. first_or (first_from (suc (suc j)) p ys) (cond (p x) m 0)) (let e : length ys + suc (suc j) ≡ length (y ∷ ys) + suc j = omega arith in e)

pub first_below : {X : Type 0} (p : X → Bool) (j : ℕ) (xs : List X) → 1 ≤ j → first_from j p xs < j + length xs
first_below p j [] h = omega arith
first_below p j (x ∷ xs) h = by (p x) (first_below p (suc j) xs (omega arith)) where
  by : (b : Bool) → first_from (suc j) p xs < suc j + length xs → cond b j (first_from (suc j) p xs) < j + length (x ∷ xs)
  by true below = omega arith
  by false below = omega arith

abbrev pub zeros : ℕ → List ℕ
zeros m = replicate m 0
