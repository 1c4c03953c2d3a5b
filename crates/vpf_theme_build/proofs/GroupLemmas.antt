-- The entries of cells that are sorted.
use Rattle.std.proofs.Common.{◌≡◌, ℕ, Bool, true, false, cond, List, [], ◌∷◌, Option, Some, None, Ordering, Less, Equal, Greater, refl, sym, ap, subst, ◌∙◌, arith}
use Rattle.std.specs.Cmp.{IsTotalOrder}
use Rattle.std.specs.Ordering.{is_lt}
use Rattle.std.proofs.lemmas.Bool.{false≢true}
use Rattle.vpf_value.specs.Values.{Value}
use Rattle.vpf_theme.specs.Ordering.{same_value, value_cmp}
use Rattle.vpf_theme.specs.Entries.{Entry, found_in}
use Rattle.vpf_theme.specs.Agreeing.{listed}
use Rattle.vpf_theme.specs.Inner.KeyLaws.{Decides-same_value, same_yes}
use Rattle.vpf_theme_build.specs.Grouping.{Spotted, joined_spot, grouped}
use Rattle.vpf_theme_build.proofs.EntryLists.{AllAbove, Rising, Filled, EachValue, Told, back, above_trans, not_found}

-- no cell is below the one before
abbrev pub NotFalling : List Spotted → Type 0
NotFalling [] = Unit {0}
NotFalling (p ∷ []) = Unit {0}
NotFalling (p ∷ q ∷ ps) = (is_lt (value_cmp q.0 p.0) ≡ false) × NotFalling (q ∷ ps)

abbrev pub EachSpot : (Value → Type 0) → List Spotted → Type 0
EachSpot P [] = Unit {0}
EachSpot P (p ∷ ps) = P p.0 × EachSpot P ps

-- the rows of the cells of a value
abbrev pub rows_with : Value → List Spotted → List ℕ
rows_with v [] = []
rows_with v (p ∷ ps) = cond (same_value p.0 v) (p.1 ∷ rows_with v ps) (rows_with v ps)

-- the first entry isn't below the cell
abbrev HeadAbove : Spotted → List Entry → Type 0
HeadAbove p [] = Unit {0}
HeadAbove p (e ∷ es) = is_lt (value_cmp e.value p.0) ≡ false

joined_case : (b : Bool) (p q : Spotted) (e : Entry) (es : List Entry) → is_lt (value_cmp q.0 p.0) ≡ false → HeadAbove p (cond b (record { value = q.0; rows = q.1 ∷ e.rows } ∷ es) (record { value = q.0; rows = q.1 ∷ [] } ∷ e ∷ es))
joined_case true p q e es h = h
joined_case false p q e es h = h

joined_head : (p q : Spotted) (gs : List Entry) → is_lt (value_cmp q.0 p.0) ≡ false → HeadAbove p (joined_spot q gs)
joined_head p q [] h = h
joined_head p q (e ∷ es) h = joined_case (same_value q.0 e.value) p q e es h

head_grouped : (p : Spotted) (ps : List Spotted) → NotFalling (p ∷ ps) → HeadAbove p (grouped ps)
head_grouped p [] h = tt
head_grouped p (q ∷ ps) h = joined_head p q (grouped ps) h.0

rest_falling : (p : Spotted) (ps : List Spotted) → NotFalling (p ∷ ps) → NotFalling ps
rest_falling p [] h = tt
rest_falling p (q ∷ ps) h = h.1

-- the value of a cell is below that of the next entry
below_next : (P : Value → Type 0) → IsTotalOrder value_cmp → Told P → (v u : Value) (c : Ordering) → value_cmp v u ≡ c → P v → P u → is_lt (value_cmp u v) ≡ false → same_value v u ≡ false → value_cmp v u ≡ Less
below_next P o eq v u Less c p q h n = c
below_next P o eq v u Equal c p q h n = let t = same_yes v u (eq v u p q c) in absurd (false≢true (sym n ∙ t))
below_next P o eq v u Greater c p q h n = let t = ap is_lt (back o v u c) in absurd (false≢true (sym h ∙ t))

-- ---- entries of sorted cells rise

rising_case : (P : Value → Type 0) → IsTotalOrder value_cmp → Told P → (b : Bool) (p : Spotted) (e : Entry) (es : List Entry) → same_value p.0 e.value ≡ b → P p.0 → P e.value → Rising (e ∷ es) → is_lt (value_cmp e.value p.0) ≡ false → Rising (cond b (record { value = p.0; rows = p.1 ∷ e.rows } ∷ es) (record { value = p.0; rows = p.1 ∷ [] } ∷ e ∷ es))
rising_case P o eq true p e es t x y r h = (subst (λ (v : Value). AllAbove v es) (sym ((Decides-same_value p.0 e.value).0 t)) r.0, r.1)
rising_case P o eq false p e es t x y r h =
    let l = below_next P o eq p.0 e.value (value_cmp p.0 e.value) refl x y h t in
    ((l, above_trans o p.0 e.value es l r.0), r)

joined_rising : (P : Value → Type 0) → IsTotalOrder value_cmp → Told P → (p : Spotted) (gs : List Entry) → P p.0 → EachValue P gs → Rising gs → HeadAbove p gs → Rising (joined_spot p gs)
joined_rising P o eq p [] x y r h = (tt, tt)
joined_rising P o eq p (e ∷ es) x y r h = rising_case P o eq (same_value p.0 e.value) p e es refl x y.0 r h

each_case : (P : Value → Type 0) (b : Bool) (p : Spotted) (e : Entry) (es : List Entry) → P p.0 → EachValue P (e ∷ es) → EachValue P (cond b (record { value = p.0; rows = p.1 ∷ e.rows } ∷ es) (record { value = p.0; rows = p.1 ∷ [] } ∷ e ∷ es))
each_case P true p e es x y = (x, y.1)
each_case P false p e es x y = (x, y)

joined_each : (P : Value → Type 0) (p : Spotted) (gs : List Entry) → P p.0 → EachValue P gs → EachValue P (joined_spot p gs)
joined_each P p [] x y = (x, tt)
joined_each P p (e ∷ es) x y = each_case P (same_value p.0 e.value) p e es x y

filled_case : (b : Bool) (p : Spotted) (e : Entry) (es : List Entry) → Filled (e ∷ es) → Filled (cond b (record { value = p.0; rows = p.1 ∷ e.rows } ∷ es) (record { value = p.0; rows = p.1 ∷ [] } ∷ e ∷ es))
filled_case true p e es f = (omega arith, f.1)
filled_case false p e es f = (omega arith, f)

joined_filled : (p : Spotted) (gs : List Entry) → Filled gs → Filled (joined_spot p gs)
joined_filled p [] f = (omega arith, tt)
joined_filled p (e ∷ es) f = filled_case (same_value p.0 e.value) p e es f

pub grouped_each : (P : Value → Type 0) (ps : List Spotted) → EachSpot P ps → EachValue P (grouped ps)
grouped_each P [] x = tt
grouped_each P (p ∷ ps) x = joined_each P p (grouped ps) x.0 (grouped_each P ps x.1)

pub grouped_filled : (ps : List Spotted) → Filled (grouped ps)
grouped_filled [] = tt
grouped_filled (p ∷ ps) = joined_filled p (grouped ps) (grouped_filled ps)

pub grouped_rising : (P : Value → Type 0) → IsTotalOrder value_cmp → Told P → (ps : List Spotted) → EachSpot P ps → NotFalling ps → Rising (grouped ps)
grouped_rising P o eq [] x h = tt
grouped_rising P o eq (p ∷ ps) x h = joined_rising P o eq p (grouped ps) x.0 (grouped_each P ps x.1) (grouped_rising P o eq ps x.1 (rest_falling p ps h)) (head_grouped p ps h)

-- ---- what entries of sorted cells list

one_listed : (b : Bool) (row : ℕ) (rows : List ℕ) → rows ≡ [] → listed (cond b (Some (row ∷ [])) None) ≡ cond b (row ∷ rows) rows
one_listed true row rows e = rw e refl
one_listed false row rows e = sym e

joined_same : (b : Bool) (row : ℕ) (own rows : List ℕ) (rest : Option (List ℕ)) → listed (cond b (Some own) rest) ≡ rows → listed (cond b (Some (row ∷ own)) rest) ≡ cond b (row ∷ rows) rows
joined_same true row own rows rest h = ap (λ (x : List ℕ). row ∷ x) h
joined_same false row own rows rest h = h

joined_apart : (b : Bool) (row : ℕ) (rows : List ℕ) (rest : Option (List ℕ)) → listed rest ≡ rows → (b ≡ true → rest ≡ None) → listed (cond b (Some (row ∷ [])) rest) ≡ cond b (row ∷ rows) rows
joined_apart true row rows rest h n = let k = n refl in rw (← h, k) refl
joined_apart false row rows rest h n = h

listed_case : (P : Value → Type 0) → IsTotalOrder value_cmp → Told P → (b : Bool) (p : Spotted) (e : Entry) (es : List Entry) (v : Value) (rows : List ℕ) → same_value p.0 e.value ≡ b → P p.0 → P e.value → Rising (e ∷ es) → is_lt (value_cmp e.value p.0) ≡ false → listed (found_in v (e ∷ es)) ≡ rows
    → listed (found_in v (cond b (record { value = p.0; rows = p.1 ∷ e.rows } ∷ es) (record { value = p.0; rows = p.1 ∷ [] } ∷ e ∷ es))) ≡ cond (same_value p.0 v) (p.1 ∷ rows) rows
listed_case P o eq true p e es v rows t x y r h i =
    let k = (Decides-same_value p.0 e.value).0 t in
    let s : same_value e.value v ≡ same_value p.0 v = ap (λ (z : Value). same_value z v) (sym k) in
    let j = rw s at i in
    joined_same (same_value p.0 v) p.1 e.rows rows (found_in v es) j
listed_case P o eq false p e es v rows t x y r h i =
    let l = below_next P o eq p.0 e.value (value_cmp p.0 e.value) refl x y h t in
    joined_apart (same_value p.0 v) p.1 rows (found_in v (e ∷ es)) i (λ s. let k = (Decides-same_value p.0 v).0 s in subst (λ (z : Value). found_in z (e ∷ es) ≡ None) k (not_found o p.0 (e ∷ es) (l, above_trans o p.0 e.value es l r.0)))

joined_listed : (P : Value → Type 0) → IsTotalOrder value_cmp → Told P → (p : Spotted) (gs : List Entry) (v : Value) (rows : List ℕ) → P p.0 → EachValue P gs → Rising gs → HeadAbove p gs → listed (found_in v gs) ≡ rows → listed (found_in v (joined_spot p gs)) ≡ cond (same_value p.0 v) (p.1 ∷ rows) rows
joined_listed P o eq p [] v rows x y r h i = one_listed (same_value p.0 v) p.1 rows (sym i)
joined_listed P o eq p (e ∷ es) v rows x y r h i = listed_case P o eq (same_value p.0 e.value) p e es v rows refl x y.0 r h i

pub grouped_listed : (P : Value → Type 0) → IsTotalOrder value_cmp → Told P → (ps : List Spotted) (v : Value) → EachSpot P ps → NotFalling ps → listed (found_in v (grouped ps)) ≡ rows_with v ps
grouped_listed P o eq [] v x h = refl
grouped_listed P o eq (p ∷ ps) v x h =
    joined_listed P o eq p (grouped ps) v (rows_with v ps) x.0 (grouped_each P ps x.1) (grouped_rising P o eq ps x.1 (rest_falling p ps h)) (head_grouped p ps h) (grouped_listed P o eq ps v x.1 (rest_falling p ps h))
