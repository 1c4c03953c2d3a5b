-- Where an index agrees with a column, what it lists for a value is the plain scan.
use Rattle.std.proofs.Common.{◌≡◌, ℕ, zero, suc, ◌+◌, ◌-◌, ◌<◌, ◌≤◌, Bool, true, false, cond, List, [], ◌∷◌, length, get_or, Option, Some, None, refl, sym, subst, ◌∙◌, arith, inl, inr, ◌⊎◌}
use Rattle.std.specs.Prelude.{Contains}
use Rattle.std.specs.List.Sorted.{IsStrictlyIncreasing}
use Rattle.vpf_value.specs.Values.{Value, Nothing}
use Rattle.vpf_head.specs.Head.{Col}
use Rattle.vpf_theme.specs.Ordering.{same_value}
use Rattle.vpf_theme.specs.Entries.{Entry, Theme, found_in}
use Rattle.vpf_theme.specs.Findings.{entry_at}
use Rattle.vpf_theme.specs.Agreeing.{AgreesWithColumn, listed, scan_from, scan_of}
use Rattle.vpf_theme.proofs.AgreementLemmas.{tail_rises}
use Rattle.vpf_theme.specs.Inner.KeyLaws.{Decides-same_value, same_yes}

-- ---- rising lists with the same members are equal

abbrev In : ℕ → List ℕ → Type 0
In r [] = ⊥
In r (x ∷ xs) = (r ≡ x) ⊎ In r xs

-- each is above the one before, and the first above b
abbrev RisesFrom : ℕ → List ℕ → Type 0
RisesFrom b [] = Unit {0}
RisesFrom b (x ∷ xs) = (b < x) × RisesFrom x xs

above : (b : ℕ) (xs : List ℕ) (r : ℕ) → RisesFrom b xs → In r xs → b < r
above b [] r h i = absurd i
above b (x ∷ xs) r h (inl e) = omega (arith, h.0, e)
above b (x ∷ xs) r h (inr i) = let k = above x xs r h.1 i in omega (arith, h.0, k)

in_tail : (x r : ℕ) (ys : List ℕ) → x < r → In r (x ∷ ys) → In r ys
in_tail x r ys h (inl e) = absurd (omega arith)
in_tail x r ys h (inr i) = i

least : (b x : ℕ) (y : ℕ) (ys : List ℕ) → RisesFrom b (y ∷ ys) → In x (y ∷ ys) → y ≤ x
least b x y ys h (inl e) = omega arith
least b x y ys h (inr i) = let k = above y ys x h.1 i in omega arith

same_rising : (b : ℕ) (xs ys : List ℕ) → RisesFrom b xs → RisesFrom b ys → ((r : ℕ) → In r xs → In r ys) → ((r : ℕ) → In r ys → In r xs) → xs ≡ ys
same_rising b [] [] h k f g = refl
same_rising b [] (y ∷ ys) h k f g = absurd (g y (inl refl))
same_rising b (x ∷ xs) [] h k f g = absurd (f x (inl refl))
same_rising b (x ∷ xs) (y ∷ ys) h k f g =
    let e : x ≡ y = omega (arith, least b x y ys k (f x (inl refl)), least b y x xs h (g y (inl refl))) in
    let k2 : RisesFrom x ys = subst (λ (z : ℕ). RisesFrom z ys) (sym e) k.1 in
    let t : xs ≡ ys = same_rising x xs ys h.1 k2 (λ r i. in_tail y r ys (let a = above x xs r h.1 i in omega arith) (f r (inr i))) (λ r i. in_tail x r xs (above x ys r k2 i) (g r (inr i))) in
    rw (e, t) refl

rises_from : (b : ℕ) (xs : List ℕ) → (0 < length xs → b < get_or xs 0 0) → IsStrictlyIncreasing xs → RisesFrom b xs
rises_from b [] h rise = tt
rises_from b (x ∷ xs) h rise = (h (omega arith), rises_from x xs (λ m. rise zero (omega arith)) (tail_rises x xs rise))

in_from : (xs : List ℕ) (r k : ℕ) → k < length xs → get_or xs k r ≡ r → In r xs
in_from [] r k m e = absurd (omega arith)
in_from (x ∷ xs) r zero m e = inl (sym e)
in_from (x ∷ xs) r (suc k) m e = inr (in_from xs r k (omega arith) e)

contains_in : (xs : List ℕ) (r : ℕ) → In r xs → Contains xs r
contains_in [] r i = absurd i
contains_in (x ∷ xs) r (inl e) = (zero, omega arith, sym e)
contains_in (x ∷ xs) r (inr i) = let c = contains_in xs r i in (suc c.0, omega (arith, c.1), c.2)

-- ---- the scan

cons_rises : (b at : ℕ) (c : Bool) (rest : List ℕ) → b < at → RisesFrom at rest → RisesFrom b (cond c (at ∷ rest) rest)
cons_rises b at true rest h r = (h, r)
cons_rises b at false [] h r = tt
cons_rises b at false (x ∷ rest) h r = (omega (arith, r.0), r.1)

scan_rises : (b at : ℕ) (v : Value) (cells : List Value) → b < at → RisesFrom b (scan_from at v cells)
scan_rises b at v [] h = tt
scan_rises b at v (cell ∷ cells) h = cons_rises b at (same_value cell v) (scan_from (at + 1) v cells) h (scan_rises at (at + 1) v cells (omega arith))

-- what stands in the scan
record Scanned (at : ℕ) (v : Value) (r : ℕ) (cells : List Value) : Type 0 where
  low : at ≤ r
  high : r < at + length cells
  cell : get_or cells (r - at) Nothing ≡ v

later : (at : ℕ) (v : Value) (r : ℕ) (cell : Value) (cells : List Value) → Scanned (at + 1) v r cells → Scanned at v r (cell ∷ cells)
later at v r cell cells s =
    let e : r - at ≡ suc (r - (at + 1)) = omega (arith, s.low) in
    record { low = omega (arith, s.low); high = omega (arith, s.high); cell = rw e s.cell }

from_scan : (at : ℕ) (v : Value) (r : ℕ) (cell : Value) (cells : List Value) (c : Bool) (rest : List ℕ) → same_value cell v ≡ c → ((i : In r rest) → Scanned (at + 1) v r cells) → In r (cond c (at ∷ rest) rest) → Scanned at v r (cell ∷ cells)
from_scan at v r cell cells true rest e f (inl z) = let k : r - at ≡ 0 = omega arith in record { low = omega arith; high = omega arith; cell = rw k ((Decides-same_value cell v).0 e) }
from_scan at v r cell cells true rest e f (inr i) = later at v r cell cells (f i)
from_scan at v r cell cells false rest e f i = later at v r cell cells (f i)

scanned : (at : ℕ) (v : Value) (r : ℕ) (cells : List Value) → In r (scan_from at v cells) → Scanned at v r cells
scanned at v r [] i = absurd i
scanned at v r (cell ∷ cells) i = from_scan at v r cell cells (same_value cell v) (scan_from (at + 1) v cells) refl (λ j. scanned (at + 1) v r cells j) i

into_scan : (at r : ℕ) (c : Bool) (rest : List ℕ) → In r rest → In r (cond c (at ∷ rest) rest)
into_scan at r true rest i = inr i
into_scan at r false rest i = i

in_scan : (at : ℕ) (v : Value) (cells : List Value) (k : ℕ) → k < length cells → get_or cells k Nothing ≡ v → In (at + k) (scan_from at v cells)
in_scan at v [] k h e = absurd (omega arith)
in_scan at v (cell ∷ cells) zero h e = let z : at + 0 ≡ at = omega arith in rw (same_yes cell v e, z) (inl refl)
in_scan at v (cell ∷ cells) (suc k) h e =
    let z : at + suc k ≡ at + 1 + k = omega arith in
    rw z (into_scan at (at + 1 + k) (same_value cell v) (scan_from (at + 1) v cells) (in_scan (at + 1) v cells k (omega arith) e))

-- ---- the entry of a value

record Found (es : List Entry) (v : Value) (rows : List ℕ) : Type 0 where
  place : ℕ
  within : place < length es
  value : (entry_at es place).value ≡ v
  rows_are : (entry_at es place).rows ≡ rows

found_step : (b : Bool) (e : Entry) (es : List Entry) (v : Value) (rows : List ℕ) (o : Option (List ℕ)) → same_value e.value v ≡ b → cond b (Some e.rows) o ≡ Some rows → (o ≡ Some rows → Found es v rows) → Found (e ∷ es) v rows
found_step true e es v rows o t h more = record { place = zero; within = omega arith; value = (Decides-same_value e.value v).0 t; rows_are = cc h }
found_step false e es v rows o t h more = let f = more h in record { place = suc f.place; within = omega (arith, f.within); value = f.value; rows_are = f.rows_are }

found_some : (es : List Entry) (v : Value) (rows : List ℕ) → found_in v es ≡ Some rows → Found es v rows
found_some [] v rows h = absurd (cc h)
found_some (e ∷ es) v rows h = found_step (same_value e.value v) e es v rows (found_in v es) refl h (found_some es v rows)

missed : (b : Bool) (e : Entry) (o : Option (List ℕ)) → cond b (Some e.rows) o ≡ None → (b ≡ false) × (o ≡ None)
missed true e o h = absurd (cc h)
missed false e o h = (refl, h)

found_not : (es : List Entry) (v : Value) (i : ℕ) → found_in v es ≡ None → i < length es → (entry_at es i).value ≡ v → ⊥
found_not [] v i h m k = absurd (omega arith)
found_not (e ∷ es) v zero h m k = let r = missed (same_value e.value v) e (found_in v es) h in let t = same_yes e.value v k in absurd (cc (sym r.0 ∙ t))
found_not (e ∷ es) v (suc i) h m k = found_not es v i (missed (same_value e.value v) e (found_in v es) h).1 (omega arith) k

-- ---- the law

apart_places : (t : Theme) (column : Col) (cells : List Value) (i j : ℕ) → AgreesWithColumn t column cells → i < length t.entries → j < length t.entries → (entry_at t.entries i).value ≡ (entry_at t.entries j).value → i ≡ j
apart_places t column cells i j a m n e = omega (arith, λ (lt : i < j). a.differ i j lt n e, λ (lt : j < i). a.differ j i lt m (sym e))

some_scan : (t : Theme) (column : Col) (cells : List Value) (v : Value) (rows : List ℕ) → found_in v t.entries ≡ Some rows → AgreesWithColumn t column cells → rows ≡ scan_of v cells
some_scan t column cells v rows e a =
    let f = found_some t.entries v rows e in
    let own = (entry_at t.entries f.place).rows in
    sym f.rows_are ∙ same_rising 0 own (scan_of v cells) (rises_from 0 own (λ m. (a.only f.place (get_or own 0 0) f.within (contains_in own (get_or own 0 0) (in_from own (get_or own 0 0) 0 m (got own 0 m)))).0) (a.rise f.place f.within)) (scan_rises 0 1 v cells (omega arith))
    (λ r i. let o = a.only f.place r f.within (contains_in own r i) in
    let z : 1 + (r - 1) ≡ r = omega (arith, o.0) in
    subst (λ (x : ℕ). In x (scan_of v cells)) z (in_scan 1 v cells (r - 1) (omega (arith, o.0, o.1)) (o.2 ∙ f.value)))
    (λ r i. let s = scanned 1 v r cells i in
    let w = a.stands r s.low (omega (arith, s.high)) in
    let p : w.0 ≡ f.place = apart_places t column cells w.0 f.place a w.1 f.within (w.2 ∙ s.cell ∙ sym f.value) in
    let c = subst (λ (x : ℕ). Contains (entry_at t.entries x).rows r) p w.3 in
    in_from own r c.0 c.1 c.2)
  where
    got : (xs : List ℕ) (k : ℕ) → k < length xs → get_or xs k (get_or xs k 0) ≡ get_or xs k 0
    got [] k m = absurd (omega arith)
    got (x ∷ xs) zero m = refl
    got (x ∷ xs) (suc k) m = got xs k (omega arith)

none_scan : (t : Theme) (column : Col) (cells : List Value) (v : Value) → found_in v t.entries ≡ None → AgreesWithColumn t column cells → [] ≡ scan_of v cells
none_scan t column cells v e a =
    same_rising 0 [] (scan_of v cells) tt (scan_rises 0 1 v cells (omega arith)) (λ r i. absurd i)
    (λ r i. let s = scanned 1 v r cells i in
    let w = a.stands r s.low (omega (arith, s.high)) in
    absurd (found_not t.entries v w.0 e w.1 (w.2 ∙ s.cell)))

scan_by : (t : Theme) (column : Col) (cells : List Value) (v : Value) (o : Option (List ℕ)) → found_in v t.entries ≡ o → AgreesWithColumn t column cells → listed o ≡ scan_of v cells
scan_by t column cells v (Some rows) e a = some_scan t column cells v rows e a
scan_by t column cells v None e a = none_scan t column cells v e a

pub listed_is_scan : (t : Theme) (column : Col) (cells : List Value) (v : Value) → AgreesWithColumn t column cells → listed (found_in v t.entries) ≡ scan_of v cells
listed_is_scan t column cells v a = scan_by t column cells v (found_in v t.entries) refl a
