-- Sorted cells, grouped, are the entries of their column.
use Rattle.std.proofs.Common.{◌≡◌, ℕ, zero, suc, ◌+◌, ◌<◌, Bool, true, false, not, ◌&&◌, ◌||◌, cond, List, [], ◌∷◌, length, map, get_or, Ordering, Less, Equal, Greater, refl, sym, ap, subst, ◌∙◌, arith}
use Rattle.std.specs.Prelude.{All, filter}
use Rattle.std.specs.Cmp.{IsTotalOrder}
use Rattle.std.specs.List.Sorted.{IsSortedBy, IsStableBy, ties}
use Rattle.std.specs.Ordering.{is_lt, ordering_reverse}
use Rattle.std.proofs.lemmas.Bool.{false≢true}
use Rattle.std.proofs.lemmas.Cmp.{tied_itself}
use Rattle.std.proofs.lemmas.List.Sorted.{All-permutation}
use Rattle.vpf_value.specs.Values.{Value, Nothing, view}
use Rattle.vpf_theme.specs.Ordering.{same_value, value_cmp}
use Rattle.vpf_theme.specs.Agreeing.{scan_from}
use Rattle.vpf_theme.specs.Inner.KeyLaws.{Decides-same_value, same_yes, same_no}
use Rattle.vpf_theme_build.specs.declared.grouping.Spot.{Spot}
use Rattle.vpf_theme_build.specs.Grouping.{AreOfOneField, Sorts, Spotted, entries_for, grouped, is_below, numbered_cells, seen}
use Rattle.vpf_theme_build.proofs.EntryLists.{Told, same_entries}
use Rattle.vpf_theme_build.proofs.GroupLemmas.{EachSpot, NotFalling, rows_with, grouped_each, grouped_filled, grouped_rising, grouped_listed}
use Rattle.vpf_theme_build.proofs.ValueLists.{HasCell, is_cell, entries_for_rising, entries_for_each, entries_for_filled, entries_for_listed}

-- ---- cells of one field

abbrev pub Placed : List Value → Value → Type 0
Placed cells v = (i : ℕ) × (i < length cells) × (get_or cells i Nothing ≡ v)

place_step : (b : Bool) (u v : Value) (cells : List Value) (rest : Bool) → same_value u v ≡ b → (b || rest) ≡ true → (rest ≡ true → Placed cells v) → Placed (u ∷ cells) v
place_step true u v cells rest t k more = (zero, omega arith, (Decides-same_value u v).0 t)
place_step false u v cells rest t k more = let p = more k in (suc p.0, omega (arith, p.1), p.2)

pub place_of : (cells : List Value) (v : Value) → is_cell cells v ≡ true → Placed cells v
place_of [] v h = absurd (false≢true h)
place_of (u ∷ cells) v h = place_step (same_value u v) u v cells (is_cell cells v) refl h (place_of cells v)

pub told_cells : (cells : List Value) → AreOfOneField cells → Told (HasCell cells)
told_cells cells f v u p q e =
    let a = place_of cells v p in
    let b = place_of cells u q in
    let k : value_cmp (get_or cells a.0 Nothing) (get_or cells b.0 Nothing) ≡ Equal = rw (a.2, b.2) e in
    sym a.2 ∙ f a.0 b.0 a.1 b.1 k ∙ b.2

-- ---- the cells in their rows

pub rows_numbered : (at : ℕ) (v : Value) (cells : List Value) → rows_with v (numbered_cells at cells) ≡ scan_from at v cells
rows_numbered at v [] = refl
rows_numbered at v (u ∷ cells) = ap (λ (x : List ℕ). cond (same_value u v) (at ∷ x) x) (rows_numbered (at + 1) v cells)

each_numbered : (all : List Value) (at : ℕ) (cells : List Value) → ((w : Value) → is_cell cells w ≡ true → is_cell all w ≡ true) → EachSpot (HasCell all) (numbered_cells at cells)
each_numbered all at [] h = tt
each_numbered all at (v ∷ cells) h = (h v (rw (same_yes v v refl) refl), each_numbered all (at + 1) cells (λ w k. h w (or_right (same_value v w) (is_cell cells w) k)))
  where
    or_right : (a b : Bool) → b ≡ true → (a || b) ≡ true
    or_right true b k = refl
    or_right false b k = k

-- ---- spots

abbrev SpotHas : List Value → Spot → Type 0
SpotHas cells s = HasCell cells (view s.cell)

all_cons : (Q : Spot → Type 0) (s : Spot) (spots : List Spot) → Q s → All Q spots → All Q (s ∷ spots)
all_cons Q s spots q h zero d m = q
all_cons Q s spots q h (suc k) d m = h k d (omega arith)

each_all : (P : Value → Type 0) (spots : List Spot) → EachSpot P (map seen spots) → All (λ (s : Spot). P (view s.cell)) spots
each_all P [] x = λ k d h. absurd (omega arith)
each_all P (s ∷ spots) x = all_cons (λ (t : Spot). P (view t.cell)) s spots x.0 (each_all P spots x.1)

all_each : (P : Value → Type 0) (spots : List Spot) → All (λ (s : Spot). P (view s.cell)) spots → EachSpot P (map seen spots)
all_each P [] x = tt
all_each P (s ∷ spots) x = (x zero s (omega arith), all_each P spots (λ k d h. x (suc k) d (omega arith)))

not_falling : (spots : List Spot) → IsSortedBy is_below spots → NotFalling (map seen spots)
not_falling [] h = tt
not_falling (s ∷ []) h = tt
not_falling (s ∷ t ∷ spots) h = (h zero s (omega arith) (omega arith), not_falling (t ∷ spots) (λ k d low high. let e : suc k + 1 ≡ suc (k + 1) = omega arith in let r = h (suc k) d (omega arith) (omega arith) in rw e at r))

-- ---- the cells of a value

abbrev has_value : Value → Spot → Bool
has_value v s = same_value (view s.cell) v

filter_step : (b : Bool) (s : Spot) (spots : List Spot) (rows : List ℕ) → rows ≡ map (λ (x : Spot). x.row) spots → cond b (s.row ∷ rows) rows ≡ map (λ (x : Spot). x.row) (cond b (s ∷ spots) spots)
filter_step true s spots rows h = ap (λ (x : List ℕ). s.row ∷ x) h
filter_step false s spots rows h = h

rows_filter : (v : Value) (spots : List Spot) → rows_with v (map seen spots) ≡ map (λ (s : Spot). s.row) (filter (has_value v) spots)
rows_filter v [] = refl
rows_filter v (s ∷ spots) = filter_step (has_value v s) s (filter (has_value v) spots) (rows_with v (map seen spots)) (rows_filter v spots)

same_false : (t : Bool) → (t ≡ true → ⊥) → false ≡ t
same_false true h = absurd (h refl)
same_false false h = refl

filter_same : (p q : Spot → Bool) (spots : List Spot) → All (λ (s : Spot). p s ≡ q s) spots → filter p spots ≡ filter q spots
filter_same p q [] h = refl
filter_same p q (s ∷ spots) h =
    let a = h zero s (omega arith) in
    let b = filter_same p q spots (λ k d m. h (suc k) d (omega arith)) in
    rw (a, b) refl

ties_by : (c : Ordering) (t : Bool) → (c ≡ Equal → t ≡ true) → (t ≡ true → c ≡ Equal) → (not (is_lt c) && not (is_lt (ordering_reverse c))) ≡ t
ties_by Less t f g = same_false t (λ h. let k = g h in cc k)
ties_by Equal t f g = sym (f refl)
ties_by Greater t f g = same_false t (λ h. let k = g h in cc k)

ties_same : IsTotalOrder value_cmp → (cells : List Value) → Told (HasCell cells) → (x s : Spot) → SpotHas cells x → SpotHas cells s → ties is_below x s ≡ has_value (view x.cell) s
ties_same o cells eq x s p q =
    let back = o.antisymm (view s.cell) (view x.cell) in
    let t = same_value (view s.cell) (view x.cell) in
    let f : value_cmp (view x.cell) (view s.cell) ≡ Equal → t ≡ true = λ e. same_yes (view s.cell) (view x.cell) (sym (eq (view x.cell) (view s.cell) p q e)) in
    let g : t ≡ true → value_cmp (view x.cell) (view s.cell) ≡ Equal = λ h. let k = (Decides-same_value (view s.cell) (view x.cell)).0 h in subst (λ (v : Value). value_cmp (view x.cell) v ≡ Equal) (sym k) (tied_itself o (view x.cell)) in
    rw back (ties_by (value_cmp (view x.cell) (view s.cell)) t f g)

filter_none : (p : Spot → Bool) (spots : List Spot) → All (λ (s : Spot). p s ≡ false) spots → filter p spots ≡ []
filter_none p [] h = refl
filter_none p (s ∷ spots) h = let a = h zero s (omega arith) in rw a (filter_none p spots (λ k d m. h (suc k) d (omega arith)))

first_of : (p q : Spotted) (ps qs : List Spotted) → p ∷ ps ≡ q ∷ qs → p ≡ q
first_of p q ps qs x = cc x

rest_of : (p q : Spotted) (ps qs : List Spotted) → p ∷ ps ≡ q ∷ qs → ps ≡ qs
rest_of p q ps qs x = cc x

-- a spot of the value
abbrev SpotOf : Value → List Spot → Type 0
SpotOf v spots = (k : ℕ) × ((d : Spot) → (k < length spots) × (view (get_or spots k d).cell ≡ v))

spot_step : (b : Bool) (s : Spot) (spots : List Spot) (u v : Value) (rest : Bool) → view s.cell ≡ u → same_value u v ≡ b → (b || rest) ≡ true → (rest ≡ true → SpotOf v spots) → SpotOf v (s ∷ spots)
spot_step true s spots u v rest e t k more = (zero, λ d. (omega arith, e ∙ (Decides-same_value u v).0 t))
spot_step false s spots u v rest e t k more = let r = more k in (suc r.0, λ d. (let q = (r.1 d).0 in omega (arith, q), (r.1 d).1))

spot_place : (v : Value) (spots : List Spot) (at : ℕ) (own : List Value) → map seen spots ≡ numbered_cells at own → is_cell own v ≡ true → SpotOf v spots
spot_place v [] at [] e h = absurd (false≢true h)
spot_place v [] at (u ∷ own) e h = absurd (cc e)
spot_place v (s ∷ spots) at [] e h = absurd (cc e)
spot_place v (s ∷ spots) at (u ∷ own) e h =
    spot_step (same_value u v) s spots u v (is_cell own v) (ap (λ (p : Spotted). p.0) (first_of (seen s) (u, at) (map seen spots) (numbered_cells (at + 1) own) e)) refl h (spot_place v spots (at + 1) own (rest_of (seen s) (u, at) (map seen spots) (numbered_cells (at + 1) own) e))

by_spot : IsTotalOrder value_cmp → (cells : List Value) → Told (HasCell cells) → (v : Value) (old new : List Spot) → All (SpotHas cells) old → All (SpotHas cells) new → IsStableBy is_below old new → (x : Spot) → view x.cell ≡ v → SpotHas cells x → filter (has_value v) new ≡ filter (has_value v) old
by_spot o cells eq v old new p q stable x is has =
    let f = λ (s : Spot) (h : SpotHas cells s). ties_same o cells eq x s has h ∙ ap (λ (w : Value). same_value (view s.cell) w) is in
    let a : filter (ties is_below x) new ≡ filter (has_value v) new = filter_same (ties is_below x) (has_value v) new (λ k d m. f (get_or new k d) (q k d m)) in
    let b : filter (ties is_below x) old ≡ filter (has_value v) old = filter_same (ties is_below x) (has_value v) old (λ k d m. f (get_or old k d) (p k d m)) in
    sym a ∙ stable x ∙ b

other_value : (cells : List Value) (v : Value) (spots : List Spot) → is_cell cells v ≡ false → All (SpotHas cells) spots → filter (has_value v) spots ≡ []
other_value cells v spots h p = filter_none (has_value v) spots (λ k d m. same_no (view (get_or spots k d).cell) v (λ e. let t = p k d m in let w : is_cell cells v ≡ true = subst (HasCell cells) e t in false≢true (sym h ∙ w)))

value_rows : IsTotalOrder value_cmp → (cells : List Value) → Told (HasCell cells) → (v : Value) (old new : List Spot) → All (SpotHas cells) old → All (SpotHas cells) new → IsStableBy is_below old new → (b : Bool) → is_cell cells v ≡ b → map seen old ≡ numbered_cells 1 cells → filter (has_value v) new ≡ filter (has_value v) old
value_rows o cells eq v [] new p q stable true h e = absurd (no_spots cells e h)
  where
    no_spots : (cells : List Value) → [] ≡ numbered_cells 1 cells → is_cell cells v ≡ true → ⊥
    no_spots [] e h = false≢true h
    no_spots (u ∷ cells) e h = cc e
value_rows o cells eq v (s ∷ old) new p q stable true h e =
    let k = spot_place v (s ∷ old) 1 cells e h in
    by_spot o cells eq v (s ∷ old) new p q stable (get_or (s ∷ old) k.0 s) (k.1 s).1 (p k.0 s (k.1 s).0)
value_rows o cells eq v old new p q stable false h e = other_value cells v new h q ∙ sym (other_value cells v old h p)

-- sorted cells, grouped, are the entries of their column
pub sorted_entries : IsTotalOrder value_cmp → (cells : List Value) → AreOfOneField cells → (old new : List Spot) → map seen old ≡ numbered_cells 1 cells → Sorts old new → grouped (map seen new) ≡ entries_for cells
sorted_entries o cells field old new e s =
    let eq = told_cells cells field in
    let each_old : EachSpot (HasCell cells) (map seen old) = subst (EachSpot (HasCell cells)) (sym e) (each_numbered cells 1 cells (λ w k. k)) in
    let all_old = each_all (HasCell cells) old each_old in
    let all_new = All-permutation (SpotHas cells) old new s.same all_old in
    let each_new = all_each (HasCell cells) new all_new in
    let falls = not_falling new s.sorted in
    same_entries (HasCell cells) o eq (grouped (map seen new)) (entries_for cells)
    (grouped_rising (HasCell cells) o eq (map seen new) each_new falls) (entries_for_rising o cells)
    (grouped_filled (map seen new)) (entries_for_filled cells)
    (grouped_each (HasCell cells) (map seen new) each_new) (entries_for_each cells)
    (λ v. grouped_listed (HasCell cells) o eq (map seen new) v each_new falls
    ∙ rows_filter v new
    ∙ ap (map (λ (x : Spot). x.row)) (value_rows o cells eq v old new all_old all_new s.stable (is_cell cells v) refl e)
    ∙ sym (rows_filter v old)
    ∙ ap (rows_with v) e
    ∙ rows_numbered 1 v cells
    ∙ sym (entries_for_listed cells eq v))
