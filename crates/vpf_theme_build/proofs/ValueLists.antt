-- The values of a column, each once, and their entries.
use Rattle.std.proofs.Common.{◌≡◌, ℕ, ◌+◌, ◌<◌, Bool, true, false, ◌||◌, cond, List, [], ◌∷◌, length, map, get_or, zero, suc, Option, Some, Ordering, Less, Equal, Greater, refl, sym, ap, ◌∙◌, arith}
use Rattle.std.specs.Cmp.{IsTotalOrder}
use Rattle.std.specs.List.{list_any}
use Rattle.std.proofs.lemmas.Bool.{false≢true}
use Rattle.vpf_base.proofs.Booleans.{or_true}
use Rattle.vpf_value.specs.Values.{Value, Nothing}
use Rattle.vpf_theme.specs.Ordering.{same_value, value_cmp}
use Rattle.vpf_theme.specs.Entries.{found_in}
use Rattle.vpf_theme.specs.Agreeing.{listed, scan_from, scan_of}
use Rattle.vpf_theme.specs.Inner.KeyLaws.{Decides-same_value, same_yes}
use Rattle.vpf_theme_build.specs.Grouping.{placed_value, with_value, values_of, entry_for, entries_for}
use Rattle.vpf_theme_build.proofs.EntryLists.{AllAbove, Rising, Filled, EachValue, Told, back}

-- a cell has the value
abbrev pub is_cell : List Value → Value → Bool
is_cell cells v = list_any (λ u. same_value u v) cells

abbrev pub HasCell : List Value → Value → Type 0
HasCell cells v = is_cell cells v ≡ true

abbrev Above : Value → List Value → Type 0
Above v [] = Unit {0}
Above v (u ∷ us) = (value_cmp v u ≡ Less) × Above v us

abbrev Rise : List Value → Type 0
Rise [] = Unit {0}
Rise (v ∷ vs) = Above v vs × Rise vs

abbrev pub Each : (Value → Type 0) → List Value → Type 0
Each P [] = Unit {0}
Each P (v ∷ vs) = P v × Each P vs

above_all : IsTotalOrder value_cmp → (v u : Value) (us : List Value) → value_cmp v u ≡ Less → Above u us → Above v us
above_all o v u [] h a = tt
above_all o v u (w ∷ us) h a = (o.trans v u w h a.0, above_all o v u us h a.1)

above_case : (w v u : Value) (us rest : List Value) (c : Ordering) → value_cmp w v ≡ Less → value_cmp w u ≡ Less → Above w us → Above w rest → Above w (placed_value c v u us rest)
above_case w v u us rest Less a b x y = (a, (b, x))
above_case w v u us rest Equal a b x y = (b, x)
above_case w v u us rest Greater a b x y = (b, y)

with_above : (w v : Value) (us : List Value) → value_cmp w v ≡ Less → Above w us → Above w (with_value v us)
with_above w v [] a x = (a, tt)
with_above w v (u ∷ us) a x = above_case w v u us (with_value v us) (value_cmp v u) a x.0 x.1 (with_above w v us a x.1)

rise_case : IsTotalOrder value_cmp → (v u : Value) (us rest : List Value) (c : Ordering) → value_cmp v u ≡ c → Rise (u ∷ us) → Rise rest → (value_cmp u v ≡ Less → Above u rest) → Rise (placed_value c v u us rest)
rise_case o v u us rest Less e r s f = ((e, above_all o v u us e r.0), r)
rise_case o v u us rest Equal e r s f = r
rise_case o v u us rest Greater e r s f = (f (back o v u e), s)

with_rise : IsTotalOrder value_cmp → (v : Value) (us : List Value) → Rise us → Rise (with_value v us)
with_rise o v [] r = (tt, tt)
with_rise o v (u ∷ us) r = rise_case o v u us (with_value v us) (value_cmp v u) refl r (with_rise o v us r.1) (λ h. with_above u v us h r.0)

values_rise : IsTotalOrder value_cmp → (cells : List Value) → Rise (values_of cells)
values_rise o [] = tt
values_rise o (v ∷ cells) = with_rise o v (values_of cells) (values_rise o cells)

each_case : (P : Value → Type 0) (v u : Value) (us rest : List Value) (c : Ordering) → P v → P u → Each P us → Each P rest → Each P (placed_value c v u us rest)
each_case P v u us rest Less a b x y = (a, (b, x))
each_case P v u us rest Equal a b x y = (b, x)
each_case P v u us rest Greater a b x y = (b, y)

with_each : (P : Value → Type 0) (v : Value) (us : List Value) → P v → Each P us → Each P (with_value v us)
with_each P v [] a x = (a, tt)
with_each P v (u ∷ us) a x = each_case P v u us (with_value v us) (value_cmp v u) a x.0 x.1 (with_each P v us a x.1)

pub values_each : (P : Value → Type 0) (cells : List Value) → Each P cells → Each P (values_of cells)
values_each P [] x = tt
values_each P (v ∷ cells) x = with_each P v (values_of cells) x.0 (values_each P cells x.1)

or_same : (b c : Bool) → (b || (b || c)) ≡ (b || c)
or_same true c = refl
or_same false c = refl

or_swap : (a b c : Bool) → (a || (b || c)) ≡ (b || (a || c))
or_swap true true c = refl
or_swap true false c = refl
or_swap false b c = refl

has_case : (w v u : Value) (us rest : List Value) (c : Ordering) → value_cmp v u ≡ c → (value_cmp v u ≡ Equal → v ≡ u) → is_cell rest w ≡ (same_value v w || is_cell us w) → is_cell (placed_value c v u us rest) w ≡ (same_value v w || is_cell (u ∷ us) w)
has_case w v u us rest Less e q h = refl
has_case w v u us rest Equal e q h = let t : same_value u w ≡ same_value v w = ap (λ (x : Value). same_value x w) (sym (q e)) in rw t (sym (or_same (same_value v w) (is_cell us w)))
has_case w v u us rest Greater e q h = ap (λ (x : Bool). same_value u w || x) h ∙ or_swap (same_value u w) (same_value v w) (is_cell us w)

with_has : (P : Value → Type 0) → Told P → (w v : Value) (us : List Value) → P v → Each P us → is_cell (with_value v us) w ≡ (same_value v w || is_cell us w)
with_has P eq w v [] a x = refl
with_has P eq w v (u ∷ us) a x = has_case w v u us (with_value v us) (value_cmp v u) refl (λ e. eq v u a x.0 e) (with_has P eq w v us a x.1)

values_has : (P : Value → Type 0) → Told P → (w : Value) (cells : List Value) → Each P cells → is_cell (values_of cells) w ≡ is_cell cells w
values_has P eq w [] x = refl
values_has P eq w (v ∷ cells) x = with_has P eq w v (values_of cells) x.0 (values_each P cells x.1) ∙ ap (λ (b : Bool). same_value v w || b) (values_has P eq w cells x.1)

-- ---- each cell has its value

own_step : (all : List Value) (cells before : List Value) → ((w : Value) → is_cell cells w ≡ true → is_cell all w ≡ true) → Each (HasCell all) cells
own_step all [] before h = tt
own_step all (v ∷ cells) before h = (h v (rw (same_yes v v refl) refl), own_step all cells before (λ w k. h w (rw k (or_true (same_value v w)))))

pub cells_have : (cells : List Value) → Each (HasCell cells) cells
cells_have cells = own_step cells cells [] (λ w k. k)

-- ---- scans

scan_step : (b : Bool) (at : ℕ) (rest : List ℕ) (c : Bool) → (b || c) ≡ true → (c ≡ true → 0 < length rest) → 0 < length (cond b (at ∷ rest) rest)
scan_step true at rest c h f = omega arith
scan_step false at rest c h f = f h

pub scan_some : (at : ℕ) (v : Value) (cells : List Value) → is_cell cells v ≡ true → 0 < length (scan_from at v cells)
scan_some at v [] h = absurd (false≢true h)
scan_some at v (u ∷ cells) h = scan_step (same_value u v) at (scan_from (at + 1) v cells) (is_cell cells v) h (scan_some (at + 1) v cells)

none_step : (b c : Bool) → (b || c) ≡ false → (b ≡ false) × (c ≡ false)
none_step true c h = absurd (false≢true (sym h))
none_step false c h = (refl, h)

pub scan_none : (at : ℕ) (v : Value) (cells : List Value) → is_cell cells v ≡ false → scan_from at v cells ≡ []
scan_none at v [] h = refl
scan_none at v (u ∷ cells) h = let s = none_step (same_value u v) (is_cell cells v) h in rw s.0 (scan_none (at + 1) v cells s.1)

-- ---- the entries of the values

entries_above : (cells : List Value) (v : Value) (us : List Value) → Above v us → AllAbove v (map (entry_for cells) us)
entries_above cells v [] a = tt
entries_above cells v (u ∷ us) a = (a.0, entries_above cells v us a.1)

entries_rise : (cells : List Value) (vs : List Value) → Rise vs → Rising (map (entry_for cells) vs)
entries_rise cells [] r = tt
entries_rise cells (v ∷ vs) r = (entries_above cells v vs r.0, entries_rise cells vs r.1)

entries_each : (P : Value → Type 0) (cells vs : List Value) → Each P vs → EachValue P (map (entry_for cells) vs)
entries_each P cells [] x = tt
entries_each P cells (v ∷ vs) x = (x.0, entries_each P cells vs x.1)

entries_filled : (cells vs : List Value) → Each (HasCell cells) vs → Filled (map (entry_for cells) vs)
entries_filled cells [] x = tt
entries_filled cells (v ∷ vs) x = (scan_some 1 v cells x.0, entries_filled cells vs x.1)

found_step : (b c : Bool) (u v : Value) (cells : List Value) (rest : Option (List ℕ)) → same_value u v ≡ b → listed rest ≡ cond c (scan_of v cells) [] → listed (cond b (Some (scan_of u cells)) rest) ≡ cond (b || c) (scan_of v cells) []
found_step true c u v cells rest t h = ap (λ (x : Value). scan_of x cells) ((Decides-same_value u v).0 t)
found_step false c u v cells rest t h = h

entries_found : (cells vs : List Value) (v : Value) → listed (found_in v (map (entry_for cells) vs)) ≡ cond (is_cell vs v) (scan_of v cells) []
entries_found cells [] v = refl
entries_found cells (u ∷ vs) v = found_step (same_value u v) (is_cell vs v) u v cells (found_in v (map (entry_for cells) vs)) refl (entries_found cells vs v)

scan_by : (b : Bool) (v : Value) (cells : List Value) → is_cell cells v ≡ b → cond b (scan_of v cells) [] ≡ scan_of v cells
scan_by true v cells h = refl
scan_by false v cells h = sym (scan_none 1 v cells h)

pub entries_for_rising : IsTotalOrder value_cmp → (cells : List Value) → Rising (entries_for cells)
entries_for_rising o cells = entries_rise cells (values_of cells) (values_rise o cells)

pub entries_for_each : (cells : List Value) → EachValue (HasCell cells) (entries_for cells)
entries_for_each cells = entries_each (HasCell cells) cells (values_of cells) (values_each (HasCell cells) cells (cells_have cells))

pub entries_for_filled : (cells : List Value) → Filled (entries_for cells)
entries_for_filled cells = entries_filled cells (values_of cells) (values_each (HasCell cells) cells (cells_have cells))

pub entries_for_listed : (cells : List Value) → Told (HasCell cells) → (v : Value) → listed (found_in v (entries_for cells)) ≡ scan_of v cells
entries_for_listed cells eq v = entries_found cells (values_of cells) v ∙ ap (λ (b : Bool). cond b (scan_of v cells) []) (values_has (HasCell cells) eq v cells (cells_have cells)) ∙ scan_by (is_cell cells v) v cells refl

pub values_have : (cells : List Value) → Told (HasCell cells) → (w : Value) → is_cell (values_of cells) w ≡ is_cell cells w
values_have cells eq w = values_has (HasCell cells) eq w cells (cells_have cells)

pub own_cell : (cells : List Value) (k : ℕ) → k < length cells → is_cell cells (get_or cells k Nothing) ≡ true
own_cell [] k h = absurd (omega arith)
own_cell (u ∷ cells) zero h = rw (same_yes u u refl) refl
own_cell (u ∷ cells) (suc k) h = rw (own_cell cells k (omega arith)) (or_true (same_value u (get_or cells k Nothing)))
