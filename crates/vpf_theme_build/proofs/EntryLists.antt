-- Entries that rise are told by the rows that they list.
use Rattle.std.proofs.Common.{◌≡◌, ℕ, ◌<◌, Bool, true, false, cond, List, [], ◌∷◌, length, None, Ordering, Less, Equal, Greater, refl, sym, ap, ◌∙◌, arith}
use Rattle.std.specs.Cmp.{IsTotalOrder}
use Rattle.std.specs.Ordering.{ordering_reverse}
use Rattle.std.proofs.lemmas.Cmp.{tied_itself}
use Rattle.vpf_value.specs.Values.{Value}
use Rattle.vpf_theme.specs.Ordering.{same_value, value_cmp}
use Rattle.vpf_theme.specs.Entries.{Entry, found_in}
use Rattle.vpf_theme.specs.Agreeing.{listed}
use Rattle.vpf_theme.specs.Inner.KeyLaws.{Decides-same_value, same_yes, same_no}

abbrev pub AllAbove : Value → List Entry → Type 0
AllAbove v [] = Unit {0}
AllAbove v (e ∷ es) = (value_cmp v e.value ≡ Less) × AllAbove v es

abbrev pub Rising : List Entry → Type 0
Rising [] = Unit {0}
Rising (e ∷ es) = AllAbove e.value es × Rising es

abbrev pub Filled : List Entry → Type 0
Filled [] = Unit {0}
Filled (e ∷ es) = (0 < length e.rows) × Filled es

-- what holds of the value of each entry
abbrev pub EachValue : (Value → Type 0) → List Entry → Type 0
EachValue P [] = Unit {0}
EachValue P (e ∷ es) = P e.value × EachValue P es

pub apart : IsTotalOrder value_cmp → (v u : Value) → value_cmp v u ≡ Less → v ≡ u → ⊥
apart o v u h e = let y = tied_itself o v in let z : value_cmp v u ≡ value_cmp v v = ap (value_cmp v) (sym e) in let w : Less ≡ Equal = sym h ∙ z ∙ y in cc w

pub back : IsTotalOrder value_cmp → (v u : Value) → value_cmp v u ≡ Greater → value_cmp u v ≡ Less
back o v u h = o.antisymm u v ∙ ap ordering_reverse h

pub above_trans : IsTotalOrder value_cmp → (v u : Value) (es : List Entry) → value_cmp v u ≡ Less → AllAbove u es → AllAbove v es
above_trans o v u [] h a = tt
above_trans o v u (e ∷ es) h a = (o.trans v u e.value h a.0, above_trans o v u es h a.1)

pub not_found : IsTotalOrder value_cmp → (v : Value) (es : List Entry) → AllAbove v es → found_in v es ≡ None
not_found o v [] a = refl
not_found o v (e ∷ es) a = rw (same_no e.value v (λ k. apart o v e.value a.0 (sym k))) (not_found o v es a.1)

found_first : (e : Entry) (es : List Entry) (v : Value) → e.value ≡ v → listed (found_in v (e ∷ es)) ≡ e.rows
found_first e es v h = rw (same_yes e.value v h) refl

no_rows : (rows : List ℕ) → 0 < length rows → rows ≡ [] → ⊥
no_rows rows h e = let k = ap length e in absurd (omega (arith, h, k))

abbrev entry_with : Value → List ℕ → Entry
entry_with v rows = record { value = v; rows = rows }

same_entry : (e d : Entry) (es ds : List Entry) → e.value ≡ d.value → e.rows ≡ d.rows → es ≡ ds → e ∷ es ≡ d ∷ ds
same_entry e d es ds v r t = ap (λ (x : Value). entry_with x e.rows ∷ es) v ∙ ap (λ (x : List ℕ). entry_with d.value x ∷ es) r ∙ ap (λ (x : List Entry). d ∷ x) t

tail_found : IsTotalOrder value_cmp → (e : Entry) (es : List Entry) (v : Value) (b : Bool) → same_value e.value v ≡ b → AllAbove e.value es → listed (found_in v es) ≡ cond b [] (listed (found_in v (e ∷ es)))
tail_found o e es v true h a = let k = (Decides-same_value e.value v).0 h in rw (← k) (ap listed (not_found o e.value es a))
tail_found o e es v false h a = rw h refl

-- values that hold P and that the order does not tell apart are equal
abbrev pub Told : (Value → Type 0) → Type 0
Told P = (v u : Value) → P v → P u → value_cmp v u ≡ Equal → v ≡ u

less_absurd : IsTotalOrder value_cmp → (e d : Entry) (es ds : List Entry) → value_cmp e.value d.value ≡ Less → AllAbove d.value ds → 0 < length e.rows → listed (found_in e.value (e ∷ es)) ≡ listed (found_in e.value (d ∷ ds)) → ⊥
less_absurd o e d es ds c a f h =
    let none = not_found o e.value (d ∷ ds) (c, above_trans o e.value d.value ds c a) in
    no_rows e.rows f (sym (found_first e es e.value refl) ∙ h ∙ ap listed none)

same_heads : IsTotalOrder value_cmp → (e d : Entry) (es ds : List Entry) → e.value ≡ d.value → AllAbove e.value es → AllAbove d.value ds → ((v : Value) → listed (found_in v (e ∷ es)) ≡ listed (found_in v (d ∷ ds))) → (v : Value) → listed (found_in v es) ≡ listed (found_in v ds)
same_heads o e d es ds k a b h v =
    let t : same_value d.value v ≡ same_value e.value v = ap (λ (x : Value). same_value x v) (sym k) in
    tail_found o e es v (same_value e.value v) refl a ∙ ap (λ (x : List ℕ). cond (same_value e.value v) [] x) (h v) ∙ sym (tail_found o d ds v (same_value e.value v) t b)

pub same_entries : (P : Value → Type 0) → IsTotalOrder value_cmp → Told P → (es ds : List Entry) → Rising es → Rising ds → Filled es → Filled ds → EachValue P es → EachValue P ds → ((v : Value) → listed (found_in v es) ≡ listed (found_in v ds)) → es ≡ ds
same_entries P o eq [] [] r s f g p q h = refl
same_entries P o eq [] (d ∷ ds) r s f g p q h = absurd (no_rows d.rows g.0 (sym (found_first d ds d.value refl) ∙ sym (h d.value)))
same_entries P o eq (e ∷ es) [] r s f g p q h = absurd (no_rows e.rows f.0 (sym (found_first e es e.value refl) ∙ h e.value))
same_entries P o eq (e ∷ es) (d ∷ ds) r s f g p q h =
    by_order (value_cmp e.value d.value) refl (same_entries P o eq es ds r.1 s.1 f.1 g.1 p.1 q.1)
  where
    by_order : (c : Ordering) → value_cmp e.value d.value ≡ c → (((v : Value) → listed (found_in v es) ≡ listed (found_in v ds)) → es ≡ ds) → e ∷ es ≡ d ∷ ds
    by_order Less c rest = absurd (less_absurd o e d es ds c s.0 f.0 (h e.value))
    by_order Greater c rest = absurd (less_absurd o d e ds es (back o e.value d.value c) r.0 g.0 (sym (h d.value)))
    by_order Equal c rest =
        let k = eq e.value d.value p.0 q.0 c in
        let rows = sym (found_first e es e.value refl) ∙ h e.value ∙ found_first d ds e.value (sym k) in
        same_entry e d es ds k rows (rest (same_heads o e d es ds k r.0 s.0 h))
