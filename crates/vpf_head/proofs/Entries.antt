-- A map of columns, seen as the list of its columns.
use Rattle.std.proofs.Common.{◌≡◌, ℕ, zero, suc, ◌+◌, ◌^◌, ◌<◌, ◌≤◌, List, [], ◌∷◌, ◌++◌, length, map, drop, get_or, Some, refl, sym, ap, subst, ◌∙◌, arith}
use Rattle.std.specs.Prelude.{position, slice_get, ◌||◌}
use Rattle.std.specs.List.{position_or_len, list_any, All, AllZip}
use Rattle.std.specs.Map.{keys_of, values_of}
use Rattle.std.proofs.lemmas.List.{drop_all, length-append}
use Rattle.std.proofs.lemmas.Option.{slice_get-get_or}
use Rattle.std.proofs.lemmas.List.Elements.{All-head, All-tail}
use Rattle.indexmap.specs.IndexMap.{set_value_at}
use Rattle.vpf_triplet.specs.declared.kinds.Kind.{Kind}
use Rattle.vpf_head.specs.declared.names.ColumnName.{ColumnName}
use Rattle.vpf_head.specs.declared.columns.Column.{Column}
use Rattle.vpf_head.specs.Folding.{same_name}
use Rattle.vpf_head.specs.Head.{Col, names, is_data, holds_data, is_triplet, is_star, varies_in, with_kind}
use Rattle.vpf_head.specs.Canonical.{column_text, columns_text}
use Rattle.vpf_head.specs.Inner.Soundness.{IsSpelled}
use Rattle.vpf_head.specs.Inner.Views.{col, AreNamed}

abbrev Entries : Type 0
Entries = List (ColumnName × Column)

names_agree : (name : List ℕ) (es : Entries) → AreNamed es → (position_or_len (λ (k : ColumnName). same_name name k.name.now) (keys_of es) ≡ position_or_len (same_name name) (names (map col (values_of es))))
    × (length (keys_of es) ≡ length (names (map col (values_of es))))
names_agree name [] h = (refl, refl)
names_agree name (e ∷ es) h =
    let t = names_agree name es h.1 in
    (rw (h.0, t.0) refl, ap suc t.1)

-- a name stands in the map where it stands in the columns
pub position_named : (name : List ℕ) (es : Entries) → AreNamed es → position (λ (k : ColumnName). same_name name k.name.now) (keys_of es) ≡ position (same_name name) (names (map col (values_of es)))
position_named name es h = let t = names_agree name es h in rw (t.0, t.1) refl

pub AreNamed-push : (es : Entries) (e : ColumnName × Column) → AreNamed es → e.0.name.now ≡ e.1.name.now → AreNamed (es ++ e ∷ [])
AreNamed-push [] e h here = (here, tt)
AreNamed-push (x ∷ es) e h here = (h.0, AreNamed-push es e h.1 here)

pub columns-push : (es : Entries) (e : ColumnName × Column) → map col (values_of (es ++ e ∷ [])) ≡ map col (values_of es) ++ col e.1 ∷ []
columns-push [] e = refl
columns-push (x ∷ es) e = ap (λ (columns : List Col). col x.1 ∷ columns) (columns-push es e)

-- the value of an entry stands where the entry does
pub value_at : (es : Entries) (c : ℕ) (e : ColumnName × Column) → slice_get es c ≡ Some e → slice_get (values_of es) c ≡ Some e.1
value_at [] zero e h = absurd cc
value_at [] (suc c) e h = absurd cc
value_at (x ∷ es) zero e h = let same : x ≡ e = cc in ap (λ (y : ColumnName × Column). Some y.1) same
value_at (x ∷ es) (suc c) e h = value_at es c e h

-- a column holds something where what contracts see of it does
pub any_data : (cs : List Column) → list_any (λ (c : Column). is_data c.kind) cs ≡ list_any holds_data (map col cs)
any_data [] = refl
any_data (c ∷ cs) = rw (any_data cs) refl

-- a column varies where what contracts see of it does
pub any_varies : (cs : List Column) → list_any (λ (c : Column). is_triplet c.kind || is_star c.count) cs ≡ varies_in (map col cs)
any_varies [] = refl
any_varies (c ∷ cs) = rw (any_varies cs) refl

-- ---- one column after another

pub next_column : (cs : List Column) (i : ℕ) (c : Column) → slice_get cs i ≡ Some c → drop i cs ≡ c ∷ drop (i + 1) cs
next_column [] i c e = absurd cc
next_column (x ∷ cs) zero c e = let same : x ≡ c = cc in ap (λ (y : Column). y ∷ cs) same
next_column (x ∷ cs) (suc i) c e = let next : suc i + 1 ≡ suc (i + 1) = omega arith in rw next (next_column cs i c e)

pub columns_step : (cs : List Column) (i : ℕ) (c : Column) → slice_get cs i ≡ Some c → columns_text (map col (drop i cs)) ≡ column_text (col c) ++ columns_text (map col (drop (i + 1) cs))
unfolding columns_text
columns_step cs i c e = ap (λ (xs : List Column). columns_text (map col xs)) (next_column cs i c e)

pub columns_step_at : (cs : List Column) (i : ℕ) (d : Column) → i < length cs → columns_text (map col (drop i cs)) ≡ column_text (col (get_or cs i d)) ++ columns_text (map col (drop (i + 1) cs))
columns_step_at cs i d lt = columns_step cs i (get_or cs i d) (slice_get-get_or cs i d lt)

length_step : (cs : List Column) (i : ℕ) (d : Column) → i < length cs → length (columns_text (map col (drop i cs))) ≡ length (column_text (col (get_or cs i d))) + length (columns_text (map col (drop (i + 1) cs)))
length_step cs i d lt = ap length (columns_step_at cs i d lt) ∙ length-append (column_text (col (get_or cs i d))) (columns_text (map col (drop (i + 1) cs)))

-- the room of the columns from here on holds the next one, and then those after it
pub room_here : (at whole : ℕ) (cs : List Column) (i : ℕ) (d : Column) → i < length cs → at + length (columns_text (map col (drop i cs))) ≡ whole → whole < 2 ^ 32 → at + length (column_text (col (get_or cs i d))) < 2 ^ 32
room_here at whole cs i d lt e h = omega (arith, length_step cs i d lt)

pub room_next : (at next whole : ℕ) (cs : List Column) (i : ℕ) (d : Column) → i < length cs → next ≡ at + length (column_text (col (get_or cs i d))) → at + length (columns_text (map col (drop i cs))) ≡ whole → next + length (columns_text (map col (drop (i + 1) cs))) ≡ whole
room_next at next whole cs i d lt f e = omega (arith, length_step cs i d lt)

pub columns_end : (cs : List Column) (i : ℕ) → length cs ≤ i → columns_text (map col (drop i cs)) ≡ []
unfolding columns_text
columns_end cs i h = ap (λ (xs : List Column). columns_text (map col xs)) (drop_all i cs h)

pub column_spelled : (cs : List Column) (i : ℕ) (c : Column) → slice_get cs i ≡ Some c → All IsSpelled (map col cs) → IsSpelled (col c)
column_spelled [] i c e s = absurd cc
column_spelled (x ∷ cs) zero c e s = let same : x ≡ c = cc in subst (λ (y : Column). IsSpelled (col y)) same (All-head IsSpelled (col x) (map col cs) s)
column_spelled (x ∷ cs) (suc i) c e s = column_spelled cs i c e (All-tail IsSpelled (col x) (map col cs) s)

-- ---- a column of another kind

pub columns-set_kind : (es : Entries) (c : ℕ) (n : ColumnName) (v : Column) (kind : Kind) → slice_get es c ≡ Some (n, v) → map col (values_of (set_value_at es c (record v { kind = kind }))) ≡ with_kind c kind (map col (values_of es))
columns-set_kind [] c n v kind h = refl
columns-set_kind (e ∷ es) zero n v kind h =
    let same : e ≡ (n, v) = cc in
    ap (λ (x : ColumnName × Column). record (col x.1) { kind = kind } ∷ map col (values_of es)) (sym same)
columns-set_kind (e ∷ es) (suc c) n v kind h = ap (λ (columns : List Col). col e.1 ∷ columns) (columns-set_kind es c n v kind h)

pub AreNamed-set : (es : Entries) (c : ℕ) (n : ColumnName) (v w : Column) → w.name.now ≡ v.name.now → slice_get es c ≡ Some (n, v) → AreNamed es → AreNamed (set_value_at es c w)
AreNamed-set [] c n v w f h named = tt
AreNamed-set (e ∷ es) zero n v w f h named =
    let same : e ≡ (n, v) = cc in
    (named.0 ∙ ap (λ (x : ColumnName × Column). x.1.name.now) same ∙ sym f, named.1)
AreNamed-set (e ∷ es) (suc c) n v w f h named = (named.0, AreNamed-set es c n v w f h named.1)

-- ---- a map and its copies

pub length-values : (es : Entries) → length (values_of es) ≡ length es
length-values [] = refl
length-values (e ∷ es) = ap suc (length-values es)

pair_same : (e f : ColumnName × Column) → f.0 ≡ e.0 → f.1 ≡ e.1 → f ≡ e
pair_same (a, b) (d, g) h k = rw (h, k) refl

pub copies_same : (es fs : Entries) → AllZip (λ (p q : ColumnName × Column). (q.0 ≡ p.0) × (q.1 ≡ p.1)) es fs → fs ≡ es
copies_same [] [] h = refl
copies_same [] (f ∷ fs) h = absurd h
copies_same (e ∷ es) [] h = absurd h
copies_same (e ∷ es) (f ∷ fs) h =
    let first : f ≡ e = pair_same e f h.0.0 h.0.1 in
    rw (first, copies_same es fs h.1) refl
