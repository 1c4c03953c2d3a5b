-- What is read of a header is sound.
use Rattle.std.proofs.Common.{◌≡◌, ℕ, zero, suc, ◌+◌, ◌≤◌, Bool, true, false, cond, ltb, nat_eq, List, [], ◌∷◌, ◌++◌, length, take, drop, Option, Some, None, Ok, Err, refl, sym, ap, subst, ◌∙◌, append_assoc, arith}
use Rattle.std.specs.Prelude.{bytes_eq, ◌||◌, IfSome, IsTrue, slice_get}
use Rattle.std.specs.List.{list_any, All, AllByRecursion, IsDistinct}
use Rattle.std.proofs.lemmas.Bool.{eqb-true, eq-eqb, ltb-false}
use Rattle.std.proofs.lemmas.List.Elements.{All-head, All-tail}
use Rattle.std.proofs.lemmas.List.{append-nil, map_push, length-append, length-take, length-drop}
use Rattle.vpf_base.specs.Limits.{most_columns, longest_text}
use Rattle.vpf_base.proofs.Results.{passed, guarded, bind_ok, ok_is}
use Rattle.vpf_base.proofs.Booleans.{neither}
use Rattle.vpf_triplet.specs.declared.kinds.Count.{Count}
use Rattle.vpf_triplet.specs.declared.kinds.Count.TheVariants.{Fixed, Star}
use Rattle.vpf_base.specs.declared.orders.Order.{Order}
use Rattle.vpf_triplet.specs.declared.places.Code.TheVariants as codes
use Rattle.std.specs.Int.{w32}
use Rattle.vpf_base.specs.Numbers.{number_of}
use Rattle.vpf_triplet.specs.Places.{fault}
use Rattle.vpf_triplet.specs.declared.kinds.Kind.{Kind}
use Rattle.vpf_triplet.specs.declared.kinds.Kind.TheVariants as kinds
use Rattle.vpf_triplet.specs.Kinds.{kind_text, allows}
use Rattle.vpf_head.specs.declared.items.Form.{Form}
use Rattle.vpf_head.specs.declared.items.Form.TheVariants.{Heading, Name, Field, Last}
use Rattle.vpf_head.specs.Bytes.{hyphen}
use Rattle.vpf_head.specs.Folding.{lowercase, same_name}
use Rattle.vpf_head.specs.Fields.{present}
use Rattle.vpf_head.specs.Head.{Head, Col, names, is_data, holds_data, names_rows, with_kind}
use Rattle.vpf_head.specs.Items.{text_at, name_at}
use Rattle.vpf_head.specs.Reading.{columns_at, end_at, close_at, after_mark, order_of, head_at, header_of}
use Rattle.vpf_head.specs.Spelling.{IsName, IsBareCount, narrative_item, ending_text, IsColumn, IsColumns}
use Rattle.vpf_head.specs.Inner.Soundness.{IsInBounds, IsCounted, IsWritten, IsSpelled, IsSound}
use Rattle.vpf_head.specs.Texts.{has_mark}
use Rattle.vpf_head.proofs.ColumnLaws.{measured}
use Rattle.vpf_head.proofs.FieldLaws.{key_back}
use Rattle.vpf_head.proofs.HeadLaws.{nowhere, columns_take}
use Rattle.vpf_head.proofs.ItemLaws.{text_takes, name_takes}
use Rattle.vpf_head.proofs.TextLaws.{mark_past}

-- ---- counts

bounded : (c : Count) (item : List ℕ) → IsBareCount c item → IsInBounds c
bounded Star item h = tt
bounded (Fixed n) item h = (h.2, h.3)

pub all_more : (P : Col → Type 0) (c : Col) (cs : List Col) → P c → All P cs → All P (c ∷ cs)
all_more P c cs a b zero d lt = a
all_more P c cs a b (suc k) d lt = b k d (omega arith)

pub none_at_all : (P : Col → Type 0) → All P []
none_at_all P k d lt = absurd (omega arith)

counted : (before cs : List Col) (bytes : List ℕ) → IsColumns before cs bytes → All IsCounted cs
counted before [] bytes s = none_at_all IsCounted
counted before (c ∷ cs) bytes s =
    let f = s.first_is in
    all_more IsCounted c cs (record { bounds = bounded c.count f.count_is.bare f.count_is.bare_is; allowed = f.count_allowed }) (counted (before ++ c ∷ []) cs s.rest s.rest_is)

-- ---- items

dash : (form : Form) → IsName form (hyphen ∷ [])
dash Heading = record { text = record { open_ended = refl; plain = refl }; short = omega arith }
dash Name = record { text = record { open_ended = refl; plain = refl }; short = omega arith }
dash Field = record { text = record { open_ended = refl; plain = refl }; short = omega arith }
dash Last = record { text = record { open_ended = refl; plain = refl }; short = omega arith }

one_byte : (form : Form) (b : ℕ) (t : Bool) → nat_eq b hyphen ≡ t → IsName form (b ∷ []) → IsWritten form (cond t None (Some (b ∷ [])))
one_byte form b true e n = record { spelled = dash form; back = refl }
one_byte form b false e n = record { spelled = n; back = rw e refl }

-- the name that an item gives
pub name_written : (form : Form) (item : List ℕ) → IsName form item → IsWritten form (present item)
name_written form [] n = record { spelled = dash form; back = refl }
name_written form (b ∷ []) n = one_byte form b (nat_eq b hyphen) refl n
name_written form (b ∷ c ∷ item) n = record { spelled = n; back = refl }

pub name_is_written : (form : Form) (item : List ℕ) (name : Option (List ℕ)) → IsName form item → present item ≡ name → IsWritten form name
name_is_written form item name n e = subst (IsWritten form) e (name_written form item n)

longest : (before : List Col) (c : Col) (bytes : List ℕ) → IsColumn before c bytes → length c.description ≤ length bytes
longest before c bytes s =
    let whole = ap length s.spelled ∙ measured c.name (kind_text c.kind) s.count s.letter c.description s.values s.theme (ending_text s.ending) in
    omega arith

column_items : (before : List Col) (c : Col) (bytes : List ℕ) → IsColumn before c bytes → length bytes ≤ longest_text → IsSpelled c
column_items before c bytes s short = record {
  name = s.name_name;
  some = s.name_some;
  key = key_back s.letter c.key s.key_is;
  description = s.description_text;
  short = let k = longest before c bytes s in omega arith;
  values = name_is_written Field s.values c.values s.values_name s.values_is;
  theme = name_is_written Last s.theme c.theme s.theme_name s.theme_is;
  narrative = name_is_written Last (narrative_item s.ending) c.narrative s.narrative_name s.narrative_is;
}

columns_items : (before cs : List Col) (bytes : List ℕ) → IsColumns before cs bytes → length bytes ≤ longest_text → All IsSpelled cs
columns_items before [] bytes s short = none_at_all IsSpelled
columns_items before (c ∷ cs) bytes s short =
    let parts = ap length s.parts ∙ length-append s.first s.rest in
    all_more IsSpelled c cs (column_items before c s.first s.first_is (omega arith)) (columns_items (before ++ c ∷ []) cs s.rest s.rest_is (omega arith))

-- ---- names

same_number : (x y : ℕ) → nat_eq x y ≡ nat_eq y x
same_number x y = by (nat_eq x y) (nat_eq y x) refl refl
  where
    by : (a b : Bool) → nat_eq x y ≡ a → nat_eq y x ≡ b → a ≡ b
    by true true e f = refl
    by false false e f = refl
    by true false e f = let k : true ≡ false = sym (eq-eqb y x (sym (eqb-true x y e))) ∙ f in k
    by false true e f = let k : true ≡ false = sym (eq-eqb x y (sym (eqb-true y x f))) ∙ e in sym k

pub same_bytes : (xs ys : List ℕ) → bytes_eq xs ys ≡ bytes_eq ys xs
same_bytes [] [] = refl
same_bytes [] (y ∷ ys) = refl
same_bytes (x ∷ xs) [] = refl
same_bytes (x ∷ xs) (y ∷ ys) = rw (same_number x y, same_bytes xs ys) refl

all_push : (x y : List ℕ) (xs : List (List ℕ)) → AllByRecursion (λ z. same_name x z ≡ false) xs → same_name x y ≡ false → AllByRecursion (λ z. same_name x z ≡ false) (xs ++ y ∷ [])
all_push x y [] h e = (e, tt)
all_push x y (z ∷ xs) h e = (h.0, all_push x y xs h.1 e)

distinct_push : (xs : List (List ℕ)) (y : List ℕ) → IsDistinct same_name xs → list_any (same_name y) xs ≡ false → IsDistinct same_name (xs ++ y ∷ [])
unfolding IsDistinct
distinct_push [] y h e = (tt, tt)
distinct_push (x ∷ xs) y h e =
    let t = neither (same_name y x) (list_any (same_name y) xs) e in
    (all_push x y xs h.0 (same_bytes (lowercase x) (lowercase y) ∙ t.0), distinct_push xs y h.1 t.1)

distinct : (before cs : List Col) (bytes : List ℕ) → IsColumns before cs bytes → IsDistinct same_name (names before) → IsDistinct same_name (names (before ++ cs))
distinct before [] bytes s h = rw (append-nil before) h
distinct before (c ∷ cs) bytes s h =
    let pushed : names (before ++ c ∷ []) ≡ names before ++ c.name ∷ [] = map_push (λ (x : Col). x.name) before c in
    let one : IsDistinct same_name (names (before ++ c ∷ [])) = rw pushed (distinct_push (names before) c.name h (nowhere (same_name c.name) (names before) s.first_is.name_new)) in
    subst (λ (x : List Col). IsDistinct same_name (names x)) (append_assoc before (c ∷ []) cs) (distinct (before ++ c ∷ []) cs s.rest s.rest_is one)

no_names : IsDistinct same_name (names [])
unfolding IsDistinct
no_names = tt

-- ---- headers

pub head_sound : (order : Order) (text : List ℕ) (h : Head) (past : ℕ) → length text ≤ 4 + longest_text → head_at order text ≡ Ok (h, past) → IsSound h
unfolding head_at
head_sound order text h past short e =
    let at = after_mark text in
    let description = bind_ok (text_at Heading text at) _ (h, past) e in
    let narrative = bind_ok (name_at Heading text description.0.past) _ (h, past) description.2 in
    let cols = bind_ok (columns_at most_columns [] text narrative.0.past) _ (h, past) narrative.2 in
    let close = bind_ok (close_at cols.0.0 text cols.0.1) _ (h, past) cols.2 in
    let d = text_takes Heading text at description.0 description.1 in
    let n = name_takes Heading text description.0.past narrative.0 narrative.1 in
    let c = columns_take most_columns [] text narrative.0.past cols.0.0 cols.0.1 cols.1 in
    let filled = passed (list_any holds_data cols.0.0) (fault cols.0.1 codes.NoData) (end_at text (cols.0.1 + 1)) close.0 close.1 in
    let more = c.is in
    let marked = mark_past (has_mark (drop 4 text)) in
    let few : length description.0.text ≤ longest_text = within text at description.0.text (description.0.stop ∷ drop description.0.past text) d.1.split marked short in
    let some : length c.span.bytes ≤ longest_text = within text narrative.0.past c.span.bytes (drop cols.0.1 text) c.span.split (omega (arith, marked, d.1.past_is, n.1.past_is)) short in
    subst IsSound (ap (λ (x : Head × ℕ). x.0) (ok_is {x = (record { order = order; description = description.0.text; narrative = present narrative.0.text; columns = cols.0.0 }, close.0)} {y = (h, past)} close.2))
    (record {
      description = d.0;
      short = few;
      narrative = name_written Heading narrative.0.text n.0;
      items = subst (All IsSpelled) (sym more) (columns_items [] c.more c.span.bytes c.span.is some);
      counts = subst (All IsCounted) (sym more) (counted [] c.more c.span.bytes c.span.is);
      distinct = subst (λ (x : List Col). IsDistinct same_name (names x)) (sym more) (distinct [] c.more c.span.bytes c.span.is no_names);
      few = subst (λ (x : List Col). length x ≤ most_columns) (sym more) c.few;
      filled = filled.0;
    })
  where
    within : (text : List ℕ) (at : ℕ) (w rest : List ℕ) → drop at text ≡ w ++ rest → 4 ≤ at → length text ≤ 4 + longest_text → length w ≤ longest_text
    within text at w rest split past short = omega (arith, ap length split, length-append w rest, length-drop at text)

pub header_sound : (bytes : List ℕ) (h : Head) (past : ℕ) → header_of bytes ≡ Ok (h, past) → IsSound h
unfolding header_of
header_sound bytes h past e =
    let o = order_of bytes in
    let m = number_of o w32 bytes in
    let text = take (4 + m) bytes in
    let a = guarded (ltb (length bytes) 4) (fault 0 codes.NumberCut) (cond (ltb longest_text m) (Err (fault 0 (codes.LimitHeader m))) (cond (ltb (length bytes) (4 + m)) (Err (fault 4 codes.HeaderCut)) (head_at o text))) (h, past) e in
    let b = guarded (ltb longest_text m) (fault 0 (codes.LimitHeader m)) (cond (ltb (length bytes) (4 + m)) (Err (fault 4 codes.HeaderCut)) (head_at o text)) (h, past) a.1 in
    let c = guarded (ltb (length bytes) (4 + m)) (fault 4 codes.HeaderCut) (head_at o text) (h, past) b.1 in
    head_sound o text h past (omega (arith, length-take (4 + m) bytes, ltb-false longest_text m b.0)) c.1

-- ---- what stays sound

pub in_order : (h : Head) (order : Order) → IsSound h → IsSound (record h { order = order })
in_order h order s = record { description = s.description; short = s.short; narrative = s.narrative; items = s.items; counts = s.counts; distinct = s.distinct; few = s.few; filled = s.filled }

spelled_kind : (x : Col) (kind : Kind) → IsSpelled x → IsSpelled (record x { kind = kind })
spelled_kind x kind s = record { name = s.name; some = s.some; key = s.key; description = s.description; short = s.short; values = s.values; theme = s.theme; narrative = s.narrative }

items_with_kind : (c : ℕ) (kind : Kind) (xs : List Col) → All IsSpelled xs → All IsSpelled (with_kind c kind xs)
items_with_kind c kind [] s = s
items_with_kind zero kind (x ∷ xs) s = all_more IsSpelled (record x { kind = kind }) xs (spelled_kind x kind (All-head IsSpelled x xs s)) (All-tail IsSpelled x xs s)
items_with_kind (suc c) kind (x ∷ xs) s = all_more IsSpelled x (with_kind c kind xs) (All-head IsSpelled x xs s) (items_with_kind c kind xs (All-tail IsSpelled x xs s))

one_allowed : (kind : Kind) → allows kind (Fixed 1) ≡ true
one_allowed kinds.T = refl
one_allowed kinds.L = refl
one_allowed kinds.M = refl
one_allowed kinds.N = refl
one_allowed kinds.F = refl
one_allowed kinds.R = refl
one_allowed kinds.S = refl
one_allowed kinds.I = refl
one_allowed kinds.D = refl
one_allowed kinds.X = refl
one_allowed kinds.K = refl
one_allowed kinds.C = refl
one_allowed kinds.B = refl
one_allowed kinds.Z = refl
one_allowed kinds.Y = refl

counts_with_kind : (c : ℕ) (kind : Kind) (xs : List Col) → IfSome (slice_get xs c) (λ x. x.count ≡ Fixed 1) → All IsCounted xs → All IsCounted (with_kind c kind xs)
counts_with_kind c kind [] one s = s
counts_with_kind zero kind (x ∷ xs) one s =
    let head = All-head IsCounted x xs s in
    all_more IsCounted (record x { kind = kind }) xs (record { bounds = head.bounds; allowed = ap (allows kind) one ∙ one_allowed kind }) (All-tail IsCounted x xs s)
counts_with_kind (suc c) kind (x ∷ xs) one s = all_more IsCounted x (with_kind c kind xs) (All-head IsCounted x xs s) (counts_with_kind c kind xs one (All-tail IsCounted x xs s))

names_with_kind : (c : ℕ) (kind : Kind) (xs : List Col) → names (with_kind c kind xs) ≡ names xs
names_with_kind c kind [] = refl
names_with_kind zero kind (x ∷ xs) = refl
names_with_kind (suc c) kind (x ∷ xs) = ap (λ (ns : List (List ℕ)). x.name ∷ ns) (names_with_kind c kind xs)

pub length-with_kind : (c : ℕ) (kind : Kind) (xs : List Col) → length (with_kind c kind xs) ≡ length xs
length-with_kind c kind [] = refl
length-with_kind zero kind (x ∷ xs) = refl
length-with_kind (suc c) kind (x ∷ xs) = ap suc (length-with_kind c kind xs)

either : (a b d : Bool) → (b ≡ true → d ≡ true) → (a || b) ≡ true → (a || d) ≡ true
either true b d h e = refl
either false b d h e = h e

filled_with_kind : (c : ℕ) (kind : Kind) (xs : List Col) → is_data kind ≡ true → list_any holds_data xs ≡ true → list_any holds_data (with_kind c kind xs) ≡ true
filled_with_kind c kind [] d f = f
filled_with_kind zero kind (x ∷ xs) d f = rw d refl
filled_with_kind (suc c) kind (x ∷ xs) d f = either (holds_data x) (list_any holds_data xs) (list_any holds_data (with_kind c kind xs)) (λ g. filled_with_kind c kind xs d g) f

naming_data : (kind : Kind) → IsTrue (names_rows kind) → is_data kind ≡ true
naming_data kinds.T h = refl
naming_data kinds.L h = refl
naming_data kinds.M h = refl
naming_data kinds.N h = refl
naming_data kinds.F h = refl
naming_data kinds.R h = refl
naming_data kinds.S h = refl
naming_data kinds.I h = refl
naming_data kinds.D h = refl
naming_data kinds.X h = absurd cc
naming_data kinds.K h = refl
naming_data kinds.C h = refl
naming_data kinds.B h = refl
naming_data kinds.Z h = refl
naming_data kinds.Y h = refl

-- a column of one value takes another kind that names rows
pub in_kind : (h : Head) (c : ℕ) (kind : Kind) → IfSome (slice_get h.columns c) (λ x. x.count ≡ Fixed 1) → IsTrue (names_rows kind) → IsSound h → IsSound (record h { columns = with_kind c kind h.columns })
in_kind h c kind one names_them s = record {
  description = s.description;
  short = s.short;
  narrative = s.narrative;
  items = items_with_kind c kind h.columns s.items;
  counts = counts_with_kind c kind h.columns one s.counts;
  distinct = subst (IsDistinct same_name) (sym (names_with_kind c kind h.columns)) s.distinct;
  few = rw length-with_kind s.few;
  filled = filled_with_kind c kind h.columns (naming_data kind names_them) s.filled;
}
