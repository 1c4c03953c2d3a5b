-- The canonical text of a sound header is a spelling of it.
use Rattle.std.proofs.Common.{◌≡◌, ℕ, ◌+◌, ◌≤◌, false, List, [], ◌∷◌, ◌++◌, length, Some, None, Ok, refl, sym, ap, subst, ◌∙◌, append_assoc, arith, inl, ltb}
use Rattle.std.specs.List.{list_any, position_or_len, All, AllByRecursion, IsDistinct}
use Rattle.std.proofs.lemmas.Bool.{le-ltb}
use Rattle.std.proofs.lemmas.Fmt.{decimal_is_IsNumeral}
use Rattle.std.proofs.lemmas.List.{length-append, map-append}
use Rattle.std.proofs.lemmas.List.Elements.{All-head, All-tail}
use Rattle.vpf_base.specs.Limits.{longest_text}
use Rattle.vpf_triplet.specs.declared.kinds.Count.{Count}
use Rattle.vpf_triplet.specs.declared.kinds.Count.TheVariants.{Fixed, Star}
use Rattle.vpf_base.specs.declared.orders.Order.{Order}
use Rattle.vpf_base.specs.declared.orders.Order.TheVariants.{Little, Big}
use Rattle.vpf_triplet.specs.Kinds.{kind_text, count_text}
use Rattle.vpf_head.specs.Bytes.{semicolon, comma, colon, equals}
use Rattle.vpf_head.specs.Canonical.{name_text, column_text, columns_text, canonical_text, canonical_header}
use Rattle.vpf_head.specs.Fields.{letter_key, key_text}
use Rattle.vpf_head.specs.Folding.{lowercase, same_name}
use Rattle.vpf_head.specs.Head.{Head, Col, names, place_of}
use Rattle.vpf_head.specs.Reading.{header_of}
use Rattle.vpf_head.specs.Inner.Soundness.{IsInBounds, IsCounted, IsSpelled, IsSound}
use Rattle.vpf_head.specs.Spelling.{IsCount, IsColumn, IsColumns, narrated_comma, mark_of, IsHeaderText, IsHeader}
use Rattle.vpf_head.proofs.FieldLaws.{key_takes}
use Rattle.vpf_head.proofs.HeadLaws.{passes_nowhere}
use Rattle.vpf_head.proofs.HeaderLaws.{header_again}
use Rattle.vpf_head.proofs.SoundLaws.{same_bytes}

-- ---- names that are new

any_push : (x y : List ℕ) (ys : List (List ℕ)) (xs : List (List ℕ)) → AllByRecursion (λ z. same_name x z ≡ false) (xs ++ y ∷ ys) → same_name x y ≡ false
any_push x y ys [] h = h.0
any_push x y ys (z ∷ xs) h = any_push x y ys xs h.1

none_before : (xs : List (List ℕ)) (y : List ℕ) (ys : List (List ℕ)) → IsDistinct same_name (xs ++ y ∷ ys) → list_any (same_name y) xs ≡ false
unfolding IsDistinct
none_before [] y ys h = refl
none_before (x ∷ xs) y ys h = rw (same_bytes (lowercase y) (lowercase x) ∙ any_push x y ys xs h.0, none_before xs y ys h.1) refl

pub is_new : (before : List Col) (c : Col) (columns : List Col) → IsDistinct same_name (names (before ++ c ∷ columns)) → place_of c.name before ≡ None
is_new before c columns h =
    let split : names (before ++ c ∷ columns) ≡ names before ++ c.name ∷ names columns = map-append (λ (x : Col). x.name) before (c ∷ columns) in
    let k = passes_nowhere (same_name c.name) (names before) (none_before (names before) c.name (names columns) (subst (IsDistinct same_name) split h)) in
    let lt : ltb (position_or_len (same_name c.name) (names before)) (length (names before)) ≡ false = le-ltb _ _ (omega arith) in
    rw lt refl

-- ---- what is sound is spelled

count_spelled : (c : Count) → IsInBounds c → IsCount c (count_text c)
count_spelled Star h = record { spaces = 0; bare = count_text Star; bare_is = refl; spelled = refl }
count_spelled (Fixed n) h =
    let d = decimal_is_IsNumeral n (let k = h.1 in omega arith) in
    record { spaces = 0; bare = count_text (Fixed n); bare_is = (d.0, d.1, h.0, h.1); spelled = refl }

spelled_by : (before : List Col) (c : Col) (letter : ℕ) → IsSpelled c → IsCounted c → place_of c.name before ≡ None → key_text c.key ≡ letter ∷ [] → letter_key letter ≡ Some c.key → IsColumn before c (column_text c)
unfolding column_text
spelled_by before c letter s n new text_is key_is = record {
  count = count_text c.count;
  letter = letter;
  values = name_text c.values;
  theme = name_text c.theme;
  ending = narrated_comma (name_text c.narrative);
  name_name = s.name;
  name_some = s.some;
  name_new = new;
  count_is = count_spelled c.count n.bounds;
  count_allowed = n.allowed;
  key_is = key_is;
  description_text = s.description;
  values_name = s.values.spelled;
  values_is = s.values.back;
  theme_name = s.theme.spelled;
  theme_is = s.theme.back;
  narrative_name = s.narrative.spelled;
  narrative_is = s.narrative.back;
  spelled = ap (λ (key : List ℕ). c.name ++ equals ∷ (kind_text c.kind ++ comma ∷ (count_text c.count ++ comma ∷ (key ++ comma ∷ (c.description ++ comma ∷ (name_text c.values ++ comma ∷ (name_text c.theme ++ comma ∷ (name_text c.narrative ++ comma ∷ colon ∷ [])))))))) text_is;
}

column_spelled : (before : List Col) (c : Col) → IsSpelled c → IsCounted c → place_of c.name before ≡ None → IsColumn before c (column_text c)
column_spelled before c s n new =
    let k = key_takes (key_text c.key) c.key s.key in
    spelled_by before c k.0 s n new k.1 k.2

columns_spelled : (before columns : List Col) → All IsSpelled columns → All IsCounted columns → IsDistinct same_name (names (before ++ columns)) → IsColumns before columns (columns_text columns)
unfolding columns_text
columns_spelled before [] s n d = refl
columns_spelled before (c ∷ columns) s n d = record {
  first = column_text c;
  rest = columns_text columns;
  parts = refl;
  first_is = column_spelled before c (All-head IsSpelled c columns s) (All-head IsCounted c columns n) (is_new before c columns d);
  rest_is = columns_spelled (before ++ c ∷ []) columns (All-tail IsSpelled c columns s) (All-tail IsCounted c columns n)
      (subst (λ (x : List Col). IsDistinct same_name (names x)) (sym (append_assoc before (c ∷ []) columns)) d);
}

pub text_spelled : (h : Head) → IsSound h → IsHeaderText h (canonical_text h)
unfolding canonical_text
text_spelled h s = record {
  mark = mark_of h.order;
  narrative = name_text h.narrative;
  columns = columns_text h.columns;
  blanks = [];
  description_text = s.description;
  narrative_name = s.narrative.spelled;
  narrative_is = s.narrative.back;
  columns_are = columns_spelled [] h.columns s.items s.counts s.distinct;
  columns_few = s.few;
  columns_filled = s.filled;
  blanks_are = refl;
  items = h.description ++ semicolon ∷ (name_text h.narrative ++ semicolon ∷ (columns_text h.columns ++ semicolon ∷ []));
  items_are = refl;
  mark_is = inl refl;
  spelled = refl;
}

pub canonical_spelled : (h : Head) → IsSound h → length (canonical_text h) ≤ longest_text → IsHeader h (canonical_header h)
canonical_spelled h s short = record { text = canonical_text h; text_is = text_spelled h s; short = short; spelled = refl }

pub canonical_read : (h : Head) (rest : List ℕ) → IsSound h → length (canonical_text h) ≤ longest_text → header_of (canonical_header h ++ rest) ≡ Ok (h, length (canonical_header h))
canonical_read h rest s short = header_again h (canonical_header h) rest (canonical_spelled h s short)

-- ---- lengths

pub length-mark : (order : Order) → length (mark_of order) ≡ 2
length-mark Little = refl
length-mark Big = refl

pub length-column : (c : Col) → length (column_text c) ≡ length c.name + length (kind_text c.kind) + length (count_text c.count) + length (key_text c.key) + length c.description + length (name_text c.values) + length (name_text c.theme) + length (name_text c.narrative) + 9
unfolding column_text
length-column c = grind (arith, length-append)

pub length-text : (h : Head) → length (canonical_text h) ≡ length h.description + length (name_text h.narrative) + length (columns_text h.columns) + 5
unfolding canonical_text
length-text h =
    let t2 = name_text h.narrative ++ semicolon ∷ (columns_text h.columns ++ semicolon ∷ []) in
    let t1 = h.description ++ semicolon ∷ t2 in
    omega (arith, length-mark h.order, length-append (mark_of h.order) t1, length-append h.description (semicolon ∷ t2), length-append (name_text h.narrative) (semicolon ∷ (columns_text h.columns ++ semicolon ∷ [])), length-append (columns_text h.columns) (semicolon ∷ []))

pub length-in_order : (h : Head) (order : Order) → length (canonical_text (record h { order = order })) ≡ length (canonical_text h)
length-in_order h order = length-text (record h { order = order }) ∙ sym (length-text h)
