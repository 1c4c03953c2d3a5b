-- A header is made of the parts that its file spells, and of no others.
use Rattle.std.proofs.Common.{[], ◌≡◌, ℕ, suc, ◌+◌, ◌<◌, ◌≤◌, Bool, true, false, List, ◌∷◌, ◌++◌, length, map, take, drop, get_or, Option, Some, None, Result, Ok, Err, refl, sym, ap, subst, ◌∙◌, arith, ltb}
use Rattle.std.specs.Prelude.{bytes_eq, slice_get, is_some, position}
use Rattle.std.specs.Int.{w32}
use Rattle.std.specs.List.{IsDistinct}
use Rattle.std.specs.Map.{keys_of, values_of}
use Rattle.std.specs.Option.{option_eq}
use Rattle.std.proofs.Math.Seq.{take-suc}
use Rattle.std.proofs.lemmas.Bool.{eqb-true, eq-eqb, le-ltb, ltb-false}
use Rattle.std.proofs.lemmas.List.{length-append, length-drop, append-nil, drop_at, drop_all, drop_more, take-append-drop, map-append, map_push}
use Rattle.indexmap.specs.IndexMap.{IndexMap, values, get, insert_entry}
use Rattle.indexmap.proofs.CallerLemmas.{insert_entry-new}
use Rattle.indexmap.proofs.MapLemmas.{some_index}
use Rattle.std.proofs.lemmas.Option.{slice_get-get_or}
use Rattle.vpf_triplet.specs.Inner.KindLaws.{kinds_same}
use Rattle.vpf_base.specs.Limits.{longest_text}
use Rattle.vpf_base.proofs.Results.{passed, guarded, bind_ok, ok_is}
use Rattle.vpf_triplet.specs.declared.kinds.Count.{Count}
use Rattle.vpf_triplet.specs.declared.kinds.Count.TheVariants.{Fixed, Star}
use Rattle.vpf_base.specs.declared.orders.Order.{Order}
use Rattle.vpf_base.specs.declared.orders.Order.TheVariants.{Little, Big}
use Rattle.vpf_triplet.specs.declared.places.Place.{Place}
use Rattle.vpf_triplet.specs.declared.places.Code.TheVariants as codes
use Rattle.vpf_triplet.specs.Kinds.{kind_text, count_text, same_kind}
use Rattle.vpf_base.specs.Numbers.{number}
use Rattle.vpf_triplet.specs.Places.{fault}
use Rattle.vpf_head.specs.declared.columns.Column.{Column}
use Rattle.vpf_head.specs.declared.names.ColumnName.{ColumnName}
use Rattle.vpf_head.specs.declared.columns.Key.{Key}
use Rattle.vpf_head.specs.declared.columns.Key.TheVariants.{Primary, Unique, Many, Other}
use Rattle.vpf_head.specs.Canonical.{name_text, canonical_text, canonical_header}
use Rattle.vpf_head.specs.Fields.{key_text}
use Rattle.vpf_head.specs.Folding.{same_name}
use Rattle.vpf_head.specs.Head.{Head, Col, names, place_of}
use Rattle.vpf_head.specs.Making.{same_count, same_key, next_part, next_after_text, next_after_name, past_column, past_columns, read_as_given, text_file, new_of}
use Rattle.vpf_head.specs.Reading.{order_of, header_of}
use Rattle.vpf_head.specs.Inner.Soundness.{IsSound}
use Rattle.vpf_head.specs.Spelling.{mark_of, IsHeader}
use Rattle.vpf_head.specs.Texts.{number_bytes}
use Rattle.vpf_head.specs.Inner.Views.{col, key_eq, AreNamed}
use Rattle.vpf_head.proofs.Canonicals.{is_new, canonical_spelled}
use Rattle.vpf_head.proofs.Entries.{position_named, AreNamed-push, next_column}
use Rattle.vpf_head.proofs.FieldLaws.{same_bytes}
use Rattle.vpf_head.proofs.HeaderLaws.{four_long, header_again, header_takes}
use Rattle.vpf_head.proofs.SoundLaws.{header_sound}
use Rattle.vpf_head.specs.Inner.CountLaws.{own_count}

-- ---- parts that are the same

count_is : (c d : Count) → same_count c d ≡ true → c ≡ d
count_is (Fixed m) (Fixed n) e = ap (λ (k : ℕ). Fixed k) (eqb-true m n e)
count_is (Fixed m) Star e = absurd cc
count_is Star (Fixed n) e = absurd cc
count_is Star Star e = refl

key_is : (k l : Key) → same_key k l ≡ true → k ≡ l
key_is Primary Primary e = refl
key_is Primary Unique e = absurd cc
key_is Primary Many e = absurd cc
key_is Primary (Other b) e = absurd cc
key_is Unique Primary e = absurd cc
key_is Unique Unique e = refl
key_is Unique Many e = absurd cc
key_is Unique (Other b) e = absurd cc
key_is Many Primary e = absurd cc
key_is Many Unique e = absurd cc
key_is Many Many e = refl
key_is Many (Other b) e = absurd cc
key_is (Other a) Primary e = absurd cc
key_is (Other a) Unique e = absurd cc
key_is (Other a) Many e = absurd cc
key_is (Other a) (Other b) e = ap (λ (k : ℕ). Other k) (eqb-true a b e)

name_is : (a b : Option (List ℕ)) → option_eq bytes_eq a b ≡ true → a ≡ b
name_is None None e = refl
name_is None (Some b) e = absurd cc
name_is (Some a) None e = absurd cc
name_is (Some a) (Some b) e = ap (λ (w : List ℕ). Some w) (same_bytes a b e)

-- a part that was read as it was given
part_is : (at size : ℕ) (same : Bool) (next : ℕ) → next_part at size same ≡ Ok next → same ≡ true
part_is at size same next e = (passed same (fault at codes.ItemSeparator) (Ok (at + size + 1)) next e).0

column_is : (at : ℕ) (c d : Col) (past : ℕ) → past_column at c d ≡ Ok past → c ≡ d
unfolding past_column
column_is at c d past e =
    let name = bind_ok (next_after_text at c.name d.name) _ past e in
    let kind = bind_ok (next_part name.0 (length (kind_text c.kind)) (same_kind c.kind d.kind)) _ past name.2 in
    let count = bind_ok (next_part kind.0 (length (count_text c.count)) (same_count c.count d.count)) _ past kind.2 in
    let key = bind_ok (next_part count.0 (length (key_text c.key)) (same_key c.key d.key)) _ past count.2 in
    let description = bind_ok (next_after_text key.0 c.description d.description) _ past key.2 in
    let values = bind_ok (next_after_name description.0 c.values d.values) _ past description.2 in
    let theme = bind_ok (next_after_name values.0 c.theme d.theme) _ past values.2 in
    let narrative = bind_ok (next_after_name theme.0 c.narrative d.narrative) _ past theme.2 in
    let e1 = same_bytes c.name d.name (part_is at (length c.name) (bytes_eq c.name d.name) name.0 name.1) in
    let e2 = kinds_same c.kind d.kind (part_is name.0 (length (kind_text c.kind)) (same_kind c.kind d.kind) kind.0 kind.1) in
    let e3 = count_is c.count d.count (part_is kind.0 (length (count_text c.count)) (same_count c.count d.count) count.0 count.1) in
    let e4 = key_is c.key d.key (part_is count.0 (length (key_text c.key)) (same_key c.key d.key) key.0 key.1) in
    let e5 = same_bytes c.description d.description (part_is key.0 (length c.description) (bytes_eq c.description d.description) description.0 description.1) in
    let e6 = name_is c.values d.values (part_is description.0 (length (name_text c.values)) (option_eq bytes_eq c.values d.values) values.0 values.1) in
    let e7 = name_is c.theme d.theme (part_is values.0 (length (name_text c.theme)) (option_eq bytes_eq c.theme d.theme) theme.0 theme.1) in
    let e8 = name_is c.narrative d.narrative (part_is theme.0 (length (name_text c.narrative)) (option_eq bytes_eq c.narrative d.narrative) narrative.0 narrative.1) in
    λ i. record { name = e1 i; kind = e2 i; count = e3 i; key = e4 i; description = e5 i; values = e6 i; theme = e7 i; narrative = e8 i }

columns_are : (at : ℕ) (cs ds : List Col) (past : ℕ) → past_columns at cs ds ≡ Ok past → cs ≡ ds
unfolding past_columns
columns_are at [] [] past e = refl
columns_are at [] (d ∷ ds) past e = absurd cc
columns_are at (c ∷ cs) [] past e = absurd cc
columns_are at (c ∷ cs) (d ∷ ds) past e =
    let one = bind_ok (past_column at c d) (λ next. past_columns next cs ds) past e in
    let first = column_is at c d one.0 one.1 in
    let others = columns_are one.0 cs ds past one.2 in
    λ i. first i ∷ others i

head_is : (h r k : Head) → h.order ≡ r.order → read_as_given h r ≡ Ok k → (k ≡ h) × (h ≡ r)
unfolding read_as_given
head_is h r k order e =
    let description = bind_ok (next_after_text (number_bytes + length (mark_of h.order)) h.description r.description) _ k e in
    let narrative = bind_ok (next_after_name description.0 h.narrative r.narrative) _ k description.2 in
    let columns = bind_ok (past_columns narrative.0 h.columns r.columns) _ k narrative.2 in
    let e1 = same_bytes h.description r.description (part_is (number_bytes + length (mark_of h.order)) _ _ _ description.1) in
    let e2 = name_is h.narrative r.narrative (part_is description.0 _ _ _ narrative.1) in
    let e3 = columns_are narrative.0 h.columns r.columns columns.0 columns.1 in
    (sym (ok_is columns.2), λ i. record { order = order i; description = e1 i; narrative = e2 i; columns = e3 i })

-- ---- column after column

module _ (at : ℕ) (cs ds : List Column) (i : ℕ) where
  abbrev left : Result ℕ Place
  left = past_columns at (map col (drop i cs)) (map col (drop i ds))

  pub columns_go : (c d : Column) (next : ℕ) → slice_get cs i ≡ Some c → slice_get ds i ≡ Some d → past_column at (col c) (col d) ≡ Ok next → left ≡ past_columns next (map col (drop (i + 1) cs)) (map col (drop (i + 1) ds))
  unfolding past_columns
  columns_go c d next e f g = rw (next_column cs i c e, next_column ds i d f, g) refl

  pub columns_refused : (c d : Column) (p : Place) → slice_get cs i ≡ Some c → slice_get ds i ≡ Some d → past_column at (col c) (col d) ≡ Err p → left ≡ Err p
  unfolding past_columns
  columns_refused c d p e f g = rw (next_column cs i c e, next_column ds i d f, g) refl

  -- the same, of a column read by its index
  pub columns_go_at : (x d : Column) (next : ℕ) → i < length cs → slice_get ds i ≡ Some d → past_column at (col (get_or cs i x)) (col d) ≡ Ok next → left ≡ past_columns next (map col (drop (i + 1) cs)) (map col (drop (i + 1) ds))
  columns_go_at x d next lt f g = columns_go (get_or cs i x) d next (slice_get-get_or cs i x lt) f g

  pub columns_refused_at : (x d : Column) (p : Place) → i < length cs → slice_get ds i ≡ Some d → past_column at (col (get_or cs i x)) (col d) ≡ Err p → left ≡ Err p
  columns_refused_at x d p lt f g = columns_refused (get_or cs i x) d p (slice_get-get_or cs i x lt) f g

  more_by : (xs : List Column) → 0 < length xs → past_columns at (map col xs) [] ≡ Err (fault at codes.ItemSeparator)
  unfolding past_columns
  more_by [] h = absurd (omega arith)
  more_by (x ∷ xs) h = refl

  fewer_by : (xs : List Column) → 0 < length xs → past_columns at [] (map col xs) ≡ Err (fault at codes.ItemSeparator)
  unfolding past_columns
  fewer_by [] h = absurd (omega arith)
  fewer_by (x ∷ xs) h = refl

  pub columns_more : i < length cs → length ds ≤ i → left ≡ Err (fault at codes.ItemSeparator)
  columns_more lt h = rw (drop_all i ds h) (more_by (drop i cs) (omega (arith, length-drop i cs)))

  pub columns_fewer : length cs ≤ i → i < length ds → left ≡ Err (fault at codes.ItemSeparator)
  columns_fewer h lt = rw (drop_all i cs h) (fewer_by (drop i ds) (omega (arith, length-drop i ds)))

  pub columns_done : length cs ≤ i → length ds ≤ i → left ≡ Ok at
  unfolding past_columns
  columns_done h k = rw (drop_all i cs h, drop_all i ds k) refl

-- ---- a file that is read

ordered : (o : Order) (bytes rest : List ℕ) → drop 4 bytes ≡ mark_of o ++ rest → order_of bytes ≡ o
ordered Little bytes rest e = rw e refl
ordered Big bytes rest e = rw e refl

pub text_marked : (h : Head) → (rest : List ℕ) × (canonical_text h ≡ mark_of h.order ++ rest)
unfolding canonical_text
text_marked h = (_, refl)

order_is : (h r : Head) (past : ℕ) → header_of (canonical_header h) ≡ Ok (r, past) → h.order ≡ r.order
order_is h r past e =
    let marked = text_marked h in
    let d : drop 4 (canonical_header h) ≡ mark_of h.order ++ marked.0 = drop_at (number h.order w32 (length (canonical_text h))) (canonical_text h) 4 (four_long h.order (length (canonical_text h))) ∙ marked.1 in
    sym (ordered h.order (canonical_header h) marked.0 d) ∙ sym (header_takes (canonical_header h) r past e).order_is

-- what a header that was made is
pub record IsMade (given made : Head) : Type 0 where
  pub is : made ≡ given
  pub sound : IsSound given
  pub spelled : IsHeader given (canonical_header given)

pub made : (h k : Head) → new_of h ≡ Ok k → IsMade h k
unfolding new_of text_file
made h k e =
    let file = bind_ok (text_file h) _ k e in
    let given = guarded (ltb longest_text (length (canonical_text h))) (fault 0 (codes.LimitHeader (length (canonical_text h)))) (Ok (canonical_header h)) file.0 file.1 in
    let same : canonical_header h ≡ file.0 = ok_is given.1 in
    let read = bind_ok (header_of file.0) _ k file.2 in
    let back : header_of (canonical_header h) ≡ Ok read.0 = ap header_of same ∙ read.1 in
    let is = head_is h read.0.0 k (order_is h read.0.0 read.0.1 back) read.2 in
    let sound : IsSound h = subst IsSound (sym is.1) (header_sound (canonical_header h) read.0.0 read.0.1 back) in
    record { is = is.0; sound = sound; spelled = canonical_spelled h sound (ltb-false longest_text (length (canonical_text h)) given.0) }

-- ---- what is spelled is made

same_text : (w : List ℕ) → bytes_eq w w ≡ true
same_text [] = refl
same_text (b ∷ w) = rw (eq-eqb b b refl, same_text w) refl

same_option : (name : Option (List ℕ)) → option_eq bytes_eq name name ≡ true
same_option None = refl
same_option (Some w) = same_text w

own_key : (k : Key) → same_key k k ≡ true
own_key Primary = refl
own_key Unique = refl
own_key Many = refl
own_key (Other b) = eq-eqb b b refl

column_end : ℕ → Col → ℕ
column_end at c =
    at + length c.name + 1 + length (kind_text c.kind) + 1 + length (count_text c.count) + 1 + length (key_text c.key) + 1 + length c.description + 1 + length (name_text c.values) + 1 + length (name_text c.theme) + 1 + length (name_text c.narrative) + 1 + 1

column_itself : (at : ℕ) (c : Col) → past_column at c c ≡ Ok (column_end at c)
unfolding past_column column_end
column_itself at c = rw (same_text c.name, same_text (kind_text c.kind), own_count c.count, own_key c.key, same_text c.description, same_option c.values, same_option c.theme, same_option c.narrative) refl

columns_itself : (at : ℕ) (cs : List Col) → (past : ℕ) × (past_columns at cs cs ≡ Ok past)
unfolding past_columns
columns_itself at [] = (at, refl)
columns_itself at (c ∷ cs) =
    let first = column_itself at c in
    let others = columns_itself (column_end at c) cs in
    (others.0, rw first others.1)

head_itself : (h : Head) → read_as_given h h ≡ Ok h
unfolding read_as_given
head_itself h =
    let columns = columns_itself (number_bytes + length (mark_of h.order) + length h.description + 1 + length (name_text h.narrative) + 1) h.columns in
    let all = columns.1 in
    rw (same_text h.description, same_option h.narrative, all) refl

pub spelled_made : (h : Head) → IsHeader h (canonical_header h) → new_of h ≡ Ok h
unfolding new_of text_file
spelled_made h s =
    let front = number h.order w32 (length (canonical_text h)) in
    let long : length (canonical_text h) ≡ length s.text =
    omega (arith, ap length s.spelled, length-append front (canonical_text h), length-append (number h.order w32 (length s.text)) s.text, four_long h.order (length (canonical_text h)), four_long h.order (length s.text)) in
    let few : ltb longest_text (length (canonical_text h)) ≡ false = le-ltb _ _ (let k = s.short in omega arith) in
    let back : header_of (canonical_header h) ≡ Ok (h, length (canonical_header h)) = ap header_of (sym (append-nil (canonical_header h))) ∙ header_again h (canonical_header h) [] s in
    rw (few, back) (head_itself h)

-- ---- the map of columns

nowhere_found : {X : Type 0} (o : Option ℕ) (found : Option X) → is_some o ≡ is_some found → o ≡ None → found ≡ None
nowhere_found o None e none = refl
nowhere_found o (Some x) e none = absurd (let k : false ≡ true = ap is_some (sym none) ∙ e in cc)

-- a column after these has a name that none of them has
fresh : (es : List (ColumnName × Column)) (cs : List Column) (i : ℕ) (x : Column) → i < length cs → AreNamed es → values_of es ≡ take i cs → IsDistinct same_name (names (map col cs))
    → position (λ (k : ColumnName). same_name (get_or cs i x).name.now k.name.now) (keys_of es) ≡ None
fresh es cs i x lt named done distinct =
    let c = get_or cs i x in
    let split : cs ≡ take i cs ++ c ∷ drop (i + 1) cs = sym (take-append-drop i cs) ∙ ap (λ (l : List Column). take i cs ++ l) (drop_more cs i x lt) in
    let apart : map col cs ≡ map col (take i cs) ++ col c ∷ map col (drop (i + 1) cs) = ap (λ (l : List Column). map col l) split ∙ map-append col (take i cs) (c ∷ drop (i + 1) cs) in
    position_named c.name.now es named ∙ ap (λ (l : List Column). place_of c.name.now (map col l)) done ∙ is_new (map col (take i cs)) (col c) (map col (drop (i + 1) cs)) (subst (λ (l : List Col). IsDistinct same_name (names l)) apart distinct)

-- the map with one column more
pub record Takes (cs : List Column) (i : ℕ) (es : List (ColumnName × Column)) : Type 0 where
  pub done : values_of es ≡ take (i + 1) cs
  pub each : AreNamed es

pub takes_one : {S : Type 0} (m : IndexMap ColumnName Column S) (cs : List Column) (i : ℕ) (x : Column) (es : List (ColumnName × Column)) → i < length cs → AreNamed m.entries → values m ≡ take i cs → IsDistinct same_name (names (map col cs))
    → es ≡ insert_entry key_eq m.entries (record { name = (get_or cs i x).name }) (get_or cs i x) → Takes cs i es
takes_one m cs i x es lt named done distinct is =
    let c = get_or cs i x in
    let key : ColumnName = record { name = c.name } in
    let absent : get key_eq m key ≡ None = nowhere_found _ _ (some_index (key_eq key) m.entries) (fresh m.entries cs i x lt named done distinct) in
    let entries : es ≡ m.entries ++ (key, c) ∷ [] = is ∙ insert_entry-new key_eq m key c absent in
    let next : i + 1 ≡ suc i = omega arith in
    record {
      done = ap values_of entries ∙ map_push (λ (e : ColumnName × Column). e.1) m.entries (key, c) ∙ ap (λ (l : List Column). l ++ c ∷ []) done ∙ rw next (sym (take-suc cs i x lt));
      each = rw entries (AreNamed-push m.entries (key, c) named refl);
    }
