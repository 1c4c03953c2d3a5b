-- The last letters of the names of files that features have.
use Rattle.std.proofs.Common.{[], ◌≡◌, ◌≢◌, ℕ, Bool, true, false, cond, List, ◌∷◌, ◌++◌, ◌-◌, length, take, drop, Some, None, refl, sym, ap, subst, ◌∙◌, arith, append_assoc, length-append, drop_at}
use Rattle.std.specs.Prelude.{codes, filter, flat_map, nat_eq, ◌||◌}
use Rattle.std.specs.Cmp.Lexicographic.{bytes_decides}
use Rattle.std.specs.List.{AllByRecursion, ends_with, list_any}
use Rattle.std.specs.Str.{bytes_eq}
use Rattle.std.proofs.lemmas.List.{append_cancel_left, take-append-drop}
use Rattle.std.proofs.lemmas.List.Elements.{filter_passes, recursion_from_All}
use Rattle.std.proofs.lemmas.Option.{same_Some}
use Rattle.vpf_base.proofs.Lists.{all_joined}
use Rattle.vpf_source.specs.Names.Indexes.{index_name, without_last}
use Rattle.vpf_source.specs.Names.Items.{is_plain_name, small, trimmed}
use Rattle.vpf_source.specs.Names.Naming.{slash}
use Rattle.vpf_library_files.specs.Loading.Loading.{within}
use Rattle.vpf_feature_files.specs.SchemaRows.Items.{is_feature_end, is_feature_table, last_bytes, name_in, own_file, same_item}
use Rattle.vpf_feature_files.specs.SchemaRows.Joins.{SchemaJoin, feature_items, new_item, once_after, tables_in}

-- ---- the last letter of a name

-- a name with this last letter
pub record EndsIn (letter : ℕ) (name : List ℕ) : Type 0 where
  pub front : List ℕ
  pub is : name ≡ front ++ letter ∷ []

one_end : (xs ys : List ℕ) (a b : ℕ) → xs ++ a ∷ [] ≡ ys ++ b ∷ [] → a ≡ b
one_end xs ys a b e =
    let long : length ys ≡ length xs = omega (arith, ap length e, length-append xs (a ∷ []), length-append ys (b ∷ [])) in
    let same : a ∷ [] ≡ b ∷ [] =
    sym (drop_at xs (a ∷ []) (length xs) refl) ∙ ap (drop (length xs)) e ∙ drop_at ys (b ∷ []) (length xs) long in
    cc same

-- names with other last letters are other names
pub other_ends : (a b : ℕ) (x y : List ℕ) → EndsIn a x → EndsIn b y → (a ≡ b → ⊥) → x ≢ y
other_ends a b x y p q ne e = ne (one_end p.front q.front a b (sym p.is ∙ e ∙ q.is))

-- the letter is also that of a longer name
letter_behind : (front end : List ℕ) (letter : ℕ) → EndsIn letter end → EndsIn letter (front ++ end)
letter_behind front end letter e = record {
  front = front ++ e.front;
  is = ap (λ (x : List ℕ). front ++ x) e.is ∙ sym (append_assoc front e.front (letter ∷ []));
}

pub ends_within : (folder name : List ℕ) (letter : ℕ) → EndsIn letter name → EndsIn letter (within folder name)
ends_within folder name letter e = by (ends_with nat_eq folder (slash ∷ []))
  where
    by : (b : Bool) → EndsIn letter (cond b (folder ++ name) (folder ++ slash ∷ name))
    by true = letter_behind folder name letter e
    by false = letter_behind folder (slash ∷ name) letter (letter_behind (slash ∷ []) name letter e)

-- files of one name in a folder have one name there
pub one_within : (folder a b : List ℕ) → within folder a ≡ within folder b → a ≡ b
one_within folder a b e = by (ends_with nat_eq folder (slash ∷ [])) e
  where
    by : (c : Bool) → cond c (folder ++ a) (folder ++ slash ∷ a) ≡ cond c (folder ++ b) (folder ++ slash ∷ b) → a ≡ b
    by true same = append_cancel_left folder a b same
    by false same = append_cancel_left (slash ∷ []) a b (append_cancel_left folder (slash ∷ a) (slash ∷ b) same)

-- a variable-length index has `x`
pub index_ends : (name : List ℕ) → EndsIn 120 (index_name name)
index_ends name = record { front = without_last name; is = refl }

-- a schema table has `s`
pub schema_ends : EndsIn 115 (codes "fcs")
schema_ends = record { front = codes "fc"; is = refl }

-- a table of edges has `g`
pub edges_end : EndsIn 103 (codes "edg")
edges_end = record { front = codes "ed"; is = refl }

-- ---- that of a feature table, which is `t`

feature_end : (end : List ℕ) → is_feature_end end ≡ true → EndsIn 116 end
feature_end end e = by (bytes_eq end (codes ".pft")) (bytes_eq end (codes ".lft")) (bytes_eq end (codes ".aft")) refl refl refl e
  where
    by : (p l a : Bool) → bytes_eq end (codes ".pft") ≡ p → bytes_eq end (codes ".lft") ≡ l → bytes_eq end (codes ".aft") ≡ a
        → (p || (l || a)) ≡ true
        → EndsIn 116 end
    by true l a points lines areas some = record { front = codes ".pf"; is = (bytes_decides end (codes ".pft")).0 points }
    by false true a points lines areas some = record { front = codes ".lf"; is = (bytes_decides end (codes ".lft")).0 lines }
    by false false true points lines areas some = record { front = codes ".af"; is = (bytes_decides end (codes ".aft")).0 areas }
    by false false false points lines areas some = absurd (cc some)

-- the file that an item names has the item's name
named_so : (plain : Bool) (name file : List ℕ) → cond plain (Some (small name)) None ≡ Some file → small name ≡ file
named_so true name file e = same_Some (small name) file e
named_so false name file e = absurd (cc e)

pub feature_ends : (item file : List ℕ) → is_feature_table item ≡ true → own_file item ≡ Some file → EndsIn 116 file
feature_ends item file feature named =
    let name = name_in item in
    let same : name ≡ file = named_so (is_plain_name (trimmed item)) (trimmed item) file named in
    let end = letter_behind (take (length name - 4) name) (last_bytes 4 name) 116 (feature_end (last_bytes 4 name) feature) in
    subst (EndsIn 116) (take-append-drop (length name - 4) name ∙ same) end

-- ---- the items of feature tables

-- an item that names a table of features
abbrev pub NamesFeatures : List ℕ → Type 0
NamesFeatures item = is_feature_table item ≡ true

new_names : (before : List (List ℕ)) (item : List ℕ) → NamesFeatures item → AllByRecursion NamesFeatures (new_item before item)
new_names before item names = by (list_any (same_item item) before)
  where
    by : (known : Bool) → AllByRecursion NamesFeatures (cond known [] (item ∷ []))
    by true = tt
    by false = (names, tt)

once_names : (before items : List (List ℕ)) → AllByRecursion NamesFeatures items → AllByRecursion NamesFeatures (once_after before items)
once_names before [] all = tt
once_names before (item ∷ items) all =
    all_joined NamesFeatures (new_item before item) (once_after (before ++ item ∷ []) items) (new_names before item all.0)
    (once_names (before ++ item ∷ []) items all.1)

pub items_name : (rows : List SchemaJoin) → AllByRecursion NamesFeatures (feature_items rows)
items_name rows =
    let items = flat_map tables_in rows in
    once_names [] (filter is_feature_table items) (recursion_from_All NamesFeatures (filter is_feature_table items) (filter_passes is_feature_table items))
