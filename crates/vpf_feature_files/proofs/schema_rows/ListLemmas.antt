-- Items that are listed one after another.
use Rattle.std.proofs.Common.{◌≡◌, ◌∙◌, ℕ, ◌++◌, Bool, true, false, Option, Some, None, List, [], ◌∷◌, map, filter, append_assoc, append-nil, ap, sym, refl, arith}
use Rattle.std.specs.Prelude.{is_some, is_none, position}
use Rattle.std.specs.List.{list_any}
use Rattle.std.proofs.lemmas.Grind.{common_steps}
use Rattle.std.proofs.lemmas.List.{map-append}
use Rattle.vpf_feature_files.specs.SchemaRows.Items.{is_feature_table, same_item}
use Rattle.vpf_feature_files.specs.SchemaRows.Joins.{once_after}
use Rattle.vpf_feature_files.specs.Inner.SchemaRows.Listing.{item_text, listed_for, noted}
use Rattle.vpf_feature_files.specs.declared.schema_rows.items.ItemName.{ItemName}

-- what is left to list, item by item
left_of : (before : List (List ℕ)) (item : List ℕ) (items : List (List ℕ))
    → once_after before (filter is_feature_table (item ∷ items)) ≡ listed_for before item ++ once_after (noted before item) (filter is_feature_table items)
left_of before item items = by_kind (is_feature_table item) refl where
  by_kind : (kind : Bool) → is_feature_table item ≡ kind
      → once_after before (filter is_feature_table (item ∷ items)) ≡ listed_for before item ++ once_after (noted before item) (filter is_feature_table items)
  by_kind true e = rw e refl
  by_kind false e = rw e refl

-- one passes where the first that passes has a place
has_place : {X : Type 0} (test : X → Bool) (xs : List X) → list_any test xs ≡ is_some (position test xs)
has_place test [] = refl
has_place {X} test (x ∷ xs) = grind (arith, common_steps, has_place test xs)

-- where an item stands first among those of the code
abbrev place_in : List ItemName → ItemName → Option ℕ
place_in seen item = position (λ (k : ItemName). same_item (item_text item) (item_text k)) seen

is_known : (first : Option ℕ) → is_none first ≡ false → is_some first ≡ true
is_known (Some n) e = refl
is_known None e = absurd cc

is_new : (first : Option ℕ) → is_none first ≡ true → is_some first ≡ false
is_new None e = refl
is_new (Some n) e = absurd cc

-- the bytes of items tell whether one names the same
any_text : (item : List ℕ) (seen : List ItemName) → list_any (same_item item) (map item_text seen) ≡ list_any (λ (k : ItemName). same_item item (item_text k)) seen
any_text item [] = refl
any_text item (k ∷ seen) = rw (any_text item seen) refl

-- nothing more is listed for an item that names no table of features,
pub other_item : (seen items : List ItemName) (item : ItemName) → is_feature_table (item_text item) ≡ false
    → map item_text items ≡ map item_text items ++ listed_for (map item_text seen) (item_text item)
other_item seen items item e = rw (e, append-nil) refl

-- nor for one that names the same as an item before,
pub known_item : (seen items : List ItemName) (item : ItemName) (first : Option ℕ) → is_feature_table (item_text item) ≡ true → first ≡ place_in seen item → is_none first ≡ false
    → map item_text items ≡ map item_text items ++ listed_for (map item_text seen) (item_text item)
known_item seen items item first e at known =
    let any : list_any (same_item (item_text item)) (map item_text seen) ≡ true = any_text (item_text item) seen ∙ has_place _ seen ∙ ap is_some (sym at) ∙ is_known first known in
    rw (e, any, append-nil) refl

-- and where none does, the item is
pub first_item : (seen items more : List ItemName) (item : ItemName) (first : Option ℕ) → is_feature_table (item_text item) ≡ true → first ≡ place_in seen item → is_none first ≡ true
    → more ≡ items ++ item ∷ [] → map item_text more ≡ map item_text items ++ listed_for (map item_text seen) (item_text item)
first_item seen items more item first e at new pushed =
    let any : list_any (same_item (item_text item)) (map item_text seen) ≡ false = any_text (item_text item) seen ∙ has_place _ seen ∙ ap is_some (sym at) ∙ is_new first new in
    rw (e, any, pushed, map-append item_text items (item ∷ [])) refl

-- one item is seen to: what is listed, and what is left to list
pub item_left : (before after : List (List ℕ)) (item : List ℕ) (items : List (List ℕ)) (listed more whole : List (List ℕ)) → after ≡ noted before item → more ≡ listed ++ listed_for before item
    → listed ++ once_after before (filter is_feature_table (item ∷ items)) ≡ whole → more ++ once_after after (filter is_feature_table items) ≡ whole
item_left before after item items listed more whole seen pushed done =
    rw (seen, pushed, append_assoc) (sym (ap (λ (v : List (List ℕ)). listed ++ v) (left_of before item items)) ∙ done)
