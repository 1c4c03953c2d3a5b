-- How headers are spelled (MIL-STD-2407, 5.4, table header), apart from reading.
use Rattle.std.specs.Prelude.{◌≡◌, ℕ, ◌<◌, ◌≤◌, ◌⊎◌, true, false, List, [], ◌∷◌, ◌++◌, length, Some, None, replicate}
use Rattle.std.specs.Int.{w32}
use Rattle.std.specs.List.{list_any, list_all}
use Rattle.std.specs.Str.Parse.{IsNumeral, digits_value}
use Rattle.vpf_base.specs.Limits.{most_values, longest_name, longest_text, most_columns}
use Rattle.vpf_base.specs.declared.orders.Order.{Order}
use Rattle.vpf_base.specs.declared.orders.Order.TheVariants.{Little}
use Rattle.vpf_triplet.specs.declared.kinds.Count.{Count}
use Rattle.vpf_triplet.specs.declared.kinds.Count.TheVariants.{Fixed, Star}
use Rattle.vpf_triplet.specs.Kinds.{kind_text, allows}
use Rattle.vpf_base.specs.Numbers.{number, order_text}
use Rattle.vpf_head.specs.declared.items.Form.{Form}
use Rattle.vpf_head.specs.declared.items.Form.TheVariants.{Heading, Name, Field, Last}
use Rattle.vpf_head.specs.Bytes.{semicolon, comma, colon, equals, space, star}
use Rattle.vpf_head.specs.Head.{Head, Col, place_of, holds_data}
use Rattle.vpf_head.specs.Fields.{letter_key, present}
use Rattle.vpf_head.specs.Forms.{is_stop, holds_control}
use Rattle.vpf_head.specs.Texts.{has_mark, is_blank}

-- an item: no byte of it ends it
abbrev pub IsOpen : Form → List ℕ → Type 0
IsOpen form item = list_any (is_stop form) item ≡ false

-- an item that is a text: without control bytes
pub record IsText (form : Form) (item : List ℕ) : Type 0 where
  pub open_ended : IsOpen form item
  pub plain : holds_control item ≡ false

-- an item that is a name: a text that isn't too long
pub record IsName (form : Form) (item : List ℕ) : Type 0 where
  pub text : IsText form item
  pub short : length item ≤ longest_name

-- a count without spaces: `*`, or digits, which may begin with zeros
abbrev pub IsBareCount : Count → List ℕ → Type 0
IsBareCount Star item = item ≡ star ∷ []
IsBareCount (Fixed n) item = IsNumeral 10 item × (digits_value 10 item ≡ n) × (1 ≤ n) × (n ≤ most_values)

-- a count, which spaces may precede
pub record IsCount (count : Count) (item : List ℕ) : Type 0 where
  pub spaces : ℕ
  pub bare : List ℕ
  pub bare_is : IsBareCount count bare
  pub spelled : item ≡ replicate spaces space ++ bare

-- how a column ends after its thematic index: with `:`, with a comma, a narrative and `:`, or with a comma, a narrative and
-- `,:`. Of the second form is `,:`, whose narrative is empty.
pub data Ending : Type 0 where
  bare : Ending
  narrated : List ℕ → Ending
  narrated_comma : List ℕ → Ending

-- the item of the narrative, empty where there is none
abbrev pub narrative_item : Ending → List ℕ
narrative_item bare = []
narrative_item (narrated item) = item
narrative_item (narrated_comma item) = item

-- the text of an ending
abbrev pub ending_text : Ending → List ℕ
ending_text bare = colon ∷ []
ending_text (narrated item) = comma ∷ (item ++ colon ∷ [])
ending_text (narrated_comma item) = comma ∷ (item ++ comma ∷ colon ∷ [])

-- The bytes define the column, which follows those before it. Where a value has several spellings, its item is a part of its
-- own.
pub record IsColumn (before : List Col) (c : Col) (bytes : List ℕ) : Type 0 where
  pub count : List ℕ
  pub letter : ℕ
  pub values : List ℕ
  pub theme : List ℕ
  pub ending : Ending
  pub name_name : IsName Name c.name
  pub name_some : 0 < length c.name
  pub name_new : place_of c.name before ≡ None
  pub count_is : IsCount c.count count
  pub count_allowed : allows c.kind c.count ≡ true
  pub key_is : letter_key letter ≡ Some c.key
  pub description_text : IsText Field c.description
  pub values_name : IsName Field values
  pub values_is : present values ≡ c.values
  pub theme_name : IsName Last theme
  pub theme_is : present theme ≡ c.theme
  pub narrative_name : IsName Last (narrative_item ending)
  pub narrative_is : present (narrative_item ending) ≡ c.narrative
  pub spelled : bytes ≡ c.name ++ equals ∷ (kind_text c.kind ++ comma ∷ (count ++ comma ∷ (letter ∷ comma ∷ (c.description ++ comma ∷ (values ++ comma ∷ (theme ++ ending_text ending))))))

-- the bytes begin with the definition of the column, and the others are spelled by what follows it
pub record BeginsWith (before : List Col) (c : Col) (others : List ℕ → Type 0) (bytes : List ℕ) : Type 0 where
  pub first : List ℕ
  pub rest : List ℕ
  pub parts : bytes ≡ first ++ rest
  pub first_is : IsColumn before c first
  pub rest_is : others rest

-- the bytes define these columns one after another, which follow those before them
abbrev pub IsColumns : List Col → List Col → List ℕ → Type 0
IsColumns before [] bytes = bytes ≡ []
IsColumns before (c ∷ columns) bytes = BeginsWith before c (IsColumns (before ++ c ∷ []) columns) bytes

-- the mark of an order
abbrev pub mark_of : Order → List ℕ
mark_of order = order_text order ++ semicolon ∷ []

-- the mark of the order stands before the items, or is missing: the order is then L, and the items don't begin like a mark
abbrev pub IsMark : Order → List ℕ → List ℕ → Type 0
IsMark order mark items = (mark ≡ mark_of order) ⊎ ((mark ≡ []) × (order ≡ Little) × (has_mark items ≡ false))

-- the bytes are a header text of these parts
pub record IsHeaderText (h : Head) (bytes : List ℕ) : Type 0 where
  pub mark : List ℕ
  pub narrative : List ℕ
  pub columns : List ℕ
  pub blanks : List ℕ
  pub description_text : IsText Heading h.description
  pub narrative_name : IsName Heading narrative
  pub narrative_is : present narrative ≡ h.narrative
  pub columns_are : IsColumns [] h.columns columns
  pub columns_few : length h.columns ≤ most_columns
  pub columns_filled : list_any holds_data h.columns ≡ true
  pub blanks_are : list_all is_blank blanks ≡ true
  pub items : List ℕ
  pub items_are : items ≡ h.description ++ semicolon ∷ (narrative ++ semicolon ∷ (columns ++ semicolon ∷ blanks))
  pub mark_is : IsMark h.order mark items
  pub spelled : bytes ≡ mark ++ items

-- the bytes spell the header: the length number of its text in its order, and the text
pub record IsHeader (h : Head) (bytes : List ℕ) : Type 0 where
  pub text : List ℕ
  pub text_is : IsHeaderText h text
  pub short : length text ≤ longest_text
  pub spelled : bytes ≡ number h.order w32 (length text) ++ text
