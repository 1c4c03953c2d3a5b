-- The first fault of bytes that begin with no header, apart from reading: the parts before it are spelled, and the next part
-- is refused there by the first of its rules that applies (MIL-STD-2407, 5.4, table header).
use Rattle.std.specs.Prelude.{◌≡◌, ℕ, ◌+◌, ◌<◌, ◌≤◌, ◌≢◌, Bool, true, false, List, [], ◌∷◌, ◌++◌, length, take, drop, Some, None, is_some}
use Rattle.std.specs.Int.{w32}
use Rattle.std.specs.List.{list_any, list_all}
use Rattle.vpf_base.specs.Limits.{longest_name, longest_text, most_columns}
use Rattle.vpf_triplet.specs.declared.kinds.Kind.{Kind}
use Rattle.vpf_triplet.specs.declared.kinds.Count.{Count}
use Rattle.vpf_triplet.specs.declared.places.Place.{Place}
use Rattle.vpf_triplet.specs.declared.places.Code.{Code}
use Rattle.vpf_triplet.specs.declared.places.Code.TheVariants as codes
use Rattle.vpf_triplet.specs.Kinds.{kind_text, allows}
use Rattle.vpf_base.specs.Numbers.{number_of}
use Rattle.vpf_triplet.specs.Places.{fault}
use Rattle.vpf_head.specs.declared.columns.Key.{Key}
use Rattle.vpf_head.specs.declared.items.Form.{Form}
use Rattle.vpf_head.specs.declared.items.Form.TheVariants.{Heading, Name, Field, Last}
use Rattle.vpf_head.specs.Bytes.{semicolon, comma, colon, equals}
use Rattle.vpf_head.specs.Fields.{letter_key}
use Rattle.vpf_head.specs.Forms.{is_stop, is_separator, holds_control}
use Rattle.vpf_head.specs.Head.{Col, place_of, holds_data}
use Rattle.vpf_head.specs.Reading.{order_of, after_mark}
use Rattle.vpf_head.specs.Spelling.{IsOpen, IsText, IsName, IsCount, IsColumns}
use Rattle.vpf_head.specs.Texts.{number_bytes, is_blank}

-- the text's bytes from one offset to another are these
pub record Lies (text : List ℕ) (from to : ℕ) (bytes : List ℕ) : Type 0 where
  pub split : drop from text ≡ bytes ++ drop to text
  pub size : to ≡ from + length bytes

-- the bytes begin with an item and the byte that ends it
pub record BeginsItem (form : Form) (item : List ℕ) (stop : ℕ) (bytes : List ℕ) : Type 0 where
  pub rest : List ℕ
  pub open_ended : IsOpen form item
  pub stops : is_stop form stop ≡ true
  pub parts : bytes ≡ item ++ stop ∷ rest

-- what an item of this form is refused for, whatever it is to say: each rule where those above it don't apply
pub data ItemFault (form : Form) (named : Bool) (bytes : List ℕ) : Code → Type 0 where
  -- no byte ends it
  endless : IsOpen form bytes → ItemFault form named bytes codes.ItemEnd
  -- another byte ends it than may
  misended : (item : List ℕ) (stop : ℕ) → BeginsItem form item stop bytes → is_separator form stop ≡ false → ItemFault form named bytes codes.ItemSeparator
  -- a name is too long
  long : (item : List ℕ) (stop : ℕ) → BeginsItem form item stop bytes → is_separator form stop ≡ true → named ≡ true → longest_name < length item → ItemFault form named bytes (codes.LimitName (length item))
  -- it holds a control byte
  controlled : (item : List ℕ) (stop : ℕ) → BeginsItem form item stop bytes → is_separator form stop ≡ true → (named ≡ true → length item ≤ longest_name) → holds_control item ≡ true → ItemFault form named bytes codes.ItemByte

-- the next item of a column definition, with the kind that a count has to fit
pub data Next : Type 0 where
  name : Next
  kind : Next
  count : Kind → Next
  key : Next
  description : Next
  values : Next
  theme : Next
  narrative : Next
  colon_after : Next

-- the bytes spell the items of a column, which follows these columns, before the next one
pub data IsBeginning (before : List Col) : Next → List ℕ → Type 0 where
  begun : IsBeginning before name []
  named : (w : List ℕ) → IsName Name w → 0 < length w → place_of w before ≡ None → IsBeginning before kind (w ++ equals ∷ [])
  kinded : (bytes : List ℕ) (k : Kind) → IsBeginning before kind bytes → IsBeginning before (count k) (bytes ++ (kind_text k ++ comma ∷ []))
  counted : (bytes : List ℕ) (k : Kind) (c : Count) (item : List ℕ) → IsBeginning before (count k) bytes → IsCount c item → allows k c ≡ true → IsBeginning before key (bytes ++ (item ++ comma ∷ []))
  keyed : (bytes : List ℕ) (k : Key) (letter : ℕ) → IsBeginning before key bytes → letter_key letter ≡ Some k → IsBeginning before description (bytes ++ (letter ∷ comma ∷ []))
  described : (bytes item : List ℕ) → IsBeginning before description bytes → IsText Field item → IsBeginning before values (bytes ++ (item ++ comma ∷ []))
  valued : (bytes item : List ℕ) → IsBeginning before values bytes → IsName Field item → IsBeginning before theme (bytes ++ (item ++ comma ∷ []))
  themed : (bytes item : List ℕ) → IsBeginning before theme bytes → IsName Last item → IsBeginning before narrative (bytes ++ (item ++ comma ∷ []))
  narrated : (bytes item : List ℕ) → IsBeginning before narrative bytes → IsName Last item → IsBeginning before colon_after (bytes ++ (item ++ comma ∷ []))

-- the bytes begin with a text that says nothing here
pub record SaysNothing (nothing : List ℕ → Type 0) (bytes : List ℕ) : Type 0 where
  pub item : List ℕ
  pub rest : List ℕ
  pub text : IsText Field item
  pub parts : bytes ≡ item ++ comma ∷ rest
  pub says : nothing item

-- no letter of a kind
abbrev pub IsNoKind : List ℕ → Type 0
IsNoKind item = (k : Kind) → item ≢ kind_text k

-- no count that the kind allows
abbrev pub IsNoCount : Kind → List ℕ → Type 0
IsNoCount k item = (c : Count) → IsCount c item → allows k c ≡ false

-- no letter of a key
abbrev pub IsNoKey : List ℕ → Type 0
IsNoKey item = (letter : ℕ) (k : Key) → item ≡ letter ∷ [] → letter_key letter ≢ Some k

-- the bytes are refused where the next item of a column should begin, after these columns
pub data Refuses (before : List Col) (bytes : List ℕ) : Next → Code → Type 0 where
  bad_name : (code : Code) → ItemFault Name true bytes code → Refuses before bytes name code
  no_name : (rest : List ℕ) → bytes ≡ equals ∷ rest → Refuses before bytes name codes.NameEmpty
  same_name : (w rest : List ℕ) → IsName Name w → 0 < length w → bytes ≡ w ++ equals ∷ rest → is_some (place_of w before) ≡ true → Refuses before bytes name codes.NameRepeat
  bad_kind : (code : Code) → ItemFault Field false bytes code → Refuses before bytes kind code
  no_kind : SaysNothing IsNoKind bytes → Refuses before bytes kind codes.Kind
  bad_count : (k : Kind) (code : Code) → ItemFault Field false bytes code → Refuses before bytes (count k) code
  no_count : (k : Kind) → SaysNothing (IsNoCount k) bytes → Refuses before bytes (count k) codes.Count
  bad_key : (code : Code) → ItemFault Field false bytes code → Refuses before bytes key code
  no_key : SaysNothing IsNoKey bytes → Refuses before bytes key codes.Key
  bad_description : (code : Code) → ItemFault Field false bytes code → Refuses before bytes description code
  bad_values : (code : Code) → ItemFault Field true bytes code → Refuses before bytes values code
  bad_theme : (code : Code) → ItemFault Last true bytes code → Refuses before bytes theme code
  bad_narrative : (code : Code) → ItemFault Last true bytes code → Refuses before bytes narrative code
  no_end : bytes ≡ [] → Refuses before bytes colon_after codes.ItemEnd
  no_colon : (b : ℕ) (rest : List ℕ) → bytes ≡ b ∷ rest → b ≢ colon → Refuses before bytes colon_after codes.ItemSeparator

-- the `;` that closes the columns doesn't stand at the front
abbrev pub IsFurther : List ℕ → Type 0
IsFurther bytes = (rest : List ℕ) → bytes ≢ semicolon ∷ rest

-- what follows these columns in the text, from this offset on, is refused at another
pub data NextFault (before : List Col) (text : List ℕ) (at : ℕ) : ℕ → Code → Type 0 where
  too_many : length before ≡ most_columns → IsFurther (drop at text) → NextFault before text at at (codes.LimitColumns (most_columns + 1))
  in_column : (next : Next) (bytes : List ℕ) (here : ℕ) (code : Code) → length before < most_columns → IsFurther (drop at text) → IsBeginning before next bytes → Lies text at here bytes → Refuses before (drop here text) next code → NextFault before text at here code
  no_data : (rest : List ℕ) → length before ≤ most_columns → drop at text ≡ semicolon ∷ rest → list_any holds_data before ≡ false → NextFault before text at at codes.NoData
  after_columns : (blanks : List ℕ) (b : ℕ) (rest : List ℕ) → length before ≤ most_columns → drop at text ≡ semicolon ∷ (blanks ++ b ∷ rest) → list_any holds_data before ≡ true → list_all is_blank blanks ≡ true → is_blank b ≡ false → NextFault before text at (at + 1 + length blanks) codes.AfterHeader

-- a header text is refused at this offset, after its mark or none
pub data TextFault (text : List ℕ) : ℕ → Code → Type 0 where
  in_description : (code : Code) → ItemFault Heading false (drop (after_mark text) text) code → TextFault text (after_mark text) code
  in_narrative : (w : List ℕ) (here : ℕ) (code : Code) → IsText Heading w → Lies text (after_mark text) here (w ++ semicolon ∷ []) → ItemFault Heading true (drop here text) code → TextFault text here code
  in_columns : (w n bytes : List ℕ) (before : List Col) (at here : ℕ) (code : Code) → IsText Heading w → IsName Heading n → IsColumns [] before bytes → Lies text (after_mark text) at ((w ++ semicolon ∷ []) ++ ((n ++ semicolon ∷ []) ++ bytes)) → NextFault before text at here code → TextFault text here code

-- the length number of a file
abbrev pub length_number : List ℕ → ℕ
length_number bytes = number_of (order_of bytes) w32 bytes

-- the first fault of the bytes
pub data FirstHeaderFault (bytes : List ℕ) : Place → Type 0 where
  number_cut : length bytes < number_bytes → FirstHeaderFault bytes (fault 0 codes.NumberCut)
  limit_header : number_bytes ≤ length bytes → longest_text < length_number bytes → FirstHeaderFault bytes (fault 0 (codes.LimitHeader (length_number bytes)))
  header_cut : number_bytes ≤ length bytes → length_number bytes ≤ longest_text → length bytes < number_bytes + length_number bytes → FirstHeaderFault bytes (fault number_bytes codes.HeaderCut)
  in_text : (at : ℕ) (code : Code) → length_number bytes ≤ longest_text → number_bytes + length_number bytes ≤ length bytes → TextFault (take (number_bytes + length_number bytes) bytes) at code → FirstHeaderFault bytes (fault at code)
