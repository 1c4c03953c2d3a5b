-- Making a header of parts: its canonical text has to be read as these parts (MIL-STD-2407, 5.4, table header).
use Rattle.std.specs.Prelude.{ℕ, ◌+◌, Bool, true, false, List, [], ◌∷◌, length, Option, Result, Ok, Err, bytes_eq, nat_lt, ◌==◌, if◌then◌else◌}
use Rattle.std.specs.Option.{option_eq}
use Rattle.vpf_base.specs.Limits.{longest_text}
use Rattle.vpf_base.specs.Results.{◌>>=◌}
use Rattle.vpf_triplet.specs.declared.kinds.Count.{Count}
use Rattle.vpf_triplet.specs.declared.kinds.Count.TheVariants.{Fixed, Star}
use Rattle.vpf_triplet.specs.declared.places.Place.{Place}
use Rattle.vpf_triplet.specs.declared.places.Code.TheVariants as codes
use Rattle.vpf_triplet.specs.Kinds.{kind_text, count_text, same_kind}
use Rattle.vpf_triplet.specs.Places.{fault}
use Rattle.vpf_head.specs.declared.columns.Key.{Key}
use Rattle.vpf_head.specs.declared.columns.Key.TheVariants.{Primary, Unique, Many, Other}
use Rattle.vpf_head.specs.Canonical.{name_text, canonical_text, canonical_header}
use Rattle.vpf_head.specs.Fields.{key_text}
use Rattle.vpf_head.specs.Head.{Head, Col}
use Rattle.vpf_head.specs.Reading.{header_of}
use Rattle.vpf_head.specs.Spelling.{mark_of}
use Rattle.vpf_head.specs.Texts.{number_bytes}

-- the two are one count
abbrev pub same_count : Count → Count → Bool
same_count (Fixed m) (Fixed n) = m == n
same_count Star Star = true
same_count c d = false

-- The two are one key. Another letter is none of the keys that have a name, though it may be their letter.
abbrev pub same_key : Key → Key → Bool
same_key Primary Primary = true
same_key Unique Unique = true
same_key Many Many = true
same_key (Other a) (Other b) = a == b
same_key k l = false

-- The offset of the next part, behind an item of so many bytes and the byte that ends it, where the part was read as it was
-- given. Else the part is refused where its item begins.
abbrev pub next_part : ℕ → ℕ → Bool → Result ℕ Place
next_part at size same = if same then Ok (at + size + 1) else Err (fault at codes.ItemSeparator)

-- the next part after a text
abbrev pub next_after_text : ℕ → List ℕ → List ℕ → Result ℕ Place
next_after_text at given read = next_part at (length given) (bytes_eq given read)

-- the next part after a name that may be absent
abbrev pub next_after_name : ℕ → Option (List ℕ) → Option (List ℕ) → Result ℕ Place
next_after_name at given read = next_part at (length (name_text given)) (option_eq bytes_eq given read)

-- the offset past a column, where each of its parts was read as it was given
unfoldable pub past_column : ℕ → Col → Col → Result ℕ Place
past_column name given read = do
  kind ← next_after_text name given.name read.name
  count ← next_part kind (length (kind_text given.kind)) (same_kind given.kind read.kind)
  key ← next_part count (length (count_text given.count)) (same_count given.count read.count)
  description ← next_part key (length (key_text given.key)) (same_key given.key read.key)
  values ← next_after_text description given.description read.description
  theme ← next_after_name values given.values read.values
  narrative ← next_after_name theme given.theme read.theme
  colon ← next_after_name narrative given.narrative read.narrative
  Ok (colon + 1)

-- the offset past the columns: where one of the lists ends before the other, its next column is refused
unfoldable pub past_columns : ℕ → List Col → List Col → Result ℕ Place
past_columns at [] [] = Ok at
past_columns at (c ∷ given) (d ∷ read) = past_column at c d >>= λ next. past_columns next given read
past_columns at given read = Err (fault at codes.ItemSeparator)

-- the header given, where each of its parts was read as it was given
unfoldable pub read_as_given : Head → Head → Result Head Place
read_as_given given read = do
  narrative ← next_after_text (number_bytes + length (mark_of given.order)) given.description read.description
  columns ← next_after_name narrative given.narrative read.narrative
  end ← past_columns columns given.columns read.columns
  Ok given

-- the file of the canonical text, which may not be too long
unfoldable pub text_file : Head → Result (List ℕ) Place
text_file given =
    if nat_lt longest_text (length (canonical_text given)) then Err (fault 0 (codes.LimitHeader (length (canonical_text given))))
    else Ok (canonical_header given)

-- The header of these parts. It's refused where its file would be, and else at the first part that is read from there as
-- another.
unfoldable pub new_of : Head → Result Head Place
new_of given = do
  file ← text_file given
  read ← header_of file
  read_as_given given read.0
