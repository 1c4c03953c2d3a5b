-- The canonical text of a header (MIL-STD-2407, 5.4, table header): the one of its spellings that is written.
use Rattle.std.specs.Prelude.{ℕ, List, [], ◌∷◌, ◌++◌, length, Option, Some, None}
use Rattle.std.specs.Int.{w32}
use Rattle.vpf_triplet.specs.Kinds.{kind_text, count_text}
use Rattle.vpf_base.specs.Numbers.{number}
use Rattle.vpf_head.specs.Bytes.{semicolon, comma, colon, equals, hyphen}
use Rattle.vpf_head.specs.Fields.{key_text}
use Rattle.vpf_head.specs.Head.{Head, Col}
use Rattle.vpf_head.specs.Spelling.{mark_of}

-- a name that may be absent: then it's `-`
abbrev pub name_text : Option (List ℕ) → List ℕ
name_text None = hyphen ∷ []
name_text (Some name) = name

-- the definition of a column: its items in their order, and `:`
unfoldable pub column_text : Col → List ℕ
column_text c = c.name ++ equals ∷ (kind_text c.kind ++ comma ∷ (count_text c.count ++ comma ∷ (key_text c.key ++ comma ∷ (c.description ++ comma ∷ (name_text c.values ++ comma ∷ (name_text c.theme ++ comma ∷ (name_text c.narrative ++ comma ∷ colon ∷ [])))))))

-- the definitions of columns, one after another
unfoldable pub columns_text : List Col → List ℕ
columns_text [] = []
columns_text (c ∷ columns) = column_text c ++ columns_text columns

-- the mark of the order, the table's description and narrative, and its columns
unfoldable pub canonical_text : Head → List ℕ
canonical_text h = mark_of h.order ++ (h.description ++ semicolon ∷ (name_text h.narrative ++ semicolon ∷ (columns_text h.columns ++ semicolon ∷ [])))

-- the length number of the canonical text in the header's order, and the text
abbrev pub canonical_header : Head → List ℕ
canonical_header h = number h.order w32 (length (canonical_text h)) ++ canonical_text h
