-- How cells are printed.
use Rattle.std.specs.Prelude.{ℕ, suc, ◌%◌, ◌==◌, List, [], ◌∷◌, drop, Option, Some, None, codes, if◌then◌else◌}
use Rattle.std.specs.Int.{w64, to_be_bytes}
use Rattle.std.specs.Fmt.{decimal, signed_decimal}
use Rattle.vpf_value.specs.Kind.{Kind}
use Rattle.vpf_value.specs.Kind.TheVariants as kinds
use Rattle.vpf_value.specs.Triplet.{Triplet}
use Rattle.vpf_value.specs.declared.coords.WordWidth.{WordWidth}
use Rattle.vpf_value.specs.declared.coords.WordWidth.TheVariants.{Four, Eight}
use Rattle.vpf_value.specs.Values.{Value, TextOf, Word4Of, Word8Of, NumberOf, DateOf, Nothing, TripletOf, WordsOf}
use Rattle.vpf_findings.specs.Text.Texts.{◌&◌}
use Rattle.vpf_findings.specs.Text.Bytes.{hex_bytes, quoted}

-- a part of a triplet id
abbrev pub part_text : Option ℕ → List ℕ
part_text None = codes "-"
part_text (Some n) = decimal n

abbrev pub triplet_text : Triplet → List ℕ
triplet_text t = codes "(" & part_text t.id & codes "," & part_text t.tile & codes "," & part_text t.ext & codes ")"

-- the digits of a word's bytes, the most significant first
abbrev pub word_text : WordWidth → ℕ → List ℕ
word_text Four n = hex_bytes (drop 4 (to_be_bytes w64 n))
word_text Eight n = hex_bytes (to_be_bytes w64 n)

-- the word of a float
abbrev pub float_text : WordWidth → ℕ → List ℕ
float_text width n = codes "w" & word_text width n

-- how many words the tuples of a kind of coordinates have
abbrev pub tuple_len_of : Kind → ℕ
tuple_len_of kinds.Z = 3
tuple_len_of kinds.Y = 3
tuple_len_of kind = 2

-- what stands before word `i` of coordinates: nothing before the first, and a semicolon where a tuple begins
abbrev pub separator : ℕ → ℕ → List ℕ
separator len i = if i == 0 then [] else if i % len == 0 then codes "; " else codes " "

-- words from the one at `i` on
abbrev pub words_text : ℕ → WordWidth → ℕ → List ℕ → List ℕ
words_text len width i [] = []
words_text len width i (word ∷ words) = separator len i & word_text width word & words_text len width (suc i) words

abbrev pub coords_text : ℕ → WordWidth → List ℕ → List ℕ
coords_text len width words = codes "[" & words_text len width 0 words & codes "]"

-- a cell of a column of this kind
abbrev pub cell_text : Kind → Value → List ℕ
cell_text kind (TextOf text) = quoted text
cell_text kind (Word4Of n) = float_text Four n
cell_text kind (Word8Of n) = float_text Eight n
cell_text kind (NumberOf n) = signed_decimal n
cell_text kind (DateOf text) = quoted text
cell_text kind Nothing = codes "-"
cell_text kind (TripletOf t) = triplet_text t
cell_text kind (WordsOf width words) = coords_text (tuple_len_of kind) width words
