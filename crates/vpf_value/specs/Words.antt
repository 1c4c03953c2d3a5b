-- Words of coordinates: their widths and lists of them.
use Rattle.std.specs.Prelude.{ℕ, zero, suc, ◌^◌, List, [], ◌∷◌, ◌++◌, drop}
use Rattle.std.specs.Int.{Width, w32, w64}
use Rattle.vpf_base.specs.declared.orders.Order.{Order}
use Rattle.vpf_base.specs.Numbers.{number, number_of}
use Rattle.vpf_value.specs.declared.coords.WordWidth.{WordWidth}
use Rattle.vpf_value.specs.declared.coords.WordWidth.TheVariants.{Four, Eight}
use Rattle.vpf_value.specs.declared.coords.Tuple.{Tuple}
use Rattle.vpf_value.specs.declared.coords.Tuple.TheVariants.{Pair, Triple}

-- how many bytes a word takes
abbrev pub word_bytes : WordWidth → ℕ
word_bytes Four = 4
word_bytes Eight = 8

-- a word is an unsigned number of this width
abbrev pub number_width : WordWidth → Width
number_width Four = w32
number_width Eight = w64

-- words are below this number
abbrev pub word_limit : WordWidth → ℕ
word_limit Four = 2 ^ 32
word_limit Eight = 2 ^ 64

-- how many words a tuple has
abbrev pub tuple_len : Tuple → ℕ
tuple_len Pair = 2
tuple_len Triple = 3

-- the first words that the bytes spell, so many
unfoldable pub words_of : Order → WordWidth → ℕ → List ℕ → List ℕ
words_of o w zero bytes = []
words_of o w (suc n) bytes = number_of o (number_width w) bytes ∷ words_of o w n (drop (word_bytes w) bytes)

-- the spelling of words: their numbers, one after another
unfoldable pub spelled_words : Order → WordWidth → List ℕ → List ℕ
spelled_words o w [] = []
spelled_words o w (n ∷ ns) = number o (number_width w) n ++ spelled_words o w ns
