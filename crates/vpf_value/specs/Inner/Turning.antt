-- The bytes of cells in the other byte order.
use Rattle.std.specs.Prelude.{ℕ, zero, suc, ◌/◌, List, ◌++◌, length, take, drop, reverse}
use Rattle.vpf_triplet.specs.declared.kinds.Kind.{Kind}
use Rattle.vpf_triplet.specs.declared.kinds.Kind.TheVariants as kinds
use Rattle.vpf_value.specs.declared.turning.WordSize.{WordSize}
use Rattle.vpf_value.specs.declared.turning.WordSize.TheVariants.{One, Two, Four, Eight}

-- so many pieces of this many bytes, each changed so; what follows them stays
unfoldable pub each_piece : (List ℕ → List ℕ) → ℕ → ℕ → List ℕ → List ℕ
each_piece change zero size bytes = bytes
each_piece change (suc n) size bytes = change (take size bytes) ++ each_piece change n size (drop size bytes)

-- how many bytes a word has
abbrev pub bytes_of_word : WordSize → ℕ
bytes_of_word One = 1
bytes_of_word Two = 2
bytes_of_word Four = 4
bytes_of_word Eight = 8

-- The words of cells of this kind: the numbers that stand there in the byte order of the file. Where none does, each byte is a word.
abbrev pub word_size : Kind → WordSize
word_size kinds.S = Two
word_size kinds.F = Four
word_size kinds.I = Four
word_size kinds.C = Four
word_size kinds.Z = Four
word_size kinds.R = Eight
word_size kinds.B = Eight
word_size kinds.Y = Eight
word_size kind = One

-- the bytes of a cell, each of its words turned round
abbrev pub turned_cell : WordSize → List ℕ → List ℕ
turned_cell size bytes = each_piece reverse (length bytes / bytes_of_word size) (bytes_of_word size) bytes
