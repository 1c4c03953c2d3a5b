-- What a list of coordinates that lies in a file says.
use Rattle.std.specs.Prelude.{ℕ, ◌/◌, List, length, Option, Some, None}
use Rattle.vpf_base.specs.declared.orders.Order.{Order}
use Rattle.vpf_value.specs.declared.coords.WordWidth.{WordWidth}
use Rattle.vpf_triplet.specs.declared.kinds.Kind.{Kind}
use Rattle.vpf_triplet.specs.declared.kinds.Kind.TheVariants as kinds
use Rattle.vpf_value.specs.declared.coords.Tuple.{Tuple}
use Rattle.vpf_value.specs.declared.coords.Tuple.TheVariants.{Pair, Triple}
use Rattle.vpf_value.specs.declared.cells.Cell.{Cell}
use Rattle.vpf_value.specs.declared.cells.Cell.TheVariants as cells
use Rattle.vpf_value.specs.declared.coords.Coords.{Coords}
use Rattle.vpf_value.specs.Words.{word_bytes, words_of}

-- all words that the bytes spell
abbrev pub words_in : Order → WordWidth → List ℕ → List ℕ
words_in o w bytes = words_of o w (length bytes / word_bytes w) bytes

-- its words
abbrev pub words : Coords → List ℕ
words c = words_in c.order c.width c.bytes.now

-- the width of its words
abbrev pub words_width : Coords → WordWidth
words_width c = c.width

-- the tuples that its words make
abbrev pub tuple_of : Coords → Tuple
tuple_of c = c.tuple

-- the tuples of a cell, where it is a list of coordinates
abbrev pub tuple_in : Cell → Option Tuple
tuple_in (cells.Coords c) = Some (tuple_of c)
tuple_in cell = None

-- the tuples of a kind of coordinates
abbrev pub kind_tuple : Kind → Option Tuple
kind_tuple kinds.C = Some Pair
kind_tuple kinds.B = Some Pair
kind_tuple kinds.Z = Some Triple
kind_tuple kinds.Y = Some Triple
kind_tuple kind = None
