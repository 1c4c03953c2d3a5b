-- How the values of a thematic index are ordered and told apart.
use Rattle.std.specs.Prelude.{ℕ, Bool, true, false, ◌&&◌, nat_eq, bytes_eq}
use Rattle.std.specs.Option.{option_eq}
use Rattle.std.specs.Ordering.{nat_cmp, int_cmp, int_eq}
use Rattle.std.specs.Cmp.Lexicographic.{slice_cmp}
use Rattle.std.specs.declared.cmp.Ordering.{Ordering}
use Rattle.vpf_triplet.specs.declared.triplets.Triplet.{Triplet}
use Rattle.vpf_value.specs.declared.coords.WordWidth.{WordWidth}
use Rattle.vpf_value.specs.declared.coords.WordWidth.TheVariants.{Four, Eight}
use Rattle.vpf_value.specs.Values.{Value, TextOf, Word4Of, Word8Of, NumberOf, DateOf, Nothing, TripletOf, WordsOf}

-- where the values of a sort stand among those of others
abbrev pub sort_rank : Value → ℕ
sort_rank (TextOf text) = 0
sort_rank (DateOf text) = 1
sort_rank (Word4Of word) = 2
sort_rank (Word8Of word) = 3
sort_rank (NumberOf number) = 4
sort_rank value = 5

-- The order of values: texts and dates by their bytes, words as unsigned numbers, numbers as signed ones. Values of one
-- field are of one sort; those of different sorts, and those that no index holds, stand as their sorts do.
abbrev pub value_cmp : Value → Value → Ordering
value_cmp (TextOf a) (TextOf b) = slice_cmp nat_cmp a b
value_cmp (DateOf a) (DateOf b) = slice_cmp nat_cmp a b
value_cmp (Word4Of a) (Word4Of b) = nat_cmp a b
value_cmp (Word8Of a) (Word8Of b) = nat_cmp a b
value_cmp (NumberOf a) (NumberOf b) = int_cmp a b
value_cmp a b = nat_cmp (sort_rank a) (sort_rank b)

-- the two triplet ids have the same parts
abbrev pub same_triplet : Triplet → Triplet → Bool
same_triplet a b = option_eq nat_eq a.id b.id && option_eq nat_eq a.tile b.tile && option_eq nat_eq a.ext b.ext

-- the two widths are the same
abbrev pub same_width : WordWidth → WordWidth → Bool
same_width Four Four = true
same_width Eight Eight = true
same_width a b = false

-- the two values are the same
abbrev pub same_value : Value → Value → Bool
same_value (TextOf a) (TextOf b) = bytes_eq a b
same_value (Word4Of a) (Word4Of b) = nat_eq a b
same_value (Word8Of a) (Word8Of b) = nat_eq a b
same_value (NumberOf a) (NumberOf b) = int_eq a b
same_value (DateOf a) (DateOf b) = bytes_eq a b
same_value Nothing Nothing = true
same_value (TripletOf a) (TripletOf b) = same_triplet a b
same_value (WordsOf w a) (WordsOf v b) = same_width w v && bytes_eq a b
same_value a b = false
