-- The kinds of fields and their counts (MIL-STD-2407, 5.4, allowable field types).
use Rattle.std.specs.Prelude.{ℕ, List, [], ◌∷◌, Option, Bool, true, false, bytes_eq, codes, ◌==◌}
use Rattle.std.specs.List.{find}
use Rattle.std.specs.Fmt.{decimal}
use Rattle.vpf_triplet.specs.declared.kinds.Kind.{Kind}
use Rattle.vpf_triplet.specs.declared.kinds.Kind.TheVariants as kinds
use Rattle.vpf_triplet.specs.declared.kinds.Count.{Count}
use Rattle.vpf_triplet.specs.declared.kinds.Count.TheVariants.{Fixed, Star}

-- the letter of a kind
abbrev pub kind_text : Kind → List ℕ
kind_text kinds.T = codes "T"
kind_text kinds.L = codes "L"
kind_text kinds.M = codes "M"
kind_text kinds.N = codes "N"
kind_text kinds.F = codes "F"
kind_text kinds.R = codes "R"
kind_text kinds.S = codes "S"
kind_text kinds.I = codes "I"
kind_text kinds.D = codes "D"
kind_text kinds.X = codes "X"
kind_text kinds.K = codes "K"
kind_text kinds.C = codes "C"
kind_text kinds.B = codes "B"
kind_text kinds.Z = codes "Z"
kind_text kinds.Y = codes "Y"

-- a count as a header has it
abbrev pub count_text : Count → List ℕ
count_text (Fixed n) = decimal n
count_text Star = codes "*"

-- every kind
abbrev pub every_kind : List Kind
every_kind = kinds.T ∷ kinds.L ∷ kinds.M ∷ kinds.N ∷ kinds.F ∷ kinds.R ∷ kinds.S ∷ kinds.I ∷ kinds.D ∷ kinds.X ∷ kinds.K ∷ kinds.C ∷ kinds.B ∷ kinds.Z ∷ kinds.Y ∷ []

-- the kind whose letter the text is
abbrev pub kind_of : List ℕ → Option Kind
kind_of text = find (λ kind. bytes_eq text (kind_text kind)) every_kind

-- whether two kinds have one letter, and so are one
abbrev pub same_kind : Kind → Kind → Bool
same_kind a b = bytes_eq (kind_text a) (kind_text b)

-- the count is this number
abbrev pub is_fixed : ℕ → Count → Bool
is_fixed n (Fixed m) = n == m
is_fixed n Star = false

-- exactly one value
abbrev pub is_one : Count → Bool
is_one (Fixed n) = n == 1
is_one Star = false

-- the counts that a kind allows: any of text and coordinates, one of every other kind
abbrev pub allows : Kind → Count → Bool
allows kinds.T count = true
allows kinds.L count = true
allows kinds.M count = true
allows kinds.N count = true
allows kinds.C count = true
allows kinds.B count = true
allows kinds.Z count = true
allows kinds.Y count = true
allows kind count = is_one count
