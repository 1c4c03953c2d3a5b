-- Directions at a corner, without any numbers.
use Rattle.std.proofs.Common.{◌≡◌, Bool, true, false, refl}
use Rattle.vpf_vectors.specs.Cells.Corners.{Way, East, North, West, South, right_of, left_of, back_of, first_way}

pub back_back : (w : Way) → back_of (back_of w) ≡ w
back_back East = refl
back_back North = refl
back_back West = refl
back_back South = refl

pub right_back : (w : Way) → right_of (back_of w) ≡ left_of w
right_back East = refl
right_back North = refl
right_back West = refl
right_back South = refl

pub left_back : (w : Way) → left_of (back_of w) ≡ right_of w
left_back East = refl
left_back North = refl
left_back West = refl
left_back South = refl

-- the first of three, by what is there
pub first-a : (p : Way → Bool) (a b c : Way) → p a ≡ true → first_way p a b c ≡ a
first-a p a b c h = rw h refl

pub first-b : (p : Way → Bool) (a b c : Way) → p a ≡ false → p b ≡ true → first_way p a b c ≡ b
first-b p a b c h i = rw (h, i) refl

pub first-c : (p : Way → Bool) (a b c : Way) → p a ≡ false → p b ≡ false → first_way p a b c ≡ c
first-c p a b c h i = rw (h, i) refl

-- the next direction round a corner
abbrev pub turn_way : (Way → Bool) → Way → Way
turn_way p w = first_way p (left_of w) (back_of w) (right_of w)
