-- The words of a cell turned round are its words in the other order.
use Rattle.std.proofs.Common.{[], ◌≡◌, ℕ, zero, suc, List, ◌∷◌, take, drop, reverse, refl}
use Rattle.std.proofs.lemmas.List.{take-append-drop}
use Rattle.vpf_value.specs.Inner.Turning.{each_piece}

one_byte : (s : List ℕ) → reverse (take 1 s) ≡ take 1 s
one_byte [] = refl
one_byte (x ∷ xs) = refl

pub bytes_stay : (n : ℕ) (s : List ℕ) → each_piece reverse n 1 s ≡ s
unfolding each_piece
bytes_stay zero s = refl
bytes_stay (suc n) s = rw (one_byte s, bytes_stay n (drop 1 s)) (take-append-drop 1 s)
