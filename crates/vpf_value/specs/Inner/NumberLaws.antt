-- Numbers of 2, 4 and 8 bytes: what is read of them is spelled so, and what is spelled so is read.
use Rattle.std.proofs.Common.{◌≡◌, ℕ, ◌^◌, ◌<◌, ◌≤◌, List, ◌++◌, length, take, refl, sym, arith}
use Rattle.std.specs.Int.{w16}
use Rattle.std.proofs.lemmas.List.{get_or-take, length-take-le}
use Rattle.std.proofs.lemmas.Nat.{le_bytes_2, be_bytes_2, le_bytes_4, be_bytes_4, le_bytes_8, be_bytes_8, from_le_bytes-to_le_bytes_2, from_be_bytes-to_be_bytes_2, from_le_bytes-to_le_bytes_4, from_be_bytes-to_be_bytes_4, from_le_bytes-to_le_bytes_8, from_be_bytes-to_be_bytes_8}
use Rattle.vpf_base.proofs.ByteLists.{IsBytes-take}
use Rattle.vpf_triplet.specs.Bytes.{IsBytes}
use Rattle.vpf_base.specs.declared.orders.Order.{Order}
use Rattle.vpf_base.specs.declared.orders.Order.TheVariants.{Little, Big}
use Rattle.vpf_base.specs.Numbers.{number, number_of}
use Rattle.vpf_value.specs.declared.coords.WordWidth.{WordWidth}
use Rattle.vpf_value.specs.declared.coords.WordWidth.TheVariants.{Four, Eight}
use Rattle.vpf_value.specs.Words.{word_bytes, word_limit, number_width}

pub number_of-take : (o : Order) (w : WordWidth) (k : ℕ) (bytes : List ℕ) → word_bytes w ≤ k → number_of o (number_width w) (take k bytes) ≡ number_of o (number_width w) bytes
number_of-take Little Four k bytes h =
    let h0 : 0 < k = omega arith in
    let h1 : 1 < k = omega arith in
    let h2 : 2 < k = omega arith in
    let h3 : 3 < k = omega arith in
    simp get_or-take
number_of-take Big Four k bytes h =
    let h0 : 0 < k = omega arith in
    let h1 : 1 < k = omega arith in
    let h2 : 2 < k = omega arith in
    let h3 : 3 < k = omega arith in
    simp get_or-take
number_of-take Little Eight k bytes h =
    let h0 : 0 < k = omega arith in
    let h1 : 1 < k = omega arith in
    let h2 : 2 < k = omega arith in
    let h3 : 3 < k = omega arith in
    let h4 : 4 < k = omega arith in
    let h5 : 5 < k = omega arith in
    let h6 : 6 < k = omega arith in
    let h7 : 7 < k = omega arith in
    simp get_or-take
number_of-take Big Eight k bytes h =
    let h0 : 0 < k = omega arith in
    let h1 : 1 < k = omega arith in
    let h2 : 2 < k = omega arith in
    let h3 : 3 < k = omega arith in
    let h4 : 4 < k = omega arith in
    let h5 : 5 < k = omega arith in
    let h6 : 6 < k = omega arith in
    let h7 : 7 < k = omega arith in
    simp get_or-take

pub length-number : (o : Order) (w : WordWidth) (n : ℕ) → length (number o (number_width w) n) ≡ word_bytes w
length-number Little Four n = refl
length-number Big Four n = refl
length-number Little Eight n = refl
length-number Big Eight n = refl

-- a word that is spelled is read, whatever follows
pub number_of-number : (o : Order) (w : WordWidth) (n : ℕ) (rest : List ℕ) → n < word_limit w → number_of o (number_width w) (number o (number_width w) n ++ rest) ≡ n
number_of-number Little Four n rest h = from_le_bytes-to_le_bytes_4 n h
number_of-number Big Four n rest h = from_be_bytes-to_be_bytes_4 n h
number_of-number Little Eight n rest h = from_le_bytes-to_le_bytes_8 n h
number_of-number Big Eight n rest h = from_be_bytes-to_be_bytes_8 n h

-- a word that is read is spelled so
pub number-number_of : (o : Order) (w : WordWidth) (bytes : List ℕ) → IsBytes bytes → word_bytes w ≤ length bytes → number o (number_width w) (number_of o (number_width w) bytes) ≡ take (word_bytes w) bytes
number-number_of Little Four bytes fits h = le_bytes_4 (take 4 bytes) _ (length-take-le 4 bytes h) (IsBytes-take 4 bytes fits) (sym (number_of-take Little Four 4 bytes (omega arith)))
number-number_of Big Four bytes fits h = be_bytes_4 (take 4 bytes) _ (length-take-le 4 bytes h) (IsBytes-take 4 bytes fits) (sym (number_of-take Big Four 4 bytes (omega arith)))
number-number_of Little Eight bytes fits h = le_bytes_8 (take 8 bytes) _ (length-take-le 8 bytes h) (IsBytes-take 8 bytes fits) (sym (number_of-take Little Eight 8 bytes (omega arith)))
number-number_of Big Eight bytes fits h = be_bytes_8 (take 8 bytes) _ (length-take-le 8 bytes h) (IsBytes-take 8 bytes fits) (sym (number_of-take Big Eight 8 bytes (omega arith)))

pub number_of_below : (o : Order) (w : WordWidth) (bytes : List ℕ) → IsBytes bytes → number_of o (number_width w) bytes < word_limit w
number_of_below Little Four bytes fits = omega (arith, fits 0, fits 1, fits 2, fits 3)
number_of_below Big Four bytes fits = omega (arith, fits 0, fits 1, fits 2, fits 3)
number_of_below Little Eight bytes fits = omega (arith, fits 0, fits 1, fits 2, fits 3, fits 4, fits 5, fits 6, fits 7)
number_of_below Big Eight bytes fits = omega (arith, fits 0, fits 1, fits 2, fits 3, fits 4, fits 5, fits 6, fits 7)

pub length-number16 : (o : Order) (n : ℕ) → length (number o w16 n) ≡ 2
length-number16 Little n = refl
length-number16 Big n = refl

pub number_of-number16 : (o : Order) (n : ℕ) (rest : List ℕ) → n < 2 ^ 16 → number_of o w16 (number o w16 n ++ rest) ≡ n
number_of-number16 Little n rest h = from_le_bytes-to_le_bytes_2 n h
number_of-number16 Big n rest h = from_be_bytes-to_be_bytes_2 n h

number_of-take16 : (o : Order) (bytes : List ℕ) → number_of o w16 (take 2 bytes) ≡ number_of o w16 bytes
number_of-take16 Little bytes =
    let h0 : 0 < 2 = omega arith in
    let h1 : 1 < 2 = omega arith in
    simp get_or-take
number_of-take16 Big bytes =
    let h0 : 0 < 2 = omega arith in
    let h1 : 1 < 2 = omega arith in
    simp get_or-take

pub number-number_of16 : (o : Order) (bytes : List ℕ) → IsBytes bytes → 2 ≤ length bytes → number o w16 (number_of o w16 bytes) ≡ take 2 bytes
number-number_of16 Little bytes fits h = le_bytes_2 (take 2 bytes) _ (length-take-le 2 bytes h) (IsBytes-take 2 bytes fits) (sym (number_of-take16 Little bytes))
number-number_of16 Big bytes fits h = be_bytes_2 (take 2 bytes) _ (length-take-le 2 bytes h) (IsBytes-take 2 bytes fits) (sym (number_of-take16 Big bytes))

pub number_of16_below : (o : Order) (bytes : List ℕ) → IsBytes bytes → number_of o w16 bytes < 2 ^ 16
number_of16_below Little bytes fits = omega (arith, fits 0, fits 1)
number_of16_below Big bytes fits = omega (arith, fits 0, fits 1)
