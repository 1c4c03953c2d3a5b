-- Keys put tile by tile.
use Rattle.std.proofs.Common.{◌≡◌, ℕ, zero, suc, ◌+◌, List, ◌++◌, map, refl, append_assoc, append-nil, add-zero, zero-add, arith}
use Rattle.std.specs.List.{flat_map, range_with_len}
use Rattle.vpf_joins.specs.declared.keys.keyed.KeyedRow.{KeyedRow}
use Rattle.vpf_joins.specs.Keys.Keys.{Keyed, keyed_of}

range_more : {X : Type 0} (f : ℕ → List X) (a n : ℕ) → flat_map f (range_with_len a (suc n)) ≡ flat_map f (range_with_len a n) ++ f (a + n)
range_more f a zero = rw (append-nil, add-zero) refl
range_more f a (suc n) =
    let e : a + 1 + n ≡ a + suc n = omega arith in
    rw (range_more f (a + 1) n, append_assoc, e) refl

-- those of one more tile
pub keys_more : (f : ℕ → List Keyed) (t : ℕ) (keys more : List KeyedRow) → map keyed_of more ≡ map keyed_of keys ++ f t → map keyed_of keys ≡ flat_map f (range_with_len 0 t)
    → map keyed_of more ≡ flat_map f (range_with_len 0 (t + 1))
keys_more f t keys more put before =
    let next : t + 1 ≡ suc t = omega arith in
    rw (put, before, next, range_more f 0 t, zero-add) refl
