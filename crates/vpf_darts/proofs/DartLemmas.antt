-- The numbers of darts.
use Rattle.std.proofs.Common.{◌≡◌, ℕ, ◌+◌, ◌*◌, ◌/◌, ◌%◌, ◌^◌, ◌<◌, ◌≤◌, Bool, true, false, ◌==◌, arith, inl, inr}
use Rattle.std.proofs.lemmas.Bool.{cases_eq}
use Rattle.std.proofs.lemmas.Bool.Decides.{nat_tests}
use Rattle.vpf_darts.specs.declared.darts.Dart.{Dart}
use Rattle.vpf_darts.specs.declared.darts.TileDart.{TileDart}
use Rattle.vpf_darts.specs.Darts.{code, tile_in, edge_in, sign_in, flip, dart_code, tile_dart_code, sign_of}
use Rattle.vpf_darts.specs.Inner.Laws.{NumbersNameDarts, PartsGiveNumber, FlipIsOfSign}

pub untiled_code : (edge sign : ℕ) → code 0 edge sign ≡ 2 * edge + sign
unfolding code
untiled_code edge sign = omega arith

pub sign_of-le : (minus : Bool) → sign_of minus ≤ 1
sign_of-le true = omega arith
sign_of-le false = omega arith

pub dart_code-half : (d : Dart) → dart_code d / 2 ≡ d.edge
dart_code-half d = omega (arith, untiled_code d.edge (sign_of d.minus), sign_of-le d.minus)

pub flip-half : (x : ℕ) → flip x / 2 ≡ x / 2
unfolding flip
flip-half x = omega arith

-- a dart with a number below 2^33 is in tile 0
pub untiled : (d : TileDart) → tile_dart_code d < 2 ^ 33 → d.tile ≡ 0
unfolding code
untiled d h = omega arith

-- the edge and the sign of a number below 2^33
pub number_of_parts : (n : ℕ) → code 0 (n / 2) (sign_of (n % 2 == 1)) ≡ n
number_of_parts n = elim (cases_eq (n % 2) 1) [
  | inl odd ↦ (let t : (n % 2 == 1) ≡ true = grind (arith, nat_tests) in rw (untiled_code, t) (omega arith))
  | inr even ↦ (let f : (n % 2 == 1) ≡ false = grind (arith, nat_tests) in rw (untiled_code, f) (omega arith))
]

pub parts_of_code : NumbersNameDarts
unfolding code tile_in edge_in sign_in
parts_of_code tile edge sign low bit = (omega arith, omega arith, omega arith)

pub code_of_parts : PartsGiveNumber
unfolding code tile_in edge_in sign_in
code_of_parts x = (omega arith, omega arith, omega arith)

pub flip_code : FlipIsOfSign
unfolding code flip
flip_code tile edge sign bit = omega arith
