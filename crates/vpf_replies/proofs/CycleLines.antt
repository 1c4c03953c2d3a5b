-- Lines of cycles, put one after another, and that they are those of the numbers of darts.
use Rattle.std.proofs.Common.{◌≡◌, ℕ, ◌+◌, ◌^◌, ◌<◌, Bool, true, false, eqb, List, ◌++◌, drop, Some, codes, append_assoc, refl, ap, arith}
use Rattle.std.specs.Prelude.{slice_get}
use Rattle.vpf_base.proofs.Lists.{next_item}
use Rattle.vpf_darts.specs.declared.darts.TileDart.{TileDart}
use Rattle.vpf_darts.specs.Darts.{sign_in, sign_of, tile_dart_code, tile_dart_text}
use Rattle.vpf_darts.specs.Inner.Laws.{NumbersNameDarts}
use Rattle.vpf_replies.specs.Listings.{cycle_lines, cycle_text, dart_of, numbered_text}

pub cycle_put : (text : List ℕ) (cycles : List (List TileDart)) (i : ℕ) (cycle : List TileDart) → slice_get cycles i ≡ Some cycle
    → ((text ++ cycle_text cycle) ++ codes "\n") ++ cycle_lines (drop (i + 1) cycles) ≡ text ++ cycle_lines (drop i cycles)
cycle_put text cycles i cycle e = rw (next_item cycles i cycle e) (simp append_assoc)

-- ---- numbers name darts

small : (m : Bool) → sign_of m < 2
small true = omega arith
small false = omega arith

sign_is : (m : Bool) (s : ℕ) → s ≡ sign_of m → eqb s 1 ≡ m
sign_is true s e = ap (λ z. eqb z 1) e
sign_is false s e = ap (λ z. eqb z 1) e

-- a dart whose edge has 32 bits is that of its number
pub is_named : NumbersNameDarts → (d : TileDart) → d.edge < 2 ^ 32 → dart_of (tile_dart_code d) ≡ d
is_named law d few =
    let p = law d.tile d.edge (sign_of d.minus) few (small d.minus) in
    rw (p.0, p.1, sign_is d.minus (sign_in (tile_dart_code d)) p.2) refl

pub named : NumbersNameDarts → (d : TileDart) → d.edge < 2 ^ 32 → numbered_text d ≡ tile_dart_text d
unfolding numbered_text
named law d few = ap tile_dart_text (is_named law d few)
