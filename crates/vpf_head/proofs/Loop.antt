-- Reading columns one after the other, as a loop does.
use Rattle.std.proofs.Common.{◌≡◌, ℕ, zero, suc, ◌+◌, ◌-◌, true, false, List, [], ◌∷◌, ◌++◌, Option, None, Some, Ok, Err, refl, arith}
use Rattle.std.specs.Prelude.{is_some}
use Rattle.vpf_base.specs.Limits.{most_columns}
use Rattle.vpf_triplet.specs.declared.places.Place.{Place}
use Rattle.vpf_triplet.specs.declared.places.Code.TheVariants as codes
use Rattle.vpf_triplet.specs.Places.{fault}
use Rattle.vpf_head.specs.Head.{Col}
use Rattle.vpf_head.specs.Reading.{closes, column_at, columns_at}

pub is_done : (room : ℕ) (before : List Col) (text : List ℕ) (at : ℕ) → closes text at ≡ true → columns_at room before text at ≡ Ok (before, at)
unfolding columns_at
is_done zero before text at e = rw e refl
is_done (suc room) before text at e = rw e refl

pub is_full : (room : ℕ) (before : List Col) (text : List ℕ) (at : ℕ) → room ≡ 0 → closes text at ≡ false → columns_at room before text at ≡ Err (fault at (codes.LimitColumns (most_columns + 1)))
unfolding columns_at
is_full zero before text at z e = rw e refl
is_full (suc room) before text at z e = absurd (omega arith)

pub goes_on : (room : ℕ) (before : List Col) (text : List ℕ) (at : ℕ) (c : Col) (past : ℕ) → (room ≡ 0 → ⊥) → closes text at ≡ false → column_at before text at ≡ Ok (c, past) → columns_at room before text at ≡ columns_at (room - 1) (before ++ c ∷ []) text past
unfolding columns_at
goes_on zero before text at c past z e h = absurd (z refl)
goes_on (suc room) before text at c past z e h =
    let k : suc room - 1 ≡ room = omega arith in
    rw (e, h, k) refl

pub gives_up : (room : ℕ) (before : List Col) (text : List ℕ) (at : ℕ) (p : Place) → (room ≡ 0 → ⊥) → closes text at ≡ false → column_at before text at ≡ Err p → columns_at room before text at ≡ Err p
unfolding columns_at
gives_up zero before text at p z e h = absurd (z refl)
gives_up (suc room) before text at p z e h = rw (e, h) refl

pub absent : {X : Type 0} (o : Option X) → is_some o ≡ false → o ≡ None
absent None e = refl
absent (Some x) e = absurd cc
