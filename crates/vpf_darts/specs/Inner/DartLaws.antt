-- The numbers of darts.
use Rattle.std.proofs.Common.{◌≡◌, ◌≢◌, ℕ, not, arith, inl, inr}
use Rattle.std.proofs.lemmas.Bool.{cases_Bool}
use Rattle.vpf_darts.specs.declared.darts.TileDart.{TileDart}
use Rattle.vpf_darts.specs.Darts.{code, flip, tile_dart_code}

pub flip_flip : (x : ℕ) → flip (flip x) ≡ x
unfolding flip
flip_flip x = omega arith

pub flip_apart : (x : ℕ) → flip x ≢ x
unfolding flip
flip_apart x e = omega arith

pub flip-tile_dart : (d : TileDart) → tile_dart_code (record { tile = d.tile; edge = d.edge; minus = not d.minus }) ≡ flip (tile_dart_code d)
unfolding code flip
flip-tile_dart d = elim (cases_Bool d.minus) [ inl t ↦ rw t (omega arith) | inr f ↦ rw f (omega arith) ]
