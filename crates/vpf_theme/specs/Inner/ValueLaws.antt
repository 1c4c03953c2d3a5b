-- Values of entries that are whole.
use Rattle.std.proofs.Common.{◌≡◌, ℕ, Some, refl}
use Rattle.std.specs.Prelude.{IsTrue, unwrap_or}
use Rattle.vpf_triplet.specs.declared.kinds.Kind.{Kind}
use Rattle.vpf_triplet.specs.declared.kinds.Kind.TheVariants as kinds
use Rattle.vpf_triplet.specs.declared.kinds.Count.TheVariants.{Fixed}
use Rattle.vpf_value.specs.Widths.{cell_width}
use Rattle.vpf_theme.specs.Layouts.{is_indexed}

pub indexed_width : (kind : Kind) (n : ℕ) → IsTrue (is_indexed kind) → cell_width kind (Fixed n) ≡ Some (unwrap_or (cell_width kind (Fixed n)) 0)
indexed_width kinds.K n h = absurd cc
indexed_width kind n h = refl
