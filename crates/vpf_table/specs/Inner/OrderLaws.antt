-- Rows that are read fit their columns, and their canonical spelling is no longer than what was read.
use Rattle.std.proofs.Common.{◌≡◌, ◌-◌, length}
use Rattle.vpf_base.specs.declared.orders.Order.{Order}
use Rattle.vpf_triplet.specs.declared.kinds.Kind.{Kind}
use Rattle.vpf_triplet.specs.declared.kinds.Count.{Count}
use Rattle.vpf_findings.specs.Values.{Value}
use Rattle.vpf_findings.specs.Canonical.{spelled}

-- it is as long in either order
abbrev pub EitherOrder : Type 0
EitherOrder = (o p : Order) (kind : Kind) (count : Count) (v : Value) → length (spelled o kind count v) ≡ length (spelled p kind count v)
