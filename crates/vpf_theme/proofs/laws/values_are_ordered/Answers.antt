use Rattle.vpf_theme.specs.Inner.KeyLaws.{Decides-same_value}
use Rattle.vpf_theme.proofs.OrderLemmas.{values_total, cmp_equal, of_fits, sort_of}
use Rattle.vpf_theme.proofs.laws.values_are_ordered.Goals as goal

pub returns-clause-total : goal.returns-clause-total
returns-clause-total c = values_total

pub returns-clause-equal : goal.returns-clause-equal
returns-clause-equal c = λ kind count v u i f g e. cmp_equal (sort_of kind) v u (of_fits kind count v i f.1) (of_fits kind count u i g.1) e

pub returns-clause-same : goal.returns-clause-same
returns-clause-same c = λ v u. Decides-same_value v u
