use Rattle.std.proofs.Common.{arith}
use Rattle.std.specs.Option.{option_copied}
use Rattle.vpf_table.proofs.OpenLemmas.{opened_is_spelled, refused_is_faulty, spelled_is_opened}
use Rattle.vpf_table.proofs.view.TableView.open.Goals as goal

pub returns-clause-found : goal.returns-clause-found
returns-clause-found c = opened_is_spelled c.read.result c.args.bytes.now (option_copied c.args.index) (λ g e. c.opened_is_spelled.ensures c.args.bytes.now (option_copied c.args.index) g (λ i. omega (arith, c.type_inv.bytes i)) c.index_has_bytes.ensures e) c.read.ensures

pub returns-clause-only : goal.returns-clause-only
returns-clause-only c = λ g i. spelled_is_opened c.read.result c.args.bytes.now (option_copied c.args.index) g (c.spelled_is_opened.ensures c.args.bytes.now (option_copied c.args.index) g i) c.read.ensures

pub returns-clause-refused : goal.returns-clause-refused
returns-clause-refused c = refused_is_faulty c.read.result c.args.bytes.now (option_copied c.args.index) (λ p e. c.refusals_are_first_faults.ensures.only c.args.bytes.now (option_copied c.args.index) p (λ i. omega (arith, c.type_inv.bytes i)) c.index_has_bytes.ensures e) c.read.ensures
