use Rattle.std.proofs.Common.{arith}
use Rattle.vpf_head.specs.Inner.Views.{header_parts}
use Rattle.vpf_head.proofs.Canonicals.{length-text}
use Rattle.vpf_head.proofs.headers.Header.text_len.Goals as goal

pub returns : goal.returns
returns c = rw (← c.self.view_is) (omega (arith, length-text (header_parts c.self.inside), c.name_len.ensures, c.columns_len.ensures.value))
