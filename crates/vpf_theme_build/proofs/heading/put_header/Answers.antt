use Rattle.std.proofs.Common.{append_assoc, rules}
use Rattle.vpf_theme_build.proofs.heading.put_header.Goals as goal

pub returns : goal.returns
returns c = search (rules, append_assoc)
