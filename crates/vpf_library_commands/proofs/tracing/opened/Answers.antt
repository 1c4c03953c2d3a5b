use Rattle.std.proofs.Common.{◌∙◌}
use Rattle.vpf_featured.specs.Inner.Held.{AreFeaturedFiles}
use Rattle.vpf_library_commands.proofs.tracing.opened.Goals as goal

pub returns-clause-opened : goal.returns-clause-opened
returns-clause-opened c read are =
    let there : AreFeaturedFiles c.as_str.result.now c.as_str-2.result.now c.args.files.now read = rw (c.as_str.ensures, c.as_str-2.ensures) are in
    c.in_ok-keeping_edges.ensures ∙ c.in_ok-featured.ensures.coverage read there

pub returns-clause-first : goal.returns-clause-first
returns-clause-first c read are =
    let there : AreFeaturedFiles c.as_str.result.now c.as_str-2.result.now c.args.files.now read = rw (c.as_str.ensures, c.as_str-2.ensures) are in
    rw (c.as_str.ensures, c.as_str-2.ensures) at (c.in_ok-featured.ensures.first read there)
