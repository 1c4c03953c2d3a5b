use Rattle.std.proofs.Common.{◌-◌, ◌<◌, length, get_or, arith}
use Rattle.vpf_theme_build.specs.declared.grouping.Group.{Group}
use Rattle.vpf_theme_build.proofs.TextLemmas.{len_more, small_data}
use Rattle.vpf_theme_build.proofs.building.index_len.Goals as goal

pub loop-group-preserved : goal.loop-group-preserved
loop-group-preserved c =
    let i = c.loop-group.invariant in
    let h = c.data_len.ensures in
    let none : Group = record { start = 0; end = 0 } in
    let g = get_or c.args.groups.now c.loop-group.group-index none in
    let in' : c.loop-group.group-index < length c.args.groups.now = omega arith in
    let e = c.requires.groups c.loop-group.group-index none in' in
    let small = small_data c.args.layout.now (g.end - g.start) (omega (arith, e.1, c.requires.spots)) c.requires.rows in
    record {
      len = len_more c.args.layout.now c.args.spots.now c.args.groups.now c.loop-group.group-index c.loop-group.len c.data_len.result none _ in' c.requires.groups h i.len;
      small = omega (arith, i.small, small, h);
    }
