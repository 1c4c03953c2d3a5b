use Rattle.std.proofs.Common.{arith}
use Rattle.vpf_theme_build.specs.declared.grouping.Group.{Group}
use Rattle.vpf_theme_build.proofs.TextLemmas.{directory_more, len_more}
use Rattle.vpf_theme_build.proofs.building.put_directory.Goals as goal

abbrev none : Group
none = record { start = 0; end = 0 }

pub overflow_cast-behind : goal.overflow_cast-behind
overflow_cast-behind c =
    let i = c.loop-group.invariant in
    let m = len_more c.args.layout.now c.args.spots.now c.args.groups.now c.loop-group.group-index c.loop-group.behind c.data_len.result none _ (omega arith) c.requires.groups c.data_len.ensures i.room in
    omega (arith, m)

pub overflow_add-behind : goal.overflow_add-behind
overflow_add-behind c =
    let i = c.loop-group.invariant in
    let m = len_more c.args.layout.now c.args.spots.now c.args.groups.now c.loop-group.group-index c.loop-group.behind c.data_len.result none _ (omega arith) c.requires.groups c.data_len.ensures i.room in
    omega (arith, m)

pub loop-group-preserved : goal.loop-group-preserved
loop-group-preserved c =
    let i = c.loop-group.invariant in
    record {
      out = directory_more c.args.layout.now c.args.spots.now c.args.groups.now c.loop-group.group-index c.loop-group.behind c.data_len.result none c.loop-group.out.items c.put_entry.new.out.items _ (omega arith) c.requires.groups c.data_len.ensures c.in_ok-put_entry.ensures i.out;
      room = len_more c.args.layout.now c.args.spots.now c.args.groups.now c.loop-group.group-index c.loop-group.behind c.data_len.result none _ (omega arith) c.requires.groups c.data_len.ensures i.room;
    }
