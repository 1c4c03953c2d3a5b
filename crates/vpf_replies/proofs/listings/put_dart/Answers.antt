use Rattle.std.proofs.Common.{◌^◌, ◌<◌, arith}
use Rattle.vpf_replies.proofs.CycleLines.{named}
use Rattle.vpf_replies.proofs.listings.put_dart.Goals as goal

pub returns : goal.returns
returns c =
    let few : c.args.dart.edge < 2 ^ 32 = omega arith in
    rw (named c.numbers_name_darts.ensures.parts c.args.dart few) c.write.ensures.bytes
