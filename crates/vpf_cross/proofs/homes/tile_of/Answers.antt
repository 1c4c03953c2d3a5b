use Rattle.std.proofs.Common.{◌≡◌, ◌<◌, ◌^◌, Option, None, Some, sym, arith}
use Rattle.vpf_cross.proofs.HomeLemmas.{is_in, row_in}
use Rattle.vpf_cross.proofs.homes.tile_of.Goals as goal

none_some : {A : Type 0} {o : Option A} {x : A} → None ≡ o → o ≡ Some x → ⊥
none_some none some = cc

pub unreachable-requires : goal.unreachable-requires
unreachable-requires c =
    let small : c.args.dart.edge < 2 ^ 32 = omega arith in
    none_some c.in-None.ensures (is_in c.args.coverage.now c.args.dart small c.requires).tile

pub returns-clause-row : goal.returns-clause-row
returns-clause-row c =
    let small : c.args.dart.edge < 2 ^ 32 = omega arith in
    row_in c.args.coverage.now c.args.dart c.in-Some.tile.now small c.requires (sym c.in-Some.ensures)
