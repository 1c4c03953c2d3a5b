use Rattle.std.proofs.Common.{◌<◌, ◌^◌, refl, sym, ◌∙◌, arith}
use Rattle.vpf_cross.proofs.HomeLemmas.{mark_line_is}
use Rattle.vpf_cross.proofs.homes.check_mark.Goals as goal

pub returns-then-have_same_mark : goal.returns-then-have_same_mark
returns-then-have_same_mark c =
    let small : c.args.dart.edge < 2 ^ 32 = omega arith in
    let home_small : c.args.home.edge < 2 ^ 32 = omega arith in
    let line = mark_line_is c.args.coverage.now c.args.dart c.args.home c.args.tile.now c.tile_of-there.result.now small home_small c.requires.tile c.tile_of-there.ensures.tile c.requires.copy in
    let same = sym c.have_same_mark.ensures ∙ c.if-have_same_mark.true in
    line ∙ rw same refl

pub returns : goal.returns
returns c =
    let small : c.args.dart.edge < 2 ^ 32 = omega arith in
    let home_small : c.args.home.edge < 2 ^ 32 = omega arith in
    let line = mark_line_is c.args.coverage.now c.args.dart c.args.home c.args.tile.now c.tile_of-there.result.now small home_small c.requires.tile c.tile_of-there.ensures.tile c.requires.copy in
    let other = sym c.have_same_mark.ensures ∙ c.if-have_same_mark.false in
    rw (c.finding.ensures, c.seen-found.ensures, c.seen-wanted.ensures) (line ∙ rw other refl)
