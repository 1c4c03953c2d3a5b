use Rattle.std.proofs.Common.{◌<◌, ◌^◌, Some, refl, sym, ◌∙◌, arith}
use Rattle.vpf_darts.specs.Darts.{tile_dart_code}
use Rattle.vpf_cross.specs.HomeLines.{coverage_links}
use Rattle.vpf_cross.proofs.RoundLemmas.{line_by, round_by}
use Rattle.vpf_cross.proofs.rounds.check_round.Goals as goal

pub returns : goal.returns
returns c =
    let small : c.in-Some.next.edge < 2 ^ 32 = omega arith in
    let copy_small : c.in-Some-first_copy.copy.edge < 2 ^ 32 = omega arith in
    let C = coverage_links c.args.followed.now in
    let line = round_by C c.args.dart c.args.tile.now (Some (tile_dart_code c.in-Some.next)) (Some (tile_dart_code c.in-Some-first_copy.copy)) c.in-Some.ensures c.in-Some-first_copy.ensures in
    let said = line_by c.args.dart.tile c.args.tile.now c.args.dart c.in-Some.next c.in-Some-first_copy.copy small copy_small in
    rw (c.finding.ensures, c.wing_citation-citation.ensures) (line ∙ said ∙ rw (sym c.eq.ensures ∙ c.if-eq.false) refl)
