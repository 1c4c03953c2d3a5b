use Rattle.std.proofs.Common.{◌≡◌, ◌<◌, ◌^◌, refl, sym, ap, ◌∙◌, arith}
use Rattle.vpf_darts.specs.Darts.{flip, tile_dart_code}
use Rattle.vpf_follow.specs.Following.{home_copy}
use Rattle.vpf_cross.specs.HomeLines.{coverage_links}
use Rattle.vpf_cross.proofs.DartLemmas.{flip_in, flip_number}
use Rattle.vpf_cross.proofs.HomeLemmas.{flip_line_is}
use Rattle.vpf_cross.proofs.homes.check_flip.Goals as goal

pub home_copy-back-requires : goal.home_copy-back-requires
home_copy-back-requires c = flip_in c.args.followed.now c.args.home c.flip.result c.flip.ensures c.requires.there

pub returns-then-eq : goal.returns-then-eq
returns-then-eq c =
    let small : c.home_copy-back.result.edge < 2 ^ 32 = omega arith in
    let other_small : c.flip-other.result.edge < 2 ^ 32 = omega arith in
    let C = coverage_links c.args.followed.now in
    let back : tile_dart_code c.home_copy-back.result ≡ home_copy C (flip (tile_dart_code c.args.home)) = c.home_copy-back.ensures.copy ∙ ap (home_copy C) (flip_number c.args.home c.flip.result c.flip.ensures) in
    let line = flip_line_is C c.args.dart c.args.home c.home_copy-back.result c.flip-other.result c.args.tile.now small other_small c.requires.home back (flip_number c.args.dart c.flip-other.result c.flip-other.ensures) in
    line ∙ rw (sym c.eq.ensures ∙ c.if-eq.true) refl

pub returns : goal.returns
returns c =
    let small : c.home_copy-back.result.edge < 2 ^ 32 = omega arith in
    let other_small : c.flip-other.result.edge < 2 ^ 32 = omega arith in
    let C = coverage_links c.args.followed.now in
    let back : tile_dart_code c.home_copy-back.result ≡ home_copy C (flip (tile_dart_code c.args.home)) = c.home_copy-back.ensures.copy ∙ ap (home_copy C) (flip_number c.args.home c.flip.result c.flip.ensures) in
    let line = flip_line_is C c.args.dart c.args.home c.home_copy-back.result c.flip-other.result c.args.tile.now small other_small c.requires.home back (flip_number c.args.dart c.flip-other.result c.flip-other.ensures) in
    rw (c.finding.ensures, c.face_citation-citation.ensures) (line ∙ rw (sym c.eq.ensures ∙ c.if-eq.false) refl)
