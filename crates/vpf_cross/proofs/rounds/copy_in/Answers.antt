use Rattle.std.proofs.Common.{◌≡◌, ◌<◌, ◌^◌, sym, ap, ◌∙◌, arith}
use Rattle.vpf_darts.specs.Darts.{flip, tile_in, tile_dart_code}
use Rattle.vpf_follow.specs.Following.{home_copy}
use Rattle.vpf_prims.specs.Libraries.{library_of}
use Rattle.vpf_cross.specs.HomeLines.{coverage_links}
use Rattle.vpf_cross.proofs.AgreeLemmas.{have_copies}
use Rattle.vpf_cross.proofs.CopyLemmas.{HaveCopies, copy_absent, copy_here, copy_there}
use Rattle.vpf_cross.proofs.DartLemmas.{flip_in, flip_number, not_same, same_is}
use Rattle.vpf_cross.proofs.LinkLemmas.{tile-code}
use Rattle.vpf_cross.proofs.rounds.copy_in.Goals as goal
use Rattle.vpf_cross.proofs.rounds.copy_in.Goals.{else-copy-number-via-then-copy-number+else-eq, else-copy-number-via-else-copy-number}

pub returns-then-home-number : goal.returns-then-home-number
returns-then-home-number c =
    let small : c.args.home.edge < 2 ^ 32 = omega arith in
    let h : HaveCopies (library_of c.args.followed.now) = have_copies c.args.followed.now c.requires.agree.few c.requires.agree.elsewhere c.links_follow.ensures c.requires.agree.homes in
    let tile = tile-code c.args.home.tile c.args.home.edge c.args.home.minus small in
    sym (copy_here (library_of c.args.followed.now) c.args.number (tile_dart_code c.args.home) h c.requires.home (tile ∙ c.if-home-number.true))

pub home_copy-requires : goal.home_copy-requires
home_copy-requires c = flip_in c.args.followed.now c.args.home c.flip.result c.flip.ensures c.requires.dart

pub home_copy-requires-then-copy-number : goal.home_copy-requires-then-copy-number
home_copy-requires-then-copy-number c = flip_in c.args.followed.now c.home_copy.result c.flip-copy.result c.flip-copy.ensures c.home_copy.ensures.dart

pub returns-then-eq : goal.returns-then-eq
returns-then-eq c =
    let small : c.args.home.edge < 2 ^ 32 = omega arith in
    let copy_small : c.flip-copy.result.edge < 2 ^ 32 = omega arith in
    let C = coverage_links c.args.followed.now in
    let y = tile_dart_code c.args.home in
    let h : HaveCopies (library_of c.args.followed.now) = have_copies c.args.followed.now c.requires.agree.few c.requires.agree.elsewhere c.links_follow.ensures c.requires.agree.homes in
    let tile = tile-code c.args.home.tile c.args.home.edge c.args.home.minus small in
    let copy_tile = tile-code c.flip-copy.result.tile c.flip-copy.result.edge c.flip-copy.result.minus copy_small in
    let is : tile_dart_code c.flip-copy.result ≡ flip (home_copy C (flip y)) =
    flip_number c.home_copy.result c.flip-copy.result c.flip-copy.ensures ∙ ap flip (c.home_copy.ensures.copy ∙ ap (home_copy C) (flip_number c.args.home c.flip.result c.flip.ensures)) in
    let back : home_copy C (tile_dart_code c.flip-copy.result) ≡ y =
    sym c.home_copy-then-copy-number.ensures.copy ∙ ap tile_dart_code (same_is c.home_copy-then-copy-number.result c.args.home (sym c.eq.ensures ∙ c.if-eq.true)) in
    sym (copy_there (library_of c.args.followed.now) c.args.number (tile_dart_code c.args.home) (tile_dart_code c.flip-copy.result) h c.requires.home (λ e. c.if-home-number.false (sym tile ∙ e)) is
    (flip_in c.args.followed.now c.home_copy.result c.flip-copy.result c.flip-copy.ensures c.home_copy.ensures.dart) (copy_tile ∙ c.if-copy-number.true) back)

pub returns-else-copy-number : goal.returns-else-copy-number
returns-else-copy-number c =
    let small : c.args.home.edge < 2 ^ 32 = omega arith in
    let copy_small : c.flip-copy.result.edge < 2 ^ 32 = omega arith in
    let C = coverage_links c.args.followed.now in
    let y = tile_dart_code c.args.home in
    let h : HaveCopies (library_of c.args.followed.now) = have_copies c.args.followed.now c.requires.agree.few c.requires.agree.elsewhere c.links_follow.ensures c.requires.agree.homes in
    let tile = tile-code c.args.home.tile c.args.home.edge c.args.home.minus small in
    let copy_tile = tile-code c.flip-copy.result.tile c.flip-copy.result.edge c.flip-copy.result.minus copy_small in
    let is : tile_dart_code c.flip-copy.result ≡ flip (home_copy C (flip y)) =
    flip_number c.home_copy.result c.flip-copy.result c.flip-copy.ensures ∙ ap flip (c.home_copy.ensures.copy ∙ ap (home_copy C) (flip_number c.args.home c.flip.result c.flip.ensures)) in
    let none : tile_in (tile_dart_code c.flip-copy.result) ≡ c.args.number → home_copy (coverage_links c.args.followed.now) (tile_dart_code c.flip-copy.result) ≡ tile_dart_code c.args.home → ⊥ =
    elim c.else-copy-number.branch [
      | else-copy-number-via-then-copy-number+else-eq w ↦ λ t e. (
          let back_small : w.home_copy-then-copy-number.result.edge < 2 ^ 32 = omega arith in
          not_same w.home_copy-then-copy-number.result c.args.home back_small small (sym w.eq.ensures ∙ w.if-eq.false) (w.home_copy-then-copy-number.ensures.copy ∙ e))
      | else-copy-number-via-else-copy-number w ↦ λ t e. w.if-copy-number.false (sym copy_tile ∙ t)
    ] in
    sym (copy_absent (library_of c.args.followed.now) c.args.number (tile_dart_code c.args.home) (tile_dart_code c.flip-copy.result) h c.requires.home (λ e. c.if-home-number.false (sym tile ∙ e)) is none)
