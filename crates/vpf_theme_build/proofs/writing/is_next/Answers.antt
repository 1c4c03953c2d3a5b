use Rattle.std.proofs.Common.{◌≡◌, ◌<◌, nat_eq, nat_lt, false, length, map, get_or, refl, sym, ◌∙◌, arith}
use Rattle.std.proofs.lemmas.Bool.Decides.{nat_tests}
use Rattle.std.proofs.lemmas.List.{length-map}
use Rattle.vpf_theme_build.specs.Grouping.{spot_row}
use Rattle.vpf_theme_build.proofs.BitLemmas.{any_next, any_past, next_match, row_there}
use Rattle.vpf_theme_build.proofs.writing.is_next.Goals as goal

pub returns-then-next-spots-clause-row : goal.returns-then-next-spots-clause-row
returns-then-next-spots-clause-row c =
    let rows = map spot_row c.args.spots.now in
    let in' : c.args.next < length rows = omega (arith, length-map c.args.spots.now spot_row) in
    rw (row_there c.args.spots.now c.args.next c.index-spots-next.result c.if-next-spots.true) (any_next rows c.args.next c.args.row c.requires.next c.requires.rise in')

pub returns-then-next-spots-clause-behind : goal.returns-then-next-spots-clause-behind
returns-then-next-spots-clause-behind c =
    let rows = map spot_row c.args.spots.now in
    let in' : c.args.next < length rows = omega (arith, length-map c.args.spots.now spot_row) in
    rw (row_there c.args.spots.now c.args.next c.index-spots-next.result c.if-next-spots.true) (next_match (nat_eq (get_or rows c.args.next 0) c.args.row) rows c.args.next c.args.row refl c.requires.next c.requires.rise in')

pub returns-else-next-spots-clause-row : goal.returns-else-next-spots-clause-row
returns-else-next-spots-clause-row c =
    let rows = map spot_row c.args.spots.now in
    let off : nat_lt c.args.next (length c.args.spots.now) ≡ false = grind (arith, nat_tests) in
    off ∙ sym (any_past rows c.args.next c.args.row c.requires.next (λ h. omega (arith, length-map c.args.spots.now spot_row)))
