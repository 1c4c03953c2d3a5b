use Rattle.std.proofs.Common.{◌≡◌, ◌∙◌, ◌<◌, length, map, sym, ap, arith, false, true}
use Rattle.vpf_head.specs.Inner.Views.{col}
use Rattle.vpf_prims.specs.Roles.{role_of}
use Rattle.vpf_numbers.specs.ColumnLines.{bare_line}
use Rattle.vpf_numbers.proofs.CarriedLemmas.{bare_found, bare_passed}
use Rattle.vpf_numbers.proofs.carried.check_bare.Goals as goal

pub returns-then-not-has_role : goal.returns-then-not-has_role
returns-then-not-has_role c =
    let within : c.loop-c.c < length c.args.header.now.columns = omega arith in
    let bare : c.has_role.result ≡ false = cc in
    let found = bare_found (map role_of c.args.roles.now) c.args.header.now.columns c.loop-c.c (col c.at-column.result.now) within c.at-column.ensures (sym c.has_role.ensures ∙ bare) in
    rw (c.finding.ensures, c.new-name.ensures, c.form_seen.ensures) (ap (bare_line c.args.at) (sym c.loop-c.invariant ∙ found))

pub loop-c-preserved : goal.loop-c-preserved
loop-c-preserved c =
    let within : c.loop-c.c < length c.args.header.now.columns = omega arith in
    let has : c.has_role.result ≡ true = cc in
    bare_passed (map role_of c.args.roles.now) c.args.header.now.columns c.loop-c.c (col c.at-column.result.now) within c.at-column.ensures (sym c.has_role.ensures ∙ has) ∙ c.loop-c.invariant
