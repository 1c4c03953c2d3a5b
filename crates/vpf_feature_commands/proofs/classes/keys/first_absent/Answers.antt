use Rattle.std.proofs.Common.{◌≡◌, ◌∙◌, ◌+◌, suc, ap, sym, add-one}
use Rattle.vpf_feature_commands.proofs.classes.KeyLemmas.{absent_from_row, key_told, keys_passed}
use Rattle.vpf_feature_commands.proofs.classes.keys.first_absent.Goals as goal

pub returns-in-Some : goal.returns-in-Some
returns-in-Some c =
    sym (key_told c.args.coverage.now c.args.header.now.columns c.args.joins.now c.loop-said.said-index _ _ c.loop-said-test.true (sym c.in-Some.ensures))
    ∙ c.loop-said.invariant

pub loop-said-preserved : goal.loop-said-preserved
loop-said-preserved c =
    let next : c.loop-said.said-index + 1 ≡ suc c.loop-said.said-index = simp add-one in
    ap (absent_from_row c.args.coverage.now c.args.header.now.columns c.args.joins.now) next
    ∙ sym (keys_passed c.args.coverage.now c.args.header.now.columns c.args.joins.now c.loop-said.said-index _ c.loop-said-test.true (sym c.in_default.ensures))
    ∙ c.loop-said.invariant
