use Rattle.std.proofs.Common.{Some, refl}
use Rattle.vpf_run.proofs.Answering.{replied}
use Rattle.vpf_run.proofs.running.reply_to.Goals as goal

pub returns-clause-told : goal.returns-clause-told
returns-clause-told g c = replied (Some c.args.command.now) c.args.command.now (g.T.Tree.files c.args.tree.now) _ _ refl c.settle.ensures.reply c.obey.ensures.told c.obey.ensures.alone
