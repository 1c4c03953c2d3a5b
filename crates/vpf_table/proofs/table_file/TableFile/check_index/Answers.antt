use Rattle.std.proofs.Common.{Some}
use Rattle.vpf_table.proofs.table_file.TableFile.check_index.Goals as goal

pub returns-in-Ok-clause-found : goal.returns-in-Ok-clause-found
returns-in-Ok-clause-found c = c.opened_is_spelled.ensures c.args.self.now.bytes (Some c.args.index.now) c.args.self.now.grid c.bytes_are_bytes.ensures c.bytes_are_bytes-2.ensures c.in-Ok.ensures.exact
