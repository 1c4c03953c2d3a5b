use Rattle.std.proofs.Common.{Some}
use Rattle.vpf_table.proofs.table_file.TableFile.with_own_index.Goals as goal

pub returns-clause-found : goal.returns-clause-found
returns-clause-found c = c.opened_is_spelled.ensures c.args.self.bytes (Some c.args.index.now) c.args.self.grid c.bytes_are_bytes.ensures c.bytes_are_bytes-2.ensures c.known_index-entries.ensures.exact
