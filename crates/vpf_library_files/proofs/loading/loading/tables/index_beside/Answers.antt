use Rattle.std.proofs.Common.{◌∙◌, inl, None, refl, sym}
use Rattle.vpf_library_files.proofs.loading.loading.tables.index_beside.Goals as goal

pub returns-then-not-varies-clause-are : goal.returns-then-not-varies-clause-are
returns-then-not-varies-clause-are g c =
    let grid = c.in_ok-table.table.grid in
    let bytes = c.args.bytes.now in
    inl (record {
      bytes = bytes;
      are = refl;
      opened = c.opened_is_spelled.ensures bytes None grid c.bytes_are_bytes.ensures tt c.in_ok-table.ensures.read;
      one_length = rw c.header.ensures at (sym c.varies.ensures ∙ c.if-not-varies.true);
    })
