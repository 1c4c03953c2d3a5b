use Rattle.std.proofs.Common.{◌≡◌, ◌+◌, length, refl, ap, arith}
use Rattle.std.proofs.lemmas.List.Elements.{All-rest}
use Rattle.vpf_table.specs.Grid.{Row}
use Rattle.vpf_joins.specs.declared.keys.keyed.KeyedRow.{KeyedRow}
use Rattle.vpf_joins.proofs.keys.PutLemmas.{keyed_more}
use Rattle.vpf_joins.proofs.keys.keyed.put_keys.Goals as goal

pub loop-row-preserved : goal.loop-row-preserved
loop-row-preserved c =
    let i = c.loop-row.invariant in
    let steps = c.in-Some.ensures.steps in
    let new : KeyedRow = record { key = c.cell.result; at = record { tile = c.args.tile; row = c.loop-row.number + 1 } } in
    record {
      put = keyed_more c.args.column c.loop-row.number c.args.tile c.loop-row.keys.items c.push_reserved.new.self.items new c.in-Some.row c.loop-row.row-iterator c.next.new.self _ c.push_reserved.ensures.items c.cell.ensures refl steps i.put;
      count = omega (arith, i.count, ap length steps);
      room = omega (arith, i.room, ap length steps, c.push_reserved.ensures.len, c.push_reserved.ensures.capacity);
      width = All-rest (λ (row : Row). length row ≡ length c.args.table.now.head.columns) c.in-Some.row c.next.new.self c.loop-row.row-iterator steps i.width;
    }
