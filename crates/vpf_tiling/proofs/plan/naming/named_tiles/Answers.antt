use Rattle.std.proofs.Common.{◌≡◌, ◌∙◌, ap, length}
use Rattle.std.proofs.lemmas.List.Elements.{All-rest}
use Rattle.vpf_head.specs.Head.{Head}
use Rattle.vpf_table.specs.Grid.{Row}
use Rattle.vpf_prims.specs.Columns.{id_column, role_at}
use Rattle.vpf_tiling.specs.Plan.Plans.{tile_column}
use Rattle.vpf_tiling.proofs.plan.NamedLemmas.{by_columns, noted_all, noted_more, tiles_are}
use Rattle.vpf_tiling.proofs.plan.naming.named_tiles.Goals as goal

pub loop-row-preserved : goal.loop-row-preserved
loop-row-preserved c =
    let i = c.loop-row.invariant in
    let steps = c.in-Some.ensures.steps in
    record {
      room = c.note.ensures.count ∙ i.room;
      noted = noted_more (role_at c.in-Ok.columns.id) (role_at c.in-Ok.columns.tile) c.args.faces c.loop-row.named c.note.new.self c.in-Some.row c.loop-row.row-iterator
          c.next.new.self c.args.plan.now.rows steps i.room c.note.ensures.each i.noted;
      width = All-rest (λ (r : Row). length r ≡ length c.args.plan.now.head.columns) c.in-Some.row c.next.new.self c.loop-row.row-iterator steps i.width;
    }

pub returns-clause-tiles : goal.returns-clause-tiles
returns-clause-tiles c =
    let i = c.loop-row.invariant in
    let all = noted_all (role_at c.in-Ok.columns.id) (role_at c.in-Ok.columns.tile) c.args.faces c.loop-row.named c.loop-row.row-iterator c.args.plan.now.rows c.in-None.ensures.steps.0 i.noted in
    tiles_are c.args.plan.now c.args.faces c.loop-row.named i.room
    (by_columns c.args.plan.now (role_at c.in-Ok.columns.id) (role_at c.in-Ok.columns.tile) c.args.faces c.loop-row.named (c.in-Ok.ensures.id.is ∙ ap (λ (x : Head). id_column x.columns) c.header.ensures)
    (c.in-Ok.ensures.tile.is ∙ ap (λ (x : Head). tile_column x.columns) c.header.ensures) all)
