use Rattle.std.specs.Option.{is_some}
use Rattle.std.proofs.Common.{◌≡◌, ◌∷◌, [], ◌++◌, Option, None, map, false, refl, sym, ap, ◌∙◌}
use Rattle.vpf_triplet.specs.declared.places.Part.{Part}
use Rattle.vpf_value.specs.Values.{view}
use Rattle.vpf_table.specs.declared.limit.Limit.{Limit}
use Rattle.vpf_table.specs.Grid.{Row}
use Rattle.vpf_write.specs.Inner.Drafts.{progress, with_row}
use Rattle.vpf_write.specs.Inner.Tallies.{Tally, grid_with}
use Rattle.vpf_write.specs.Inner.TableWriters.{tally_of}
use Rattle.vpf_write.specs.Writing.{first_limit}
use Rattle.vpf_write.proofs.InPlaceFiles.{none_is}
use Rattle.vpf_write.proofs.Tallied.{one_more, room_for, told_more}
use Rattle.vpf_write.proofs.table_writer.TableWriter.put_row.Goals as goal

pub put_row_unless-requires-clause-small : goal.put_row_unless-requires-clause-small
put_row_unless-requires-clause-small c =
    let i = c.self.inside in
    let v = c.self.invariant in
    let told = told_more (tally_of i) v.put (map view c.args.cells.now) i.text c.cells_len.result c.saturating_add-rows.result c.saturating_add-len.result i.varies c.limit_of.result v.text v.varies c.cells_len.ensures c.saturating_add-len.ensures c.saturating_add-rows.ensures c.limit_of.ensures v.holds in
    λ past. room_for (tally_of i) v.put (map view c.args.cells.now) c.if-self.false v.holds (told ∙ none_is c.limit_of.result (sym c.is_some-past.ensures ∙ past))

pub invariant_of-self-2 : goal.invariant_of-self-2
invariant_of-self-2 c =
    let i = c.self.inside in
    let v = c.self.invariant in
    let row : Row = map view c.args.cells.now in
    let u : Tally = record { head = i.header.now; rows = c.saturating_add-rows.result; size = c.saturating_add-len.result; kept = progress c.put_row_unless.new.self; failed = false } in
    let told = told_more (tally_of i) v.put (map view c.args.cells.now) i.text c.cells_len.result c.saturating_add-rows.result c.saturating_add-len.result i.varies c.limit_of.result v.text v.varies c.cells_len.ensures c.saturating_add-len.ensures c.saturating_add-rows.ensures c.limit_of.ensures v.holds in
    let kept : first_limit (grid_with (tally_of i) (v.put ++ row ∷ [])) ≡ None → progress c.put_row_unless.new.self ≡ with_row i.header.now.order i.header.now.columns (progress i.draft) row = λ none. c.in_ok-put_row_unless.ensures (c.is_some-past.ensures ∙ ap (λ (x : Option (Part × Limit)). is_some x) (sym told ∙ none)) in
    record {
      put = v.put ++ row ∷ [];
      holds = one_more (tally_of i) u v.put (map view c.args.cells.now) c.cells_len.result refl c.cells_len.ensures c.saturating_add-len.ensures c.saturating_add-rows.ensures kept c.if-self.false v.holds;
      text = v.text;
      varies = v.varies;
    }

pub returns-clause-ok : goal.returns-clause-ok
returns-clause-ok c =
    let i = c.self.inside in
    let v = c.self.invariant in
    let row : Row = map view c.args.cells.now in
    let u : Tally = record { head = i.header.now; rows = c.saturating_add-rows.result; size = c.saturating_add-len.result; kept = progress c.put_row_unless.new.self; failed = false } in
    rw (← c.self.view_is) (λ rows h.
    let told = told_more (tally_of i) rows (map view c.args.cells.now) i.text c.cells_len.result c.saturating_add-rows.result c.saturating_add-len.result i.varies c.limit_of.result v.text v.varies c.cells_len.ensures c.saturating_add-len.ensures c.saturating_add-rows.ensures c.limit_of.ensures h in
    let kept : first_limit (grid_with (tally_of i) (rows ++ row ∷ [])) ≡ None → progress c.put_row_unless.new.self ≡ with_row i.header.now.order i.header.now.columns (progress i.draft) row = λ none. c.in_ok-put_row_unless.ensures (c.is_some-past.ensures ∙ ap (λ (x : Option (Part × Limit)). is_some x) (sym told ∙ none)) in
    one_more (tally_of i) u rows (map view c.args.cells.now) c.cells_len.result refl c.cells_len.ensures c.saturating_add-len.ensures c.saturating_add-rows.ensures kept c.if-self.false h)
