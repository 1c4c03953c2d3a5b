use Rattle.std.proofs.Common.{◌≡◌, length, sym, ◌∙◌}
use Rattle.vpf_table.specs.Opening.{row_spans}
use Rattle.vpf_table.proofs.SpanLaws.{length-row_spans}
use Rattle.vpf_table.proofs.SpanLemmas.{same_spans}
use Rattle.vpf_table.proofs.Owning.{count_differs, entry_differs, is_own, none_other}
use Rattle.vpf_table.proofs.table_file.TableFile.own_entries.Goals as goal

pub returns-then-len-clause-exact : goal.returns-then-len-clause-exact
returns-then-len-clause-exact c =
    let f = c.args.self.now in
    let ss = row_spans f.bytes f.grid in
    let n = length-row_spans f.bytes f.grid in
    rw c.in_index.ensures (count_differs f.grid.head.order c.args.index.now c.in-Ok.entries ss (rw (c.order.ensures, c.header.ensures) at c.in-Ok.ensures.exact) (λ e. c.if-len.true (c.len.ensures ∙ e ∙ n ∙ sym c.len-2.ensures.value)))

pub returns-in-Ok-check_entries-clause-own : goal.returns-in-Ok-check_entries-clause-own
returns-in-Ok-check_entries-clause-own c =
    let f = c.args.self.now in
    let ss = row_spans f.bytes f.grid in
    let n = length-row_spans f.bytes f.grid in
    let same : length c.in-Ok.entries ≡ length f.grid.rows = sym c.len.ensures ∙ c.if-len.false ∙ c.len-2.ensures.value in
    same_spans 0 c.in-Ok.entries ss (same ∙ sym n) (none_other _ c.in-Ok-check_entries.ensures)

pub returns-in-Ok-check_entries-clause-exact : goal.returns-in-Ok-check_entries-clause-exact
returns-in-Ok-check_entries-clause-exact c =
    let f = c.args.self.now in
    let ss = row_spans f.bytes f.grid in
    let n = length-row_spans f.bytes f.grid in
    let same : length c.in-Ok.entries ≡ length f.grid.rows = sym c.len.ensures ∙ c.if-len.false ∙ c.len-2.ensures.value in
    (is_own f.grid.head.order c.args.index.now c.in-Ok.entries ss (rw (c.order.ensures, c.header.ensures) at c.in-Ok.ensures.exact) (same ∙ sym n) c.in-Ok-check_entries.ensures)

pub returns-in-Err-check_entries-clause-exact : goal.returns-in-Err-check_entries-clause-exact
returns-in-Err-check_entries-clause-exact c =
    let f = c.args.self.now in
    let ss = row_spans f.bytes f.grid in
    let n = length-row_spans f.bytes f.grid in
    let same : length c.in-Ok.entries ≡ length f.grid.rows = sym c.len.ensures ∙ c.if-len.false ∙ c.len-2.ensures.value in
    (entry_differs f.grid.head.order c.args.index.now c.in-Ok.entries ss c.in-Err-check_entries.place (rw (c.order.ensures, c.header.ensures) at c.in-Ok.ensures.exact) (same ∙ sym n) c.in-Err-check_entries.ensures)
