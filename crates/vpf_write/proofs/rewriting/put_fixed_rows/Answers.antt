use Rattle.std.proofs.Common.{◌≡◌, ◌≢◌, ap, sym, ◌∙◌, rules}
use Rattle.std.proofs.lemmas.Result.{on_ok_weaker}
use denote.Enum.Bare.{same_true, same_false}
use Rattle.vpf_base.specs.contracts.orders.Order.{the_type}
use Rattle.vpf_table.specs.Canonical.{rows_text}
use Rattle.vpf_write.specs.Inner.Drafts.{progress}
use Rattle.vpf_write.specs.Inner.Turning.{fields_of}
use Rattle.vpf_write.proofs.FixedRows.{bytes_put, turned_put, fields_wide}
use Rattle.vpf_write.proofs.rewriting.put_fixed_rows.Goals as goal

pub returns-then-eq : goal.returns-then-eq
returns-then-eq c =
    let h = c.args.header.now in
    let t = c.args.table.now in
    let order : h.order ≡ t.head.order = let same = same_true the_type (search rules) _ _ (sym c.if-eq.ensures) in cc (same, c.order.ensures, c.order-2.ensures, c.header.ensures) in
    let bytes : c.args.rows.bytes.now ≡ rows_text h.order h.columns t.rows = rw (order, c.requires.columns) (c.requires.bytes) in
    on_ok_weaker c.put_rows.result (bytes_put h.order h.columns (progress c.args.draft.now) (progress c.put_rows.new.self) t.rows c.args.rows.bytes.now c.requires.alike bytes) c.put_rows.ensures

pub put_turned_rows-requires-clause-whole : goal.put_turned_rows-requires-clause-whole
put_turned_rows-requires-clause-whole c =
    let fields = c.in_ok-fields.ensures in
    rw (c.deref.ensures.value, fields, c.requires.columns) (fields_wide c.args.table.now.head.columns c.args.rows.width c.requires.width)

pub returns : goal.returns
returns c =
    let h = c.args.header.now in
    let t = c.args.table.now in
    let cs = t.head.columns in
    let differ : t.head.order ≢ h.order = λ e. same_false the_type _ _ (sym c.if-eq.ensures) (cc (e, c.order.ensures, c.order-2.ensures, c.header.ensures)) in
    let fields : c.deref.result.now ≡ fields_of cs = c.deref.ensures.value ∙ c.in_ok-fields.ensures ∙ ap fields_of c.requires.columns in
    on_ok_weaker c.put_turned_rows.result (λ made. rw (c.requires.columns) (turned_put c.turned_is_other_order.ensures c.fitting_is_written.ensures.width t.head.order h.order cs c.deref.result.now (progress c.args.draft.now) (progress c.put_turned_rows.new.self) t.rows c.args.rows.bytes.now c.args.rows.width c.requires.some differ c.requires.width c.requires.fits fields c.requires.alike c.requires.bytes made)) c.put_turned_rows.ensures
