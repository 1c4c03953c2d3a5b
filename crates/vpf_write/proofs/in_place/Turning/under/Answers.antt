use Rattle.std.proofs.Common.{◌∙◌, ap, arith, ◌≡◌, ◌+◌, length, sym, rules}
use Rattle.std.specs.Prelude.{None}
use Rattle.vpf_head.specs.Canonical.{canonical_header}
use Rattle.vpf_table.specs.Canonical.{in_order}
use Rattle.vpf_write.proofs.FixedRows.{fields_wide}
use Rattle.vpf_write.proofs.InPlaceFiles.{none_is, in_place, told_first, turned_size}
use Rattle.vpf_write.specs.Inner.WholeLaws.{within_limits}
use Rattle.vpf_write.proofs.in_place.Turning.under.Goals as goal

pub write-requires : goal.write-requires
write-requires c =
    let g = c.args.table.now in
    let r = c.requires in
    let head = c.requires.head in
    let told = rw head at c.first_limit.ensures in
    let none : c.first_limit.result ≡ None = none_is c.first_limit.result (sym c.if-is_some.ensures) in
    let limit = told_first c.fitting_is_written.ensures.width g c.args.header.now.order c.args.rows.bytes.now c.args.rows.width c.len.result c.first_limit.result r.width r.lie r.fits c.len.ensures.value told ∙ none in
    rw head (within_limits (in_order c.args.header.now.order g) limit).text_fits

pub invariant_of-result-clause-some : goal.invariant_of-result-clause-some
invariant_of-result-clause-some c = c.requires.some

pub invariant_of-result-clause-whole : goal.invariant_of-result-clause-whole
invariant_of-result-clause-whole c =
    let head = c.requires.head in
    let fields = rw head at c.in_ok-fields.ensures in
    rw fields (fields_wide c.args.table.now.head.columns c.args.rows.width c.requires.width)

pub returns-clause-found : goal.returns-clause-found
returns-clause-found c =
    let g = c.args.table.now in
    let r = c.requires in
    let w = c.args.rows.width in
    let rows = c.args.rows.bytes.now in
    let head = c.requires.head in
    let fields = rw head at c.in_ok-fields.ensures in
    let told = rw head at c.first_limit.ensures in
    let none : c.first_limit.result ≡ None = none_is c.first_limit.result (sym c.if-is_some.ensures) in
    let limit = told_first c.fitting_is_written.ensures.width g c.args.header.now.order rows w c.len.result c.first_limit.result r.width r.lie r.fits c.len.ensures.value told ∙ none in
    let differ = c.requires.other in
    let front : c.write.new.out.items ≡ canonical_header (in_order c.args.header.now.order g).head = rw (c.new-front.ensures.items, head) at c.in_ok-write.ensures.ok in
    let long : length c.write.new.out.items + length rows ≡ length c.args.bytes.now = search rules in
    let made = in_place c.fixed_rows_are_canonical.ensures c.turned_is_other_order.ensures c.fitting_is_written.ensures.width g c.args.header.now.order c.args.bytes.now rows c.write.new.out.items c.in_ok-fields.fields.items w c.requires.table r.some r.width r.alike r.lie r.fits differ front fields long in
    record { room = made.room; limit = limit; table = made.table; index = made.index }

pub returns-then-is_some-clause-known : goal.returns-then-is_some-clause-known
returns-then-is_some-clause-known c =
    let g = c.args.table.now in
    let r = c.requires in
    let head = c.requires.head in
    let told = rw head at c.first_limit.ensures in
    let first = told_first c.fitting_is_written.ensures.width g c.args.header.now.order c.args.rows.bytes.now c.args.rows.width c.len.result c.first_limit.result r.width r.lie r.fits c.len.ensures.value told in
    λ can. let none : c.first_limit.result ≡ None = sym first ∙ can.limit in sym (rw none at c.is_some.ensures) ∙ c.if-is_some.true

pub returns-then-len-rows_len-clause-known : goal.returns-then-len-rows_len-clause-known
returns-then-len-rows_len-clause-known c =
    let g = c.args.table.now in
    let r = c.requires in
    let rows = c.args.rows.bytes.now in
    let head = c.requires.head in
    let front : c.write.new.out.items ≡ canonical_header (in_order c.args.header.now.order g).head = rw (c.new-front.ensures.items, head) at c.in_ok-write.ensures.ok in
    let size = turned_size c.fitting_is_written.ensures.width g c.args.header.now.order rows c.args.rows.width r.width r.lie r.fits in
    let count : c.len-2.result ≡ length c.write.new.out.items = search rules in
    λ can. absurd (c.if-len-rows_len.true (omega (arith, count, ap length front, size, can.long)))
