use Rattle.std.proofs.Common.{◌≡◌, ◌∷◌, ◌++◌, [], map, sym, ap, ◌∙◌, refl}
use Rattle.std.proofs.lemmas.Result.{err_from_is_err_and}
use Rattle.std.specs.Map.{values_of}
use Rattle.indexmap.specs.IndexMap.{values}
use Rattle.indexmap.proofs.CallerLemmas.{insert_entry-new}
use Rattle.vpf_head.specs.Inner.Views.{col, key_eq}
use Rattle.vpf_head.proofs.Entries.{AreNamed-push, columns-push}
use Rattle.vpf_head.proofs.Loop.{is_done, is_full, goes_on, gives_up, absent}
use Rattle.vpf_head.proofs.reading.columns_at.Goals as goal

pub returns-then-room-eq0-clause-exact : goal.returns-then-room-eq0-clause-exact
returns-then-room-eq0-clause-exact c =
    rw (c.into.ensures, c.in_table.ensures) (sym c.loop-columns.invariant.same ∙ is_full c.loop-columns.room (map col (values c.loop-columns.columns)) c.args.text.now c.loop-columns.at c.if-room-eq0.true (sym c.is_closed.ensures.value ∙ c.loop-columns-test.true))

pub returns-in_err-column-clause-exact : goal.returns-in_err-column-clause-exact
returns-in_err-column-clause-exact c =
    let p = err_from_is_err_and c.from_residual.result c.from_residual.ensures.1 in
    rw (p.1, p.2) (sym c.loop-columns.invariant.same ∙ gives_up c.loop-columns.room (map col (values c.loop-columns.columns)) c.args.text.now c.loop-columns.at _ c.if-room-eq0.false (sym c.is_closed.ensures.value ∙ c.loop-columns-test.true) c.in_err-column.ensures.exact)

pub loop-columns-preserved : goal.loop-columns-preserved
loop-columns-preserved c =
    let column = c.in_ok-column.column in
    let before = map col (values c.loop-columns.columns) in
    let entries : c.insert.new.self.entries ≡ c.loop-columns.columns.entries ++ (record { name = column.name }, column) ∷ [] = c.in_ok-insert.ensures.entries ∙ insert_entry-new key_eq c.loop-columns.columns (record { name = column.name }) column (absent _ c.in_ok-column.ensures.fresh) in
    let more : map col (values c.insert.new.self) ≡ before ++ col column ∷ [] = ap (λ es. map col (values_of es)) entries ∙ columns-push c.loop-columns.columns.entries (record { name = column.name }, column) in
    record {
      same = rw more (sym (goes_on c.loop-columns.room before c.args.text.now c.loop-columns.at (col column) c.in_ok-column.past c.if-room-eq0.false (sym c.is_closed.ensures.value ∙ c.loop-columns-test.true) c.in_ok-column.ensures.exact) ∙ c.loop-columns.invariant.same);
      named = rw entries (AreNamed-push c.loop-columns.columns.entries (record { name = column.name }, column) c.loop-columns.invariant.named refl);
      inside = c.in_ok-column.ensures.inside;
    }

pub returns-clause-exact : goal.returns-clause-exact
returns-clause-exact c = sym c.loop-columns.invariant.same ∙ is_done c.loop-columns.room (map col (values c.loop-columns.columns)) c.args.text.now c.loop-columns.at (sym c.is_closed.ensures.value ∙ c.loop-columns-test.false)
