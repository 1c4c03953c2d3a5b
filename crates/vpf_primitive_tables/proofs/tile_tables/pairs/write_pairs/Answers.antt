use Rattle.std.proofs.Common.{[], ◌≡◌, ℕ, ◌+◌, ◌<◌, List, length, get_or, ap, ◌∙◌, slice_index_or, subst, sym, arith}
use Rattle.vpf_head.specs.Head.{Head}
use Rattle.vpf_prims.specs.Lists.{kth}
use Rattle.vpf_table.specs.Canonical.{FitsRow}
use Rattle.vpf_write.specs.Revise.Revising.{FitsElsewhere, revised}
use Rattle.vpf_table.specs.Grid.{Grid}
use Rattle.vpf_tiling.specs.Ranks.{numbered}
use Rattle.vpf_write.specs.Writing.{Writes}
use Rattle.vpf_primitive_tables.specs.TableForms.Forms.{pair_values}
use Rattle.vpf_primitive_tables.proofs.table_forms.CountedRows.{numbered_at}
use Rattle.vpf_primitive_tables.specs.Inner.TableForms.CountedLaws.{put_all, put_more}
use Rattle.vpf_primitive_tables.proofs.tile_tables.pairs.write_pairs.Goals as goal

pub loop-k-preserved : goal.loop-k-preserved
loop-k-preserved c = record {
  head = c.in_ok-put.ensures.head ∙ c.loop-k.invariant.head;
  put = λ names e.
      let f = c.args.form.now in
      let sources = c.args.sources.now in
      let k = c.loop-k.k in
      let row = λ (k s : ℕ). revised (pair_values f.name f.table.head.columns k (names k s)) (kth f.table.rows s []) in
      let h : k < length sources = omega arith in
      let named : get_or c.args.references.now k 0 ≡ names (k + 1) (get_or sources k 0) = ap (λ (xs : List ℕ). get_or xs k 0) e ∙ numbered_at names sources k 0 0 h in
      let source = c.row_of-row.ensures.row ∙ ap (λ (g : Grid). kth g.rows (get_or sources k 0) []) c.table.ensures in
      let put = rw (named, source) at c.in_ok-put.ensures.put in
      put_more c.loop-k.made c.put.new.made row sources k 0 h put (c.loop-k.invariant.put names e);
}

pub returns : goal.returns
returns c = λ names e.
    let f = c.args.form.now in
    let sources = c.args.sources.now in
    let row = λ (k s : ℕ). revised (pair_values f.name f.table.head.columns k (names k s)) (kth f.table.rows s []) in
    let done = put_all c.loop-k.made row sources c.loop-k.k (omega arith) (c.loop-k.invariant.put names e) in
    subst (λ (h : Head). Writes (record { head = h; rows = numbered row sources }) c.finish.result) (c.loop-k.invariant.head)
    (c.finish.ensures.written (numbered row sources) done)

pub put-requires-clause-others : goal.put-requires-clause-others
put-requires-clause-others c =
    let f = c.args.form.now in
    let columns = f.table.head.columns in
    let row = c.row_of-row.result in
    let n = slice_index_or c.args.references.now c.loop-k.k 0 in
    let fits = subst (λ (g : Grid). FitsRow g.head.columns row) c.table.ensures c.row_of-row.ensures.fits in
    subst (λ (h : Head). FitsElsewhere (pair_values f.name columns (c.loop-k.k + 1) n) h.columns row) (sym c.loop-k.invariant.head)
    (c.own_rows_fit.ensures.pairs f.name columns row fits (c.loop-k.k + 1) n)
