use Rattle.std.proofs.Common.{[], ◌≡◌, ℕ, ◌+◌, ◌<◌, List, codes, get_or, length, sym, ap, ◌∙◌, subst, arith}
use Rattle.std.specs.Prelude.{slice_index_or}
use Rattle.vpf_head.specs.Head.{Head}
use Rattle.vpf_table.specs.Grid.{Grid}
use Rattle.vpf_write.specs.Revise.Revising.{FitsElsewhere}
use Rattle.vpf_tiling.specs.Ranks.{numbered}
use Rattle.vpf_write.specs.Writing.{Writes}
use Rattle.vpf_primitive_tables.specs.TableForms.Forms.{head_like, pair_kinds, pair_values}
use Rattle.vpf_primitive_tables.specs.Inner.TableForms.CountedLaws.{put_all, put_more}
use Rattle.vpf_glue.specs.GluedTables.Grids.{face_sources, glued_face_row, whole_in}
use Rattle.vpf_glue.proofs.FaceLemmas.{first_ring, sources_many}
use Rattle.vpf_glue.proofs.faces.write_faces.Goals as goal

pub loop-k-init : goal.loop-k-init
loop-k-init c = record {
  head = c.in_ok-made.ensures.head ∙ ap (λ (name : List ℕ). head_like c.args.form.now.table (pair_kinds name)) c.requires.name;
  put = c.in_ok-made.ensures.holds;
}

pub put-requires-clause-head : goal.put-requires-clause-head
put-requires-clause-head c = c.loop-k.invariant.head ∙ ap (λ (name : List ℕ). head_like c.args.form.now.table (pair_kinds name)) (sym c.requires.name)

pub put-requires-clause-others : goal.put-requires-clause-others
put-requires-clause-others c =
    let n = slice_index_or c.args.ring_ptrs.now c.loop-k.k 0 in
    let table = c.table.ensures in
    let fits = rw c.table.ensures at c.face_row-row.ensures.fits in
    subst (λ (name : List ℕ). FitsElsewhere (pair_values name c.args.form.now.table.head.columns (c.loop-k.k + 1) (slice_index_or c.args.ring_ptrs.now c.loop-k.k 0)) c.loop-k.made.head.columns c.face_row-row.result) (sym c.requires.name)
    (subst (λ (h : Head). FitsElsewhere (pair_values (codes "ring_ptr") c.args.form.now.table.head.columns (c.loop-k.k + 1) (slice_index_or c.args.ring_ptrs.now c.loop-k.k 0)) h.columns c.face_row-row.result)
    (sym c.loop-k.invariant.head) (fits (c.loop-k.k + 1) n))

pub loop-k-preserved : goal.loop-k-preserved
loop-k-preserved c = record {
  head = c.in_ok-put.ensures.head ∙ c.loop-k.invariant.head;
  put =
      let columns = c.args.form.now.table.head.columns in
      let c0 = c.args.faces.now in
      let lt : c.loop-k.k < length (whole_in c.args.faces.now).faces + 1 = omega (arith, c.requires.each) in
      let long : length (face_sources c.args.form.now.table c.args.faces.now) ≡ length (whole_in c.args.faces.now).faces + 1 = sources_many c.args.faces.now c.args.form.now.table in
      let row = c.face_row-row.ensures.row ∙ ap (λ (g : Grid). get_or (face_sources g c.args.faces.now) c.loop-k.k []) c.table.ensures in
      let named = ap (λ (xs : List ℕ). get_or xs c.loop-k.k 0) c.requires.ring_ptrs ∙ first_ring c.args.faces.now c.loop-k.k 0 lt in
      let put = rw (c.requires.name, named, row) at c.in_ok-put.ensures.put in
      put_more c.loop-k.made c.put.new.made (glued_face_row c.args.form.now.table.head.columns c.args.faces.now) (face_sources c.args.form.now.table c.args.faces.now) c.loop-k.k [] (omega arith) put c.loop-k.invariant.put;
}

pub returns : goal.returns
returns c =
    let f = glued_face_row c.args.form.now.table.head.columns c.args.faces.now in
    let long : length (face_sources c.args.form.now.table c.args.faces.now) ≡ length (whole_in c.args.faces.now).faces + 1 = sources_many c.args.faces.now c.args.form.now.table in
    let done = put_all c.loop-k.made (glued_face_row c.args.form.now.table.head.columns c.args.faces.now) (face_sources c.args.form.now.table c.args.faces.now) c.loop-k.k (omega (arith, c.requires.each)) c.loop-k.invariant.put in
    subst (λ (h : Head). Writes (record { head = h; rows = numbered (glued_face_row c.args.form.now.table.head.columns c.args.faces.now) (face_sources c.args.form.now.table c.args.faces.now) }) c.finish.result) c.loop-k.invariant.head
    (c.finish.ensures.written (numbered f (face_sources c.args.form.now.table c.args.faces.now)) done)
