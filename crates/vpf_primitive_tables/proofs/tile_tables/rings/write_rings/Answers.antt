use Rattle.std.proofs.Common.{◌∙◌, ℕ, map, subst, arith}
use Rattle.vpf_table.specs.Grid.{Grid}
use Rattle.vpf_tiling.specs.Ranks.{numbered}
use Rattle.vpf_write.specs.Writing.{Writes}
use Rattle.vpf_cut_rings.specs.declared.rings.CutRing.{CutRing}
use Rattle.vpf_cut_rings.specs.Inner.Rings.{ring_of}
use Rattle.vpf_primitive_tables.specs.TableForms.Forms.{ring_kinds, ring_row, table_like}
use Rattle.vpf_primitive_tables.specs.Inner.TableForms.CountedLaws.{numbered-map, put_all, put_more}
use Rattle.vpf_primitive_tables.proofs.tile_tables.rings.write_rings.Goals as goal

pub loop-k-preserved : goal.loop-k-preserved
loop-k-preserved c =
    let row = λ (k : ℕ) (r : CutRing). ring_row c.args.form.now.head.columns k (ring_of r) in
    record {
      like = c.in_ok-put.ensures.like ∙ c.loop-k.invariant.like;
      put = let put = rw c.loop-k.invariant.like at c.in_ok-put.ensures.put in
          put_more c.loop-k.made.tally c.put.new.self.tally row c.args.rings.now c.loop-k.k (record { face = 0; edge = 0 }) (omega arith) put c.loop-k.invariant.put;
    }

pub returns : goal.returns
returns c =
    let g = c.args.form.now in
    let row = λ (k : ℕ) (r : CutRing). ring_row g.head.columns k (ring_of r) in
    let rings = c.args.rings.now in
    let done = put_all c.loop-k.made.tally row rings c.loop-k.k (omega arith) c.loop-k.invariant.put in
    let written = c.finish.ensures (numbered (ring_row g.head.columns) (map ring_of rings)) (rw (numbered-map (ring_row g.head.columns) ring_of rings) done) in
    subst (λ (g : Grid). Writes (table_like g ring_kinds (numbered (ring_row c.args.form.now.head.columns) (map ring_of rings))) c.finish.result) c.loop-k.invariant.like written
