use Rattle.std.proofs.Common.{◌∙◌, ℕ, List, false, map, subst, arith}
use Rattle.vpf_table.specs.Grid.{Grid}
use Rattle.vpf_tiling.specs.Ranks.{numbered}
use Rattle.vpf_tiling.specs.Tiles.{Ring}
use Rattle.vpf_write.specs.Writing.{Writes}
use Rattle.vpf_renumbering.specs.declared.glued_faces.rings.GluedRing.{GluedRing}
use Rattle.vpf_renumbering.specs.Inner.GluedFaces.Rings.{ring_said}
use Rattle.vpf_glue.specs.GluedTables.Grids.{whole_in}
use Rattle.vpf_primitive_tables.specs.TableForms.Forms.{ring_kinds, ring_row, rings_like, table_like}
use Rattle.vpf_primitive_tables.specs.Inner.TableForms.CountedLaws.{numbered-map, put_all, put_more}
use Rattle.vpf_glue.proofs.rings.write_rings.Goals as goal

pub loop-k-preserved : goal.loop-k-preserved
loop-k-preserved c =
    let W = whole_in c.args.edges.now in
    let row = λ (k : ℕ) (r : GluedRing). ring_row c.args.form.now.head.columns k (ring_said (whole_in c.args.edges.now) r) in
    record {
      like = c.in_ok-put.ensures.like ∙ c.loop-k.invariant.like;
      put = let put = rw (c.loop-k.invariant.like, c.edge_number-edge.ensures.number) at c.in_ok-put.ensures.put in
          put_more c.loop-k.made.tally c.put.new.self.tally row c.args.rings.now c.loop-k.k (record { face = 0; start = record { tile = 0; edge = 0; minus = false } }) (omega arith) put c.loop-k.invariant.put;
    }

pub returns : goal.returns
returns c =
    let g = c.args.form.now in
    let columns = c.args.form.now.head.columns in
    let of = ring_said (whole_in c.args.edges.now) in
    let rings = c.args.rings.now in
    let done = put_all c.loop-k.made.tally (λ (k : ℕ) (r : GluedRing). ring_row c.args.form.now.head.columns k (ring_said (whole_in c.args.edges.now) r)) c.args.rings.now c.loop-k.k (omega arith) c.loop-k.invariant.put in
    let written = c.finish.ensures (numbered (ring_row columns) (map of rings)) (rw (numbered-map (ring_row columns) of rings) done) in
    subst (λ (rs : List Ring). Writes (rings_like c.args.form.now rs) c.finish.result) c.requires.rings
    (subst (λ (g : Grid). Writes (table_like g ring_kinds (numbered (ring_row c.args.form.now.head.columns) (map of rings))) c.finish.result) c.loop-k.invariant.like written)
