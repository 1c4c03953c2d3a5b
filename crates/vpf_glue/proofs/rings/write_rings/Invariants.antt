use Rattle.std.proofs.Common.{◌≡◌, ℕ, take}
use Rattle.vpf_tiling.specs.Ranks.{numbered}
use Rattle.vpf_write.specs.Inner.Tallies.{Holds}
use Rattle.vpf_primitive_tables.specs.TableForms.Forms.{ring_row}
use Rattle.vpf_renumbering.specs.declared.glued_faces.rings.GluedRing.{GluedRing}
use Rattle.vpf_renumbering.specs.Inner.GluedFaces.Rings.{ring_said}
use Rattle.vpf_glue.specs.GluedTables.Grids.{whole_in}
use Rattle.vpf_glue.proofs.rings.write_rings.Given as goal

abbrev pub invariant-loop-k : goal.invariant-loop-k
invariant-loop-k l = record {
  like : l.made.like ≡ l.form;
  put : Holds l.made.tally (numbered (λ (k : ℕ) (r : GluedRing). ring_row l.form.head.columns k (ring_said (whole_in l.edges) r)) (take l.k l.rings));
}
