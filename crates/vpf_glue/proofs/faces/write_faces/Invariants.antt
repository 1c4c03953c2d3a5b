use Rattle.std.proofs.Common.{◌≡◌, codes, take}
use Rattle.vpf_tiling.specs.Ranks.{numbered}
use Rattle.vpf_write.specs.Inner.Tallies.{Holds}
use Rattle.vpf_primitive_tables.specs.TableForms.Forms.{head_like, pair_kinds}
use Rattle.vpf_glue.specs.GluedTables.Grids.{face_sources, glued_face_row}
use Rattle.vpf_glue.proofs.faces.write_faces.Given as goal

abbrev pub invariant-loop-k : goal.invariant-loop-k
invariant-loop-k l = record {
  head : l.made.head ≡ head_like l.form.table (pair_kinds (codes "ring_ptr"));
  put : Holds l.made (numbered (glued_face_row l.form.table.head.columns l.faces) (take l.k (face_sources l.form.table l.faces)));
}
