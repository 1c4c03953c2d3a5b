use Rattle.std.proofs.Common.{◌≡◌, ℕ, take}
use Rattle.vpf_tiling.specs.Ranks.{numbered}
use Rattle.vpf_write.specs.Inner.Tallies.{Holds}
use Rattle.vpf_cut_rings.specs.declared.rings.CutRing.{CutRing}
use Rattle.vpf_cut_rings.specs.Inner.Rings.{ring_of}
use Rattle.vpf_primitive_tables.specs.TableForms.Forms.{ring_row}
use Rattle.vpf_primitive_tables.proofs.tile_tables.rings.write_rings.Given as goal

abbrev pub invariant-loop-k : goal.invariant-loop-k
invariant-loop-k l = record {
  like : l.made.like ≡ l.form;
  put : Holds l.made.tally (numbered (λ (k : ℕ) (r : CutRing). ring_row l.form.head.columns k (ring_of r)) (take l.k l.rings));
}
