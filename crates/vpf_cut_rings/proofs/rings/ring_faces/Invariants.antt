use Rattle.std.proofs.Common.{◌≡◌, take}
use Rattle.vpf_prims.specs.Reading.{primitives_of}
use Rattle.vpf_cut_rings.specs.Inner.Rings.{ring_faces}
use Rattle.vpf_cut_rings.proofs.rings.ring_faces.Given as goal

abbrev pub invariant-loop-k : goal.invariant-loop-k
invariant-loop-k l = l.faces.items ≡ take l.k (ring_faces (primitives_of l.source.tables))
