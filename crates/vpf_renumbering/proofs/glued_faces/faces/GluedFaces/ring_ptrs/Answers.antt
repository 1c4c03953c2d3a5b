use Rattle.std.proofs.Common.{◌+◌, ◌∙◌, ap, length, map}
use Rattle.vpf_prims.specs.Libraries.{library_of}
use Rattle.vpf_tiling_laws.specs.Gluing.Whole.{whole_of}
use Rattle.vpf_cut_rings.specs.declared.rings.CutRing.{CutRing}
use Rattle.vpf_cut_rings.specs.Inner.Rings.{first_rings_of, ring_of as cut_ring_of}
use Rattle.std.proofs.Common.{List}
use Rattle.vpf_renumbering.proofs.glued_faces.RingLemmas.{firsts_same}
use Rattle.vpf_renumbering.proofs.glued_faces.faces.GluedFaces.ring_ptrs.Goals as goal

pub returns-clause-firsts : goal.returns-clause-firsts
returns-clause-firsts c =
    c.in_ok-firsts.ensures.firsts ∙ ap (λ n. first_rings_of n (map cut_ring_of c.deref.result.now)) c.count.ensures.value
    ∙ ap (λ (rs : List CutRing). first_rings_of (length (whole_of (library_of c.args.self.now)).faces + 1) (map cut_ring_of rs)) (c.deref.ensures.value ∙ c.in_ok-cut.ensures)
    ∙ firsts_same (whole_of (library_of c.args.self.now)) (length (whole_of (library_of c.args.self.now)).faces + 1) c.args.rings.now
