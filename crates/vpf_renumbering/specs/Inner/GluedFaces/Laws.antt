-- What is so of the faces and rings of every library that agrees.
use Rattle.vpf_prims.specs.Primitives.{Library}
use Rattle.vpf_cross.specs.Agreeing.{LibraryAgrees}
use Rattle.vpf_renumbering.specs.Inner.GluedFaces.Faces.{HasFewFaces}

-- there are no more faces but the universe than rings of them, and no more of these than edges have darts
abbrev pub AgreeingHasFewFaces : Type 0
AgreeingHasFewFaces = (L : Library) → LibraryAgrees L → HasFewFaces L
