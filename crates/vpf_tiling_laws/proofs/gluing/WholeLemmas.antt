-- What is read of the tiled library for gluing is the coverage by its names, so the library is glued to it, renumbered.
use Rattle.std.proofs.Common.{◌≡◌, ℕ, ap, ◌∙◌, Option, List}
use Rattle.vpf_value.specs.Values.{Value}
use Rattle.vpf_darts.specs.Maps.{DartMap}
use Rattle.vpf_wing.specs.Links.{Beyond}
use Rattle.vpf_tiling.specs.Tiles.{tiled_library}
use Rattle.vpf_tiling_laws.specs.Inner.Tiled.Laws.{MapIsNamed}
use Rattle.vpf_tiling_laws.specs.Gluing.Whole.{Whole, WholeEntity, WholeFace, whole_named, whole_of}
use Rattle.vpf_tiling_laws.specs.Gluing.Glued.{whole_coverage, tiles_of_faces}
use Rattle.vpf_tiling_laws.specs.Inner.Gluing.Gluing.{GluingGivesRenumbered, WholeIsNamed}
use Rattle.vpf_tiling_laws.proofs.gluing.DartLemmas.{carried_are_named, faces_of_darts_are_named, marks_are_named, nodes_are_named, order_is_named, universe_is_named}
use Rattle.vpf_tiling_laws.proofs.gluing.FaceLemmas.{faces_are_named}
use Rattle.vpf_tiling_laws.proofs.gluing.EntityLemmas.{entities_are_named}

-- two of them are the same where each field is
whole_equal : (v w : Whole) → v.darts ≡ w.darts → v.order ≡ w.order → v.mark ≡ w.mark → v.carried ≡ w.carried → v.face ≡ w.face → v.node ≡ w.node
    → v.universe ≡ w.universe → v.faces ≡ w.faces → v.entities ≡ w.entities → v ≡ w
whole_equal v w a b c d e f g h i =
    ap (λ (z : DartMap). record {
      darts =
          z;
      order = v.order;
      mark = v.mark;
      carried = v.carried;
      face = v.face;
      node = v.node;
      universe = v.universe;
      faces = v.faces;
      entities = v.entities;
    }) a
    ∙ ap (λ (z : List ℕ). record {
      darts =
          w.darts;
      order = z;
      mark = v.mark;
      carried = v.carried;
      face = v.face;
      node = v.node;
      universe = v.universe;
      faces = v.faces;
      entities = v.entities;
    }) b
    ∙ ap (λ (z : ℕ → Option ℕ). record {
      darts =
          w.darts;
      order = w.order;
      mark = z;
      carried = v.carried;
      face = v.face;
      node = v.node;
      universe = v.universe;
      faces = v.faces;
      entities = v.entities;
    }) c
    ∙ ap (λ (z : ℕ → List Value). record {
      darts = w.darts;
      order = w.order;
      mark = w.mark;
      carried = z;
      face = v.face;
      node = v.node;
      universe = v.universe;
      faces = v.faces;
      entities = v.entities;
    }) d
    ∙ ap (λ (z : ℕ → Option Beyond). record {
      darts =
          w.darts;
      order = w.order;
      mark = w.mark;
      carried = w.carried;
      face = z;
      node = v.node;
      universe = v.universe;
      faces = v.faces;
      entities = v.entities;
    }) e
    ∙ ap (λ (z : ℕ → List Value). record {
      darts =
          w.darts;
      order = w.order;
      mark = w.mark;
      carried = w.carried;
      face = w.face;
      node = z;
      universe = v.universe;
      faces = v.faces;
      entities = v.entities;
    }) f
    ∙ ap (λ (z : List Value). record {
      darts = w.darts;
      order = w.order;
      mark = w.mark;
      carried = w.carried;
      face = w.face;
      node = w.node;
      universe = z;
      faces = v.faces;
      entities = v.entities;
    }) g
    ∙ ap (λ (z : List WholeFace). record {
      darts =
          w.darts;
      order = w.order;
      mark = w.mark;
      carried = w.carried;
      face = w.face;
      node = w.node;
      universe = w.universe;
      faces = z;
      entities = v.entities;
    }) h
    ∙ ap (λ (z : Option (List WholeEntity)). record {
      darts = w.darts;
      order = w.order;
      mark = w.mark;
      carried = w.carried;
      face = w.face;
      node = w.node;
      universe = w.universe;
      faces = w.faces;
      entities = z;
    }) i

pub whole_is_named : MapIsNamed → WholeIsNamed
whole_is_named named c plan tiles w =
    whole_equal (whole_of (tiled_library c plan tiles)) (whole_named c plan tiles) (named c plan tiles w) (order_is_named c plan tiles w)
    (marks_are_named c plan tiles w) (carried_are_named c plan tiles w) (faces_of_darts_are_named c plan tiles w) (nodes_are_named c plan tiles w)
    (universe_is_named c plan tiles w) (faces_are_named c plan tiles w) (entities_are_named c plan tiles w)

pub gluing_gives_renumbered : MapIsNamed → GluingGivesRenumbered
gluing_gives_renumbered named c plan tiles w = (
    let e : whole_of (tiled_library c plan tiles) ≡ whole_named c plan tiles = whole_is_named named c plan tiles w in
    (ap whole_coverage e, ap tiles_of_faces e))
