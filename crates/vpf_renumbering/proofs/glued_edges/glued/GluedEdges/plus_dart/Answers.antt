use Rattle.std.proofs.Common.{◌≡◌, true, sym, ◌∙◌, subst}
use Rattle.vpf_darts.specs.Darts.{tile_dart_code}
use Rattle.vpf_prims.specs.Coverages.{CoverageTables}
use Rattle.vpf_prims.specs.Libraries.{library_of}
use Rattle.vpf_wing.specs.Inner.DartLaws.{stands_in}
use Rattle.vpf_wing.specs.Links.{links_of}
use Rattle.vpf_follow.specs.Following.{library_map}
use Rattle.vpf_tiling_laws.specs.Gluing.Glued.{plus_darts}
use Rattle.vpf_tiling_laws.specs.Gluing.Whole.{whole_of}
use Rattle.vpf_renumbering.proofs.glued_edges.KeepLemmas.{paired_of, plus_other, plus_same}
use Rattle.vpf_renumbering.proofs.glued_edges.PlusLemmas.{plus_there}
use Rattle.vpf_renumbering.proofs.glued_edges.glued.GluedEdges.plus_dart.Goals as goal

pub returns-then-dart-clause-dart : goal.returns-then-dart-clause-dart
returns-then-dart-clause-dart c =
    subst (λ (v : CoverageTables). tile_dart_code c.flip.result ≡ (library_map (links_of (library_of v))).flip (tile_dart_code c.args.dart)) c.self.view_is c.flip.ensures
    ∙ plus_other (library_of c.args.self.now) c.args.dart c.if-dart.true

pub returns-then-dart-clause-there : goal.returns-then-dart-clause-there
returns-then-dart-clause-there c =
    subst (λ x. stands_in x (plus_darts (whole_of (library_of c.args.self.now))) ≡ true) (sym (returns-then-dart-clause-dart c))
    (plus_there (library_of c.args.self.now)
    (paired_of c.self.inside c.args.self.now c.self.view_is c.self.invariant c.makes_map.ensures.map c.makes_map.ensures.signs) (tile_dart_code c.args.dart) c.requires)

pub returns-else-dart-clause-dart : goal.returns-else-dart-clause-dart
returns-else-dart-clause-dart c = plus_same (library_of c.args.self.now) c.args.dart c.if-dart.false

pub returns-else-dart-clause-there : goal.returns-else-dart-clause-there
returns-else-dart-clause-there c =
    subst (λ x. stands_in x (plus_darts (whole_of (library_of c.args.self.now))) ≡ true) (sym (plus_same (library_of c.args.self.now) c.args.dart c.if-dart.false))
    (plus_there (library_of c.args.self.now)
    (paired_of c.self.inside c.args.self.now c.self.view_is c.self.invariant c.makes_map.ensures.map c.makes_map.ensures.signs) (tile_dart_code c.args.dart) c.requires)
