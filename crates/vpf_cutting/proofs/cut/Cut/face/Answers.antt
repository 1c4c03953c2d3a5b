use Rattle.std.proofs.Common.{ap, ◌∙◌, subst}
use Rattle.vpf_darts.specs.Darts.{dart_code}
use Rattle.vpf_tiling.specs.Presence.{face_of}
use Rattle.vpf_cutting.specs.Inner.Cuts.{Cutting, IsPlanned}
use Rattle.vpf_cutting.proofs.DartLemmas.{face_row}
use Rattle.vpf_cutting.proofs.cut.Cut.face.Goals as goal

pub returns-clause-value : goal.returns-clause-value
returns-clause-value c = c.face_of_dart.ensures ∙ ap (λ (k : Cutting). face_of k.source (dart_code c.args.dart)) c.self.view_is

pub returns-clause-row : goal.returns-clause-row
returns-clause-row c =
    let planned : IsPlanned c.args.self.now = subst IsPlanned c.self.view_is c.self.invariant.planned in
    face_row c.args.self.now planned c.args.dart c.face_of_dart.result c.requires (returns-clause-value c)
