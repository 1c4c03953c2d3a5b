use Rattle.std.proofs.Common.{ap, ◌∙◌, subst, sym, length}
use Rattle.vpf_darts.specs.Darts.{dart_code}
use Rattle.vpf_prims.specs.Numbering.{IsRowOf}
use Rattle.vpf_prims.specs.Reading.{primitives_of}
use Rattle.vpf_tiling.specs.Presence.{next_of}
use Rattle.vpf_cutting.specs.Inner.Cuts.{Cutting, IsPlanned}
use Rattle.vpf_cutting.proofs.DartLemmas.{next_row}
use Rattle.vpf_cutting.proofs.RowLemmas.{next_is, next_some}
use Rattle.vpf_cutting.proofs.cut.Cut.next.Goals as goal

pub unreachable-requires : goal.unreachable-requires
unreachable-requires c =
    let planned = c.self.invariant.planned in
    let row : IsRowOf (length (primitives_of c.self.inside.tile.now.tables).edges) c.args.dart.edge =
    subst (λ (k : Cutting). IsRowOf (length k.source.edges) c.args.dart.edge) (sym c.self.view_is) c.requires in
    next_some (primitives_of c.self.inside.tile.now.tables) planned.tileable.few planned.tileable.well_formed c.names_its_own.ensures c.args.dart row c.in-None.ensures

pub returns-clause-next : goal.returns-clause-next
returns-clause-next c =
    let planned = c.self.invariant.planned in
    let row : IsRowOf (length (primitives_of c.self.inside.tile.now.tables).edges) c.args.dart.edge =
    subst (λ (k : Cutting). IsRowOf (length k.source.edges) c.args.dart.edge) (sym c.self.view_is) c.requires in
    next_is (primitives_of c.self.inside.tile.now.tables) planned.tileable.few planned.tileable.well_formed c.names_its_own.ensures c.args.dart c.in-Some.next row c.in-Some.ensures
    ∙ ap (λ (k : Cutting). next_of k.source (dart_code c.args.dart)) c.self.view_is

pub returns-clause-row : goal.returns-clause-row
returns-clause-row c =
    let planned : IsPlanned c.args.self.now = subst IsPlanned c.self.view_is c.self.invariant.planned in
    next_row c.args.self.now planned c.args.dart c.in-Some.next c.requires (returns-clause-next c)
