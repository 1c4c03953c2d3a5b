use Rattle.std.proofs.Common.{◌≤◌, length, ap, ◌∙◌, arith}
use Rattle.vpf_darts.specs.Darts.{flip}
use Rattle.vpf_darts.specs.Maps.{is_of_any}
use Rattle.vpf_darts.specs.MapLists.{edges_of}
use Rattle.vpf_darts.proofs.RemovalLemmas.{untiled_same, dart_bounds, line_read}
use Rattle.vpf_darts.proofs.removing.KeptWalk.is_passed.Goals as goal

pub overflow_sub-result : goal.overflow_sub-result
overflow_sub-result c = (dart_bounds c.args.self.now.map.now c.args.self.now.lists c.args.dart c.requires).0

pub bounds-self-dart : goal.bounds-self-dart
bounds-self-dart c =
    let b : (1 ≤ c.args.dart.edge) × (c.args.dart.edge ≤ length c.args.self.now.map.now.live) = dart_bounds c.args.self.now.map.now c.args.self.now.lists c.args.dart c.requires in
    omega (arith, b.0, b.1, c.args.self.now.one_each)

pub returns : goal.returns
returns c =
    let low : 1 ≤ c.args.dart.edge = (dart_bounds c.args.self.now.map.now c.args.self.now.lists c.args.dart c.requires).0 in
    line_read c.args.self.now.lines.now (record { edge = c.args.dart.edge; minus = c.args.dart.minus }) low ∙ ap (is_of_any flip (edges_of c.args.self.now.lines.now)) (untiled_same c.args.self.now.map.now c.args.self.now.lists c.args.dart c.requires)
