use Rattle.vpf_cutting.specs.Inner.Cuts.{plan_by}
use Rattle.vpf_darts.specs.declared.darts.TileDart.{TileDart}
use Rattle.vpf_cut_rings.proofs.BeginLemmas.{begins_here}
use Rattle.vpf_cut_rings.proofs.outer.begin_of.Goals as goal
use Rattle.std.proofs.Common.{false}

pub bounds-at-0 : goal.bounds-at-0
bounds-at-0 c =
    let none : TileDart = record { tile = 0; edge = 0; minus = false } in
    (begins_here c.args.cut.now.source (plan_by c.args.cut.now.plan) c.args.tile c.args.cycles.now c.requires.listing c.args.i c.at.result.now none c.at.ensures).some

pub returns-clause-first : goal.returns-clause-first
returns-clause-first c =
    let none : TileDart = record { tile = 0; edge = 0; minus = false } in
    (begins_here c.args.cut.now.source (plan_by c.args.cut.now.plan) c.args.tile c.args.cycles.now c.requires.listing c.args.i c.at.result.now none c.at.ensures).first

pub returns-clause-there : goal.returns-clause-there
returns-clause-there c =
    let none : TileDart = record { tile = 0; edge = 0; minus = false } in
    (begins_here c.args.cut.now.source (plan_by c.args.cut.now.plan) c.args.tile c.args.cycles.now c.requires.listing c.args.i c.at.result.now none c.at.ensures).there
