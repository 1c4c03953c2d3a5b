use Rattle.std.proofs.Common.{sym, false}
use Rattle.vpf_darts.specs.declared.darts.TileDart.{TileDart}
use Rattle.vpf_prims.specs.Libraries.{library_of}
use Rattle.vpf_wing.specs.Links.{links_of}
use Rattle.vpf_follow.specs.Following.{library_map}
use Rattle.vpf_cut_rings.specs.Inner.BeginLaws.{begins}
use Rattle.vpf_renumbering.proofs.glued_faces.universe.begin_of.Goals as goal

pub bounds-at-0 : goal.bounds-at-0
bounds-at-0 c =
    let none : TileDart = record { tile = 0; edge = 0; minus = false } in
    (begins (library_map (links_of (library_of c.args.checked.now))).next (library_map (links_of (library_of c.args.checked.now))).live c.args.cycles.now c.requires.listing c.args.i c.at.result.now none c.at.ensures).some

pub returns-clause-first : goal.returns-clause-first
returns-clause-first c =
    let none : TileDart = record { tile = 0; edge = 0; minus = false } in
    sym (begins (library_map (links_of (library_of c.args.checked.now))).next (library_map (links_of (library_of c.args.checked.now))).live c.args.cycles.now c.requires.listing c.args.i c.at.result.now none c.at.ensures).first

pub returns-clause-home : goal.returns-clause-home
returns-clause-home c =
    let none : TileDart = record { tile = 0; edge = 0; minus = false } in
    (begins (library_map (links_of (library_of c.args.checked.now))).next (library_map (links_of (library_of c.args.checked.now))).live c.args.cycles.now c.requires.listing c.args.i c.at.result.now none c.at.ensures).lives
