use Rattle.std.specs.Prelude.{flat_map}
use Rattle.vpf_cutting.specs.Inner.Cuts.{plan_by}
use Rattle.vpf_tiling.specs.Ranks.{up_to}
use Rattle.vpf_library_files.specs.TableFiles.Adding.{AreAdded}
use Rattle.vpf_tiler.specs.TileFiles.Tables.{tables_if_made}
use Rattle.vpf_tiler.proofs.tile_files.making.Making.add_all.Given as goal

abbrev pub invariant-loop-below : goal.invariant-loop-below
invariant-loop-below l =
    AreAdded (flat_map (tables_if_made l.cov l.paths l.self.forms l.self.cut.now.source (plan_by l.self.cut.now.plan) l.self.cut.now.tiles) (up_to l.below))
    l.fn.files.items l.files.items
