use Rattle.std.proofs.Common.{◌≡◌, ℕ, List, true, ◌∙◌, subst, rules}
use Rattle.vpf_cutting.specs.Inner.Cuts.{plan_by}
use Rattle.vpf_tiling.specs.Tiles.{is_made}
use Rattle.vpf_library_files.specs.TableFiles.Adding.{Adds}
use Rattle.vpf_tiler.specs.TileFiles.Tables.{tile_tables}
use Rattle.vpf_tiler.proofs.tile_files.making.Making.add_if_made.Goals as goal

pub returns : goal.returns
returns c =
    let plan = plan_by c.args.self.now.cut.now.plan in
    let made : is_made c.args.self.now.cut.now.source plan c.args.self.now.cut.now.tiles c.args.tile ≡ true = search rules in
    rw made (subst (λ (folder : List ℕ). Adds (tile_tables folder c.args.self.now.forms c.args.self.now.cut.now.source plan c.args.tile)
    c.args.files.now.items c.add_tile.new.files.items c.add_tile.result) (c.as_str.ensures.value ∙ c.in_ok-folder.ensures) c.add_tile.ensures)
