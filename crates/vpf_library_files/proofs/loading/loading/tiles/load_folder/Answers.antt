use Rattle.std.proofs.Common.{rules, ◌≡◌, Bool, List, Option, ℕ, subst}
use Rattle.vpf_library_files.specs.Loading.Loading.{LoadedTile, read_tile, within}
use Rattle.vpf_library_files.specs.Loading.Loads.{AddsTile, LoadsAs}
use Rattle.vpf_library_files.proofs.loading.loading.tiles.load_folder.Goals as goal

-- src/loading/tiles.rt:127:1
pub returns-clause-reads : goal.returns-clause-reads
returns-clause-reads g c =
    let same : c.as_str.result.now ≡ within c.args.folder.now c.args.path.now = search rules in
    subst (λ (folder : List ℕ). LoadsAs {V = Bool} {W = Option LoadedTile} (g.T.Tree.files c.args.tree.now) (λ held. read_tile held folder c.args.loaded.now)
    (λ there tile. AddsTile folder c.args.tables.now c.load_tile.new.tables there tile) c.load_tile.result c.load_tile.new.loaded) same c.load_tile.ensures.reads
