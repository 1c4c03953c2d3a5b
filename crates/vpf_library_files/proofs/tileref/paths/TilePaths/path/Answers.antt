use Rattle.std.proofs.Common.{String, Global, ◌∙◌, ap, Some, string_bytes}
use Rattle.vpf_library_files.proofs.tileref.PathLemmas.{numbered_found}
use Rattle.vpf_library_files.proofs.tileref.paths.TilePaths.path.Goals as goal

pub returns : goal.returns
returns c =
    ap Some c.as_str.ensures.value
    ∙ numbered_found (λ (path : String Global). string_bytes path) c.self.inside.paths.keys c.args.self.now c.args.t c.in_ok-place.place
    c.in_ok-path.path.now c.self.view_is c.in_ok-place.ensures.0 c.in_ok-place.ensures.1 c.in_ok-path.ensures.key
