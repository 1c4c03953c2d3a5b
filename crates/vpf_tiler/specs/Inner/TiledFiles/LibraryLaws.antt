-- The files of the tiled library of a coverage, in a folder that holds them and no others, are the coverage cut into tiles.
use Rattle.std.proofs.Common.{[], ◌≡◌, ◌<◌, ℕ, suc, List, length, get_or, sym, subst, ◌∙◌, arith}
use Rattle.std.specs.List.{AllByRecursion}
use Rattle.std.proofs.lemmas.List.{get_or-map, get_or_default, length-map}
use Rattle.std.proofs.lemmas.List.Elements.{All-map, recursion_from_All}
use Rattle.vpf_table.specs.Grid.{Grid}
use Rattle.vpf_library_files.specs.Tileref.Paths.{IsPath, TilePath, path_text}
use Rattle.vpf_library_files.specs.Tileref.Stops.{path_texts}
use Rattle.vpf_library_files.specs.Tileref.Tileref.{IsTileref, paths_of}
use Rattle.vpf_tiler.specs.Inner.TiledFiles.PathLaws.{one_path, path_is_inner, IsInner}

-- a path for each tile, each of them its own
pub record HaveOwnPaths (paths : List (List ℕ)) : Type 0 where
  pub inner : AllByRecursion IsInner paths
  pub apart : (j k : ℕ) → j < length paths → k < length paths → get_or paths j [] ≡ get_or paths k [] → j ≡ k

pub own_paths : (tileref : Grid) → IsTileref tileref → HaveOwnPaths (path_texts tileref)
own_paths tileref right =
    let paths = paths_of tileref in
    let many : length paths ≡ length tileref.rows = length-map tileref.rows _ in
    let long : length (path_texts tileref) ≡ length paths = length-map paths path_text in
    let each : (k : ℕ) → k < length paths → IsPath (get_or paths k []) = λ k h. right.paths (suc k) (omega arith, omega (arith, many, h)) in
    let text : (k : ℕ) → k < length paths → get_or (path_texts tileref) k [] ≡ path_text (get_or paths k []) = λ k h. get_or-map path_text paths k [] [] h in
    record {
      inner = recursion_from_All IsInner (path_texts tileref) (All-map IsInner path_text paths (λ k d h.
          subst (λ (p : TilePath). IsInner (path_text p)) (get_or_default paths k [] d h) (path_is_inner (get_or paths k []) (each k h))));
      apart = λ j k h l e.
          let here : j < length paths = omega (arith, long, h) in
          let there : k < length paths = omega (arith, long, l) in
          let same : get_or paths j [] ≡ get_or paths k [] =
          one_path (get_or paths j []) (get_or paths k []) (each j here) (each k there) (sym (text j here) ∙ e ∙ text k there) in
          let one : suc j ≡ suc k = right.apart (suc j) (suc k) (omega arith, omega (arith, many, here)) (omega arith, omega (arith, many, there)) same in
          omega (arith, one);
    }
