use Rattle.std.proofs.Common.{◌≡◌, ◌∷◌, ◌++◌, map, take, string_bytes}
use Rattle.std.specs.List.{flat_map}
use Rattle.vpf_source.specs.Names.Naming.{slash}
use Rattle.vpf_library_files.proofs.tileref.naming.put_path.Given as goal

abbrev pub invariant-loop-folder : goal.invariant-loop-folder
invariant-loop-folder l =
    string_bytes l.text ≡ string_bytes l.initial.text ++ flat_map (λ other. slash ∷ other) (map (λ folder. folder.now) (take l.folder-index l.others))
