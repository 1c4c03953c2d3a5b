-- The commands over libraries that words spell, by the verb and the words behind it.
use Rattle.std.proofs.Common.{◌≡◌, ◌∙◌, ℕ, List, ◌∷◌, Some, ap}
use Rattle.std.specs.Prelude.{codes}
use Rattle.std.specs.Option.{option_map}
use Rattle.vpf_library_commands.specs.declared.checking.CheckRequest.{CheckRequest}
use Rattle.vpf_library_commands.specs.declared.requesting.MakeRequest.{MakeRequest}
use Rattle.vpf_library_commands.specs.Check.{check_request}
use Rattle.vpf_library_commands.specs.Make.{make_request}
use Rattle.vpf_run.specs.declared.command.Command.TheVariants.{Check, Trace, Tile, Glue}
use Rattle.vpf_run.specs.Commands.{command_of}

pub check_words : (words rest : List (List ℕ)) (request : CheckRequest) → words ≡ codes "check" ∷ rest → check_request rest ≡ Some request
    → command_of words ≡ Some (Check request)
check_words words rest request e a = ap command_of e ∙ ap (option_map Check) a

pub trace_words : (words rest : List (List ℕ)) (request : CheckRequest) → words ≡ codes "trace" ∷ rest → check_request rest ≡ Some request
    → command_of words ≡ Some (Trace request)
trace_words words rest request e a = ap command_of e ∙ ap (option_map Trace) a

pub tile_words : (words rest : List (List ℕ)) (request : MakeRequest) → words ≡ codes "tile" ∷ rest → make_request rest ≡ Some request
    → command_of words ≡ Some (Tile request)
tile_words words rest request e a = ap command_of e ∙ ap (option_map Tile) a

pub glue_words : (words rest : List (List ℕ)) (request : MakeRequest) → words ≡ codes "glue" ∷ rest → make_request rest ≡ Some request
    → command_of words ≡ Some (Glue request)
glue_words words rest request e a = ap command_of e ∙ ap (option_map Glue) a
