-- What is asked for where a library is made of another.
use Rattle.std.specs.Prelude.{ℕ, ◌||◌, ◌&&◌, ◌==◌, Bool, List, [], ◌∷◌, length, nat_eq, nat_le, slice_index_or, if◌then◌else◌, Option, Some, None}
use Rattle.std.specs.List.{ends_with, starts_with}
use Rattle.vpf_source.specs.Names.Naming.{coverage_name, file_name, slash}
use Rattle.vpf_library_commands.specs.declared.requesting.MakeRequest.{MakeRequest}

-- the parts of the name of a folder are the first parts of this name: it begins with that of the folder, and ends there or goes on behind a slash
abbrev pub is_in_folder : (folder name : List ℕ) → Bool
is_in_folder folder name =
    starts_with nat_eq name folder
    && (nat_le (length name) (length folder) || (ends_with nat_eq folder (slash ∷ []) || (slice_index_or name (length folder) 0 == slash)))

-- the request of a library, a coverage and a folder for the one that is made, which can't be within the library that is read
abbrev pub make_request_of : Option (List ℕ) → Option (List ℕ) → Option (List ℕ) → Option MakeRequest
make_request_of None cov out = None
make_request_of (Some lib) None out = None
make_request_of (Some lib) (Some cov) None = None
make_request_of (Some lib) (Some cov) (Some out) = if is_in_folder lib out then None else Some (record { lib = lib; cov = cov; out = out })

-- the request that the words after the verb spell
abbrev pub make_request : List (List ℕ) → Option MakeRequest
make_request (lib ∷ cov ∷ out ∷ []) = make_request_of (file_name lib) (coverage_name cov) (file_name out)
make_request words = None
