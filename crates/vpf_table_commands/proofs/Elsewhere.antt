-- An index is made under another name than the table's.
use Rattle.std.proofs.Common.{◌≡◌, ℕ, Bool, true, false, List, [], ◌∷◌, Option, None, Some, refl}
use Rattle.std.specs.Prelude.{if◌then◌else◌}
use Rattle.std.specs.Str.{bytes_eq}
use Rattle.vpf_theme.specs.declared.layout.Form.{Form}
use Rattle.vpf_source.specs.Names.Naming.{file_name}
use Rattle.vpf_table_commands.specs.declared.indexing.IndexRequest.{IndexRequest}
use Rattle.vpf_table_commands.specs.Index.{IndexesElsewhere, IsElsewhere, form_named, index_request_of}

made_elsewhere : (same : Bool) (request : IndexRequest) → bytes_eq request.file request.out ≡ same → IsElsewhere (if same then None else Some request)
made_elsewhere true request e = tt
made_elsewhere false request e = e

of_elsewhere : (file : Option (List ℕ)) (column : List ℕ) (form : Option Form) (out : Option (List ℕ)) → IsElsewhere (index_request_of file column form out)
of_elsewhere None column form out = tt
of_elsewhere (Some file) column None out = tt
of_elsewhere (Some file) column (Some form) None = tt
of_elsewhere (Some file) column (Some form) (Some out) = made_elsewhere (bytes_eq file out) (record { file = file; column = column; form = form; out = out }) refl

pub indexes_elsewhere : IndexesElsewhere
indexes_elsewhere [] = tt
indexes_elsewhere (a ∷ []) = tt
indexes_elsewhere (a ∷ b ∷ []) = tt
indexes_elsewhere (a ∷ b ∷ c ∷ []) = tt
indexes_elsewhere (file ∷ column ∷ kind ∷ out ∷ []) = of_elsewhere (file_name file) column (form_named kind) (file_name out)
indexes_elsewhere (a ∷ b ∷ c ∷ d ∷ e ∷ words) = tt
