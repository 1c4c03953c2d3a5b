-- Laws of files that are made one behind another, proved: first some, and then others behind them.
use Rattle.std.proofs.Common.{◌≡◌, refl, sym, ap, ◌∙◌, List, ◌++◌, append_assoc, Result, Ok, Err}
use Rattle.vpf_base.specs.Results.{Told}
use Rattle.vpf_source.specs.declared.file.File.{File}
use Rattle.vpf_library_files.specs.declared.table_files.errors.AddError.{AddError}
use Rattle.vpf_library_files.specs.declared.table_files.errors.AddError.TheVariants as errors
use Rattle.vpf_library_files.specs.TableFiles.Adding.{Adds, NamedTable, error_seen, made_of_tables, unless_limited}
use Rattle.vpf_feature_writing.specs.Inner.Adding.{AddsMade}
use Rattle.vpf_feature_writing.specs.Making.{Made, made_then, then_files}

-- what is made behind some files and others is made behind all of them
behind_both : (old files : List File) (made : Made) → then_files old (then_files files made) ≡ then_files (old ++ files) made
behind_both old files (Ok others) = ap Ok (sym (append_assoc old files others))
behind_both old files (Err error) = refl

-- the first files are made: the others are made behind them
pub first_made : (old mid : List File) (first later : Made) → then_files old first ≡ Ok mid → then_files old (made_then first later) ≡ then_files mid later
first_made old mid (Ok files) later made =
    let all : old ++ files ≡ mid = cc in
    behind_both old files later ∙ ap (λ (fs : List File). then_files fs later) all
first_made old mid (Err error) later made = absurd cc

-- the first aren't: the others don't matter
pub first_fail : (old : List File) (first later : Made) (e : AddError) → Told (error_seen e) (then_files old first) → Told (error_seen e) (then_files old (made_then first later))
first_fail old first later errors.NoMemory told = tt
first_fail old (Ok files) later (errors.Limit name limit) told = absurd cc
first_fail old (Err error) later (errors.Limit name limit) told = told

-- tables that are added are made
pub tables_add : {V : Type 0} (tables : List NamedTable) (old new : List File) (r : Result V AddError) → Adds tables old new r → AddsMade (made_of_tables tables) old new r
tables_add tables old new (Ok v) added = ap (λ limit. then_files old (unless_limited tables limit)) added.0 ∙ ap Ok (sym added.1)
tables_add tables old new (Err errors.NoMemory) added = tt
tables_add tables old new (Err (errors.Limit name limit)) added = ap (λ limit. then_files old (unless_limited tables limit)) added
