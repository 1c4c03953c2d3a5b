use Rattle.std.proofs.Common.{String, Global, string_bytes, rules}
use Rattle.vpf_library_files.specs.Tileref.Paths.{path_of}
use Rattle.vpf_library_files.specs.Tileref.Tileref.{text_bytes}
use Rattle.vpf_value.specs.Values.{view}
use Rattle.vpf_library_files.proofs.tileref.TakingLemmas.{put_where_new}
use Rattle.vpf_library_files.proofs.tileref.rows.insert_path.Goals as goal

pub returns-in_ok-insert-in-Some-clause-new : goal.returns-in_ok-insert-in-Some-clause-new
returns-in_ok-insert-in-Some-clause-new c =
    let path = path_of (text_bytes (view c.args.cell)) in
    put_where_new (λ (path : String Global). string_bytes path) c.in-Some.path c.args.paths.now.keys path c.in_ok-insert-in-Some.field-0 (search rules)
    c.in_ok-insert-in-Some.ensures.added
