use Rattle.std.proofs.Common.{Vec, Global, List, ℕ, rules, ap, sym, ◌≡◌, ◌∙◌}
use Rattle.std.specs.Prelude.{codes}
use Rattle.std.proofs.lemmas.Result.{err_from_is_err_and}
use Rattle.vpf_library_files.specs.Loading.Loading.{tileref_name, within}
use Rattle.vpf_library_files.proofs.loading.TilerefLemmas.{bytes_stop, library_loads, library_stops}
use Rattle.vpf_library_files.proofs.loading.loading.tileref.load_tileref.Goals as goal

pub returns-in_err-bytes-clause-reads : goal.returns-in_err-bytes-clause-reads
returns-in_err-bytes-clause-reads g c =
    let named : c.as_str-2.result.now ≡ tileref_name c.args.lib.now = search rules in
    let p = err_from_is_err_and c.from_residual-in_err-bytes.result c.from_residual-in_err-bytes.ensures.1 in
    rw (p.1, p.2) (λ held e. bytes_stop held c.args.lib.now c.as_str-2.result.now c.args.loaded.now c.required_file.new.loaded c.in_err-bytes.field-0.0 named
    (c.in_err-bytes.ensures.told held e))

pub returns-in_err-added-clause-reads : goal.returns-in_err-added-clause-reads
returns-in_err-added-clause-reads g c =
    let named : c.as_str-3.result.now ≡ tileref_name c.args.lib.now = search rules in
    let whole : c.as_str-2.result.now ≡ c.as_str-3.result.now = search rules in
    let p = err_from_is_err_and c.from_residual-in_err-added.result c.from_residual-in_err-added.ensures.1 in
    rw (p.1, p.2) (library_stops (g.T.Tree.files c.args.tree.now) (g.T.Tree.files c.required_file.new.tree) c.args.lib.now c.as_str-3.result.now c.args.loaded.now
    c.required_file.new.loaded c.tileref_in.new.loaded (λ (v : Vec ℕ Global). v.items) c.in_ok-bytes.bytes c.in_err-added.field-0.0 named c.required_file.ensures.only.files
    (λ held e. rw whole at (c.in_ok-bytes.ensures.told held e)) c.in_err-added.ensures.reads)

pub returns-clause-reads : goal.returns-clause-reads
returns-clause-reads g c =
    let aft : List ℕ → List ℕ = λ (x : List ℕ). within x (codes "tileref.aft") in
    let named : c.as_str-3.result.now ≡ tileref_name c.args.lib.now = c.as_str-3.ensures.value ∙ c.in_ok-name.ensures ∙ ap aft (c.as_str.ensures.value ∙ c.in_ok-folder.ensures) in
    let whole : c.as_str-2.result.now ≡ c.as_str-3.result.now = c.as_str-2.ensures.value ∙ sym c.as_str-3.ensures.value in
    library_loads (g.T.Tree.files c.args.tree.now) (g.T.Tree.files c.required_file.new.tree) c.args.lib.now c.as_str-3.result.now c.args.loaded.now
    c.required_file.new.loaded c.tileref_in.new.loaded (λ (v : Vec ℕ Global). v.items) c.in_ok-bytes.bytes c.args.tables.now c.append.new.self c.in_ok-added.added c.in_ok-added.paths
    named c.required_file.ensures.only.files c.requires.none c.in_ok-append.ensures (λ held e. rw whole at (c.in_ok-bytes.ensures.told held e)) c.in_ok-added.ensures.reads
