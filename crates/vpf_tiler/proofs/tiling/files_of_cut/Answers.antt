use Rattle.std.proofs.Common.{List, Result, Vec, Global, ap, rules, subst, sym, ◌∙◌}
use Rattle.std.proofs.lemmas.Result.{err_from_is_err_and}
use Rattle.vpf_base.specs.Results.{Meets}
use Rattle.vpf_source.specs.declared.file.File.{File}
use Rattle.vpf_prims.specs.Reading.{primitives_of}
use Rattle.vpf_cutting.specs.Inner.Cuts.{Cutting}
use Rattle.vpf_library_files.specs.declared.table_files.errors.AddError.{AddError}
use Rattle.vpf_library_files.specs.TableFiles.Adding.{error_seen}
use Rattle.vpf_tiler.proofs.CutLemmas.{making_is}
use Rattle.vpf_tiler.proofs.tiling.files_of_cut.Goals as goal

pub files_with-requires-clause-source : goal.files_with-requires-clause-source
files_with-requires-clause-source c =
    ap (λ (k : Cutting). k.source) c.in_ok-making.ensures.cut ∙ c.requires.cut ∙ ap primitives_of (sym c.in_ok-making.ensures.forms)

pub files_with-requires-clause-rings : goal.files_with-requires-clause-rings
files_with-requires-clause-rings c = c.in_ok-making.ensures.rings ∙ sym c.in_ok-making.ensures.cut

pub files_with-requires-clause-tiles : goal.files_with-requires-clause-tiles
files_with-requires-clause-tiles c = ap (λ (k : Cutting). k.tiles) c.in_ok-making.ensures.cut ∙ c.requires.tiles

pub returns-in_err-making : goal.returns-in_err-making
returns-in_err-making c =
    let p = err_from_is_err_and c.from_residual.result c.from_residual.ensures.1 in
    rw (p.1, p.2) (search rules)

pub returns : goal.returns
returns c =
    subst (λ (o : Result (List File) AddError). Meets (λ (files : Vec File Global). files.items) error_seen c.files_with.result o)
    (making_is c.args.cov.now c.in_ok-making.making.forms c.args.source.now.tables c.in_ok-making.making.cut.now c.args.cut.now c.args.tileref.now
    c.in_ok-making.ensures.forms c.in_ok-making.ensures.cut) c.files_with.ensures
