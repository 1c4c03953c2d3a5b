use Rattle.std.proofs.Common.{◌≡◌, ℕ, ◌<◌, ◌≤◌, List, length, ap, ◌∙◌, subst, arith}
use Rattle.std.proofs.lemmas.List.{append-nil}
use Rattle.std.proofs.lemmas.Option.{slice_get_past}
use Rattle.vpf_head.specs.Head.{Head}
use Rattle.vpf_library_files.specs.Loading.Loading.{within}
use Rattle.vpf_theme.specs.declared.layout.Form.{Form}
use Rattle.vpf_theme.specs.Findings.{cells_of}
use Rattle.vpf_theme_build.specs.Building.{built_by}
use Rattle.vpf_feature_writing.specs.Inner.Adding.{AddsMade}
use Rattle.vpf_feature_writing.specs.Making.{index_made_by}
use Rattle.vpf_feature_writing.proofs.StepLemmas.{column_at}
use Rattle.vpf_feature_writing.proofs.indexes.add_index.Goals as goal

pub returns-then-c-len : goal.returns-then-c-len
returns-then-c-len c =
    let columns = c.args.view.now.table.head.columns in
    let many : c.len.result ≡ length columns = c.len.ensures.value ∙ ap (λ (head : Head). length head.columns) c.header.ensures in
    let past : length columns ≤ c.args.c = omega arith in
    rw (c.in-Some.is, slice_get_past columns c.args.c past, append-nil c.args.files.now.items)

pub returns : goal.returns
returns c =
    let grid = c.args.view.now.table in
    let many : c.len.result ≡ length grid.head.columns = c.len.ensures.value ∙ ap (λ (head : Head). length head.columns) c.header.ensures in
    let inside : c.args.c < length grid.head.columns = omega arith in
    let column = column_at grid.head.columns c.args.c inside in
    let name = c.as_bytes-name.ensures.value ∙ c.as_str.ensures in
    let folder = c.args.folder.now in
    let want = λ (file : List ℕ) (form : Form). built_by grid.head.order file form column.0 (cells_of grid c.args.c) column.0.count in
    let Added = λ (file : List ℕ) (form : Form). AddsMade (index_made_by (within folder c.in-Some.index.file.now) (want file form))
    c.args.files.now.items c.add_built.new.files.items c.add_built.result in
    let added = c.add_built.ensures (want c.as_bytes-name.result.now c.form.result) (c.build-built.ensures.bytes column.0 column.1) in
    rw (c.in-Some.is, column.1) (subst (λ (form : Form). Added c.args.view.now.name.now form) c.form.ensures
    (subst (λ (file : List ℕ). Added file c.form.result) name added))
