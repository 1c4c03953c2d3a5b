use Rattle.std.proofs.Common.{◌≡◌, ◌∙◌, ap}
use Rattle.vpf_head.specs.Head.{Head}
use Rattle.vpf_table.specs.Grid.{Grid}
use Rattle.vpf_library_files.specs.Loading.Loading.{within}
use Rattle.vpf_features.proofs.FileLemmas.{same_table}
use Rattle.vpf_features.proofs.opening.open_table.Goals as goal

pub open_indexes-requires : goal.open_indexes-requires
open_indexes-requires c =
    let folder = c.requires.0 in
    let table = c.requires.1.0 in
    let h = c.requires.1.1 in
    let same : c.in_ok-table.table ≡ table.grid = c.in_ok-table.ensures (within folder table.name) table.grid h.own in
    let order : c.order.result ≡ table.grid.head.order = c.order.ensures ∙ ap (λ (x : Head). x.order) (c.header.ensures ∙ ap (λ (g : Grid). g.head) same) in
    (table.indexes, rw (order, c.deref.ensures.value) h.indexes)

pub returns : goal.returns
returns c = λ folder table h.
    let same : c.in_ok-table.table ≡ table.grid = c.in_ok-table.ensures (within folder table.name) table.grid h.own in
    let order : c.order.result ≡ table.grid.head.order = c.order.ensures ∙ ap (λ (x : Head). x.order) (c.header.ensures ∙ ap (λ (g : Grid). g.head) same) in
    same_table table _ c.in_ok-table.table _ h.name same (c.in_ok-indexes.ensures table.indexes (rw (order, c.deref.ensures.value) h.indexes))
