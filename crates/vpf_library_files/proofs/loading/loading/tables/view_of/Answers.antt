use Rattle.std.proofs.Common.{◌≡◌, Ok, Some, refl, sym, ◌∙◌}
use Rattle.vpf_base.proofs.Results.{ok_is}
use Rattle.vpf_table.specs.Opening.{opened_of}
use Rattle.vpf_table.specs.Spans.{IsOpened}
use Rattle.vpf_library_files.proofs.loading.OneTable.{opened_beside}
use Rattle.vpf_library_files.proofs.loading.loading.tables.view_of.Goals as goal

pub with_own_index-requires : goal.with_own_index-requires
with_own_index-requires c =
    let bytes = c.args.table.bytes in
    let grid = c.args.table.grid in
    let here : IsOpened grid bytes (Some c.in-Some.index.bytes) = rw c.in-Some.is at (opened_beside c.requires.0 bytes grid c.args.index.now c.requires.1) in
    let is : opened_of bytes (Some c.in-Some.index.bytes) ≡ Ok grid = c.spelled_is_opened.ensures bytes (Some c.in-Some.index.bytes) grid here in
    rw (c.as_slice.ensures, is) refl

pub returns-in-Some : goal.returns-in-Some
returns-in-Some c =
    let bytes = c.args.table.bytes in
    let grid = c.args.table.grid in
    let here : IsOpened grid bytes (Some c.in-Some.index.bytes) = rw c.in-Some.is at (opened_beside c.requires.0 bytes grid c.args.index.now c.requires.1) in
    let is : opened_of bytes (Some c.in-Some.index.bytes) ≡ Ok grid = c.spelled_is_opened.ensures bytes (Some c.in-Some.index.bytes) grid here in
    let own : opened_of bytes (Some c.in-Some.index.bytes) ≡ Ok c.with_own_index.result = rw c.as_slice.ensures at c.with_own_index.ensures.exact in
    ok_is (sym own ∙ is)
