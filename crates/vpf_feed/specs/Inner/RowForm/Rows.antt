-- What is true of the form of the rows of each header.
use Rattle.std.specs.Prelude.{◌≡◌, ◌<◌, Some, length}
use Rattle.std.specs.List.{All}
use Rattle.vpf_feed.specs.declared.row_form.form.RowForm.{RowForm}
use Rattle.vpf_feed.specs.Inner.RowForm.Form.{IsCutEmpty}
use Rattle.vpf_feed.specs.Inner.RowForm.Widths.{told_row}

-- each cell takes bytes, and there is one; a width that is kept is that of each row
pub record IsForm (form : RowForm) : Type 0 where
  pub cut : All IsCutEmpty form.fields.items
  pub some : length form.fields.items ≡ 0 → ⊥
  pub wide : 0 < form.width → told_row form.order form.fields.items ≡ Some form.width
