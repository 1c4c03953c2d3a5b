-- Rows of one width.
use Rattle.std.specs.Prelude.{ℕ, List, [], ◌∷◌, Option, Some}
use Rattle.vpf_base.specs.declared.orders.Order.{Order}
use Rattle.vpf_table.specs.Inner.Widths.{add_width}
use Rattle.vpf_feed.specs.declared.row_form.form.Field.{Field}
use Rattle.vpf_feed.specs.Inner.RowForm.Told.{told}

-- how many bytes a row takes, where no byte of it is needed to tell
abbrev pub told_row : Order → List Field → Option ℕ
told_row o [] = Some 0
told_row o (f ∷ fs) = add_width (told o f.kind f.count []) (told_row o fs)
