use Rattle.std.proofs.Common.{◌≡◌, ◌+◌, ◌∷◌, length, drop, get_or}
use Rattle.std.proofs.lemmas.List.{drop_more, drop_all}
use Rattle.vpf_write.specs.declared.turning.Field.{Field}
use Rattle.vpf_value.specs.declared.turning.WordSize.TheVariants.{One}
use Rattle.vpf_write.proofs.Pieces.{fields_begun, field_step, fields_done}
use Rattle.vpf_write.proofs.turning.turn_rows.Goals as goal

pub loop-field-init : goal.loop-field-init
loop-field-init c = fields_begun c.args.width (length c.args.rows.now) c.args.fields.now c.args.rows.now c.requires.whole

pub loop-field-preserved : goal.loop-field-preserved
loop-field-preserved c =
    let fields = c.args.fields.now in
    let i = c.loop-field.field-index in
    let none : Field = record { word = One; width = 0 } in
    let rest : drop i fields ≡ get_or fields i none ∷ drop (i + 1) fields = drop_more fields i none c.loop-field-test.true in
    field_step c.loop-field.from c.args.width _ (get_or fields i none) (drop (i + 1) fields) c.loop-field.rows c.turn_field.new.rows _ c.loop-field.auto.rows c.turn_field.ensures (rw rest at c.loop-field.invariant)

pub returns : goal.returns
returns c = fields_done c.loop-field.from c.args.width _ (drop c.loop-field.field-index c.args.fields.now) c.loop-field.rows _ (drop_all _ _ c.loop-field-test.false) c.loop-field.invariant
