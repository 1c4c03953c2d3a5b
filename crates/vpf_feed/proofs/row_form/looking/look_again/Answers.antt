use Rattle.std.proofs.Common.{sym, ap, ◌∙◌, Err}
use Rattle.vpf_triplet.specs.declared.places.Code.{Code}
use Rattle.vpf_feed.proofs.row_form.Sizes.{refused_tells, skip_tells, keep_tells}
use Rattle.vpf_feed.proofs.row_form.looking.look_again.Goals as goal

pub returns-in-Some : goal.returns-in-Some
returns-in-Some c = skip_tells c.args.order c.args.field c.args.bytes.now c.in-Some.len (sym c.in-Some.ensures.value) c.in-Some.ensures.small (c.requires ∙ ap (λ (k : Code). Err k) c.in-CellCut.is)

pub returns-in-None : goal.returns-in-None
returns-in-None c = keep_tells c.cells_and_headers.ensures c.args.order c.args.field c.args.bytes.now c.bytes_are_bytes.ensures (sym c.in-None.ensures.value) (c.requires ∙ ap (λ (k : Code). Err k) c.in-CellCut.is)

pub returns-in_default : goal.returns-in_default
returns-in_default c = refused_tells c.cells_and_headers.ensures c.args.order c.args.field c.args.bytes.now c.args.code c.bytes_are_bytes.ensures c.in_default.not-CellCut c.requires
