use Rattle.std.proofs.Common.{◌≡◌, ℕ, ◌-◌, Ok, ap, ◌∙◌, arith}
use Rattle.vpf_value.specs.Values.{view}
use Rattle.vpf_feed.proofs.row_form.Sizes.{whole_tells}
use Rattle.vpf_feed.proofs.row_form.looking.look_at.Goals as goal

pub returns-in-Ok : goal.returns-in-Ok
returns-in-Ok c =
    let z : c.in-Ok.past - 0 ≡ c.in-Ok.past = omega arith in
    whole_tells c.cells_and_headers.ensures c.args.order c.args.field c.args.bytes.now (view c.in-Ok.field-0-0) c.in-Ok.past c.bytes_are_bytes.ensures c.requires (c.in-Ok.ensures.exact.1 ∙ ap (λ (n : ℕ). Ok (view c.in-Ok.field-0-0, n)) z)
