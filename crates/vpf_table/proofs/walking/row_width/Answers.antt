use Rattle.std.proofs.Common.{◌≡◌, ◌+◌, ◌^◌, List, Some, drop, sym, ap, ◌∙◌, rules}
use Rattle.vpf_base.proofs.Lists.{next_item}
use Rattle.vpf_head.specs.Head.{Col}
use Rattle.vpf_head.specs.Inner.Views.{col}
use Rattle.vpf_table.specs.Inner.Widths.{add_width, width_of}
use Rattle.vpf_table.proofs.FixedWidth.{add_step, no_width, wider}
use Rattle.vpf_table.proofs.walking.row_width.Goals as goal

pub loop-i-preserved : goal.loop-i-preserved
loop-i-preserved c =
    let cols = c.args.header.now.columns in
    let split = next_item cols c.loop-i.i (col c.at-column.result.now) c.at-column.ensures in
    let sum : c.in_ok-sum.sum ≡ c.loop-i.sum + c.in_ok-width.width = search rules in
    rw sum (add_step c.loop-i.sum c.in_ok-width.width (width_of cols) (col c.at-column.result.now) (drop (c.loop-i.i + 1) cols) (sym c.in_ok-width.ensures) (ap (λ (x : List Col). add_width (Some c.loop-i.sum) (width_of x)) (sym split) ∙ c.loop-i.invariant))

pub returns-in_err-width-clause-known : goal.returns-in_err-width-clause-known
returns-in_err-width-clause-known c w e l =
    let cols = c.args.header.now.columns in
    let split = next_item cols c.loop-i.i (col c.at-column.result.now) c.at-column.ensures in
    absurd (no_width c.loop-i.sum w (width_of cols) (col c.at-column.result.now) (drop (c.loop-i.i + 1) cols) (sym c.in_err-width.ensures) (ap (λ (x : List Col). add_width (Some c.loop-i.sum) (width_of x)) (sym split) ∙ c.loop-i.invariant) e)

pub returns-in_err-sum-clause-known : goal.returns-in_err-sum-clause-known
returns-in_err-sum-clause-known c w e l =
    let cols = c.args.header.now.columns in
    let split = next_item cols c.loop-i.i (col c.at-column.result.now) c.at-column.ensures in
    let a = add_step c.loop-i.sum c.in_ok-width.width (width_of cols) (col c.at-column.result.now) (drop (c.loop-i.i + 1) cols) (sym c.in_ok-width.ensures) (ap (λ (x : List Col). add_width (Some c.loop-i.sum) (width_of x)) (sym split) ∙ c.loop-i.invariant) in
    absurd (wider (c.loop-i.sum + c.in_ok-width.width) w (2 ^ 64) (width_of (drop (c.loop-i.i + 1) cols)) (a ∙ e) c.in_err-sum.ensures l)
