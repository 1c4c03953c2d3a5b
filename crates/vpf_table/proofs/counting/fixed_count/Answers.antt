use Rattle.std.proofs.Common.{◌≡◌, ◌+◌, ◌-◌, ◌*◌, ◌/◌, ◌≤◌, ℕ, length, sym, ap, ◌∙◌, arith, Ok}
use Rattle.std.proofs.Math.Nat.{mul-le-mul_left}
use Rattle.vpf_base.specs.Limits.{most_rows}
use Rattle.vpf_table.proofs.FixedWidth.{rows_whole, row_ends}
use Rattle.vpf_table.proofs.WalkLemmas.{rows_done, rows_full, row_refused}
use Rattle.vpf_table.proofs.counting.fixed_count.Goals as goal

pub overflow_mul-past : goal.overflow_mul-past
overflow_mul-past c =
    let whole = c.min-whole.result in
    let w = c.args.width in
    let room = length c.args.bytes.now - c.args.at in
    let fits : w * whole ≤ w * (room / w) = mul-le-mul_left w (omega arith) in
    omega (arith, fits)

pub returns-then-past-bytes : goal.returns-then-past-bytes
returns-then-past-bytes c =
    let head = c.args.header.now in
    let bytes = c.args.bytes.now in
    let whole = c.min-whole.result in
    let past = c.args.at + whole * c.args.width in
    let step = rows_whole c.fixed_cells.ensures whole most_rows 0 head.order head.columns bytes c.args.at c.args.width c.requires.fixed c.requires.some (omega arith) (omega (arith, c.if-past-bytes.true)) in
    sym (step ∙ rows_done (most_rows - whole) (0 + whole) head.order head.columns bytes past (omega (arith, c.if-past-bytes.true)) ∙ ap (λ (n : ℕ). Ok n) (omega arith))

pub returns-then-whole : goal.returns-then-whole
returns-then-whole c =
    let head = c.args.header.now in
    let bytes = c.args.bytes.now in
    let whole = c.min-whole.result in
    let w = c.args.width in
    let past = c.args.at + whole * w in
    let room = length bytes - c.args.at in
    let fits : w * whole ≤ w * (room / w) = mul-le-mul_left w (omega arith) in
    let inside : past ≤ length bytes = omega (arith, fits) in
    let step = rows_whole c.fixed_cells.ensures whole most_rows 0 head.order head.columns bytes c.args.at w c.requires.fixed c.requires.some (omega arith) inside in
    rw c.in_table.ensures (sym (step ∙ rows_full (most_rows - whole) (0 + whole) head.order head.columns bytes past (omega (arith, c.if-whole.true)) (omega (arith, inside, c.if-past-bytes.false))))

pub unreachable-requires : goal.unreachable-requires
unreachable-requires c =
    let head = c.args.header.now in
    let bytes = c.args.bytes.now in
    let whole = c.min-whole.result in
    let w = c.args.width in
    let past = c.args.at + whole * w in
    let room = length bytes - c.args.at in
    let all : whole ≡ room / w = omega (arith, c.if-whole.false) in
    let fits : w * whole ≡ w * (room / w) = ap (λ (n : ℕ). w * n) all in
    let end = row_ends c.fixed_cells.ensures head.order head.columns bytes past c.in-Ok.field-0 w c.requires.fixed c.in-Ok.ensures.exact in
    omega (arith, fits, end, c.in-Ok.ensures.inside)

pub returns : goal.returns
returns c =
    let head = c.args.header.now in
    let bytes = c.args.bytes.now in
    let whole = c.min-whole.result in
    let w = c.args.width in
    let past = c.args.at + whole * w in
    let room = length bytes - c.args.at in
    let fits : w * whole ≤ w * (room / w) = mul-le-mul_left w (omega arith) in
    let inside : past ≤ length bytes = omega (arith, fits) in
    let step = rows_whole c.fixed_cells.ensures whole most_rows 0 head.order head.columns bytes c.args.at w c.requires.fixed c.requires.some (omega arith) inside in
    let left : most_rows - whole ≡ 0 → ⊥ = λ z. omega (arith, c.if-whole.false) in
    sym (step ∙ row_refused (most_rows - whole) (0 + whole) head.order head.columns bytes past c.in-Err.place left (omega (arith, inside, c.if-past-bytes.false)) c.in-Err.ensures.exact)
