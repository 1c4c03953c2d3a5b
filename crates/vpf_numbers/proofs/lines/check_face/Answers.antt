use Rattle.std.proofs.Common.{◌≡◌, ◌∙◌, Err, Ok, ap, sym, true, false}
use Rattle.std.specs.Prelude.{◌&&◌}
use Rattle.std.proofs.lemmas.Result.{err_from_is_err_and}
use Rattle.vpf_triplet.specs.declared.triplets.Triplet.{Triplet}
use Rattle.vpf_value.specs.Values.{Value, view}
use Rattle.vpf_findings.specs.declared.finding.TableName.TheVariants as names
use Rattle.vpf_prims.specs.Columns.{role_at}
use Rattle.vpf_prims.specs.References.{cell_at, reference_in}
use Rattle.vpf_numbers.specs.Around.{rows_there}
use Rattle.vpf_numbers.specs.RowLines.{is_first}
use Rattle.vpf_numbers.proofs.BeyondLemmas.{cross_told}
use Rattle.vpf_numbers.proofs.lines.check_face.Goals as goal
use Rattle.vpf_numbers.proofs.lines.check_face.Goals.{then-is_tiled, else-is_tiled}

pub returns-in_err-check_beyond-clause-first : goal.returns-in_err-check_beyond-clause-first
returns-in_err-check_beyond-clause-first c =
    let A = c.args.around.now in
    let column = role_at c.args.column.now in
    let seen = view c.next_cell-cell.result in
    let there = c.rows-there.ensures ∙ ap (λ (r : Triplet). rows_there A names.Fac r.tile) c.reference_in-reference.ensures in
    let may : c.if-is_tiled.allowed ≡ (A.is_tiled && is_first (reference_in seen).id) =
    elim c.if-is_tiled.branch [
      | then-is_tiled w ↦
          let tiled : A.is_tiled ≡ true = sym c.is_tiled.ensures ∙ w.if-is_tiled.true in
          rw tiled (w.allowed-is ∙ w.is_first-allowed.ensures ∙ ap (λ (r : Triplet). is_first r.id) c.reference_in-reference.ensures)
      | else-is_tiled w ↦ let tiled : A.is_tiled ≡ false = sym c.is_tiled.ensures ∙ w.if-is_tiled.false in rw tiled (w.allowed-is ∙ w.if-is_tiled.false)
    ] in
    let p = err_from_is_err_and c.from_residual-in_err-check_beyond.result c.from_residual-in_err-check_beyond.ensures.1 in
    rw (p.1, p.2) (cross_told {V = Unit {0}} (Err c.in_err-check_beyond.field-0.0) c.args.at A names.Fac 2 c.args.last c.args.k column (λ (v : Value). A.is_tiled && is_first (reference_in v).id) seen (cell_at c.args.row.now column.place)
    c.rows-there.result c.if-is_tiled.allowed c.next_cell-cell.ensures.cell there may c.in_ok-number_in_cell.ensures.first c.in_err-check_beyond.ensures)

pub returns-clause-first : goal.returns-clause-first
returns-clause-first c =
    let A = c.args.around.now in
    let column = role_at c.args.column.now in
    let seen = view c.next_cell-cell.result in
    let there = c.rows-there.ensures ∙ ap (λ (r : Triplet). rows_there A names.Fac r.tile) c.reference_in-reference.ensures in
    let may : c.if-is_tiled.allowed ≡ (A.is_tiled && is_first (reference_in seen).id) =
    elim c.if-is_tiled.branch [
      | then-is_tiled w ↦
          let tiled : A.is_tiled ≡ true = sym c.is_tiled.ensures ∙ w.if-is_tiled.true in
          rw tiled (w.allowed-is ∙ w.is_first-allowed.ensures ∙ ap (λ (r : Triplet). is_first r.id) c.reference_in-reference.ensures)
      | else-is_tiled w ↦ let tiled : A.is_tiled ≡ false = sym c.is_tiled.ensures ∙ w.if-is_tiled.false in rw tiled (w.allowed-is ∙ w.if-is_tiled.false)
    ] in
    cross_told {V = Unit {0}} (Ok tt) c.args.at A names.Fac 2 c.args.last c.args.k column (λ (v : Value). A.is_tiled && is_first (reference_in v).id) seen (cell_at c.args.row.now column.place)
    c.rows-there.result c.if-is_tiled.allowed c.next_cell-cell.ensures.cell there may c.in_ok-number_in_cell.ensures.first c.in_ok-check_beyond.ensures
