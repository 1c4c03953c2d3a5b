-- Nothing is found in the coverage of the grid, since it agrees.
use Rattle.std.proofs.Common.{[], ◌≡◌, ℕ, ◌≤◌, List, ◌∷◌, length, map, None, Some, refl, sym, ap, subst, ◌∙◌}
use Rattle.std.specs.List.{AllByRecursion, enumerate_from}
use Rattle.vpf_table.specs.Grid.{Row}
use Rattle.vpf_findings.specs.Firsts.{◌or◌}
use Rattle.vpf_prims.specs.Coverages.{tile_at}
use Rattle.vpf_prims.specs.Inner.Laws.{AreFilled}
use Rattle.vpf_prims.specs.Reading.{PrimitiveTables}
use Rattle.vpf_prims.specs.Roles.{edge_roles, face_roles, node_roles}
use Rattle.vpf_prims.specs.Suiting.{carried_columns}
use Rattle.vpf_prims.specs.Tables.{TileTables}
use Rattle.vpf_numbers.specs.Inner.Laws.{CoverageNumbersDecide}
use Rattle.vpf_numbers.specs.TableLines.{coverage_numbers}
use Rattle.vpf_cross.specs.CrossFinding.{topology_finding}
use Rattle.vpf_cross.specs.Inner.Laws.{AgreementDecides, AreWhole}
use Rattle.vpf_vectors.specs.Cells.Rows.{edge_rows, face_rows, ring_rows, node_rows}
use Rattle.vpf_library_files.specs.Loading.Loading.{LoadedCoverage, within}
use Rattle.vpf_library_commands.specs.Finding.{featured_finding}
use Rattle.vpf_library_commands.specs.Reading.{unfeatured}
use Rattle.vpf_library_commands.specs.Tile.{parts_finding}
use Rattle.vpf_drill.specs.GridCutting.Reading.{grid_parts, grid_request}
use Rattle.vpf_vectors.specs.Library.{coverage_tables}
use Rattle.vpf_vectors.specs.Tables.{edge_cells, ring_cells, pair_cells}
use Rattle.vpf_drill.specs.Inner.GridAgreement.Agreement.{GridAgrees, GridHasColumns, grid_coverage}
use Rattle.vpf_base.proofs.Options.{none_some}
use Rattle.vpf_drill.proofs.grid_agreement.AgreementLemmas.{one_tile}

-- the rows of these tables are whole
each_row : {X : Type 0} (P : Row → Type 0) (f : X → Row) → ((x : X) → P (f x)) → (xs : List X) → AllByRecursion P (map f xs)
each_row P f p [] = tt
each_row P f p (x ∷ xs) = (p x, each_row P f p xs)

filled : (n : ℕ) → AreFilled (coverage_tables n)
filled n = record {
  edg = each_row (λ (row : Row). length row ≡ 8) edge_cells (λ p. refl) (enumerate_from 1 (edge_rows n));
  fac = each_row (λ (row : Row). length row ≡ 2) pair_cells (λ p. refl) (enumerate_from 1 (face_rows n));
  rng = each_row (λ (row : Row). length row ≡ 3) ring_cells (λ p. refl) (enumerate_from 1 (ring_rows n));
  cnd = each_row (λ (row : Row). length row ≡ 2) pair_cells (λ p. refl) (enumerate_from 1 (node_rows n));
  end = λ grid e. absurd (none_some grid e);
}

-- any two of its tiles have the same tables
alike : (n s t : ℕ) (S T : TileTables) → tile_at (grid_coverage n) s ≡ Some S → tile_at (grid_coverage n) t ≡ Some T → S.tables ≡ T.tables
alike n s t S T e f = one_tile n s S e ∙ sym (one_tile n t T f)

whole : (n : ℕ) → AreWhole (grid_coverage n)
whole n = record {
  filled = λ t T e. subst AreFilled (sym (one_tile n t T e)) (filled n);
  edges = λ s t S T e f. ap (λ (x : PrimitiveTables). length (carried_columns edge_roles x.edg.head.columns)) (alike n s t S T e f);
  faces = λ s t S T e f. ap (λ (x : PrimitiveTables). length (carried_columns face_roles x.fac.head.columns)) (alike n s t S T e f);
  nodes = λ s t S T e f. ap (λ (x : PrimitiveTables). length (carried_columns node_roles x.cnd.head.columns)) (alike n s t S T e f);
}

-- nothing is found on its numbers, nor on its topology
record AreUnfound (n : ℕ) : Type 0 where
  numbers : coverage_numbers (grid_coverage n) ≡ None
  topology : topology_finding (grid_coverage n) ≡ None

both_unfound : CoverageNumbersDecide → AgreementDecides → GridHasColumns → GridAgrees → (n : ℕ) → 1 ≤ n → n ≤ 200 → AreUnfound n
both_unfound numbers topology columns agrees n least most =
    let rows = agrees n least most in
    record {
      numbers = (numbers (grid_coverage n)).1 (columns n, rows.numbered);
      topology = (topology (grid_coverage n) rows.library rows.numbered (whole n)).1 rows;
    }

pub unfound : CoverageNumbersDecide → AgreementDecides → GridHasColumns → GridAgrees → (n : ℕ) → 1 ≤ n → n ≤ 200
    → (coverage_numbers (grid_coverage n) or topology_finding (grid_coverage n)) ≡ None
unfound numbers topology columns agrees n least most =
    let none = both_unfound numbers topology columns agrees n least most in
    rw none.numbers none.topology

-- nor in what is read to cut it, where there are no features
without_features : (folder : List ℕ) (c : LoadedCoverage) → coverage_numbers c.coverage ≡ None → topology_finding c.coverage ≡ None
    → featured_finding folder (unfeatured c) ≡ None
without_features folder c numbers topology = rw (numbers, topology) refl

pub parts_unfound : CoverageNumbersDecide → AgreementDecides → GridHasColumns → GridAgrees → (n : ℕ) → 1 ≤ n → n ≤ 200
    → parts_finding grid_request (grid_parts n) ≡ None
parts_unfound numbers topology columns agrees n least most =
    let none = both_unfound numbers topology columns agrees n least most in
    without_features (within grid_request.lib grid_request.cov) (grid_parts n).coverage none.numbers none.topology
