-- The tables of the grid have the columns of a coverage, and their rows agree.
use Rattle.std.proofs.Common.{◌≡◌, ℕ, zero, suc, true, false, ◌==◌, Some, refl, sym, ap, subst, ◌∙◌, arith}
use std.Path.{fun_ext}
use Rattle.std.proofs.lemmas.Bool.Decides.{nat_tests}
use Rattle.vpf_prims.specs.Coverages.{tile_at}
use Rattle.vpf_prims.specs.Libraries.{IsLibrary, library_of}
use Rattle.vpf_prims.specs.Numbering.{IsNumbered}
use Rattle.vpf_prims.specs.Primitives.{has_tables}
use Rattle.vpf_prims.specs.Reading.{PrimitiveTables}
use Rattle.vpf_prims.specs.Suiting.{HasColumns}
use Rattle.vpf_prims.specs.Tables.{TileTables}
use Rattle.vpf_numbers.specs.Around.{around_of}
use Rattle.vpf_numbers.specs.Matching.{ColumnsMatch}
use Rattle.vpf_wing.specs.WellFormed.{IsWellFormed, HasCycles}
use Rattle.vpf_cross.specs.Agreeing.{LibraryAgrees}
use Rattle.vpf_vectors.specs.Inner.GridCoverage.Coverage.{grid_primitives, grid_library}
use Rattle.vpf_vectors.specs.Library.{TablesSayGrid, coverage_tables}
use Rattle.vpf_drill.specs.Inner.GridAgreement.Agreement.{GridHasColumns, GridIsSaid, grid_coverage}
use Rattle.vpf_base.proofs.Options.{none_some, some_is as same_some}
use Rattle.std.proofs.lemmas.Bool.{false≢true as no_yes}

has_columns : (n : ℕ) → HasColumns (coverage_tables n)
has_columns n = record {
  edg = (refl, (refl, (refl, (refl, (refl, (refl, (refl, (refl, tt))))))));
  fac = (refl, (refl, tt));
  rng = (refl, (refl, (refl, tt)));
  cnd = (refl, (refl, tt));
  end = λ grid e. absurd (none_some grid e);
  bare = refl;
}

-- an untiled coverage has no first tile to be like
match_none : (n : ℕ) (t : PrimitiveTables) → ColumnsMatch (around_of (grid_coverage n)) t
match_none n t = record { edg = tt; fac = tt; rng = tt; cnd = tt; end = λ grid e. tt }

-- the one tile is that of these tables
pub one_tile : (n t : ℕ) (T : TileTables) → tile_at (grid_coverage n) t ≡ Some T → T.tables ≡ coverage_tables n
one_tile n zero T e = ap (λ (x : TileTables). x.tables) (sym (same_some _ _ e))
one_tile n (suc t) T e = absurd (none_some T e)

pub have_columns : GridHasColumns
have_columns n = record {
  suit = λ t T e. subst HasColumns (sym (one_tile n t T e)) (has_columns n);
  like_first = λ t T e. match_none n T.tables;
}

-- the library of an untiled coverage, tile by tile
tile-is : TablesSayGrid → (n t : ℕ) → (library_of (grid_coverage n)).tile t ≡ (grid_library n).tile t
tile-is say n zero = ap Some (say n)
tile-is say n (suc t) = let f : (suc t == 0) ≡ false = grind (arith, nat_tests) in rw f refl

pub library-is : TablesSayGrid → GridIsSaid
library-is say n = ap (λ tile. record { is_tiled = false; last = 0; tile = tile }) (fun_ext (λ t. tile-is say n t))

-- no other tile has tables
one_there : (n t : ℕ) → has_tables (grid_library n) t ≡ true → t ≡ 0
one_there n zero h = refl
one_there n (suc t) h =
    let f : (suc t == 0) ≡ false = grind (arith, nat_tests) in
    let e : has_tables (grid_library n) (suc t) ≡ false = rw f refl in
    absurd (no_yes (sym e ∙ h))

-- so that it agrees where this one is well formed
pub agrees : (n : ℕ) → IsLibrary (grid_library n) → IsWellFormed (grid_primitives n) → LibraryAgrees (grid_library n)
agrees n l w = record {
  library = l;
  numbered = λ t h. subst (IsNumbered (grid_library n)) (sym (one_there n t h)) w.numbered;
  loops = w.loops;
  cycles = λ t h. subst (HasCycles (grid_library n)) (sym (one_there n t h)) w.cycles;
  across = λ e. absurd (no_yes e);
}
