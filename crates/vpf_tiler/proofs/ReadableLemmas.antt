-- Tables as they are read: their rows are whole, and the names of their columns apart.
use Rattle.std.proofs.Common.{◌≡◌, suc, List, [], ◌∷◌, length, Option, Some, refl, ap, subst}
use Rattle.std.specs.Prelude.{IfSome}
use Rattle.std.specs.List.{AllByRecursion}
use Rattle.std.proofs.lemmas.List.Elements.{recursion_from_All}
use Rattle.vpf_head.specs.Head.{Col}
use Rattle.vpf_table.specs.Canonical.{FitsRow, IsWritable}
use Rattle.vpf_table.specs.Grid.{Grid, Row}
use Rattle.vpf_prims.specs.Inner.Laws.{AreFilled, IsFilled}
use Rattle.vpf_prims.specs.Reading.{PrimitiveTables}
use Rattle.vpf_library_files.specs.Inner.Loading.Laws.{AreNamedApart}
use Rattle.vpf_primitive_tables.specs.Inner.TileWriting.Writable.{AreWritable, HaveFewRows}
use Rattle.vpf_tiler.specs.Inner.Laws.{IsReadable}

-- a row that fits its columns has a cell for each
row_filled : (columns : List Col) (row : Row) → FitsRow columns row → length row ≡ length columns
row_filled [] [] h = refl
row_filled [] (cell ∷ row) h = absurd h
row_filled (column ∷ columns) [] h = absurd h
row_filled (column ∷ columns) (cell ∷ row) h = ap suc (row_filled columns row h.1)

rows_filled : (columns : List Col) (rows : List Row) → AllByRecursion (FitsRow columns) rows → AllByRecursion (λ (row : Row). length row ≡ length columns) rows
rows_filled columns [] h = tt
rows_filled columns (row ∷ rows) h = (row_filled columns row h.0, rows_filled columns rows h.1)

table_filled : (grid : Grid) → IsWritable grid → IsFilled grid
table_filled grid w = rows_filled grid.head.columns grid.rows (recursion_from_All (FitsRow grid.head.columns) grid.rows w.fits)

-- the rows of tables that can be written are whole
pub are_filled : (T : PrimitiveTables) → AreWritable T → AreFilled T
are_filled T w = record {
  edg = table_filled T.edg w.edg;
  fac = table_filled T.fac w.fac;
  rng = table_filled T.rng w.rng;
  cnd = table_filled T.cnd w.cnd;
  end = λ grid e. table_filled grid (w.end grid e);
}

-- and the names of their columns are apart
pub are_apart : (T : PrimitiveTables) → AreWritable T → AreNamedApart T
are_apart T w = record {
  edg = w.edg.sound.distinct;
  fac = w.fac.sound.distinct;
  rng = w.rng.sound.distinct;
  cnd = w.cnd.sound.distinct;
  end = λ grid e. (w.end grid e).sound.distinct;
}

if_there : (end : Option Grid) → IfSome end IsReadable → (grid : Grid) → end ≡ Some grid → IsReadable grid
if_there end h grid e = subst (λ (o : Option Grid). IfSome o IsReadable) e h

-- where each table is as it is read, all can be written
pub all_writable : (T : PrimitiveTables) → IsReadable T.edg → IsReadable T.fac → IsReadable T.rng → IsReadable T.cnd → IfSome T.end IsReadable → AreWritable T
all_writable T edg fac rng cnd end = record {
  edg = edg.writable;
  fac = fac.writable;
  rng = rng.writable;
  cnd = cnd.writable;
  end = λ grid e. (if_there T.end end grid e).writable;
}

-- and have few rows
pub all_few : (T : PrimitiveTables) → IsReadable T.edg → IsReadable T.fac → IsReadable T.rng → IsReadable T.cnd → IfSome T.end IsReadable → HaveFewRows T
all_few T edg fac rng cnd end = record {
  edg = edg.few;
  fac = fac.few;
  rng = rng.few;
  cnd = cnd.few;
  end = λ grid e. (if_there T.end end grid e).few;
}
