-- Tiles that have the columns of the first carry as many without a role.
use Rattle.std.proofs.Common.{[], ◌≡◌, ℕ, zero, suc, ◌-◌, Bool, true, false, Option, Some, None, List, ◌∷◌, length, get_or, refl, sym, ap, subst, ◌∙◌, arith}
use Rattle.vpf_head.specs.Head.{Col}
use Rattle.vpf_table.specs.Grid.{Grid}
use Rattle.vpf_prims.specs.Coverages.{CoverageTables, tile_at}
use Rattle.vpf_prims.specs.Libraries.{IsLibrary, library_of}
use Rattle.vpf_prims.specs.Reading.{PrimitiveTables}
use Rattle.vpf_prims.specs.Roles.{Role, edge_roles, face_roles, node_roles}
use Rattle.vpf_prims.specs.Suiting.{carried_columns}
use Rattle.vpf_prims.specs.Tables.{TileTables}
use Rattle.vpf_numbers.specs.Around.{first_having, model_in}
use Rattle.vpf_numbers.specs.Matching.{AreLike, HaveSameColumns}
use Rattle.vpf_library_files.specs.Inner.Loading.Laws.{IsNamedApart}
use Rattle.vpf_cross.specs.Inner.Laws.{LikeAreWhole}
use Rattle.vpf_cross.proofs.LikeLemmas.{carried_alike}
use Rattle.vpf_base.proofs.Booleans.{either}
use Rattle.vpf_base.proofs.Lists.{within}
use Rattle.vpf_cross.specs.Inner.LikeLaws.{tables_of_tiles}

-- a table that each tile with tables has
abbrev OfTables : Type 0
OfTables = PrimitiveTables → Grid

-- where a tile has tables, some tile is the first
first_there : (of : OfTables) (tiles : List (Option TileTables)) (t : ℕ) (T : TileTables) → get_or tiles t None ≡ Some T
    → (there : List Col) × (first_having (λ (t : PrimitiveTables). Some (of t)) (tables_of_tiles tiles) ≡ Some there)
first_there of [] t T e = absurd cc
first_there of (Some U ∷ tiles) t T e = ((of U.tables).head.columns, refl)
first_there of (None ∷ tiles) zero T e = absurd cc
first_there of (None ∷ tiles) (suc t) T e = first_there of tiles t T e

like_there : (roles : List Role) (model : Option (List Col)) (columns there : List Col) → model ≡ Some there → AreLike roles model columns → HaveSameColumns roles columns there
like_there roles model columns there e h = subst (λ (m : Option (List Col)). AreLike roles m columns) e h

-- two tiles alike carry as many
two_alike : (roles : List Role) (of : OfTables) (c : CoverageTables) (s t : ℕ) (S T : TileTables) → c.is_tiled ≡ true → tile_at c s ≡ Some S → tile_at c t ≡ Some T
    → AreLike roles (model_in c.is_tiled (λ (t : PrimitiveTables). Some (of t)) (tables_of_tiles c.tiles)) (of S.tables).head.columns
    → AreLike roles (model_in c.is_tiled (λ (t : PrimitiveTables). Some (of t)) (tables_of_tiles c.tiles)) (of T.tables).head.columns
    → IsNamedApart (of S.tables) → IsNamedApart (of T.tables)
    → length (carried_columns roles (of S.tables).head.columns) ≡ length (carried_columns roles (of T.tables).head.columns)
two_alike roles of c s t S T tiled at_s at_t like_s like_t apart_s apart_t =
    let first = first_there of c.tiles s S at_s in
    let model : model_in c.is_tiled (λ (t : PrimitiveTables). Some (of t)) (tables_of_tiles c.tiles) ≡ Some first.0 =
    ap (λ (b : Bool). model_in b (λ (t : PrimitiveTables). Some (of t)) (tables_of_tiles c.tiles)) tiled ∙ first.1 in
    let a = like_there roles _ (of S.tables).head.columns first.0 model like_s in
    let b = like_there roles _ (of T.tables).head.columns first.0 model like_t in
    carried_alike roles (of S.tables).head.columns (of T.tables).head.columns apart_s apart_t (λ name. a.places name ∙ sym (b.places name))

-- a coverage that isn't tiled has one tile
only_tile : (c : CoverageTables) → IsLibrary (library_of c) → c.is_tiled ≡ false → (s t : ℕ) (S T : TileTables) → tile_at c s ≡ Some S → tile_at c t ≡ Some T → S ≡ T
only_tile c library untiled s t S T at_s at_t =
    let one = library.one untiled in
    let low_s = within c.tiles s S at_s in
    let low_t = within c.tiles t T at_t in
    let same : s ≡ t = omega (arith, one, low_s, low_t) in
    of_some S T (sym at_s ∙ ap (tile_at c) same ∙ at_t)
  where
    of_some : (S T : TileTables) → Some S ≡ Some T → S ≡ T
    of_some S T e = cc

pub like_are_whole : LikeAreWhole
like_are_whole c library columns rows = record {
  filled = λ t T at. (rows t T at).0;
  edges = λ s t S T at_s at_t. either c.is_tiled
      (λ tiled. two_alike edge_roles (λ (t : PrimitiveTables). t.edg) c s t S T tiled at_s at_t (columns.like_first s S at_s).edg (columns.like_first t T at_t).edg (rows s S at_s).1.edg (rows t T at_t).1.edg)
      (λ untiled. ap (λ (U : TileTables). length (carried_columns edge_roles U.tables.edg.head.columns)) (only_tile c library untiled s t S T at_s at_t));
  faces = λ s t S T at_s at_t. either c.is_tiled
      (λ tiled. two_alike face_roles (λ (t : PrimitiveTables). t.fac) c s t S T tiled at_s at_t (columns.like_first s S at_s).fac (columns.like_first t T at_t).fac (rows s S at_s).1.fac (rows t T at_t).1.fac)
      (λ untiled. ap (λ (U : TileTables). length (carried_columns face_roles U.tables.fac.head.columns)) (only_tile c library untiled s t S T at_s at_t));
  nodes = λ s t S T at_s at_t. either c.is_tiled
      (λ tiled. two_alike node_roles (λ (t : PrimitiveTables). t.cnd) c s t S T tiled at_s at_t (columns.like_first s S at_s).cnd (columns.like_first t T at_t).cnd (rows s S at_s).1.cnd (rows t T at_t).1.cnd)
      (λ untiled. ap (λ (U : TileTables). length (carried_columns node_roles U.tables.cnd.head.columns)) (only_tile c library untiled s t S T at_s at_t));
}
