-- What a plan names for each face, where the tiles are noted row by row.
use Rattle.std.proofs.Common.{◌≡◌, ◌∙◌, ℕ, ℤ, suc, ◌<◌, Option, None, List, [], ◌∷◌, length, get_or, sym, ap, arith}
use Rattle.std.proofs.lemmas.List.{ext_get_or}
use Rattle.std.proofs.lemmas.List.FromFn.{get_or-map-range_with_len, length-map-range_with_len}
use Rattle.vpf_table.specs.Grid.{Grid, Row}
use Rattle.vpf_findings.specs.Firsts.{◌or◌}
use Rattle.vpf_findings.specs.Inner.FirstLaws.{or-assoc, or-none}
use Rattle.vpf_prims.specs.Columns.{RoleAt, id_column}
use Rattle.vpf_tiling.specs.Plan.Named.{named_in, named_in_row, named_tile, tiles_named}
use Rattle.vpf_tiling.specs.Plan.Plans.{tile_column}

-- what is noted, and what the rows that are left name
abbrev pub NotedSoFar : (id tile : RoleAt) (faces : ℕ) → List (Option ℤ) → (left rows : List Row) → Type 0
NotedSoFar id tile faces tiles left rows = (k : ℕ) → k < faces → (get_or tiles k None or named_in id tile (suc k) left) ≡ named_in id tile (suc k) rows

pub noted_more : (id tile : RoleAt) (faces : ℕ) (old new : List (Option ℤ)) (row : Row) (left rest rows : List Row) → left ≡ row ∷ rest → length old ≡ faces
    → ((k : ℕ) → k < length old → get_or new k None ≡ (get_or old k None or named_in_row id tile (suc k) row))
    → NotedSoFar id tile faces old left rows → NotedSoFar id tile faces new rest rows
noted_more id tile faces old new row left rest rows e count each so k l =
    let first = ap (λ (x : Option ℤ). x or named_in id tile (suc k) rest) (each k (omega arith)) in
    let parts = or-assoc (get_or old k None) (named_in_row id tile (suc k) row) (named_in id tile (suc k) rest) in
    let whole = ap (λ (x : List Row). get_or old k None or named_in id tile (suc k) x) e in
    first ∙ parts ∙ sym whole ∙ so k l

pub noted_all : (id tile : RoleAt) (faces : ℕ) (tiles : List (Option ℤ)) (left rows : List Row) → left ≡ [] → NotedSoFar id tile faces tiles left rows
    → (k : ℕ) → k < faces → get_or tiles k None ≡ named_in id tile (suc k) rows
noted_all id tile faces tiles left rows none so k l =
    sym (or-none (get_or tiles k None)) ∙ sym (ap (λ (x : List Row). get_or tiles k None or named_in id tile (suc k) x) none) ∙ so k l

abbrev AreNamed : Grid → ℕ → List (Option ℤ) → Type 0
AreNamed plan faces tiles = (k : ℕ) → k < faces → get_or tiles k None ≡ named_tile plan (suc k)

pub by_columns : (plan : Grid) (id tile : RoleAt) (faces : ℕ) (tiles : List (Option ℤ)) → id ≡ id_column plan.head.columns → tile ≡ tile_column plan.head.columns
    → ((k : ℕ) → k < faces → get_or tiles k None ≡ named_in id tile (suc k) plan.rows) → AreNamed plan faces tiles
by_columns plan id tile faces tiles e f each k l = rw (e, f) at (each k l)

pub tiles_are : (plan : Grid) (faces : ℕ) (tiles : List (Option ℤ)) → length tiles ≡ faces → AreNamed plan faces tiles → tiles ≡ tiles_named plan faces
tiles_are plan faces tiles count each =
    ext_get_or None tiles (tiles_named plan faces) (count ∙ sym (length-map-range_with_len (named_tile plan) 1 faces)) (λ i l.
    let at : i < faces = omega arith in
    each i at ∙ sym (get_or-map-range_with_len (named_tile plan) 1 faces i (suc i) None at (omega arith)))
