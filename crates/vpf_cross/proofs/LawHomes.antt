-- There is no finding on home copies exactly where each outside dart is of one edge with its own.
use Rattle.std.proofs.Common.{◌≡◌, ℕ, ◌≤◌, Bool, true, false, cond, eqb, nat_eq, sym, ap, ◌∙◌, subst, inl, inr, Some, None, List, [], length}
use Rattle.std.specs.Option.{option_eq, option_map}
use Rattle.std.proofs.lemmas.Bool.{cases_Bool, eqb-true, eq-eqb}
use Rattle.std.proofs.lemmas.List.{length-map}
use Rattle.vpf_head.specs.Head.{Col}
use Rattle.vpf_darts.specs.Darts.{code, tile_in, edge_in, sign_in, sign_of, flip}
use Rattle.vpf_findings.specs.Findings.{Disagreement}
use Rattle.vpf_findings.specs.Firsts.{◌or◌}
use Rattle.vpf_findings.specs.Inner.FirstLaws.{or-none_both, option_map-none}
use Rattle.vpf_prims.specs.Columns.{in_table}
use Rattle.vpf_prims.specs.Lists.{kth}
use Rattle.vpf_prims.specs.Primitives.{EdgePrimitive, absent_edge}
use Rattle.vpf_prims.specs.Reading.{primitives_of, edge_in_row}
use Rattle.vpf_prims.specs.Roles.{edge_roles}
use Rattle.vpf_prims.specs.Suiting.{carried_columns}
use Rattle.vpf_prims.specs.Tables.{TileTables, edg_at}
use Rattle.vpf_prims.specs.Coverages.{CoverageTables, tile_at}
use Rattle.vpf_wing.specs.Links.{DartLinks, is_minus}
use Rattle.vpf_prims.specs.Libraries.{library_of}
use Rattle.vpf_follow.specs.Following.{is_outside, home_copy}
use Rattle.vpf_follow.specs.Sided.{HasFollowers}
use Rattle.vpf_follow.specs.Inner.Laws.{HomesExist}
use Rattle.vpf_wing.specs.Inner.DartLaws.{code-minus, code-sign, sign-small}
use Rattle.vpf_follow.specs.Inner.TileLaws.{TileOfDart, dart-tile, DartOfEdge, edge-dart, unless-none, unless-true, or-silent, darts-none, darts-silent, options-same, same-options}
use Rattle.vpf_follow.specs.Inner.FollowLaws.{home_has, outside_has}
use Rattle.vpf_cross.specs.Carrying.{Difference, first_difference}
use Rattle.vpf_cross.specs.HomeLines.{coverage_links, home_flip_line, home_sign_line, home_mark_line, home_carried_line, home_lines, outside_lines}
use Rattle.vpf_cross.specs.Agreeing.{HasHomes}
use Rattle.vpf_cross.specs.Inner.Laws.{AreWhole, HomesDecide, HomesFlipBack}
use Rattle.vpf_cross.proofs.LawCells.{none_differ, none_for_same, carries, row_filled, row_said}

-- a dart and its home copy are of one edge
record IsOfEdge (C : DartLinks) (d : ℕ) : Type 0 where
  flips : home_copy C (flip (home_copy C d)) ≡ flip d
  signs : sign_in (home_copy C d) ≡ sign_in d
  marks : C.mark d ≡ C.mark (home_copy C d)
  carried : C.carried d ≡ C.carried (home_copy C d)

-- the columns of a tile's edges without a role
abbrev edge_cells : TileTables → List Col
edge_cells T = carried_columns edge_roles T.tables.edg.head.columns

edge_carries : (c : CoverageTables) → AreWhole c → (t : ℕ) (T : TileTables) (k : ℕ) → tile_at c t ≡ Some T → 1 ≤ k → k ≤ length (primitives_of T.tables).edges
    → length (kth (primitives_of T.tables).edges k absent_edge).carried ≡ length (edge_cells T)
edge_carries c whole t T k e low high =
    let most : k ≤ length T.tables.edg.rows = subst (λ n. k ≤ n) (length-map T.tables.edg.rows (edge_in_row T.tables.edg.head.columns)) high in
    let filled = row_filled (λ row. length row ≡ length T.tables.edg.head.columns) T.tables.edg.rows k (whole.filled t T e).edg low most in
    ap (λ (x : EdgePrimitive). length x.carried) (row_said edge_in_row T.tables.edg absent_edge k low most)
    ∙ carries edge_roles T.tables.edg.head.columns (kth T.tables.edg.rows k []) filled

-- a dart carries a cell for each column without a role of any tile
dart_carries : (c : CoverageTables) → AreWhole c → (s : ℕ) (S : TileTables) → tile_at c s ≡ Some S → (d : ℕ) → (coverage_links c).has d ≡ true
    → length ((coverage_links c).carried d) ≡ length (edge_cells S)
dart_carries c whole s S e d has =
    let i : TileOfDart c d = dart-tile c d has in
    ap (λ (x : EdgePrimitive). length x.carried) i.edge
    ∙ edge_carries c whole (tile_in d) i.tables (edge_in d) i.at i.from_one i.to_count
    ∙ whole.edges (tile_in d) s i.tables S i.at e

-- the home copy of an outside dart is a dart
home_there : HomesExist → (c : CoverageTables) → HasFollowers (coverage_links c) → (d : ℕ) → (coverage_links c).has d ≡ true
    → (coverage_links c).has (home_copy (coverage_links c) d) ≡ true
home_there law c f d has = home_has (coverage_links c) (home_copy (coverage_links c) d) (law (library_of c) f d has).home

abbrev carried_found : ℕ → TileTables → ℕ → Difference → Disagreement
carried_found t T k f = in_table (edg_at t T) 5 k f.column f.here f.there

lines_none : HomesExist → (c : CoverageTables) → AreWhole c → HasFollowers (coverage_links c) → (t : ℕ) (T : TileTables) (k : ℕ) (m : Bool)
    → tile_at c t ≡ Some T
    → (coverage_links c).has (code t k (sign_of m)) ≡ true → home_lines c t T k m ≡ None → IsOfEdge (coverage_links c) (code t k (sign_of m))
lines_none law c whole f t T k m e has none =
    let C : DartLinks = coverage_links c in
    let d : ℕ = code t k (sign_of m) in
    let x = or-none_both (home_flip_line C t T k m) (home_sign_line C t T k m or home_mark_line c t T k m or home_carried_line C t T k m) none in
    let y = or-none_both (home_sign_line C t T k m) (home_mark_line c t T k m or home_carried_line C t T k m) x.1 in
    let z = or-none_both (home_mark_line c t T k m) (home_carried_line C t T k m) y.1 in
    let same : first_difference (edge_cells T) ((coverage_links c).carried (code t k (sign_of m)))
    ((coverage_links c).carried (home_copy (coverage_links c) (code t k (sign_of m)))) ≡ None =
    option_map-none (carried_found t T k) (first_difference (edge_cells T) (C.carried d) (C.carried (home_copy C d))) z.1 in
    record {
      flips = eqb-true _ _ (unless-none (eqb (home_copy C (flip (home_copy C d))) (flip d)) _ x.0);
      signs = eqb-true _ _ (unless-none (eqb (sign_in (home_copy C d)) (sign_of m)) _ y.0) ∙ sym (code-sign t k (sign_of m) (sign-small m));
      marks = options-same _ _ (unless-none (option_eq nat_eq (C.mark d) (C.mark (home_copy C d))) _ z.0);
      carried = none_differ (edge_cells T) (C.carried d) (C.carried (home_copy C d)) (dart_carries c whole t T e d has)
          (dart_carries c whole t T e (home_copy C d) (home_there law c f d has)) same;
    }

lines_silent : (c : CoverageTables) (t : ℕ) (T : TileTables) (k : ℕ) (m : Bool) → IsOfEdge (coverage_links c) (code t k (sign_of m))
    → home_lines c t T k m ≡ None
lines_silent c t T k m i =
    let C : DartLinks = coverage_links c in
    let d : ℕ = code t k (sign_of m) in
    let carried : home_carried_line (coverage_links c) t T k m ≡ None =
    ap (option_map (carried_found t T k)) (none_for_same (edge_cells T) (C.carried d) (C.carried (home_copy C d)) i.carried) in
    or-silent (home_flip_line C t T k m) _ (unless-true (eqb (home_copy C (flip (home_copy C d))) (flip d)) _ (eq-eqb _ _ i.flips))
    (or-silent (home_sign_line C t T k m) _
    (unless-true (eqb (sign_in (home_copy C d)) (sign_of m)) _ (eq-eqb _ _ (i.signs ∙ code-sign t k (sign_of m) (sign-small m))))
    (or-silent (home_mark_line c t T k m) _ (unless-true (option_eq nat_eq (C.mark d) (C.mark (home_copy C d))) _ (same-options _ _ i.marks)) carried))

outside_none : (c : CoverageTables) (t : ℕ) (T : TileTables) (k : ℕ) (m : Bool) → outside_lines c t T k m ≡ None
    → is_outside (coverage_links c) (code t k (sign_of m)) ≡ true → home_lines c t T k m ≡ None
outside_none c t T k m none out = sym (ap (λ b. cond b (home_lines c t T k m) None) out) ∙ none

outside_silent : (c : CoverageTables) (t : ℕ) (T : TileTables) (k : ℕ) (m : Bool)
    → (is_outside (coverage_links c) (code t k (sign_of m)) ≡ true → home_lines c t T k m ≡ None)
    → outside_lines c t T k m ≡ None
outside_silent c t T k m h = elim (cases_Bool (is_outside (coverage_links c) (code t k (sign_of m)))) [
  | inl out ↦ ap (λ b. cond b (home_lines c t T k m) None) out ∙ h out
  | inr in' ↦ ap (λ b. cond b (home_lines c t T k m) None) in'
]

abbrev IsFlippedBack : DartLinks → ℕ → Type 0
IsFlippedBack C d = home_copy C (flip (home_copy C d)) ≡ flip d

flip_line_none : (c : CoverageTables) (t : ℕ) (T : TileTables) (k : ℕ) (m : Bool) → home_lines c t T k m ≡ None
    → IsFlippedBack (coverage_links c) (code t k (sign_of m))
flip_line_none c t T k m none =
    let C : DartLinks = coverage_links c in
    let d : ℕ = code t k (sign_of m) in
    let x = or-none_both (home_flip_line C t T k m) (home_sign_line C t T k m or home_mark_line c t T k m or home_carried_line C t T k m) none in
    eqb-true _ _ (unless-none (eqb (home_copy C (flip (home_copy C d))) (flip d)) _ x.0)

has_homes : (C : DartLinks) → ((d : ℕ) → is_outside C d ≡ true → IsOfEdge C d) → HasHomes C
has_homes C all = record {
  flips = λ d out. (all d out).flips;
  signs = λ d out. (all d out).signs;
  marks = λ d out. (all d out).marks;
  carried = λ d out. (all d out).carried;
}

homes_have : (C : DartLinks) → HasHomes C → (d : ℕ) → is_outside C d ≡ true → IsOfEdge C d
homes_have C h d out = record { flips = h.flips d out; signs = h.signs d out; marks = h.marks d out; carried = h.carried d out }

pub homes_decide : HomesExist → HomesDecide
homes_decide law c few whole f = (
  λ none. has_homes (coverage_links c) (λ d out. (
      let i : TileOfDart c d = dart-tile c d (outside_has (coverage_links c) d out) in
      let line = darts-none (outside_lines c) false c none (tile_in d) i.tables (edge_in d) (is_minus d) i.at i.from_one i.to_count in
      let r : DartOfEdge c (tile_in d) i.tables (edge_in d) (is_minus d) =
      edge-dart c (tile_in d) i.tables (edge_in d) (is_minus d) (few (tile_in d)) i.at i.from_one i.to_count in
      let out' = subst (λ x. is_outside (coverage_links c) x ≡ true) (sym (code-minus d)) out in
      subst (IsOfEdge (coverage_links c)) (code-minus d)
      (lines_none law c whole f (tile_in d) i.tables (edge_in d) (is_minus d) i.at r.has
      (outside_none c (tile_in d) i.tables (edge_in d) (is_minus d) line out')))),
  λ h. darts-silent (outside_lines c) false c (λ t T k m e low high.
      outside_silent c t T k m (λ out. lines_silent c t T k m (homes_have (coverage_links c) h (code t k (sign_of m)) out))),
)

pub homes_flip_back : HomesFlipBack
homes_flip_back c few none d out =
    let i : TileOfDart c d = dart-tile c d (outside_has (coverage_links c) d out) in
    let line = darts-none (outside_lines c) false c none (tile_in d) i.tables (edge_in d) (is_minus d) i.at i.from_one i.to_count in
    let out' = subst (λ x. is_outside (coverage_links c) x ≡ true) (sym (code-minus d)) out in
    let lines = outside_none c (tile_in d) i.tables (edge_in d) (is_minus d) line out' in
    subst (IsFlippedBack (coverage_links c)) (code-minus d) (flip_line_none c (tile_in d) i.tables (edge_in d) (is_minus d) lines)
