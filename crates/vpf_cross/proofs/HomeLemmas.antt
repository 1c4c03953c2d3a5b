-- The lines on the home copy of a dart, by the rows of both edges.
use Rattle.std.proofs.Common.{◌≡◌, ℕ, ◌^◌, ◌<◌, ◌≤◌, eqb, Option, Some, None, Result, nat_eq, List, length, refl, sym, ap, ◌∙◌, subst, inl, inr}
use mathlib.Core.Bool.{beq}
use Rattle.std.specs.Option.{option_eq, option_map}
use Rattle.vpf_value.specs.Values.{Value}
use Rattle.vpf_darts.specs.declared.darts.TileDart.{TileDart}
use Rattle.vpf_darts.specs.contracts.darts.TileDartPartialEq.TheImpl.{eq-value}
use Rattle.vpf_darts.specs.Darts.{tile_in, edge_in, flip, sign_in, sign_of, tile_dart_code}
use Rattle.vpf_findings.specs.declared.finding.SeenWord.TheVariants as words
use Rattle.vpf_findings.specs.Findings.{DartSeen, Disagreement, Sight, WordSeen}
use Rattle.vpf_findings.specs.declared.finding.Finding.{Finding}
use Rattle.vpf_findings.specs.Firsts.{Finds, unless}
use Rattle.vpf_prims.specs.declared.citing.Citation.TheVariants as cites
use Rattle.vpf_prims.specs.Columns.{in_table}
use Rattle.vpf_prims.specs.Coverages.{CoverageTables, tile_at, last_tile}
use Rattle.vpf_prims.specs.Lists.{kth}
use Rattle.vpf_prims.specs.Libraries.{library_of}
use Rattle.vpf_prims.specs.Numbering.{IsLineMark, IsRowOf}
use Rattle.vpf_prims.specs.Primitives.{EdgePrimitive, absent_edge, edge_count, is_tile_line}
use Rattle.vpf_prims.specs.Reading.{edge_in_row, primitives_of}
use Rattle.vpf_prims.specs.Roles.{edge_roles}
use Rattle.vpf_prims.specs.Suiting.{carried_columns}
use Rattle.vpf_prims.specs.Tables.{TileTables, at_citation, cited_cell, edg_at}
use Rattle.vpf_wing.specs.Links.{DartLinks}
use Rattle.vpf_follow.specs.FollowLines.{at_wing_of}
use Rattle.vpf_follow.specs.Following.{home_copy, number_seen}
use Rattle.vpf_follow.specs.Inner.Homes.{IsDartIn}
use Rattle.vpf_follow.specs.SideLines.{face_citation}
use Rattle.vpf_cross.specs.Carrying.{Difference, carried_at, first_difference}
use Rattle.vpf_cross.specs.Inner.Laws.{AreNumbered}
use Rattle.vpf_cross.specs.HomeLines.{coverage_links, home_carried_line, home_flip_line, home_lines, home_mark_line, home_sign_line, mark_seen}
use Rattle.vpf_cross.proofs.AgreeLemmas.{is_there}
use Rattle.vpf_cross.proofs.CarriedLemmas.{at_number}
use Rattle.vpf_cross.proofs.CarryLemmas.{empty_carries}
use Rattle.vpf_cross.proofs.DartLemmas.{same_numbers, seen_so}
use Rattle.vpf_cross.proofs.LawNumbered.{tile_has_tables}
use Rattle.vpf_cross.proofs.LinkLemmas.{edge-code, edge_at, edges_at, sign-code, tile-code}

-- the tile of a dart of a coverage, and its edge there
pub record IsIn (c : CoverageTables) (d : TileDart) : Type 0 where
  pub tables : TileTables
  pub tile : tile_at c d.tile ≡ Some tables
  pub row : IsRowOf (length (primitives_of tables.tables).edges) d.edge
  pub last : d.tile ≤ last_tile c

pub is_in : (c : CoverageTables) (d : TileDart) → d.edge < 2 ^ 32 → IsDartIn c d → IsIn c d
is_in c d small has =
    let i = is_there c (tile_dart_code d) has in
    let tile = tile-code d.tile d.edge d.minus small in
    let edge = edge-code d.tile d.edge d.minus small in
    record {
      tables = i.tables;
      tile = ap (tile_at c) (sym tile) ∙ i.tile;
      row = subst (λ k. IsRowOf (length (primitives_of i.tables.tables).edges) k) edge i.row;
      last = subst (λ t. t ≤ last_tile c) tile i.last;
    }

-- in a tile whose tables these are
pub row_in : (c : CoverageTables) (d : TileDart) (T : TileTables) → d.edge < 2 ^ 32 → IsDartIn c d → tile_at c d.tile ≡ Some T → IsRowOf (length (primitives_of T.tables).edges) d.edge
row_in c d T small has is =
    let i = is_in c d small has in
    let same : i.tables ≡ T = some_same i.tables T (sym i.tile ∙ is) in
    subst (λ (U : TileTables). IsRowOf (length (primitives_of U.tables).edges) d.edge) same i.row
  where
    some_same : (x y : TileTables) → Some x ≡ Some y → x ≡ y
    some_same x y e = cc

-- the mark of a dart
mark_at : (c : CoverageTables) (d : TileDart) (T : TileTables) → d.edge < 2 ^ 32 → tile_at c d.tile ≡ Some T
    → (coverage_links c).mark (tile_dart_code d) ≡ (kth (primitives_of T.tables).edges d.edge absent_edge).mark
mark_at c d T small is = ap (λ (e : EdgePrimitive). e.mark) (edge_at c d.tile T d.edge d.minus is small)

-- what it carries
carried_cells : (c : CoverageTables) (d : TileDart) (T : TileTables) → d.edge < 2 ^ 32 → tile_at c d.tile ≡ Some T
    → (coverage_links c).carried (tile_dart_code d) ≡ carried_at edge_roles T.tables.edg d.edge
carried_cells c d T small is =
    ap (λ (e : EdgePrimitive). e.carried) (edge_at c d.tile T d.edge d.minus is small)
    ∙ at_number (edge_in_row T.tables.edg.head.columns) (λ (e : EdgePrimitive). e.carried) absent_edge T.tables.edg.rows d.edge (empty_carries edge_roles T.tables.edg.head.columns)

seen_at : (c : CoverageTables) (h : TileDart) (U : TileTables) → h.edge < 2 ^ 32 → tile_at c h.tile ≡ Some U
    → mark_seen (tile_at c (tile_in (tile_dart_code h))) (edge_in (tile_dart_code h)) ≡ cited_cell U.tables cites.TileLine h.edge
seen_at c h U small is =
    ap (λ t. mark_seen (tile_at c t) (edge_in (tile_dart_code h))) (tile-code h.tile h.edge h.minus small)
    ∙ ap (mark_seen (tile_at c h.tile)) (edge-code h.tile h.edge h.minus small)
    ∙ ap (λ (o : Option TileTables). mark_seen o h.edge) is

-- the line on the mark of a home copy
pub mark_line_is : (c : CoverageTables) (d h : TileDart) (T U : TileTables) → d.edge < 2 ^ 32 → h.edge < 2 ^ 32 → tile_at c d.tile ≡ Some T → tile_at c h.tile ≡ Some U
    → tile_dart_code h ≡ home_copy (coverage_links c) (tile_dart_code d)
    → home_mark_line c d.tile T d.edge d.minus
    ≡ unless (option_eq nat_eq (kth (primitives_of T.tables).edges d.edge absent_edge).mark (kth (primitives_of U.tables).edges h.edge absent_edge).mark)
    (at_citation d.tile T cites.TileLine 5 d.edge (cited_cell T.tables cites.TileLine d.edge) (cited_cell U.tables cites.TileLine h.edge))
mark_line_is c d h T U small home_small is there copy =
    let C = coverage_links c in
    let found = cited_cell T.tables cites.TileLine d.edge in
    ap (λ x. unless (option_eq nat_eq (C.mark (tile_dart_code d)) (C.mark x)) (at_citation d.tile T cites.TileLine 5 d.edge found (mark_seen (tile_at c (tile_in x)) (edge_in x)))) (sym copy)
    ∙ ap (λ (w : Sight). unless (option_eq nat_eq (C.mark (tile_dart_code d)) (C.mark (tile_dart_code h))) (at_citation d.tile T cites.TileLine 5 d.edge found w)) (seen_at c h U home_small there)
    ∙ ap (λ (m : Option ℕ). unless (option_eq nat_eq m (C.mark (tile_dart_code h))) (at_citation d.tile T cites.TileLine 5 d.edge found (cited_cell U.tables cites.TileLine h.edge))) (mark_at c d T small is)
    ∙ ap (λ (m : Option ℕ). unless (option_eq nat_eq (kth (primitives_of T.tables).edges d.edge absent_edge).mark m) (at_citation d.tile T cites.TileLine 5 d.edge found (cited_cell U.tables cites.TileLine h.edge))) (mark_at c h U home_small there)

-- the line on what it carries
pub carried_line_is : (c : CoverageTables) (d h : TileDart) (T U : TileTables) → d.edge < 2 ^ 32 → h.edge < 2 ^ 32 → tile_at c d.tile ≡ Some T → tile_at c h.tile ≡ Some U
    → tile_dart_code h ≡ home_copy (coverage_links c) (tile_dart_code d)
    → home_carried_line (coverage_links c) d.tile T d.edge d.minus
    ≡ option_map (λ (f : Difference). in_table (edg_at d.tile T) 5 d.edge f.column f.here f.there)
    (first_difference (carried_columns edge_roles T.tables.edg.head.columns) (carried_at edge_roles T.tables.edg d.edge) (carried_at edge_roles U.tables.edg h.edge))
carried_line_is c d h T U small home_small is there copy =
    let C = coverage_links c in
    let columns = carried_columns edge_roles T.tables.edg.head.columns in
    ap (λ x. option_map (λ (f : Difference). in_table (edg_at d.tile T) 5 d.edge f.column f.here f.there) (first_difference columns (C.carried (tile_dart_code d)) (C.carried x))) (sym copy)
    ∙ ap (λ (xs : List Value). option_map (λ (f : Difference). in_table (edg_at d.tile T) 5 d.edge f.column f.here f.there) (first_difference columns xs (C.carried (tile_dart_code h)))) (carried_cells c d T small is)
    ∙ ap (λ (ys : List Value). option_map (λ (f : Difference). in_table (edg_at d.tile T) 5 d.edge f.column f.here f.there) (first_difference columns (carried_at edge_roles T.tables.edg d.edge) ys)) (carried_cells c h U home_small there)

-- the line on the other dart of a home copy
pub flip_line_is : (C : DartLinks) (d h back other : TileDart) (T : TileTables) → back.edge < 2 ^ 32 → other.edge < 2 ^ 32 → tile_dart_code h ≡ home_copy C (tile_dart_code d)
    → tile_dart_code back ≡ home_copy C (flip (tile_dart_code h)) → tile_dart_code other ≡ flip (tile_dart_code d)
    → home_flip_line C d.tile T d.edge d.minus ≡ unless ((eq-value).it back other) (at_citation d.tile T (face_citation d.minus) 5 d.edge (DartSeen back) (DartSeen other))
flip_line_is C d h back other T small other_small copy back_is other_is =
    let x : home_copy C (flip (home_copy C (tile_dart_code d))) ≡ tile_dart_code back = sym (back_is ∙ ap (λ v. home_copy C (flip v)) copy) in
    let y : flip (tile_dart_code d) ≡ tile_dart_code other = sym other_is in
    ap (λ v. unless (eqb v (flip (tile_dart_code d))) (at_citation d.tile T (face_citation d.minus) 5 d.edge (number_seen v) (number_seen (flip (tile_dart_code d))))) x
    ∙ ap (λ v. unless (eqb (tile_dart_code back) v) (at_citation d.tile T (face_citation d.minus) 5 d.edge (number_seen (tile_dart_code back)) (number_seen v))) y
    ∙ ap (λ (s : Sight). unless (eqb (tile_dart_code back) (tile_dart_code other)) (at_citation d.tile T (face_citation d.minus) 5 d.edge s (number_seen (tile_dart_code other)))) (seen_so back (tile_dart_code back) small refl)
    ∙ ap (λ (s : Sight). unless (eqb (tile_dart_code back) (tile_dart_code other)) (at_citation d.tile T (face_citation d.minus) 5 d.edge (DartSeen back) s)) (seen_so other (tile_dart_code other) other_small refl)
    ∙ ap (λ b. unless b (at_citation d.tile T (face_citation d.minus) 5 d.edge (DartSeen back) (DartSeen other))) (same_numbers back other small other_small)

-- the line on its sign
pub sign_line_is : (C : DartLinks) (d h : TileDart) (T : TileTables) → h.edge < 2 ^ 32 → tile_dart_code h ≡ home_copy C (tile_dart_code d)
    → home_sign_line C d.tile T d.edge d.minus ≡ unless (eqb (sign_of h.minus) (sign_of d.minus)) (at_wing_of d.tile T 5 d.edge d.minus (DartSeen h) (WordSeen words.Sign))
sign_line_is C d h T small copy =
    ap (λ x. unless (eqb (sign_in x) (sign_of d.minus)) (at_wing_of d.tile T 5 d.edge d.minus (number_seen x) (WordSeen words.Sign))) (sym copy)
    ∙ ap (λ s. unless (eqb s (sign_of d.minus)) (at_wing_of d.tile T 5 d.edge d.minus (number_seen (tile_dart_code h)) (WordSeen words.Sign))) (sign-code h.tile h.edge h.minus)
    ∙ ap (λ (s : Sight). unless (eqb (sign_of h.minus) (sign_of d.minus)) (at_wing_of d.tile T 5 d.edge d.minus s (WordSeen words.Sign))) (seen_so h (tile_dart_code h) small refl)

-- what the lines on a home copy say, one after another
module _ (c : CoverageTables) (d : TileDart) (T : TileTables) where
  abbrev pub flip_said : Option Disagreement
  flip_said = home_flip_line (coverage_links c) d.tile T d.edge d.minus

  abbrev pub sign_said : Option Disagreement
  sign_said = home_sign_line (coverage_links c) d.tile T d.edge d.minus

  abbrev pub mark_said : Option Disagreement
  mark_said = home_mark_line c d.tile T d.edge d.minus

  abbrev pub cells_said : Option Disagreement
  cells_said = home_carried_line (coverage_links c) d.tile T d.edge d.minus

  pub at_flip : (f : Disagreement) → flip_said ≡ Some f → home_lines c d.tile T d.edge d.minus ≡ Some f
  at_flip f some = rw some refl

  pub at_sign : (f : Disagreement) → flip_said ≡ None → sign_said ≡ Some f → home_lines c d.tile T d.edge d.minus ≡ Some f
  at_sign f flip some = rw (flip, some) refl

  pub at_mark : (f : Disagreement) → flip_said ≡ None → sign_said ≡ None → mark_said ≡ Some f → home_lines c d.tile T d.edge d.minus ≡ Some f
  at_mark f flip sign some = rw (flip, sign, some) refl

  pub at_cells : flip_said ≡ None → sign_said ≡ None → mark_said ≡ None → home_lines c d.tile T d.edge d.minus ≡ cells_said
  at_cells flip sign mark = rw (flip, sign, mark) refl

pub finds_same : {V : Type 0} (r : Result V Finding) (a b : Option Disagreement) → b ≡ a → Finds r a → Finds r b
finds_same r a b same h = subst (λ (o : Option Disagreement). Finds r o) (sym same) h

-- ---- marks

-- each mark is 0 or 1
pub line_mark : (c : CoverageTables) → AreNumbered (library_of c) → (t k : ℕ) (T : TileTables) → tile_at c t ≡ Some T → IsRowOf (length (primitives_of T.tables).edges) k
    → IsLineMark (kth (primitives_of T.tables).edges k absent_edge).mark
line_mark c numbered t k T is row =
    let same = edges_at c t T is in
    let there : IsRowOf (edge_count (library_of c) t) k = subst (λ (es : List EdgePrimitive). IsRowOf (length es) k) (sym same) row in
    let edge = (numbered t (tile_has_tables c t T is)).edges k there in
    subst (λ (es : List EdgePrimitive). IsLineMark (kth es k absent_edge).mark) same edge.mark

-- two marks are the same where both edges are lines between tiles, or neither is
pub same_marks : (m n : Option ℕ) → IsLineMark m → IsLineMark n → beq (is_tile_line m) (is_tile_line n) ≡ option_eq nat_eq m n
same_marks m n a b = elim a [
  | inl x ↦ (elim b [
    | inl y ↦ rw (x, y) refl
    | inr y ↦ rw (x, y) refl
  ])
  | inr x ↦ (elim b [
    | inl y ↦ rw (x, y) refl
    | inr y ↦ rw (x, y) refl
  ])
]
