-- What is so of each dart where nothing disagrees in what follows darts, and in home copies.
use Rattle.std.proofs.Common.{[], ◌≡◌, ℕ, zero, suc, ◌+◌, ◌<◌, ◌≤◌, Bool, true, false, eqb, Option, Some, None, List, ◌∷◌, length, get_or, refl, sym, ap, subst, ◌∙◌, arith}
use Rattle.std.specs.Prelude.{if◌then◌else◌}
use Rattle.std.proofs.lemmas.Bool.{eqb-true}
use Rattle.vpf_darts.specs.Darts.{code, tile_in, edge_in, sign_in, sign_of, flip}
use Rattle.vpf_findings.specs.Inner.FirstLaws.{or-none_both, unless_none}
use Rattle.vpf_prims.specs.Coverages.{CoverageTables, tile_at, last_tile}
use Rattle.vpf_prims.specs.Numbering.{IsRowOf}
use Rattle.vpf_prims.specs.Primitives.{edge_count, edges_in}
use Rattle.vpf_prims.specs.Reading.{primitives_of}
use Rattle.vpf_prims.specs.Tables.{TileTables}
use Rattle.vpf_wing.specs.Links.{DartLinks, is_minus}
use Rattle.vpf_follow.specs.FollowLines.{follow_line, follow_line_at, follow_lines, follows_finding}
use Rattle.vpf_follow.specs.Following.{follow, home_copy, is_outside}
use Rattle.vpf_follow.specs.Inner.Homes.{HasFewEdges}
use Rattle.vpf_prims.specs.Libraries.{in_tiles, library_of, primitives_in}
use Rattle.vpf_cross.specs.Inner.Copies.{FacesAreElsewhere}
use Rattle.vpf_cross.specs.HomeLines.{copies_lines, coverage_links, home_flip_line, home_lines, homes_finding, outside_lines}
use Rattle.vpf_cross.proofs.CopyLemmas.{HaveCopies}
use Rattle.vpf_cross.proofs.DartLists.{IsOfTiles, parts-code, sign-small}
use Rattle.vpf_cross.proofs.DartLists as darts
use Rattle.vpf_cross.proofs.LoopLemmas.{no_edge, no_tile}
use Rattle.vpf_follow.specs.Inner.FollowLaws.{outside_has}

-- the tile of a dart, and its edge there
pub record IsThere (c : CoverageTables) (d : ℕ) : Type 0 where
  pub tables : TileTables
  pub tile : tile_at c (tile_in d) ≡ Some tables
  pub row : IsRowOf (length (primitives_of tables.tables).edges) (edge_in d)
  pub last : tile_in d ≤ last_tile c

rows_in : (o : Option TileTables) (k : ℕ) → 1 ≤ k → k ≤ length (edges_in (primitives_in o)) → (T : TileTables) × (o ≡ Some T) × (k ≤ length (primitives_of T.tables).edges)
rows_in None k low high = absurd (omega arith)
rows_in (Some T) k low high = (T, refl, high)

pub is_there : (c : CoverageTables) (d : ℕ) → (coverage_links c).has d ≡ true → IsThere c d
is_there c d has =
    let i : IsOfTiles (edge_count (library_of c)) (library_of c).last d = darts.there (library_of c) d has in
    let r = rows_in (tile_at c (tile_in d)) (edge_in d) i.from_one i.to_count in
    record { tables = r.0; tile = r.1; row = (i.from_one, r.2); last = i.to_last }

sign_at : (s : ℕ) → s < 2 → sign_of (eqb s 1) ≡ s
sign_at zero h = refl
sign_at (suc zero) h = refl
sign_at (suc (suc s)) h = absurd (omega arith)

-- a dart by its tile, its edge and its sign
pub dart-code : (d : ℕ) → code (tile_in d) (edge_in d) (sign_of (is_minus d)) ≡ d
dart-code d = ap (code (tile_in d) (edge_in d)) (sign_at (sign_in d) (sign-small d)) ∙ parts-code d

if_none : {F : Type 0} (b : Bool) (o : Option F) → b ≡ true → (if b then o else None) ≡ None → o ≡ None
if_none true o t h = h
if_none false o t h = absurd cc

outside_line : (c : CoverageTables) (t : ℕ) (T : TileTables) (k : ℕ) (m : Bool) → copies_lines c t T k ≡ None → outside_lines c t T k m ≡ None
outside_line c t T k false h = (or-none_both (outside_lines c t T k false) (outside_lines c t T k true) h).0
outside_line c t T k true h = (or-none_both (outside_lines c t T k false) (outside_lines c t T k true) h).1

flips_at : (c : CoverageTables) (t : ℕ) (T : TileTables) (k : ℕ) (m : Bool) → copies_lines c t T k ≡ None → is_outside (coverage_links c) (code t k (sign_of m)) ≡ true
    → home_copy (coverage_links c) (flip (home_copy (coverage_links c) (code t k (sign_of m)))) ≡ flip (code t k (sign_of m))
flips_at c t T k m h outside =
    let C = coverage_links c in
    let d = code t k (sign_of m) in
    let lines : home_lines c t T k m ≡ None = if_none (is_outside C d) (home_lines c t T k m) outside (outside_line c t T k m h) in
    let line : home_flip_line C t T k m ≡ None = (or-none_both (home_flip_line C t T k m) _ lines).0 in
    eqb-true _ _ (unless_none (eqb (home_copy C (flip (home_copy C d))) (flip d)) _ line)

-- the home copy of the other dart of a home copy
pub flips_hold : (c : CoverageTables) → in_tiles (homes_finding c) c ≡ None → (d : ℕ) → is_outside (coverage_links c) d ≡ true
    → home_copy (coverage_links c) (flip (home_copy (coverage_links c) d)) ≡ flip d
flips_hold c none d outside =
    let C = coverage_links c in
    let i = is_there c d (outside_has C d outside) in
    let tile = no_tile (homes_finding c) c none (tile_in d) i.tables i.tile i.last in
    let line = no_edge (copies_lines c (tile_in d) i.tables) i.tables tile (edge_in d) i.row.0 i.row.1 in
    subst (λ x. home_copy C (flip (home_copy C x)) ≡ flip x) (dart-code d)
    (flips_at c (tile_in d) i.tables (edge_in d) (is_minus d) line (subst (λ x. is_outside C x ≡ true) (sym (dart-code d)) outside))

line_of : (C : DartLinks) (t : ℕ) (T : TileTables) (k : ℕ) (m : Bool) → follow_lines C t T k ≡ None → follow_line C t T k m ≡ None
line_of C t T k false h = (or-none_both (follow_line C t T k false) (follow_line C t T k true) h).0
line_of C t T k true h = (or-none_both (follow_line C t T k false) (follow_line C t T k true) h).1

followed_at : (C : DartLinks) (t : ℕ) (T : TileTables) (k : ℕ) (m : Bool) (o : Option ℕ) → follow_line_at C t T k m o ≡ None → (e : ℕ) × (o ≡ Some e)
followed_at C t T k m None h = absurd cc
followed_at C t T k m (Some e) h = (e, refl)

-- each dart is followed
pub follows_hold : (c : CoverageTables) → in_tiles (follows_finding (coverage_links c)) c ≡ None → (d : ℕ) → (coverage_links c).has d ≡ true
    → (e : ℕ) × (follow (coverage_links c) d ≡ Some e)
follows_hold c none d has =
    let C = coverage_links c in
    let i = is_there c d has in
    let tile = no_tile (follows_finding C) c none (tile_in d) i.tables i.tile i.last in
    let line = no_edge (follow_lines C (tile_in d) i.tables) i.tables tile (edge_in d) i.row.0 i.row.1 in
    let at = followed_at C (tile_in d) i.tables (edge_in d) (is_minus d) _ (line_of C (tile_in d) i.tables (edge_in d) (is_minus d) line) in
    (at.0, ap (follow C) (sym (dart-code d)) ∙ at.1)

pub have_copies : (c : CoverageTables) → HasFewEdges (library_of c) → FacesAreElsewhere (coverage_links c) → in_tiles (follows_finding (coverage_links c)) c ≡ None
    → in_tiles (homes_finding c) c ≡ None → HaveCopies (library_of c)
have_copies c few elsewhere follows homes = record { few = few; follows = follows_hold c follows; flips = flips_hold c homes; elsewhere = elsewhere }

past_end : {X : Type 0} (xs : List (Option X)) (u : ℕ) (x : X) → get_or xs u None ≡ Some x → u < length xs
past_end [] u x h = absurd cc
past_end (o ∷ xs) zero x h = omega arith
past_end (o ∷ xs) (suc u) x h = let r = past_end xs u x h in omega (arith, r)

-- a tile with tables is one of the tiles
pub tile_within : (c : CoverageTables) (u : ℕ) (T : TileTables) → tile_at c u ≡ Some T → u < last_tile c + 1
tile_within c u T h = let r = past_end c.tiles u T h in omega (arith, r)
