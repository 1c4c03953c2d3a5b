-- The line on a dart, by the home dart that is kept with the same dart after it.
use Rattle.std.proofs.Common.{[], ◌≡◌, ℕ, zero, suc, ◌+◌, ◌-◌, ◌*◌, ◌^◌, ◌<◌, ◌≤◌, Bool, true, false, Option, Some, None, List, ◌∷◌, ◌++◌, length, refl, ap, sym, subst, ◌∙◌, arith}
use Rattle.std.proofs.lemmas.Bool.{le-leb}
use Rattle.std.proofs.lemmas.List.Elements.{All-append}
use Rattle.std.specs.Prelude.{All, find, if◌then◌else◌}
use Rattle.std.specs.Option.{option_map}
use Rattle.vpf_darts.specs.declared.darts.TileDart.{TileDart}
use Rattle.vpf_darts.specs.Darts.{code, sign_of, tile_dart_code}
use Rattle.vpf_findings.specs.Findings.{DartSeen}
use Rattle.vpf_prims.specs.Coverages.{CoverageTables, last_tile, tile_at}
use Rattle.vpf_prims.specs.Lists.{kth}
use Rattle.vpf_prims.specs.Numbering.{IsRowOf}
use Rattle.vpf_prims.specs.Primitives.{Library, absent_edge, edge_count, edge_row_of, tile_edges}
use Rattle.vpf_prims.specs.Reading.{primitives_of}
use Rattle.vpf_prims.specs.Tables.{TileTables}
use Rattle.vpf_wing.specs.Links.{DartLinks, links_of, tile_darts}
use Rattle.vpf_follow.specs.Following.{dart_numbered, first_home, follow, follows_to, is_home, number_seen}
use Rattle.vpf_follow.specs.FollowLines.{at_wing_of, earlier_home, follow_line, follow_line_at}
use Rattle.vpf_follow.specs.Inner.Homes.{AreHomes, Followings, HasFewEdges, darts_before, darts_to, first_followed}
use Rattle.vpf_prims.specs.Libraries.{library_of}
use Rattle.vpf_follow.proofs.CoverageLemmas.{edges_are, ends_at_last, tile_last}
use Rattle.vpf_follow.proofs.DartLemmas.{code-numbered}
use Rattle.vpf_follow.proofs.HomeLemmas.{first_is}
use Rattle.vpf_follow.proofs.ListLemmas.{Begins, begins_all, begins_more, begins_self, begins_trans, first_here}
use Rattle.vpf_follow.specs.Inner.ListLaws.{All-widen, to_below, to_next}
use Rattle.vpf_follow.proofs.RowLemmas.{has_some}

-- a dart of an edge of a tile is one of the coverage
pub dart_in : (c : CoverageTables) (t k : ℕ) (m : Bool) (T : TileTables) → tile_at c t ≡ Some T → IsRowOf (length (primitives_of T.tables).edges) k → k < 2 ^ 32
    → (links_of (library_of c)).has (code t k (sign_of m)) ≡ true
dart_in c t k m T is row few =
    let L : Library = library_of c in
    let count : edge_count (library_of c) t ≡ length (primitives_of T.tables).edges = ap length (edges_are c t T is) in
    let low = le-leb 1 k row.0 in
    let high = le-leb k (edge_count (library_of c) t) (rw count row.1) in
    has_some L t k m (edge_row_of (kth (tile_edges L t) k absent_edge)) (ends_at_last c) few (rw (low, high) refl)

-- the darts before a dart and it are the first of all
pub begins_dart : (edges : ℕ → ℕ) (t k last : ℕ) (m : Bool) → 1 ≤ k → k ≤ edges t → t ≤ last
    → Begins (darts_before edges t k m ++ code t k (sign_of m) ∷ []) (tile_darts edges last)
begins_dart edges t zero last m some h low = absurd (omega arith)
begins_dart edges t (suc j) last false some h low =
    let z : suc j - 1 ≡ j = omega arith in
    let before : List ℕ = darts_to edges t j ++ code t (suc j) 0 ∷ [] in
    rw z (begins_trans before (darts_to edges t (suc j)) (tile_darts edges last)
    (rw (to_next edges t j) (begins_more before before (code t (suc j) 1 ∷ []) (begins_self before)))
    (begins_all edges t (suc j) last h low))
begins_dart edges t (suc j) last true some h low =
    let z : suc j - 1 ≡ j = omega arith in
    rw z (subst (λ v. Begins v (tile_darts edges last)) (to_next edges t j) (begins_all edges t (suc j) last h low))

All-one : (n x : ℕ) → x < n → All (λ z. z < n) (x ∷ [])
All-one n x low zero d h = low
All-one n x low (suc i) d h = absurd (omega arith)

-- and have lower numbers
pub below_dart : (edges : ℕ → ℕ) (t k : ℕ) (m : Bool) → ((s : ℕ) → edges s < 2 ^ 24) → 1 ≤ k → All (λ x. x < code t k (sign_of m)) (darts_before edges t k m)
unfolding code
below_dart edges t zero m few some = absurd (omega arith)
below_dart edges t (suc j) false few some = let z : suc j - 1 ≡ j = omega arith in rw z (to_below edges t j few)
below_dart edges t (suc j) true few some =
    let z : suc j - 1 ≡ j = omega arith in
    rw z (All-append (λ x. x < 2 * (2 ^ 32 * t + suc j) + 1) (darts_to edges t j) ((2 * (2 ^ 32 * t + suc j) + 0) ∷ [])
    (All-widen (2 * (2 ^ 32 * t + suc j) + 0) (2 * (2 ^ 32 * t + suc j) + 1) (darts_to edges t j) (omega arith) (to_below edges t j few))
    (All-one (2 * (2 ^ 32 * t + suc j) + 1) (2 * (2 ^ 32 * t + suc j) + 0) (omega arith)))

-- what is said of a home dart is said by the first that is kept with the same dart after it
pub home_line : (C : DartLinks) (t : ℕ) (T : TileTables) (k : ℕ) (m : Bool) (before : List ℕ) (h : Followings) (next : TileDart) → next.edge < 2 ^ 32
    → Begins (before ++ code t k (sign_of m) ∷ []) C.darts → All (λ x. x < code t k (sign_of m)) before
    → is_home C (code t k (sign_of m)) ≡ true → follow C (code t k (sign_of m)) ≡ Some (tile_dart_code next) → AreHomes C before h
    → follow_line C t T k m ≡ option_map (λ first. at_wing_of t T 4 k m (DartSeen next) (DartSeen first)) (first_followed h next)
home_line C t T k m before h next few begins below home is kept =
    ap (follow_line_at C t T k m) is
    ∙ ap (λ b. if b then option_map (λ x. at_wing_of t T 4 k m (number_seen (tile_dart_code next)) (number_seen x))
    (earlier_home (code t k (sign_of m)) (first_home C (Some (tile_dart_code next)))) else None) home
    ∙ ap (option_map (λ x. at_wing_of t T 4 k m (number_seen (tile_dart_code next)) (number_seen x)))
    (first_here C before (code t k (sign_of m)) (tile_dart_code next) begins below home is)
    ∙ ap (λ x. option_map (λ y. at_wing_of t T 4 k m (DartSeen x) (number_seen y)) (find (follows_to C (Some (tile_dart_code next))) before))
    (code-numbered next few)
    ∙ named (find (follows_to C (Some (tile_dart_code next))) before)
    ∙ ap (option_map (λ first. at_wing_of t T 4 k m (DartSeen next) (DartSeen first))) (sym (first_is C before h next few kept))
  where
    named : (o : Option ℕ) → option_map (λ x. at_wing_of t T 4 k m (DartSeen next) (number_seen x)) o
        ≡ option_map (λ first. at_wing_of t T 4 k m (DartSeen next) (DartSeen first)) (option_map dart_numbered o)
    named None = refl
    named (Some x) = refl

-- the same of a home dart of a coverage, whose darts before are passed
pub said_home : (c : CoverageTables) (T : TileTables) (d : TileDart) (h : Followings) (next : TileDart) → next.edge < 2 ^ 32
    → tile_at c d.tile ≡ Some T → IsRowOf (length (primitives_of T.tables).edges) d.edge → HasFewEdges (library_of c)
    → is_home (links_of (library_of c)) (tile_dart_code d) ≡ true → follow (links_of (library_of c)) (tile_dart_code d) ≡ Some (tile_dart_code next)
    → AreHomes (links_of (library_of c)) (darts_before (edge_count (library_of c)) d.tile d.edge d.minus) h
    → follow_line (links_of (library_of c)) d.tile T d.edge d.minus
    ≡ option_map (λ first. at_wing_of d.tile T 4 d.edge d.minus (DartSeen next) (DartSeen first)) (first_followed h next)
said_home c T d h next few is row edges home follows kept =
    let L : Library = library_of c in
    let count : edge_count (library_of c) d.tile ≡ length (primitives_of T.tables).edges = ap length (edges_are c d.tile T is) in
    let high : d.edge ≤ edge_count (library_of c) d.tile = rw count row.1 in
    home_line (links_of L) d.tile T d.edge d.minus (darts_before (edge_count L) d.tile d.edge d.minus) h next few
    (begins_dart (edge_count L) d.tile d.edge (last_tile c) d.minus row.0 high (tile_last c d.tile T is))
    (below_dart (edge_count L) d.tile d.edge d.minus edges row.0)
    home follows kept
