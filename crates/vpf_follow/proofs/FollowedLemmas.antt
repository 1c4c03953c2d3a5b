-- What follows a dart is a home dart, and in a coverage where nothing disagrees in what follows darts it is there.
use Rattle.std.proofs.Common.{[], ◌≡◌, ℕ, ◌^◌, ◌<◌, ◌≤◌, Bool, true, false, ◌&&◌, ◌==◌, Option, Some, None, List, ◌∷◌, length, refl, ap, sym, ◌∙◌, arith, inl, inr}
use Rattle.std.proofs.lemmas.Bool.{cases_Bool, leb-true}
use Rattle.std.specs.Prelude.{find, if◌then◌else◌, nat_le}
use Rattle.std.specs.Option.{option_map, option_eq, unwrap_or}
use Rattle.vpf_darts.specs.declared.darts.TileDart.{TileDart}
use Rattle.vpf_darts.specs.Darts.{code, flip, tile_dart_code, tile_in}
use Rattle.vpf_findings.specs.Inner.FirstLaws.{or-none_both}
use Rattle.vpf_prims.specs.Coverages.{CoverageTables, last_tile, tile_at}
use Rattle.vpf_prims.specs.Primitives.{Library, edge_count, edges_in}
use Rattle.vpf_prims.specs.Reading.{primitives_of}
use Rattle.vpf_prims.specs.Tables.{TileTables}
use Rattle.vpf_wing.specs.Links.{Beyond, DartLinks, links_of, only, tail_node}
use Rattle.vpf_follow.specs.Following.{dart_numbered, face_name, first_home, follow, follow_to, follows_to, home_copy, is_home, is_named, same_beyond}
use Rattle.vpf_follow.specs.FollowLines.{follow_line, follow_line_at, follow_lines, follows_finding}
use Rattle.vpf_follow.specs.Inner.Homes.{AreHomes, Followings, IsDartIn, first_followed}
use Rattle.vpf_prims.specs.Libraries.{in_tiles, library_of, primitives_in}
use Rattle.vpf_follow.proofs.CoverageLemmas.{edges_are}
use Rattle.vpf_follow.proofs.DartLemmas.{numbered-code}
use Rattle.vpf_follow.proofs.EdgeLines.{edges_none}
use Rattle.vpf_follow.proofs.HomeLemmas.{first_is}
use Rattle.vpf_follow.proofs.RowLemmas.{has_is}
use Rattle.vpf_follow.proofs.TileLines.{tiles_none}
use Rattle.vpf_base.proofs.Booleans.{all_three}
use Rattle.vpf_follow.specs.Inner.FollowLaws.{home_has}

-- the one that passes does
only_passes : (p : ℕ → Bool) (d e : ℕ) → only p d ≡ Some e → p e ≡ true
only_passes p d e is = elim (cases_Bool (p d)) [
  | inl t ↦ elim (cases_Bool (p (flip d))) [
    | inl t' ↦ (let none : only p d ≡ None = rw (t, t') refl in absurd cc)
    | inr f' ↦ (let some : only p d ≡ Some d = rw (t, f') refl in let same : d ≡ e = cc in rw (← same) t)
  ]
  | inr f ↦ elim (cases_Bool (p (flip d))) [
    | inl t' ↦ (let some : only p d ≡ Some (flip d) = rw (f, t') refl in let same : flip d ≡ e = cc in rw (← same) t')
    | inr f' ↦ (let none : only p d ≡ None = rw (f, f') refl in absurd cc)
  ]
]

both_left : (a b : Bool) → (a && b) ≡ true → a ≡ true
both_left true b e = refl
both_left false b e = absurd cc

named_home : (C : DartLinks) (node : ℕ) (face : Option Beyond) (e : ℕ) → is_named C node face e ≡ true → is_home C e ≡ true
named_home C node face e is = both_left (is_home C e) ((tail_node C e == node) && option_eq same_beyond (face_name C e) face) is

to_home : (C : DartLinks) (tile edge node : ℕ) (face wing_out node_out : Option Beyond) (e : ℕ) → follow_to C tile edge node face wing_out node_out ≡ Some e
    → is_home C e ≡ true
to_home C tile edge node face None v e is = named_home C node face e (only_passes (is_named C node face) (code tile edge 0) e is)
to_home C tile edge node face (Some w) None e is = absurd cc
to_home C tile edge node face (Some w) (Some v) e is = elim (cases_Bool (w.tile == v.tile)) [
  | inl t ↦ (let same : follow_to C tile edge node face (Some w) (Some v) ≡ only (is_named C v.id face) (code w.tile w.id 0) = rw t refl in
      named_home C v.id face e (only_passes (is_named C v.id face) (code w.tile w.id 0) e (sym same ∙ is)))
  | inr f ↦ (let none : follow_to C tile edge node face (Some w) (Some v) ≡ None = rw f refl in absurd cc)
]

-- what follows a dart is a home dart
pub follower_home : (C : DartLinks) (d e : ℕ) → follow C d ≡ Some e → is_home C e ≡ true
unfolding follow
follower_home C d e is = to_home C (tile_in d) (C.wing d).id (C.node d).id (face_name C d) (C.wing d).out (C.node d).out e is

-- a dart is of an edge of a tile that has tables
tables_there : (c : CoverageTables) (t : ℕ) → 1 ≤ edge_count (library_of c) t → (T : TileTables) × (tile_at c t ≡ Some T)
tables_there c t some = by (tile_at c t) refl some
  where
    by : (o : Option TileTables) → tile_at c t ≡ o → 1 ≤ length (edges_in (primitives_in o)) → (T : TileTables) × (tile_at c t ≡ Some T)
    by None is h = absurd (omega arith)
    by (Some T) is h = (T, is)

lines_none : (C : DartLinks) (t k : ℕ) (T : TileTables) (m : Bool) → follow_lines C t T k ≡ None → follow_line C t T k m ≡ None
lines_none C t k T true none = (or-none_both (follow_line C t T k false) (follow_line C t T k true) none).1
lines_none C t k T false none = (or-none_both (follow_line C t T k false) (follow_line C t T k true) none).0

none_told : {A : Type 0} {x : A} → None ≡ Some x → ⊥
none_told e = cc

-- where nothing disagrees in what follows darts, each dart is followed
pub is_followed : (c : CoverageTables) (d : TileDart) → d.edge < 2 ^ 32 → IsDartIn c d → in_tiles (follows_finding (links_of (library_of c))) c ≡ None
    → follow (links_of (library_of c)) (tile_dart_code d) ≡ None → ⊥
is_followed c d few has none nothing =
    let C : DartLinks = links_of (library_of c) in
    let L : Library = library_of c in
    let parts = all_three (nat_le 1 d.edge) (nat_le d.edge (edge_count L d.tile)) (nat_le d.tile (last_tile c))
    (sym (has_is L d.tile d.edge d.minus few) ∙ has) in
    let low : 1 ≤ d.edge = leb-true 1 d.edge parts.0 in
    let high : d.edge ≤ edge_count (library_of c) d.tile = leb-true d.edge (edge_count L d.tile) parts.1 in
    let last : d.tile ≤ last_tile c = leb-true d.tile (last_tile c) parts.2 in
    let there = tables_there c d.tile (omega arith) in
    let T : TileTables = there.0 in
    let count : edge_count (library_of c) d.tile ≡ length (primitives_of there.0.tables).edges = ap length (edges_are c d.tile there.0 there.1) in
    let tile = tiles_none (follows_finding C) c d.tile there.0 last there.1 none in
    let edge = edges_none (follow_lines C d.tile there.0) there.0 d.edge low (rw (← count) high) tile in
    let line : follow_line (links_of (library_of c)) d.tile there.0 d.edge d.minus ≡ None = lines_none C d.tile d.edge there.0 d.minus edge in
    let told : follow_line (links_of (library_of c)) d.tile there.0 d.edge d.minus
    ≡ follow_line_at (links_of (library_of c)) d.tile there.0 d.edge d.minus None =
    ap (follow_line_at C d.tile there.0 d.edge d.minus) nothing in
    none_told (sym line ∙ told)

find_passes : (p : ℕ → Bool) (xs : List ℕ) (x : ℕ) → find p xs ≡ Some x → p x ≡ true
find_passes p [] x is = absurd cc
find_passes p (y ∷ ys) x is = elim (cases_Bool (p y)) [
  | inl t ↦ (let some : find p (y ∷ ys) ≡ Some y = rw t refl in let same : y ≡ x = cc in rw (← same) t)
  | inr f ↦ (let later : find p (y ∷ ys) ≡ find p ys = rw f refl in find_passes p ys x (sym later ∙ is))
]

-- the first home dart that is followed so is a home dart
first_is_home : (C : DartLinks) (next : Option ℕ) (x : ℕ) → first_home C next ≡ Some x → is_home C x ≡ true
unfolding first_home
first_is_home C next x is = both_left (is_home C x) _ (find_passes (follows_to C next) C.darts x is)

-- the home copy of a home dart
pub own_copy : (C : DartLinks) (d : ℕ) → is_home C d ≡ true → home_copy C d ≡ d
unfolding home_copy
own_copy C d home = rw home refl

-- the home copy of another dart, by the home darts that are kept
pub kept_copy : (C : DartLinks) (h : Followings) (d next : TileDart) → next.edge < 2 ^ 32 → AreHomes C C.darts h → is_home C (tile_dart_code d) ≡ false
    → follow C (tile_dart_code d) ≡ Some (tile_dart_code next) → tile_dart_code (unwrap_or (first_followed h next) d) ≡ home_copy C (tile_dart_code d)
unfolding first_home home_copy
kept_copy C h d next few kept other is =
    ap (λ o. tile_dart_code (unwrap_or o d)) (first_is C C.darts h next few kept) ∙ by (find (follows_to C (Some (tile_dart_code next))) C.darts)
    ∙ sym (ap (λ o. unwrap_or (first_home C o) (tile_dart_code d)) is)
    ∙ sym (ap (λ b. if b then tile_dart_code d else unwrap_or (first_home C (follow C (tile_dart_code d))) (tile_dart_code d)) other)
  where
    by : (o : Option ℕ) → tile_dart_code (unwrap_or (option_map dart_numbered o) d) ≡ unwrap_or o (tile_dart_code d)
    by None = refl
    by (Some x) = numbered-code x

-- a home copy is one of the coverage
pub copy_has : (C : DartLinks) (d : ℕ) → C.has d ≡ true → C.has (home_copy C d) ≡ true
unfolding home_copy
copy_has C d has = elim (cases_Bool (is_home C d)) [
  | inl home ↦ rw home has
  | inr other ↦ rw other (by (first_home C (follow C d)) refl)
]
  where
    by : (o : Option ℕ) → first_home C (follow C d) ≡ o → C.has (unwrap_or o d) ≡ true
    by None none = has
    by (Some x) some = home_has C x (first_is_home C (follow C d) x some)
