-- The rings of the universe, by the cycles of the map.
use Rattle.std.proofs.Common.{◌≡◌, ℕ, ◌+◌, ◌*◌, ◌<◌, ◌≤◌, Bool, true, false, not, cond, eqb, ◌&&◌, refl, sym, ap, ◌∙◌, subst, inl, inr, arith, Option, None, Some, List, [], ◌∷◌, ◌++◌, length, map, get_or, take}
use Rattle.std.proofs.lemmas.Bool.{cases_Bool, and_parts, eqb-true}
use Rattle.std.proofs.lemmas.List.{get_or_default, length-map, map-append}
use Rattle.std.proofs.lemmas.List.Filters.{length-filter_both}
use Rattle.std.proofs.lemmas.List.Kept.{IsStrictlyIncreasing-filter}
use Rattle.std.proofs.lemmas.Map.Keys.{IsDistinct-from_apart}
use Rattle.std.specs.List.{IsDistinct}
use Rattle.std.specs.List.Sorted.{IsStrictlyIncreasing}
use Rattle.std.specs.Option.{option_eq, unwrap_or}
use Rattle.std.specs.Prelude.{filter, is_some}
use Rattle.vpf_darts.specs.declared.darts.TileDart.{TileDart}
use Rattle.vpf_darts.specs.Cycles.{IsListing, first_of}
use Rattle.vpf_darts.specs.Darts.{code, tile_dart_code, tile_in}
use Rattle.vpf_prims.specs.Primitives.{Library}
use Rattle.vpf_wing.specs.Inner.DartLaws.{never_both, none_is_some, only-passes, some-or-none, stands_in}
use Rattle.vpf_wing.specs.Links.{Beyond, DartLinks, links_of, tail_node}
use Rattle.vpf_follow.specs.Inner.FollowLaws.{follow_home}
use Rattle.vpf_follow.specs.Following.{face_name, follow, follow_to, is_far_face, is_home, is_named, library_map, same_beyond}
use Rattle.vpf_tiling.specs.Ranks.{is_least, leasts}
use Rattle.vpf_cut_rings.specs.Inner.Laws.{ArePassing, LeastsBeginCycles}
use Rattle.vpf_cut_rings.specs.Inner.BeginLaws.{one_dropped, one_kept}
use Rattle.vpf_tiling_laws.specs.Gluing.Glued.{plus_darts, universe_rings}
use Rattle.vpf_tiling_laws.specs.Gluing.Whole.{whole_of}
use Rattle.vpf_renumbering.specs.Inner.Whole.Gathering.{AreHomeDarts}
use Rattle.vpf_renumbering.specs.declared.glued_faces.rings.GluedRing.{GluedRing}
use Rattle.vpf_renumbering.specs.Inner.GluedFaces.Faces.{IsJoined}
use Rattle.vpf_renumbering.specs.Inner.GluedFaces.Rings.{is_universe, ring_said, rings_glued, rings_of_cycles, universe_ring}
use Rattle.vpf_renumbering.proofs.glued_faces.DistinctLemmas.{distinct_rising, no_test}
use Rattle.vpf_renumbering.proofs.glued_faces.FewLemmas.{any_stands, few_homes}

-- ---- what follows a dart has its face

named_face : (C : DartLinks) (node : ℕ) (face : Option Beyond) (y : ℕ) → is_named C node face y ≡ true → option_eq same_beyond (face_name C y) face ≡ true
named_face C node face y h =
    (and_parts (eqb (tail_node C y) node) (option_eq same_beyond (face_name C y) face)
    (and_parts (is_home C y) (eqb (tail_node C y) node && option_eq same_beyond (face_name C y) face) h).1).1

follow_to_face : (C : DartLinks) (tile edge node : ℕ) (face w v : Option Beyond) (y : ℕ) → follow_to C tile edge node face w v ≡ Some y → option_eq same_beyond (face_name C y) face ≡ true
follow_to_face C tile edge node face None v y h = named_face C node face y (only-passes (is_named C node face) (code tile edge 0) y h).0
follow_to_face C tile edge node face (Some w) None y h = absurd (none_is_some y h)
follow_to_face C tile edge node face (Some w) (Some v) y h = elim (cases_Bool (eqb w.tile v.tile)) [
  | inl t ↦ (let h' = rw t at h in named_face C v.id face y (only-passes (is_named C v.id face) (code w.tile w.id 0) y h').0)
  | inr f ↦ (let h' = rw f at h in absurd (none_is_some y h'))
]

follow_face : (C : DartLinks) (x y : ℕ) → follow C x ≡ Some y → option_eq same_beyond (face_name C y) (face_name C x) ≡ true
unfolding follow
follow_face C x y h = follow_to_face C (tile_in x) (C.wing x).id (C.node x).id (face_name C x) (C.wing x).out (C.node x).out y h

some_both : (a b : Option Beyond) → option_eq same_beyond a b ≡ true → is_some a ≡ is_some b
some_both None None h = refl
some_both None (Some q) h = absurd (never_both false h refl)
some_both (Some p) None h = absurd (never_both false h refl)
some_both (Some p) (Some q) h = refl

-- a home dart has the universe for its face where its name is none
universe_name : (L : Library) (d : ℕ) → is_home (links_of L) d ≡ true → is_universe L d ≡ not (is_some (face_name (links_of L) d))
universe_name L d home = ap (λ b. not (is_some (cond b (face_name (links_of L) d) None))) home

next_universe : (L : Library) (d : ℕ) → is_home (links_of L) d ≡ true → is_universe L ((library_map (links_of L)).next d) ≡ is_universe L d
next_universe L d home =
    let C : DartLinks = links_of L in
    let next : (library_map C).next d ≡ unwrap_or (follow C d) d = ap (λ b. cond b (unwrap_or (follow C d) d) d) home in
    elim (some-or-none (follow C d)) [
      | inl f ↦ (
          let e : (library_map (links_of L)).next d ≡ f.0 = next ∙ ap (λ o. unwrap_or o d) f.1 in
          ap (is_universe L) e ∙ universe_name L f.0 (follow_home C d f.0 f.1) ∙ ap not (some_both (face_name C f.0) (face_name C d) (follow_face C d f.0 f.1)) ∙ sym (universe_name L d home))
      | inr none ↦ ap (is_universe L) (next ∙ ap (λ o. unwrap_or o d) none)
    ]

-- it has it where that is its face 1
not_far : (a b : Bool) → not (a && b) ≡ true → a ≡ true → b ≡ false
not_far true true h e = absurd (never_both false h refl)
not_far true false h e = refl
not_far false b h e = absurd (never_both false e refl)

pub universe_of : (L : Library) (d id : ℕ) → is_home (links_of L) d ≡ true → id ≡ ((links_of L).face d).id → (b : Bool) → eqb id 1 ≡ b → is_universe L d ≡ b
universe_of L d id home is b e =
    let C : DartLinks = links_of L in
    let own : not (is_far_face (C.face d)) ≡ true = (and_parts (C.has d) (not (is_far_face (C.face d))) home).1 in
    let test : eqb (C.face d).id 1 ≡ b = ap (λ v. eqb v 1) (sym is) ∙ e in
    universe_name L d home ∙ by_test b test own
  where
    by_test : (b : Bool) → eqb ((links_of L).face d).id 1 ≡ b → not (is_far_face ((links_of L).face d)) ≡ true → not (is_some (face_name (links_of L) d)) ≡ b
    by_test true t own =
        ap (λ v. not (is_some (cond v ((links_of L).face d).out (Some (record { tile = tile_in d; id = ((links_of L).face d).id }))))) t
        ∙ ap not (not_far (eqb ((links_of L).face d).id 1) (is_some ((links_of L).face d).out) own t)
    by_test false t own = ap (λ v. not (is_some (cond v ((links_of L).face d).out (Some (record { tile = tile_in d; id = ((links_of L).face d).id }))))) t

-- ---- the rings as they are made

pub none_yet : (L : Library) (lists : List (List ℕ)) → rings_glued L [] ≡ rings_of_cycles L (take 0 lists)
unfolding rings_glued rings_of_cycles
none_yet L lists = refl

pub one_more : (L : Library) (lists : List (List ℕ)) (i : ℕ) (start : TileDart) → i < length lists → tile_dart_code start ≡ first_of (get_or lists i [])
    → is_universe L (tile_dart_code start) ≡ true → (before after : List GluedRing) → after ≡ before ++ record { face = 1; start = start } ∷ []
    → rings_glued L before ≡ rings_of_cycles L (take i lists) → rings_glued L after ≡ rings_of_cycles L (take (i + 1) lists)
unfolding rings_glued rings_of_cycles
one_more L lists i start h is u before after a was =
    let x : GluedRing = record { face = 1; start = start } in
    ap (map (ring_said (whole_of L))) a ∙ map-append (ring_said (whole_of L)) before (x ∷ []) ∙ ap (λ v. v ++ universe_ring L (tile_dart_code start) ∷ []) was
    ∙ sym (one_kept (universe_ring L) (is_universe L) lists i (tile_dart_code start) h is u)

pub no_more : (L : Library) (lists : List (List ℕ)) (i : ℕ) (start : TileDart) → i < length lists → tile_dart_code start ≡ first_of (get_or lists i [])
    → is_universe L (tile_dart_code start) ≡ false → (rings : List GluedRing)
    → rings_glued L rings ≡ rings_of_cycles L (take i lists) → rings_glued L rings ≡ rings_of_cycles L (take (i + 1) lists)
unfolding rings_glued rings_of_cycles
no_more L lists i start h is u rings was = was ∙ sym (one_dropped (universe_ring L) (is_universe L) lists i (tile_dart_code start) h is u)

-- ---- all of them

kept_stands : (p : ℕ → Bool) (d : ℕ) (xs : List ℕ) → stands_in d (filter p xs) ≡ (stands_in d xs && p d)
kept_stands p d [] = refl
kept_stands p d (x ∷ xs) = elim (cases_Bool (eqb d x)) [
  | inl same ↦ (
      let px : p x ≡ p d = ap p (sym (eqb-true d x same)) in
      elim (cases_Bool (p d)) [
        | inl t ↦ rw (px, t) (rw same refl)
        | inr f ↦ rw (px, f) (rw (kept_stands p d xs, f, same) (nothing (stands_in d xs)))
      ])
  | inr other ↦ (elim (cases_Bool (p x)) [ inl t ↦ rw (t, other) (kept_stands p d xs) | inr f ↦ rw (f, other) (kept_stands p d xs) ])
]
  where
    nothing : (b : Bool) → (b && false) ≡ false
    nothing true = refl
    nothing false = refl

passing : (L : Library) (darts : List TileDart) → AreHomeDarts L darts
    → ArePassing (library_map (links_of L)).next (library_map (links_of L)).live (is_universe L) (filter (is_universe L) (whole_of L).order)
passing L darts a = record {
  rise = IsStrictlyIncreasing-filter (is_universe L) (whole_of L).order (subst IsStrictlyIncreasing a.numbers a.in_order.rise);
  each = λ d. kept_stands (is_universe L) d (whole_of L).order ∙ ap (λ b. b && is_universe L d) (ap (stands_in d) (sym a.numbers) ∙ a.each d);
  along = next_universe L;
}

pub cycles_made : LeastsBeginCycles → (L : Library) (darts : List TileDart) → AreHomeDarts L darts → (lists : List (List ℕ))
    → IsListing (library_map (links_of L)).next (library_map (links_of L)).live lists → rings_of_cycles L lists ≡ universe_rings (whole_of L)
unfolding rings_of_cycles
cycles_made law L darts a lists l =
    ap (map (universe_ring L)) (sym (law (library_map (links_of L)).next (library_map (links_of L)).live (is_universe L) (filter (is_universe L) (whole_of L).order) lists l (passing L darts a)))

fewer_kept : (p : ℕ → Bool) (xs : List ℕ) → length (filter p xs) ≤ length xs
fewer_kept p xs =
    let both : length (filter p xs) + length (filter (λ d. not (p d)) xs) ≡ length xs = length-filter_both p (λ d. not (p d)) (λ d. refl) xs in
    omega arith

-- no more than the home darts
pub universe_few : (L : Library) → IsJoined L → (darts : List TileDart) → AreHomeDarts L darts → length (universe_rings (whole_of L)) ≤ 2 * length (plus_darts (whole_of L))
universe_few L j darts a =
    let order : List ℕ = (whole_of L).order in
    let next : ℕ → ℕ = (library_map (links_of L)).next in
    let own : List ℕ = filter (is_universe L) (whole_of L).order in
    let made : length (universe_rings (whole_of L)) ≡ length (leasts next own) = length-map (leasts next own) (universe_ring L) in
    let least : length (leasts next own) ≤ length own = fewer_kept (is_least next (length own)) own in
    let universe : length own ≤ length order = fewer_kept (is_universe L) (whole_of L).order in
    let rise : IsStrictlyIncreasing order = subst IsStrictlyIncreasing a.numbers a.in_order.rise in
    let distinct : IsDistinct eqb order = IsDistinct-from_apart eqb order (λ i j d lt below. no_test (eqb (get_or order i d) (get_or order j d)) (λ t.
    distinct_rising order rise i j lt below
    (get_or_default order i 0 d (omega arith) ∙ eqb-true (get_or order i d) (get_or order j d) t ∙ get_or_default order j d 0 below))) in
    let all : length order ≤ 2 * length (plus_darts (whole_of L)) =
    few_homes L j order distinct (λ q s. sym (a.each q) ∙ ap (stands_in q) a.numbers ∙ any_stands q order ∙ s) in
    omega arith
