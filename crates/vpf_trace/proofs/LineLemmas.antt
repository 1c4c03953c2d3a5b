-- The lines of a library that agrees, and what is left without them.
use Rattle.std.proofs.Common.{[], ◌≡◌, ℕ, Bool, true, false, not, eqb, ◌&&◌, refl, sym, ap, ◌∙◌, subst, inl, inr, List, ◌∷◌}
use Rattle.std.specs.List.{AllByRecursion, filter}
use Rattle.std.proofs.lemmas.Bool.{cases_Bool, and_parts, and_from, or_cases, or_left, or_right, eqb-true, eq-eqb}
use Rattle.vpf_darts.specs.Darts.{flip}
use Rattle.vpf_darts.specs.Cycles.{IsListing}
use Rattle.vpf_darts.specs.Maps.{DartMap, IsMap, AreEdges, is_of, is_of_any, without}
use Rattle.vpf_darts.specs.Inner.Laws.{OneListing, RemainderHasListing, RemovalLeavesAMap}
use Rattle.vpf_darts.specs.Inner.WithoutLaws.{live_without_all}
use Rattle.vpf_prims.specs.Primitives.{Library, is_tile_line}
use Rattle.vpf_wing.specs.Links.{DartLinks, is_minus, links_of}
use Rattle.vpf_cross.specs.Following.{is_home}
use Rattle.vpf_cross.specs.VpfFollowLaws.{HomesExist}
use Rattle.vpf_wing.specs.Inner.DartLaws.{darts-below, darts-stand, dart_bound, flip-minus, never_both, stands_in}
use Rattle.vpf_cross.specs.FollowLaws.{home_has}
use Rattle.vpf_trace.specs.Tracing.{IsTrace, IsTraceable, KeptAreLeft, LinesAreMarked, begins_line, is_on_line, map_of_library, tile_lines, traced_map}
use Rattle.vpf_trace.specs.Inner.Laws.{OneTrace, TraceWithoutLines}
use Rattle.vpf_trace.specs.Inner.LineLaws.{library_is_map, other}

-- ---- both darts of an edge of the map have one mark and two signs

other_minus : (L : Library) → IsTraceable L → (d : ℕ) → is_home (links_of L) d ≡ true → is_minus ((map_of_library L).flip d) ≡ not (is_minus d)
other_minus L a d home = ap (λ s. eqb s 1) (other L a d home).sign ∙ flip-minus d

-- ---- the map

-- ---- a dart is of a line exactly where its edge is marked

record IsBy (flip : ℕ → ℕ) (p : ℕ → Bool) (d : ℕ) : Type 0 where
  pub edge : ℕ
  pub passes : p edge ≡ true
  pub of : is_of flip edge d ≡ true

of_some : (flip : ℕ → ℕ) (p : ℕ → Bool) (d : ℕ) (xs : List ℕ) → is_of_any flip (filter p xs) d ≡ true → IsBy flip p d
of_some flip p d [] h = absurd (never_both false h refl)
of_some flip p d (x ∷ xs) h = elim (cases_Bool (p x)) [
  | inl t ↦ (
      let h' = rw t at h in
      elim (or_cases (is_of flip x d) (is_of_any flip (filter p xs) d) h') [ inl o ↦ record { edge = x; passes = t; of = o } | inr r ↦ of_some flip p d xs r ])
  | inr f ↦ (let h' = rw f at h in of_some flip p d xs h')
]

some_of : (flip : ℕ → ℕ) (p : ℕ → Bool) (d e : ℕ) → p e ≡ true → is_of flip e d ≡ true → (xs : List ℕ) → stands_in e xs ≡ true
    → is_of_any flip (filter p xs) d ≡ true
some_of flip p d e pe o [] s = absurd (never_both false s refl)
some_of flip p d e pe o (x ∷ xs) s = elim (or_cases (eqb e x) (stands_in e xs) s) [
  | inl same ↦ (
      let is : e ≡ x = eqb-true e x same in
      let px : p x ≡ true = ap p (sym is) ∙ pe in
      rw px (or_left (is_of flip x d) (is_of_any flip (filter p xs) d) (ap (λ z. is_of flip z d) (sym is) ∙ o)))
  | inr rest ↦ (
      let later : is_of_any flip (filter p xs) d ≡ true = some_of flip p d e pe o xs rest in
      elim (cases_Bool (p x)) [ inl t ↦ rw t (or_right (is_of flip x d) (is_of_any flip (filter p xs) d) later) | inr f ↦ rw f later ])
]

all_pass : (p q : ℕ → Bool) → ((x : ℕ) → p x ≡ true → q x ≡ true) → (xs : List ℕ) → AllByRecursion (λ x. q x ≡ true) (filter p xs)
all_pass p q h [] = tt
all_pass p q h (x ∷ xs) = elim (cases_Bool (p x)) [ inl t ↦ rw t (h x t, all_pass p q h xs) | inr f ↦ rw f (all_pass p q h xs) ]

-- the parts of being the + dart of a line
record BeginsLine (L : Library) (d : ℕ) : Type 0 where
  pub home : is_home (links_of L) d ≡ true
  pub line : is_on_line L d ≡ true

begins : (L : Library) (d : ℕ) → begins_line L d ≡ true → BeginsLine L d
begins L d h =
    let p = and_parts (is_home (links_of L) d) (is_on_line L d && not (is_minus d)) h in
    let q = and_parts (is_on_line L d) (not (is_minus d)) p.1 in
    record { home = p.0; line = q.0 }

begins_from : (L : Library) (d : ℕ) → is_home (links_of L) d ≡ true → is_on_line L d ≡ true → is_minus d ≡ false → begins_line L d ≡ true
begins_from L d home line plus = and_from (is_home (links_of L) d) (is_on_line L d && not (is_minus d)) home (and_from (is_on_line L d) (not (is_minus d)) line (ap not plus))

line_other : (L : Library) → IsTraceable L → (d : ℕ) → is_home (links_of L) d ≡ true → is_on_line L ((map_of_library L).flip d) ≡ is_on_line L d
line_other L a d home = ap is_tile_line (other L a d home).mark

marked_of : (L : Library) → IsTraceable L → (d : ℕ) → IsBy (map_of_library L).flip (begins_line L) d → is_on_line L d ≡ true
marked_of L a d b =
    let e = begins L b.edge b.passes in
    elim (or_cases (eqb d b.edge) (eqb d ((map_of_library L).flip b.edge)) b.of) [
      | inl same ↦ ap (is_on_line L) (eqb-true d b.edge same) ∙ e.line
      | inr turned ↦ ap (is_on_line L) (eqb-true d ((map_of_library L).flip b.edge) turned) ∙ line_other L a b.edge e.home ∙ e.line
    ]

of_marked : (L : Library) → IsTraceable L → IsMap (map_of_library L) → (d : ℕ) → is_home (links_of L) d ≡ true → is_on_line L d ≡ true → is_of_any (map_of_library L).flip (tile_lines L) d ≡ true
unfolding tile_lines
of_marked L a m d home line =
    let C : DartLinks = links_of L in
    let e : ℕ = (map_of_library L).flip d in
    elim (cases_Bool (is_minus d)) [
      | inr plus ↦ some_of (map_of_library L).flip (begins_line L) d d (begins_from L d home line plus) (or_left (eqb d d) (eqb d e) (eq-eqb d d refl)) C.darts
          (darts-stand L d (home_has C d home))
      | inl minus ↦ (
          let there : is_home (links_of L) ((map_of_library L).flip d) ≡ true = m.flip_has d home in
          some_of (map_of_library L).flip (begins_line L) d e
          (begins_from L e there (line_other L a d home ∙ line) (other_minus L a d home ∙ ap not minus))
          (or_right (eqb d e) (eqb d ((map_of_library L).flip e)) (eq-eqb d ((map_of_library L).flip e) (sym (m.flip_flip d home)))) C.darts
          (darts-stand L e (home_has C e there)))
    ]

marked_only : (L : Library) → IsTraceable L → (d : ℕ) → is_of_any (map_of_library L).flip (tile_lines L) d ≡ true → is_on_line L d ≡ true
unfolding tile_lines
marked_only L a d h = marked_of L a d (of_some (map_of_library L).flip (begins_line L) d (links_of L).darts h)

one_truth : (a b : Bool) → (a ≡ true → b ≡ true) → (b ≡ true → a ≡ true) → a ≡ b
one_truth true b f g = sym (f refl)
one_truth false true f g = g refl
one_truth false false f g = refl

lines_are_edges : (L : Library) → AreEdges (map_of_library L) (tile_lines L)
unfolding tile_lines
lines_are_edges L = all_pass (begins_line L) (is_home (links_of L)) (λ x h. (begins L x h).home) (links_of L).darts

pub library_has_lines : HomesExist → (L : Library) → IsTraceable L → LinesAreMarked L
library_has_lines law L a =
    let m : IsMap (map_of_library L) = library_is_map law L a in
    record {
      edges = lines_are_edges L;
      marked = λ d home. one_truth _ _ (marked_only L a d) (of_marked L a m d home);
    }

-- ---- what is left

pub library_has_kept : HomesExist → RemovalLeavesAMap → (L : Library) → IsTraceable L → KeptAreLeft L
library_has_kept law removal L a =
    let m : IsMap (map_of_library L) = library_is_map law L a in
    let lines : LinesAreMarked L = library_has_lines law L a in
    record {
      is_map = removal (map_of_library L) (tile_lines L) m lines.edges;
      kept = λ d. live_without_all (map_of_library L) (tile_lines L) d ∙ elim (cases_Bool (is_home (links_of L) d)) [
        | inl home ↦ ap (λ b. is_home (links_of L) d && not b) (lines.marked d home)
        | inr away ↦ rw away refl
      ];
    }

pub library_has_trace : HomesExist → RemainderHasListing → (L : Library) → IsTraceable L → (lists : List (List ℕ)) × IsTrace L lists
library_has_trace law some L a =
    some (map_of_library L) (tile_lines L) (dart_bound L) (library_is_map law L a) (lines_are_edges L) (λ d home. darts-below L d (home_has (links_of L) d home))

pub one_trace : OneListing → OneTrace
one_trace law L xs ys = law (traced_map L).next (traced_map L).live xs ys

none_pass : (p : ℕ → Bool) → ((x : ℕ) → p x ≡ false) → (xs : List ℕ) → filter p xs ≡ []
none_pass p h [] = refl
none_pass p h (x ∷ xs) = rw (h x) (none_pass p h xs)

no_lines : (L : Library) → ((d : ℕ) → is_home (links_of L) d ≡ true → is_on_line L d ≡ false) → tile_lines L ≡ []
unfolding tile_lines
no_lines L h = none_pass (begins_line L) (λ d. elim (cases_Bool (is_home (links_of L) d)) [
  | inl home ↦ rw (home, h d home) refl
  | inr away ↦ rw away refl
]) (links_of L).darts

pub trace_without_lines : TraceWithoutLines
trace_without_lines L lists h =
    let none : tile_lines L ≡ [] = no_lines L h in
    let same : traced_map L ≡ map_of_library L = ap (without (map_of_library L)) none in (
      λ t. subst (λ (m : DartMap). IsListing m.next m.live lists) same t,
      λ t. subst (λ (m : DartMap). IsListing m.next m.live lists) (sym same) t,
    )
