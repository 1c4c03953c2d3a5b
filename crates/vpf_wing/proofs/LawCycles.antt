-- The wings make a map exactly where each dart has a next of its own; an edge with one face on both sides is on one cycle exactly
-- where both its darts have one least place.
use Rattle.std.proofs.Common.{◌≡◌, ℕ, ◌+◌, ◌-◌, ◌*◌, ◌/◌, ◌%◌, ◌<◌, ◌≤◌, Option, Some, None, length, refl, sym, ap, subst, ◌∙◌, inl, inr, arith}
use Rattle.std.proofs.lemmas.Bool.{cases_eq}
use Rattle.std.specs.Option.{option_map}
use Rattle.vpf_darts.specs.declared.darts.Dart.{Dart}
use Rattle.vpf_darts.specs.Darts.{dart_code, flip}
use Rattle.vpf_darts.specs.MapLists.{dart_place}
use Rattle.vpf_findings.specs.Findings.{Disagreement}
use Rattle.vpf_findings.specs.Firsts.{first_of_rows}
use Rattle.vpf_prims.specs.Primitives.{Library, edge_count}
use Rattle.vpf_prims.specs.Tables.{TileTables}
use Rattle.vpf_wing.specs.Nexts.{no_edge, edge_at, dart_at, next_dart, MakeMap}
use Rattle.vpf_wing.specs.Places.{least_place, flip_place}
use Rattle.vpf_wing.specs.Walks.{LeadsTo}
use Rattle.vpf_wing.specs.CycleLines.{sides_line}
use Rattle.vpf_wing.specs.Links.{links_of, local_next, local_map}
use Rattle.vpf_wing.specs.WellFormed.{IsDartOf}
use Rattle.vpf_wing.proofs.LawFacts.{none_some, some_same, unless_holds, implies_is, implies_from}
use Rattle.vpf_findings.specs.Inner.FirstLaws.{unless_none}
use Rattle.vpf_wing.proofs.LawRows.{row_none, row_silent}
use Rattle.vpf_wing.proofs.LawDarts.{AtPlace, number_at, number-apart, at_place, number_dart}
use Rattle.vpf_wing.proofs.LawLinks.{rows_of, rows_count, dart_number, number_flip, flip_below}
use Rattle.vpf_wing.proofs.LawPlaces.{IsTile, below_rows, same_code, next_of_number, least_by, least_leads}
use Rattle.vpf_wing.proofs.LawLoops.{edge_of_row, one_face, both_faces}

-- each dart has a next
abbrev pub HaveNexts : Library → ℕ → Type 0
HaveNexts L t = (d : ℕ) → IsDartOf (links_of L) t d → (e : ℕ) × (local_next (links_of L) d ≡ Some e)

-- no two have the same
abbrev pub NextsApart : Library → ℕ → Type 0
NextsApart L t = (d e : ℕ) → IsDartOf (links_of L) t d → IsDartOf (links_of L) t e → local_next (links_of L) d ≡ local_next (links_of L) e → d ≡ e

-- the local next of a dart whose next by the rows is known
next_some : (L : Library) (t p : ℕ) (x : Dart) → IsTile L t → p < 2 * edge_count L t → next_dart (rows_of L t) (dart_at p) ≡ Some x
    → local_next (links_of L) (number_at t p) ≡ Some (dart_number t x)
next_some L t p x tile h e = next_of_number L t p tile h ∙ ap (option_map (dart_number t)) e

pub have_nexts : (L : Library) (t : ℕ) → IsTile L t → MakeMap (rows_of L t) → HaveNexts L t
have_nexts L t tile made d hd =
    let a : AtPlace L t d = at_place L t d hd in
    let x = made.one a.place (below_rows L t a.place a.below) in
    (dart_number t x.0, ap (local_next (links_of L)) (sym a.is) ∙ next_some L t a.place x.0 tile a.below x.1)

pub nexts_apart : (L : Library) (t : ℕ) → IsTile L t → MakeMap (rows_of L t) → NextsApart L t
nexts_apart L t tile made d e hd he one =
    let a : AtPlace L t d = at_place L t d hd in
    let b : AtPlace L t e = at_place L t e he in
    let ra = below_rows L t a.place a.below in
    let rb = below_rows L t b.place b.below in
    let x = made.one a.place ra in
    let y = made.one b.place rb in
    let nx : local_next (links_of L) d ≡ Some (dart_number t x.0) = ap (local_next (links_of L)) (sym a.is) ∙ next_some L t a.place x.0 tile a.below x.1 in
    let ny : local_next (links_of L) e ≡ Some (dart_number t y.0) = ap (local_next (links_of L)) (sym b.is) ∙ next_some L t b.place y.0 tile b.below y.1 in
    let num : dart_number t x.0 ≡ dart_number t y.0 = some_same _ _ (sym nx ∙ one ∙ ny) in
    let place : dart_place (dart_code x.0) ≡ dart_place (dart_code y.0) = number-apart t (dart_place (dart_code x.0)) (dart_place (dart_code y.0)) num in
    let code : dart_code x.0 ≡ dart_code y.0 = same_code (rows_of L t) tile.among a.place b.place x.0 y.0 ra rb x.1 y.1 place in
    let at : a.place ≡ b.place = made.apart a.place b.place x.0 y.0 ra rb x.1 y.1 code in
    sym a.is ∙ ap (number_at t) at ∙ b.is

mapped_some : (g : Dart → ℕ) (o : Option Dart) (e : ℕ) → option_map g o ≡ Some e → (x : Dart) × (o ≡ Some x)
mapped_some g None e h = absurd (none_some e h)
mapped_some g (Some x) e h = (x, refl)

count_rows : (L : Library) (t p : ℕ) → p < 2 * length (rows_of L t) → p < 2 * edge_count L t
count_rows L t p h = subst (λ n. p < 2 * n) (rows_count L t) h

pub makes_map : (L : Library) (t : ℕ) → IsTile L t → HaveNexts L t → NextsApart L t → MakeMap (rows_of L t)
makes_map L t tile have away = record {
  one = λ p h. (
      let h' = count_rows L t p h in
      let e = have (number_at t p) (number_dart L t p tile.last tile.few h') in
      mapped_some (dart_number t) (next_dart (rows_of L t) (dart_at p)) e.0 (sym (next_of_number L t p tile h') ∙ e.1));
  apart = λ i j x y hi hj ex ey code. (
      let hi' = count_rows L t i hi in
      let hj' = count_rows L t j hj in
      let num : dart_number t x ≡ dart_number t y = ap (λ c. number_at t (dart_place c)) code in
      let one : local_next (links_of L) (number_at t i) ≡ local_next (links_of L) (number_at t j) =
      next_some L t i x tile hi' ex ∙ ap Some num ∙ sym (next_some L t j y tile hj' ey) in
      number-apart t i j (away (number_at t i) (number_at t j) (number_dart L t i tile.last tile.few hi') (number_dart L t j tile.last tile.few hj') one));
}

-- ---- sides

-- an edge with one face on both sides has both darts on one cycle
abbrev pub SidesTogether : Library → ℕ → Type 0
SidesTogether L t =
    (d : ℕ) → IsDartOf (links_of L) t d → ((links_of L).face d).id ≡ ((links_of L).face (flip d)).id → LeadsTo (local_map (links_of L)).next d (flip d)

abbrev pub sides_lines : Library → ℕ → TileTables → Option Disagreement
sides_lines L t T = first_of_rows (sides_line t T (rows_of L t)) 1 (rows_of L t)

-- what both darts of an edge have in common, by one of them
pair_of : (f : ℕ → ℕ) (p : ℕ) → f (2 * (p / 2 + 1 - 1)) ≡ f (2 * (p / 2 + 1 - 1) + 1) → f p ≡ f (flip_place p)
pair_of f p e = elim (cases_eq (p % 2) 0) [
  | inl even ↦ (
      let a : 2 * (p / 2 + 1 - 1) ≡ p = omega arith in
      let b : 2 * (p / 2 + 1 - 1) + 1 ≡ p + 1 - 2 * (p % 2) = omega arith in
      ap f (sym a) ∙ e ∙ ap f b)
  | inr odd ↦ (
      let a : 2 * (p / 2 + 1 - 1) + 1 ≡ p = omega arith in
      let b : 2 * (p / 2 + 1 - 1) ≡ p + 1 - 2 * (p % 2) = omega arith in
      ap f (sym a) ∙ sym e ∙ ap f b)
]

-- the darts of an edge with one face on both sides have one least place
pub pairs_by_lines : (L : Library) (t : ℕ) (T : TileTables) → sides_lines L t T ≡ None → (p : ℕ) → p < 2 * edge_count L t
    → (edge_at (rows_of L t) (p / 2 + 1)).right_face ≡ (edge_at (rows_of L t) (p / 2 + 1)).left_face
    → least_place (rows_of L t) p ≡ least_place (rows_of L t) (flip_place p)
pairs_by_lines L t T none p h sides =
    let high : p / 2 + 1 ≤ length (rows_of L t) = omega (arith, rows_count L t) in
    let line = row_none (sides_line t T (rows_of L t)) (rows_of L t) no_edge none (p / 2 + 1) (omega arith, high) in
    let line' = rw (edge_of_row (rows_of L t) (p / 2 + 1) (omega arith)) at line in
    pair_of (least_place (rows_of L t)) p (implies_is _ _ _ _ (unless_none _ _ line') sides)

pub sides_together : (L : Library) (t : ℕ) (T : TileTables) → IsTile L t → MakeMap (rows_of L t) → sides_lines L t T ≡ None → SidesTogether L t
sides_together L t T tile made none d hd one =
    let a : AtPlace L t d = at_place L t d hd in
    let in' = a.below in
    let few = tile.few in
    let faces : ((links_of L).face (number_at t a.place)).id ≡ ((links_of L).face (flip (number_at t a.place))).id = rw a.is one in
    let least = pairs_by_lines L t T none a.place a.below (one_face L t a.place (omega arith) faces) in
    let to : LeadsTo (local_map (links_of L)).next (number_at t a.place) (number_at t (flip_place a.place)) =
    least_leads L t tile made a.place (flip_place a.place) a.below (flip_below (edge_count L t) a.place a.below) least in
    let to' : LeadsTo (local_map (links_of L)).next (number_at t a.place) (flip (number_at t a.place)) =
    subst (λ v. LeadsTo (local_map (links_of L)).next (number_at t a.place) v) (sym (number_flip t a.place)) to in
    subst (λ v. LeadsTo (local_map (links_of L)).next v (flip v)) a.is to'

pub pairs_by_sides : (L : Library) (t : ℕ) → IsTile L t → MakeMap (rows_of L t) → SidesTogether L t → (p : ℕ) → p < 2 * edge_count L t
    → (edge_at (rows_of L t) (p / 2 + 1)).right_face ≡ (edge_at (rows_of L t) (p / 2 + 1)).left_face
    → least_place (rows_of L t) p ≡ least_place (rows_of L t) (flip_place p)
pairs_by_sides L t tile made sides p h one =
    let few = tile.few in
    let to = sides (number_at t p) (number_dart L t p tile.last tile.few h) (both_faces L t p (omega arith) one) in
    least_by L t tile made p (flip_place p) h (subst (λ v. LeadsTo (local_map (links_of L)).next (number_at t p) v) (number_flip t p) to)

pub sides_silent : (L : Library) (t : ℕ) (T : TileTables) → IsTile L t → MakeMap (rows_of L t) → SidesTogether L t → sides_lines L t T ≡ None
sides_silent L t T tile made sides = row_silent (sides_line t T (rows_of L t)) (rows_of L t) no_edge (λ k row.
    let low = row.0 in
    let high : k ≤ edge_count L t = subst (λ n. k ≤ n) (rows_count L t) row.1 in
    let at : (2 * (k - 1)) / 2 + 1 ≡ k = omega arith in
    let flipped : flip_place (2 * (k - 1)) ≡ 2 * (k - 1) + 1 = omega arith in
    let pair : (edge_at (rows_of L t) k).right_face ≡ (edge_at (rows_of L t) k).left_face → least_place (rows_of L t)
    (2 * (k - 1)) ≡ least_place (rows_of L t) (2 * (k - 1) + 1) =
    subst (λ n. (edge_at (rows_of L t) n).right_face ≡ (edge_at (rows_of L t) n).left_face → least_place (rows_of L t)
    (2 * (k - 1)) ≡ least_place (rows_of L t) (2 * (k - 1) + 1)) at
    (λ one. pairs_by_sides L t tile made sides (2 * (k - 1)) (omega arith) one ∙ ap (least_place (rows_of L t)) flipped) in
    rw (edge_of_row (rows_of L t) k low) (unless_holds _ _ (implies_from _ _ _ _ pair)))
