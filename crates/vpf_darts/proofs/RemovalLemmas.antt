-- The lists that are left without some edges are those of the map without them.
use Rattle.std.proofs.Common.{[], ◌≡◌, ℕ, zero, suc, ◌+◌, ◌-◌, ◌*◌, ◌/◌, ◌^◌, ◌<◌, ◌≤◌, Bool, true, false, not, ◌&&◌, List, ◌∷◌, ◌++◌, length, map, get_or, refl, sym, ap, ◌∙◌, inl, inr, arith}
use Rattle.std.specs.List.{zip}
use Rattle.std.proofs.lemmas.Bool.{cases_lt}
use Rattle.std.proofs.lemmas.List.{length-map, map-append, get_or_past}
use Rattle.std.proofs.lemmas.Grind.{common_steps}
use Rattle.vpf_darts.specs.declared.darts.Dart.{Dart}
use Rattle.vpf_darts.specs.declared.darts.TileDart.{TileDart}
use Rattle.vpf_darts.specs.Darts.{dart_code, tile_dart_code, flip, code, sign_of}
use Rattle.vpf_darts.specs.Maps.{DartMap, IsMap, AreEdges, SameMap, is_of_any, without}
use Rattle.vpf_darts.specs.MapLists.{MapLists, AreMapLists, is_among, dart_map, edges_of, list_next}
use Rattle.vpf_darts.proofs.DartLemmas.{untiled, dart_code-half}
use Rattle.vpf_darts.proofs.EdgeLemmas.{is_of_marked, edges_from-among}
use Rattle.vpf_darts.proofs.NextLemmas.{numbers, among_bounds}
use Rattle.vpf_darts.proofs.ReadLemmas.{edge_bounds}
use Rattle.vpf_darts.proofs.WithoutLemmas.{flip_without_all, has_without_all}
use Rattle.vpf_darts.specs.Inner.WithoutLaws.{without-is_map, live_without_all}

-- a dart of the map is in tile 0
pub untiled_same : (m : MapLists) → AreMapLists m → (d : TileDart) → is_among (length m.next) (tile_dart_code d) ≡ true → dart_code (record { edge = d.edge; minus = d.minus }) ≡ tile_dart_code d
untiled_same m h d has =
    let b : (2 ≤ tile_dart_code d) × (tile_dart_code d < length m.next + 2) = among_bounds (length m.next) (tile_dart_code d) has in
    let below : tile_dart_code d < 2 ^ 33 = omega (arith, b.1, h.darts, h.few) in
    ap (λ t. code t d.edge (sign_of d.minus)) (sym (untiled d below))

pub dart_bounds : (m : MapLists) → AreMapLists m → (d : TileDart) → is_among (length m.next) (tile_dart_code d) ≡ true → (1 ≤ d.edge) × (d.edge ≤ length m.live)
dart_bounds m h d has = edge_bounds (length m.next) (length m.live) (record { edge = d.edge; minus = d.minus }) h.darts (ap (is_among (length m.next)) (untiled_same m h d has) ∙ has)

-- whether a dart's edge is marked
pub line_read : (lines : List Bool) (d : Dart) → 1 ≤ d.edge → get_or lines (d.edge - 1) false ≡ is_of_any flip (edges_of lines) (dart_code d)
line_read lines d low =
    let e : dart_code d / 2 ≡ suc (d.edge - 1) = dart_code-half d ∙ (omega arith) in
    sym (is_of_marked lines (dart_code d) ∙ ap (λ k. get_or (false ∷ lines) k false) e)

pub are_lines : (m : MapLists) → AreMapLists m → (lines : List Bool) → length lines ≡ length m.live → AreEdges (dart_map m) (edges_of lines)
are_lines m h lines same = edges_from-among (length m.next) lines 1 (omega arith) (omega (arith, h.darts))

-- a number that is no live dart is kept
pub outside_stays : (m : DartMap) (es : List ℕ) → IsMap m → AreEdges m es → (d : ℕ) → m.live d ≡ false → (without m es).next d ≡ d
outside_stays m es h all d dead = let w : IsMap (without m es) = without-is_map m es h all in w.next_dead d (live_without_all m es d ∙ ap (λ b. b && not (is_of_any m.flip es d)) dead)

pub pushed_more : (xs : List ℕ) (x k : ℕ) (f : ℕ → ℕ) → length xs ≡ k → ((d : ℕ) → d < k → get_or xs d d ≡ f d) → x ≡ f k → (d : ℕ) → d < k + 1 → get_or (xs ++ x ∷ []) d d ≡ f d
pushed_more xs x k f len before here d h = elim (cases_lt d k) [
  | inl lt ↦ (let in' : d < length xs = omega arith in grind (arith, common_steps, before d lt))
  | inr ge ↦ (let e : d ≡ length xs = omega arith in let f_same : f d ≡ f k = ap f (omega arith) in grind (arith, common_steps))
]

pub numbers-push : (next : List Dart) (x : Dart) → numbers (next ++ x ∷ []) ≡ numbers next ++ dart_code x ∷ []
numbers-push next x = ap (λ xs. 0 ∷ 1 ∷ xs) (map-append dart_code next (x ∷ []))

pub next_pushed : (next : List Dart) (x : Dart) (k : ℕ) (f : ℕ → ℕ) → length next ≡ k → ((d : ℕ) → d < k + 2 → list_next next d ≡ f d) → dart_code x ≡ f (k + 2) → (d : ℕ) → d < k + 1 + 2 → list_next (next ++ x ∷ []) d ≡ f d
next_pushed next x k f len before here d h =
    let len' : length (map dart_code next) ≡ length next = length-map next dart_code in
    ap (λ xs. get_or xs d d) (numbers-push next x) ∙ pushed_more (numbers next) (dart_code x) (k + 2) f (omega arith) before here d (omega arith)

-- before any dart is looked at
pub next_at_start : (m : MapLists) → AreMapLists m → (lines : List Bool) → length lines ≡ length m.live → (d : ℕ) → d < 2 → list_next [] d ≡ (without (dart_map m) (edges_of lines)).next d
next_at_start m h lines same zero lt = sym (outside_stays (dart_map m) (edges_of lines) h.is_map (are_lines m h lines same) 0 refl)
next_at_start m h lines same (suc zero) lt = sym (outside_stays (dart_map m) (edges_of lines) h.is_map (are_lines m h lines same) 1 refl)
next_at_start m h lines same (suc (suc d)) lt = absurd (omega arith)

-- once all darts are looked at
pub next_at_end : (m : MapLists) → AreMapLists m → (lines : List Bool) → length lines ≡ length m.live → (next : List Dart) (k : ℕ) → length next ≡ k → 2 * length lines ≤ k → ((d : ℕ) → d < k + 2 → list_next next d ≡ (without (dart_map m) (edges_of lines)).next d) → (d : ℕ) → list_next next d ≡ (without (dart_map m) (edges_of lines)).next d
next_at_end m h lines same next k len all before d =
    let len' : length (map dart_code next) ≡ length next = length-map next dart_code in
    elim (cases_lt d (k + 2)) [
      | inl lt ↦ before d lt
      | inr ge ↦ (
          let past : list_next next d ≡ d = get_or_past (numbers next) d d (omega arith) in
          let dead : get_or (false ∷ m.live) (d / 2) false ≡ false = get_or_past (false ∷ m.live) (d / 2) false (omega arith) in
          past ∙ sym (outside_stays (dart_map m) (edges_of lines) h.is_map (are_lines m h lines same) d dead))
    ]

-- which edges are left
pub left_read : (live lines : List Bool) (e : ℕ) → length lines ≡ length live → get_or (map (λ p. p.0 && not p.1) (zip live lines)) e false ≡ (get_or live e false && not (get_or lines e false))
left_read [] [] e same = refl
left_read [] (y ∷ lines) e same = absurd (omega arith)
left_read (x ∷ live) [] e same = absurd (omega arith)
left_read (x ∷ live) (y ∷ lines) zero same = refl
left_read (x ∷ live) (y ∷ lines) (suc e) same = left_read live lines e (omega arith)

pub length-left : (live lines : List Bool) → length lines ≡ length live → length (map (λ p. p.0 && not p.1) (zip live lines)) ≡ length live
length-left [] [] same = refl
length-left [] (y ∷ lines) same = absurd (omega arith)
length-left (x ∷ live) [] same = absurd (omega arith)
length-left (x ∷ live) (y ∷ lines) same = ap suc (length-left live lines (omega arith))

pub left_at : (live lines : List Bool) (k : ℕ) → length lines ≡ length live → get_or (false ∷ map (λ p. p.0 && not p.1) (zip live lines)) k false ≡ (get_or (false ∷ live) k false && not (get_or (false ∷ lines) k false))
left_at live lines zero same = refl
left_at live lines (suc k) same = left_read live lines k same

-- the lists of the map that is left
abbrev pub lists_left : MapLists → List Bool → List Dart → MapLists
lists_left m lines new = record { next = map dart_code new; tail = m.tail; face = m.face; live = map (λ p. p.0 && not p.1) (zip m.live lines) }

pub same_map_left : (m : MapLists) (lines : List Bool) (new : List Dart) → length lines ≡ length m.live → length new ≡ length m.next → ((d : ℕ) → list_next new d ≡ (without (dart_map m) (edges_of lines)).next d) → SameMap (dart_map (lists_left m lines new)) (without (dart_map m) (edges_of lines))
same_map_left m lines new same len nexts = record {
  has = λ d. ap (λ n. is_among n d) (length-map new dart_code ∙ len) ∙ sym (has_without_all (dart_map m) (edges_of lines) d);
  next = nexts;
  flip = λ d. sym (flip_without_all (dart_map m) (edges_of lines) d);
  live = λ d. left_at m.live lines (d / 2) same ∙ ap (λ b. get_or (false ∷ m.live) (d / 2) false && not b) (sym (is_of_marked lines d)) ∙ sym (live_without_all (dart_map m) (edges_of lines) d);
}

pub IsMap-same : (m n : DartMap) → SameMap m n → IsMap n → IsMap m
IsMap-same m n s h = record {
  next_apart = λ d e same. h.next_apart d e (sym (s.next d) ∙ same ∙ s.next e);
  next_live = λ d. s.live (m.next d) ∙ ap n.live (s.next d) ∙ h.next_live d ∙ sym (s.live d);
  next_dead = λ d dead. s.next d ∙ h.next_dead d (sym (s.live d) ∙ dead);
  live_has = λ d l. s.has d ∙ h.live_has d (sym (s.live d) ∙ l);
  flip_has = λ d l. s.has (m.flip d) ∙ ap n.has (s.flip d) ∙ h.flip_has d (sym (s.has d) ∙ l);
  flip_live = λ d l. s.live (m.flip d) ∙ ap n.live (s.flip d) ∙ h.flip_live d (sym (s.has d) ∙ l) ∙ sym (s.live d);
  flip_flip = λ d l. s.flip (m.flip d) ∙ ap n.flip (s.flip d) ∙ h.flip_flip d (sym (s.has d) ∙ l);
  flip_apart = λ d l e. h.flip_apart d (sym (s.has d) ∙ l) (sym (s.flip d) ∙ e);
}

pub are_lists_left : (m : MapLists) → AreMapLists m → (lines : List Bool) (new : List Dart) → length lines ≡ length m.live → length new ≡ length m.next → ((d : ℕ) → list_next new d ≡ (without (dart_map m) (edges_of lines)).next d) → AreMapLists (lists_left m lines new)
are_lists_left m h lines new same len nexts =
    let next_len : length (map dart_code new) ≡ length m.next = length-map new dart_code ∙ len in
    let live_len : length (map (λ p. p.0 && not p.1) (zip m.live lines)) ≡ length m.live = length-left m.live lines same in
    record {
      few = omega (arith, h.few);
      darts = omega (arith, h.darts);
      tails = h.tails ∙ sym next_len;
      faces = h.faces ∙ sym next_len;
      is_map = IsMap-same (dart_map (lists_left m lines new)) (without (dart_map m) (edges_of lines)) (same_map_left m lines new same len nexts) (without-is_map (dart_map m) (edges_of lines) h.is_map (are_lines m h lines same));
    }
