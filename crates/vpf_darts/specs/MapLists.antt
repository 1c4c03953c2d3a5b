-- A map of an untiled coverage as lists over its darts 1+, 1-, 2+ and so on.
use Rattle.std.specs.Prelude.{◌≡◌, ◌≢◌, ℕ, ◌+◌, ◌-◌, ◌*◌, ◌/◌, ◌%◌, ◌^◌, ◌<◌, ◌≤◌, Bool, true, false, ◌&&◌, nat_le, nat_lt, List, [], ◌∷◌, length, map, replicate, slice_index, slice_index_or, All}
use Rattle.vpf_darts.specs.declared.darts.Dart.{Dart}
use Rattle.vpf_darts.specs.Darts.{code, dart_code, flip}
use Rattle.vpf_darts.specs.Maps.{DartMap, IsMap}

-- the number of the next of each dart, its tail node and its face; and which edges are live
pub record MapLists : Type 0 where
  pub next : List ℕ
  pub tail : List ℕ
  pub face : List ℕ
  pub live : List Bool

-- where the dart with this number stands in a list of 1+, 1-, 2+ and so on: 1+ has the number 2
abbrev pub dart_place : ℕ → ℕ
dart_place dart = dart - 2

-- whether a number is that of one of the first n darts
abbrev pub is_among : ℕ → ℕ → Bool
is_among n dart = nat_le 2 dart && nat_lt dart (n + 2)

-- the map of the lists; 0 and 1 would be the darts of an edge 0, which there is not
abbrev pub dart_map : MapLists → DartMap
dart_map m = record {
  has = is_among (length m.next);
  next = λ d. slice_index_or (0 ∷ 1 ∷ m.next) d d;
  flip = flip;
  live = λ d. slice_index_or (false ∷ m.live) (d / 2) false;
}

-- the tail node of a dart
abbrev pub list_tail : MapLists → ℕ → ℕ
list_tail m dart = slice_index m.tail (dart_place dart)

-- the face of a dart: the right face of e+, the left face of e-
abbrev pub list_face : MapLists → ℕ → ℕ
list_face m dart = slice_index m.face (dart_place dart)

-- the lists have two darts an edge, fewer than 2^32 edges, and are a map
pub record AreMapLists (m : MapLists) : Type 0 where
  pub few : length m.live < 2 ^ 32
  pub darts : length m.next ≡ 2 * length m.live
  pub tails : length m.tail ≡ length m.next
  pub faces : length m.face ≡ length m.next
  pub is_map : IsMap (dart_map m)

-- the dart is of one of the edges of n darts
abbrev pub IsInRange : ℕ → Dart → Type 0
IsInRange n d = (1 ≤ d.edge) × (2 * d.edge ≤ n)

-- lists of which a map may be made: of one even length, of fewer than 2^32 edges, each next in range
pub record AreOfDarts (next : List Dart) (tail face : List ℕ) : Type 0 where
  pub few : length next < 2 ^ 33
  pub even : length next % 2 ≡ 0
  pub tails : length tail ≡ length next
  pub faces : length face ≡ length next
  pub in_range : All (IsInRange (length next)) next

-- the lists of a map of these darts, with every edge live
abbrev pub lists_of : List Dart → List ℕ → List ℕ → MapLists
lists_of next tail face = record { next = map dart_code next; tail = tail; face = face; live = replicate (length next / 2) true }

-- the number of the next of the dart with this number, in a list of nexts
abbrev pub list_next : List Dart → ℕ → ℕ
list_next next d = slice_index_or (0 ∷ 1 ∷ map dart_code next) d d

-- dart is the least whose next an earlier dart has
pub record IsFirstRepeat (m : DartMap) (dart : ℕ) : Type 0 where
  pub has : m.has dart ≡ true
  pub earlier : ℕ
  pub earlier_has : m.has earlier ≡ true
  pub before : earlier < dart
  pub repeats : m.next earlier ≡ m.next dart
  pub first : (c d : ℕ) → m.has c ≡ true → m.has d ≡ true → c < d → d < dart → m.next c ≢ m.next d

-- the edges that are marked, each by its + dart, by rising number from k
abbrev pub edges_from : ℕ → List Bool → List ℕ
edges_from k [] = []
edges_from k (true ∷ lines) = code 0 k 0 ∷ edges_from (k + 1) lines
edges_from k (false ∷ lines) = edges_from (k + 1) lines

-- the edges of a list of marks for 1, 2 and so on
abbrev pub edges_of : List Bool → List ℕ
edges_of lines = edges_from 1 lines
