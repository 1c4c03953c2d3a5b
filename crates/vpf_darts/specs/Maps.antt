-- Combinatorial maps over numbered darts, and what is left of a map without some of its edges.
use Rattle.std.specs.Prelude.{◌≡◌, ◌≢◌, ℕ, Bool, true, false, not, ◌&&◌, ◌||◌, if◌then◌else◌, ◌==◌, List, [], ◌∷◌}
use Rattle.std.specs.List.{AllByRecursion}

-- a combinatorial map: which numbers are darts, live or removed; the next dart round the face of a
-- dart; the other dart of its edge; and which darts are live
pub record DartMap : Type 0 where
  pub has : ℕ → Bool
  pub next : ℕ → ℕ
  pub flip : ℕ → ℕ
  pub live : ℕ → Bool

-- next permutes the live darts and keeps every other number, and flip pairs the darts
pub record IsMap (m : DartMap) : Type 0 where
  pub next_apart : (d e : ℕ) → m.next d ≡ m.next e → d ≡ e
  pub next_live : (d : ℕ) → m.live (m.next d) ≡ m.live d
  pub next_dead : (d : ℕ) → m.live d ≡ false → m.next d ≡ d
  pub live_has : (d : ℕ) → m.live d ≡ true → m.has d ≡ true
  pub flip_has : (d : ℕ) → m.has d ≡ true → m.has (m.flip d) ≡ true
  pub flip_live : (d : ℕ) → m.has d ≡ true → m.live (m.flip d) ≡ m.live d
  pub flip_flip : (d : ℕ) → m.has d ≡ true → m.flip (m.flip d) ≡ d
  pub flip_apart : (d : ℕ) → m.has d ≡ true → m.flip d ≢ d

-- the next dart round the tail of a dart
abbrev pub turn : DartMap → ℕ → ℕ
turn m d = m.next (m.flip d)

-- whether x is one of the two darts of the edge of e
abbrev pub is_of : (ℕ → ℕ) → ℕ → ℕ → Bool
is_of flip e x = (x == e) || (x == flip e)

-- whether x is a dart of one of these edges, each given by one of its darts
abbrev pub is_of_any : (ℕ → ℕ) → List ℕ → ℕ → Bool
is_of_any flip [] x = false
is_of_any flip (e ∷ es) x = is_of flip e x || is_of_any flip es x

-- x, or the next dart round its tail where x is of the edge of e
abbrev pub pass : (ℕ → ℕ) → (ℕ → ℕ) → ℕ → ℕ → ℕ
pass next flip e x = if is_of flip e x then next (flip x) else x

-- the next without the edge of e: that of each other dart is passed on once, and once more where it is
-- of the edge again; a removed dart is its own next
abbrev pub next_without_edge : (ℕ → ℕ) → (ℕ → ℕ) → ℕ → ℕ → ℕ
next_without_edge next flip e d = if is_of flip e d then d else pass next flip e (pass next flip e (next d))

-- the map without the edge of e
unfoldable pub without_edge : DartMap → ℕ → DartMap
without_edge m e = record {
  has = m.has;
  next = next_without_edge m.next m.flip e;
  flip = m.flip;
  live = λ d. m.live d && not (is_of m.flip e d);
}

-- the map without these edges, removed one after the other
abbrev pub without : DartMap → List ℕ → DartMap
without m [] = m
without m (e ∷ es) = without (without_edge m e) es

-- each of these edges is given by a dart of the map
abbrev pub AreEdges : DartMap → List ℕ → Type 0
AreEdges m es = AllByRecursion (λ e. m.has e ≡ true) es

-- two maps that agree at each dart
pub record SameMap (m n : DartMap) : Type 0 where
  pub has : (d : ℕ) → m.has d ≡ n.has d
  pub next : (d : ℕ) → m.next d ≡ n.next d
  pub flip : (d : ℕ) → m.flip d ≡ n.flip d
  pub live : (d : ℕ) → m.live d ≡ n.live d
