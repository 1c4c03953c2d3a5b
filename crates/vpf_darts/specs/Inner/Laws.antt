-- What is so of all maps, of what is left of them, and of their listings.
use Rattle.std.specs.Prelude.{◌≡◌, ℕ, ◌<◌, ◌-◌, ◌^◌, Bool, true, false, List, zero, suc, length, map}
use Rattle.vpf_darts.specs.Darts.{code, tile_in, edge_in, sign_in, flip}
use Rattle.vpf_darts.specs.Cycles.{AreCycles, IsCycle, IsListing, first_of}
use Rattle.vpf_darts.specs.Maps.{DartMap, IsMap, AreEdges, SameMap, turn, is_of_any, without, without_edge}

-- y is the first of x, the next dart round its tail, and so on that is not passed over, and k are
abbrev pub ComesRoundTo : DartMap → (ℕ → Bool) → ℕ → ℕ → ℕ → Type 0
ComesRoundTo m passed zero x y = (passed x ≡ false) × (x ≡ y)
ComesRoundTo m passed (suc k) x y = (passed x ≡ true) × ComesRoundTo m passed k (turn m x) y

-- in a map without some edges, the next of a kept dart is the first kept dart among its next, the one
-- after that round its tail, and so on
abbrev pub FirstKeptDart : Type 0
FirstKeptDart = (m : DartMap) (es : List ℕ) (d : ℕ) → IsMap m → AreEdges m es → is_of_any m.flip es d ≡ false
    → (k : ℕ) × (k < 3 ^ length es) × ComesRoundTo m (is_of_any m.flip es) k (m.next d) ((without m es).next d)

-- a map without any set of edges is a map
abbrev pub RemovalLeavesAMap : Type 0
RemovalLeavesAMap = (m : DartMap) (es : List ℕ) → IsMap m → AreEdges m es → IsMap (without m es)

-- what is left depends on which edges are removed, and not on their order
abbrev pub RemovalIsOfASet : Type 0
RemovalIsOfASet = (m : DartMap) (es fs : List ℕ) → IsMap m → AreEdges m es → AreEdges m fs
    → ((x : ℕ) → is_of_any m.flip es x ≡ is_of_any m.flip fs x) → (d : ℕ) → (without m es).next d ≡ (without m fs).next d

-- without an edge that is not live, a map stays as it is
abbrev pub RemovalIsOfLiveEdges : Type 0
RemovalIsOfLiveEdges = (m : DartMap) (e : ℕ) → IsMap m → m.has e ≡ true → m.live e ≡ false → SameMap (without_edge m e) m

-- f names the live darts of one map by those of another, and keeps next and flip; back undoes it
pub record IsRenaming (m n : DartMap) (f back : ℕ → ℕ) : Type 0 where
  pub live : (d : ℕ) → m.live d ≡ true → n.live (f d) ≡ true
  pub back_live : (d : ℕ) → n.live d ≡ true → m.live (back d) ≡ true
  pub back_f : (d : ℕ) → m.live d ≡ true → back (f d) ≡ d
  pub f_back : (d : ℕ) → n.live d ≡ true → f (back d) ≡ d
  pub next : (d : ℕ) → m.live d ≡ true → n.next (f d) ≡ f (m.next d)
  pub flip : (d : ℕ) → m.live d ≡ true → n.flip (f d) ≡ f (m.flip d)

-- f keeps the order of the live darts
abbrev pub Rises : (ℕ → Bool) → (ℕ → ℕ) → Type 0
Rises live f = (c d : ℕ) → live c ≡ true → live d ≡ true → c < d → f c < f d

-- a renaming takes cycles to cycles
abbrev pub RenamingKeepsCycles : Type 0
RenamingKeepsCycles = (m n : DartMap) (f back : ℕ → ℕ) (lists : List (List ℕ)) → IsRenaming m n f back
    → AreCycles m.next m.live lists → AreCycles n.next n.live (map (map f) lists)

-- a renaming that keeps the order of the live darts takes the listing to the listing
abbrev pub RisingRenamingKeepsListing : Type 0
RisingRenamingKeepsListing = (m n : DartMap) (f back : ℕ → ℕ) (lists : List (List ℕ)) → IsRenaming m n f back → Rises m.live f
    → IsListing m.next m.live lists → IsListing n.next n.live (map (map f) lists)

-- a renaming of a map is one of what is left without the same edges
abbrev pub RenamingKeepsRemoval : Type 0
RenamingKeepsRemoval = (m n : DartMap) (f back : ℕ → ℕ) (es fs : List ℕ) → IsMap m → IsMap n → IsRenaming m n f back → AreEdges m es → AreEdges n fs
    → ((x : ℕ) → m.live x ≡ true → is_of_any n.flip fs (f x) ≡ is_of_any m.flip es x) → IsRenaming (without m es) (without n fs) f back

-- what a map is renamed to is a map, where it has its live darts alone and keeps every other number
abbrev pub RenamingGivesAMap : Type 0
RenamingGivesAMap = (m n : DartMap) (f back : ℕ → ℕ) → IsMap m → IsRenaming m n f back
    → ((d : ℕ) → n.has d ≡ n.live d) → ((d : ℕ) → n.live d ≡ false → n.next d ≡ d) → IsMap n

-- no live dart stands at n or above
abbrev pub LiveBelow : ℕ → (ℕ → Bool) → Type 0
LiveBelow n live = (d : ℕ) → live d ≡ true → d < n

-- each live dart begins a cycle: its nexts lead back to it
abbrev pub DartLiesOnCycle : Type 0
DartLiesOnCycle = (m : DartMap) (n d : ℕ) → IsMap m → LiveBelow n m.live → m.live d ≡ true
    → (cycle : List ℕ) × IsCycle m.next cycle × (first_of cycle ≡ d)

-- a map has a listing, which holds each live dart once
abbrev pub MapHasListing : Type 0
MapHasListing = (m : DartMap) (n : ℕ) → IsMap m → LiveBelow n m.live → (lists : List (List ℕ)) × IsListing m.next m.live lists

-- what is left of a map has a listing, which holds each kept dart once
abbrev pub RemainderHasListing : Type 0
RemainderHasListing = (m : DartMap) (es : List ℕ) (n : ℕ) → IsMap m → AreEdges m es → LiveBelow n m.live
    → (lists : List (List ℕ)) × IsListing (without m es).next (without m es).live lists

-- two listings of one map are equal
abbrev pub OneListing : Type 0
OneListing = (next : ℕ → ℕ) (live : ℕ → Bool) (xs ys : List (List ℕ)) → IsListing next live xs → IsListing next live ys → xs ≡ ys

-- the number of a dart names its tile, edge and sign
abbrev pub NumbersNameDarts : Type 0
NumbersNameDarts = (tile edge sign : ℕ) → edge < 2 ^ 32 → sign < 2
    → (tile_in (code tile edge sign) ≡ tile) × (edge_in (code tile edge sign) ≡ edge) × (sign_in (code tile edge sign) ≡ sign)

-- each number is that of a dart
abbrev pub PartsGiveNumber : Type 0
PartsGiveNumber = (x : ℕ) → (code (tile_in x) (edge_in x) (sign_in x) ≡ x) × (edge_in x < 2 ^ 32) × (sign_in x < 2)

-- the other dart of an edge has the other sign
abbrev pub FlipIsOfSign : Type 0
FlipIsOfSign = (tile edge sign : ℕ) → sign < 2 → flip (code tile edge sign) ≡ code tile edge (1 - sign)
