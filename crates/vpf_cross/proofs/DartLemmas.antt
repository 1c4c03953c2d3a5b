-- Darts of tiles and their numbers.
use Rattle.std.proofs.Common.{◌≡◌, ℕ, ◌^◌, ◌<◌, Bool, true, false, not, eqb, Some, length, refl, sym, ap, subst, ◌∙◌, arith, rules}
use Rattle.std.proofs.lemmas.Bool.{eqb-true, eq-eqb}
use Rattle.vpf_darts.specs.declared.darts.TileDart.{TileDart}
use Rattle.vpf_darts.specs.contracts.darts.TileDartPartialEq.TheImpl.{eq-value}
use Rattle.vpf_darts.specs.Darts.{edge_in, flip, tile_dart_code}
use Rattle.vpf_findings.specs.Findings.{DartSeen}
use Rattle.vpf_prims.specs.Coverages.{CoverageTables, tile_at}
use Rattle.vpf_prims.specs.Numbering.{IsRowOf}
use Rattle.vpf_prims.specs.Reading.{primitives_of}
use Rattle.vpf_prims.specs.Tables.{TileTables}
use Rattle.vpf_follow.specs.Following.{dart_numbered, number_seen}
use Rattle.vpf_follow.specs.Inner.Homes.{IsDartIn}
use Rattle.vpf_prims.specs.Libraries.{library_of}
use Rattle.vpf_cross.proofs.AgreeLemmas.{tile_within}
use Rattle.vpf_wing.specs.Inner.DartLaws.{flip-has}
use Rattle.vpf_cross.proofs.LinkLemmas.{edge-code, flip-code, minus-code, tile-code}
use Rattle.vpf_cross.proofs.NextLemmas.{has_code}

abbrev dart_with : ℕ → ℕ → Bool → TileDart
dart_with t k m = record { tile = t; edge = k; minus = m }

-- a dart by its number
pub numbered : (d : TileDart) → d.edge < 2 ^ 32 → dart_numbered (tile_dart_code d) ≡ d
numbered d small =
    ap (λ t. dart_with t (edge_in (tile_dart_code d)) (dart_numbered (tile_dart_code d)).minus) (tile-code d.tile d.edge d.minus small)
    ∙ ap (λ k. dart_with d.tile k (dart_numbered (tile_dart_code d)).minus) (edge-code d.tile d.edge d.minus small)
    ∙ ap (dart_with d.tile d.edge) (minus-code d.tile d.edge d.minus)

-- as it is seen
pub seen_so : (d : TileDart) (x : ℕ) → d.edge < 2 ^ 32 → x ≡ tile_dart_code d → number_seen x ≡ DartSeen d
seen_so d x small e = ap number_seen e ∙ ap DartSeen (numbered d small)

-- darts with one number are one
pub same_dart : (a b : TileDart) → a.edge < 2 ^ 32 → b.edge < 2 ^ 32 → tile_dart_code a ≡ tile_dart_code b → a ≡ b
same_dart a b x y e = sym (numbered a x) ∙ ap dart_numbered e ∙ numbered b y

pub same_is : (x y : TileDart) → (eq-value).it x y ≡ true → x ≡ y
same_is x y h = search rules

pub same_refl : (x : TileDart) → (eq-value).it x x ≡ true
same_refl x = search rules

same_at : (a b : TileDart) (s t : Bool) → a.edge < 2 ^ 32 → b.edge < 2 ^ 32 → eqb (tile_dart_code a) (tile_dart_code b) ≡ s → (eq-value).it a b ≡ t → s ≡ t
same_at a b true true x y e f = refl
same_at a b false false x y e f = refl
same_at a b true false x y e f =
    let is : a ≡ b = same_dart a b x y (eqb-true (tile_dart_code a) (tile_dart_code b) e) in
    let yes' : (eq-value).it a b ≡ true = subst (λ (v : TileDart). (eq-value).it a v ≡ true) is (same_refl a) in
    cc
same_at a b false true x y e f =
    let is : tile_dart_code a ≡ tile_dart_code b = ap tile_dart_code (same_is a b f) in
    let yes' : eqb (tile_dart_code a) (tile_dart_code b) ≡ true = eq-eqb (tile_dart_code a) (tile_dart_code b) is in
    cc

-- darts are told apart as their numbers
pub same_numbers : (a b : TileDart) → a.edge < 2 ^ 32 → b.edge < 2 ^ 32 → eqb (tile_dart_code a) (tile_dart_code b) ≡ (eq-value).it a b
same_numbers a b x y = same_at a b (eqb (tile_dart_code a) (tile_dart_code b)) ((eq-value).it a b) x y refl refl

-- the other dart of an edge
pub flip_number : (d f : TileDart) → f ≡ record { tile = d.tile; edge = d.edge; minus = not d.minus } → tile_dart_code f ≡ flip (tile_dart_code d)
flip_number d f e = ap tile_dart_code e ∙ sym (flip-code d.tile d.edge d.minus)

pub flip_in : (c : CoverageTables) (d f : TileDart) → f ≡ record { tile = d.tile; edge = d.edge; minus = not d.minus } → IsDartIn c d → IsDartIn c f
flip_in c d f e has = rw (flip_number d f e) (flip-has (library_of c) (tile_dart_code d) has)

-- a dart of a row of a tile is one of the coverage
pub dart_in : (c : CoverageTables) (T : TileTables) (d : TileDart) → tile_at c d.tile ≡ Some T → d.edge < 2 ^ 32 → IsRowOf (length (primitives_of T.tables).edges) d.edge → IsDartIn c d
dart_in c T d is small row = let last = tile_within c d.tile T is in has_code c d.tile T d.edge d.minus is (omega arith) small row

-- darts that aren't the same have different numbers
pub not_same : (a b : TileDart) → a.edge < 2 ^ 32 → b.edge < 2 ^ 32 → (eq-value).it a b ≡ false → tile_dart_code a ≡ tile_dart_code b → ⊥
not_same a b x y out e =
    let t : true ≡ false = sym (eq-eqb (tile_dart_code a) (tile_dart_code b) e) ∙ same_numbers a b x y ∙ out in
    cc
