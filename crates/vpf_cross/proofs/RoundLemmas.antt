-- The walk round a node to the first dart that has a copy in a tile, and the line on a dart by it.
use Rattle.std.proofs.Common.{◌≡◌, ℕ, zero, suc, ◌+◌, ◌-◌, ◌^◌, ◌<◌, eqb, Option, Some, None, length, refl, ap, ◌∙◌, arith}
use Rattle.vpf_darts.specs.declared.darts.TileDart.{TileDart}
use Rattle.vpf_darts.specs.contracts.darts.TileDartPartialEq.TheImpl.{eq-value}
use Rattle.vpf_darts.specs.Darts.{flip, tile_dart_code}
use Rattle.vpf_findings.specs.Findings.{DartSeen, Sight}
use Rattle.vpf_findings.specs.Firsts.{unless}
use Rattle.vpf_prims.specs.Tables.{TileTables}
use Rattle.vpf_wing.specs.Links.{DartLinks, local_next}
use Rattle.vpf_follow.specs.FollowLines.{at_wing_of}
use Rattle.vpf_follow.specs.Following.{follow, number_seen}
use Rattle.vpf_cross.specs.RoundLines.{copy_in_tile, first_copy, first_copy_line, round_line}
use Rattle.vpf_cross.proofs.DartLemmas.{same_numbers, seen_so}

-- a dart has a copy
pub walk_stop : (C : DartLinks) (t n y : ℕ) (e : ℕ) → 0 < n → Some e ≡ copy_in_tile C t y → first_copy C t n (Some y) ≡ Some e
walk_stop C t zero y e h some = absurd (omega arith)
walk_stop C t (suc n) y e h some = rw (← some) refl

-- it has none
pub walk_pass : (C : DartLinks) (t n y z : ℕ) → 0 < n → None ≡ copy_in_tile C t y → follow C (flip y) ≡ Some z → first_copy C t n (Some y) ≡ first_copy C t (n - 1) (Some z)
walk_pass C t zero y z h none next = absurd (omega arith)
walk_pass C t (suc n) y z h none next = let e : suc n - 1 ≡ n = omega arith in rw (← none, next, e) refl

pub walk_end : (C : DartLinks) (t : ℕ) (o : Option ℕ) → first_copy C t 0 o ≡ None
walk_end C t o = refl

-- the line on a dart, by its next and the copy that is found
pub round_by : (C : DartLinks) (d : TileDart) (T : TileTables) (next copy : Option ℕ) → next ≡ local_next C (tile_dart_code d)
    → copy ≡ first_copy C d.tile (length C.darts + 1) (follow C (tile_dart_code d)) → round_line C d.tile T d.edge d.minus ≡ first_copy_line d.tile T d.edge d.minus next copy
round_by C d T next copy n f = rw (← n, ← f) refl

pub no_next : (t : ℕ) (T : TileTables) (d : TileDart) (copy : Option ℕ) → first_copy_line t T d.edge d.minus None copy ≡ None
no_next t T d copy = refl

pub line_by : (t : ℕ) (T : TileTables) (d next copy : TileDart) → next.edge < 2 ^ 32 → copy.edge < 2 ^ 32
    → first_copy_line t T d.edge d.minus (Some (tile_dart_code next)) (Some (tile_dart_code copy)) ≡ unless ((eq-value).it next copy) (at_wing_of t T 6 d.edge d.minus (DartSeen next) (DartSeen copy))
line_by t T d next copy x y =
    ap (λ (s : Sight). unless (eqb (tile_dart_code next) (tile_dart_code copy)) (at_wing_of t T 6 d.edge d.minus s (number_seen (tile_dart_code copy)))) (seen_so next (tile_dart_code next) x refl)
    ∙ ap (λ (s : Sight). unless (eqb (tile_dart_code next) (tile_dart_code copy)) (at_wing_of t T 6 d.edge d.minus (DartSeen next) s)) (seen_so copy (tile_dart_code copy) y refl)
    ∙ ap (λ b. unless b (at_wing_of t T 6 d.edge d.minus (DartSeen next) (DartSeen copy))) (same_numbers next copy x y)
