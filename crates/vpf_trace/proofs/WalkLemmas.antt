-- The walk over the darts of a library, past its lines.
use Rattle.std.proofs.Common.{◌≡◌, ℕ, Bool, true, false, not, refl, sym, ap, ◌∙◌}
use Rattle.std.proofs.lemmas.Bool.{and_parts}
use Rattle.vpf_darts.specs.Darts.{flip}
use Rattle.vpf_darts.specs.Maps.{is_of_any}
use Rattle.vpf_darts.specs.Inner.WithoutLaws.{without-is_map}
use Rattle.vpf_prims.specs.Primitives.{Library}
use Rattle.vpf_wing.specs.Links.{links_of}
use Rattle.vpf_cross.specs.Following.{is_home}
use Rattle.vpf_cross.specs.VpfFollowLaws.{HomesExist}
use Rattle.vpf_trace.specs.Tracing.{IsTraceable, KeptAreLeft, is_kept, is_on_line, map_of_library, tile_lines, traced_map}
use Rattle.vpf_trace.proofs.LineLemmas.{library_has_kept, library_has_lines}

pub passed_is : HomesExist → (L : Library) → IsTraceable L → (d : ℕ) → is_home (links_of L) d ≡ true → is_on_line L d ≡ is_of_any (map_of_library L).flip (tile_lines L) d
passed_is law L a d home = sym ((library_has_lines law L a).marked d home)

-- the parts of being kept
pub record KeptParts (L : Library) (d : ℕ) : Type 0 where
  pub home : is_home (links_of L) d ≡ true
  pub unmarked : is_on_line L d ≡ false

untrue : (b : Bool) → not b ≡ true → b ≡ false
untrue true h = sym h
untrue false h = refl

pub kept_parts : (L : Library) (d : ℕ) → is_kept L d ≡ true → KeptParts L d
kept_parts L d h =
    let p = and_parts (is_home (links_of L) d) (not (is_on_line L d)) h in
    record { home = p.0; unmarked = untrue (is_on_line L d) p.1 }

-- the next of a kept dart is kept
pub next_is_kept : HomesExist → (L : Library) → IsTraceable L → (d next : ℕ) → is_kept L d ≡ true → next ≡ (traced_map L).next d → is_kept L next ≡ true
next_is_kept law L a d next kept is =
    let left : KeptAreLeft L = library_has_kept law without-is_map L a in
    sym (left.kept next) ∙ ap (traced_map L).live is ∙ left.is_map.next_live d ∙ left.kept d ∙ kept
