use Rattle.std.proofs.Common.{◌≡◌, ℕ, ◌^◌, ◌<◌, List, [], ◌∷◌, ◌++◌, length, sym, ap, ◌∙◌, subst, arith}
use Rattle.std.specs.Prelude.{All}
use Rattle.std.proofs.lemmas.List.Elements.{All-append, All-cons, All-nil}
use Rattle.vpf_wing.specs.Links.{Beyond}
use Rattle.vpf_glue.specs.GluedTables.Grids.{whole_in}
use Rattle.vpf_glue.proofs.FaceLemmas.{tiles_more}
use Rattle.vpf_glue.proofs.plan.tiles_of_faces.Goals as goal

pub loop-place-preserved : goal.loop-place-preserved
loop-place-preserved c =
    let tile = c.in_ok-tile.ensures.same ∙ ap (λ (p : Beyond). p.tile) c.nameable.view_is in
    let lt : c.loop-place.place < length (whole_in c.args.faces.now).faces = omega (arith, c.count-place-end.ensures.value) in
    record {
      tiles = c.in_ok-push.ensures.items ∙ ap (λ (t : ℕ). c.loop-place.tiles.items ++ t ∷ []) tile
          ∙ tiles_more c.args.faces.now c.loop-place.place c.face_at.result c.loop-place.tiles.items lt c.face_at.ensures.face c.loop-place.invariant.tiles;
      small = subst (All (λ (t : ℕ). t < 2 ^ 31)) (sym c.in_ok-push.ensures.items)
          (All-append (λ (t : ℕ). t < 2 ^ 31) c.loop-place.tiles.items (c.in_ok-tile.tile ∷ []) c.loop-place.invariant.small
          (All-cons (λ (t : ℕ). t < 2 ^ 31) c.in_ok-tile.tile [] c.in_ok-tile.ensures.small (All-nil (λ (t : ℕ). t < 2 ^ 31))));
    }
