use Rattle.std.proofs.Common.{◌≡◌, ◌<◌, ◌≤◌, ◌++◌, ◌∷◌, ◌∙◌, [], true, false, sym, ap, subst, arith, length, eq-eqb}
use Rattle.std.specs.Prelude.{All}
use Rattle.std.proofs.lemmas.Bool.{ne_eqb}
use Rattle.std.proofs.lemmas.List.{length-map, take_all}
use Rattle.std.proofs.lemmas.List.Elements.{All-push}
use Rattle.vpf_darts.specs.Darts.{tile_dart_code}
use Rattle.vpf_darts.specs.Listings.{numbers_of}
use Rattle.vpf_prims.specs.Coverages.{CoverageTables}
use Rattle.vpf_prims.specs.Libraries.{library_of}
use Rattle.vpf_wing.specs.Links.{links_of}
use Rattle.vpf_renumbering.specs.Inner.GluedFaces.Rings.{HasHomeStart, is_universe, rings_glued, rings_of_cycles}
use Rattle.vpf_renumbering.proofs.glued_faces.UniverseLemmas.{no_more, none_yet, one_more, universe_of}
use Rattle.vpf_renumbering.proofs.glued_faces.universe.rings_of_cycles.Goals as goal
use Rattle.vpf_renumbering.proofs.glued_faces.universe.rings_of_cycles.Goals.{then-face_id-eq-UNIVERSE+in_ok-push, else-face_id-eq-UNIVERSE}

pub loop-i-init : goal.loop-i-init
loop-i-init c = record {
  made = ap (rings_glued (library_of c.args.checked.now)) c.new-rings.ensures.items ∙ none_yet (library_of c.args.checked.now) (numbers_of c.args.cycles.now);
  home = λ k d lt. absurd (let none : length c.new-rings.result.items ≡ 0 = ap (λ xs. length xs) c.new-rings.ensures.items in omega arith);
}

pub loop-i-preserved : goal.loop-i-preserved
loop-i-preserved c =
    let many : length (numbers_of c.args.cycles.now) ≡ length c.args.cycles.now = length-map c.args.cycles.now _ in
    let inside : c.loop-i.i < length (numbers_of c.args.cycles.now) = omega arith in
    let face : c.face_id.result ≡ ((links_of (library_of c.args.checked.now)).face (tile_dart_code c.begin_of-start.result)).id =
    c.face_id.ensures ∙ ap (λ (v : CoverageTables). ((links_of (library_of v)).face (tile_dart_code c.begin_of-start.result)).id) c.coverage.ensures in
    elim c.if-face_id-eq-UNIVERSE.branch [
      | then-face_id-eq-UNIVERSE+in_ok-push w ↦ (
          let in_universe : is_universe (library_of c.args.checked.now) (tile_dart_code c.begin_of-start.result) ≡ true =
          universe_of (library_of c.args.checked.now) (tile_dart_code c.begin_of-start.result) c.face_id.result c.begin_of-start.ensures.home face true (eq-eqb c.face_id.result 1 w.if-face_id-eq-UNIVERSE.true) in
          let pushed : c.if-face_id-eq-UNIVERSE.rings.items ≡ c.loop-i.rings.items ++ record { face = 1; start = c.begin_of-start.result } ∷ [] =
          ap (λ v. v.items) w.rings-is ∙ w.in_ok-push.ensures.items in
          record {
            made = one_more (library_of c.args.checked.now) (numbers_of c.args.cycles.now) c.loop-i.i c.begin_of-start.result inside c.begin_of-start.ensures.first in_universe
                c.loop-i.rings.items c.if-face_id-eq-UNIVERSE.rings.items pushed c.loop-i.invariant.made;
            home = subst (All (HasHomeStart (library_of c.args.checked.now))) (sym pushed)
                (All-push (HasHomeStart (library_of c.args.checked.now)) c.loop-i.rings.items (record { face = 1; start = c.begin_of-start.result }) c.loop-i.invariant.home
                (record { home = c.begin_of-start.ensures.home; face = omega arith }));
          })
      | else-face_id-eq-UNIVERSE w ↦ (
          let elsewhere : is_universe (library_of c.args.checked.now) (tile_dart_code c.begin_of-start.result) ≡ false =
          universe_of (library_of c.args.checked.now) (tile_dart_code c.begin_of-start.result) c.face_id.result c.begin_of-start.ensures.home face false (ne_eqb c.face_id.result 1 w.if-face_id-eq-UNIVERSE.false) in
          record {
            made = ap (λ v. rings_glued (library_of c.args.checked.now) v.items) w.rings-is
                ∙ no_more (library_of c.args.checked.now) (numbers_of c.args.cycles.now) c.loop-i.i c.begin_of-start.result inside c.begin_of-start.ensures.first elsewhere
                c.loop-i.rings.items c.loop-i.invariant.made;
            home = subst (All (HasHomeStart (library_of c.args.checked.now))) (sym (ap (λ v. v.items) w.rings-is)) c.loop-i.invariant.home;
          })
    ]

pub returns-clause-rings : goal.returns-clause-rings
returns-clause-rings c =
    let many : length (numbers_of c.args.cycles.now) ≡ length c.args.cycles.now = length-map c.args.cycles.now _ in
    let all : length (numbers_of c.args.cycles.now) ≤ c.loop-i.i = omega arith in
    c.loop-i.invariant.made ∙ ap (rings_of_cycles (library_of c.args.checked.now)) (take_all c.loop-i.i (numbers_of c.args.cycles.now) all)
