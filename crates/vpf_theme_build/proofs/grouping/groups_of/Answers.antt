use Rattle.std.proofs.Common.{◌+◌, refl, arith, inl, inr}
use Rattle.std.proofs.lemmas.Bool.{cases_eq}
use Rattle.std.proofs.lemmas.Bool.Decides.{when_true, when_false}
use Rattle.std.proofs.lemmas.List.Elements.{All-push}
use Rattle.vpf_theme_build.specs.declared.grouping.Group.{Group}
use Rattle.vpf_theme_build.specs.Grouping.{EndsAt, GoesOn, IsGroup}
use Rattle.vpf_theme_build.proofs.RunLemmas.{groups_more}
use Rattle.vpf_theme_build.proofs.grouping.groups_of.Goals as goal
use Rattle.vpf_theme_build.proofs.grouping.groups_of.Goals.{then-ends_at+in_ok-push, else-ends_at}

pub loop-i-preserved : goal.loop-i-preserved
loop-i-preserved c =
    let spots = c.args.spots.now in
    let i = c.loop-i.i in
    let inv = c.loop-i.invariant in
    elim c.if-ends_at.branch [
      | then-ends_at+in_ok-push w ↦
          let group : Group = record { start = c.loop-i.start; end = i + 1 } in
          let ends = when_true (EndsAt spots i) (GoesOn spots i) w.if-ends_at.true c.ends_at.ensures in
          record {
            entries = rw (w.groups-is, w.start-is) (groups_more spots c.loop-i.start i c.loop-i.groups.items w.push.new.self.items group _ w.in_ok-push.ensures.items refl refl inv.before (omega arith) inv.same ends inv.entries);
            within = rw (w.groups-is, w.in_ok-push.ensures.items) (All-push (IsGroup spots) c.loop-i.groups.items group inv.within (omega (arith, inv.before), omega arith));
            before = omega (arith, w.start-is);
            same = λ k d a b. absurd (omega (arith, w.start-is));
            last = λ e. w.start-is;
          }
      | else-ends_at w ↦
          let goes = when_false (EndsAt spots i) (GoesOn spots i) w.if-ends_at.false c.ends_at.ensures in
          record {
            entries = rw (w.groups-is, w.start-is) inv.entries;
            within = rw w.groups-is inv.within;
            before = omega (arith, w.start-is, inv.before);
            same = λ k d a b. elim (cases_eq k i) [
              | inl e ↦ rw e (goes.1 d)
              | inr ne ↦ inv.same k d (omega (arith, w.start-is)) (omega arith)
            ];
            last = λ e. absurd (omega (arith, goes.0));
          }
    ]
