use Rattle.std.proofs.Common.{◌≡◌, ℕ, ◌+◌, ◌<◌, ◌≤◌, ◌++◌, ◌∷◌, [], Bool, true, not, length, below_more, ap, subst, List, ◌∙◌, inl, inr, arith}
use Rattle.std.proofs.lemmas.Bool.{cases_Bool, cases_lt}
use Rattle.std.proofs.lemmas.List.{length-append, get_or_append_left, get_or_at, get_or_past}
use Rattle.vpf_darts.specs.Inner.Ranks.{marked}
use Rattle.vpf_darts.proofs.cycling.marks_of_dead.Goals as goal

-- the mark of one more rank is put
more : (told : ℕ → Bool) (marks : List Bool) (n : ℕ) (mark : Bool) → length marks ≡ n → mark ≡ told n → ((d : ℕ) → d < n → marked marks d ≡ told d) → (d : ℕ) → d < n + 1 → marked (marks ++ mark ∷ []) d ≡ told d
more told marks n mark len here before = below_more _ _
    (λ d h. let inside : d < length marks = omega arith in get_or_append_left marks (mark ∷ []) true d inside ∙ before d h)
    (get_or_at marks mark [] true n len ∙ here)

-- a rank past all has no live dart
past : (live : ℕ → Bool) (count : ℕ) → ((d : ℕ) → live d ≡ true → d < count) → (d : ℕ) → count ≤ d → true ≡ not (live d)
past live count inside d h = elim (cases_Bool (live d)) [
  | inl is ↦ (let below : d < count = inside d is in absurd (omega arith))
  | inr not_live ↦ rw not_live
]

all : (live : ℕ → Bool) (marks : List Bool) (count : ℕ) → length marks ≡ count → ((d : ℕ) → live d ≡ true → d < count) → ((d : ℕ) → d < count → marked marks d ≡ not (live d)) → (d : ℕ) → marked marks d ≡ not (live d)
all live marks count len inside each d = elim (cases_lt d count) [
  | inl h ↦ each d h
  | inr h ↦ (let beyond : length marks ≤ d = omega arith in get_or_past marks d true beyond ∙ past live count inside d h)
]

pub loop-rank-preserved : goal.loop-rank-preserved
loop-rank-preserved g c = record {
  pushed = ap length c.in_ok-push.ensures.items ∙ length-append c.loop-rank.marks.items (not c.is_live_at.result ∷ []) ∙ ap (λ (n : ℕ). n + 1) c.loop-rank.invariant.pushed;
  dead = rw c.in_ok-push.ensures.items (more (λ d. not (g.R.Ranked.live c.args.darts.now d)) c.loop-rank.marks.items c.loop-rank.rank (not c.is_live_at.result) c.loop-rank.invariant.pushed (ap not c.is_live_at.ensures) c.loop-rank.invariant.dead);
}

pub returns-clause-dead : goal.returns-clause-dead
returns-clause-dead g c =
    let every : c.loop-rank.rank ≡ g.R.Ranked.count c.args.darts.now = omega (arith, c.count-rank-end.ensures) in
    all (g.R.Ranked.live c.args.darts.now) c.loop-rank.marks.items (g.R.Ranked.count c.args.darts.now) (c.loop-rank.invariant.pushed ∙ every) c.requires.live_inside (subst (λ (n : ℕ). (d : ℕ) → d < n → marked c.loop-rank.marks.items d ≡ not (g.R.Ranked.live c.args.darts.now d)) every c.loop-rank.invariant.dead)
