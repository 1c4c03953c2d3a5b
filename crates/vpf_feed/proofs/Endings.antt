-- What rows come to that nothing follows.
use Rattle.std.proofs.Common.{◌≡◌, ℕ, zero, suc, ◌+◌, ◌-◌, ◌<◌, List, [], ◌∷◌, length, take, drop, Some, Result, Ok, Err, refl, ap, ◌∙◌, append-nil, arith, inr}
use Rattle.std.specs.Prelude.{slice_get}
use Rattle.std.proofs.lemmas.Bool.{lt-ltb}
use Rattle.vpf_base.specs.Limits.{most_rows}
use Rattle.vpf_base.proofs.Lists.{next_item}
use Rattle.vpf_base.specs.declared.orders.Order.{Order}
use Rattle.vpf_triplet.specs.declared.places.Place.{Place}
use Rattle.vpf_triplet.specs.declared.places.Code.TheVariants as codes
use Rattle.vpf_triplet.specs.Places.{fault}
use Rattle.vpf_feed.specs.declared.row_form.form.Field.{Field}
use Rattle.vpf_feed.specs.Inner.RowForm.Walk.{rows_to_come}
use Rattle.vpf_feed.specs.declared.heading.Rows.{Rows}
use Rattle.vpf_feed.specs.declared.walking.Hand.{Hand}
use Rattle.vpf_feed.specs.declared.walking.Hand.TheVariants as hands
use Rattle.vpf_feed.specs.Inner.Progress.{row_comes, hand_comes, comes_to, summed_rows}
use Rattle.vpf_feed.specs.Inner.Walks.{so_far, hand_of, IsInHand, IsInCell, IsSkipping}
use Rattle.vpf_feed.specs.Inner.Stages.{AreSoundRows, MayBe, came_of}
use Rattle.vpf_feed.proofs.Steps.{cell_stops}

pub rows_end : (n : ℕ) (o : Order) (all : List Field) (done at : ℕ) → rows_to_come n o all done at [] ≡ Ok done
unfolding rows_to_come
rows_end zero o all done at = refl
rows_end (suc n) o all done at = refl

pub at_field : (fs : List Field) (i : ℕ) → i < length fs → (f : Field) × (slice_get fs i ≡ Some f)
at_field [] i h = absurd (omega arith)
at_field (f ∷ fs) zero h = (f, refl)
at_field (f ∷ fs) (suc i) h = at_field fs i (omega arith)

-- what is in hand comes to that nothing follows
abbrev pub at_end : Rows → Hand → Result ℕ Place
at_end r h = hand_comes (so_far r.form r.columns r.walk) (hand_of r.walk.kept h) []

pub between_ends : (r : Rows) → at_end r hands.Between ≡ Ok r.walk.done
between_ends r = rows_end (most_rows - r.walk.done) r.form.order r.form.fields.items r.walk.done r.walk.at

pub within_ends : (r : Rows) (len : ℕ) → r.walk.column < length r.form.fields.items → IsInCell r.form r.walk len → at_end r (hands.Within len) ≡ Err (fault r.walk.at codes.CellCut)
within_ends r len c i =
    let all = r.form.fields.items in
    let kept : List ℕ = take len r.walk.kept in
    let f = at_field all r.walk.column c in
    let left = next_item all r.walk.column f.0 f.1 in
    ap (row_comes r.form.order all (drop r.walk.column all) r.walk.done r.walk.at) (append-nil kept) ∙ cell_stops r.form.order all (drop r.walk.column all) f.0 (drop (r.walk.column + 1) all) r.walk.done r.walk.at kept codes.CellCut left (i.cut f.0 f.1)

pub skipping_ends : (r : Rows) (past : ℕ) → IsSkipping r.form r.walk past → at_end r (hands.Skipping past) ≡ Err (fault r.walk.at codes.CellCut)
skipping_ends r past i = rw (lt-ltb 0 (past - r.walk.here) (omega (arith, i.more))) refl

-- rows that are taken are a table's, or end too early
pub rows_may_be : (r : Rows) → AreSoundRows r → MayBe (comes_to (came_of r) [])
rows_may_be r a = by r.walk.hand a.walk.hand
  where
    by : (h : Hand) → IsInHand r.form r.walk h → MayBe (summed_rows r.form.order r.columns (at_end r h))
    by hands.Between i = rw (between_ends r) tt
    by (hands.Within len) i = rw (within_ends r len a.walk.column i) (inr refl)
    by (hands.Skipping past) i = rw (skipping_ends r past i) (inr refl)
