-- What a feed says of what was fed.
use Rattle.std.proofs.Common.{◌≡◌, ℕ, zero, suc, ◌+◌, ◌<◌, ◌≤◌, List, [], ◌∷◌, ◌++◌, length, take, drop, Result, Ok, Err, refl, sym, ap, subst, ◌∙◌, append_assoc, append-nil, arith, inl}
use Rattle.std.specs.Prelude.{IfErr, OnOk, get_or}
use Rattle.std.specs.List.{flat_map}
use Rattle.std.proofs.lemmas.List.{length-append}
use Rattle.vpf_triplet.specs.declared.places.Place.{Place}
use Rattle.vpf_triplet.specs.declared.places.PlaceError.{PlaceError}
use Rattle.vpf_triplet.specs.declared.places.PlaceError.TheVariants as errors
use Rattle.vpf_triplet.specs.declared.places.Code.TheVariants as codes
use Rattle.vpf_triplet.specs.Places.{fault, Answers, Fails, ForPlace}
use Rattle.vpf_table.specs.Grid.{Grid}
use Rattle.vpf_table.specs.Reading.{table_of}
use Rattle.vpf_feed.specs.Inner.Staying.Staying.{order_bytes}
use Rattle.vpf_feed.specs.declared.summary.Summary.{Summary}
use Rattle.vpf_feed.specs.Inner.Progress as progress
use Rattle.vpf_feed.specs.Inner.Progress.{FeedProgress, comes_to, summed}
use Rattle.vpf_feed.specs.Inner.Stages.{HoldsFed, Came, IsUnrefused, MayBe, Took, Unless, OnNoMemory, IsWaiting}
use Rattle.vpf_feed.proofs.Headings.{table_refused}

-- what is fed after what was fed
and_then : (fed piece more : List ℕ) → summed (table_of (fed ++ (piece ++ more))) ≡ summed (table_of ((fed ++ piece) ++ more))
and_then fed piece more = ap (λ (x : List ℕ). summed (table_of x)) (sym (append_assoc fed piece more))

pub took_taken : {U : Type 0} (old new : FeedProgress) (piece : List ℕ) (result : Result U PlaceError) → Took old new piece result → (fed : List ℕ) → HoldsFed old fed → Unless result (HoldsFed new (fed ++ piece))
took_taken old new piece (Ok done) t fed h = record {
  comes = λ more. t.0 more ∙ h.comes (piece ++ more) ∙ and_then fed piece more;
  came = subst (Came new) (sym (length-append fed piece)) (t.1 (length fed) h.came);
}
took_taken old new piece (Err (errors.Place place)) t fed h =
    subst (λ (p : FeedProgress). HoldsFed p (fed ++ piece)) (sym t.0) (record { comes = λ more. sym (t.1 more) ∙ h.comes (piece ++ more) ∙ and_then fed piece more; came = tt })
took_taken old new piece (Err errors.NoMemory) t fed h = tt

may_be_table : (r : Result Grid Place) → MayBe (summed r) → MayBe r
may_be_table (Ok g) m = tt
may_be_table (Err p) m = m

goes_on_whole : (p : FeedProgress) (bytes : List ℕ) → HoldsFed p bytes → IsUnrefused p → order_bytes ≤ length bytes → MayBe (table_of bytes)
goes_on_whole p bytes h g six = may_be_table (table_of bytes) (subst MayBe (h.comes [] ∙ ap (λ (x : List ℕ). summed (table_of x)) (append-nil bytes)) (by p g h.came))
  where
    by : (q : FeedProgress) → IsUnrefused q → Came q (length bytes) → MayBe (comes_to q [])
    by (progress.header text) g came = g (omega arith)
    by (progress.rows s) g came = g
    by (progress.refused place) g came = absurd g

pub took_waits : {U : Type 0} (old new : FeedProgress) (piece : List ℕ) (result : Result U PlaceError) → Took old new piece result → (fed : List ℕ) → HoldsFed old fed → order_bytes ≤ length (fed ++ piece) → OnOk result (MayBe (table_of (fed ++ piece)))
took_waits old new piece (Ok done) t fed h six = goes_on_whole new (fed ++ piece) (took_taken old new piece (Ok done) t fed h) t.2 six
took_waits old new piece (Err e) t fed h six = tt

-- what is refused is refused so whatever follows
pub took_every : {U : Type 0} (old new : FeedProgress) (piece : List ℕ) (result : Result U PlaceError) → Took old new piece result → (fed more : List ℕ) → HoldsFed old fed → IfErr result (ForPlace (λ place. summed (table_of (fed ++ (piece ++ more))) ≡ Err place))
took_every old new piece (Ok done) t fed more h = tt
took_every old new piece (Err (errors.Place place)) t fed more h = sym (h.comes (piece ++ more)) ∙ t.1 more
took_every old new piece (Err errors.NoMemory) t fed more h = tt

pub took_none : {U : Type 0} (old new : FeedProgress) (piece : List ℕ) (result : Result U PlaceError) → Took old new piece result → OnNoMemory result (new ≡ old)
took_none old new piece (Ok done) t = tt
took_none old new piece (Err (errors.Place place)) t = tt
took_none old new piece (Err errors.NoMemory) t = t

-- a header that waits
pub text_goes_on : (text : List ℕ) → IsWaiting text → IsUnrefused (progress.header text)
text_goes_on text w = λ six. subst (λ (x : List ℕ). MayBe (summed (table_of x))) (sym (append-nil text)) (rw (table_refused text (fault 4 codes.HeaderCut) (w.cut six)) (inl refl))

-- ---- one piece after another

pub nothing_came : HoldsFed (progress.header []) []
nothing_came = record { comes = λ more. refl; came = refl }

-- a refusal is that of the whole
pub refused_whole : (p : FeedProgress) (place : Place) (fed more all : List ℕ) → p ≡ progress.refused place → HoldsFed p fed → all ≡ fed ++ more → summed (table_of all) ≡ Err place
refused_whole p place fed more all e h a =
    ap (λ (x : List ℕ). summed (table_of x)) a ∙ sym (h.comes more) ∙ ap (λ (q : FeedProgress). comes_to q more) e

pub ends_whole : (p : FeedProgress) (fed : List ℕ) (result : Result Summary PlaceError) → HoldsFed p fed → Answers (λ s. s) result (comes_to p []) → Answers (λ s. s) result (summed (table_of fed))
ends_whole p fed result h a = subst (Answers (λ s. s) result) (h.comes [] ∙ ap (λ (x : List ℕ). summed (table_of x)) (append-nil fed)) a

-- the pieces before one, it, and those after it
pub flat_split : {X : Type 0} (f : X → List ℕ) (xs : List X) (i : ℕ) (x : X) → i < length xs → x ≡ get_or xs i x → flat_map f xs ≡ (flat_map f (take i xs) ++ f x) ++ flat_map f (drop (i + 1) xs)
flat_split f [] i x h e = absurd (omega arith)
flat_split f (y ∷ ys) zero x h e = ap (λ z. f z ++ flat_map f ys) (sym e)
flat_split f (y ∷ ys) (suc i) x h e =
    let k : suc i + 1 ≡ suc (i + 1) = omega arith in
    let others = flat_split f ys i x (omega arith) e in
    rw (k, others) (simp append_assoc)

-- a piece was refused
pub err_whole : (error : PlaceError) (new : FeedProgress) (fed piece rest all : List ℕ) → ForPlace (λ place. new ≡ progress.refused place) error → Unless {U = Unit {0}} (Err error) (HoldsFed new (fed ++ piece)) → all ≡ (fed ++ piece) ++ rest → Fails error (summed (table_of all))
err_whole errors.NoMemory new fed piece rest all r h a = tt
err_whole (errors.Place place) new fed piece rest all r h a = refused_whole new place (fed ++ piece) rest all r h a
