-- One item after another.
use Rattle.std.proofs.Common.{[], ◌≡◌, ℕ, ◌+◌, Bool, true, false, List, ◌∷◌, drop, Option, Some, None, sym, ap, ◌∙◌, ◌++◌, length, get_or, refl, ◌<◌, arith, zero, suc, map}
use Rattle.std.specs.Prelude.{find, slice_get, flat_map}
use Rattle.std.proofs.lemmas.List.{drop_more}
use Rattle.std.proofs.lemmas.Option.{slice_get_within, get_or_from_slice_get}
use Rattle.std.specs.List.{AllByRecursion, enumerate_from}

-- what is left from an item on begins with it
pub next_item : {X : Type 0} (xs : List X) (i : ℕ) (x : X) → slice_get xs i ≡ Some x → drop i xs ≡ x ∷ drop (i + 1) xs
next_item xs i x e = drop_more xs i x (slice_get_within xs i x e) ∙ ap (λ y. y ∷ drop (i + 1) xs) (get_or_from_slice_get xs i x x e)

-- the first that passes isn't this one
pub find_pass : (p : ℕ → Bool) (row : ℕ) (rows rest : List ℕ) (whole : Option ℕ) → rows ≡ row ∷ rest → find p rows ≡ whole → p row ≡ false → find p rest ≡ whole
find_pass p row rows rest whole e h q = let k = rw e at h in rw q at k

-- the first that passes is this one
pub find_stop : (p : ℕ → Bool) (row : ℕ) (rows rest : List ℕ) (whole : Option ℕ) → rows ≡ row ∷ rest → find p rows ≡ whole → p row ≡ true → whole ≡ Some row
find_stop p row rows rest whole e h q = let k = rw e at h in let m = rw q at k in sym m

-- none of none passes
pub find_end : (p : ℕ → Bool) (rows : List ℕ) (whole : Option ℕ) → rows ≡ [] → find p rows ≡ whole → whole ≡ None
find_end p rows whole e h = let k = rw e at h in sym k

-- where one is there
pub within : {X : Type 0} (xs : List (Option X)) (t : ℕ) (x : X) → get_or xs t None ≡ Some x → t < length xs
within [] t x e = absurd cc
within (y ∷ xs) zero x e = omega arith
within (y ∷ xs) (suc t) x e = let r = within xs t x e in omega (arith, r)

-- what is so of all of two lists is so of all of both
pub all_joined : {X : Type 0} (P : X → Type 0) (xs ys : List X) → AllByRecursion P xs → AllByRecursion P ys → AllByRecursion P (xs ++ ys)
all_joined P [] ys all others = others
all_joined P (x ∷ xs) ys all others = (all.0, all_joined P xs ys all.1 others)

pub all_flat : {X Y : Type 0} (P : Y → Type 0) (f : X → List Y) (xs : List X) → ((x : X) → AllByRecursion P (f x)) → AllByRecursion P (flat_map f xs)
all_flat P f [] each = tt
all_flat P f (x ∷ xs) each = all_joined P (f x) (flat_map f xs) (each x) (all_flat P f xs each)

-- what a change leaves as it is in each element
pub each_kept : {X Y : Type 0} (f : ℕ × X → X) (g : X → Y) (n : ℕ) (xs : List X) → ((c : ℕ) (x : X) → g (f (c, x)) ≡ g x)
    → map g (map f (enumerate_from n xs)) ≡ map g xs
each_kept f g n [] e = refl
each_kept f g n (x ∷ xs) e =
    let first = e n x in
    let rest = each_kept f g (n + 1) xs e in
    cc
