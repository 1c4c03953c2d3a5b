-- Names in cells: without their padding, and cut at slashes.
use Rattle.std.proofs.Common.{◌≡◌, ℕ, zero, suc, ◌+◌, ◌-◌, ◌<◌, Bool, true, false, cond, arith}
use Rattle.std.proofs.Common.{List, [], ◌∷◌, ◌++◌, length, take, get_or, map, refl, ap, sym, subst, ◌∙◌}
use Rattle.std.specs.List.{list_all}
use Rattle.std.proofs.lemmas.List.{take_more, take_all, length-map}
use Rattle.std.proofs.lemmas.List.Folds.{list_all-map}
use Rattle.std.specs.Prelude.{filter, ◌==◌}
use Rattle.vpf_base.proofs.Booleans.{both}
use Rattle.vpf_source.specs.Names.Items.{is_padding, is_plain_name, kept_before, before_padding}
use Rattle.vpf_library_files.specs.Tileref.Paths.{is_path}

-- padding behind a text is dropped
lone_padding : (b : ℕ) → is_padding b ≡ true → kept_before b [] ≡ []
lone_padding b p = rw p refl

pub last_dropped : (text : List ℕ) (b : ℕ) → is_padding b ≡ true → before_padding (text ++ b ∷ []) ≡ before_padding text
last_dropped [] b p = lone_padding b p
last_dropped (c ∷ text) b p = ap (kept_before c) (last_dropped text b p)

lone_kept : (b : ℕ) → is_padding b ≡ false → kept_before b [] ≡ b ∷ []
lone_kept b p = rw p refl

kept_some : (c : ℕ) (text : List ℕ) (b : ℕ) → kept_before c (text ++ b ∷ []) ≡ c ∷ (text ++ b ∷ [])
kept_some c [] b = refl
kept_some c (d ∷ text) b = refl

-- a text that ends in another byte stays
pub last_kept : (text : List ℕ) (b : ℕ) → is_padding b ≡ false → before_padding (text ++ b ∷ []) ≡ text ++ b ∷ []
last_kept [] b p = lone_kept b p
last_kept (c ∷ text) b p = ap (kept_before c) (last_kept text b p) ∙ kept_some c text b

one_more : {A B : Type 0} (f : A → B) (x : A) (xs : List A) (ys : List B) (b : Bool) → map f xs ≡ ys → map f (cond b (x ∷ xs) xs) ≡ cond b (f x ∷ ys) ys
one_more f x xs ys true e = ap (λ rest. f x ∷ rest) e
one_more f x xs ys false e = e

-- elements are tested before or after they are mapped
pub filter_seen : {A B : Type 0} (f : A → B) (p : B → Bool) (xs : List A) → map f (filter (λ x. p (f x)) xs) ≡ filter p (map f xs)
filter_seen f p [] = refl
filter_seen f p (x ∷ xs) = one_more f x (filter (λ y. p (f y)) xs) (filter p (map f xs)) (p (f x)) (filter_seen f p xs)

-- a text of some bytes is all but its last, and its last
parted : (text : List ℕ) → 0 < length text → text ≡ take (length text - 1) text ++ get_or text (length text - 1) 0 ∷ []
parted text some =
    let e : length text - 1 + 1 ≡ length text = omega arith in
    let l : length text - 1 < length text = omega arith in
    let IsFront : ℕ → Type 0 = λ (n : ℕ). take n text ≡ take (length text - 1) text ++ get_or text (length text - 1) 0 ∷ [] in
    sym (take_all (length text) text (omega arith)) ∙ subst IsFront e (take_more text (length text - 1) 0 l)

-- padding at the end may be cut off
pub shortened : (text : List ℕ) → 0 < length text → is_padding (get_or text (length text - 1) 0) ≡ true
    → before_padding (take (length text - 1) text) ≡ before_padding text
shortened text some p =
    sym (ap before_padding (parted text some) ∙ last_dropped (take (length text - 1) text) (get_or text (length text - 1) 0) p)

-- a text that doesn't end in padding has none behind it
pub stands : (text : List ℕ) → 0 < length text → is_padding (get_or text (length text - 1) 0) ≡ false → text ≡ before_padding text
stands text some p =
    parted text some ∙ sym (last_kept (take (length text - 1) text) (get_or text (length text - 1) 0) p) ∙ sym (ap before_padding (parted text some))

-- each element of a list passes where all do
pub passes_at : {X : Type 0} (p : X → Bool) (xs : List X) (i : ℕ) (d : X) → i < length xs → list_all p xs ≡ true → p (get_or xs i d) ≡ true
passes_at p [] i d h all = absurd (omega arith)
passes_at p (x ∷ xs) zero d h all = (both (p x) (list_all p xs) all).0
passes_at p (x ∷ xs) (suc i) d h all = passes_at p xs i d (omega arith) ((both (p x) (list_all p xs) all).1)

-- where all pass, all behind the first do
pub every_other : {X Y : Type 0} (p : Y → Bool) (f : X → Y) (xs : List X) (x : X) (others : List X) → xs ≡ x ∷ others
    → list_all p (map f xs) ≡ true → list_all (λ (other : X). p (f other)) others ≡ true
every_other p f xs x others e all = sym (list_all-map p f others) ∙ (both (p (f x)) (list_all p (map f others)) (rw e at all)).1

-- a path is tested folder by folder
pub path_tested : {X : Type 0} (f : X → List ℕ) (xs : List X) → (length xs == 0) ≡ false → is_path (map f xs) ≡ list_all (λ x. is_plain_name (f x)) xs
path_tested f xs some = rw (length-map xs f, some, list_all-map is_plain_name f xs) refl
