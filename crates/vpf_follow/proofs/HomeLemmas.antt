-- The first home dart that a dart follows, by the lists in which home darts and what follows them are kept.
use Rattle.std.proofs.Common.{◌≡◌, ℕ, suc, ◌+◌, ◌^◌, ◌<◌, Bool, true, false, ◌&&◌, cond, Option, Some, None, List, [], ◌∷◌, ◌++◌, map, refl, ap, sym, ◌∙◌}
use Rattle.std.proofs.Common.{arith, inl, inr, eq-eqb, ne_eqb, zero-add}
use Rattle.std.proofs.lemmas.Bool.{cases_Bool, cases_eq}
use Rattle.std.proofs.lemmas.Iterator.Adapters.{position_from-zero}
use Rattle.std.proofs.lemmas.List.{map-append}
use Rattle.std.proofs.lemmas.List.Elements.{filter-append}
use Rattle.std.specs.Prelude.{position, filter, find, slice_get, nat_eq}
use Rattle.std.specs.List.{position_from}
use Rattle.std.specs.Option.{option_map, option_and_then, option_eq}
use Rattle.vpf_darts.specs.declared.darts.TileDart.{TileDart}
use Rattle.vpf_darts.specs.contracts.darts.TileDartPartialEq.TheImpl.{eq-value}
use Rattle.vpf_darts.specs.Darts.{tile_dart_code}
use Rattle.vpf_wing.specs.Links.{DartLinks}
use Rattle.vpf_follow.specs.Following.{dart_numbered, follow, follows_to, is_home}
use Rattle.vpf_follow.specs.Inner.Homes.{Followings, AreHomes, first_followed, follower}
use Rattle.vpf_follow.proofs.DartLemmas.{numbered-code, code-numbered, same-is, same-refl}

-- the first place where a test passes
abbrev place : {K : Type 0} → (K → Bool) → List K → Option ℕ
place p [] = None
place p (x ∷ xs) = cond (p x) (Some 0) (option_map suc (place p xs))

place_from : {K : Type 0} (p : K → Bool) (i : ℕ) (xs : List K) → position_from p i xs ≡ option_map (λ j. i + j) (place p xs)
place_from p i [] = refl
place_from p i (x ∷ xs) = place_step (p x) (place_from p (i + 1) xs)
  where
    place_step : (b : Bool) → position_from p (i + 1) xs ≡ option_map (λ j. (i + 1) + j) (place p xs)
        → cond b (Some i) (position_from p (i + 1) xs) ≡ option_map (λ j. i + j) (cond b (Some 0) (option_map suc (place p xs)))
    place_step true e = let z : i + 0 ≡ i = omega arith in rw z refl
    place_step false e = e ∙ shift (place p xs)
      where
        shift : (o : Option ℕ) → option_map (λ j. (i + 1) + j) o ≡ option_map (λ j. i + j) (option_map suc o)
        shift None = refl
        shift (Some j) = let z : (i + 1) + j ≡ i + suc j = omega arith in rw z refl

is_place : {K : Type 0} (p : K → Bool) (xs : List K) → position p xs ≡ place p xs
is_place p xs = position_from-zero p xs ∙ place_from p 0 xs ∙ whole (place p xs)
  where
    whole : (o : Option ℕ) → option_map (λ j. 0 + j) o ≡ o
    whole None = refl
    whole (Some j) = rw zero-add refl

-- the first that passes both tests is the first by one among those that pass the other
find_both : (h q : ℕ → Bool) (xs : List ℕ) → find (λ x. h x && q x) xs ≡ find q (filter h xs)
find_both h q [] = refl
find_both h q (x ∷ xs) = elim (cases_Bool (h x)) [
  | inl t ↦ rw (t, find_both h q xs) refl
  | inr f ↦ rw (f, find_both h q xs) refl
]

-- a dart that one follows, by its number
follows_number : (C : DartLinks) (next : TileDart) → next.edge < 2 ^ 32 → (x : ℕ) (y : TileDart) → Some y ≡ follower C x
    → option_eq nat_eq (follow C x) (Some (tile_dart_code next)) ≡ (eq-value).it next y
follows_number C next few x y is = by (follow C x) is
  where
    by : (o : Option ℕ) → Some y ≡ option_map dart_numbered o → option_eq nat_eq o (Some (tile_dart_code next)) ≡ (eq-value).it next y
    by None e = absurd cc
    by (Some n) e =
        let named : y ≡ dart_numbered n = cc in
        elim (cases_eq n (tile_dart_code next)) [
          | inl same ↦ (let is_next : y ≡ next = named ∙ ap dart_numbered same ∙ code-numbered next few in
              rw (is_next, same-refl next) (eq-eqb n (tile_dart_code next) same))
          | inr other ↦ elim (cases_Bool ((eq-value).it next y)) [
            | inl t ↦ absurd (other (sym (numbered-code n) ∙ ap tile_dart_code (sym named ∙ sym (same-is next y t))))
            | inr f ↦ rw f (ne_eqb n (tile_dart_code next) other)
          ]
        ]

-- the first home dart that one follows, by its place
first_by_place : (C : DartLinks) (next : TileDart) → next.edge < 2 ^ 32 → (hs : List ℕ) (ns : List TileDart) → map Some ns ≡ map (follower C) hs
    → option_and_then (slice_get (map dart_numbered hs)) (place ((eq-value).it next) ns)
    ≡ option_map dart_numbered (find (λ x. option_eq nat_eq (follow C x) (Some (tile_dart_code next))) hs)
first_by_place C next few [] [] e = refl
first_by_place C next few [] (y ∷ ns) e = absurd cc
first_by_place C next few (x ∷ hs) [] e = absurd cc
first_by_place C next few (x ∷ hs) (y ∷ ns) e =
    let first : Some y ≡ follower C x = cc in
    let rest : map Some ns ≡ map (follower C) hs = cc in
    rw (follows_number C next few x y first) (by ((eq-value).it next y) (first_by_place C next few hs ns rest))
  where
    by : (b : Bool)
        → option_and_then (slice_get (map dart_numbered hs)) (place ((eq-value).it next) ns)
        ≡ option_map dart_numbered (find (λ z. option_eq nat_eq (follow C z) (Some (tile_dart_code next))) hs)
        → option_and_then (slice_get (dart_numbered x ∷ map dart_numbered hs)) (cond b (Some 0) (option_map suc (place ((eq-value).it next) ns)))
        ≡ option_map dart_numbered (cond b (Some x) (find (λ z. option_eq nat_eq (follow C z) (Some (tile_dart_code next))) hs))
    by true h = refl
    by false h = shift (place ((eq-value).it next) ns) ∙ h
      where
        shift : (o : Option ℕ) → option_and_then (slice_get (dart_numbered x ∷ map dart_numbered hs)) (option_map suc o)
            ≡ option_and_then (slice_get (map dart_numbered hs)) o
        shift None = refl
        shift (Some j) = refl

-- the first that is kept of the darts that one follows is the first home dart among those that were passed
pub first_is : (C : DartLinks) (among : List ℕ) (h : Followings) (next : TileDart) → next.edge < 2 ^ 32 → AreHomes C among h
    → first_followed h next ≡ option_map dart_numbered (find (follows_to C (Some (tile_dart_code next))) among)
first_is C among h next few kept =
    let test : ℕ → Bool = λ x. option_eq nat_eq (follow C x) (Some (tile_dart_code next)) in
    rw (is_place ((eq-value).it next) h.nexts, kept.homes)
    (first_by_place C next few (filter (is_home C) among) h.nexts kept.followers ∙ ap (option_map dart_numbered) (sym (find_both (is_home C) test among)))

filter_home : (p : ℕ → Bool) (among : List ℕ) (d : ℕ) → p d ≡ true → filter p (among ++ d ∷ []) ≡ filter p among ++ d ∷ []
filter_home p among d t = filter-append p among (d ∷ []) ∙ rw t refl

-- a home dart is put
pub home_put : (C : DartLinks) (among : List ℕ) (h : Followings) (dart next : TileDart) → dart.edge < 2 ^ 32 → next.edge < 2 ^ 32
    → is_home C (tile_dart_code dart) ≡ true → follow C (tile_dart_code dart) ≡ Some (tile_dart_code next) → AreHomes C among h
    → AreHomes C (among ++ tile_dart_code dart ∷ []) (record { darts = h.darts ++ dart ∷ []; nexts = h.nexts ++ next ∷ [] })
home_put C among h dart next few few' home is kept =
    let more = filter_home (is_home C) among (tile_dart_code dart) home in
    let named : follower C (tile_dart_code dart) ≡ Some next = ap (option_map dart_numbered) is ∙ ap Some (code-numbered next few') in
    record {
      homes = ap (λ xs. xs ++ dart ∷ []) kept.homes ∙ ap (λ x. map dart_numbered (filter (is_home C) among) ++ x ∷ []) (sym (code-numbered dart few))
          ∙ sym (map-append dart_numbered (filter (is_home C) among) (tile_dart_code dart ∷ [])) ∙ ap (map dart_numbered) (sym more);
      followers = map-append Some h.nexts (next ∷ []) ∙ ap (λ xs. xs ++ Some next ∷ []) kept.followers
          ∙ ap (λ x. map (follower C) (filter (is_home C) among) ++ x ∷ []) (sym named)
          ∙ sym (map-append (follower C) (filter (is_home C) among) (tile_dart_code dart ∷ [])) ∙ ap (map (follower C)) (sym more);
    }

-- no dart is passed yet
pub home_none : (C : DartLinks) → AreHomes C [] (record { darts = []; nexts = [] })
home_none C = record { homes = refl; followers = refl }
