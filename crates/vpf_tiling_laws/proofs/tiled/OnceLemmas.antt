-- No cycle of a tile of a tiled library has two rings.
use Rattle.std.proofs.Common.{◌≡◌, ◌≢◌, ℕ, zero, suc, ◌^◌, ◌<◌, ◌≤◌, ◌⊎◌, Bool, true, false, not, eqb, ◌||◌, ◌&&◌, refl, sym, ap, ◌∙◌, subst, inl, inr, arith, List, [], ◌∷◌, length, map}
use Rattle.std.specs.Prelude.{filter, flat_map}
use Rattle.std.specs.List.{AllByRecursion}
use Rattle.std.proofs.lemmas.Bool.{not-true, cases_Bool, cases_order, and_parts, and_from, or_left, or_right, eq-eqb}
use Rattle.vpf_darts.specs.Darts.{code, edge_in, flip}
use Rattle.vpf_darts.specs.Inner.Laws.{RemovalLeavesAMap, DartLiesOnCycle}
use Rattle.vpf_darts.specs.Maps.{DartMap, IsMap, is_of, is_of_any, without, without_edge}
use Rattle.vpf_prims.specs.Lists.{kth}
use Rattle.vpf_tiling.specs.Ranks.{up_to, is_least, leasts}
use Rattle.vpf_prims.specs.Primitives.{Primitives, Library, untiled, absent_ring, tile_rings, ring_count}
use Rattle.vpf_prims.specs.References.{id_of}
use Rattle.vpf_wing.specs.Walks.{Steps, LeadsTo}
use Rattle.vpf_wing.specs.Links.{DartLinks, local_map, row_darts}
use Rattle.vpf_tiling.specs.Presence.{untiled_links, coverage_map, face_of, holds_face, is_within, is_present, has_edge, held_faces, local_edge, local_face, copy_in, absent_darts, tile_map}
use Rattle.vpf_tiling.specs.Tiles.{Ring, outer_darts, outer_rings, face_rings, tiled_rings, numbered_ring, tiled_library, is_made}
use Rattle.vpf_prims.specs.Numbering.{IsRowOf}
use Rattle.vpf_wing.specs.WellFormed.{IsWellFormed, GoesRound}
use Rattle.vpf_tiling.specs.Plans.{IsTileable}
use Rattle.vpf_tiling_laws.proofs.tiled.Parts.{HasLinks, OfTiled, RingsOnce}
use Rattle.vpf_wing.specs.Inner.DartLaws.{never_both, stands_in, code-edge, darts-stand, flip-flip, dart_bound, darts-below}
use Rattle.vpf_tiling_laws.proofs.tiled.Facts.{MapLaws, AmongRow, among}
use Rattle.vpf_base.proofs.Lists.{all_joined as all_join}
use Rattle.vpf_tiling_laws.proofs.tiled.CopyLemmas.{CopyAt, copy_at, copies_have_links}
use Rattle.vpf_tiling_laws.proofs.tiled.SideLemmas.{Within, within_is, rank_apart, same_plus, above}
use Rattle.vpf_tiling_laws.proofs.tiled.FollowLemmas.{present_stays, library_links}
use Rattle.vpf_tiling_laws.proofs.tiled.NextLemmas.{face_id, id_within, id_not, tile_arrives}
use Rattle.vpf_tiling_laws.proofs.tiled.AcrossLemmas.{CopyHere, copy_here, tile_is_map, other_within}
use Rattle.vpf_tiling_laws.proofs.tiled.RowLemmas.{made_from}
use Rattle.vpf_tiling_laws.proofs.tiled.RoundLemmas.{next_at}
use Rattle.vpf_tiling_laws.proofs.tiled.PlaceLemmas.{all_flat}
use Rattle.vpf_tiling_laws.proofs.tiled.ReferenceLemmas.{rings_many}
use Rattle.vpf_tiling_laws.proofs.tiled.TableLemmas.{HeldFace, held_is, no_one, ring_at}
use Rattle.vpf_tiling_laws.proofs.tiled.WalkLemmas.{every_map, leads_join, comes_back, goes_back, least_one, Pairs, pairs_get, pairs_join, cross_all, pairs_passing}
use Rattle.vpf_tiling_laws.proofs.tiled.InnerLemmas.{StartOf, Apart, Keeps, keeps_next, apart_faces, inner_apart}
use Rattle.vpf_tiling.specs.Inner.PresenceLaws.{dart_is, edge_present, plus_or, present_has, stands_filter}
use Rattle.vpf_tiling.specs.Inner.RankLaws.{up-last}

-- the map of a tile without its absent edges: what is live
pub without_live : (m : DartMap) (es : List ℕ) (d : ℕ) → (without m es).live d ≡ true → m.live d ≡ true
unfolding without_edge
without_live m [] d h = h
without_live m (e ∷ es) d h = (and_parts (m.live d) _ (without_live (without_edge m e) es d h)).0

pub without_stays : (m : DartMap) (es : List ℕ) (d : ℕ) → m.live d ≡ true → is_of_any m.flip es d ≡ false → (without m es).live d ≡ true
unfolding without_edge
without_stays m [] d h n = h
without_stays m (e ∷ es) d h n = (
    let one : is_of m.flip e d ≡ false =
    elim (cases_Bool (is_of m.flip e d)) [
      | inl a ↦
          absurd (never_both (is_of_any m.flip (e ∷ es) d) (or_left (is_of m.flip e d) (is_of_any m.flip es d) a) n)
      | inr f ↦ f
    ] in
    let rest : is_of_any m.flip es d ≡ false = sym (ap (λ b. b || is_of_any m.flip es d) one) ∙ n in
    without_stays (without_edge m e) es d (and_from (m.live d) (not (is_of m.flip e d)) h (ap not one)) rest)

-- each present dart lies on a cycle of its tile
pub tile_back : MapLaws → RemovalLeavesAMap → DartLiesOnCycle → (c : Primitives) (plan : ℕ → ℕ) (tiles : ℕ) → IsTileable c plan tiles → (t d : ℕ)
    → is_present c plan t d ≡ true → LeadsTo (tile_map c plan t).next ((tile_map c plan t).next d) d
tile_back law removal lies c plan tiles w t d h = (
    let m : IsMap (tile_map c plan t) = tile_is_map law removal c plan tiles w t in
    let live : (tile_map c plan t).live d ≡ true =
    without_stays (coverage_map c) (absent_darts c plan t) d (present_has c plan t d h) (present_stays c plan t d h) in
    let r =
    lies (tile_map c plan t) (dart_bound (untiled c)) d m (λ x l. darts-below (untiled c) x (without_live (coverage_map c) (absent_darts c plan t) x l))
    live in
    comes_back (tile_map c plan t).next d r.0 r.1 r.2)

pub turns_back : MapLaws → RemovalLeavesAMap → DartLiesOnCycle → (c : Primitives) (plan : ℕ → ℕ) (tiles : ℕ) → IsTileable c plan tiles → (t z d : ℕ)
    → is_present c plan t z ≡ true → LeadsTo (tile_map c plan t).next z d → LeadsTo (tile_map c plan t).next d z
turns_back law removal lies c plan tiles w t z d p q =
    goes_back (tile_map c plan t).next (λ v. is_present c plan t v ≡ true) (λ v h. (tile_arrives law c plan tiles w t v h).here)
    (λ v h. tile_back law removal lies c plan tiles w t v h) q.0 z d p q.1

-- an outer dart of a tile: present, without a face of the tile
pub record Outer (c : Primitives) (plan : ℕ → ℕ) (t d : ℕ) : Type 0 where
  pub present : is_present c plan t d ≡ true
  pub away : is_within c plan t d ≡ false

pub outer_face : (c : Primitives) (plan : ℕ → ℕ) → IsWellFormed c → (t d : ℕ) → is_present c plan t d ≡ true → face_id c plan t (face_of c d) ≡ 1
    → is_within c plan t d ≡ false
outer_face c plan w t d h e = elim (cases_Bool (is_within c plan t d)) [
  | inl i ↦ (let p : Within c plan t d = within_is c plan t d i in absurd (above _ (sym (id_within c plan t (face_of c d) p.other p.planned) ∙ e)))
  | inr n ↦ n
]

pub outer_next : MapLaws → (c : Primitives) (plan : ℕ → ℕ) (tiles : ℕ) → IsTileable c plan tiles → (t d : ℕ) → Outer c plan t d
    → Outer c plan t ((tile_map c plan t).next d)
outer_next law c plan tiles w t d o = (
    let k : Keeps c plan t 1 ((tile_map c plan t).next d) =
    keeps_next law c plan tiles w t 1 d (record {
      present = o.present;
      face =
          id_not c plan w.well_formed t d (present_has c plan t d o.present) o.away;
    }) in
    record { present = k.present; away = outer_face c plan w.well_formed t ((tile_map c plan t).next d) k.present k.face })

pub outer_stands : (c : Primitives) (plan : ℕ → ℕ) (t d : ℕ) → Outer c plan t d → stands_in d (outer_darts c plan t) ≡ true
outer_stands c plan t d o =
    stands_filter (λ x. is_present c plan t x && not (is_within c plan t x)) d (untiled_links c).darts
    (and_from (is_present c plan t d) (not (is_within c plan t d)) o.present (ap not o.away)) (darts-stand (untiled c) d (present_has c plan t d o.present))

pub same_edge : (c : Primitives) (d e : ℕ) → (untiled_links c).has d ≡ true → (untiled_links c).has e ≡ true → edge_in d ≡ edge_in e → (d ≡ e) ⊎ (d ≡ flip e)
same_edge c d e hd he s = (
    let is : code 0 (edge_in d) 0 ≡ code 0 (edge_in e) 0 = ap (λ k. code 0 k 0) s in
    elim (plus_or d (dart_is c d hd)) [
      | inl a ↦ (elim (plus_or e (dart_is c e he)) [ inl b ↦ inl (sym a ∙ is ∙ b) | inr b ↦ inr (sym a ∙ is ∙ b) ])
      | inr a ↦
          (elim (plus_or e (dart_is c e he)) [
            | inl b ↦ inr (sym (flip-flip d) ∙ ap flip (sym a ∙ is ∙ b))
            | inr b ↦
                inl (sym (flip-flip d) ∙ ap flip (sym a ∙ is ∙ b) ∙ flip-flip e)
          ])
    ])

-- an outer ring starts with its dart alone
pub outer_start : (c : Primitives) (plan : ℕ → ℕ) → IsWellFormed c → (t x d : ℕ) → Outer c plan t x
    → StartOf c plan t (record { face = 1; edge = local_edge c plan t (edge_in x) }) d → d ≡ x
outer_start c plan w t x d o s = (
    let edges : edge_in d ≡ edge_in x =
    rank_apart (has_edge c plan t) (edge_in d) (edge_in x) (edge_present c plan t d s.present) (edge_present c plan t x o.present)
    (same_plus _ _ 1 s.edge) in
    elim (same_edge c d x (present_has c plan t d s.present) (present_has c plan t x o.present) edges) [
      | inl e ↦ e
      | inr e ↦
          absurd (never_both (is_within c plan t d) (ap (is_within c plan t) e ∙ other_within c plan t x o.present o.away)
          (outer_face c plan w t d s.present s.face))
    ])

-- two of the outer darts
pub record OuterTwo (c : Primitives) (plan : ℕ → ℕ) (t x y : ℕ) : Type 0 where
  pub one : Outer c plan t x
  pub two : Outer c plan t y
  pub apart : x ≢ y

pub edge_apart : (x y n : ℕ) → edge_in x ≤ n → edge_in y ≡ suc n → x ≢ y
edge_apart x y n a b e = (let q : edge_in x ≡ edge_in y = ap edge_in e in omega arith)

pub signs_apart : (e : ℕ) → code 0 e 0 ≢ code 0 e 1
unfolding code
signs_apart e q = omega arith

pub rows_apart : (n : ℕ) → n < 2 ^ 24 → Pairs (λ x y. x ≢ y) (row_darts 0 n)
rows_apart zero few = tt
rows_apart (suc n) few = (
    let p : ℕ = code 0 (suc n) 0 in
    let m : ℕ = code 0 (suc n) 1 in
    let ok : suc n < 2 ^ 32 = omega arith in
    let ep : edge_in p ≡ suc n = code-edge 0 (suc n) 0 ok (omega arith) in
    let em : edge_in m ≡ suc n = code-edge 0 (suc n) 1 ok (omega arith) in
    pairs_join (λ x y. x ≢ y) (row_darts 0 n) (p ∷ m ∷ []) (rows_apart n (omega arith)) ((signs_apart (suc n), tt), (tt, tt))
    (every_stands (λ x. AllByRecursion (λ y. x ≢ y) (p ∷ m ∷ [])) (row_darts 0 n) (λ x s. (
    let r : AmongRow 0 n x = among 0 n x (omega arith) s in
    (edge_apart x p n r.to_all ep, (edge_apart x m n r.to_all em, tt))))))
  where
    every_stands : (P : ℕ → Type 0) (xs : List ℕ) → ((x : ℕ) → stands_in x xs ≡ true → P x) → AllByRecursion P xs
    every_stands P [] h = tt
    every_stands P (x ∷ xs) h =
        (h x (or_left (eqb x x) (stands_in x xs) (eq-eqb x x refl)), every_stands P xs (λ y s. h y (or_right (eqb y x) (stands_in y xs) s)))

pub every_filter : {X : Type 0} → (P Q : X → Type 0) (p : X → Bool) (xs : List X) → AllByRecursion Q xs → ((x : X) → p x ≡ true → Q x → P x)
    → AllByRecursion P (filter p xs)
every_filter P Q p [] a h = tt
every_filter P Q p (x ∷ xs) a h = elim (cases_Bool (p x)) [
  | inl t ↦ rw t (h x t a.0, every_filter P Q p xs a.1 h)
  | inr f ↦ rw f (every_filter P Q p xs a.1 h)
]

pub pairs_filter : {X : Type 0} → (R S : X → X → Type 0) (p : X → Bool) (xs : List X) → Pairs S xs → ((x y : X) → p x ≡ true → p y ≡ true → S x y → R x y)
    → Pairs R (filter p xs)
pairs_filter R S p [] a h = tt
pairs_filter R S p (x ∷ xs) a h = elim (cases_Bool (p x)) [
  | inl t ↦ rw t (every_filter (R x) (S x) p xs a.0 (λ y s q. h x y t s q), pairs_filter R S p xs a.1 h)
  | inr f ↦ rw f (pairs_filter R S p xs a.1 h)
]

pub outer_of : (c : Primitives) (plan : ℕ → ℕ) (t d : ℕ) → (is_present c plan t d && not (is_within c plan t d)) ≡ true → Outer c plan t d
outer_of c plan t d h =
    (let p = and_parts (is_present c plan t d) (not (is_within c plan t d)) h in record { present = p.0; away = not-true (is_within c plan t d) p.1 })

pub outer_two : (c : Primitives) (plan : ℕ → ℕ) → length c.edges < 2 ^ 24 → (t : ℕ) → Pairs (OuterTwo c plan t) (outer_darts c plan t)
outer_two c plan few t =
    pairs_filter (OuterTwo c plan t) (λ x y. x ≢ y) (λ d. is_present c plan t d && not (is_within c plan t d)) (untiled_links c).darts
    (rows_apart (length c.edges) few) (λ x y px py ne. record { one = outer_of c plan t x px; two = outer_of c plan t y py; apart = ne })

pub outer_apart : MapLaws → RemovalLeavesAMap → DartLiesOnCycle → (c : Primitives) (plan : ℕ → ℕ) (tiles : ℕ) → IsTileable c plan tiles → (t : ℕ)
    → Pairs (Apart c plan t) (outer_rings c plan t)
outer_apart law removal lies c plan tiles w t =
    pairs_passing (Apart c plan t) (OuterTwo c plan t) (λ d. record { face = 1; edge = local_edge c plan t (edge_in d) })
    (is_least (tile_map c plan t).next (length (outer_darts c plan t))) (outer_darts c plan t) (outer_two c plan w.few t)
    (λ x y px py o z d e pz sd se zd ze. (
    let f : ℕ → ℕ = (tile_map c plan t).next in
    let zx : LeadsTo f z x = subst (LeadsTo f z) (outer_start c plan w.well_formed t x d o.one sd) zd in
    let zy : LeadsTo f z y = subst (LeadsTo f z) (outer_start c plan w.well_formed t y e o.two se) ze in
    let xy : LeadsTo f x y = leads_join f x z y (turns_back law removal lies c plan tiles w t z x pz zx) zy in
    let yx : LeadsTo f y x = leads_join f y z x (turns_back law removal lies c plan tiles w t z y pz zy) zx in
    o.apart (least_one f (Outer c plan t) (outer_darts c plan t) (outer_next law c plan tiles w t) (outer_stands c plan t) x y o.one o.two xy yx px py)))

pub every_zip : {X : Type 0} → (P Q S : X → Type 0) → ((x : X) → P x → Q x → S x) → (xs : List X) → AllByRecursion P xs → AllByRecursion Q xs
    → AllByRecursion S xs
every_zip P Q S h [] a b = tt
every_zip P Q S h (x ∷ xs) a b = (h x a.0 b.0, every_zip P Q S h xs a.1 b.1)

pub every_always : {X : Type 0} → (P : X → Type 0) → ((x : X) → P x) → (xs : List X) → AllByRecursion P xs
every_always P h [] = tt
every_always P h (x ∷ xs) = (h x, every_always P h xs)

pub cross_flat : (R : Ring → Ring → Type 0) (S : ℕ → Type 0) (F : ℕ → List Ring) (xs : List Ring) (gs : List ℕ) → AllByRecursion S gs
    → ((g : ℕ) → S g → AllByRecursion (λ x. AllByRecursion (R x) (F g)) xs) → AllByRecursion (λ x. AllByRecursion (R x) (flat_map F gs)) xs
cross_flat R S F xs [] a h = every_always (λ x. AllByRecursion (R x) (flat_map F [])) (λ x. tt) xs
cross_flat R S F xs (g ∷ gs) a h =
    every_zip (λ x. AllByRecursion (R x) (F g)) (λ x. AllByRecursion (R x) (flat_map F gs)) (λ x. AllByRecursion (R x) (flat_map F (g ∷ gs)))
    (λ x p q. all_join (R x) (F g) (flat_map F gs) p q) xs (h g a.0) (cross_flat R S F xs gs a.1 h)

pub pairs_flat : (R : Ring → Ring → Type 0) (S : ℕ → ℕ → Type 0) (P : ℕ → Type 0) (F : ℕ → List Ring) (fs : List ℕ) → Pairs S fs → AllByRecursion P fs
    → ((f : ℕ) → P f → Pairs R (F f)) → ((f g : ℕ) → S f g → AllByRecursion (λ x. AllByRecursion (R x) (F g)) (F f)) → Pairs R (flat_map F fs)
pairs_flat R S P F [] a b h k = tt
pairs_flat R S P F (f ∷ fs) a b h k =
    pairs_join R (F f) (flat_map F fs) (h f b.0) (pairs_flat R S P F fs a.1 b.1 h k) (cross_flat R (S f) F (F f) fs a.0 (λ g s. k f g s))

pub ring_faces : {X : Type 0} → (P : ℕ → Type 0) (n : ℕ) → P n → (g : X → ℕ) (xs : List X)
    → AllByRecursion (λ (r : Ring). P r.face) (map (λ x. record { face = n; edge = g x }) xs)
ring_faces P n p g [] = tt
ring_faces P n p g (x ∷ xs) = (p, ring_faces P n p g xs)

pub up_apart : (n : ℕ) → Pairs (λ x y. x ≢ y) (up_to n)
up_apart zero = tt
up_apart (suc n) =
    subst (Pairs (λ x y. x ≢ y)) (sym (up-last n)) (pairs_join (λ x y. x ≢ y) (up_to n) (suc n ∷ []) (up_apart n) (tt, tt)
    (every_map (λ x. x ≤ n) (λ x. AllByRecursion (λ y. x ≢ y) (suc n ∷ [])) (λ x le. ((λ e. (omega arith)), tt)) (up_to n) (up_below n)))
  where
    up_below : (n : ℕ) → AllByRecursion (λ x. x ≤ n) (up_to n)
    up_below zero = tt
    up_below (suc n) =
        subst (AllByRecursion (λ x. x ≤ suc n)) (sym (up-last n)) (all_join (λ x. x ≤ suc n) (up_to n) (suc n ∷ [])
        (every_map (λ x. x ≤ n) (λ x. x ≤ suc n) (λ x le. (omega arith)) (up_to n) (up_below n)) (omega arith, tt))

-- two of the faces of a tile
pub record HeldTwo (c : Primitives) (plan : ℕ → ℕ) (t f g : ℕ) : Type 0 where
  pub one : HeldFace c plan t f
  pub two : HeldFace c plan t g
  pub apart : f ≢ g

pub held_two : (c : Primitives) (plan : ℕ → ℕ) (t : ℕ) → Pairs (HeldTwo c plan t) (held_faces c plan t)
held_two c plan t =
    pairs_filter (HeldTwo c plan t) (λ x y. x ≢ y) (holds_face c plan t) (up_to (length c.faces)) (up_apart (length c.faces))
    (λ f g p q ne. record { one = held_is c plan t f p; two = held_is c plan t g q; apart = ne })

pub held_all : (c : Primitives) (plan : ℕ → ℕ) (t : ℕ) → AllByRecursion (HeldFace c plan t) (held_faces c plan t)
held_all c plan t =
    every_filter (HeldFace c plan t) (λ f. Unit {0}) (holds_face c plan t) (up_to (length c.faces))
    (every_always (λ f. Unit {0}) (λ f. tt) (up_to (length c.faces))) (λ f p u. held_is c plan t f p)

pub two_faces : MapLaws → (c : Primitives) (plan : ℕ → ℕ) (tiles : ℕ) → IsTileable c plan tiles → (t f g : ℕ) → HeldTwo c plan t f g
    → AllByRecursion (λ x. AllByRecursion (Apart c plan t x) (face_rings c plan t g)) (face_rings c plan t f)
two_faces law c plan tiles w t f g h =
    cross_all (Apart c plan t) (λ (x : Ring). x.face ≡ local_face c plan t f) (λ (y : Ring). y.face ≡ local_face c plan t g)
    (λ x y ex ey. apart_faces law c plan tiles w t x y (λ q.
    h.apart (rank_apart (holds_face c plan t) f g h.one.holds h.two.holds (same_plus _ _ 2 (sym ex ∙ q ∙ ey))))) (face_rings c plan t f) (face_rings c plan t g)
    (ring_faces (λ n. n ≡ local_face c plan t f) (local_face c plan t f) refl (λ r. local_edge c plan t (id_of r.start_edge))
    (filter (λ r. eqb (id_of r.face) f) c.rings)) (ring_faces (λ n. n ≡ local_face c plan t g) (local_face c plan t g) refl
    (λ r. local_edge c plan t (id_of r.start_edge)) (filter (λ r. eqb (id_of r.face) g) c.rings))

pub tile_apart : MapLaws → RemovalLeavesAMap → DartLiesOnCycle → (c : Primitives) (plan : ℕ → ℕ) (tiles : ℕ) → IsTileable c plan tiles → (t : ℕ)
    → Pairs (Apart c plan t) (tiled_rings c plan t)
tile_apart law removal lies c plan tiles w t =
    pairs_join (Apart c plan t) (outer_rings c plan t) (flat_map (face_rings c plan t) (held_faces c plan t)) (outer_apart law removal lies c plan tiles w t)
    (pairs_flat (Apart c plan t) (HeldTwo c plan t) (HeldFace c plan t) (face_rings c plan t) (held_faces c plan t) (held_two c plan t) (held_all c plan t)
    (inner_apart law c plan tiles w t) (two_faces law c plan tiles w t))
    (cross_all (Apart c plan t) (λ (x : Ring). x.face ≡ 1) (λ (y : Ring). 2 ≤ y.face) (λ x y ex ey. apart_faces law c plan tiles w t x y (λ q. (omega arith)))
    (outer_rings c plan t) (flat_map (face_rings c plan t) (held_faces c plan t))
    (ring_faces (λ n. n ≡ 1) 1 refl (λ d. local_edge c plan t (edge_in d)) (leasts (tile_map c plan t).next (outer_darts c plan t)))
    (all_flat (λ (y : Ring). 2 ≤ y.face) (face_rings c plan t) (held_faces c plan t)
    (λ f s. ring_faces (λ n. 2 ≤ n) (local_face c plan t f) (omega arith) (λ r. local_edge c plan t (id_of r.start_edge))
    (filter (λ r. eqb (id_of r.face) f) c.rings))))

pub pairs_item : {X : Type 0} → (R : X → X → Type 0) (xs : List X) (i j : ℕ) (d : X) → Pairs R xs → 1 ≤ i → i < j → j ≤ length xs → R (kth xs i d) (kth xs j d)
pairs_item R xs zero j d p a b e = absurd (omega arith)
pairs_item R xs (suc i) zero d p a b e = absurd (omega arith)
pairs_item R xs (suc i) (suc j) d p a b e = pairs_get R xs i j d p (omega (arith, b)) (omega (arith, e))

-- the steps of copies in a tile are those of their darts
pub record Behind (c : Primitives) (plan : ℕ → ℕ) (t k z y : ℕ) : Type 0 where
  pub dart : ℕ
  pub present : is_present c plan t dart ≡ true
  pub steps : Steps (tile_map c plan t).next k z dart
  pub copy : copy_in c plan t dart ≡ y

pub steps_behind : MapLaws → (c : Primitives) (plan : ℕ → ℕ) (tiles : ℕ) → IsTileable c plan tiles → (t k z y : ℕ) → is_present c plan t z ≡ true
    → Steps (local_map (library_links c plan tiles)).next k (copy_in c plan t z) y → Behind c plan t k z y
steps_behind law c plan tiles w t zero z y h q = record { dart = z; present = h; steps = refl; copy = q }
steps_behind law c plan tiles w t (suc k) z y h q = (
    let r : Behind c plan t k ((tile_map c plan t).next z) y =
    steps_behind law c plan tiles w t k ((tile_map c plan t).next z) y (tile_arrives law c plan tiles w t z h).here
    (subst (λ v. Steps (local_map (library_links c plan tiles)).next k v y) (next_at law c plan tiles w t z h) q) in
    record { dart = r.dart; present = r.present; steps = r.steps; copy = r.copy })

pub steps_ahead : MapLaws → (c : Primitives) (plan : ℕ → ℕ) (tiles : ℕ) → IsTileable c plan tiles → (t k z y : ℕ) → is_present c plan t z ≡ true
    → Steps (tile_map c plan t).next k z y → Steps (local_map (library_links c plan tiles)).next k (copy_in c plan t z) (copy_in c plan t y)
steps_ahead law c plan tiles w t zero z y h q = ap (copy_in c plan t) q
steps_ahead law c plan tiles w t (suc k) z y h q =
    subst (λ v. Steps (local_map (library_links c plan tiles)).next k v (copy_in c plan t y)) (sym (next_at law c plan tiles w t z h))
    (steps_ahead law c plan tiles w t k ((tile_map c plan t).next z) y (tile_arrives law c plan tiles w t z h).here q)

-- what goes round, by darts
pub record Round (c : Primitives) (plan : ℕ → ℕ) (t : ℕ) (r : Ring) (z : ℕ) : Type 0 where
  pub dart : ℕ
  pub starts : StartOf c plan t r dart
  pub on : LeadsTo (tile_map c plan t).next z dart

pub round_behind : MapLaws → (c : Primitives) (plan : ℕ → ℕ) (tiles : ℕ) → IsTileable c plan tiles → (t r z : ℕ) → is_made c plan tiles t ≡ true
    → is_present c plan t z ≡ true → GoesRound (tiled_library c plan tiles) t r (copy_in c plan t z) → Round c plan t (kth (tiled_rings c plan t) r no_one) z
round_behind law c plan tiles w t r z m h g = (
    let L : Library = tiled_library c plan tiles in
    let C : DartLinks = library_links c plan tiles in
    let b : Behind c plan t g.on.0 z g.start = steps_behind law c plan tiles w t g.on.0 z g.start h g.on.1 in
    let a : CopyAt c plan tiles t b.dart = copy_at c plan tiles w t b.dart b.present in
    let q : HasLinks c plan tiles t b.dart = copies_have_links c plan tiles w t b.dart b.present in
    let row : kth (tile_rings L t) r absent_ring ≡ numbered_ring r (kth (tiled_rings c plan t) r no_one) =
    ring_at c plan tiles t r m (subst (λ n. IsRowOf n r) (rings_many c plan tiles t m) g.starts.row) in
    record {
      dart = b.dart;
      starts = record {
        present = b.present;
        edge = sym a.edge ∙ ap edge_in b.copy ∙ g.starts.edge ∙ ap (λ x. id_of x.start_edge) row;
        face = sym (ap (λ k. k.id) q.face) ∙ ap (λ x. (C.face x).id) b.copy ∙ g.starts.face ∙ ap (λ x. id_of x.face) row;
      };
      on = (g.on.0, b.steps);
    })

pub rings_once : MapLaws → RemovalLeavesAMap → DartLiesOnCycle → OfTiled RingsOnce
rings_once law removal lies c plan tiles w t h r s x hx gr gs = (
    let L : Library = tiled_library c plan tiles in
    let m : is_made c plan tiles t ≡ true = made_from c plan tiles t h in
    let k : CopyHere c plan t x = copy_here c plan tiles w t x hx in
    let z : ℕ = k.dart in
    let a : Round c plan t (kth (tiled_rings c plan t) r no_one) z =
    round_behind law c plan tiles w t r z m k.present (subst (GoesRound L t r) (sym k.copy) gr) in
    let b : Round c plan t (kth (tiled_rings c plan t) s no_one) z =
    round_behind law c plan tiles w t s z m k.present (subst (GoesRound L t s) (sym k.copy) gs) in
    let many : ring_count L t ≡ length (tiled_rings c plan t) = rings_many c plan tiles t m in
    let r1 = gr.starts.row.0 in
    let r2 = gr.starts.row.1 in
    let s1 = gs.starts.row.0 in
    let s2 = gs.starts.row.1 in
    let p : Pairs (Apart c plan t) (tiled_rings c plan t) = tile_apart law removal lies c plan tiles w t in
    elim (cases_order r s) [
      | inl e ↦ e
      | inr rest ↦ (elim rest [
        | inl lt ↦
            absurd (pairs_item (Apart c plan t) (tiled_rings c plan t) r s no_one p r1 lt (omega arith) z a.dart b.dart k.present a.starts b.starts a.on b.on)
        | inr gt ↦
            absurd (pairs_item (Apart c plan t) (tiled_rings c plan t) s r no_one p s1 gt (omega arith) z b.dart a.dart k.present b.starts a.starts b.on a.on)
      ])
    ])
