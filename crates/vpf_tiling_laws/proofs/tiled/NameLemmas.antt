-- The home copy of each copy of a dart is the dart's name.
use Rattle.std.proofs.Common.{◌≡◌, ℕ, zero, suc, ◌+◌, ◌-◌, ◌^◌, ◌<◌, ◌≤◌, ◌⊎◌, Bool, true, false, cond, eqb, refl, sym, ap, ◌∙◌, subst, inl, inr, arith, Some, None, List, [], ◌∷◌, ◌++◌, length, get_or}
use Rattle.std.specs.Prelude.{filter, find, nat_eq}
use Rattle.std.specs.Option.{unwrap_or, option_eq}
use Rattle.std.proofs.lemmas.Bool.{cases_Bool, cases_eq, cases_lt, and_parts, and_from, eqb-true, eq-eqb, ne_eqb}
use Rattle.vpf_darts.specs.Darts.{code, tile_in, edge_in, sign_in, flip}
use Rattle.vpf_tiling_laws.proofs.tiled.Facts.{MapLaws}
use Rattle.vpf_prims.specs.Lists.{kth}
use Rattle.vpf_tiling.specs.Ranks.{rank, up_to}
use Rattle.vpf_prims.specs.Primitives.{Primitives, Library, edges_in, edge_count}
use Rattle.vpf_wing.specs.Links.{DartLinks}
use Rattle.vpf_follow.specs.Following.{is_home, follow, follows_to, first_home, home_copy}
use Rattle.vpf_tiling.specs.Presence.{untiled_links, next_of, home, is_present, has_edge, present_edges, local_edge, copy_in, dart_name}
use Rattle.vpf_tiling.specs.Tiles.{tiled_edge, tiled_primitives, tiled_library, is_made}
use Rattle.vpf_tiling_laws.specs.Tiled.Names.{dart_behind}
use Rattle.vpf_tiling.specs.Plans.{IsTileable}
use Rattle.vpf_tiling_laws.specs.Inner.Tiled.Laws.{HomeIsName}
use Rattle.vpf_wing.specs.Inner.DartLaws.{IsThere, has-there, darts-stand, found-some, found-passes, code-parts, code-edge, code-sign, sign-cases, same_some, flip-flip}
use Rattle.std.proofs.lemmas.List.Elements.{filter-append}
use Rattle.std.proofs.lemmas.List.{get_or_append_left, get_or_push}
use Rattle.vpf_tiling_laws.proofs.tiled.CopyLemmas.{CopyAt, copy_at, edges_are}
use Rattle.vpf_tiling_laws.proofs.tiled.SideLemmas.{rank_apart, present_home, same_plus}
use Rattle.vpf_tiling_laws.proofs.tiled.FollowLemmas.{home_at, following_is_next, library_links}
use Rattle.vpf_follow.specs.Inner.TileLaws.{options-same, same-options}
use Rattle.vpf_follow.specs.Inner.FollowLaws.{home_self, home_has}
use Rattle.vpf_tiling.specs.Inner.PresenceLaws.{dart_is, edge_present, no_edge_zero, other-code, present_flip, present_has, sign-below, source_next}
use Rattle.vpf_tiling.specs.Inner.RankLaws.{count_is, filter_one, numbered_many, rank-step, up-last, weight}

-- the number at a place of those that pass: it passes, and its rank is the place
pub record AtPlace (p : ℕ → Bool) (n k x : ℕ) : Type 0 where
  pub passes : p x ≡ true
  pub from_one : 1 ≤ x
  pub to_last : x ≤ n
  pub ranks : rank p x ≡ k

pub at_place : (p : ℕ → Bool) → p 0 ≡ false → (n k : ℕ) → k < length (filter p (up_to n)) → AtPlace p n k (get_or (filter p (up_to n)) k 0)
at_place p z zero k lt = absurd (omega arith)
at_place p z (suc n) k lt = (
    let a : List ℕ = filter p (up_to n) in
    let split : filter p (up_to (suc n)) ≡ a ++ filter p (suc n ∷ []) = ap (filter p) (up-last n) ∙ filter-append p (up_to n) (suc n ∷ []) in
    let many : length a ≡ rank p (suc n) = count_is p z n in
    let long : length (filter p (up_to (suc n))) ≡ rank p (suc (suc n)) = count_is p z (suc n) in
    elim (cases_lt k (length a)) [
      | inl less ↦ (
          let same : get_or (filter p (up_to (suc n))) k 0 ≡ get_or a k 0 =
          ap (λ w. get_or w k 0) split ∙ get_or_append_left a (filter p (suc n ∷ [])) 0 k less in
          let r : AtPlace p n k (get_or a k 0) = at_place p z n k less in
          let l = r.to_last in
          subst (AtPlace p (suc n) k) (sym same) (record { passes = r.passes; from_one = r.from_one; to_last = omega arith; ranks = r.ranks }))
      | inr ge ↦ (elim (cases_Bool (p (suc n))) [
        | inl t ↦ (
            let s : rank p (suc (suc n)) ≡ 1 + rank p (suc n) = rank-step p (suc n) 1 (ap weight t) in
            let e : k ≡ length a = omega arith in
            let same : get_or (filter p (up_to (suc n))) k 0 ≡ suc n =
            ap (λ w. get_or w k 0) (split ∙ ap (λ w. a ++ w) (filter_one p (suc n) t)) ∙ get_or_push a (suc n) 0 k (sym e) in
            subst (AtPlace p (suc n) k) (sym same) (record { passes = t; from_one = omega arith; to_last = omega arith; ranks = sym many ∙ sym e }))
        | inr u ↦ (let s : rank p (suc (suc n)) ≡ 0 + rank p (suc n) = rank-step p (suc n) 0 (ap weight u) in absurd (omega arith))
      ])
    ])

-- both darts of a present edge are present
pub present_side : (c : Primitives) (plan : ℕ → ℕ) (t e s : ℕ) → (s ≡ 0) ⊎ (s ≡ 1) → has_edge c plan t e ≡ true → is_present c plan t (code 0 e s) ≡ true
present_side c plan t e s i h = elim i [
  | inl z ↦ ap (λ v. is_present c plan t (code 0 e v)) z ∙ h
  | inr o ↦ (
      let f : flip (code 0 e 0) ≡ code 0 e 1 = ap flip (sym (other-code e)) ∙ flip-flip (code 0 e 1) in
      ap (λ v. is_present c plan t (code 0 e v)) o ∙ ap (is_present c plan t) (sym f) ∙ present_flip c plan t (code 0 e 0) h)
]

-- a number of the library is a copy of the dart behind it
pub record IsCopyOf (c : Primitives) (plan : ℕ → ℕ) (x : ℕ) : Type 0 where
  pub present : is_present c plan (tile_in x) (dart_behind c plan x) ≡ true
  pub copy : copy_in c plan (tile_in x) (dart_behind c plan x) ≡ x

pub copy_by_number : (c : Primitives) (plan : ℕ → ℕ) (x : ℕ) → length c.edges < 2 ^ 24 → 1 ≤ edge_in x → edge_in x ≤ length (present_edges c plan (tile_in x))
    → IsCopyOf c plan x
copy_by_number c plan x few one last = (
    let t : ℕ = tile_in x in
    let p : ℕ → Bool = has_edge c plan t in
    let k : ℕ = edge_in x - 1 in
    let e : ℕ = get_or (present_edges c plan t) k 0 in
    let r : AtPlace p (length c.edges) k e = at_place p (no_edge_zero c plan t) (length c.edges) k (omega arith) in
    let rl = r.to_last in
    let s : edge_in x ≡ suc k = omega arith in
    let is : kth (present_edges c plan t) (edge_in x) 0 ≡ e = ap (λ j. kth (present_edges c plan t) j 0) s in
    let d : ℕ = dart_behind c plan x in
    let same : d ≡ code 0 e (sign_in x) = ap (λ j. code 0 j (sign_in x)) is in
    let ok : e < 2 ^ 32 = omega arith in
    let ed : edge_in d ≡ e = ap edge_in same ∙ code-edge 0 e (sign_in x) ok (sign-below x) in
    let sd : sign_in d ≡ sign_in x = ap sign_in same ∙ code-sign 0 e (sign_in x) (sign-below x) in
    let near : local_edge c plan t (edge_in d) ≡ edge_in x =
    ap (λ j. rank p j + 1) ed ∙ ap (λ j. j + 1) r.ranks ∙ (let w : k + 1 ≡ edge_in x = omega arith in w) in
    record {
      present = ap (is_present c plan t) same ∙ present_side c plan t e (sign_in x) (sign-cases x) r.passes;
      copy = ap (λ j. code t j (sign_in d)) near ∙ ap (code t (edge_in x)) sd ∙ code-parts x;
    })

-- the dart and its name: two darts of one name are one
pub name_apart : (c : Primitives) (plan : ℕ → ℕ) (tiles : ℕ) → IsTileable c plan tiles → (d e : ℕ) → (untiled_links c).has d ≡ true
    → (untiled_links c).has e ≡ true → dart_name c plan d ≡ dart_name c plan e → d ≡ e
name_apart c plan tiles w d e hd he same = (
    let pd : is_present c plan (home c plan d) d ≡ true = present_home c plan tiles w d hd in
    let pe : is_present c plan (home c plan e) e ≡ true = present_home c plan tiles w e he in
    let a : CopyAt c plan tiles (home c plan d) d = copy_at c plan tiles w (home c plan d) d pd in
    let b : CopyAt c plan tiles (home c plan e) e = copy_at c plan tiles w (home c plan e) e pe in
    let t : home c plan d ≡ home c plan e = sym a.tile ∙ ap tile_in same ∙ b.tile in
    let k : local_edge c plan (home c plan d) (edge_in d) ≡ local_edge c plan (home c plan e) (edge_in e) = sym a.edge ∙ ap edge_in same ∙ b.edge in
    let k' : local_edge c plan (home c plan d) (edge_in d) ≡ local_edge c plan (home c plan d) (edge_in e) =
    k ∙ ap (λ s. local_edge c plan s (edge_in e)) (sym t) in
    let pe' : is_present c plan (home c plan d) e ≡ true = subst (λ s. is_present c plan s e ≡ true) (sym t) pe in
    let edges : edge_in d ≡ edge_in e =
    rank_apart (has_edge c plan (home c plan d)) (edge_in d) (edge_in e) (edge_present c plan (home c plan d) d pd)
    (edge_present c plan (home c plan d) e pe') (same_plus _ _ 1 k') in
    let signs : sign_in d ≡ sign_in e = sym a.sign ∙ ap sign_in same ∙ b.sign in
    sym (dart_is c d hd) ∙ ap (λ j. code 0 j (sign_in d)) edges ∙ ap (code 0 (edge_in e)) signs ∙ dart_is c e he)

-- a number of the library is a copy
pub library_copy : (c : Primitives) (plan : ℕ → ℕ) (tiles : ℕ) → IsTileable c plan tiles → (x : ℕ) → (library_links c plan tiles).has x ≡ true
    → IsCopyOf c plan x
library_copy c plan tiles w x h = (
    let L : Library = tiled_library c plan tiles in
    let i : IsThere L x = has-there L x h in
    let a = i.from_one in
    let b = i.to_count in
    elim (cases_Bool (is_made c plan tiles (tile_in x))) [
      | inl m ↦ (
          let many : edge_count L (tile_in x) ≡ length (present_edges c plan (tile_in x)) =
          ap length (edges_are c plan tiles (tile_in x) m) ∙ numbered_many (tiled_edge c plan (tile_in x)) 1 (present_edges c plan (tile_in x)) in
          copy_by_number c plan x w.few a (omega arith))
      | inr g ↦
          (let z : edge_count L (tile_in x) ≡ 0 = ap (λ v. length (edges_in (cond v (Some (tiled_primitives c plan (tile_in x))) None))) g in
          absurd (omega arith))
    ])

away_copy : (C : DartLinks) (x v : ℕ) → is_home C x ≡ false → find (follows_to C (follow C x)) C.darts ≡ Some v → home_copy C x ≡ v
unfolding home_copy first_home
away_copy C x v away f = rw away (ap (λ o. unwrap_or o x) f)

-- a home dart that is followed by the name of a dart's next is the dart's name
pub named_by_next : MapLaws → (c : Primitives) (plan : ℕ → ℕ) (tiles : ℕ) → IsTileable c plan tiles → (d v : ℕ) → (untiled_links c).has d ≡ true
    → is_home (library_links c plan tiles) v ≡ true → follow (library_links c plan tiles) v ≡ Some (dart_name c plan (next_of c d)) → v ≡ dart_name c plan d
named_by_next law c plan tiles w d v hd home_v follows =
    let C : DartLinks = library_links c plan tiles in
    let k : IsCopyOf c plan v = library_copy c plan tiles w v (home_has C v home_v) in
    let s : ℕ = tile_in v in
    let b : ℕ = dart_behind c plan v in
    let hb : (untiled_links c).has b ≡ true = present_has c plan s b k.present in
    let fb : follow C v ≡ Some (dart_name c plan (next_of c b)) =
    subst (λ z. follow C z ≡ Some (dart_name c plan (next_of c b))) k.copy (following_is_next law c plan tiles w s b k.present) in
    let names : dart_name c plan (next_of c b) ≡ dart_name c plan (next_of c d) = same_some _ _ (sym fb ∙ follows) in
    let nexts : next_of c b ≡ next_of c d =
    name_apart c plan tiles w (next_of c b) (next_of c d) (source_next c w.well_formed b hb).has (source_next c w.well_formed d hd).has names in
    let one : b ≡ d = (law.has_map c w.few w.well_formed).next_apart b d nexts in
    let at : s ≡ home c plan b =
    eqb-true s (home c plan b) (sym (subst (λ z. is_home C z ≡ eqb s (home c plan b)) k.copy (home_at c plan tiles w s b k.present)) ∙ home_v) in
    sym k.copy ∙ ap (λ z. copy_in c plan z b) at ∙ ap (dart_name c plan) one

pub home_is_name : MapLaws → HomeIsName
home_is_name law c plan tiles w t d h =
    let C : DartLinks = library_links c plan tiles in
    let x : ℕ = copy_in c plan t d in
    let hd : (untiled_links c).has d ≡ true = present_has c plan t d h in
    let fx : follow C x ≡ Some (dart_name c plan (next_of c d)) = following_is_next law c plan tiles w t d h in
    elim (cases_eq t (home c plan d)) [
      | inl e ↦ home_self C x (home_at c plan tiles w t d h ∙ eq-eqb t (home c plan d) e) ∙ ap (λ s. copy_in c plan s d) e
      | inr ne ↦ (
          let away : is_home C x ≡ false = home_at c plan tiles w t d h ∙ ne_eqb t (home c plan d) ne in
          let i : ℕ = home c plan d in
          let n : ℕ = dart_name c plan d in
          let pn : is_present c plan i d ≡ true = present_home c plan tiles w d hd in
          let hn : is_home C n ≡ true = home_at c plan tiles w i d pn ∙ eq-eqb i i refl in
          let fn : follow C n ≡ follow C x = following_is_next law c plan tiles w i d pn ∙ sym fx in
          let p : ℕ → Bool = follows_to C (follow C x) in
          let passes : p n ≡ true = and_from (is_home C n) (option_eq nat_eq (follow C n) (follow C x)) hn (same-options (follow C n) (follow C x) fn) in
          let f : (v : ℕ) × (find p C.darts ≡ Some v) =
          found-some p n passes C.darts (darts-stand (tiled_library c plan tiles) n (home_has C n hn)) in
          let q = and_parts (is_home C f.0) (option_eq nat_eq (follow C f.0) (follow C x)) (found-passes p C.darts f.0 f.1).0 in
          away_copy C x f.0 away f.1 ∙ named_by_next law c plan tiles w d f.0 hd q.0 (options-same (follow C f.0) (follow C x) q.1 ∙ fx))
    ]
