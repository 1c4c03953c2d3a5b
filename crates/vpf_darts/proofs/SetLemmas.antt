-- What is left depends on which edges are removed alone, and a renaming goes through a removal.
use Rattle.std.proofs.Common.{[], ◌≡◌, ℕ, zero, suc, ◌<◌, Bool, true, false, not, ◌&&◌, List, ◌∷◌, map, refl, sym, ap, ◌∙◌, inl, inr}
use Rattle.std.specs.List.{AllByRecursion, concat}
use Rattle.std.proofs.lemmas.Bool.{cases_Bool}
use Rattle.vpf_base.proofs.Booleans.{clash}
use Rattle.vpf_darts.specs.Cycles.{count_of, BeginsWithLeast, FirstsRise, first_of}
use Rattle.vpf_darts.specs.Maps.{DartMap, IsMap, turn, is_of_any, without}
use Rattle.vpf_darts.specs.Inner.Laws.{IsRenaming, RenamingGivesAMap, RenamingKeepsRemoval, RemovalIsOfASet, RisingRenamingKeepsListing, Rises, ComesRoundTo}
use Rattle.vpf_darts.proofs.WithoutLemmas.{comes_from, passes_over, removed_stays, flip_without_all}
use Rattle.vpf_darts.specs.Inner.WithoutLaws.{live_turn, live_without_all}
use Rattle.vpf_darts.proofs.RenameLemmas.{AllLive, takes_cycles, lists_live, live_from_count}

-- a walk over two maps that turn alike comes to one dart
pub one_end : (m : DartMap) (p q : ℕ → Bool) → ((x : ℕ) → p x ≡ q x) → (j k x y z : ℕ) → ComesRoundTo m p j x y → ComesRoundTo m q k x z → y ≡ z
one_end m p q same zero zero x y z a b = sym a.1 ∙ b.1
one_end m p q same zero (suc k) x y z a b = absurd (clash (q x) b.0 (sym (same x) ∙ a.0))
one_end m p q same (suc j) zero x y z a b = absurd (clash (p x) a.0 (same x ∙ b.0))
one_end m p q same (suc j) (suc k) x y z a b = one_end m p q same j k (turn m x) y z a.1 b.1

pub without-same_set : RemovalIsOfASet
without-same_set m es fs h he hf same d = elim (cases_Bool (is_of_any m.flip es d)) [
  | inl t ↦ removed_stays m es d h he t ∙ sym (removed_stays m fs d h hf (sym (same d) ∙ t))
  | inr f ↦ (
      let a = passes_over m es d h he f in
      let b = passes_over m fs d h hf (sym (same d) ∙ f) in
      one_end m (is_of_any m.flip es) (is_of_any m.flip fs) same a.0 b.0 (m.next d) _ _ a.2 b.2)
]

-- a walk is renamed with the map
pub renamed_walk : (m n : DartMap) (f back : ℕ → ℕ) → IsMap m → IsRenaming m n f back → (p q : ℕ → Bool) → ((x : ℕ) → m.live x ≡ true → q (f x) ≡ p x) → (k x y : ℕ) → m.live x ≡ true → ComesRoundTo m p k x y → ComesRoundTo n q k (f x) (f y)
renamed_walk m n f back h r p q same zero x y l c = (same x l ∙ c.0, ap f c.1)
renamed_walk m n f back h r p q same (suc k) x y l c =
    let hx : m.has x ≡ true = h.live_has x l in
    let lf : m.live (m.flip x) ≡ true = h.flip_live x hx ∙ l in
    let is : f (turn m x) ≡ turn n (f x) = sym (r.next (m.flip x) lf) ∙ ap n.next (sym (r.flip x l)) in
    let lt : m.live (turn m x) ≡ true = live_turn m h x hx ∙ l in
    let rest : ComesRoundTo n q k (f (turn m x)) (f y) = renamed_walk m n f back h r p q same k (turn m x) y lt c.1 in
    let rest' : ComesRoundTo n q k (turn n (f x)) (f y) = rw is at rest in
    (same x l ∙ c.0, rest')

pub and_left : (a b : Bool) → (a && not b) ≡ true → (a ≡ true) × (b ≡ false)
and_left true true h = absurd (clash false h refl)
and_left true false h = (refl, refl)
and_left false b h = absurd (clash false h refl)

pub renaming_without : RenamingKeepsRemoval
renaming_without m n f back es fs hm hn r he hf same =
    let kept : (d : ℕ) → (without m es).live d ≡ true → (m.live d ≡ true) × (is_of_any m.flip es d ≡ false) = λ d l. and_left (m.live d) (is_of_any m.flip es d) (sym (live_without_all m es d) ∙ l) in
    let kept' : (d : ℕ) → (without n fs).live d ≡ true → (n.live d ≡ true) × (is_of_any n.flip fs d ≡ false) = λ d l. and_left (n.live d) (is_of_any n.flip fs d) (sym (live_without_all n fs d) ∙ l) in
    record {
      live = λ d l. (let k : (m.live d ≡ true) × (is_of_any m.flip es d ≡ false) = kept d l in
          rw (live_without_all n fs (f d), r.live d k.0, same d k.0, k.1) refl);
      back_live = λ d l. (let k : (n.live d ≡ true) × (is_of_any n.flip fs d ≡ false) = kept' d l in
          let lb : m.live (back d) ≡ true = r.back_live d k.0 in
          let s : is_of_any m.flip es (back d) ≡ false = sym (same (back d) lb) ∙ ap (is_of_any n.flip fs) (r.f_back d k.0) ∙ k.1 in
          rw (live_without_all m es (back d), lb, s) refl);
      back_f = λ d l. r.back_f d (kept d l).0;
      f_back = λ d l. r.f_back d (kept' d l).0;
      next = λ d l. (
          let k : (m.live d ≡ true) × (is_of_any m.flip es d ≡ false) = kept d l in
          let a = passes_over m es d hm he k.1 in
          let b = passes_over n fs (f d) hn hf (same d k.0 ∙ k.1) in
          let w : ComesRoundTo n (is_of_any n.flip fs) a.0 (f (m.next d)) (f ((without m es).next d)) = renamed_walk m n f back hm r (is_of_any m.flip es) (is_of_any n.flip fs) same a.0 (m.next d) _ (hm.next_live d ∙ k.0) a.2 in
          let w' : ComesRoundTo n (is_of_any n.flip fs) a.0 (n.next (f d)) (f ((without m es).next d)) = comes_from n (is_of_any n.flip fs) a.0 (f (m.next d)) (n.next (f d)) _ (sym (r.next d k.0)) w in
          one_end n (is_of_any n.flip fs) (is_of_any n.flip fs) (λ x. refl) b.0 a.0 (n.next (f d)) _ _ b.2 w');
      flip = λ d l. flip_without_all n fs (f d) ∙ r.flip d (kept d l).0 ∙ ap f (sym (flip_without_all m es d));
    }

-- a renaming that keeps the order of the live darts takes the listing to the listing
pub least_renamed : (live : ℕ → Bool) (f : ℕ → ℕ) → ((c d : ℕ) → live c ≡ true → live d ≡ true → c < d → f c < f d) → (x : ℕ) (xs : List ℕ) → live x ≡ true → AllLive live xs → AllByRecursion (λ y. x < y) xs → AllByRecursion (λ y. f x < y) (map f xs)
least_renamed live f up x [] l ls h = tt
least_renamed live f up x (y ∷ xs) l ls h = (up x y l ls.0 h.0, least_renamed live f up x xs l ls.1 h.1)

pub firsts_renamed : (live : ℕ → Bool) (f : ℕ → ℕ) → ((c d : ℕ) → live c ≡ true → live d ≡ true → c < d → f c < f d) → (lists : List (List ℕ)) → AllByRecursion (AllLive live) lists → AllByRecursion BeginsWithLeast lists → AllByRecursion BeginsWithLeast (map (map f) lists)
firsts_renamed live f up [] l h = tt
firsts_renamed live f up ([] ∷ lists) l h = absurd h.0
firsts_renamed live f up ((x ∷ xs) ∷ lists) l h = (least_renamed live f up x xs l.0.0 l.0.1 h.0, firsts_renamed live f up lists l.1 h.1)

pub first_renamed : (live : ℕ → Bool) (f : ℕ → ℕ) (xs : List ℕ) → BeginsWithLeast xs → AllLive live xs → (first_of (map f xs) ≡ f (first_of xs)) × (live (first_of xs) ≡ true)
first_renamed live f [] b l = absurd b
first_renamed live f (x ∷ xs) b l = (refl, l.0)

pub above_renamed : (live : ℕ → Bool) (f : ℕ → ℕ) → Rises live f → (xs : List ℕ) → BeginsWithLeast xs → AllLive live xs → (lists : List (List ℕ)) → AllByRecursion (AllLive live) lists → AllByRecursion BeginsWithLeast lists → AllByRecursion (λ ys. first_of xs < first_of ys) lists → AllByRecursion (λ ys. first_of (map f xs) < first_of ys) (map (map f) lists)
above_renamed live f up xs b l [] ls bs h = tt
above_renamed live f up xs b l (ys ∷ lists) ls bs h =
    let x = first_renamed live f xs b l in
    let y = first_renamed live f ys bs.0 ls.0 in
    let lt : f (first_of xs) < f (first_of ys) = up (first_of xs) (first_of ys) x.1 y.1 h.0 in
    (rw (x.0, y.0) lt, above_renamed live f up xs b l lists ls.1 bs.1 h.1)

pub rise_renamed : (live : ℕ → Bool) (f : ℕ → ℕ) → Rises live f → (lists : List (List ℕ)) → AllByRecursion (AllLive live) lists → AllByRecursion BeginsWithLeast lists → FirstsRise lists → FirstsRise (map (map f) lists)
rise_renamed live f up [] ls bs h = tt
rise_renamed live f up (xs ∷ lists) ls bs h = (above_renamed live f up xs bs.0 ls.0 lists ls.1 bs.1 h.0, rise_renamed live f up lists ls.1 bs.1 h.1)

-- a renaming that keeps the order of the live darts takes the listing to the listing
pub takes_listing : RisingRenamingKeepsListing
takes_listing m n f back lists r up h =
    let held : (d : ℕ) → 0 < count_of d (concat lists) → m.live d ≡ true = λ d s. live_from_count (m.live d) (count_of d (concat lists)) s (h.cycles.once d) in
    let each : AllByRecursion (AllLive m.live) lists = lists_live m.live lists held in
    record {
      cycles = takes_cycles m n f back lists r h.cycles;
      least = firsts_renamed m.live f up lists each h.least;
      rise = rise_renamed m.live f up lists each h.least h.rise;
    }

-- a map that a renaming leads to is a map
pub map_renamed : RenamingGivesAMap
map_renamed m n f back h r same dead =
    let live_next : (x : ℕ) → n.live x ≡ true → n.live (n.next x) ≡ true = λ x l.
    (let lb : m.live (back x) ≡ true = r.back_live x l in
    let e : n.next x ≡ f (m.next (back x)) = ap n.next (sym (r.f_back x l)) ∙ r.next (back x) lb in
    ap n.live e ∙ r.live (m.next (back x)) (h.next_live (back x) ∙ lb)) in
    let flips : (x : ℕ) → n.live x ≡ true → n.flip x ≡ f (m.flip (back x)) = λ x l. ap n.flip (sym (r.f_back x l)) ∙ r.flip (back x) (r.back_live x l) in
    let live_flip : (x : ℕ) → n.live x ≡ true → n.live (n.flip x) ≡ true = λ x l.
    (let lb : m.live (back x) ≡ true = r.back_live x l in
    ap n.live (flips x l) ∙ r.live (m.flip (back x)) (h.flip_live (back x) (h.live_has (back x) lb) ∙ lb)) in
    record {
      next_apart = λ d e s. elim (cases_Bool (n.live d)) [
        | inl ld ↦ (elim (cases_Bool (n.live e)) [
          | inl le ↦ (
              let bd : m.live (back d) ≡ true = r.back_live d ld in
              let be : m.live (back e) ≡ true = r.back_live e le in
              let ed : n.next d ≡ f (m.next (back d)) = ap n.next (sym (r.f_back d ld)) ∙ r.next (back d) bd in
              let ee : n.next e ≡ f (m.next (back e)) = ap n.next (sym (r.f_back e le)) ∙ r.next (back e) be in
              let q : f (m.next (back d)) ≡ f (m.next (back e)) = sym ed ∙ s ∙ ee in
              let q' : m.next (back d) ≡ m.next (back e) = sym (r.back_f (m.next (back d)) (h.next_live (back d) ∙ bd)) ∙ ap back q ∙ r.back_f (m.next (back e)) (h.next_live (back e) ∙ be) in
              sym (r.f_back d ld) ∙ ap f (h.next_apart (back d) (back e) q') ∙ r.f_back e le)
          | inr de ↦ absurd (clash (n.live e) (ap n.live (sym (dead e de)) ∙ ap n.live (sym s) ∙ live_next d ld) de)
        ])
        | inr dd ↦ (elim (cases_Bool (n.live e)) [
          | inl le ↦ absurd (clash (n.live d) (ap n.live (sym (dead d dd)) ∙ ap n.live s ∙ live_next e le) dd)
          | inr de ↦ sym (dead d dd) ∙ s ∙ dead e de
        ])
      ];
      next_live = λ d. elim (cases_Bool (n.live d)) [
        | inl l ↦ live_next d l ∙ sym l
        | inr dd ↦ ap n.live (dead d dd)
      ];
      next_dead = dead;
      live_has = λ d l. same d ∙ l;
      flip_has = λ d hd. same (n.flip d) ∙ live_flip d (sym (same d) ∙ hd);
      flip_live = λ d hd. live_flip d (sym (same d) ∙ hd) ∙ sym (sym (same d) ∙ hd);
      flip_flip = λ d hd. (
          let l : n.live d ≡ true = sym (same d) ∙ hd in
          let lb : m.live (back d) ≡ true = r.back_live d l in
          let hb : m.has (back d) ≡ true = h.live_has (back d) lb in
          ap n.flip (flips d l) ∙ r.flip (m.flip (back d)) (h.flip_live (back d) hb ∙ lb) ∙ ap f (h.flip_flip (back d) hb) ∙ r.f_back d l);
      flip_apart = λ d hd e. (
          let l : n.live d ≡ true = sym (same d) ∙ hd in
          let lb : m.live (back d) ≡ true = r.back_live d l in
          let hb : m.has (back d) ≡ true = h.live_has (back d) lb in
          h.flip_apart (back d) hb (sym (r.back_f (m.flip (back d)) (h.flip_live (back d) hb ∙ lb)) ∙ ap back (sym (flips d l) ∙ e)));
    }
