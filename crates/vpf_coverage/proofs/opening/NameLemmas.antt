-- Names of files in folders: their last bytes, and the folders that they lie in.
use Rattle.std.proofs.Common.{◌≡◌, ℕ, suc, ◌-◌, Bool, true, false, cond, List, [], ◌∷◌, ◌++◌, length, drop, refl, ap, sym, ◌∙◌, arith, append_assoc, length-append}
use Rattle.std.specs.Prelude.{nat_eq, codes}
use Rattle.std.specs.Cmp.Lexicographic.{pointwise}
use Rattle.std.specs.List.{ends_with}
use Rattle.std.specs.Str.{bytes_eq}
use Rattle.std.proofs.lemmas.List.{append_cancel_left, append_cancel_right}
use Rattle.std.proofs.lemmas.Slice.Eq.{bytes_eq-Decides}
use Rattle.vpf_base.proofs.Booleans.{refuted}
use Rattle.vpf_source.specs.Names.Naming.{slash}
use Rattle.vpf_library_files.specs.Loading.Loading.{within}

-- what stands before the names in a folder
abbrev stem : List ℕ → List ℕ
stem folder = cond (ends_with nat_eq folder (slash ∷ [])) folder (folder ++ slash ∷ [])

stem_told : (slashed : Bool) (folder name : List ℕ) → cond slashed (folder ++ name) (folder ++ slash ∷ name) ≡ cond slashed folder (folder ++ slash ∷ []) ++ name
stem_told true folder name = refl
stem_told false folder name = sym (append_assoc folder (slash ∷ []) name)

-- a name in a folder
in_stem : (folder name : List ℕ) → within folder name ≡ stem folder ++ name
in_stem folder name = stem_told (ends_with nat_eq folder (slash ∷ [])) folder name

-- the last byte of a text
abbrev last_byte : List ℕ → ℕ
last_byte [] = 0
last_byte (b ∷ []) = b
last_byte (b ∷ c ∷ bytes) = last_byte (c ∷ bytes)

last_behind : (front : List ℕ) (b : ℕ) (bytes : List ℕ) → last_byte (front ++ b ∷ bytes) ≡ last_byte (b ∷ bytes)
last_behind [] b bytes = refl
last_behind (a ∷ []) b bytes = refl
last_behind (a ∷ c ∷ front) b bytes = last_behind (c ∷ front) b bytes

-- two names that end in two bytes are two
pub apart_by_last : (x y : ℕ) (xs ys : List ℕ) (folder other : List ℕ)
    → (last_byte (x ∷ xs) ≡ last_byte (y ∷ ys) → ⊥) → within folder (x ∷ xs) ≡ within other (y ∷ ys) → ⊥
apart_by_last x y xs ys folder other apart e =
    apart (sym (last_behind (stem folder) x xs)
    ∙ ap last_byte (sym (in_stem folder (x ∷ xs)) ∙ e ∙ in_stem other (y ∷ ys))
    ∙ last_behind (stem other) y ys)

pub not_edges_and_entities : (folder other : List ℕ) → within folder (codes "edg") ≡ within other (codes "end") → ⊥
not_edges_and_entities folder other = apart_by_last 101 101 (100 ∷ 103 ∷ []) (110 ∷ 100 ∷ []) folder other (λ e. absurd (omega (arith, e)))

pub not_tiles_and_edges : (folder other : List ℕ) → within folder (codes "tileref.aft") ≡ within other (codes "edg") → ⊥
not_tiles_and_edges folder other =
    apart_by_last 116 101 (105 ∷ 108 ∷ 101 ∷ 114 ∷ 101 ∷ 102 ∷ 46 ∷ 97 ∷ 102 ∷ 116 ∷ []) (100 ∷ 103 ∷ []) folder other (λ e. absurd (omega (arith, e)))

-- a text that ends in another byte than a slash
pub record EndsPlain (text : List ℕ) : Type 0 where
  pub front : List ℕ
  pub last : ℕ
  pub are : text ≡ front ++ last ∷ []
  pub plain : nat_eq slash last ≡ false

last_alone : (front : List ℕ) (b : ℕ) → drop (length (front ++ b ∷ []) - 1) (front ++ b ∷ []) ≡ b ∷ []
last_alone [] b = refl
last_alone (a ∷ front) b =
    let e : length (a ∷ (front ++ b ∷ [])) - 1 ≡ length (front ++ b ∷ []) = omega arith in
    let n : length (front ++ b ∷ []) ≡ suc (length (front ++ b ∷ []) - 1) = omega (arith, length-append front (b ∷ [])) in
    ap (λ (k : ℕ). drop k (a ∷ (front ++ b ∷ []))) (e ∙ n) ∙ last_alone front b

no_slash : (last : ℕ) → nat_eq slash last ≡ false → pointwise nat_eq (slash ∷ []) (last ∷ []) ≡ false
no_slash last plain = rw plain refl

-- it doesn't end in a slash
not_slashed : (front : List ℕ) (last : ℕ) → nat_eq slash last ≡ false → ends_with nat_eq (front ++ last ∷ []) (slash ∷ []) ≡ false
not_slashed front last plain = ap (pointwise nat_eq (slash ∷ [])) (last_alone front last) ∙ no_slash last plain

stem_plain : (text : List ℕ) → EndsPlain text → stem text ≡ text ++ slash ∷ []
stem_plain text h =
    let e : ends_with nat_eq text (slash ∷ []) ≡ false = ap (λ (t : List ℕ). ends_with nat_eq t (slash ∷ [])) h.are ∙ not_slashed h.front h.last h.plain in
    ap (λ (b : Bool). cond b text (text ++ slash ∷ [])) e

-- what stands before such a text leaves it so
pub plain_behind : (before text : List ℕ) → EndsPlain text → EndsPlain (before ++ text)
plain_behind before text h = record {
  front = before ++ h.front;
  last = h.last;
  are = ap (λ (t : List ℕ). before ++ t) h.are ∙ sym (append_assoc before h.front (h.last ∷ []));
  plain = h.plain;
}

plain_within : (folder text : List ℕ) → EndsPlain text → EndsPlain (within folder text)
plain_within folder text h =
    let p = plain_behind (stem folder) text h in
    record { front = p.front; last = p.last; are = in_stem folder text ∙ p.are; plain = p.plain }

-- names of one file in two folders of one folder name one
pub one_folder : (folder p q name : List ℕ) → EndsPlain p → EndsPlain q → within (within folder p) name ≡ within (within folder q) name → p ≡ q
one_folder folder p q name a b e =
    let stems : stem (within folder p) ≡ stem (within folder q) =
    append_cancel_right (stem (within folder p)) (stem (within folder q)) name (sym (in_stem (within folder p) name) ∙ e ∙ in_stem (within folder q) name) in
    let folders : within folder p ≡ within folder q =
    append_cancel_right (within folder p) (within folder q) (slash ∷ [])
    (sym (stem_plain (within folder p) (plain_within folder p a)) ∙ stems ∙ stem_plain (within folder q) (plain_within folder q b)) in
    append_cancel_left (stem folder) p q (sym (in_stem folder p) ∙ folders ∙ in_stem folder q)

-- a name is itself, and no other
pub same_name : (name : List ℕ) → bytes_eq name name ≡ true
same_name name = (bytes_eq-Decides name name).1 refl

pub other_name : (a b : List ℕ) → (a ≡ b → ⊥) → bytes_eq a b ≡ false
other_name a b apart = refuted (bytes_eq a b) (λ e. apart ((bytes_eq-Decides a b).0 e))
