-- Names of files within folders, and of their indexes.
use Rattle.std.proofs.Common.{[], ◌≡◌, ◌≢◌, ℕ, ◌+◌, ◌-◌, Bool, true, false, List, ◌∷◌, ◌++◌, length, drop, refl, sym, ap, ◌∙◌, arith, append_assoc, append-nil, ◌<◌, take}
use Rattle.std.specs.Prelude.{nat_eq, if◌then◌else◌, IsUtf8, codes, encode_utf8}
use Rattle.std.specs.Cmp.Lexicographic.{pointwise}
use Rattle.std.specs.List.{ends_with}
use Rattle.std.proofs.lemmas.List.{drop-drop, drop_at, length-append, take_at}
use Rattle.vpf_source.specs.Names.Naming.{slash}
use Rattle.vpf_library_files.specs.Loading.Loading.{within}
use Rattle.std.specs.Char.{IsScalar}
use Rattle.std.proofs.lemmas.Str.{IsUtf8-append, IsUtf8-from_ascii}
use Rattle.std.proofs.lemmas.Str.Ascii.{IsAscii-cons, IsAscii-nil}
use Rattle.vpf_source.specs.Names.Indexes.{index_name, without_last}
use Rattle.vpf_source.specs.Inner.Names.LetterLaws.{last_dropped}

-- a list that isn't empty ends as it does behind another
pub ends_behind : (front list : List ℕ) → list ≢ [] → ends_with nat_eq (front ++ list) (slash ∷ []) ≡ ends_with nat_eq list (slash ∷ [])
ends_behind front [] some = absurd (some refl)
ends_behind front (x ∷ list) some =
    let n : length (front ++ x ∷ list) - 1 ≡ length front + (length (x ∷ list) - 1) = omega (arith, length-append front (x ∷ list)) in
    let e : drop (length (front ++ x ∷ list) - 1) (front ++ x ∷ list) ≡ drop (length (x ∷ list) - 1) (x ∷ list) =
    ap (λ (k : ℕ). drop k (front ++ x ∷ list)) n ∙ sym (drop-drop (length (x ∷ list) - 1) (length front) (front ++ x ∷ list))
    ∙ ap (drop (length (x ∷ list) - 1)) (drop_at front (x ∷ list) (length front) refl) in
    ap (pointwise nat_eq (slash ∷ [])) e

-- a name within a folder stands behind the folder and a slash
pub within_is : (folder name : List ℕ) → within folder name ≡ within folder [] ++ name
within_is folder name = by (ends_with nat_eq folder (slash ∷ []))
  where
    by : (b : Bool) → (if b then folder ++ name else folder ++ slash ∷ name) ≡ (if b then folder ++ [] else folder ++ slash ∷ []) ++ name
    by true = ap (λ (x : List ℕ). x ++ name) (sym (append-nil folder))
    by false = sym (append_assoc folder (slash ∷ []) name)

-- a folder within another one, and a name within that
pub within_within : (out a b : List ℕ) → a ≢ [] → within out (within a b) ≡ within (within out a) b
within_within out a b some =
    let same : ends_with nat_eq (within out a) (slash ∷ []) ≡ ends_with nat_eq a (slash ∷ []) =
    ap (λ (x : List ℕ). ends_with nat_eq x (slash ∷ [])) (within_is out a) ∙ ends_behind (within out []) a some in
    within_is out (within a b) ∙ by (ends_with nat_eq a (slash ∷ [])) (ends_with nat_eq (within out a) (slash ∷ [])) same
  where
    by : (s t : Bool) → t ≡ s
        → within out [] ++ (if s then a ++ b else a ++ slash ∷ b) ≡ (if t then within out a ++ b else within out a ++ slash ∷ b)
    by true t e = rw (e, within_is out a) (sym (append_assoc (within out []) a b))
    by false t e = rw (e, within_is out a) (sym (append_assoc (within out []) a (slash ∷ b)))

slash_utf8 : IsUtf8 (slash ∷ [])
slash_utf8 = IsUtf8-from_ascii (slash ∷ []) (IsAscii-cons slash [] (let h : slash < 128 = omega arith in h) IsAscii-nil)

-- a folder of text and a slash are text
pub within_utf8 : (folder name : List ℕ) → IsUtf8 folder → IsUtf8 name → IsUtf8 (within folder name)
within_utf8 folder name u v = by (ends_with nat_eq folder (slash ∷ []))
  where
    by : (b : Bool) → IsUtf8 (if b then folder ++ name else folder ++ slash ∷ name)
    by true = IsUtf8-append folder name u v
    by false = IsUtf8-append folder (slash ∷ name) u (IsUtf8-append (slash ∷ []) name slash_utf8 v)

-- the index of a table whose name ends with this letter
pub index_behind : (front : List ℕ) (c : ℕ) → IsUtf8 front → IsScalar c → encode_utf8 c ≡ c ∷ [] → index_name (front ++ c ∷ []) ≡ front ++ codes "x"
index_behind front c u s e = ap (λ (x : List ℕ). x ++ codes "x") (ap without_last (ap (λ (x : List ℕ). front ++ x) (sym e)) ∙ last_dropped front c u s)

-- within a folder it is the index of the table there
pub index_within : (out front : List ℕ) (c : ℕ) → IsUtf8 out → IsUtf8 front → IsScalar c → encode_utf8 c ≡ c ∷ []
    → within out (index_name (front ++ c ∷ [])) ≡ index_name (within out (front ++ c ∷ []))
index_within out front c u v s e =
    let place : within out (front ++ c ∷ []) ≡ within out front ++ c ∷ [] =
    within_is out (front ++ c ∷ []) ∙ sym (append_assoc (within out []) front (c ∷ [])) ∙ ap (λ (x : List ℕ). x ++ c ∷ []) (sym (within_is out front)) in
    let whole : index_name (within out front ++ c ∷ []) ≡ within out front ++ codes "x" = index_behind (within out front) c (within_utf8 out front u v) s e in
    ap (within out) (index_behind front c v s e) ∙ within_is out (front ++ codes "x") ∙ sym (append_assoc (within out []) front (codes "x"))
    ∙ ap (λ (x : List ℕ). x ++ codes "x") (sym (within_is out front)) ∙ sym whole ∙ ap index_name (sym place)

pub some_after : (front list : List ℕ) → list ≢ [] → front ++ list ≢ []
some_after [] list some e = some e
some_after (x ∷ front) list some e = cc

-- lists with ends of one length
pub cut_ends : (a b s t : List ℕ) → length s ≡ length t → a ++ s ≡ b ++ t → (a ≡ b) × (s ≡ t)
cut_ends a b s t long e =
    let n : length a ≡ length b = omega (arith, ap length e, length-append a s, length-append b t) in (
      sym (take_at a s (length a) refl) ∙ ap (take (length a)) e ∙ take_at b t (length a) (sym n),
      sym (drop_at a s (length a) refl) ∙ ap (drop (length a)) e ∙ drop_at b t (length a) (sym n),
    )
