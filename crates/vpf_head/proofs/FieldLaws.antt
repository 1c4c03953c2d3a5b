-- The values of items that are read are spelled by them, and the values of items that are spelled are read.
use Rattle.std.proofs.Common.{◌≡◌, ℕ, zero, suc, ◌<◌, ◌≤◌, Bool, true, false, not, cond, nat_eq, List, [], ◌∷◌, ◌++◌, length, Some, None, refl, sym, ap, subst, ◌∙◌, arith, inl, inr, rules}
use Rattle.std.specs.Prelude.{◌&&◌, nat_le, replicate, bytes_eq, codes as text}
use Rattle.std.specs.Char.{digit_value, is_ascii_digit, is_ascii_uppercase, is_ascii_control}
use Rattle.std.specs.List.{list_all, find}
use Rattle.std.specs.Str.Parse.{AllDigits, IsNumeral, digits_value}
use Rattle.std.proofs.lemmas.Bool.{leb-true, lt-leb, eqb-true, ne_eqb, eqb-false, le-leb}
use Rattle.std.proofs.lemmas.List.Folds.{list_any-append}
use Rattle.std.proofs.lemmas.Str.{encode_ascii}
use Rattle.std.proofs.lemmas.Str.Parse.{IsNumeralModel, numerals_by_value, digit_from_value}
use Rattle.vpf_base.specs.Limits.{most_values}
use Rattle.vpf_base.proofs.Booleans.{not_false, both, tested}
use Rattle.vpf_triplet.specs.declared.kinds.Kind.{Kind}
use Rattle.vpf_triplet.specs.declared.kinds.Kind.TheVariants as kinds
use Rattle.vpf_triplet.specs.declared.kinds.Count.{Count}
use Rattle.vpf_triplet.specs.declared.kinds.Count.TheVariants.{Fixed, Star}
use Rattle.vpf_triplet.specs.Kinds.{kind_text, every_kind, kind_of}
use Rattle.vpf_head.specs.declared.columns.Key.{Key}
use Rattle.vpf_head.specs.declared.columns.Key.TheVariants.{Primary, Unique, Many, Other}
use Rattle.vpf_head.specs.declared.items.Form.TheVariants.{Field}
use Rattle.vpf_head.specs.Bytes.{space, star}
use Rattle.vpf_head.specs.Fields.{letter_key, key_text, key_of, after_spaces, digits_count, bare_count, count_in}
use Rattle.vpf_head.specs.Forms.{is_stop}
use Rattle.vpf_head.specs.Spelling.{IsText, IsBareCount, IsCount}

-- ---- kinds

pub kind_again : (k : Kind) → IsText Field (kind_text k) × (kind_of (kind_text k) ≡ Some k)
kind_again kinds.T = (record { open_ended = refl; plain = refl }, refl)
kind_again kinds.L = (record { open_ended = refl; plain = refl }, refl)
kind_again kinds.M = (record { open_ended = refl; plain = refl }, refl)
kind_again kinds.N = (record { open_ended = refl; plain = refl }, refl)
kind_again kinds.F = (record { open_ended = refl; plain = refl }, refl)
kind_again kinds.R = (record { open_ended = refl; plain = refl }, refl)
kind_again kinds.S = (record { open_ended = refl; plain = refl }, refl)
kind_again kinds.I = (record { open_ended = refl; plain = refl }, refl)
kind_again kinds.D = (record { open_ended = refl; plain = refl }, refl)
kind_again kinds.X = (record { open_ended = refl; plain = refl }, refl)
kind_again kinds.K = (record { open_ended = refl; plain = refl }, refl)
kind_again kinds.C = (record { open_ended = refl; plain = refl }, refl)
kind_again kinds.B = (record { open_ended = refl; plain = refl }, refl)
kind_again kinds.Z = (record { open_ended = refl; plain = refl }, refl)
kind_again kinds.Y = (record { open_ended = refl; plain = refl }, refl)

find_passes : (test : Kind → Bool) (ks : List Kind) (k : Kind) → find test ks ≡ Some k → test k ≡ true
find_passes test [] k e = absurd cc
find_passes test (x ∷ ks) k e = elim (tested (test x) (Some x) (find test ks) (Some k) e) [
  | inl t ↦ let q = t.1 in let z : x ≡ k = cc in subst (λ (y : Kind). test y ≡ true) z t.0
  | inr t ↦ find_passes test ks k t.1
]

pub same_bytes : (xs ys : List ℕ) → bytes_eq xs ys ≡ true → xs ≡ ys
same_bytes [] [] e = refl
same_bytes [] (y ∷ ys) e = absurd cc
same_bytes (x ∷ xs) [] e = absurd cc
same_bytes (x ∷ xs) (y ∷ ys) e =
    let t = both (nat_eq x y) (bytes_eq xs ys) e in
    let a : x ≡ y = eqb-true x y t.0 in
    let b : xs ≡ ys = same_bytes xs ys t.1 in
    cc

pub kind_takes : (item : List ℕ) (k : Kind) → kind_of item ≡ Some k → item ≡ kind_text k
kind_takes item k e = same_bytes item (kind_text k) (find_passes (λ kind. bytes_eq item (kind_text kind)) every_kind k e)

-- ---- keys

upper : (b : ℕ) → is_ascii_uppercase b ≡ true → (65 ≤ b) × (b ≤ 90)
upper b e = let t = both (nat_le 65 b) (nat_le b 90) e in (leb-true 65 b t.0, leb-true b 90 t.1)

single : (a b : ℕ) → bytes_eq (a ∷ []) (b ∷ []) ≡ true → a ≡ b
single a b e = eqb-true a b (both (nat_eq a b) true e).0

letter_upper : (b : ℕ) (k : Key) → letter_key b ≡ Some k → (65 ≤ b) × (b ≤ 90)
letter_upper b k e = elim (tested (bytes_eq (b ∷ []) (text "P")) (Some Primary) _ (Some k) e) [
  | inl t ↦ let z = single b 80 t.0 in (omega arith, omega arith)
  | inr t ↦ elim (tested (bytes_eq (b ∷ []) (text "U")) (Some Unique) _ (Some k) t.1) [
    | inl u ↦ let z = single b 85 u.0 in (omega arith, omega arith)
    | inr u ↦ elim (tested (bytes_eq (b ∷ []) (text "N")) (Some Many) _ (Some k) u.1) [
      | inl v ↦ let z = single b 78 v.0 in (omega arith, omega arith)
      | inr v ↦ elim (tested (is_ascii_uppercase b) (Some (Other b)) None (Some k) v.1) [
        | inl y ↦ upper b y.0
        | inr y ↦ absurd (let q = y.1 in cc)
      ]
    ]
  ]
]

pub letter_text : (b : ℕ) (k : Key) → letter_key b ≡ Some k → key_text k ≡ b ∷ []
letter_text b k e = elim (tested (bytes_eq (b ∷ []) (text "P")) (Some Primary) _ (Some k) e) [
  | inl t ↦ let q = t.1 in let z : Primary ≡ k = cc in subst (λ (x : Key). key_text x ≡ b ∷ []) z (ap (λ (x : ℕ). x ∷ []) (sym (single b 80 t.0)))
  | inr t ↦ elim (tested (bytes_eq (b ∷ []) (text "U")) (Some Unique) _ (Some k) t.1) [
    | inl u ↦ let q = u.1 in let z : Unique ≡ k = cc in subst (λ (x : Key). key_text x ≡ b ∷ []) z (ap (λ (x : ℕ). x ∷ []) (sym (single b 85 u.0)))
    | inr u ↦ elim (tested (bytes_eq (b ∷ []) (text "N")) (Some Many) _ (Some k) u.1) [
      | inl v ↦ let q = v.1 in let z : Many ≡ k = cc in subst (λ (x : Key). key_text x ≡ b ∷ []) z (ap (λ (x : ℕ). x ∷ []) (sym (single b 78 v.0)))
      | inr v ↦ elim (tested (is_ascii_uppercase b) (Some (Other b)) None (Some k) v.1) [
        | inl y ↦ let q = y.1 in let z : Other b ≡ k = cc in subst (λ (x : Key). key_text x ≡ b ∷ []) z (encode_ascii b (let r = upper b y.0 in omega (arith, r.1)))
        | inr y ↦ absurd (let q = y.1 in cc)
      ]
    ]
  ]
]

-- the letter of a key that was read is read as the key
pub key_back : (b : ℕ) (k : Key) → letter_key b ≡ Some k → key_of (key_text k) ≡ Some k
key_back b k e = ap key_of (letter_text b k e) ∙ e

pub key_takes : (item : List ℕ) (k : Key) → key_of item ≡ Some k → (letter : ℕ) × (item ≡ letter ∷ []) × (letter_key letter ≡ Some k)
key_takes [] k e = absurd cc
key_takes (b ∷ []) k e = (b, refl, e)
key_takes (b ∷ d ∷ item) k e = absurd cc

-- ---- bytes that end no item and are no control bytes

plain_byte : (b : ℕ) → 44 < b → b < 127 → (b ≡ 58 → ⊥) → (b ≡ 59 → ⊥) → (is_stop Field b ≡ false) × (is_ascii_control b ≡ false)
plain_byte b low high colon semicolon =
    let a : nat_eq b 44 ≡ false = ne_eqb b 44 (λ e. omega arith) in
    let c : nat_eq b 58 ≡ false = ne_eqb b 58 colon in
    let d : nat_eq b 59 ≡ false = ne_eqb b 59 semicolon in
    let f : nat_le 0 b ≡ true = le-leb 0 b (omega arith) in
    let g : nat_le b 31 ≡ false = lt-leb b 31 (omega arith) in
    let h : nat_le 127 b ≡ false = lt-leb 127 b high in
    (rw (a, c, d) refl, rw (f, g, h) refl)

text_more : (b : ℕ) (item : List ℕ) → is_stop Field b ≡ false → is_ascii_control b ≡ false → IsText Field item → IsText Field (b ∷ item)
text_more b item e f t = record { open_ended = rw (e, t.open_ended) refl; plain = rw (f, t.plain) refl }

no_text : IsText Field []
no_text = record { open_ended = refl; plain = refl }

text_append : (a b : List ℕ) → IsText Field a → IsText Field b → IsText Field (a ++ b)
text_append a b x y = record {
  open_ended = list_any-append (is_stop Field) a b ∙ rw (x.open_ended, y.open_ended) refl;
  plain = list_any-append is_ascii_control a b ∙ rw (x.plain, y.plain) refl;
}

spaces_text : (n : ℕ) → IsText Field (replicate n space)
spaces_text zero = no_text
spaces_text (suc n) = text_more space (replicate n space) refl refl (spaces_text n)

digits_text : (ds : List ℕ) → AllDigits 10 ds → IsText Field ds
digits_text [] h = no_text
digits_text (d ∷ ds) h =
    let r = digit_from_value d h.0 in
    let p = plain_byte d (omega (arith, r.0)) (omega (arith, r.1)) (λ e. omega (arith, r.1)) (λ e. omega (arith, r.1)) in
    text_more d ds p.0 p.1 (digits_text ds h.1)

pub key_again : (b : ℕ) (k : Key) → letter_key b ≡ Some k → IsText Field (b ∷ [])
key_again b k e =
    let r = letter_upper b k e in
    let p = plain_byte b (omega (arith, r.0)) (omega (arith, r.1)) (λ z. omega (arith, r.0)) (λ z. omega (arith, r.0)) in
    text_more b [] p.0 p.1 no_text

-- ---- counts

own : IsNumeralModel (λ ds. list_all is_ascii_digit ds ≡ true) (digits_value 10)
own = numerals_by_value (λ ds. list_all is_ascii_digit ds ≡ true) (search rules)

spaces_gone : (n : ℕ) (item : List ℕ) → after_spaces (replicate n space ++ item) ≡ after_spaces item
spaces_gone zero item = refl
spaces_gone (suc n) item = spaces_gone n item

spaces_taken : (item : List ℕ) → (n : ℕ) × (item ≡ replicate n space ++ after_spaces item)
spaces_taken [] = (0, refl)
spaces_taken (b ∷ item) = elim (nat_eq b space) as (λ t. nat_eq b space ≡ t → (n : ℕ) × (b ∷ item ≡ replicate n space ++ cond t (after_spaces item) (b ∷ item))) [
  | true ↦ λ e. let more = spaces_taken item in let z : b ≡ space = eqb-true b space e in (suc more.0, let k = more.1 in cc)
  | false ↦ λ e. (0, refl)
] refl

digits_first : (d : ℕ) → digit_value d < 10 → (nat_eq d space ≡ false) × (nat_eq d star ≡ false)
digits_first d h = let r = digit_from_value d h in (ne_eqb d space (λ e. omega (arith, r.0)), ne_eqb d star (λ e. omega (arith, r.0)))

digits_bare : (ds : List ℕ) → AllDigits 10 ds → (after_spaces ds ≡ ds) × (bare_count ds ≡ digits_count ds)
digits_bare [] h = (refl, refl)
digits_bare (d ∷ []) h = let f = digits_first d h.0 in (rw f.0 refl, rw f.1 refl)
digits_bare (d ∷ c ∷ ds) h = let f = digits_first d h.0 in (rw f.0 refl, refl)

digits_counted : (n : ℕ) (ds : List ℕ) → IsNumeral 10 ds → digits_value 10 ds ≡ n → 1 ≤ n → n ≤ most_values → digits_count ds ≡ Some (Fixed n)
digits_counted n ds h v low high =
    let a : nat_eq (length ds) 0 ≡ false = ne_eqb (length ds) 0 (λ e. omega (arith, h.0)) in
    let b : list_all is_ascii_digit ds ≡ true = own.from ds h.1 in
    let c : nat_le 1 n ≡ true = le-leb 1 n low in
    let d : nat_le n most_values ≡ true = le-leb n most_values high in
    rw (a, b, v, c, d) refl

bare_again : (c : Count) (item : List ℕ) → IsBareCount c item → IsText Field item × (bare_count (after_spaces item) ≡ Some c)
bare_again Star item h = (rw h (record { open_ended = refl; plain = refl }), rw h refl)
bare_again (Fixed n) item h =
    let b = digits_bare item h.0.1 in
    (digits_text item h.0.1, ap bare_count b.0 ∙ b.1 ∙ digits_counted n item h.0 h.1 h.2 h.3)

pub count_again : (c : Count) (item : List ℕ) → IsCount c item → IsText Field item × (count_in item ≡ Some c)
count_again c item h =
    let b = bare_again c h.bare h.bare_is in
    let s = h.spelled in
    (rw s (text_append (replicate h.spaces space) h.bare (spaces_text h.spaces) b.0), ap count_in s ∙ ap bare_count (spaces_gone h.spaces h.bare) ∙ b.1)

digits_taken : (ds : List ℕ) (c : Count) → digits_count ds ≡ Some c → IsBareCount c ds
digits_taken ds c e =
    let n = digits_value 10 ds in
    elim (tested (nat_eq (length ds) 0) _ _ _ e) [
      | inl t ↦ absurd (let z = t.1 in cc)
      | inr t ↦ elim (tested (not (list_all is_ascii_digit ds)) _ _ _ t.1) [
        | inl u ↦ absurd (let z = u.1 in cc)
        | inr u ↦ elim (tested (nat_le 1 n && nat_le n most_values) _ _ _ u.1) [
          | inl v ↦ let b = both (nat_le 1 n) (nat_le n most_values) v.0 in
              let q = v.1 in
              let z : Fixed n ≡ c = cc in
              subst (λ (x : Count). IsBareCount x ds) z
              ((omega (arith, eqb-false (length ds) 0 t.0), own.to ds (not_false (list_all is_ascii_digit ds) u.0)), refl, leb-true 1 n b.0, leb-true n most_values b.1)
          | inr v ↦ absurd (let z = v.1 in cc)
        ]
      ]
    ]

bare_takes : (item : List ℕ) (c : Count) → bare_count item ≡ Some c → IsBareCount c item
bare_takes [] c e = digits_taken [] c e
bare_takes (b ∷ []) c e = elim (tested (nat_eq b star) (Some Star) (digits_count (b ∷ [])) (Some c) e) [
  | inl t ↦ let q = t.1 in let z : Star ≡ c = cc in let k : b ≡ star = eqb-true b star t.0 in subst (λ (x : Count). IsBareCount x (b ∷ [])) z (ap (λ (x : ℕ). x ∷ []) k)
  | inr t ↦ digits_taken (b ∷ []) c t.1
]
bare_takes (b ∷ d ∷ item) c e = digits_taken (b ∷ d ∷ item) c e

pub count_takes : (item : List ℕ) (c : Count) → count_in item ≡ Some c → IsCount c item
count_takes item c e =
    let s = spaces_taken item in
    record { spaces = s.0; bare = after_spaces item; bare_is = bare_takes (after_spaces item) c e; spelled = s.1 }
