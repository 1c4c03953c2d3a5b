-- The pieces of an index, one after another.
use Rattle.std.proofs.Common.{[], ◌≡◌, ℕ, zero, suc, ◌+◌, ◌-◌, ◌*◌, ◌/◌, ◌^◌, ◌<◌, ◌≤◌, Bool, true, false, nat_eq, List, ◌∷◌, ◌++◌, length, map, take, drop, get_or, append_assoc, refl, sym, ap, subst, ◌∙◌, arith}
use Rattle.std.specs.Prelude.{All, replicate, if◌then◌else◌}
use Rattle.std.proofs.lemmas.List.{get_or-map, length-map, length-append, length-drop, length-take, drop_more, take_more}
use Rattle.std.proofs.lemmas.List.FromFn.{length-map-range_with_len}
use Rattle.vpf_base.specs.declared.orders.Order.{Order}
use Rattle.vpf_base.specs.Numbers.{number}
use Rattle.vpf_theme.specs.declared.layout.Form.{Form}
use Rattle.vpf_theme.specs.declared.layout.Form.TheVariants as forms
use Rattle.vpf_theme.specs.declared.layout.RowSize.{RowSize}
use Rattle.vpf_theme.specs.declared.layout.RowSize.TheVariants as sizes
use Rattle.vpf_theme.specs.declared.layout.Layout.{Layout}
use Rattle.vpf_theme.specs.Layouts.{row_bytes}
use Rattle.vpf_theme.specs.Spelling.{row_width, row_numbers_text}
use Rattle.vpf_theme.specs.Inner.PieceLaws.{length-row}
use Rattle.vpf_theme_build.specs.declared.grouping.Spot.{Spot}
use Rattle.vpf_theme_build.specs.declared.grouping.Group.{Group}
use Rattle.vpf_theme_build.specs.Grouping.{IsGroup, cells_in, entry_in, spot_row}
use Rattle.vpf_theme_build.specs.Text.{all_data, bitmap_byte, data_by, data_text, directory_text, entry_text}
use Rattle.vpf_theme_build.specs.Inner.Writing.{data_len, data_len_by}

pub rows_inside : (n : ℕ) (spots : List Spot) → All (λ row. (1 ≤ row) × (row ≤ n)) (map spot_row spots) → (k : ℕ) (d : Spot) → k < length spots → (1 ≤ (get_or spots k d).row) × ((get_or spots k d).row ≤ n)
rows_inside n spots h k d m = subst (λ (r : ℕ). (1 ≤ r) × (r ≤ n)) (get_or-map spot_row spots k d 0 m) (h k 0 (omega (arith, length-map spots spot_row)))

-- ---- lengths

pub length-rows : (o : Order) (size : RowSize) (rows : List ℕ) → length (row_numbers_text o size rows) ≡ length rows * row_bytes size
length-rows o size [] = omega arith
length-rows o size (row ∷ rows) = length-append (number o (row_width size) row) (row_numbers_text o size rows) ∙ omega (arith, length-row o size row, length-rows o size rows)

data_case : (b : Bool) (text : List ℕ) (n : ℕ) → length text ≡ n → length (if b then [] else text) ≡ (if b then 0 else n)
data_case true text n h = refl
data_case false text n h = h

length-data_by : (form : Form) (l : Layout) (rows : List ℕ) → length (data_by form l rows) ≡ data_len_by form l (length rows)
length-data_by forms.List l rows = data_case (nat_eq (length rows) 1) (row_numbers_text l.order l.row_size rows) (length rows * row_bytes l.row_size) (length-rows l.order l.row_size rows)
length-data_by forms.Bitmap l rows = length-map-range_with_len (bitmap_byte rows) 0 ((l.rows + 7) / 8)

pub length-cells : (spots : List Spot) (g : Group) → IsGroup spots g → length (cells_in spots g) ≡ g.end - g.start
length-cells spots g h = omega (arith, h.0, h.1, length-take (g.end - g.start) (drop g.start spots), length-drop g.start spots)

pub length-data : (l : Layout) (spots : List Spot) (g : Group) (n : ℕ) → IsGroup spots g → n ≡ data_len l (g.end - g.start) → n ≡ length (data_text l (entry_in spots g).rows)
length-data l spots g n h e =
    let a = length-data_by l.form l (map spot_row (cells_in spots g)) in
    let b = length-map (cells_in spots g) spot_row ∙ length-cells spots g h in
    e ∙ sym (rw b at a)

-- ---- one more group

pub len_more : (l : Layout) (spots : List Spot) (groups : List Group) (k len n : ℕ) (d : Group) (whole : ℕ) → k < length groups → All (IsGroup spots) groups → n ≡ data_len l ((get_or groups k d).end - (get_or groups k d).start) → len + length (all_data l (map (entry_in spots) (drop k groups))) ≡ whole → len + n + length (all_data l (map (entry_in spots) (drop (k + 1) groups))) ≡ whole
len_more l spots groups k len n d whole h each is done =
    let g = get_or groups k d in
    let m = length-data l spots g n (each k d h) is in
    let e = drop_more groups k d h in
    let a = rw e at done in
    let b = length-append (data_text l (entry_in spots g).rows) (all_data l (map (entry_in spots) (drop (k + 1) groups))) in
    omega (arith, a, b, m)

pub directory_more : (l : Layout) (spots : List Spot) (groups : List Group) (k at n : ℕ) (d : Group) (out new whole : List ℕ) → k < length groups → All (IsGroup spots) groups → n ≡ data_len l ((get_or groups k d).end - (get_or groups k d).start) → new ≡ out ++ entry_text l at (entry_in spots (get_or groups k d)) → out ++ directory_text l at (map (entry_in spots) (drop k groups)) ≡ whole → new ++ directory_text l (at + n) (map (entry_in spots) (drop (k + 1) groups)) ≡ whole
directory_more l spots groups k at n d out new whole h each is put done =
    let g = get_or groups k d in
    let m = length-data l spots g n (each k d h) is in
    let a = rw (drop_more groups k d h) at done in
    rw (put, append_assoc, m) a

pub data_more : (l : Layout) (spots : List Spot) (groups : List Group) (k : ℕ) (d : Group) (out new whole : List ℕ) → k < length groups → new ≡ out ++ data_text l (entry_in spots (get_or groups k d)).rows → out ++ all_data l (map (entry_in spots) (drop k groups)) ≡ whole → new ++ all_data l (map (entry_in spots) (drop (k + 1) groups)) ≡ whole
data_more l spots groups k d out new whole h put done = let a = rw (drop_more groups k d h) at done in rw (put, append_assoc) a

pub small_data : (l : Layout) (n : ℕ) → n < 2 ^ 24 → l.rows < 2 ^ 24 → data_len l n ≤ 2 ^ 27
small_data l n h k = by_form l.form l n h k
  where
    small_case : (b : Bool) (m : ℕ) → m ≤ 2 ^ 27 → (if b then 0 else m) ≤ 2 ^ 27
    small_case true m h = omega arith
    small_case false m h = h

    small_size : (size : RowSize) (n : ℕ) → n < 2 ^ 24 → n * row_bytes size ≤ 2 ^ 27
    small_size sizes.Short n h = omega arith
    small_size sizes.Long n h = omega arith

    by_form : (form : Form) (l : Layout) (n : ℕ) → n < 2 ^ 24 → l.rows < 2 ^ 24 → data_len_by form l n ≤ 2 ^ 27
    by_form forms.List l n h k = small_case (nat_eq n 1) (n * row_bytes l.row_size) (small_size l.row_size n h)
    by_form forms.Bitmap l n h k = omega arith

-- ---- names

abbrev pub spaces : ℕ → List ℕ
spaces len = replicate len 32

get-name : (name : List ℕ) (len i : ℕ) → i < length name → get_or (name ++ spaces len) i 0 ≡ get_or name i 0
get-name [] len i h = absurd (omega arith)
get-name (b ∷ name) len zero h = refl
get-name (b ∷ name) len (suc i) h = get-name name len i (omega arith)

get-space : (len i : ℕ) → i < len → get_or (spaces len) i 0 ≡ 32
get-space zero i h = absurd (omega arith)
get-space (suc len) zero h = refl
get-space (suc len) (suc i) h = get-space len i (omega arith)

get-past : (name : List ℕ) (len i : ℕ) → length name ≤ i → i < length name + len → get_or (name ++ spaces len) i 0 ≡ 32
get-past [] len i h k = get-space len i (omega arith)
get-past (b ∷ name) len zero h k = absurd (omega arith)
get-past (b ∷ name) len (suc i) h k = get-past name len i (omega arith) (omega arith)

pub length-spaces : (len : ℕ) → length (spaces len) ≡ len
length-spaces zero = refl
length-spaces (suc len) = ap suc (length-spaces len)

name_more : (name : List ℕ) (len i byte : ℕ) (out new out0 : List ℕ) → i < len → byte ≡ get_or (name ++ spaces len) i 0 → new ≡ out ++ byte ∷ [] → out ≡ out0 ++ take i (name ++ spaces len) → new ≡ out0 ++ take (i + 1) (name ++ spaces len)
name_more name len i byte out new out0 h is put done =
    let t = take_more (name ++ spaces len) i 0 (omega (arith, length-append name (spaces len), length-spaces len)) in
    rw (put, done, append_assoc, t, is) refl

pub name_inside : (name : List ℕ) (len i byte : ℕ) (out new out0 : List ℕ) → i < len → i < length name → byte ≡ get_or name i 0 → new ≡ out ++ byte ∷ [] → out ≡ out0 ++ take i (name ++ spaces len) → new ≡ out0 ++ take (i + 1) (name ++ spaces len)
name_inside name len i byte out new out0 h m is put done = name_more name len i byte out new out0 h (is ∙ sym (get-name name len i m)) put done

pub name_past : (name : List ℕ) (len i byte : ℕ) (out new out0 : List ℕ) → i < len → length name ≤ i → byte ≡ 32 → new ≡ out ++ byte ∷ [] → out ≡ out0 ++ take i (name ++ spaces len) → new ≡ out0 ++ take (i + 1) (name ++ spaces len)
name_past name len i byte out new out0 h m is put done = name_more name len i byte out new out0 h (is ∙ sym (get-past name len i m (omega arith))) put done
