-- Items without the padding around them.
use Rattle.std.proofs.Common.{◌≡◌, ℕ, ◌+◌, ◌<◌, true, false, List, [], ◌∷◌, ◌++◌, length, take, get_or, refl, ap, sym, ◌∙◌}
use Rattle.std.proofs.lemmas.List.{take_more}
use Rattle.vpf_source.specs.Names.Items.{is_padding, kept_before, before_padding}

-- padding behind an item is dropped
alone_padding : (b : ℕ) → is_padding b ≡ true → kept_before b [] ≡ []
alone_padding b p = rw p refl

pub padding_behind : (bs : List ℕ) (b : ℕ) → is_padding b ≡ true → before_padding (bs ++ b ∷ []) ≡ before_padding bs
padding_behind [] b p = alone_padding b p
padding_behind (c ∷ bs) b p = ap (kept_before c) (padding_behind bs b p)

alone_kept : (b : ℕ) → is_padding b ≡ false → kept_before b [] ≡ b ∷ []
alone_kept b p = rw p refl

before_some : (c : ℕ) (bs : List ℕ) (b : ℕ) → kept_before c (bs ++ b ∷ []) ≡ c ∷ (bs ++ b ∷ [])
before_some c [] b = refl
before_some c (d ∷ bs) b = refl

-- another byte behind an item is kept with all before it
pub kept_behind : (bs : List ℕ) (b : ℕ) → is_padding b ≡ false → before_padding (bs ++ b ∷ []) ≡ bs ++ b ∷ []
kept_behind [] b p = alone_kept b p
kept_behind (c ∷ bs) b p = ap (kept_before c) (kept_behind bs b p) ∙ before_some c bs b

-- one more byte of an item is looked at
pub padding_more : (item : List ℕ) (i end : ℕ) → i < length item → is_padding (get_or item i 0) ≡ true → take end item ≡ before_padding (take i item) → take end item ≡ before_padding (take (i + 1) item)
padding_more item i end h p e = rw (take_more item i 0 h) (e ∙ sym (padding_behind (take i item) (get_or item i 0) p))

pub kept_more : (item : List ℕ) (i : ℕ) → i < length item → is_padding (get_or item i 0) ≡ false → take (i + 1) item ≡ before_padding (take (i + 1) item)
kept_more item i h p = rw (take_more item i 0 h) (sym (kept_behind (take i item) (get_or item i 0) p))
