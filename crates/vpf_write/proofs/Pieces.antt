-- Pieces of a list that are changed one after another, in place.
use Rattle.std.proofs.Common.{[], ◌≡◌, ℕ, zero, suc, ◌+◌, ◌-◌, ◌*◌, ◌/◌, ◌<◌, ◌≤◌, List, ◌∷◌, ◌++◌, length, take, drop, reverse, refl, sym, ap, ◌∙◌, append_assoc, arith}
use Rattle.std.proofs.Math.Nat.{mul-le-mul_left}
use Rattle.std.proofs.lemmas.List.{drop-drop, length-append, length-drop, length-take-le, length-reverse, take-append-drop, take_at, drop_at, take-append-le, drop-append-le}
use Rattle.std.proofs.lemmas.List.Sums.{sum_by-cons}
use Rattle.std.proofs.lemmas.Slice.{take-put_mid, drop-put_mid}
use borrow.Rule.Slice.PartMut.{put_mid}
use Rattle.vpf_value.specs.declared.turning.WordSize.{WordSize}
use Rattle.vpf_value.specs.declared.turning.WordSize.TheVariants.{One, Two, Four, Eight}
use Rattle.vpf_write.specs.declared.turning.Field.{Field}
use Rattle.vpf_value.specs.Inner.TurnedLaws.{bytes_stay}
use Rattle.vpf_value.specs.Inner.Turning.{each_piece, bytes_of_word, turned_cell}
use Rattle.vpf_write.specs.Inner.Turning.{fields_width, turned_words, turned_row}

-- the first pieces of a list are changed already, and those that are left are changed behind them
pub record Changing (f : List ℕ → List ℕ) (left size at : ℕ) (s all : List ℕ) : Type 0 where
  pub done : take at s ++ each_piece f left size (drop at s) ≡ all

pub none_changed : (f : List ℕ → List ℕ) (n size : ℕ) (s : List ℕ) → Changing f (n - 0) size (0 * size) s (each_piece f n size s)
none_changed f n size s = let z : n - 0 ≡ n = omega arith in let y : 0 * size ≡ 0 = omega arith in rw (z, y) (record { done = refl })

pub first_piece : (f : List ℕ → List ℕ) (n size : ℕ) (s : List ℕ) → each_piece f (suc n) size s ≡ f (take size s) ++ each_piece f n size (drop size s)
unfolding each_piece
first_piece f n size s = refl

-- one piece more is changed
one_more : (f : List ℕ → List ℕ) (n at size k : ℕ) (s y all : List ℕ) → k ≡ size → at + size ≤ length s → y ≡ f (take k (drop at s)) → length y ≡ size → Changing f (suc n) size at s all → Changing f n size (at + size) (put_mid at k s y) all
one_more f n at size k s y all e inside is len h =
    let front = take-put_mid at k s y (at + size) (omega (arith, len)) (omega arith) in
    let back = drop-put_mid at k s y (at + size) (omega (arith, e)) (omega arith) (len ∙ sym e) in
    let piece : f (take size (drop at s)) ≡ y = sym (is ∙ ap (λ (j : ℕ). f (take j (drop at s))) e) in
    let whole : take at s ++ (y ++ each_piece f n size (drop (at + size) s)) ≡ all = rw (← piece, ← drop-drop size at s, ← first_piece f n size (drop at s)) h.done in
    record { done = rw (front, back, append_assoc) whole }

inside : (i n size len : ℕ) → i < len / size → 0 < size → i * size + size ≤ len
inside i n size len h some = omega (arith, mul-le-mul_left size h)

-- all pieces keep their lengths
abbrev pub Keeps : (List ℕ → List ℕ) → ℕ → Type 0
Keeps f size = (x : List ℕ) → length x ≡ size → length (f x) ≡ size

pub one_changed : (f : List ℕ → List ℕ) (i size k whole : ℕ) (s y all : List ℕ) → length s ≡ whole → i < whole / size → 0 < size → Keeps f size → k ≡ size → y ≡ f (take k (drop (i * size) s)) → Changing f (whole / size - i) size (i * size) s all
    → Changing f (whole / size - (i + 1)) size ((i + 1) * size) (put_mid (i * size) k s y) all
one_changed f i size k whole s y all long more some keeps e is h =
    let n = whole / size in
    let fits : i * size + size ≤ length s = omega (arith, long, inside i n size whole more some) in
    let left : n - i ≡ suc (n - (i + 1)) = omega arith in
    let next : i * size + size ≡ (i + 1) * size = omega arith in
    let was : Changing f (suc (n - (i + 1))) size (i * size) s all = rw left at h in
    let piece : length (take k (drop (i * size) s)) ≡ k = length-take-le k (drop (i * size) s) (omega (arith, e, length-drop (i * size) s)) in
    let len : length y ≡ size = ap length is ∙ keeps (take k (drop (i * size) s)) (piece ∙ e) in
    rw (← next) (one_more f (n - (i + 1)) (i * size) size k s y all e fits is len was)

pub all_changed : (f : List ℕ → List ℕ) (left size at : ℕ) (s all : List ℕ) → left ≡ 0 → Changing f left size at s all → s ≡ all
unfolding each_piece
all_changed f left size at s all e h = let d : take at s ++ each_piece f 0 size (drop at s) ≡ all = rw e at h.done in sym (take-append-drop at s) ∙ d

-- no piece is changed
pub none_left : (f : List ℕ → List ℕ) (size : ℕ) (s : List ℕ) → each_piece f 0 size s ≡ s
unfolding each_piece
none_left f size s = refl

pub length-each_piece : (f : List ℕ → List ℕ) (n size : ℕ) (s : List ℕ) → Keeps f size → n * size ≤ length s → length (each_piece f n size s) ≡ length s
unfolding each_piece
length-each_piece f zero size s keeps h = refl
length-each_piece f (suc n) size s keeps h =
    let more : suc n * size ≡ size + n * size = omega arith in
    let first = keeps (take size s) (length-take-le size s (omega (arith, more))) in
    let others = length-each_piece f n size (drop size s) keeps (omega (arith, more, length-drop size s)) in
    omega (arith, length-append (f (take size s)) (each_piece f n size (drop size s)), first, others, length-drop size s, more, h)

pub reverse_keeps : (size : ℕ) → Keeps reverse size
reverse_keeps size x h = length-reverse x ∙ h

pub turned_words_keeps : (from many size width : ℕ) → from + many * size ≤ width → Keeps (turned_words from many size) width
turned_words_keeps from many size width h x e =
    let words = length-each_piece reverse many size (drop from x) (reverse_keeps size) (omega (arith, length-drop from x)) in
    omega (arith, length-append (take from x) (each_piece reverse many size (drop from x)), words, length-drop from x, length-take-le from x (omega arith))

-- a word of a piece is turned round
pub word_turned : (from size k : ℕ) (s y : List ℕ) → k ≡ size → y ≡ reverse (take k (drop from s)) → put_mid from k s y ≡ turned_words from 1 size s
word_turned from size k s y e is =
    let word : y ≡ reverse (take size (drop from s)) = is ∙ ap (λ (j : ℕ). reverse (take j (drop from s))) e in
    let rest : drop k (drop from s) ≡ each_piece reverse 0 size (drop size (drop from s)) = ap (λ (j : ℕ). drop j (drop from s)) e ∙ sym (none_left reverse size (drop size (drop from s))) in
    rw (word, rest, ← first_piece reverse 0 size (drop from s)) refl

-- what changes each piece in two steps changes the list in two steps
pub in_two_steps : (f g h : List ℕ → List ℕ) (n size : ℕ) (s : List ℕ) → Keeps h size → ((x : List ℕ) → length x ≡ size → f x ≡ g (h x)) → n * size ≤ length s → each_piece f n size s ≡ each_piece g n size (each_piece h n size s)
unfolding each_piece
in_two_steps f g h zero size s keeps same room = refl
in_two_steps f g h (suc n) size s keeps same room =
    let more : suc n * size ≡ size + n * size = omega arith in
    let len = length-take-le size s (omega (arith, more)) in
    let first = same (take size s) len in
    let front = take_at (h (take size s)) (each_piece h n size (drop size s)) size (keeps (take size s) len) in
    let back = drop_at (h (take size s)) (each_piece h n size (drop size s)) size (keeps (take size s) len) in
    let others = in_two_steps f g h n size (drop size s) keeps same (omega (arith, more, length-drop size s)) in
    rw (front, back, first, others) refl

front_and_mid : (a b c : List ℕ) (n : ℕ) → length a + length b ≡ n → take n (a ++ (b ++ c)) ≡ a ++ b
front_and_mid a b c n e = rw (← append_assoc a b c) (take_at (a ++ b) c n (length-append a b ∙ e))

behind_mid : (a b c : List ℕ) (n : ℕ) → length a + length b ≡ n → drop n (a ++ (b ++ c)) ≡ c
behind_mid a b c n e = rw (← append_assoc a b c) (drop_at (a ++ b) c n (length-append a b ∙ e))

-- the first word is turned, and then the others
pub first_word : (from many size : ℕ) (x : List ℕ) → from + size ≤ length x → turned_words from (suc many) size x ≡ turned_words (from + size) many size (turned_words from 1 size x)
first_word from many size x room =
    let rest = drop from x in
    let word = reverse (take size rest) in
    let one : each_piece reverse 1 size rest ≡ word ++ drop size rest = first_piece reverse 0 size rest ∙ ap (λ (ys : List ℕ). word ++ ys) (none_left reverse size (drop size rest)) in
    let len : length (take from x) + length word ≡ from + size = omega (arith, length-take-le from x (omega arith), length-reverse (take size rest), length-take-le size rest (omega (arith, length-drop from x))) in
    let front = front_and_mid (take from x) word (drop size rest) (from + size) len in
    let back = behind_mid (take from x) word (drop size rest) (from + size) len in
    rw (one, front, back, append_assoc (take from x) word (each_piece reverse many size (drop size rest)), ← first_piece reverse many size rest) refl

-- of pieces that lie in the list, so many as fit
pub pieces_fit : (len size : ℕ) → len / size * size ≤ len
pieces_fit len size = omega arith

pub unchanged : (f : List ℕ → List ℕ) (n size : ℕ) (s : List ℕ) → ((x : List ℕ) → f x ≡ x) → each_piece f n size s ≡ s
unfolding each_piece
unchanged f zero size s same = refl
unchanged f (suc n) size s same = rw (same (take size s), unchanged f n size (drop size s) same) (take-append-drop size s)

no_word : (from size : ℕ) (x : List ℕ) → turned_words from 0 size x ≡ x
no_word from size x = rw (none_left reverse size (drop from x)) (take-append-drop from x)

-- the words from the j-th on are left, and then those from the next on
pub words_begun : (from words size n width : ℕ) (s : List ℕ) → each_piece (turned_words (from + 0 * size) (words - 0) size) n width s ≡ each_piece (turned_words from words size) n width s
words_begun from words size n width s = let z : words - 0 ≡ words = omega arith in let y : from + 0 * size ≡ from = omega arith in rw (z, y) refl

word_room : (from words size j width : ℕ) → j < words → from + words * size ≤ width → from + j * size + size ≤ width
word_room from words size j width more room = omega (arith, mul-le-mul_left size more)

pub words_step : (from words size j width whole : ℕ) (s t all : List ℕ) → j < words → from + words * size ≤ width → length s ≡ whole → t ≡ each_piece (turned_words (from + j * size) 1 size) (length s / width) width s
    → each_piece (turned_words (from + j * size) (words - j) size) (whole / width) width s ≡ all → each_piece (turned_words (from + (j + 1) * size) (words - (j + 1)) size) (whole / width) width t ≡ all
words_step from words size j width whole s t all more room len is h =
    let at = from + j * size in
    let inside = word_room from words size j width more room in
    let left : words - j ≡ suc (words - (j + 1)) = omega arith in
    let next : from + (j + 1) * size ≡ at + size = omega arith in
    let was : each_piece (turned_words at (suc (words - (j + 1))) size) (whole / width) width s ≡ all = rw left at h in
    let now : t ≡ each_piece (turned_words at 1 size) (whole / width) width s = is ∙ ap (λ (n : ℕ). each_piece (turned_words at 1 size) (n / width) width s) len in
    let both = in_two_steps (turned_words at (suc (words - (j + 1))) size) (turned_words (at + size) (words - (j + 1)) size) (turned_words at 1 size) (whole / width) width s (turned_words_keeps at 1 size width (omega (arith, inside)))
    (λ x e. first_word at (words - (j + 1)) size x (omega (arith, inside))) (omega (arith, len, pieces_fit whole width)) in
    rw (next, now, ← both) was

pub words_done : (p left size n width : ℕ) (s all : List ℕ) → left ≡ 0 → each_piece (turned_words p left size) n width s ≡ all → s ≡ all
words_done p left size n width s all e h =
    let was : each_piece (turned_words p 0 size) n width s ≡ all = rw e at h in
    sym (unchanged (turned_words p 0 size) n width s (no_word p size)) ∙ was

-- ---- words of one byte

pub single_bytes : (from words n width : ℕ) (s : List ℕ) → s ≡ each_piece (turned_words from words 1) n width s
single_bytes from words n width s = sym (unchanged (turned_words from words 1) n width s (λ x. rw (bytes_stay words (drop from x)) (take-append-drop from x)))

-- ---- fields

pieces_before : (f : List ℕ → List ℕ) (n size : ℕ) (a b : List ℕ) → n * size ≤ length a → each_piece f n size (a ++ b) ≡ each_piece f n size a ++ b
unfolding each_piece
pieces_before f zero size a b room = refl
pieces_before f (suc n) size a b room =
    let more : suc n * size ≡ size + n * size = omega arith in
    let inside : size ≤ length a = omega (arith, more) in
    let others = pieces_before f n size (drop size a) b (omega (arith, more, length-drop size a)) in
    rw (take-append-le size a b inside, drop-append-le size a b inside, others) (sym (append_assoc (f (take size a)) (each_piece f n size (drop size a)) b))

-- the fields from one on, the first of which begins at `from`, with everything before as it is
abbrev pub turned_from : ℕ → List Field → List ℕ → List ℕ
turned_from from fs x = take from x ++ turned_row fs (drop from x)

some_size : (word : WordSize) → 0 < bytes_of_word word
some_size One = omega arith
some_size Two = omega arith
some_size Four = omega arith
some_size Eight = omega arith

first_field : (from : ℕ) (f : Field) (fs : List Field) (x : List ℕ) → from + f.width ≤ length x → turned_from from (f ∷ fs) x ≡ turned_from (from + f.width) fs (turned_words from (f.width / bytes_of_word f.word) (bytes_of_word f.word) x)
unfolding turned_row
first_field from f fs x room =
    let rest = drop from x in
    let cell = take f.width rest in
    let size = bytes_of_word f.word in
    let words = f.width / size in
    let cell_len : length cell ≡ f.width = length-take-le f.width rest (omega (arith, length-drop from x)) in
    let turned = each_piece reverse words size cell in
    let parts : each_piece reverse words size rest ≡ turned ++ drop f.width rest =
    ap (λ (s : List ℕ). each_piece reverse words size s) (sym (take-append-drop f.width rest)) ∙ pieces_before reverse words size cell (drop f.width rest) (omega (arith, cell_len, pieces_fit f.width size)) in
    let same : turned_cell f.word cell ≡ turned = ap (λ (n : ℕ). each_piece reverse (n / size) size cell) cell_len in
    let turned_len : length turned ≡ f.width = length-each_piece reverse words size cell (reverse_keeps size) (omega (arith, cell_len, pieces_fit f.width size)) ∙ cell_len in
    let len : length (take from x) + length turned ≡ from + f.width = omega (arith, length-take-le from x (omega arith), turned_len) in
    let front = front_and_mid (take from x) turned (drop f.width rest) (from + f.width) len in
    let back = behind_mid (take from x) turned (drop f.width rest) (from + f.width) len in
    rw (parts, front, back, same) (sym (append_assoc (take from x) turned (turned_row fs (drop f.width rest))))

-- the fields that are left
pub record Left (from width whole : ℕ) (fs : List Field) (s all : List ℕ) : Type 0 where
  pub room : from + fields_width fs ≡ width
  pub done : each_piece (turned_from from fs) (whole / width) width s ≡ all

pub fields_begun : (width whole : ℕ) (fs : List Field) (s : List ℕ) → fields_width fs ≡ width → Left 0 width whole fs s (each_piece (turned_row fs) (whole / width) width s)
fields_begun width whole fs s e = record { room = omega (arith, e); done = refl }

pub field_step : (from width whole : ℕ) (f : Field) (fs : List Field) (s t all : List ℕ) → length s ≡ whole → t ≡ each_piece (turned_words from (f.width / bytes_of_word f.word) (bytes_of_word f.word)) (length s / width) width s
    → Left from width whole (f ∷ fs) s all → Left (from + f.width) width whole fs t all
field_step from width whole f fs s t all len is h =
    let size = bytes_of_word f.word in
    let words = f.width / size in
    let sum : fields_width (f ∷ fs) ≡ f.width + fields_width fs = sum_by-cons (λ (x : Field). x.width) f fs in
    let room : from + f.width ≤ width = omega (arith, h.room, sum) in
    let now : t ≡ each_piece (turned_words from words size) (whole / width) width s = is ∙ ap (λ (n : ℕ). each_piece (turned_words from words size) (n / width) width s) len in
    let both = in_two_steps (turned_from from (f ∷ fs)) (turned_from (from + f.width) fs) (turned_words from words size) (whole / width) width s (turned_words_keeps from words size width (omega (arith, pieces_fit f.width size)))
    (λ x e. first_field from f fs x (omega (arith, e))) (omega (arith, len, pieces_fit whole width)) in
    record { room = omega (arith, h.room, sum); done = rw (now, ← both) h.done }

pub fields_done : (from width whole : ℕ) (fs : List Field) (s all : List ℕ) → fs ≡ [] → Left from width whole fs s all → s ≡ all
unfolding turned_row
fields_done from width whole fs s all e h =
    let done : each_piece (turned_from from []) (whole / width) width s ≡ all = rw e at h.done in
    sym (unchanged (turned_from from []) (whole / width) width s (λ x. take-append-drop from x)) ∙ done
