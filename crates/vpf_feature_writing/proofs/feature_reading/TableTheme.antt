-- No table is a thematic index as well: its header text would count more entries than a file has bytes.
use Rattle.std.proofs.Common.{[], ◌≡◌, ℕ, zero, suc, ◌+◌, ◌*◌, ◌^◌, ◌<◌, ◌≤◌, true, false, List, ◌∷◌, ◌++◌, length, drop, inl, inr, sym, ap, subst, ◌∙◌, arith, append_assoc, length-append, length-drop, drop_at, le-mul_of_pos_right}
use Rattle.std.specs.Char.{is_ascii_control}
use Rattle.std.specs.Int.{w32}
use Rattle.std.specs.List.{AllByRecursion, list_any}
use Rattle.std.proofs.lemmas.Bool.Decides.{nat_tests}
use Rattle.vpf_base.proofs.Booleans.{neither}
use Rattle.vpf_base.proofs.NumberLemmas.{length-number, number_again}
use Rattle.vpf_base.specs.Limits.{most_bytes}
use Rattle.vpf_base.specs.Numbers.{number, number_of}
use Rattle.vpf_base.specs.declared.orders.Order.{Order}
use Rattle.vpf_base.specs.declared.orders.Order.TheVariants.{Big, Little}
use Rattle.vpf_head.specs.Bytes.{equals, semicolon}
use Rattle.vpf_head.specs.Forms.{holds_control}
use Rattle.vpf_head.specs.Head.{Col, Head, holds_data}
use Rattle.vpf_head.specs.Spelling.{IsColumn, IsColumns, IsHeaderText, IsMark}
use Rattle.vpf_table.specs.Grid.{Grid}
use Rattle.vpf_table.specs.Spelling.{IsTable}
use Rattle.vpf_theme.specs.Entries.{Entry, Theme}
use Rattle.vpf_theme.specs.Layouts.{entry_bytes, entry_start}
use Rattle.vpf_theme.specs.Spelling.{AreEntriesAt, IsEntryAt, IsNumberAt, IsThematicIndex, layout_from}
use Rattle.vpf_theme.specs.declared.layout.Layout.{Layout}

-- ---- text

-- a byte that is no control byte below the letters
abbrev IsPrinted : ℕ → Type 0
IsPrinted b = 32 ≤ b

-- so many bytes at the front are such
abbrev FirstPrinted : ℕ → List ℕ → Type 0
FirstPrinted zero bytes = Unit {0}
FirstPrinted (suc k) [] = ⊥
FirstPrinted (suc k) (b ∷ bytes) = IsPrinted b × FirstPrinted k bytes

fewer_printed : (k : ℕ) (bytes : List ℕ) → FirstPrinted (suc k) bytes → FirstPrinted k bytes
fewer_printed zero bytes h = tt
fewer_printed (suc k) [] h = absurd h
fewer_printed (suc k) (b ∷ bytes) h = (h.0, fewer_printed k bytes h.1)

-- bytes before them
printed_behind : (k : ℕ) (front rest : List ℕ) → AllByRecursion IsPrinted front → FirstPrinted k rest → FirstPrinted k (front ++ rest)
printed_behind k [] rest all h = h
printed_behind zero (b ∷ front) rest all h = tt
printed_behind (suc k) (b ∷ front) rest all h = (all.0, printed_behind k front rest all.1 (fewer_printed k rest h))

-- .. and behind them
printed_before : (k : ℕ) (bytes rest : List ℕ) → FirstPrinted k bytes → FirstPrinted k (bytes ++ rest)
printed_before zero bytes rest h = tt
printed_before (suc k) [] rest h = absurd h
printed_before (suc k) (b ∷ bytes) rest h = (h.0, printed_before k bytes rest h.1)

byte_printed : (b : ℕ) → is_ascii_control b ≡ false → IsPrinted b
byte_printed b e = grind (arith, nat_tests, e)

text_printed : (item : List ℕ) → holds_control item ≡ false → AllByRecursion IsPrinted item
text_printed [] e = tt
text_printed (b ∷ item) e =
    let both = neither (is_ascii_control b) (list_any is_ascii_control item) e in
    (byte_printed b both.0, text_printed item both.1)

-- ---- a header text begins with four bytes of text

-- a name that isn't empty, and what ends it
name_begins : (name rest : List ℕ) → AllByRecursion IsPrinted name → 0 < length name → FirstPrinted 1 rest → FirstPrinted 2 (name ++ rest)
name_begins [] rest all some h = absurd (omega (arith, some))
name_begins (b ∷ name) rest all some h = (all.0, printed_behind 1 name rest all.1 h)

column_begins : (before : List Col) (c : Col) (bytes : List ℕ) → IsColumn before c bytes → FirstPrinted 2 bytes
column_begins before c bytes is =
    subst (FirstPrinted 2) (sym is.spelled)
    (name_begins c.name (equals ∷ _) (text_printed c.name is.name_name.text.plain) is.name_some (omega arith, tt))

columns_begin : (columns : List Col) (bytes : List ℕ) → list_any holds_data columns ≡ true → IsColumns [] columns bytes → FirstPrinted 2 bytes
columns_begin [] bytes filled are = absurd (cc filled)
columns_begin (c ∷ columns) bytes filled are =
    subst (FirstPrinted 2) (sym are.parts) (printed_before 2 are.first are.rest (column_begins [] c are.first are.first_is))

mark_printed : (order : Order) (mark items : List ℕ) → IsMark order mark items → AllByRecursion IsPrinted mark
mark_printed Little mark items (inl is) = subst (AllByRecursion IsPrinted) (sym is) (omega arith, (omega arith, tt))
mark_printed Big mark items (inl is) = subst (AllByRecursion IsPrinted) (sym is) (omega arith, (omega arith, tt))
mark_printed order mark items (inr is) = subst (AllByRecursion IsPrinted) (sym is.0) tt

text_begins : (h : Head) (text : List ℕ) → IsHeaderText h text → FirstPrinted 4 text
text_begins h text is =
    let columns = printed_before 2 is.columns (semicolon ∷ is.blanks) (columns_begin h.columns is.columns is.columns_filled is.columns_are) in
    let narrative = printed_behind 3 is.narrative (semicolon ∷ (is.columns ++ semicolon ∷ is.blanks))
    (text_printed is.narrative is.narrative_name.text.plain) (omega arith, columns) in
    let items = printed_behind 4 h.description (semicolon ∷ (is.narrative ++ semicolon ∷ (is.columns ++ semicolon ∷ is.blanks)))
    (text_printed h.description is.description_text.plain) (omega arith, narrative) in
    let whole = printed_behind 4 is.mark is.items (mark_printed h.order is.mark is.items is.mark_is) (subst (FirstPrinted 4) (sym is.items_are) items) in
    subst (FirstPrinted 4) (sym is.spelled) whole

-- they follow the four bytes of its length
table_begins : (grid : Grid) (bytes : List ℕ) → IsTable grid bytes → FirstPrinted 4 (drop 4 bytes)
table_begins grid bytes is =
    let o = grid.head.order in
    let text = is.header.text in
    let first = number o w32 (length text) in
    let parts : bytes ≡ first ++ (text ++ is.rest) =
    is.parts ∙ ap (λ (x : List ℕ). x ++ is.rest) is.header.spelled ∙ append_assoc first text is.rest in
    let behind : drop 4 bytes ≡ text ++ is.rest =
    ap (drop 4) parts ∙ drop_at first (text ++ is.rest) 4 (length-number o (length text)) in
    subst (FirstPrinted 4) (sym behind) (printed_before 4 text is.rest (text_begins grid.head text is.header.text_is))

-- as a number they are large, in either order
large_number : (o : Order) (bytes : List ℕ) → FirstPrinted 4 bytes → 2 ^ 29 ≤ number_of o w32 bytes
large_number o [] h = absurd h
large_number o (a ∷ []) h = absurd h.1
large_number o (a ∷ b ∷ []) h = absurd h.1.1
large_number o (a ∷ b ∷ c ∷ []) h = absurd h.1.1.1
large_number Little (a ∷ b ∷ c ∷ d ∷ bytes) h = let last = h.1.1.1.0 in omega (arith, last)
large_number Big (a ∷ b ∷ c ∷ d ∷ bytes) h = let first = h.0 in omega (arith, first)

-- ---- a thematic index has no more entries than bytes

number_inside : (o : Order) (bytes : List ℕ) (at n : ℕ) → IsNumberAt o bytes at n → at < length bytes
number_inside o bytes at n is =
    let long = ap length is.1.1 ∙ length-append (number o w32 n) is.1.0 in
    let four = length-number o n in
    let past = length-drop at bytes in
    omega (arith, long, four, past)

-- an entry stands behind as many bytes as there are entries before it
entry_inside : (l : Layout) (bytes : List ℕ) (i : ℕ) (e : Entry) → IsEntryAt l bytes i e → i < length bytes
entry_inside l bytes i e is =
    let some : 0 < entry_bytes l = omega arith in
    let each : i ≤ i * entry_bytes l = le-mul_of_pos_right i some in
    let inside = number_inside l.order bytes (entry_start l i + length is.spelling + 4) is.extent.count is.count in
    omega (arith, each, inside)

entries_inside : (l : Layout) (bytes : List ℕ) (i : ℕ) (entries : List Entry) → AreEntriesAt l bytes i entries → i ≤ length bytes
    → i + length entries ≤ length bytes
entries_inside l bytes i [] are few = omega (arith, few)
entries_inside l bytes i (e ∷ entries) are few =
    let first = entry_inside l bytes i e are.0 in
    let rest = entries_inside l bytes (i + 1) entries are.1 (omega (arith, first)) in
    omega (arith, rest)

-- ---- no file is both

pub not_both : (grid : Grid) (bytes : List ℕ) (order : Order) (theme : Theme) → IsTable grid bytes → IsThematicIndex order theme bytes
    → length bytes ≤ most_bytes → ⊥
not_both grid bytes order theme table index few =
    let l = layout_from order index.row_size theme in
    let n = length theme.entries in
    let inside = entries_inside l bytes 0 theme.entries index.entries (omega arith) in
    let counted : number_of order w32 (drop 4 bytes) ≡ n =
    ap (number_of order w32) index.header.entries.1.1 ∙ number_again order n index.header.entries.1.0 index.header.entries.0 in
    let large = large_number order (drop 4 bytes) (table_begins grid bytes table) in
    omega (arith, inside, counted, large, few)
