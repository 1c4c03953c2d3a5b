-- The bytes that are written of a layout and entries are a file of that index.
use Rattle.std.proofs.Common.{[], ◌≡◌, ℕ, ◌+◌, ◌*◌, ◌^◌, ◌<◌, ◌≤◌, List, ◌∷◌, ◌++◌, length, drop, append_assoc, Some, refl, ap, ◌∙◌, arith}
use Rattle.std.specs.Int.{w32}
use Rattle.std.proofs.lemmas.List.{length-append, length-drop}
use Rattle.vpf_base.specs.declared.orders.Order.{Order}
use Rattle.vpf_triplet.specs.declared.kinds.Kind.{Kind}
use Rattle.vpf_triplet.specs.declared.kinds.Count.{Count}
use Rattle.vpf_triplet.specs.declared.kinds.Count.TheVariants.{Fixed}
use Rattle.vpf_base.specs.Numbers.{number}
use Rattle.vpf_value.specs.Values.{Value}
use Rattle.vpf_value.specs.Canonical.{spelled}
use Rattle.vpf_value.specs.Inner.Fitting.{FitsCell}
use Rattle.vpf_value.specs.Spelling.{IsCell}
use Rattle.vpf_value.specs.Widths.{cell_width}
use Rattle.vpf_theme.specs.declared.layout.RowSize.{RowSize}
use Rattle.vpf_theme.specs.declared.layout.Layout.{Layout}
use Rattle.vpf_theme.specs.Layouts.{HasValues, directory_end, entry_bytes, entry_start, value_bytes}
use Rattle.vpf_theme.specs.Entries.{Entry, Theme}
use Rattle.vpf_theme.specs.Spelling.{AreEntriesAt, IsBelow, IsEntryAt, IsThematicIndex, ValuesRise, layout_from}
use Rattle.vpf_theme.specs.Inner.PieceLaws.{after, length-u32}
use Rattle.vpf_theme.specs.Inner.ValueLaws.{indexed_width}
use Rattle.vpf_theme_build.specs.Text.{all_data, count_by, data_text, directory_text, entry_text, header_text, index_text, offset_by}
use Rattle.vpf_theme_build.specs.Inner.Writing.{AreEntryRows}
use Rattle.vpf_theme_build.proofs.EntryLists.{AllAbove, Rising}
use Rattle.vpf_theme_build.proofs.HeaderLemmas.{IsStored, front_stands}
use Rattle.vpf_theme_build.proofs.ListedLemmas.{count_small, data_stand, extent_for, offset_small}

-- ---- the laws of cells that are used

-- a value that fits is spelled
abbrev pub AreSpelled : Type 0
AreSpelled = (order : Order) (kind : Kind) (count : Count) (v : Value) → FitsCell kind count v → IsCell order kind count v (spelled order kind count v)

-- it has as many bytes as its field
abbrev pub HaveWidths : Type 0
HaveWidths = (order : Order) (kind : Kind) (count : Count) (v : Value) (width : ℕ) → cell_width kind count ≡ Some width → FitsCell kind count v → length (spelled order kind count v) ≡ width

length-value : HaveWidths → (l : Layout) (v : Value) → HasValues l → FitsCell l.kind (Fixed l.count) v → length (spelled l.order l.kind (Fixed l.count) v) ≡ value_bytes l
length-value wide l v h fits = wide l.order l.kind (Fixed l.count) v (value_bytes l) (indexed_width l.kind l.count h.0) fits

-- ---- an entry

-- the value fits the column, and the rows are rows of the table, rising
pub record IsEntry (l : Layout) (e : Entry) : Type 0 where
  pub fits : FitsCell l.kind (Fixed l.count) e.value
  pub some : 0 < length e.rows
  pub rows : AreEntryRows l e.rows

abbrev value_text : Layout → Entry → List ℕ
value_text l e = spelled l.order l.kind (Fixed l.count) e.value

abbrev offset_text : Layout → ℕ → Entry → List ℕ
offset_text l at e = number l.order w32 (offset_by l.form at e.rows)

abbrev count_text : Layout → Entry → List ℕ
count_text l e = number l.order w32 (count_by l.form l e.rows)

length-entry : HaveWidths → (l : Layout) (at : ℕ) (e : Entry) → HasValues l → IsEntry l e → length (entry_text l at e) ≡ entry_bytes l
length-entry wide l at e v is =
    omega (arith, length-append (value_text l e ++ offset_text l at e) (count_text l e), length-append (value_text l e) (offset_text l at e), length-value wide l e.value v is.fits, length-u32 l.order (offset_by l.form at e.rows), length-u32 l.order (count_by l.form l e.rows))

entry_stands : AreSpelled → (l : Layout) (bytes : List ℕ) (i at : ℕ) (e : Entry) (rest others : List ℕ) → at < 2 ^ 32 → directory_end l ≤ at → IsEntry l e → drop (entry_start l i) bytes ≡ entry_text l at e ++ rest → drop at bytes ≡ data_text l e.rows ++ others → IsEntryAt l bytes i e
entry_stands cells l bytes i at e rest others small low is stands data_stands =
    let start = entry_start l i in
    let value = stands ∙ append_assoc (value_text l e ++ offset_text l at e) (count_text l e) rest ∙ append_assoc (value_text l e) (offset_text l at e) (count_text l e ++ rest) in
    let offset = after bytes (value_text l e) (offset_text l at e ++ (count_text l e ++ rest)) start (length (value_text l e)) refl value in
    let count = after bytes (offset_text l at e) (count_text l e ++ rest) (start + length (value_text l e)) 4 (length-u32 l.order (offset_by l.form at e.rows)) offset in
    record {
      spelling = value_text l e;
      extent = extent_for l.form l at e.rows;
      spelled = cells l.order l.kind (Fixed l.count) e.value is.fits;
      value = (_, value);
      offset = (offset_small l.form l at e.rows is.rows is.some small, (_, offset));
      count = (count_small l.form l e.rows is.rows, (_, count));
      inside = is.rows.inside;
      rows = data_stand l.form l bytes others at e.rows is.rows is.some low data_stands;
    }

-- ---- the entries one after another

abbrev pub EachEntry : Layout → List Entry → Type 0
EachEntry l [] = Unit {0}
EachEntry l (e ∷ es) = IsEntry l e × EachEntry l es

-- what the bytes hold from entry i on, whose data begin at `at`
record Hold (l : Layout) (bytes : List ℕ) (i at : ℕ) (es : List Entry) (rest : List ℕ) : Type 0 where
  directory : drop (entry_start l i) bytes ≡ directory_text l at es ++ rest
  stored : drop at bytes ≡ all_data l es
  low : directory_end l ≤ at
  high : at ≤ length bytes

entries_stand : AreSpelled → HaveWidths → (l : Layout) (bytes : List ℕ) (i at : ℕ) (es : List Entry) (rest : List ℕ) → HasValues l → length bytes < 2 ^ 32 → EachEntry l es → Hold l bytes i at es rest → AreEntriesAt l bytes i es
entries_stand cells wide l bytes i at [] rest v small each h = tt
entries_stand cells wide l bytes i at (e ∷ es) rest v small each h =
    let others = all_data l es in
    let behind = at + length (data_text l e.rows) in
    let stands = h.directory ∙ append_assoc (entry_text l at e) (directory_text l behind es) rest in
    let z : entry_start l i + entry_bytes l ≡ entry_start l (i + 1) = omega arith in
    let next = after bytes (entry_text l at e) (directory_text l behind es ++ rest) (entry_start l i) (entry_bytes l) (length-entry wide l at e v each.0) stands in (
      entry_stands cells l bytes i at e (directory_text l behind es ++ rest) others (omega (arith, h.high)) h.low each.0 stands h.stored,
      entries_stand cells wide l bytes (i + 1) behind es rest v small each.1 (record {
        directory = rw z at next;
        stored = after bytes (data_text l e.rows) others at (length (data_text l e.rows)) refl h.stored;
        low = omega (arith, h.low);
        high = omega (arith, h.high, length-drop at bytes, ap length h.stored, length-append (data_text l e.rows) others);
      }),
    )

length-directory : HaveWidths → (l : Layout) (at : ℕ) (es : List Entry) → HasValues l → EachEntry l es → length (directory_text l at es) ≡ length es * entry_bytes l
length-directory wide l at [] v each = omega arith
length-directory wide l at (e ∷ es) v each =
    let k = length-directory wide l (at + length (data_text l e.rows)) es v each.1 in
    let m = length-entry wide l at e v each.0 in
    length-append (entry_text l at e) (directory_text l (at + length (data_text l e.rows)) es) ∙ omega (arith, k, m)

below_first : (v : Value) (es : List Entry) → AllAbove v es → IsBelow v es
below_first v [] a = tt
below_first v (e ∷ es) a = a.0

values_rise : (es : List Entry) → Rising es → ValuesRise es
values_rise [] r = tt
values_rise (e ∷ es) r = (below_first e.value es r.0, values_rise es r.1)

-- ---- the index

-- what is known of an index that is written with row numbers of this size
pub record IsWritten (o : Order) (size : RowSize) (t : Theme) : Type 0 where
  pub values : HasValues (layout_from o size t)
  pub stored : IsStored (layout_from o size t)
  pub each : EachEntry (layout_from o size t) t.entries
  pub rise : Rising t.entries
  pub small : directory_end (layout_from o size t) + length (all_data (layout_from o size t) t.entries) < 2 ^ 32

-- it has the bytes of its header, its directory and its data
pub index_long : HaveWidths → (o : Order) (size : RowSize) (t : Theme) (table column : List ℕ) → IsWritten o size t → length (index_text (layout_from o size t) table column t.entries) ≡ directory_end (layout_from o size t) + length (all_data (layout_from o size t) t.entries)
index_long wide o size t table column w =
    let l = layout_from o size t in
    let es = t.entries in
    let bytes = index_text l table column es in
    let d = directory_text l (directory_end l) es in
    let front = front_stands l bytes table column (d ++ all_data l es) w.stored (append_assoc (header_text l table column) d (all_data l es)) in
    let len = length-directory wide l (directory_end l) es w.values w.each in
    omega (arith, length-drop 60 bytes, ap length front.directory, length-append d (all_data l es), len, front.header.long)

pub index_stands : AreSpelled → HaveWidths → (o : Order) (size : RowSize) (t : Theme) (table column : List ℕ) → IsWritten o size t → IsThematicIndex o t (index_text (layout_from o size t) table column t.entries)
index_stands cells wide o size t table column w =
    let l = layout_from o size t in
    let es = t.entries in
    let bytes = index_text l table column es in
    let d = directory_text l (directory_end l) es in
    let front = front_stands l bytes table column (d ++ all_data l es) w.stored (append_assoc (header_text l table column) d (all_data l es)) in
    let start : entry_start l 0 ≡ 60 = omega arith in
    let len = length-directory wide l (directory_end l) es w.values w.each in
    let stored = after bytes d (all_data l es) 60 (length es * entry_bytes l) len front.directory in
    let long = index_long wide o size t table column w in
    let h : Hold l bytes 0 (directory_end l) es (all_data l es) = record {
      directory = ap (λ (n : ℕ). drop n bytes) start ∙ front.directory;
      stored = stored;
      low = omega arith;
      high = omega (arith, long);
    } in
    record {
      row_size = size;
      values = w.values;
      header = front.header;
      entries = entries_stand cells wide l bytes 0 (directory_end l) es (all_data l es) w.values (omega (arith, long, w.small)) w.each h;
      rise = λ s. values_rise es w.rise;
    }
