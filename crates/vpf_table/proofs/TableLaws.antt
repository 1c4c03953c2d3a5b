-- What is read is spelled so, and what is spelled so is read: tables.
use Rattle.std.proofs.Common.{◌≡◌, ℕ, ◌<◌, Bool, true, false, List, [], ◌∷◌, length, take, drop, Ok, refl, sym, ap, subst, ◌∙◌, arith}
use Rattle.std.specs.Prelude.{◌||◌, ◌≢◌, All}
use Rattle.std.specs.List.{list_any}
use Rattle.std.proofs.lemmas.List.{drop_at, take-append-drop, length-append}
use Rattle.std.proofs.lemmas.List.Elements.{All-head, All-tail}
use Rattle.vpf_base.specs.Limits.{most_rows}
use Rattle.vpf_base.proofs.Results.{ok_is, bind_ok}
use Rattle.vpf_base.specs.Results.{◌>>=◌}
use Rattle.vpf_base.specs.Bytes.{IsBytes}
use Rattle.vpf_base.specs.declared.orders.Order.{Order}
use Rattle.vpf_triplet.specs.declared.kinds.Kind.{Kind}
use Rattle.vpf_triplet.specs.declared.kinds.Kind.TheVariants as kinds
use Rattle.vpf_triplet.specs.declared.kinds.Count.{Count}
use Rattle.vpf_triplet.specs.declared.kinds.Count.TheVariants.{Fixed}
use Rattle.vpf_findings.specs.Values.{Value}
use Rattle.vpf_head.specs.Head.{Head, Col, is_data, holds_data}
use Rattle.vpf_head.specs.Reading.{header_of}
use Rattle.vpf_head.specs.Inner.Soundness.{IsInBounds, IsCounted, IsSound}
use Rattle.vpf_table.specs.Grid.{Row, Grid}
use Rattle.vpf_table.specs.Reading.{rows_at, table_of}
use Rattle.vpf_table.specs.Spelling.{IsRow, IsTable}
use Rattle.vpf_table.specs.Inner.Lower.{CellAndHeaderLaws}
use Rattle.vpf_table.proofs.RowLaws.{HasRoom, rows_again, rows_take}

data_is_not_x : (kind : Kind) → is_data kind ≡ true → kind ≢ kinds.X
data_is_not_x kind d e = let k : true ≡ false = sym d ∙ ap is_data e in absurd cc

bounds_are_not_zero : (count : Count) → IsInBounds count → count ≢ Fixed 0
bounds_are_not_zero count b e = let k : IsInBounds (Fixed 0) = subst IsInBounds e b in absurd (omega (arith, k.0))

either : (a b : Bool) → (a || b) ≡ true → a ≡ false → b ≡ true
either true b e f = absurd cc
either false b e f = e

room_by : CellAndHeaderLaws → (o : Order) (c : Col) (cs : List Col) (v : Value) (vs : Row) (x : List ℕ) (b : Bool) → is_data c.kind ≡ b → IsCounted c → list_any holds_data (c ∷ cs) ≡ true → IsRow o (c ∷ cs) (v ∷ vs) x
    → (list_any holds_data cs ≡ true → (y : List ℕ) → IsRow o cs vs y → 0 < length y) → 0 < length x
room_by laws o c cs v vs x true e s d h later = omega (arith, laws.cell_has_room o c.kind c.count v h.0 (data_is_not_x c.kind e) (bounds_are_not_zero c.count s.bounds) h.3, ap length h.2, length-append h.0 h.1)
room_by laws o c cs v vs x false e s d h later = omega (arith, later (either (is_data c.kind) (list_any holds_data cs) d e) h.1 h.4, ap length h.2, length-append h.0 h.1)

row_room : CellAndHeaderLaws → (o : Order) (cs : List Col) (r : Row) (x : List ℕ) → All IsCounted cs → list_any holds_data cs ≡ true → IsRow o cs r x → 0 < length x
row_room laws o [] r x s d h = absurd cc
row_room laws o (c ∷ cs) [] x s d h = absurd h
row_room laws o (c ∷ cs) (v ∷ vs) x s d h =
    room_by laws o c cs v vs x (is_data c.kind) refl (All-head IsCounted c cs s) d h (λ e y i. row_room laws o cs vs y (All-tail IsCounted c cs s) e i)

pub has_room : CellAndHeaderLaws → (h : Head) → IsSound h → HasRoom h.order h.columns
has_room laws h s r x i = row_room laws h.order h.columns r x s.counts s.filled i

pub table_again : CellAndHeaderLaws → (g : Grid) (bytes : List ℕ) → IsTable g bytes → table_of bytes ≡ Ok g
unfolding table_of
table_again laws g bytes t =
    let head = laws.header_is_read bytes g.head t.front t.rest (record { parts = t.parts; spelled = t.header }) in
    let sound = laws.header_is_sound bytes g.head (length t.front) head in
    let left : drop (length t.front) bytes ≡ t.rest = ap (drop (length t.front)) t.parts ∙ drop_at t.front t.rest (length t.front) refl in
    let rows = rows_again laws most_rows g.head.order g.head.columns g.rows bytes (length t.front) t.rest (has_room laws g.head sound) left t.most t.rows in
    rw (head, rows) refl

pub table_takes : CellAndHeaderLaws → (bytes : List ℕ) (g : Grid) → IsBytes bytes → table_of bytes ≡ Ok g → IsTable g bytes
unfolding table_of
table_takes laws bytes g fits e =
    let a = bind_ok (header_of bytes) (λ h. rows_at most_rows h.0.order h.0.columns bytes h.1 >>= λ rs. Ok (record { head = h.0; rows = rs })) g e in
    let h = a.0 in
    let b = bind_ok (rows_at most_rows h.0.order h.0.columns bytes h.1) (λ rs. Ok (record { head = h.0; rows = rs })) g a.2 in
    let made : Grid = record { head = h.0; rows = b.0 } in
    let head = laws.header_is_spelled bytes h.0 h.1 fits a.1 in
    let rows = rows_take laws most_rows h.0.order h.0.columns bytes h.1 b.0 fits head.0 b.1 in
    let table : IsTable made bytes = record { front = take h.1 bytes; rest = drop h.1 bytes; parts = sym (take-append-drop h.1 bytes); header = head.1; rows = rows.1; most = rows.0 } in
    subst (λ (x : Grid). IsTable x bytes) (ok_is {x = made} {y = g} b.2) table
