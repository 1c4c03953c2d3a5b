-- The grammar's first fault, and reading, when bytes follow.
use Rattle.std.proofs.Common.{◌≡◌, ℕ, ◌+◌, ◌≤◌, List, [], ◌∷◌, ◌++◌, length, take, drop, None, Ok, Err, refl, sym, ap, subst, ◌∙◌, append_assoc, arith, inl, inr}
use Rattle.std.specs.Prelude.{◌≢◌}
use Rattle.std.specs.Int.{w32}
use Rattle.std.proofs.lemmas.List.{drop-append-le, take-append-le, take-append-drop, length-append, length-drop, length-take-le}
use Rattle.vpf_base.specs.Bytes.{IsBytes}
use Rattle.vpf_base.specs.declared.orders.Order.{Order}
use Rattle.vpf_base.specs.declared.orders.Order.TheVariants.{Little, Big}
use Rattle.vpf_triplet.specs.declared.kinds.Kind.{Kind}
use Rattle.vpf_triplet.specs.declared.kinds.Kind.TheVariants as kinds
use Rattle.vpf_triplet.specs.declared.kinds.Count.{Count}
use Rattle.vpf_triplet.specs.declared.kinds.Count.TheVariants.{Fixed, Star}
use Rattle.vpf_triplet.specs.declared.places.Place.{Place}
use Rattle.vpf_triplet.specs.declared.places.Code.{Code}
use Rattle.vpf_triplet.specs.declared.places.Code.TheVariants as codes
use Rattle.vpf_triplet.specs.declared.sizes.Size.{Size}
use Rattle.vpf_triplet.specs.declared.sizes.Size.TheVariants.{Absent, One, Two, Four}
use Rattle.vpf_triplet.specs.Faults as triplets
use Rattle.vpf_triplet.specs.Faults.{FirstTripletFault, IsLarge}
use Rattle.vpf_base.specs.Numbers.{number_of}
use Rattle.vpf_triplet.specs.Places.{fault}
use Rattle.vpf_triplet.specs.Sizes.{size_bytes}
use Rattle.vpf_value.specs.Faults.{FirstCellFault, AreCut}
use Rattle.vpf_value.specs.Values.{Value}
use Rattle.vpf_value.specs.Reading.{cell_from}
use Rattle.vpf_head.specs.Faults as headers
use Rattle.vpf_head.specs.Faults.{FirstHeaderFault, TextFault, length_number}
use Rattle.vpf_head.specs.Head.{Head, Col}
use Rattle.vpf_head.specs.Reading.{header_of, order_of}
use Rattle.vpf_table.specs.Faults as faults
use Rattle.vpf_table.specs.Faults.{Begins, Stops, TableFault, FirstFault}
use Rattle.vpf_table.specs.Grid.{Row}
use Rattle.vpf_table.specs.Inner.Lower.{CellAndHeaderLaws}
use Rattle.vpf_feed.specs.Inner.Staying.Staying.{order_bytes}

-- ---- numbers at the front

pub number4_stays : (o : Order) (bytes more : List ℕ) → 4 ≤ length bytes → number_of o w32 (bytes ++ more) ≡ number_of o w32 bytes
number4_stays o [] more h = absurd (omega arith)
number4_stays o (a ∷ []) more h = absurd (omega arith)
number4_stays o (a ∷ b ∷ []) more h = absurd (omega arith)
number4_stays o (a ∷ b ∷ c ∷ []) more h = absurd (omega arith)
number4_stays Little (a ∷ b ∷ c ∷ d ∷ rest) more h = refl
number4_stays Big (a ∷ b ∷ c ∷ d ∷ rest) more h = refl

order_stays : (bytes more : List ℕ) → order_bytes ≤ length bytes → order_of (bytes ++ more) ≡ order_of bytes
order_stays [] more h = absurd (omega arith)
order_stays (a ∷ []) more h = absurd (omega arith)
order_stays (a ∷ b ∷ []) more h = absurd (omega arith)
order_stays (a ∷ b ∷ c ∷ []) more h = absurd (omega arith)
order_stays (a ∷ b ∷ c ∷ d ∷ []) more h = absurd (omega arith)
order_stays (a ∷ b ∷ c ∷ d ∷ e ∷ []) more h = absurd (omega arith)
order_stays (a ∷ b ∷ c ∷ d ∷ e ∷ f ∷ rest) more h = refl

pub length_stays : (bytes more : List ℕ) → order_bytes ≤ length bytes → length_number (bytes ++ more) ≡ length_number bytes
length_stays bytes more h = ap (λ (o : Order). number_of o w32 (bytes ++ more)) (order_stays bytes more h) ∙ number4_stays (order_of bytes) bytes more (omega arith)

-- ---- triplet ids and cells

large_stays : (o : Order) (s : Size) (bytes more : List ℕ) → size_bytes s ≤ length bytes → IsLarge o s bytes → IsLarge o s (bytes ++ more)
large_stays o Absent bytes more h l = absurd l
large_stays o One bytes more h l = absurd l
large_stays o Two bytes more h l = absurd l
large_stays o Four bytes more h l = rw (number4_stays o bytes more h) l

large_behind : (o : Order) (s : Size) (n : ℕ) (bytes more : List ℕ) → n + size_bytes s ≤ length bytes → IsLarge o s (drop n bytes) → IsLarge o s (drop n (bytes ++ more))
large_behind o s n bytes more h l =
    subst (IsLarge o s) (sym (drop-append-le n bytes more (omega arith))) (large_stays o s (drop n bytes) more (omega (arith, length-drop n bytes)) l)

pub triplet_stays : (o : Order) (bytes more : List ℕ) (code : Code) → code ≢ codes.CellCut → FirstTripletFault o bytes code → FirstTripletFault o (bytes ++ more) code
triplet_stays o bytes more code ne triplets.no_type = absurd (ne refl)
triplet_stays o bytes more code ne (triplets.reserved first rest h) = triplets.reserved first (rest ++ more) h
triplet_stays o bytes more code ne (triplets.cut a b c rest h) = absurd (ne refl)
triplet_stays o bytes more code ne (triplets.large_id a b c rest h l) = triplets.large_id a b c (rest ++ more) (omega (arith, length-append rest more)) (large_stays o a rest more (omega arith) l)
triplet_stays o bytes more code ne (triplets.large_tile a b c rest h l) = triplets.large_tile a b c (rest ++ more) (omega (arith, length-append rest more)) (large_behind o b (size_bytes a) rest more (omega arith) l)
triplet_stays o bytes more code ne (triplets.large_ext a b c rest h l) = triplets.large_ext a b c (rest ++ more) (omega (arith, length-append rest more)) (large_behind o c (size_bytes a + size_bytes b) rest more (omega arith) l)

cut_is : (size : ℕ) (o : Order) (count : Count) (bytes : List ℕ) (code : Code) → AreCut size o count bytes code → code ≡ codes.CellCut
cut_is size o (Fixed n) bytes code h = h.1
cut_is size o Star bytes code h = elim h [ inl x ↦ x.1 | inr x ↦ x.1 ]

pub cell_fault_stays : (o : Order) (kind : Kind) (count : Count) (bytes more : List ℕ) (code : Code) → code ≢ codes.CellCut → FirstCellFault o kind count bytes code → FirstCellFault o kind count (bytes ++ more) code
cell_fault_stays o kinds.T count bytes more code ne h = absurd (ne (cut_is 1 o count bytes code h))
cell_fault_stays o kinds.L count bytes more code ne h = absurd (ne (cut_is 1 o count bytes code h))
cell_fault_stays o kinds.M count bytes more code ne h = absurd (ne (cut_is 1 o count bytes code h))
cell_fault_stays o kinds.N count bytes more code ne h = absurd (ne (cut_is 1 o count bytes code h))
cell_fault_stays o kinds.F count bytes more code ne h = absurd (ne h.1)
cell_fault_stays o kinds.R count bytes more code ne h = absurd (ne h.1)
cell_fault_stays o kinds.S count bytes more code ne h = absurd (ne h.1)
cell_fault_stays o kinds.I count bytes more code ne h = absurd (ne h.1)
cell_fault_stays o kinds.D count bytes more code ne h = absurd (ne h.1)
cell_fault_stays o kinds.X count bytes more code ne h = absurd h
cell_fault_stays o kinds.K count bytes more code ne h = triplet_stays o bytes more code ne h
cell_fault_stays o kinds.C count bytes more code ne h = absurd (ne (cut_is 8 o count bytes code h))
cell_fault_stays o kinds.B count bytes more code ne h = absurd (ne (cut_is 16 o count bytes code h))
cell_fault_stays o kinds.Z count bytes more code ne h = absurd (ne (cut_is 12 o count bytes code h))
cell_fault_stays o kinds.Y count bytes more code ne h = absurd (ne (cut_is 24 o count bytes code h))

-- ---- headers

pub header_stays : (bytes more : List ℕ) (place : Place) → order_bytes ≤ length bytes → place.code ≢ codes.HeaderCut → FirstHeaderFault bytes place → FirstHeaderFault (bytes ++ more) place
header_stays bytes more place six ne (headers.number_cut h) = absurd (omega arith)
header_stays bytes more place six ne (headers.limit_header h l) =
    let e : length_number (bytes ++ more) ≡ length_number bytes = length_stays bytes more six in
    subst (λ (n : ℕ). FirstHeaderFault (bytes ++ more) (fault 0 (codes.LimitHeader n))) e (headers.limit_header (omega (arith, length-append bytes more)) (rw e l))
header_stays bytes more place six ne (headers.header_cut h l k) = absurd (ne refl)
header_stays bytes more place six ne (headers.in_text at code l k t) =
    let e : length_number (bytes ++ more) ≡ length_number bytes = length_stays bytes more six in
    let text : take (4 + length_number (bytes ++ more)) (bytes ++ more) ≡ take (4 + length_number bytes) bytes =
    ap (λ (n : ℕ). take (4 + n) (bytes ++ more)) e ∙ take-append-le (4 + length_number bytes) bytes more (omega arith) in
    headers.in_text at code (rw e l) (omega (arith, e, length-append bytes more)) (subst (λ (x : List ℕ). TextFault x at code) (sym text) t)

-- ---- tables

begun_stays : (bytes more : List ℕ) (h : Head) (rows : List Row) (at : ℕ) → Begins bytes h rows at → Begins (bytes ++ more) h rows at
begun_stays bytes more h rows at b = record {
  front = b.front;
  body = b.body;
  rest = b.rest ++ more;
  parts = ap (λ (x : List ℕ). x ++ more) b.parts ∙ append_assoc b.front (b.body ++ b.rest) more ∙ ap (λ (x : List ℕ). b.front ++ x) (append_assoc b.body b.rest more);
  header = b.header;
  spelled = b.spelled;
  there = b.there;
  more = omega (arith, b.more, length-append b.rest more);
}

inside : (bytes : List ℕ) (h : Head) (rows : List Row) (at : ℕ) → Begins bytes h rows at → at ≤ length bytes
inside bytes h rows at b = omega (arith, b.there, ap length b.parts, length-append b.front (b.body ++ b.rest), length-append b.body b.rest)

stop_stays : (o : Order) (cs : List Col) (bytes more : List ℕ) (at : ℕ) (place : Place) → at ≤ length bytes → place.code ≢ codes.CellCut → Stops o cs bytes at place → Stops o cs (bytes ++ more) at place
stop_stays o cs bytes more at place h ne s = record {
  before = s.before;
  next = s.next;
  after = s.after;
  cells = s.cells;
  text = s.text;
  rest = s.rest ++ more;
  columns = s.columns;
  parts = drop-append-le at bytes more h ∙ ap (λ (x : List ℕ). x ++ more) s.parts ∙ append_assoc s.text s.rest more;
  spelled = s.spelled;
  refused = cell_fault_stays o s.next.kind s.next.count s.rest more place.code ne s.refused;
  there = s.there;
}

table_stays : (bytes more : List ℕ) (place : Place) → order_bytes ≤ length bytes → TableFault bytes place → place.code ≢ codes.HeaderCut → place.code ≢ codes.CellCut → TableFault (bytes ++ more) place
table_stays bytes more place six (faults.in_header q f) ne nc = faults.in_header q (header_stays bytes more q six ne f)
table_stays bytes more place six (faults.in_row h rows at q b few s) ne nc = faults.in_row h rows at q (begun_stays bytes more h rows at b) few (stop_stays h.order h.columns bytes more at q (inside bytes h rows at b) nc s)
table_stays bytes more place six (faults.too_many h rows at b all) ne nc = faults.too_many h rows at (begun_stays bytes more h rows at b) all

pub fault_stays : (bytes more : List ℕ) (place : Place) → order_bytes ≤ length bytes → FirstFault bytes None place → place.code ≢ codes.HeaderCut → place.code ≢ codes.CellCut → FirstFault (bytes ++ more) None place
fault_stays bytes more place six (faults.in_table index q f) ne nc = faults.in_table None q (table_stays bytes more q six f ne nc)

-- ---- reading

pub header_goes_on : CellAndHeaderLaws → (bytes more : List ℕ) (h : Head) (start : ℕ) → IsBytes bytes → header_of bytes ≡ Ok (h, start) → header_of (bytes ++ more) ≡ Ok (h, start)
header_goes_on laws bytes more h start fits e =
    let s = laws.header_is_spelled bytes h start fits e in
    let front : List ℕ = take start bytes in
    let split : bytes ++ more ≡ front ++ (drop start bytes ++ more) = ap (λ (x : List ℕ). x ++ more) (sym (take-append-drop start bytes)) ∙ append_assoc front (drop start bytes) more in
    laws.header_is_read (bytes ++ more) h front (drop start bytes ++ more) (record { parts = split; spelled = s.1 }) ∙ ap (λ (n : ℕ). Ok (h, n)) (length-take-le start bytes s.0)

pub header_stays_refused : CellAndHeaderLaws → (bytes more : List ℕ) (place : Place) → order_bytes ≤ length bytes → header_of bytes ≡ Err place → place.code ≢ codes.HeaderCut → header_of (bytes ++ more) ≡ Err place
header_stays_refused laws bytes more place six e ne = laws.header_is_refused (bytes ++ more) place (header_stays bytes more place six ne (laws.header_fault bytes place e))

pub cell_goes_on : CellAndHeaderLaws → (o : Order) (kind : Kind) (count : Count) (bytes more : List ℕ) (v : Value) (n : ℕ) → IsBytes bytes → cell_from o kind count bytes ≡ Ok (v, n) → cell_from o kind count (bytes ++ more) ≡ Ok (v, n)
cell_goes_on laws o kind count bytes more v n fits e =
    let s = laws.cell_is_spelled o kind count bytes v n fits e in
    let front : List ℕ = take n bytes in
    let split : bytes ++ more ≡ front ++ (drop n bytes ++ more) = ap (λ (x : List ℕ). x ++ more) (sym (take-append-drop n bytes)) ∙ append_assoc front (drop n bytes) more in
    ap (cell_from o kind count) split ∙ laws.cell_is_read o kind count v front (drop n bytes ++ more) s.1 ∙ ap (λ (k : ℕ). Ok (v, k)) (length-take-le n bytes s.0)

pub cell_stays_refused : CellAndHeaderLaws → (o : Order) (kind : Kind) (count : Count) (bytes more : List ℕ) (code : Code) → IsBytes bytes → cell_from o kind count bytes ≡ Err code → code ≢ codes.CellCut → cell_from o kind count (bytes ++ more) ≡ Err code
cell_stays_refused laws o kind count bytes more code fits e ne =
    laws.cell_is_refused o kind count (bytes ++ more) code (cell_fault_stays o kind count bytes more code ne (laws.cell_fault o kind count bytes code fits e))
