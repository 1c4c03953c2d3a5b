-- From headers to rows.
use Rattle.std.proofs.Common.{◌≡◌, ℕ, ◌+◌, ◌<◌, ◌≤◌, List, ◌++◌, length, drop, Result, Ok, Err, refl, sym, ap, ◌∙◌, append_assoc, arith}
use Rattle.std.specs.Prelude.{Bool}
use Rattle.std.proofs.lemmas.List.{drop-append-le}
use Rattle.vpf_base.specs.Limits.{most_rows}
use Rattle.vpf_base.specs.Results.{◌>>=◌}
use Rattle.vpf_base.specs.declared.orders.Order.{Order}
use Rattle.vpf_feed.specs.declared.row_form.form.Field.{Field}
use Rattle.vpf_feed.specs.declared.row_form.form.RowForm.{RowForm}
use Rattle.vpf_triplet.specs.declared.places.Place.{Place}
use Rattle.vpf_triplet.specs.declared.places.Code.{Code}
use Rattle.vpf_triplet.specs.declared.places.Code.TheVariants as codes
use Rattle.vpf_triplet.specs.Places.{fault}
use Rattle.vpf_head.specs.declared.items.Form.{Form}
use Rattle.vpf_head.specs.Faults as faults
use Rattle.vpf_head.specs.Faults.{ItemFault, Next, Refuses, NextFault, TextFault, FirstHeaderFault}
use Rattle.vpf_head.specs.Head.{Head, Col}
use Rattle.vpf_head.specs.Reading.{header_of}
use Rattle.vpf_table.specs.Grid.{Row, Grid}
use Rattle.vpf_table.specs.Reading.{rows_at, table_of}
use Rattle.vpf_table.specs.Walking.{counted}
use Rattle.vpf_feed.specs.Inner.RowForm.Form.{form_fields}
use Rattle.vpf_feed.specs.Inner.RowForm.Walk.{rows_to_come}
use Rattle.vpf_feed.proofs.row_form.Lefts.{rows_are}
use Rattle.vpf_feed.specs.declared.summary.Summary.{Summary}
use Rattle.vpf_feed.specs.declared.walking.Hand.{Hand}
use Rattle.vpf_feed.specs.declared.walking.Hand.TheVariants as hands
use Rattle.vpf_feed.specs.declared.walking.Walk.{Walk}
use Rattle.vpf_feed.specs.Inner.Progress.{hand_comes, rows_come, summed, summed_rows}
use Rattle.vpf_feed.specs.Inner.Walks.{hand_of, so_far, walk_comes}

-- ---- a header text is never refused for its end

item_no : (form : Form) (named : Bool) (bytes : List ℕ) (code : Code) → ItemFault form named bytes code → code ≡ codes.HeaderCut → ⊥
item_no form named bytes code (faults.endless h) e = cc
item_no form named bytes code (faults.misended i s b h) e = cc
item_no form named bytes code (faults.long i s b h n l) e = cc
item_no form named bytes code (faults.controlled i s b h n l) e = cc

refuses_no : (before : List Col) (bytes : List ℕ) (next : Next) (code : Code) → Refuses before bytes next code → code ≡ codes.HeaderCut → ⊥
refuses_no before bytes next code (faults.bad_name q f) e = item_no _ _ _ q f e
refuses_no before bytes next code (faults.no_name rest h) e = cc
refuses_no before bytes next code (faults.same_name w rest n l h s) e = cc
refuses_no before bytes next code (faults.bad_kind q f) e = item_no _ _ _ q f e
refuses_no before bytes next code (faults.no_kind s) e = cc
refuses_no before bytes next code (faults.bad_count k q f) e = item_no _ _ _ q f e
refuses_no before bytes next code (faults.no_count k s) e = cc
refuses_no before bytes next code (faults.bad_key q f) e = item_no _ _ _ q f e
refuses_no before bytes next code (faults.no_key s) e = cc
refuses_no before bytes next code (faults.bad_description q f) e = item_no _ _ _ q f e
refuses_no before bytes next code (faults.bad_values q f) e = item_no _ _ _ q f e
refuses_no before bytes next code (faults.bad_theme q f) e = item_no _ _ _ q f e
refuses_no before bytes next code (faults.bad_narrative q f) e = item_no _ _ _ q f e
refuses_no before bytes next code (faults.no_end h) e = cc
refuses_no before bytes next code (faults.no_colon b rest h n) e = cc

next_no : (before : List Col) (text : List ℕ) (at here : ℕ) (code : Code) → NextFault before text at here code → code ≡ codes.HeaderCut → ⊥
next_no before text at here code (faults.too_many a b) e = cc
next_no before text at here code (faults.in_column next bytes h q a b c d r) e = refuses_no _ _ _ q r e
next_no before text at here code (faults.no_data rest a b c) e = cc
next_no before text at here code (faults.after_columns bl b rest a c d f g) e = cc

text_no : (text : List ℕ) (at : ℕ) (code : Code) → TextFault text at code → code ≡ codes.HeaderCut → ⊥
text_no text at code (faults.in_description q f) e = item_no _ _ _ q f e
text_no text at code (faults.in_narrative w here q a b f) e = item_no _ _ _ q f e
text_no text at code (faults.in_columns w n bytes before from here q a b c d f) e = next_no _ _ _ _ q f e

cut_short : (bytes : List ℕ) (place : Place) → FirstHeaderFault bytes place → place.code ≡ codes.HeaderCut → (place ≡ fault 4 codes.HeaderCut) × (length bytes < 65540)
cut_short bytes place (faults.number_cut h) e = absurd cc
cut_short bytes place (faults.limit_header h l) e = absurd cc
cut_short bytes place (faults.header_cut h l k) e = (refl, omega arith)
cut_short bytes place (faults.in_text at code l k t) e = absurd (text_no _ _ code t e)

-- a header that is cut is short
pub header_short : ((bytes : List ℕ) (place : Place) → header_of bytes ≡ Err place → FirstHeaderFault bytes place) → (bytes : List ℕ) (place : Place) → header_of bytes ≡ Err place → place.code ≡ codes.HeaderCut
    → (place ≡ fault 4 codes.HeaderCut) × (length bytes < 65540)
header_short faulted bytes place h e = cut_short bytes place (faulted bytes place h) e

-- ---- tables

pub table_refused : (bytes : List ℕ) (place : Place) → header_of bytes ≡ Err place → table_of bytes ≡ Err place
unfolding table_of
table_refused bytes place e = rw e refl

sum_rows : (h : Head) (r : Result (List Row) Place) → summed (r >>= λ rs. Ok (let g : Grid = record { head = h; rows = rs } in g)) ≡ summed_rows h.order (length h.columns) (counted 0 r)
sum_rows h (Ok rs) = let z : length rs ≡ 0 + length rs = omega arith in ap (λ (n : ℕ). Ok (let s : Summary = record { order = h.order; rows = n; columns = length h.columns } in s)) z
sum_rows h (Err p) = refl

table_by : (bytes : List ℕ) (h : Head) (start : ℕ) → header_of bytes ≡ Ok (h, start) → summed (table_of bytes) ≡ summed_rows h.order (length h.columns) (counted 0 (rows_at most_rows h.order h.columns bytes start))
unfolding table_of
table_by bytes h start e = rw e (sum_rows h (rows_at most_rows h.order h.columns bytes start))

-- a table whose header is read comes to what its rows come to
pub table_rows : (bytes : List ℕ) (h : Head) (start : ℕ) → header_of bytes ≡ Ok (h, start) → summed (table_of bytes) ≡ summed_rows h.order (length h.columns) (rows_to_come most_rows h.order (form_fields h.columns) 0 start (drop start bytes))
table_rows bytes h start e = table_by bytes h start e ∙ ap (summed_rows h.order (length h.columns)) (sym (rows_are most_rows h.order h.columns bytes 0 start))

-- a table comes to what follows the header that its first bytes are
pub begun_comes : (text rest more : List ℕ) (h : Head) (start : ℕ) → header_of (text ++ (rest ++ more)) ≡ Ok (h, start) → start ≤ length text
    → summed (table_of ((text ++ rest) ++ more)) ≡ summed_rows h.order (length h.columns) (rows_to_come most_rows h.order (form_fields h.columns) 0 start (drop start text ++ (rest ++ more)))
begun_comes text rest more h start e inside =
    ap (λ (x : List ℕ). summed (table_of x)) (append_assoc text rest more) ∙ table_rows (text ++ (rest ++ more)) h start e
    ∙ ap (λ (x : List ℕ). summed_rows h.order (length h.columns) (rows_to_come most_rows h.order (form_fields h.columns) 0 start x)) (drop-append-le start text (rest ++ more) inside)

pub same_rows : (o p : Order) (n m : ℕ) (fs gs : List Field) (at : ℕ) (x y more : List ℕ) → o ≡ p → n ≡ m → fs ≡ gs → x ≡ y → summed_rows o n (rows_to_come most_rows o fs 0 at (x ++ more)) ≡ summed_rows p m (rows_to_come most_rows p gs 0 at (y ++ more))
same_rows o p n m fs gs at x y more a b c d = rw (a, b, c, d) refl

-- how many columns there are tells nothing of the rows
pub columns_free : (form : RowForm) (n : ℕ) (w : Walk) (more : List ℕ) → rows_come (so_far form n w) more ≡ walk_comes form w more
columns_free form n w more = by w.hand
  where
    by : (h : Hand) → hand_comes (so_far form n w) (hand_of w.kept h) more ≡ hand_comes (so_far form 0 w) (hand_of w.kept h) more
    by hands.Between = refl
    by (hands.Within len) = refl
    by (hands.Skipping past) = refl
