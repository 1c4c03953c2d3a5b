-- One step of a walk over rows, whatever follows.
use Rattle.std.proofs.Common.{◌≡◌, ℕ, suc, ◌+◌, ◌-◌, ◌<◌, ◌≤◌, Bool, true, false, cond, ltb, List, [], ◌∷◌, ◌++◌, length, take, drop, Option, Some, Result, Ok, Err, refl, sym, ap, subst, ◌∙◌, append_assoc, append-nil, arith, inl, inr}
use Rattle.std.specs.Prelude.{slice_get}
use Rattle.std.specs.List.{All}
use Rattle.std.proofs.lemmas.Bool.{lt-leb, lt-ltb, le-ltb, cases_lt}
use Rattle.std.proofs.lemmas.List.{drop_at, drop-drop, drop-append-le, take-append-le, take-append-drop, length-append}
use Rattle.std.proofs.lemmas.Option.{slice_get_within, get_or_from_slice_get}
use Rattle.vpf_base.specs.Bytes.{IsBytes}
use Rattle.vpf_base.specs.Limits.{most_rows}
use Rattle.vpf_base.specs.Results.{◌>>=◌}
use Rattle.vpf_base.specs.declared.orders.Order.{Order}
use Rattle.vpf_triplet.specs.declared.places.Place.{Place}
use Rattle.vpf_triplet.specs.declared.places.Code.{Code}
use Rattle.vpf_triplet.specs.declared.places.Code.TheVariants as codes
use Rattle.vpf_triplet.specs.Places.{fault}
use Rattle.vpf_value.specs.Values.{Value}
use Rattle.vpf_value.specs.Reading.{CellAnswer, cell_from}
use Rattle.vpf_table.specs.Inner.Lower.{CellAndHeaderLaws}
use Rattle.vpf_feed.specs.declared.row_form.form.Field.{Field}
use Rattle.vpf_feed.specs.Inner.RowForm.Form.{extent, cell_size, IsCutEmpty}
use Rattle.vpf_feed.specs.Inner.RowForm.Walk.{passed, row_left, rows_to_come, sized_end, TellsCell}
use Rattle.vpf_feed.specs.declared.row_form.looking.Look.TheVariants as looks
use Rattle.vpf_feed.specs.Inner.Progress.{row_comes}

-- ---- rows begin and end

-- the last cell of a row is passed
pub row_ends : (o : Order) (all left : List Field) (done past : ℕ) (more : List ℕ) → left ≡ [] → row_comes o all left done past more ≡ rows_to_come (most_rows - (done + 1)) o all (done + 1) past more
unfolding row_comes row_left
row_ends o all left done past more e = rw e refl

rows_begin : (n : ℕ) (o : Order) (all : List Field) (done at b : ℕ) (more : List ℕ) → rows_to_come (suc n) o all done at (b ∷ more) ≡ (row_left o all at (b ∷ more) >>= λ r. rows_to_come n o all (done + 1) r.0 r.1)
unfolding rows_to_come
rows_begin n o all done at b more = rw (lt-leb (length (b ∷ more)) 0 (omega arith)) refl

-- a further row begins
pub row_begins : (o : Order) (all : List Field) (done at b : ℕ) (more : List ℕ) → done < most_rows → row_comes o all all done at (b ∷ more) ≡ rows_to_come (most_rows - done) o all done at (b ∷ more)
unfolding row_comes
row_begins o all done at b more few =
    let m : most_rows - done ≡ suc (most_rows - (done + 1)) = omega arith in
    sym (ap (λ (n : ℕ). rows_to_come n o all done at (b ∷ more)) m ∙ rows_begin (most_rows - (done + 1)) o all done at b more)

rows_stop : (o : Order) (all : List Field) (done at b : ℕ) (more : List ℕ) → rows_to_come 0 o all done at (b ∷ more) ≡ Err (fault at (codes.LimitRows (most_rows + 1)))
unfolding rows_to_come
rows_stop o all done at b more = rw (lt-leb (length (b ∷ more)) 0 (omega arith)) refl

-- no further row may begin
pub row_too_many : (o : Order) (all : List Field) (done at b : ℕ) (more : List ℕ) → done ≡ most_rows → rows_to_come (most_rows - done) o all done at (b ∷ more) ≡ Err (fault at (codes.LimitRows (most_rows + 1)))
row_too_many o all done at b more e =
    let z : most_rows - done ≡ 0 = omega arith in
    ap (λ (n : ℕ). rows_to_come n o all done at (b ∷ more)) z ∙ rows_stop o all done at b more

-- ---- cells

-- the bytes of the cell in hand, and what follows
pub byte_more : (kept : List ℕ) (b : ℕ) (more : List ℕ) → kept ++ (b ∷ more) ≡ (kept ++ b ∷ []) ++ more
byte_more kept b more = sym (append_assoc kept (b ∷ []) more)

-- it is whole
pub cell_whole : (o : Order) (all left : List Field) (f : Field) (fs : List Field) (done at past : ℕ) (bytes more : List ℕ) → left ≡ f ∷ fs → past ≡ at + length bytes → cell_size o f (bytes ++ more) ≡ Ok (length bytes)
    → row_comes o all fs done past more ≡ row_comes o all left done at (bytes ++ more)
unfolding row_comes row_left
cell_whole o all left f fs done at past bytes more l p e = rw (l, e, drop_at bytes more (length bytes) refl, p) refl

-- it is whole, and more came
pub cell_inside : (o : Order) (all left : List Field) (f : Field) (fs : List Field) (done at past n : ℕ) (bytes more : List ℕ) → left ≡ f ∷ fs → past ≡ at + n → n ≤ length bytes → cell_size o f (bytes ++ more) ≡ Ok n
    → row_comes o all fs done past (drop n bytes ++ more) ≡ row_comes o all left done at (bytes ++ more)
unfolding row_comes row_left
cell_inside o all left f fs done at past n bytes more l p h e = rw (l, e, drop-append-le n bytes more h, p) refl

-- it is refused
pub cell_stops : (o : Order) (all left : List Field) (f : Field) (fs : List Field) (done at : ℕ) (bytes : List ℕ) (code : Code) → left ≡ f ∷ fs → cell_size o f bytes ≡ Err code → row_comes o all left done at bytes ≡ Err (fault at code)
unfolding row_comes row_left
cell_stops o all left f fs done at bytes code l e = rw (l, e) refl

-- what a cell of so many bytes comes to, of which some are there
abbrev pub skipped : Order → List Field → List Field → ℕ → ℕ → ℕ → ℕ → List ℕ → Result ℕ Place
skipped o all fs done at past n more = cond (ltb (length more) n) (Err (fault at codes.CellCut)) (row_comes o all fs done past (drop n more))

sized_row : (o : Order) (all left : List Field) (f : Field) (fs : List Field) (done at n : ℕ) (bytes : List ℕ) → left ≡ f ∷ fs → cell_size o f bytes ≡ sized_end n bytes → row_comes o all left done at bytes ≡ skipped o all fs done at (at + n) n bytes
unfolding row_comes row_left
sized_row o all left f fs done at n bytes l e = rw (l, e) (by (ltb (length bytes) n))
  where
    by : (b : Bool) → (passed at bytes (cond b (Err codes.CellCut) (Ok n)) >>= (λ r. row_left o fs r.0 r.1) >>= λ r. rows_to_come (most_rows - (done + 1)) o all (done + 1) r.0 r.1)
        ≡ cond b (Err (fault at codes.CellCut)) (row_left o fs (at + n) (drop n bytes) >>= λ r. rows_to_come (most_rows - (done + 1)) o all (done + 1) r.0 r.1)
    by true = refl
    by false = refl

drop_past : {X : Type 0} → (n : ℕ) (xs ys : List X) → length xs ≤ n → drop n (xs ++ ys) ≡ drop (n - length xs) ys
drop_past n xs ys h =
    let k : length xs + (n - length xs) ≡ n = omega arith in
    ap (λ (m : ℕ). drop m (xs ++ ys)) (sym k) ∙ sym (drop-drop (n - length xs) (length xs) (xs ++ ys)) ∙ ap (drop (n - length xs)) (drop_at xs ys (length xs) refl)

-- of bytes of a cell some came: the same is left to come
pub skipped_on : (o : Order) (all fs : List Field) (done at past n k : ℕ) (bytes more : List ℕ) → length bytes ≤ n → k ≡ n - length bytes → skipped o all fs done at past n (bytes ++ more) ≡ skipped o all fs done at past k more
skipped_on o all fs done at past n k bytes more h e = rw (e, drop_past n bytes more h) (ap (λ (b : Bool). cond b (Err (fault at codes.CellCut)) (row_comes o all fs done past (drop (n - length bytes) more))) same)
  where
    same : ltb (length (bytes ++ more)) n ≡ ltb (length more) (n - length bytes)
    same = elim (cases_lt (length more) (n - length bytes)) [
      | inl l ↦ lt-ltb _ _ (omega (arith, l, h, length-append bytes more)) ∙ sym (lt-ltb _ _ l)
      | inr l ↦ le-ltb _ _ (omega (arith, l, h, length-append bytes more)) ∙ sym (le-ltb _ _ l)
    ]

-- its length is told
pub cell_told : (o : Order) (all left : List Field) (f : Field) (fs : List Field) (done at n k : ℕ) (bytes more : List ℕ) → left ≡ f ∷ fs → length bytes ≤ n → k ≡ n - length bytes → cell_size o f (bytes ++ more) ≡ sized_end n (bytes ++ more)
    → skipped o all fs done at (at + n) k more ≡ row_comes o all left done at (bytes ++ more)
cell_told o all left f fs done at n k bytes more l h e t = sym (sized_row o all left f fs done at n (bytes ++ more) l t ∙ skipped_on o all fs done at (at + n) n k bytes more h e)

-- all of its bytes came
pub skipped_whole : (o : Order) (all fs : List Field) (done at past n : ℕ) (bytes more : List ℕ) → n ≤ length bytes → row_comes o all fs done past (drop n bytes ++ more) ≡ skipped o all fs done at past n (bytes ++ more)
skipped_whole o all fs done at past n bytes more h = rw (le-ltb (length (bytes ++ more)) n (omega (arith, h, length-append bytes more)), drop-append-le n bytes more h) refl

-- ---- a cell that wasn't whole is whole with its last byte

is_ok_size : (r : CellAnswer) (n : ℕ) → extent r ≡ Ok n → (v : Value) × (r ≡ Ok (v, n))
is_ok_size (Ok x) n e = let k : x.1 ≡ n = cc in (x.0, ap (λ (m : ℕ). Ok (x.0, m)) k)
is_ok_size (Err code) n e = absurd cc

pub whole_now : CellAndHeaderLaws → (o : Order) (f : Field) (kept : List ℕ) (b n : ℕ) → IsBytes (kept ++ b ∷ []) → cell_size o f kept ≡ Err codes.CellCut → TellsCell o f (kept ++ b ∷ []) (looks.Whole n) → n ≡ length (kept ++ b ∷ [])
whole_now laws o f kept b n fits cut t = elim (cases_lt (length kept) n) [
  | inl l ↦ omega (arith, l, t.1, length-append kept (b ∷ []))
  | inr l ↦ absurd (
      let all : List ℕ = kept ++ b ∷ [] in
      let z = is_ok_size (cell_from o f.kind f.count all) n (ap (cell_size o f) (sym (append-nil all)) ∙ t.2 []) in
      let s = laws.cell_is_spelled o f.kind f.count all z.0 n fits z.1 in
      let front : take n all ≡ take n kept = take-append-le n kept (b ∷ []) l in
      let read = laws.cell_is_read o f.kind f.count z.0 (take n all) (drop n kept) s.1 in
      let same : take n all ++ drop n kept ≡ kept = ap (λ (x : List ℕ). x ++ drop n kept) front ∙ take-append-drop n kept in
      let good : cell_size o f kept ≡ Ok (length (take n all)) = ap (cell_size o f) (sym same) ∙ ap extent read in
      let bad : Err codes.CellCut ≡ Ok (length (take n all)) = sym cut ∙ good in
      cc)
]

-- ---- one byte more

-- the byte makes the cell whole
whole_by : CellAndHeaderLaws → (o : Order) (all left : List Field) (f : Field) (fs : List Field) (done at past : ℕ) (kept : List ℕ) (b n : ℕ) → left ≡ f ∷ fs → past ≡ at + length kept + 1 → IsBytes (kept ++ b ∷ []) → cell_size o f kept ≡ Err codes.CellCut
    → TellsCell o f (kept ++ b ∷ []) (looks.Whole n) → (more : List ℕ) → row_comes o all fs done past more ≡ row_comes o all left done at (kept ++ (b ∷ more))
whole_by laws o all left f fs done at past kept b n l p fits cut t more =
    let k = whole_now laws o f kept b n fits cut t in
    let len : past ≡ at + length (kept ++ b ∷ []) = omega (arith, p, length-append kept (b ∷ [])) in
    cell_whole o all left f fs done at past (kept ++ b ∷ []) more l len (t.2 more ∙ ap (λ (m : ℕ). Ok m) k) ∙ ap (row_comes o all left done at) (sym (byte_more kept b more))

pub push_whole : CellAndHeaderLaws → (o : Order) (all left : List Field) (f : Field) (fs : List Field) (done at past : ℕ) (kept : List ℕ) (b n : ℕ) (now : List ℕ) → now ≡ kept ++ b ∷ [] → left ≡ f ∷ fs → past ≡ at + length kept + 1 → IsBytes now → cell_size o f kept ≡ Err codes.CellCut
    → TellsCell o f now (looks.Whole n) → (more : List ℕ) → row_comes o all fs done past more ≡ row_comes o all left done at (kept ++ (b ∷ more))
push_whole laws o all left f fs done at past kept b n now e l p fits cut t =
    whole_by laws o all left f fs done at past kept b n l p (subst IsBytes e fits) cut (subst (λ (x : List ℕ). TellsCell o f x (looks.Whole n)) e t)

-- the byte tells how long the cell is
pub push_told : (o : Order) (all left : List Field) (f : Field) (fs : List Field) (done at k : ℕ) (kept : List ℕ) (b n : ℕ) (now : List ℕ) → now ≡ kept ++ b ∷ [] → left ≡ f ∷ fs → k ≡ n - (length kept + 1) → TellsCell o f now (looks.Skip n)
    → (more : List ℕ) → skipped o all fs done at (at + n) k more ≡ row_comes o all left done at (kept ++ (b ∷ more))
push_told o all left f fs done at k kept b n now e l h t more =
    let u = subst (λ (x : List ℕ). TellsCell o f x (looks.Skip n)) e t in
    cell_told o all left f fs done at n k (kept ++ b ∷ []) more l (omega (arith, u.0)) (omega (arith, h, length-append kept (b ∷ []))) (u.2 more) ∙ ap (row_comes o all left done at) (sym (byte_more kept b more))

-- the byte refuses the cell
pub push_refused : (o : Order) (all left : List Field) (f : Field) (fs : List Field) (done at : ℕ) (kept : List ℕ) (b : ℕ) (code : Code) (now : List ℕ) → now ≡ kept ++ b ∷ [] → left ≡ f ∷ fs → TellsCell o f now (looks.Refused code)
    → (more : List ℕ) → row_comes o all left done at (kept ++ (b ∷ more)) ≡ Err (fault at code)
push_refused o all left f fs done at kept b code now e l t more =
    let u = subst (λ (x : List ℕ). TellsCell o f x (looks.Refused code)) e t in
    ap (row_comes o all left done at) (byte_more kept b more) ∙ cell_stops o all left f fs done at ((kept ++ b ∷ []) ++ more) code l (u more)

-- ---- forms

pub cut_at : (fs : List Field) (i : ℕ) (f : Field) → All IsCutEmpty fs → slice_get fs i ≡ Some f → IsCutEmpty f
cut_at fs i f h e = subst IsCutEmpty (get_or_from_slice_get fs i f f e) (h i f (slice_get_within fs i f e))

some_is : (f g : Field) → Option.Some f ≡ Some g → f ≡ g
some_is f g e = cc

pub one_field : (fs : List Field) (i : ℕ) (f g : Field) → slice_get fs i ≡ Some f → slice_get fs i ≡ Some g → f ≡ g
one_field fs i f g e h = some_is f g (sym e ∙ h)
