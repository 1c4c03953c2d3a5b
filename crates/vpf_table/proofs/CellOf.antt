-- One cell of a row that is read.
use Rattle.std.proofs.Common.{◌≡◌, ℕ, suc, ◌+◌, ◌<◌, List, [], ◌∷◌, length, drop, get_or, Some, Result, Ok, Err, refl, sym, ap, ◌∙◌, arith}
use Rattle.std.specs.Prelude.{slice_get, IsOk}
use Rattle.std.proofs.lemmas.List.{length-drop, drop_more}
use Rattle.std.proofs.lemmas.Option.{slice_get-get_or}
use Rattle.vpf_base.proofs.Lists.{next_item}
use Rattle.vpf_base.proofs.Results.{ok_is, bind_ok}
use Rattle.vpf_base.specs.Results.{◌>>=◌}
use Rattle.vpf_base.specs.declared.orders.Order.{Order}
use Rattle.vpf_triplet.specs.declared.places.Place.{Place}
use Rattle.vpf_findings.specs.Values.{Value}
use Rattle.vpf_head.specs.Head.{Col}
use Rattle.vpf_table.specs.Grid.{Row}
use Rattle.vpf_table.specs.Reading.{cell_in, row_at}
use Rattle.vpf_table.specs.Walking.{end_of, row_of, past_of}

pub read_is : (r : Result (Row × ℕ) Place) → IsOk r → r ≡ Ok (row_of r, past_of r)
read_is (Ok x) h = refl
read_is (Err p) h = absurd cc

-- the first cell of a row that is read, and the others
pub record Opens (o : Order) (c : Col) (cs : List Col) (bytes : List ℕ) (at : ℕ) (vs : Row) (past : ℕ) : Type 0 where
  pub value : Value
  pub next : ℕ
  pub others : Row
  pub cell : cell_in o c bytes at ≡ Ok (value, next)
  pub rest : row_at o cs bytes next ≡ Ok (others, past)
  pub is : vs ≡ value ∷ others

pub opens : (o : Order) (c : Col) (cs : List Col) (bytes : List ℕ) (at : ℕ) (vs : Row) (past : ℕ) → row_at o (c ∷ cs) bytes at ≡ Ok (vs, past) → Opens o c cs bytes at vs past
unfolding row_at
opens o c cs bytes at vs past e =
    let a = bind_ok (cell_in o c bytes at) (λ first. row_at o cs bytes first.1 >>= λ others. Ok (first.0 ∷ others.0, others.1)) (vs, past) e in
    let b = bind_ok (row_at o cs bytes a.0.1) (λ others. Ok (a.0.0 ∷ others.0, others.1)) (vs, past) a.2 in
    let same = ok_is {x = (a.0.0 ∷ b.0.0, b.0.1)} {y = (vs, past)} b.2 in
    let end : b.0.1 ≡ past = ap (λ (y : Row × ℕ). y.1) same in
    record { value = a.0.0; next = a.0.1; others = b.0.0; cell = a.1; rest = b.1 ∙ ap (λ (n : ℕ). Ok (b.0.0, n)) end; is = sym (ap (λ (y : Row × ℕ). y.0) same) }

pub length-row : (o : Order) (cs : List Col) (bytes : List ℕ) (at : ℕ) (vs : Row) (past : ℕ) → row_at o cs bytes at ≡ Ok (vs, past) → length vs ≡ length cs
unfolding row_at
length-row o [] bytes at vs past e = ap (λ (y : Row × ℕ). length y.0) (sym (ok_is {x = ([], at)} {y = (vs, past)} e))
length-row o (c ∷ cs) bytes at vs past e =
    let s = opens o c cs bytes at vs past e in
    ap length s.is ∙ ap suc (length-row o cs bytes s.next s.others past s.rest)

-- what the loop has at column i
pub record Here (o : Order) (cs : List Col) (bytes : List ℕ) (here : ℕ) (i : ℕ) (row : Row) (past : ℕ) (c : Col) : Type 0 where
  pub value : Value
  pub next : ℕ
  pub cell : cell_in o c bytes here ≡ Ok (value, next)
  pub rest : row_at o (drop (i + 1) cs) bytes next ≡ Ok (drop (i + 1) row, past)
  pub item : slice_get row i ≡ Some value

pub at_column : (o : Order) (cs : List Col) (bytes : List ℕ) (here : ℕ) (i : ℕ) (row : Row) (past : ℕ) (c : Col) → slice_get cs i ≡ Some c → row_at o (drop i cs) bytes here ≡ Ok (drop i row, past) → Here o cs bytes here i row past c
at_column o cs bytes here i row past c e h =
    let s = opens o c (drop (i + 1) cs) bytes here (drop i row) past (ap (λ (x : List Col). row_at o x bytes here) (sym (next_item cs i c e)) ∙ h) in
    let more : i < length row = omega (arith, length-drop i row, ap length s.is) in
    let both : get_or row i s.value ∷ drop (i + 1) row ≡ s.value ∷ s.others = sym (drop_more row i s.value more) ∙ s.is in
    let head : get_or row i s.value ≡ s.value = cc in
    let tail : s.others ≡ drop (i + 1) row = cc in
    record { value = s.value; next = s.next; cell = s.cell; rest = s.rest ∙ ap (λ (x : Row). Ok (x, past)) tail; item = slice_get-get_or row i s.value more ∙ ap (λ (x : Value). Some x) head }

pub is_ok_from : {A : Type 0} (r : Result A Place) (x : A) → r ≡ Ok x → IsOk r
is_ok_from (Ok y) x e = refl
is_ok_from (Err p) x e = absurd cc

pub same_found : {A : Type 0} (r : Result A Place) (x y : A) → r ≡ Ok x → r ≡ Ok y → x ≡ y
same_found r x y e f = ok_is {x = x} {y = y} (sym e ∙ f)

-- the next cell of a row whose cells from column i on are spelled
next_cell : (o : Order) (cs : List Col) (bytes : List ℕ) (at i : ℕ) (c : Col) → slice_get cs i ≡ Some c → (let r = row_at o (drop i cs) bytes at in r ≡ Ok (row_of r, past_of r))
    → (let r = row_at o (drop i cs) bytes at in Opens o c (drop (i + 1) cs) bytes at (row_of r) (past_of r))
next_cell o cs bytes at i c e h =
    let r = row_at o (drop i cs) bytes at in
    opens o c (drop (i + 1) cs) bytes at (row_of r) (past_of r) (ap (λ (x : List Col). row_at o x bytes at) (sym (next_item cs i c e)) ∙ h)

pub next_is_spelled : (o : Order) (cs : List Col) (bytes : List ℕ) (at i : ℕ) (c : Col) → slice_get cs i ≡ Some c → (let r = row_at o (drop i cs) bytes at in r ≡ Ok (row_of r, past_of r)) → IsOk (cell_in o c bytes at)
next_is_spelled o cs bytes at i c e h = is_ok_from _ _ (next_cell o cs bytes at i c e h).cell

pub next_is_first : (o : Order) (cs : List Col) (bytes : List ℕ) (at i : ℕ) (c : Col) (value : Value) (next : ℕ) → slice_get cs i ≡ Some c → (let r = row_at o (drop i cs) bytes at in r ≡ Ok (row_of r, past_of r)) → cell_in o c bytes at ≡ Ok (value, next)
    → (let q = row_at o (drop (i + 1) cs) bytes next in (q ≡ Ok (row_of q, past_of q)) × (row_of (row_at o (drop i cs) bytes at) ≡ value ∷ row_of q))
next_is_first o cs bytes at i c value next e h cell =
    let s = next_cell o cs bytes at i c e h in
    let same = same_found (cell_in o c bytes at) (s.value, s.next) (value, next) s.cell cell in
    let here : s.value ≡ value = ap (λ (x : Value × ℕ). x.0) same in
    let there : s.next ≡ next = ap (λ (x : Value × ℕ). x.1) same in
    let q = row_at o (drop (i + 1) cs) bytes next in
    let past : ℕ = past_of (row_at o (drop i cs) bytes at) in
    let rest : q ≡ Ok (s.others, past) = ap (λ (n : ℕ). row_at o (drop (i + 1) cs) bytes n) (sym there) ∙ s.rest in
    let others : s.others ≡ row_of q = sym (ap row_of rest) in
    (read_is q (is_ok_from q (s.others, past) rest), s.is ∙ ap (λ (v : Value). v ∷ s.others) here ∙ ap (λ (vs : Row). value ∷ vs) others)

-- no cell is left behind the last column
pub none_left : (o : Order) (cs : List Col) (bytes : List ℕ) (at : ℕ) → cs ≡ [] → row_of (row_at o cs bytes at) ≡ []
unfolding row_at
none_left o [] bytes at e = refl
none_left o (c ∷ cs) bytes at e = absurd cc

-- the next cell ends where it is read to end
pub ends_at : (o : Order) (c : Col) (bytes : List ℕ) (here next past : ℕ) (value : Value) → cell_in o c bytes here ≡ Ok (value, next) → end_of (cell_in o c bytes here) ≡ Ok past → next ≡ past
ends_at o c bytes here next past value e f = ok_is {x = next} {y = past} (rw e at f)

-- the row ends behind its last column
pub ends_here : (o : Order) (cs : List Col) (bytes : List ℕ) (here : ℕ) (row : Row) (past : ℕ) → cs ≡ [] → row_at o cs bytes here ≡ Ok (row, past) → here ≡ past
unfolding row_at
ends_here o [] bytes here row past e h = ap (λ (y : Row × ℕ). y.1) (ok_is {x = ([], here)} {y = (row, past)} h)
ends_here o (c ∷ cs) bytes here row past e h = absurd cc
