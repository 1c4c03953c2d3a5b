-- An error of reading a column is its first fault.
use Rattle.std.proofs.Common.{◌≡◌, ℕ, zero, suc, ◌+◌, ◌<◌, Bool, true, false, cond, nat_eq, List, [], ◌∷◌, ◌++◌, length, drop, Option, Some, None, Result, Ok, Err, refl, sym, ap, subst, ◌∙◌, append_assoc, arith, inl, inr, ◌⊎◌}
use Rattle.std.specs.Prelude.{slice_get, is_some}
use Rattle.std.proofs.lemmas.Bool.{eqb-true, eqb-false}
use Rattle.std.proofs.lemmas.List.{length-append}
use Rattle.vpf_base.proofs.Booleans.{tested}
use Rattle.vpf_base.specs.Results.{◌>>=◌}
use Rattle.vpf_base.proofs.Results.{no_ok, failed, err_is}
use Rattle.vpf_triplet.specs.declared.kinds.Kind.{Kind}
use Rattle.vpf_triplet.specs.declared.kinds.Count.{Count}
use Rattle.vpf_triplet.specs.declared.places.Place.{Place}
use Rattle.vpf_triplet.specs.declared.places.Code.{Code}
use Rattle.vpf_triplet.specs.declared.places.Code.TheVariants as codes
use Rattle.vpf_triplet.specs.Kinds.{kind_text, allows, kind_of}
use Rattle.vpf_triplet.specs.Places.{fault}
use Rattle.vpf_head.specs.declared.columns.Key.{Key}
use Rattle.vpf_head.specs.declared.items.Form.TheVariants.{Name, Field, Last}
use Rattle.vpf_head.specs.Bytes.{comma, colon, equals}
use Rattle.vpf_head.specs.Fields.{key_of, count_in, present}
use Rattle.vpf_head.specs.Head.{Col, place_of}
use Rattle.vpf_head.specs.Items.{Item, text_at, name_at}
use Rattle.vpf_head.specs.Reading.{wanted, allowed, fresh_name_at, kind_at, count_at, key_at, colon_by, closed_at, narrative_at, rest_at, column_at}
use Rattle.vpf_head.specs.Spelling.{IsText, IsName}
use Rattle.vpf_head.specs.Faults as faults
use Rattle.vpf_head.specs.Faults.{Lies, Next, IsBeginning, Refuses, SaysNothing, IsNoKind, IsNoCount, IsNoKey}
use Rattle.vpf_head.proofs.ColumnLaws.{Piece, piece, kind_at_takes, count_at_takes, key_at_takes, fresh_takes, comma_is, get_drop, column}
use Rattle.vpf_head.proofs.FaultLaws.{bind_err, At, text_faults, name_faults}
use Rattle.vpf_head.proofs.FieldLaws.{kind_again, count_again}
use Rattle.vpf_head.proofs.ItemLaws.{Takes, text_takes, name_takes}

-- ---- where parts lie

pub next_ok : {A B : Type 0} (r : Result A Place) (f : A → Result B Place) (p : Place) (C : Type 0) → (r >>= f) ≡ Err p → (r ≡ Err p → C) → ((x : A) → r ≡ Ok x → f x ≡ Err p → C) → C
next_ok r f p C e bad good = elim (bind_err r f p e) [
  | inl g ↦ bad g
  | inr x ↦ good x.0 x.1 x.2
]

pub lies_more : (text : List ℕ) (from at : ℕ) (bytes w : List ℕ) (x next : ℕ) → Lies text from at bytes → Piece text at w x next → Lies text from next (bytes ++ (w ++ x ∷ []))
lies_more text from at bytes w x next l p = record {
  split = l.split ∙ ap (λ (r : List ℕ). bytes ++ r) (p.split ∙ sym (append_assoc w (x ∷ []) (drop next text))) ∙ sym (append_assoc bytes (w ++ x ∷ []) (drop next text));
  size = omega (arith, l.size, p.next_is, length-append bytes (w ++ x ∷ []), length-append w (x ∷ []));
}

-- a fault of a column, whose items before it are spelled
pub record ColumnFault (before : List Col) (text : List ℕ) (at : ℕ) (p : Place) : Type 0 where
  pub next : Next
  pub bytes : List ℕ
  pub here : ℕ
  pub code : Code
  pub begins : IsBeginning before next bytes
  pub lies : Lies text at here bytes
  pub refuses : Refuses before (drop here text) next code
  pub is : p ≡ fault here code

refused : (before : List Col) (text : List ℕ) (at : ℕ) (p : Place) (next : Next) (bytes : List ℕ) (here : ℕ) (why : Code → Type 0) → IsBeginning before next bytes → Lies text at here bytes → At here why p → ((code : Code) → why code → Refuses before (drop here text) next code) → ColumnFault before text at p
refused before text at p next bytes here why b l f r = record { next = next; bytes = bytes; here = here; code = f.code; begins = b; lies = l; refuses = r f.code f.because; is = f.is }

-- ---- items that say nothing here

none_is : {X : Type 0} (o : Option X) (at : ℕ) (code : Code) (p : Place) → wanted at code o ≡ Err p → (o ≡ None) × (p ≡ fault at code)
none_is None at code p e = (refl, sym (err_is e))
none_is (Some x) at code p e = absurd cc

not_some : {X : Type 0} (o : Option X) (x : X) → o ≡ None → o ≡ Some x → ⊥
not_some o x e f = cc

says : (nothing : List ℕ → Type 0) (text : List ℕ) (at : ℕ) (item : Item) → IsText Field item.text → Takes Field text at item → nothing item.text → SaysNothing nothing (drop at text)
says nothing text at item t k n =
    let stop : item.stop ≡ comma = eqb-true item.stop comma k.may in
    record { item = item.text; rest = drop item.past text; text = t; parts = k.split ∙ ap (λ (x : ℕ). item.text ++ x ∷ drop item.past text) stop; says = n }

kind_faults : (before : List Col) (text : List ℕ) (at here : ℕ) (p : Place) (bytes : List ℕ) → IsBeginning before faults.kind bytes → Lies text at here bytes → kind_at text here ≡ Err p → ColumnFault before text at p
unfolding kind_at
kind_faults before text at here p bytes b l e =
    next_ok (text_at Field text here) _ p (ColumnFault before text at p) e
    (λ f. refused before text at p faults.kind bytes here _ b l (text_faults Field text here p f) (λ code w. faults.bad_kind code w))
    (λ item is f. next_ok (wanted here codes.Kind (kind_of item.text)) _ p (ColumnFault before text at p) f
    (λ g.
    let n = none_is (kind_of item.text) here codes.Kind p g in
    let t = text_takes Field text here item is in
    record {
      next = faults.kind;
      bytes = bytes;
      here = here;
      code = codes.Kind;
      begins = b;
      lies = l;
      is = n.1;
      refuses = faults.no_kind (says IsNoKind text here item t.0 t.1 (λ k same. not_some (kind_of item.text) k n.0 (ap kind_of same ∙ (kind_again k).1)));
    })
    (λ k same g. absurd (no_ok (k, item.past) p g)))

count_nothing : (at : ℕ) (k : Kind) (o : Option Count) (p : Place) → allowed at k o ≡ Err p → ((c : Count) → o ≡ Some c → allows k c ≡ false) × (p ≡ fault at codes.Count)
count_nothing at k None p e = ((λ c f. absurd cc), sym (err_is e))
count_nothing at k (Some d) p e = by (allows k d) refl e
  where
    by : (t : Bool) → allows k d ≡ t → cond t (Ok d) (Err (fault at codes.Count)) ≡ failed {A = Count} p → ((c : Count) → Some d ≡ Some c → allows k c ≡ false) × (p ≡ fault at codes.Count)
    by true q f = absurd cc
    by false q f = ((λ c g. let z : d ≡ c = cc in subst (λ (x : Count). allows k x ≡ false) z q), sym (err_is f))

count_faults : (before : List Col) (text : List ℕ) (at here : ℕ) (k : Kind) (p : Place) (bytes : List ℕ) → IsBeginning before (faults.count k) bytes → Lies text at here bytes → count_at k text here ≡ Err p → ColumnFault before text at p
unfolding count_at
count_faults before text at here k p bytes b l e =
    next_ok (text_at Field text here) _ p (ColumnFault before text at p) e
    (λ f. refused before text at p (faults.count k) bytes here _ b l (text_faults Field text here p f) (λ code w. faults.bad_count k code w))
    (λ item is f. next_ok (allowed here k (count_in item.text)) _ p (ColumnFault before text at p) f
    (λ g.
    let n = count_nothing here k (count_in item.text) p g in
    let t = text_takes Field text here item is in
    record {
      next = faults.count k;
      bytes = bytes;
      here = here;
      code = codes.Count;
      begins = b;
      lies = l;
      is = n.1;
      refuses = faults.no_count k (says (IsNoCount k) text here item t.0 t.1 (λ c spelled. n.0 c (count_again c item.text spelled).1));
    })
    (λ c same g. absurd (no_ok (c, item.past) p g)))

key_faults : (before : List Col) (text : List ℕ) (at here : ℕ) (p : Place) (bytes : List ℕ) → IsBeginning before faults.key bytes → Lies text at here bytes → key_at text here ≡ Err p → ColumnFault before text at p
unfolding key_at
key_faults before text at here p bytes b l e =
    next_ok (text_at Field text here) _ p (ColumnFault before text at p) e
    (λ f. refused before text at p faults.key bytes here _ b l (text_faults Field text here p f) (λ code w. faults.bad_key code w))
    (λ item is f. next_ok (wanted here codes.Key (key_of item.text)) _ p (ColumnFault before text at p) f
    (λ g.
    let n = none_is (key_of item.text) here codes.Key p g in
    let t = text_takes Field text here item is in
    record {
      next = faults.key;
      bytes = bytes;
      here = here;
      code = codes.Key;
      begins = b;
      lies = l;
      is = n.1;
      refuses = faults.no_key (says IsNoKey text here item t.0 t.1 (λ letter k same spelled. not_some (key_of item.text) k n.0 (ap key_of same ∙ spelled)));
    })
    (λ k same g. absurd (no_ok (k, item.past) p g)))

empty_or_full : (w : List ℕ) (t : Bool) → nat_eq (length w) 0 ≡ t → (w ≡ []) ⊎ (0 < length w)
empty_or_full [] t e = inl refl
empty_or_full (b ∷ w) t e = inr (omega arith)

name_faults_of : (before : List Col) (text : List ℕ) (at : ℕ) (p : Place) → fresh_name_at before text at ≡ Err p → ColumnFault before text at p
unfolding fresh_name_at
name_faults_of before text at p e =
    next_ok (name_at Name text at) _ p (ColumnFault before text at p) e
    (λ f. refused before text at p faults.name [] at _ faults.begun here (name_faults Name text at p f) (λ code w. faults.bad_name code w))
    (λ item is f.
    let t = name_takes Name text at item is in
    let stop : item.stop ≡ equals = eqb-true item.stop equals t.1.may in
    by item t.0 (t.1.split ∙ ap (λ (x : ℕ). item.text ++ x ∷ drop item.past text) stop) (nat_eq (length item.text) 0) (is_some (place_of item.text before)) refl refl f)
  where
    here : Lies text at at []
    here = record { split = refl; size = omega arith }

    by : (i : Item) → IsName Name i.text → drop at text ≡ i.text ++ equals ∷ drop i.past text → (z t : Bool) → nat_eq (length i.text) 0 ≡ z → is_some (place_of i.text before) ≡ t
        → cond z (Err (fault at codes.NameEmpty)) (cond t (Err (fault at codes.NameRepeat)) (Ok (i.text, i.past))) ≡ failed {A = List ℕ × ℕ} p → ColumnFault before text at p
    by i n split true t q h f =
        elim (empty_or_full i.text true q) [
          | inl z ↦ record { next = faults.name; bytes = []; here = at; code = codes.NameEmpty; begins = faults.begun; lies = here; is = sym (err_is f); refuses = faults.no_name (drop i.past text) (split ∙ ap (λ (x : List ℕ). x ++ equals ∷ drop i.past text) z) }
          | inr z ↦ absurd (let k : length i.text ≡ 0 = eqb-true (length i.text) 0 q in omega arith)
        ]
    by i n split false true q h f =
        elim (empty_or_full i.text false q) [
          | inl z ↦ absurd (let k = eqb-false (length i.text) 0 q in k (ap length z))
          | inr z ↦ record { next = faults.name; bytes = []; here = at; code = codes.NameRepeat; begins = faults.begun; lies = here; is = sym (err_is f); refuses = faults.same_name i.text (drop i.past text) n z split h }
        ]
    by i n split false false q h f = absurd (no_ok (i.text, i.past) p f)

-- ---- the end of a column

colon_faults : (text : List ℕ) (at : ℕ) (o : Option ℕ) (p : Place) (before : List Col) → slice_get text at ≡ o → colon_by at o ≡ Err p → (code : Code) × (p ≡ fault at code) × Refuses before (drop at text) faults.colon_after code
colon_faults text at None p before f e = (codes.ItemEnd, sym (err_is e), faults.no_end (past_end text at f))
  where
    past_end : (l : List ℕ) (n : ℕ) → slice_get l n ≡ None → drop n l ≡ []
    past_end [] zero g = refl
    past_end [] (suc n) g = refl
    past_end (x ∷ l) zero g = absurd cc
    past_end (x ∷ l) (suc n) g = past_end l n g
colon_faults text at (Some b) p before f e = by (nat_eq b colon) refl e
  where
    by : (t : Bool) → nat_eq b colon ≡ t → cond t (Ok (at + 1)) (Err (fault at codes.ItemSeparator)) ≡ failed {A = ℕ} p → (code : Code) × (p ≡ fault at code) × Refuses before (drop at text) faults.colon_after code
    by true q g = absurd (no_ok (at + 1) p g)
    by false q g = (codes.ItemSeparator, sym (err_is g), faults.no_colon b (drop (suc at) text) (get_drop text at b f) (eqb-false b colon q))

narrative_faults : (before : List Col) (text : List ℕ) (at here : ℕ) (p : Place) (bytes : List ℕ) → IsBeginning before faults.narrative bytes → Lies text at here bytes → narrative_at text here ≡ Err p → ColumnFault before text at p
unfolding narrative_at
narrative_faults before text at here p bytes b l e =
    next_ok (name_at Last text here) _ p (ColumnFault before text at p) e
    (λ f. refused before text at p faults.narrative bytes here _ b l (name_faults Last text here p f) (λ code w. faults.bad_narrative code w))
    (λ item is f. next_ok (closed_at text item.stop item.past) _ p (ColumnFault before text at p) f
    (λ g.
    let t = name_takes Last text here item is in
    elim (tested (nat_eq item.stop colon) (Ok item.past) (colon_by item.past (slice_get text item.past)) (failed p) g) [
      | inl y ↦ absurd (no_ok item.past p y.1)
      | inr y ↦
          let stop : item.stop ≡ comma = comma_is item.stop t.1.may y.0 in
          let d = colon_faults text item.past (slice_get text item.past) p before refl y.1 in
          let piece_is : Piece text here item.text comma item.past = record { split = t.1.split ∙ ap (λ (x : ℕ). item.text ++ x ∷ drop item.past text) stop; next_is = t.1.past_is } in
          record { next = faults.colon_after; bytes = bytes ++ (item.text ++ comma ∷ []); here = item.past; code = d.0; begins = faults.narrated bytes item.text b t.0; lies = lies_more text at here bytes item.text comma item.past l piece_is; is = d.1; refuses = d.2 }
    ])
    (λ past same g. absurd (no_ok (present item.text, past) p g)))

rest_faults : (before : List Col) (text : List ℕ) (at : ℕ) (p : Place) (bytes : List ℕ) (here : ℕ) (theme : Item) → IsBeginning before faults.theme bytes → Lies text at here bytes → IsName Last theme.text → Takes Last text here theme
    → rest_at text theme.stop theme.past ≡ Err p → ColumnFault before text at p
rest_faults before text at p bytes here theme b l n t e = elim (tested (nat_eq theme.stop colon) (Ok (None, theme.past)) (narrative_at text theme.past) (failed p) e) [
  | inl y ↦ absurd (no_ok (None, theme.past) p y.1)
  | inr y ↦
      let stop : theme.stop ≡ comma = comma_is theme.stop t.may y.0 in
      let piece_is : Piece text here theme.text comma theme.past = record { split = t.split ∙ ap (λ (x : ℕ). theme.text ++ x ∷ drop theme.past text) stop; next_is = t.past_is } in
      narrative_faults before text at theme.past p (bytes ++ (theme.text ++ comma ∷ [])) (faults.themed bytes theme.text b n) (lies_more text at here bytes theme.text comma theme.past l piece_is) y.1
]

-- ---- the column

begun_with : (text : List ℕ) (at : ℕ) (w : List ℕ) (n : ℕ) → Piece text at w equals n → Lies text at n (w ++ equals ∷ [])
begun_with text at w n p = record { split = p.split ∙ sym (append_assoc w (equals ∷ []) (drop n text)); size = omega (arith, p.next_is, length-append w (equals ∷ [])) }

abbrev made : List ℕ → Kind → Count → Key → Item → Item → Item → Option (List ℕ) → Col
made w k c x d v t n = record { name = w; kind = k; count = c; key = x; description = d.text; values = present v.text; theme = present t.text; narrative = n }

after_theme : (before : List Col) (text : List ℕ) (at : ℕ) (p : Place) (bytes : List ℕ) (here : ℕ) (theme : Item) (f : Option (List ℕ) × ℕ → Col) → IsBeginning before faults.theme bytes → Lies text at here bytes → name_at Last text here ≡ Ok theme
    → (rest_at text theme.stop theme.past >>= λ n. column (f n) n.1) ≡ failed p → ColumnFault before text at p
after_theme before text at p bytes here theme f b l is e =
    let t = name_takes Last text here theme is in
    next_ok (rest_at text theme.stop theme.past) _ p (ColumnFault before text at p) e (λ g. rest_faults before text at p bytes here theme b l t.0 t.1 g) (λ n same g. absurd (no_ok (f n, n.1) p g))

pub column_faults : (before : List Col) (text : List ℕ) (at : ℕ) (p : Place) → column_at before text at ≡ Err p → ColumnFault before text at p
unfolding column_at
column_faults before text at p e =
    next_ok (fresh_name_at before text at) _ p (ColumnFault before text at p) e (λ f. name_faults_of before text at p f) (λ name is1 e1.
    let n = fresh_takes before text at name.0 name.1 is1 in
    let b1 = faults.named name.0 n.name n.some n.new in
    let l1 = begun_with text at name.0 name.1 n.piece_is in
    next_ok (kind_at text name.1) _ p (ColumnFault before text at p) e1 (λ f. kind_faults before text at name.1 p _ b1 l1 f) (λ kind is2 e2.
    let k = kind_at_takes text name.1 kind.0 kind.1 is2 in
    let b2 = faults.kinded _ kind.0 b1 in
    let l2 = lies_more text at name.1 _ (kind_text kind.0) comma kind.1 l1 k in
    next_ok (count_at kind.0 text kind.1) _ p (ColumnFault before text at p) e2 (λ f. count_faults before text at kind.1 kind.0 p _ b2 l2 f) (λ count is3 e3.
    let q = count_at_takes kind.0 text kind.1 count.0 count.1 is3 in
    let b3 = faults.counted _ kind.0 count.0 q.item b2 q.is q.allowed_is in
    let l3 = lies_more text at kind.1 _ q.item comma count.1 l2 q.piece_is in
    next_ok (key_at text count.1) _ p (ColumnFault before text at p) e3 (λ f. key_faults before text at count.1 p _ b3 l3 f) (λ key is4 e4.
    let r = key_at_takes text count.1 key.0 key.1 is4 in
    let b4 = faults.keyed _ key.0 r.letter b3 r.is in
    let l4 = lies_more text at count.1 _ (r.letter ∷ []) comma key.1 l3 r.piece_is in
    next_ok (text_at Field text key.1) _ p (ColumnFault before text at p) e4 (λ f. refused before text at p faults.description _ key.1 _ b4 l4 (text_faults Field text key.1 p f) (λ code w. faults.bad_description code w)) (λ description is5 e5.
    let d = text_takes Field text key.1 description is5 in
    let b5 = faults.described _ description.text b4 d.0 in
    let l5 = lies_more text at key.1 _ description.text comma description.past l4 (piece text key.1 description description.text comma d.1 refl) in
    next_ok (name_at Field text description.past) _ p (ColumnFault before text at p) e5 (λ f. refused before text at p faults.values _ description.past _ b5 l5 (name_faults Field text description.past p f) (λ code w. faults.bad_values code w)) (λ values is6 e6.
    let v = name_takes Field text description.past values is6 in
    let b6 = faults.valued _ values.text b5 v.0 in
    let l6 = lies_more text at description.past _ values.text comma values.past l5 (piece text description.past values values.text comma v.1 refl) in
    next_ok (name_at Last text values.past) _ p (ColumnFault before text at p) e6 (λ f. refused before text at p faults.theme _ values.past _ b6 l6 (name_faults Last text values.past p f) (λ code w. faults.bad_theme code w)) (λ theme is7 e7.
    after_theme before text at p _ values.past theme (λ n. made name.0 kind.0 count.0 key.0 description values theme n.0) b6 l6 is7 e7)))))))
