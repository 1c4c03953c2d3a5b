-- A column that is read is spelled so, and what is spelled so is read.
use Rattle.std.proofs.Common.{◌≡◌, ℕ, zero, suc, ◌+◌, ◌<◌, true, false, cond, List, [], ◌∷◌, ◌++◌, length, drop, Option, Some, None, Result, Ok, Err, refl, sym, ap, subst, ◌∙◌, append_assoc, arith, nat_eq, inl, inr}
use Rattle.std.specs.Prelude.{slice_get, is_some, ◌||◌}
use Rattle.std.proofs.lemmas.Bool.{eqb-true, ne_eqb, eqb-false}
use Rattle.std.proofs.lemmas.List.{length-append}
use Rattle.vpf_base.proofs.Booleans.{tested}
use Rattle.vpf_base.proofs.Results.{passed, guarded, bind_ok, ok_is}
use Rattle.vpf_triplet.specs.declared.kinds.Kind.{Kind}
use Rattle.vpf_triplet.specs.declared.kinds.Count.{Count}
use Rattle.vpf_triplet.specs.declared.places.Place.{Place}
use Rattle.vpf_triplet.specs.declared.places.Code.{Code}
use Rattle.vpf_triplet.specs.declared.places.Code.TheVariants as codes
use Rattle.vpf_triplet.specs.Kinds.{kind_text, allows, kind_of}
use Rattle.vpf_triplet.specs.Places.{fault}
use Rattle.vpf_head.specs.declared.columns.Key.{Key}
use Rattle.vpf_head.specs.declared.items.Form.TheVariants.{Name, Field, Last}
use Rattle.vpf_head.specs.Bytes.{semicolon, comma, colon, equals}
use Rattle.vpf_head.specs.Head.{Col, place_of}
use Rattle.vpf_head.specs.Fields.{key_of, letter_key, count_in, present}
use Rattle.vpf_head.specs.Items.{Item, text_at, name_at}
use Rattle.vpf_head.specs.Reading.{wanted, allowed, fresh_name_at, kind_at, count_at, key_at, colon_by, closed_at, narrative_at, rest_at, column_at}
use Rattle.vpf_head.specs.Spelling.{IsText, IsName, IsCount, Ending, bare, narrated, narrated_comma, narrative_item, ending_text, IsColumn}
use Rattle.vpf_head.proofs.ItemLaws.{text_again, name_again, behind, Takes, text_takes, name_takes}
use Rattle.vpf_head.proofs.FieldLaws.{kind_again, kind_takes, key_again, key_takes, count_again, count_takes}
use Rattle.vpf_head.proofs.Loop.{absent}

-- ---- the end of a column

-- the byte that ends the thematic index
abbrev stop_of : Ending → ℕ
stop_of bare = colon
stop_of (narrated w) = comma
stop_of (narrated_comma w) = comma

-- what follows that byte
abbrev tail_of : Ending → List ℕ
tail_of bare = []
tail_of (narrated w) = w ++ colon ∷ []
tail_of (narrated_comma w) = w ++ comma ∷ colon ∷ []

ending_parts : (e : Ending) → ending_text e ≡ stop_of e ∷ tail_of e
ending_parts bare = refl
ending_parts (narrated w) = refl
ending_parts (narrated_comma w) = refl

stop_stops : (e : Ending) → (nat_eq (stop_of e) comma || nat_eq (stop_of e) colon) ≡ true
stop_stops bare = refl
stop_stops (narrated w) = refl
stop_stops (narrated_comma w) = refl

pub head_get : (text : List ℕ) (n x : ℕ) (rest : List ℕ) → drop n text ≡ x ∷ rest → slice_get text n ≡ Some x
head_get [] zero x rest e = absurd cc
head_get [] (suc n) x rest e = absurd cc
head_get (y ∷ text) zero x rest e = let k : y ≡ x = cc in ap (λ (z : ℕ). Some z) k
head_get (y ∷ text) (suc n) x rest e = head_get text n x rest e

pub get_drop : (text : List ℕ) (n x : ℕ) → slice_get text n ≡ Some x → drop n text ≡ x ∷ drop (suc n) text
get_drop [] zero x e = absurd cc
get_drop [] (suc n) x e = absurd cc
get_drop (y ∷ text) zero x e = let k : y ≡ x = cc in ap (λ (z : ℕ). z ∷ text) k
get_drop (y ∷ text) (suc n) x e = get_drop text n x e

abbrev ending : Option (List ℕ) → ℕ → Result (Option (List ℕ) × ℕ) Place
ending n past = Ok (n, past)

rest_again : (e : Ending) (text : List ℕ) (at : ℕ) (rest : List ℕ) → IsName Last (narrative_item e) → drop at text ≡ tail_of e ++ rest → rest_at text (stop_of e) at ≡ Ok (present (narrative_item e), at + length (tail_of e))
unfolding narrative_at
rest_again bare text at rest n split = ap (ending None) (omega arith)
rest_again (narrated w) text at rest n split =
    let s : drop at text ≡ w ++ colon ∷ rest = split ∙ append_assoc w (colon ∷ []) rest in
    let len : at + length w + 1 ≡ at + length (w ++ colon ∷ []) = omega (arith, length-append w (colon ∷ [])) in
    rw (name_again Last colon text at w rest refl refl n s) (ap (ending (present w)) len)
rest_again (narrated_comma w) text at rest n split =
    let s : drop at text ≡ w ++ comma ∷ (colon ∷ rest) = split ∙ append_assoc w (comma ∷ colon ∷ []) rest in
    let get = head_get text (at + length w + 1) colon rest (behind text at w (colon ∷ rest) comma s) in
    let len : at + length w + 1 + 1 ≡ at + length (w ++ comma ∷ colon ∷ []) = omega (arith, length-append w (comma ∷ colon ∷ [])) in
    rw (name_again Last comma text at w (colon ∷ rest) refl refl n s, get) (ap (ending (present w)) len)

-- the end of a column that was read
record Ends (text : List ℕ) (stop at : ℕ) (narrative : Option (List ℕ)) (past : ℕ) : Type 0 where
  pub form : Ending
  pub stop_is : stop ≡ stop_of form
  pub name : IsName Last (narrative_item form)
  pub is : present (narrative_item form) ≡ narrative
  pub split : drop at text ≡ tail_of form ++ drop past text
  pub past_is : past ≡ at + length (tail_of form)

colon_takes : (text : List ℕ) (at : ℕ) (o : Option ℕ) (past : ℕ) → slice_get text at ≡ o → colon_by at o ≡ Ok past → (drop at text ≡ colon ∷ drop past text) × (past ≡ at + 1)
colon_takes text at None past f e = absurd cc
colon_takes text at (Some b) past f e =
    let p = passed (nat_eq b colon) (fault at codes.ItemSeparator) (Ok (at + 1)) past e in
    let z : at + 1 ≡ past = ok_is p.1 in
    let k : b ≡ colon = eqb-true b colon p.0 in
    let next : suc at ≡ past = omega (arith, z) in
    (get_drop text at b f ∙ rw (k, next) refl, sym z)

pub comma_is : (stop : ℕ) → (nat_eq stop comma || nat_eq stop colon) ≡ true → nat_eq stop colon ≡ false → stop ≡ comma
comma_is stop may other = elim (nat_eq stop comma) as (λ b. nat_eq stop comma ≡ b → stop ≡ comma) [
  | true ↦ λ e. eqb-true stop comma e
  | false ↦ λ e. let f : false ≡ true = rw (e, other) at may in absurd cc
] refl

narrative_takes : (text : List ℕ) (at : ℕ) (n : Option (List ℕ)) (past : ℕ) → narrative_at text at ≡ Ok (n, past) → Ends text comma at n past
unfolding narrative_at
narrative_takes text at n past e =
    let b = bind_ok (name_at Last text at) _ (n, past) e in
    let c = bind_ok (closed_at text b.0.stop b.0.past) _ (n, past) b.2 in
    let t = name_takes Last text at b.0 b.1 in
    let w = b.0.text in
    let same = ok_is {x = (present w, c.0)} {y = (n, past)} c.2 in
    let name_is : present w ≡ n = ap (λ (x : Option (List ℕ) × ℕ). x.0) same in
    let past_same : c.0 ≡ past = ap (λ (x : Option (List ℕ) × ℕ). x.1) same in
    elim (tested (nat_eq b.0.stop colon) (Ok b.0.past) (colon_by b.0.past (slice_get text b.0.past)) (Ok c.0) c.1) [
      | inl y ↦
          let z : b.0.past ≡ past = ok_is y.1 ∙ past_same in
          let k : b.0.stop ≡ colon = eqb-true b.0.stop colon y.0 in
          record {
            form = narrated w;
            stop_is = refl;
            name = t.0;
            is = name_is;
            split = t.1.split ∙ rw (k, z) (sym (append_assoc w (colon ∷ []) (drop past text)));
            past_is = omega (arith, t.1.past_is, length-append w (colon ∷ []));
          }
      | inr y ↦
          let k : b.0.stop ≡ comma = comma_is b.0.stop t.1.may y.0 in
          let d = colon_takes text b.0.past (slice_get text b.0.past) c.0 refl y.1 in
          let after : drop b.0.past text ≡ colon ∷ drop past text = d.0 ∙ ap (λ (m : ℕ). colon ∷ drop m text) past_same in
          record {
            form = narrated_comma w;
            stop_is = refl;
            name = t.0;
            is = name_is;
            split = t.1.split ∙ rw (k, after) (sym (append_assoc w (comma ∷ colon ∷ []) (drop past text)));
            past_is = omega (arith, t.1.past_is, d.1, past_same, length-append w (comma ∷ colon ∷ []));
          }
    ]

empty_name : IsName Last []
empty_name = record { text = record { open_ended = refl; plain = refl }; short = omega arith }

rest_takes : (text : List ℕ) (stop at : ℕ) (n : Option (List ℕ)) (past : ℕ) → (nat_eq stop comma || nat_eq stop colon) ≡ true → rest_at text stop at ≡ Ok (n, past) → Ends text stop at n past
rest_takes text stop at n past may e = elim (tested (nat_eq stop colon) (ending None at) (narrative_at text at) (ending n past) e) [
  | inl y ↦
      let same = ok_is {x = (None, at)} {y = (n, past)} y.1 in
      let past_same : at ≡ past = ap (λ (x : Option (List ℕ) × ℕ). x.1) same in
      record {
        form = bare;
        stop_is = eqb-true stop colon y.0;
        name = empty_name;
        is = ap (λ (x : Option (List ℕ) × ℕ). x.0) same;
        split = ap (λ (m : ℕ). drop m text) past_same;
        past_is = omega arith;
      }
  | inr y ↦
      let k : stop ≡ comma = comma_is stop may y.0 in
      subst (λ (s : ℕ). Ends text s at n past) (sym k) (narrative_takes text at n past y.1)
]

-- ---- the items of a column

-- an item of this text and byte was taken
pub record Piece (text : List ℕ) (at : ℕ) (w : List ℕ) (x : ℕ) (next : ℕ) : Type 0 where
  pub split : drop at text ≡ w ++ x ∷ drop next text
  pub next_is : next ≡ at + length w + 1

pub piece : (text : List ℕ) (at : ℕ) (item : Item) (w : List ℕ) (x : ℕ) → Takes Field text at item → item.text ≡ w → Piece text at w comma item.past
piece text at item w x t is =
    let k : item.stop ≡ comma = eqb-true item.stop comma t.may in
    record { split = t.split ∙ rw (k, is) refl; next_is = t.past_is ∙ rw is refl }

wanted_takes : {X : Type 0} (at : ℕ) (code : Code) (o : Option X) (x : X) → wanted at code o ≡ Ok x → o ≡ Some x
wanted_takes at code None x e = absurd cc
wanted_takes {X = X} at code (Some y) x e = ap (λ (v : X). Some v) (ok_is e)

allowed_takes : (at : ℕ) (k : Kind) (o : Option Count) (c : Count) → allowed at k o ≡ Ok c → (o ≡ Some c) × (allows k c ≡ true)
allowed_takes at k None c e = absurd cc
allowed_takes at k (Some d) c e =
    let p = passed (allows k d) (fault at codes.Count) (Ok d) c e in
    let z : d ≡ c = ok_is p.1 in
    (ap (λ (v : Count). Some v) z, subst (λ (v : Count). allows k v ≡ true) z p.0)

pub kind_at_takes : (text : List ℕ) (at : ℕ) (k : Kind) (next : ℕ) → kind_at text at ≡ Ok (k, next) → Piece text at (kind_text k) comma next
unfolding kind_at
kind_at_takes text at k next e =
    let b = bind_ok (text_at Field text at) _ (k, next) e in
    let d = bind_ok (wanted at codes.Kind (kind_of b.0.text)) _ (k, next) b.2 in
    let t = text_takes Field text at b.0 b.1 in
    let is = kind_takes b.0.text d.0 (wanted_takes at codes.Kind (kind_of b.0.text) d.0 d.1) in
    let p = piece text at b.0 (kind_text d.0) comma t.1 is in
    subst (λ (r : Kind × ℕ). Piece text at (kind_text r.0) comma r.1) (ok_is {x = (d.0, b.0.past)} {y = (k, next)} d.2) p

-- the item of a count
pub record TakesCount (k : Kind) (text : List ℕ) (at : ℕ) (c : Count) (next : ℕ) : Type 0 where
  pub item : List ℕ
  pub is : IsCount c item
  pub allowed_is : allows k c ≡ true
  pub piece_is : Piece text at item comma next

pub count_at_takes : (k : Kind) (text : List ℕ) (at : ℕ) (c : Count) (next : ℕ) → count_at k text at ≡ Ok (c, next) → TakesCount k text at c next
unfolding count_at
count_at_takes k text at c next e =
    let b = bind_ok (text_at Field text at) _ (c, next) e in
    let d = bind_ok (allowed at k (count_in b.0.text)) _ (c, next) b.2 in
    let t = text_takes Field text at b.0 b.1 in
    let a = allowed_takes at k (count_in b.0.text) d.0 d.1 in
    subst (λ (r : Count × ℕ). TakesCount k text at r.0 r.1) (ok_is {x = (d.0, b.0.past)} {y = (c, next)} d.2)
    (record { item = b.0.text; is = count_takes b.0.text d.0 a.0; allowed_is = a.1; piece_is = piece text at b.0 b.0.text comma t.1 refl })

-- the letter of a key
pub record TakesKey (text : List ℕ) (at : ℕ) (k : Key) (next : ℕ) : Type 0 where
  pub letter : ℕ
  pub is : letter_key letter ≡ Some k
  pub piece_is : Piece text at (letter ∷ []) comma next

pub key_at_takes : (text : List ℕ) (at : ℕ) (k : Key) (next : ℕ) → key_at text at ≡ Ok (k, next) → TakesKey text at k next
unfolding key_at
key_at_takes text at k next e =
    let b = bind_ok (text_at Field text at) _ (k, next) e in
    let d = bind_ok (wanted at codes.Key (key_of b.0.text)) _ (k, next) b.2 in
    let t = text_takes Field text at b.0 b.1 in
    let a = key_takes b.0.text d.0 (wanted_takes at codes.Key (key_of b.0.text) d.0 d.1) in
    subst (λ (r : Key × ℕ). TakesKey text at r.0 r.1) (ok_is {x = (d.0, b.0.past)} {y = (k, next)} d.2)
    (record { letter = a.0; is = a.2; piece_is = piece text at b.0 (a.0 ∷ []) comma t.1 a.1 })

-- a column's name
pub record TakesName (before : List Col) (text : List ℕ) (at : ℕ) (w : List ℕ) (next : ℕ) : Type 0 where
  pub name : IsName Name w
  pub some : 0 < length w
  pub new : place_of w before ≡ None
  pub piece_is : Piece text at w equals next

pub fresh_takes : (before : List Col) (text : List ℕ) (at : ℕ) (w : List ℕ) (next : ℕ) → fresh_name_at before text at ≡ Ok (w, next) → TakesName before text at w next
unfolding fresh_name_at
fresh_takes before text at w next e =
    let b = bind_ok (name_at Name text at) _ (w, next) e in
    let v = b.0.text in
    let g = guarded (nat_eq (length v) 0) (fault at codes.NameEmpty) (cond (is_some (place_of v before)) (Err (fault at codes.NameRepeat)) (Ok (v, b.0.past))) (w, next) b.2 in
    let p = guarded (is_some (place_of v before)) (fault at codes.NameRepeat) (Ok (v, b.0.past)) (w, next) g.1 in
    let t = name_takes Name text at b.0 b.1 in
    let k : b.0.stop ≡ equals = eqb-true b.0.stop equals t.1.may in
    subst (λ (r : List ℕ × ℕ). TakesName before text at r.0 r.1) (ok_is {x = (v, b.0.past)} {y = (w, next)} p.1)
    (record { name = t.0; some = omega (arith, eqb-false (length v) 0 g.0); new = absent (place_of v before) p.0; piece_is = record { split = t.1.split ∙ rw k refl; next_is = t.1.past_is } })

closing_text : (text : List ℕ) (stop at : ℕ) (n : Option (List ℕ)) (past : ℕ) (r : Ends text stop at n past) → stop ∷ drop at text ≡ ending_text r.form ++ drop past text
closing_text text stop at n past r = ap (λ (x : ℕ). x ∷ drop at text) r.stop_is ∙ ap (λ (x : List ℕ). stop_of r.form ∷ x) r.split ∙ ap (λ (x : List ℕ). x ++ drop past text) (sym (ending_parts r.form))

-- ---- columns

-- bytes of this spelling were taken
pub record Spans (spells : List ℕ → Type 0) (text : List ℕ) (at past : ℕ) : Type 0 where
  pub bytes : List ℕ
  pub is : spells bytes
  pub split : drop at text ≡ bytes ++ drop past text
  pub past_is : past ≡ at + length bytes

-- a column's text, item by item
abbrev spelled : (name kind count : List ℕ) (letter : ℕ) (description values theme end : List ℕ) → List ℕ
spelled name kind count letter description values theme end = name ++ equals ∷ (kind ++ comma ∷ (count ++ comma ∷ (letter ∷ comma ∷ (description ++ comma ∷ (values ++ comma ∷ (theme ++ end))))))

grouped : (name kind count : List ℕ) (letter : ℕ) (description values theme end rest : List ℕ) → spelled name kind count letter description values theme (end ++ rest) ≡ spelled name kind count letter description values theme end ++ rest
grouped name kind count letter description values theme end rest = sym (simp append_assoc)

length-item : (w : List ℕ) (x : ℕ) (rest : List ℕ) (n : ℕ) → length rest ≡ n → length (w ++ x ∷ rest) ≡ length w + 1 + n
length-item w x rest n e = omega (arith, length-append w (x ∷ rest))

pub measured : (name kind count : List ℕ) (letter : ℕ) (description values theme end : List ℕ) → length (spelled name kind count letter description values theme end)
    ≡ length name + 1 + (length kind + 1 + (length count + 1 + (1 + 1 + (length description + 1 + (length values + 1 + (length theme + length end))))))
measured name kind count letter description values theme end =
    length-item name equals _ _ (length-item kind comma _ _ (length-item count comma _ _ (length-item (letter ∷ []) comma _ _ (length-item description comma _ _ (length-item values comma _ _ (length-append theme end))))))

total : (at n1 n2 n3 n4 n5 n6 n7 past : ℕ) (name kind count description values theme end tail len : ℕ) → n1 ≡ at + name + 1 → n2 ≡ n1 + kind + 1 → n3 ≡ n2 + count + 1 → n4 ≡ n3 + 1 + 1 → n5 ≡ n4 + description + 1
    → n6 ≡ n5 + values + 1 → n7 ≡ n6 + theme + 1 → past ≡ n7 + tail → end ≡ suc tail → len ≡ name + 1 + (kind + 1 + (count + 1 + (1 + 1 + (description + 1 + (values + 1 + (theme + end)))))) → past ≡ at + len
total at n1 n2 n3 n4 n5 n6 n7 past name kind count description values theme end tail len e1 e2 e3 e4 e5 e6 e7 e8 e9 e10 = omega arith

-- one item after another
link : (text : List ℕ) (at : ℕ) (w : List ℕ) (x next : ℕ) (rest : List ℕ) → Piece text at w x next → drop next text ≡ rest → drop at text ≡ w ++ x ∷ rest
link text at w x next rest p e = p.split ∙ ap (λ (r : List ℕ). w ++ x ∷ r) e

-- a column whose items were taken one after another
column_spans : (before : List Col) (text : List ℕ) (at : ℕ) (name : List ℕ) (n1 : ℕ) (kind : Kind) (n2 : ℕ) (count : Count) (n3 : ℕ) (key : Key) (n4 : ℕ) (description values theme : Item) (narrative : Option (List ℕ)) (past : ℕ)
    → TakesName before text at name n1 → Piece text n1 (kind_text kind) comma n2 → TakesCount kind text n2 count n3 → TakesKey text n3 key n4
    → IsText Field description.text → Takes Field text n4 description → IsName Field values.text → Takes Field text description.past values → IsName Last theme.text → Takes Last text values.past theme
    → Ends text theme.stop theme.past narrative past
    → Spans (IsColumn before (record { name = name; kind = kind; count = count; key = key; description = description.text; values = present values.text; theme = present theme.text; narrative = narrative })) text at past
column_spans before text at name n1 kind n2 count n3 key n4 description values theme narrative past n k q l dt d vt v tt t r =
    let end = ending_text r.form in
    let rest = drop past text in
    let d2 = piece text n4 description description.text comma d refl in
    let v2 = piece text description.past values values.text comma v refl in
    let last : drop values.past text ≡ theme.text ++ (end ++ rest) = t.split ∙ ap (λ (x : List ℕ). theme.text ++ x) (closing_text text theme.stop theme.past narrative past r) in
    record {
      bytes = spelled name (kind_text kind) q.item l.letter description.text values.text theme.text end;
      is = record {
        count = q.item;
        letter = l.letter;
        values = values.text;
        theme = theme.text;
        ending = r.form;
        name_name = n.name;
        name_some = n.some;
        name_new = n.new;
        count_is = q.is;
        count_allowed = q.allowed_is;
        key_is = l.is;
        description_text = dt;
        values_name = vt;
        values_is = refl;
        theme_name = tt;
        theme_is = refl;
        narrative_name = r.name;
        narrative_is = r.is;
        spelled = refl;
      };
      split =
          link text at name equals n1 _ n.piece_is
          (link text n1 (kind_text kind) comma n2 _ k
          (link text n2 q.item comma n3 _ q.piece_is
          (link text n3 (l.letter ∷ []) comma n4 _ l.piece_is
          (link text n4 description.text comma description.past _ d2 (link text description.past values.text comma values.past _ v2 last)))))
          ∙ grouped name (kind_text kind) q.item l.letter description.text values.text theme.text end rest;
      past_is = total at n1 n2 n3 n4 description.past values.past theme.past past (length name) (length (kind_text kind)) (length q.item) (length description.text) (length values.text) (length theme.text) (length end) (length (tail_of r.form)) _
          n.piece_is.next_is k.next_is q.piece_is.next_is l.piece_is.next_is d2.next_is v2.next_is t.past_is r.past_is (ap length (ending_parts r.form)) (measured name (kind_text kind) q.item l.letter description.text values.text theme.text end);
    }

pub column_takes : (before : List Col) (text : List ℕ) (at : ℕ) (c : Col) (past : ℕ) → column_at before text at ≡ Ok (c, past) → Spans (IsColumn before c) text at past
unfolding column_at
column_takes before text at c past e =
    let name = bind_ok (fresh_name_at before text at) _ (c, past) e in
    let kind = bind_ok (kind_at text name.0.1) _ (c, past) name.2 in
    let count = bind_ok (count_at kind.0.0 text kind.0.1) _ (c, past) kind.2 in
    let key = bind_ok (key_at text count.0.1) _ (c, past) count.2 in
    let description = bind_ok (text_at Field text key.0.1) _ (c, past) key.2 in
    let values = bind_ok (name_at Field text description.0.past) _ (c, past) description.2 in
    let theme = bind_ok (name_at Last text values.0.past) _ (c, past) values.2 in
    let narrative = bind_ok (rest_at text theme.0.stop theme.0.past) _ (c, past) theme.2 in
    let d = text_takes Field text key.0.1 description.0 description.1 in
    let v = name_takes Field text description.0.past values.0 values.1 in
    let t = name_takes Last text values.0.past theme.0 theme.1 in
    subst (λ (x : Col × ℕ). Spans (IsColumn before x.0) text at x.1)
    (ok_is {x = (record { name = name.0.0; kind = kind.0.0; count = count.0.0; key = key.0.0; description = description.0.text; values = present values.0.text; theme = present theme.0.text; narrative = narrative.0.0 }, narrative.0.1)} {y = (c, past)} narrative.2)
    (column_spans before text at name.0.0 name.0.1 kind.0.0 kind.0.1 count.0.0 count.0.1 key.0.0 key.0.1 description.0 values.0 theme.0 narrative.0.0 narrative.0.1
    (fresh_takes before text at name.0.0 name.0.1 name.1) (kind_at_takes text name.0.1 kind.0.0 kind.0.1 kind.1) (count_at_takes kind.0.0 text kind.0.1 count.0.0 count.0.1 count.1) (key_at_takes text count.0.1 key.0.0 key.0.1 key.1)
    d.0 d.1 v.0 v.1 t.0 t.1 (rest_takes text theme.0.stop theme.0.past narrative.0.0 narrative.0.1 t.1.may narrative.1))

-- ---- a column that is spelled

name_opens : (w : List ℕ) → 0 < length w → nat_eq (length w) 0 ≡ false
name_opens w h = ne_eqb (length w) 0 (λ e. omega arith)

pub fresh_again : (before : List Col) (text : List ℕ) (at : ℕ) (w rest : List ℕ) → IsName Name w → 0 < length w → place_of w before ≡ None → drop at text ≡ w ++ equals ∷ rest → fresh_name_at before text at ≡ Ok (w, at + length w + 1)
unfolding fresh_name_at
fresh_again before text at w rest n some new split =
    rw (name_again Name equals text at w rest refl refl n split, name_opens w some, ap is_some new) refl

pub kind_at_again : (text : List ℕ) (at : ℕ) (k : Kind) (rest : List ℕ) → drop at text ≡ kind_text k ++ comma ∷ rest → kind_at text at ≡ Ok (k, at + length (kind_text k) + 1)
unfolding kind_at
kind_at_again text at k rest split =
    let a = kind_again k in
    rw (text_again Field comma text at (kind_text k) rest refl refl a.0 split, a.1) refl

pub count_at_again : (k : Kind) (text : List ℕ) (at : ℕ) (c : Count) (item rest : List ℕ) → IsCount c item → allows k c ≡ true → drop at text ≡ item ++ comma ∷ rest → count_at k text at ≡ Ok (c, at + length item + 1)
unfolding count_at
count_at_again k text at c item rest is may split =
    let a = count_again c item is in
    rw (text_again Field comma text at item rest refl refl a.0 split, a.1, may) refl

pub key_at_again : (text : List ℕ) (at : ℕ) (k : Key) (letter : ℕ) (rest : List ℕ) → letter_key letter ≡ Some k → drop at text ≡ letter ∷ comma ∷ rest → key_at text at ≡ Ok (k, at + 1 + 1)
unfolding key_at
key_at_again text at k letter rest is split = rw (text_again Field comma text at (letter ∷ []) rest refl refl (key_again letter k is) split, is) refl

stop_is_stop : (e : Ending) → (nat_eq (stop_of e) comma || nat_eq (stop_of e) colon || nat_eq (stop_of e) semicolon) ≡ true
stop_is_stop bare = refl
stop_is_stop (narrated w) = refl
stop_is_stop (narrated_comma w) = refl

abbrev pub column : Col → ℕ → Result (Col × ℕ) Place
column c past = Ok (c, past)

pub column_again : (before : List Col) (c : Col) (text : List ℕ) (at : ℕ) (bytes rest : List ℕ) → IsColumn before c bytes → drop at text ≡ bytes ++ rest → column_at before text at ≡ Ok (c, at + length bytes)
unfolding column_at
column_again before c text at bytes rest s e =
    let end = ending_text s.ending in
    let t8 = tail_of s.ending ++ rest in
    let t7 = s.theme ++ stop_of s.ending ∷ t8 in
    let t6 = s.values ++ comma ∷ t7 in
    let t5 = c.description ++ comma ∷ t6 in
    let t4 = s.letter ∷ comma ∷ t5 in
    let t3 = s.count ++ comma ∷ t4 in
    let t2 = kind_text c.kind ++ comma ∷ t3 in
    let closing : end ++ rest ≡ stop_of s.ending ∷ t8 = ap (λ (x : List ℕ). x ++ rest) (ending_parts s.ending) in
    let e1 : drop at text ≡ c.name ++ equals ∷ t2 =
    e ∙ ap (λ (b : List ℕ). b ++ rest) s.spelled ∙ sym (grouped c.name (kind_text c.kind) s.count s.letter c.description s.values s.theme end rest)
    ∙ ap (λ (x : List ℕ). spelled c.name (kind_text c.kind) s.count s.letter c.description s.values s.theme x) closing in
    let n1 = at + length c.name + 1 in
    let e2 : drop n1 text ≡ t2 = behind text at c.name t2 equals e1 in
    let n2 = n1 + length (kind_text c.kind) + 1 in
    let e3 : drop n2 text ≡ t3 = behind text n1 (kind_text c.kind) t3 comma e2 in
    let n3 = n2 + length s.count + 1 in
    let e4 : drop n3 text ≡ t4 = behind text n2 s.count t4 comma e3 in
    let n4 = n3 + 1 + 1 in
    let e5 : drop n4 text ≡ t5 = behind text n3 (s.letter ∷ []) t5 comma e4 in
    let n5 = n4 + length c.description + 1 in
    let e6 : drop n5 text ≡ t6 = behind text n4 c.description t6 comma e5 in
    let n6 = n5 + length s.values + 1 in
    let e7 : drop n6 text ≡ t7 = behind text n5 s.values t7 comma e6 in
    let n7 = n6 + length s.theme + 1 in
    let e8 : drop n7 text ≡ t8 = behind text n6 s.theme t8 (stop_of s.ending) e7 in
    let len : n7 + length (tail_of s.ending) ≡ at + length bytes =
    total at n1 n2 n3 n4 n5 n6 n7 (n7 + length (tail_of s.ending)) (length c.name) (length (kind_text c.kind)) (length s.count) (length c.description) (length s.values) (length s.theme) (length end) (length (tail_of s.ending)) (length bytes)
    refl refl refl refl refl refl refl refl (ap length (ending_parts s.ending)) (ap length s.spelled ∙ measured c.name (kind_text c.kind) s.count s.letter c.description s.values s.theme end) in
    rw (
      fresh_again before text at c.name t2 s.name_name s.name_some s.name_new e1,
      kind_at_again text n1 c.kind t3 e2,
      count_at_again c.kind text n2 c.count s.count t4 s.count_is s.count_allowed e3,
      key_at_again text n3 c.key s.letter t5 s.key_is e4,
      text_again Field comma text n4 c.description t6 refl refl s.description_text e5,
      name_again Field comma text n5 s.values t7 refl refl s.values_name e6,
      s.values_is,
      name_again Last (stop_of s.ending) text n6 s.theme t8 (stop_is_stop s.ending) (stop_stops s.ending) s.theme_name e7,
      s.theme_is,
      rest_again s.ending text n7 rest s.narrative_name e8,
      s.narrative_is,
    ) (ap (column c) len)
