-- At its first fault a column is refused.
use Rattle.std.proofs.Common.{◌≡◌, ℕ, zero, suc, ◌+◌, ◌<◌, true, false, ltb, nat_eq, List, [], ◌∷◌, ◌++◌, length, drop, get_or, Option, Some, None, Ok, Err, refl, sym, ap, subst, ◌∙◌, append_assoc, arith}
use Rattle.std.specs.Prelude.{position, slice_get, is_some}
use Rattle.std.specs.List.{position_or_len}
use Rattle.std.proofs.lemmas.Bool.{lt-ltb, le-ltb, ne_eqb}
use Rattle.std.proofs.lemmas.List.{drop_at, drop-drop, length-append}
use Rattle.vpf_base.specs.Limits.{longest_name}
use Rattle.vpf_triplet.specs.declared.kinds.Kind.{Kind}
use Rattle.vpf_triplet.specs.declared.kinds.Count.{Count}
use Rattle.vpf_triplet.specs.declared.places.Place.{Place}
use Rattle.vpf_triplet.specs.declared.places.Code.{Code}
use Rattle.vpf_triplet.specs.declared.places.Code.TheVariants as codes
use Rattle.vpf_triplet.specs.Kinds.{kind_text, allows, kind_of}
use Rattle.vpf_triplet.specs.Places.{fault}
use Rattle.vpf_head.specs.declared.columns.Key.{Key}
use Rattle.vpf_head.specs.declared.items.Form.{Form}
use Rattle.vpf_head.specs.declared.items.Form.TheVariants.{Name, Field, Last}
use Rattle.vpf_head.specs.Bytes.{comma, colon, equals}
use Rattle.vpf_head.specs.Faults as faults
use Rattle.vpf_head.specs.Faults.{Lies, BeginsItem, ItemFault, endless, misended, long, controlled, Next, IsBeginning, SaysNothing, IsNoKind, IsNoCount, IsNoKey, Refuses}
use Rattle.vpf_head.specs.Fields.{key_of, count_in}
use Rattle.vpf_head.specs.Forms.{is_stop, is_separator}
use Rattle.vpf_head.specs.Head.{Col, place_of}
use Rattle.vpf_head.specs.Items.{Item, item_at, text_at, name_at}
use Rattle.vpf_head.specs.Reading.{wanted, allowed, fresh_name_at, kind_at, count_at, key_at, colon_by, rest_at, narrative_at, column_at}
use Rattle.vpf_head.specs.Spelling.{IsOpen, IsName}
use Rattle.vpf_head.proofs.ColumnLaws.{head_get, fresh_again, kind_at_again, count_at_again, key_at_again}
use Rattle.vpf_head.proofs.FieldLaws.{kind_takes, key_takes, count_takes}
use Rattle.vpf_head.proofs.HeadLaws.{passes_nowhere}
use Rattle.vpf_head.proofs.ItemLaws.{made, position_is, get_at, item_again, text_again, name_again}

-- ---- items

endless_item : (form : Form) (text : List ℕ) (at : ℕ) → IsOpen form (drop at text) → item_at form text at ≡ Err (fault at codes.ItemEnd)
unfolding item_at
endless_item form text at h =
    let k = passes_nowhere (is_stop form) (drop at text) h in
    let lt : ltb (position_or_len (is_stop form) (drop at text)) (length (drop at text)) ≡ false = le-ltb _ _ (omega (arith, k)) in
    rw lt refl

misended_item : (form : Form) (text : List ℕ) (at : ℕ) (item : List ℕ) (stop : ℕ) → BeginsItem form item stop (drop at text) → is_separator form stop ≡ false → item_at form text at ≡ Err (fault at codes.ItemSeparator)
unfolding item_at
misended_item form text at w x b bad =
    let found : position (is_stop form) (drop at text) ≡ Some (length w) = ap (position (is_stop form)) b.parts ∙ position_is (is_stop form) w b.rest x b.open_ended b.stops in
    let byte : get_or (drop at text) (length w) 0 ≡ x = ap (λ (l : List ℕ). get_or l (length w) 0) b.parts ∙ get_at w b.rest x in
    rw (found, byte, bad) refl

whole_item : (form : Form) (text : List ℕ) (at : ℕ) (item : List ℕ) (stop : ℕ) → BeginsItem form item stop (drop at text) → is_separator form stop ≡ true → item_at form text at ≡ Ok (made item stop at)
whole_item form text at w x b may = item_again form x text at w b.rest b.stops may b.open_ended b.parts

pub text_refused : (form : Form) (text : List ℕ) (at : ℕ) (code : Code) → ItemFault form false (drop at text) code → text_at form text at ≡ Err (fault at code)
unfolding text_at
text_refused form text at code (endless h) = rw (endless_item form text at h) refl
text_refused form text at code (misended w x b bad) = rw (misended_item form text at w x b bad) refl
text_refused form text at code (long w x b may named h) = absurd cc
text_refused form text at code (controlled w x b may short holds) = rw (whole_item form text at w x b may, holds) refl

pub name_refused : (form : Form) (text : List ℕ) (at : ℕ) (code : Code) → ItemFault form true (drop at text) code → name_at form text at ≡ Err (fault at code)
unfolding name_at
name_refused form text at code (endless h) = rw (endless_item form text at h) refl
name_refused form text at code (misended w x b bad) = rw (misended_item form text at w x b bad) refl
name_refused form text at code (long w x b may named h) = rw (whole_item form text at w x b may, lt-ltb longest_name (length w) h) refl
name_refused form text at code (controlled w x b may short holds) = rw (whole_item form text at w x b may, le-ltb longest_name (length w) (short refl), holds) refl

-- ---- the items of a column up to an offset, as they are read

record AtKind (before : List Col) (text : List ℕ) (at here : ℕ) : Type 0 where
  name : List ℕ
  name_read : fresh_name_at before text at ≡ Ok (name, here)

record AtCount (before : List Col) (text : List ℕ) (at : ℕ) (kind : Kind) (here : ℕ) : Type 0 where
  from : ℕ
  named : AtKind before text at from
  kind_read : kind_at text from ≡ Ok (kind, here)

record AtKey (before : List Col) (text : List ℕ) (at here : ℕ) : Type 0 where
  kind : Kind
  from : ℕ
  kinded : AtCount before text at kind from
  count : Count
  count_read : count_at kind text from ≡ Ok (count, here)

record AtDescription (before : List Col) (text : List ℕ) (at here : ℕ) : Type 0 where
  from : ℕ
  counted : AtKey before text at from
  key : Key
  key_read : key_at text from ≡ Ok (key, here)

record AtValues (before : List Col) (text : List ℕ) (at here : ℕ) : Type 0 where
  from : ℕ
  keyed : AtDescription before text at from
  item : Item
  item_read : text_at Field text from ≡ Ok item
  past_is : item.past ≡ here

record AtTheme (before : List Col) (text : List ℕ) (at here : ℕ) : Type 0 where
  from : ℕ
  described : AtValues before text at from
  item : Item
  item_read : name_at Field text from ≡ Ok item
  past_is : item.past ≡ here

record AtNarrative (before : List Col) (text : List ℕ) (at here : ℕ) : Type 0 where
  from : ℕ
  valued : AtTheme before text at from
  item : Item
  item_read : name_at Last text from ≡ Ok item
  past_is : item.past ≡ here
  stop_is : item.stop ≡ comma

record AtColon (before : List Col) (text : List ℕ) (at here : ℕ) : Type 0 where
  from : ℕ
  themed : AtNarrative before text at from
  item : Item
  item_read : name_at Last text from ≡ Ok item
  past_is : item.past ≡ here
  stop_is : item.stop ≡ comma

-- what lies in two parts, the second an item and the byte that ends it
record Parted (text : List ℕ) (at here : ℕ) (bytes w : List ℕ) (x : ℕ) : Type 0 where
  from : ℕ
  front : Lies text at from bytes
  split : drop from text ≡ w ++ x ∷ drop here text
  here_is : from + length w + 1 ≡ here

parted : (text : List ℕ) (at here : ℕ) (bytes w : List ℕ) (x : ℕ) → Lies text at here (bytes ++ (w ++ x ∷ [])) → Parted text at here bytes w x
parted text at here bytes w x l =
    let more = drop here text in
    let item : (w ++ x ∷ []) ++ more ≡ w ++ x ∷ more = append_assoc w (x ∷ []) more in
    let whole : drop at text ≡ bytes ++ (w ++ x ∷ more) = l.split ∙ append_assoc bytes (w ++ x ∷ []) more ∙ ap (λ (r : List ℕ). bytes ++ r) item in
    let rest : drop (at + length bytes) text ≡ w ++ x ∷ more = sym (drop-drop (length bytes) at text) ∙ ap (drop (length bytes)) whole ∙ drop_at bytes (w ++ x ∷ more) (length bytes) refl in
    record {
      from = at + length bytes;
      front = record { split = whole ∙ ap (λ (r : List ℕ). bytes ++ r) (sym rest); size = refl };
      split = rest;
      here_is = omega (arith, l.size, length-append bytes (w ++ x ∷ []), length-append w (x ∷ []));
    }

at_kind : (before : List Col) (text : List ℕ) (at here : ℕ) (bytes : List ℕ) → IsBeginning before faults.kind bytes → Lies text at here bytes → AtKind before text at here
at_kind before text at here bytes (faults.named w n some new) l =
    let split : drop at text ≡ w ++ equals ∷ drop here text = l.split ∙ append_assoc w (equals ∷ []) (drop here text) in
    let past : at + length w + 1 ≡ here = omega (arith, l.size, length-append w (equals ∷ [])) in
    record { name = w; name_read = fresh_again before text at w (drop here text) n some new split ∙ ap (λ (i : ℕ). Ok (w, i)) past }

at_count : (before : List Col) (text : List ℕ) (at here : ℕ) (k : Kind) (bytes : List ℕ) → IsBeginning before (faults.count k) bytes → Lies text at here bytes → AtCount before text at k here
at_count before text at here k bytes (faults.kinded b j b_is) l =
    let p = parted text at here b (kind_text k) comma l in
    record { from = p.from; named = at_kind before text at p.from b b_is p.front; kind_read = kind_at_again text p.from k (drop here text) p.split ∙ ap (λ (i : ℕ). Ok (k, i)) p.here_is }

at_key : (before : List Col) (text : List ℕ) (at here : ℕ) (bytes : List ℕ) → IsBeginning before faults.key bytes → Lies text at here bytes → AtKey before text at here
at_key before text at here bytes (faults.counted b k c item b_is is may) l =
    let p = parted text at here b item comma l in
    record { kind = k; from = p.from; kinded = at_count before text at p.from k b b_is p.front; count = c; count_read = count_at_again k text p.from c item (drop here text) is may p.split ∙ ap (λ (i : ℕ). Ok (c, i)) p.here_is }

at_description : (before : List Col) (text : List ℕ) (at here : ℕ) (bytes : List ℕ) → IsBeginning before faults.description bytes → Lies text at here bytes → AtDescription before text at here
at_description before text at here bytes (faults.keyed b k letter b_is is) l =
    let p = parted text at here b (letter ∷ []) comma l in
    record { from = p.from; counted = at_key before text at p.from b b_is p.front; key = k; key_read = key_at_again text p.from k letter (drop here text) is p.split ∙ ap (λ (i : ℕ). Ok (k, i)) p.here_is }

at_values : (before : List Col) (text : List ℕ) (at here : ℕ) (bytes : List ℕ) → IsBeginning before faults.values bytes → Lies text at here bytes → AtValues before text at here
at_values before text at here bytes (faults.described b item b_is is) l =
    let p = parted text at here b item comma l in
    record { from = p.from; keyed = at_description before text at p.from b b_is p.front; item = made item comma p.from; item_read = text_again Field comma text p.from item (drop here text) refl refl is p.split; past_is = p.here_is }

at_theme : (before : List Col) (text : List ℕ) (at here : ℕ) (bytes : List ℕ) → IsBeginning before faults.theme bytes → Lies text at here bytes → AtTheme before text at here
at_theme before text at here bytes (faults.valued b item b_is is) l =
    let p = parted text at here b item comma l in
    record { from = p.from; described = at_values before text at p.from b b_is p.front; item = made item comma p.from; item_read = name_again Field comma text p.from item (drop here text) refl refl is p.split; past_is = p.here_is }

at_narrative : (before : List Col) (text : List ℕ) (at here : ℕ) (bytes : List ℕ) → IsBeginning before faults.narrative bytes → Lies text at here bytes → AtNarrative before text at here
at_narrative before text at here bytes (faults.themed b item b_is is) l =
    let p = parted text at here b item comma l in
    record { from = p.from; valued = at_theme before text at p.from b b_is p.front; item = made item comma p.from; item_read = name_again Last comma text p.from item (drop here text) refl refl is p.split; past_is = p.here_is; stop_is = refl }

at_colon : (before : List Col) (text : List ℕ) (at here : ℕ) (bytes : List ℕ) → IsBeginning before faults.colon_after bytes → Lies text at here bytes → AtColon before text at here
at_colon before text at here bytes (faults.narrated b item b_is is) l =
    let p = parted text at here b item comma l in
    record { from = p.from; themed = at_narrative before text at p.from b b_is p.front; item = made item comma p.from; item_read = name_again Last comma text p.from item (drop here text) refl refl is p.split; past_is = p.here_is; stop_is = refl }

-- ---- a column whose next item is refused

name_fails : (before : List Col) (text : List ℕ) (at : ℕ) (p : Place) → fresh_name_at before text at ≡ Err p → column_at before text at ≡ Err p
unfolding column_at
name_fails before text at p e = rw e refl

kind_fails : (before : List Col) (text : List ℕ) (at here : ℕ) (p : Place) → AtKind before text at here → kind_at text here ≡ Err p → column_at before text at ≡ Err p
unfolding column_at
kind_fails before text at here p a e = rw (a.name_read, e) refl

count_fails : (before : List Col) (text : List ℕ) (at here : ℕ) (k : Kind) (p : Place) → AtCount before text at k here → count_at k text here ≡ Err p → column_at before text at ≡ Err p
unfolding column_at
count_fails before text at here k p a e = rw (a.named.name_read, a.kind_read, e) refl

key_fails : (before : List Col) (text : List ℕ) (at here : ℕ) (p : Place) → AtKey before text at here → key_at text here ≡ Err p → column_at before text at ≡ Err p
unfolding column_at
key_fails before text at here p a e = let b = a.kinded in rw (b.named.name_read, b.kind_read, a.count_read, e) refl

description_fails : (before : List Col) (text : List ℕ) (at here : ℕ) (p : Place) → AtDescription before text at here → text_at Field text here ≡ Err p → column_at before text at ≡ Err p
unfolding column_at
description_fails before text at here p a e = let b = a.counted.kinded in rw (b.named.name_read, b.kind_read, a.counted.count_read, a.key_read, e) refl

values_fail : (before : List Col) (text : List ℕ) (at here : ℕ) (p : Place) → AtValues before text at here → name_at Field text here ≡ Err p → column_at before text at ≡ Err p
unfolding column_at
values_fail before text at here p a e =
    let c = a.keyed.counted in
    let b = c.kinded in
    rw (b.named.name_read, b.kind_read, c.count_read, a.keyed.key_read, a.item_read, a.past_is, e) refl

theme_fails : (before : List Col) (text : List ℕ) (at here : ℕ) (p : Place) → AtTheme before text at here → name_at Last text here ≡ Err p → column_at before text at ≡ Err p
unfolding column_at
theme_fails before text at here p a e =
    let d = a.described in
    let c = d.keyed.counted in
    let b = c.kinded in
    rw (b.named.name_read, b.kind_read, c.count_read, d.keyed.key_read, d.item_read, d.past_is, a.item_read, a.past_is, e) refl

rest_fails : (before : List Col) (text : List ℕ) (at here : ℕ) (p : Place) → AtNarrative before text at here → rest_at text comma here ≡ Err p → column_at before text at ≡ Err p
unfolding column_at
rest_fails before text at here p a e =
    let t = a.valued in
    let d = t.described in
    let c = d.keyed.counted in
    let b = c.kinded in
    rw (b.named.name_read, b.kind_read, c.count_read, d.keyed.key_read, d.item_read, d.past_is, t.item_read, t.past_is, a.item_read, a.stop_is, a.past_is, e) refl

narrative_fails : (text : List ℕ) (here : ℕ) (p : Place) → name_at Last text here ≡ Err p → narrative_at text here ≡ Err p
unfolding narrative_at
narrative_fails text here p e = rw e refl

colon_fails : (text : List ℕ) (from here : ℕ) (item : Item) (p : Place) → name_at Last text from ≡ Ok item → item.past ≡ here → item.stop ≡ comma → colon_by here (slice_get text here) ≡ Err p → narrative_at text from ≡ Err p
unfolding narrative_at
colon_fails text from here item p read past stop e = rw (read, stop, past, e) refl

-- ---- what the next item is refused for

name_is_empty : (before : List Col) (text : List ℕ) (at : ℕ) (rest : List ℕ) → drop at text ≡ equals ∷ rest → fresh_name_at before text at ≡ Err (fault at codes.NameEmpty)
unfolding fresh_name_at
name_is_empty before text at rest e = rw (name_again Name equals text at [] rest refl refl (record { text = record { open_ended = refl; plain = refl }; short = omega arith }) e) refl

name_is_taken : (before : List Col) (text : List ℕ) (at : ℕ) (w rest : List ℕ) → IsName Name w → 0 < length w → drop at text ≡ w ++ equals ∷ rest → is_some (place_of w before) ≡ true → fresh_name_at before text at ≡ Err (fault at codes.NameRepeat)
unfolding fresh_name_at
name_is_taken before text at w rest n some e taken =
    let full : nat_eq (length w) 0 ≡ false = ne_eqb (length w) 0 (λ z. omega arith) in
    rw (name_again Name equals text at w rest refl refl n e, full, taken) refl

bad_name_fails : (before : List Col) (text : List ℕ) (at : ℕ) (code : Code) → ItemFault Name true (drop at text) code → fresh_name_at before text at ≡ Err (fault at code)
unfolding fresh_name_at
bad_name_fails before text at code f = rw (name_refused Name text at code f) refl

bad_kind_fails : (text : List ℕ) (at : ℕ) (code : Code) → ItemFault Field false (drop at text) code → kind_at text at ≡ Err (fault at code)
unfolding kind_at
bad_kind_fails text at code f = rw (text_refused Field text at code f) refl

bad_count_fails : (k : Kind) (text : List ℕ) (at : ℕ) (code : Code) → ItemFault Field false (drop at text) code → count_at k text at ≡ Err (fault at code)
unfolding count_at
bad_count_fails k text at code f = rw (text_refused Field text at code f) refl

bad_key_fails : (text : List ℕ) (at : ℕ) (code : Code) → ItemFault Field false (drop at text) code → key_at text at ≡ Err (fault at code)
unfolding key_at
bad_key_fails text at code f = rw (text_refused Field text at code f) refl

unwanted : {X : Type 0} (o : Option X) (at : ℕ) (code : Code) → ((x : X) → o ≡ Some x → ⊥) → wanted at code o ≡ Err (fault at code)
unwanted None at code h = refl
unwanted (Some x) at code h = absurd (h x refl)

not_allowed : (k : Kind) (o : Option Count) (at : ℕ) → ((c : Count) → o ≡ Some c → allows k c ≡ false) → allowed at k o ≡ Err (fault at codes.Count)
not_allowed k None at h = refl
not_allowed k (Some c) at h = rw (h c refl) refl

said : (nothing : List ℕ → Type 0) (text : List ℕ) (at : ℕ) (s : SaysNothing nothing (drop at text)) → text_at Field text at ≡ Ok (made s.item comma at)
said nothing text at s = text_again Field comma text at s.item s.rest refl refl s.text s.parts

no_kind_fails : (text : List ℕ) (at : ℕ) → SaysNothing IsNoKind (drop at text) → kind_at text at ≡ Err (fault at codes.Kind)
unfolding kind_at
no_kind_fails text at s = rw (said IsNoKind text at s, unwanted (kind_of s.item) at codes.Kind (λ k e. s.says k (kind_takes s.item k e))) refl

no_count_fails : (k : Kind) (text : List ℕ) (at : ℕ) → SaysNothing (IsNoCount k) (drop at text) → count_at k text at ≡ Err (fault at codes.Count)
unfolding count_at
no_count_fails k text at s = rw (said (IsNoCount k) text at s, not_allowed k (count_in s.item) at (λ c e. s.says c (count_takes s.item c e))) refl

no_key_fails : (text : List ℕ) (at : ℕ) → SaysNothing IsNoKey (drop at text) → key_at text at ≡ Err (fault at codes.Key)
unfolding key_at
no_key_fails text at s = rw (said IsNoKey text at s, unwanted (key_of s.item) at codes.Key (λ k e. let t = key_takes s.item k e in s.says t.0 k t.1 t.2)) refl

nothing_there : (text : List ℕ) (at : ℕ) → drop at text ≡ [] → slice_get text at ≡ None
nothing_there [] at e = refl
nothing_there (x ∷ text) zero e = absurd cc
nothing_there (x ∷ text) (suc at) e = nothing_there text at e

-- ---- the column

name_stops : (before : List Col) (text : List ℕ) (at : ℕ) (code : Code) → Refuses before (drop at text) faults.name code → column_at before text at ≡ Err (fault at code)
name_stops before text at code (faults.bad_name c f) = name_fails before text at (fault at code) (bad_name_fails before text at code f)
name_stops before text at code (faults.no_name rest e) = name_fails before text at (fault at codes.NameEmpty) (name_is_empty before text at rest e)
name_stops before text at code (faults.same_name w rest n some e taken) = name_fails before text at (fault at codes.NameRepeat) (name_is_taken before text at w rest n some e taken)

pub column_refused : (before : List Col) (text : List ℕ) (at here : ℕ) (next : Next) (bytes : List ℕ) (code : Code) → IsBeginning before next bytes → Lies text at here bytes → Refuses before (drop here text) next code → column_at before text at ≡ Err (fault here code)
column_refused before text at here next bytes code faults.begun l r =
    let same : at ≡ here = omega (arith, l.size) in
    name_stops before text at code (subst (λ (i : ℕ). Refuses before (drop i text) faults.name code) (sym same) r) ∙ ap (λ (i : ℕ). Err (fault i code)) same
column_refused before text at here next bytes code b l (faults.bad_kind c f) = kind_fails before text at here (fault here code) (at_kind before text at here bytes b l) (bad_kind_fails text here code f)
column_refused before text at here next bytes code b l (faults.no_kind s) = kind_fails before text at here (fault here codes.Kind) (at_kind before text at here bytes b l) (no_kind_fails text here s)
column_refused before text at here next bytes code b l (faults.bad_count k c f) = count_fails before text at here k (fault here code) (at_count before text at here k bytes b l) (bad_count_fails k text here code f)
column_refused before text at here next bytes code b l (faults.no_count k s) = count_fails before text at here k (fault here codes.Count) (at_count before text at here k bytes b l) (no_count_fails k text here s)
column_refused before text at here next bytes code b l (faults.bad_key c f) = key_fails before text at here (fault here code) (at_key before text at here bytes b l) (bad_key_fails text here code f)
column_refused before text at here next bytes code b l (faults.no_key s) = key_fails before text at here (fault here codes.Key) (at_key before text at here bytes b l) (no_key_fails text here s)
column_refused before text at here next bytes code b l (faults.bad_description c f) = description_fails before text at here (fault here code) (at_description before text at here bytes b l) (text_refused Field text here code f)
column_refused before text at here next bytes code b l (faults.bad_values c f) = values_fail before text at here (fault here code) (at_values before text at here bytes b l) (name_refused Field text here code f)
column_refused before text at here next bytes code b l (faults.bad_theme c f) = theme_fails before text at here (fault here code) (at_theme before text at here bytes b l) (name_refused Last text here code f)
column_refused before text at here next bytes code b l (faults.bad_narrative c f) = rest_fails before text at here (fault here code) (at_narrative before text at here bytes b l) (narrative_fails text here (fault here code) (name_refused Last text here code f))
column_refused before text at here next bytes code b l (faults.no_end e) =
    let a = at_colon before text at here bytes b l in
    rest_fails before text at a.from (fault here codes.ItemEnd) a.themed (colon_fails text a.from here a.item (fault here codes.ItemEnd) a.item_read a.past_is a.stop_is (ap (colon_by here) (nothing_there text here e)))
column_refused before text at here next bytes code b l (faults.no_colon x rest e other) =
    let a = at_colon before text at here bytes b l in
    let misplaced : colon_by here (Some x) ≡ Err (fault here codes.ItemSeparator) = rw (ne_eqb x colon other) refl in
    rest_fails before text at a.from (fault here codes.ItemSeparator) a.themed (colon_fails text a.from here a.item (fault here codes.ItemSeparator) a.item_read a.past_is a.stop_is (ap (colon_by here) (head_get text here x rest e) ∙ misplaced))
