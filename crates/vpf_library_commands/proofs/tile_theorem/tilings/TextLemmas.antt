-- The pieces of a text between its slashes are text, and so are names that are made of them.
use Rattle.std.proofs.Common.{◌≡◌, ◌≢◌, ℕ, suc, ◌<◌, ◌≤◌, ◌==◌, Bool, true, false, cond, List, [], ◌∷◌, ◌++◌, filter, length, get_or, Option, None, Some}
use Rattle.std.proofs.Common.{refl, sym, ap, ◌∙◌, subst, inl, inr, arith}
use Rattle.std.specs.Prelude.{IsUtf8, encode_utf8, encode_utf8_all, nat_eq}
use Rattle.std.specs.List.{AllByRecursion, onto_first, slice_split, flat_map, starts_with}
use Rattle.std.specs.Str.{all_scalars}
use lib.Utf8.{scalar}
use Rattle.std.proofs.lemmas.Bool.{cases_Bool, cases_lt, eqb-true, ne_eqb}
use Rattle.std.proofs.lemmas.List.{append-nil}
use Rattle.std.proofs.lemmas.List.Splits.{slice_split-cons_no, slice_split-cons_yes}
use Rattle.std.proofs.lemmas.Str.{IsUtf8-append, IsUtf8-encode, IsUtf8-nil, NoCharPasses-byte, encode_ascii}
use Rattle.std.proofs.lemmas.Option.{none-some}
use Rattle.vpf_base.proofs.Booleans.{both}
use Rattle.vpf_library_commands.specs.declared.requesting.MakeRequest.{MakeRequest}
use Rattle.vpf_library_commands.specs.Make.{is_in_folder, make_request_of}
use Rattle.vpf_library_commands.specs.Inner.TileTheorem.Tilings.Laws.{RequestsHaveNames}
use Rattle.vpf_source.specs.Names.Naming.{coverage_name, file_name, is_part, joined_parts, named, parts_of, pieces_of, root_of, slash}

-- a byte is a slash
abbrev pub is_slash : ℕ → Bool
is_slash b = b == slash

-- a list of bytes of which none is a slash stands before the first piece of what follows
before_first_piece : (xs : List ℕ) (first : List ℕ) (others : List (List ℕ)) (ys : List ℕ) → AllByRecursion (λ x. is_slash x ≡ false) xs
    → slice_split is_slash ys ≡ first ∷ others → slice_split is_slash (xs ++ ys) ≡ (xs ++ first) ∷ others
before_first_piece [] first others ys none split = split
before_first_piece (x ∷ xs) first others ys none split =
    slice_split-cons_no is_slash x (xs ++ ys) none.0 ∙ ap (onto_first x) (before_first_piece xs first others ys none.1 split)

-- what is so of all items from the positions
from_positions : (xs : List ℕ) → ((i : ℕ) → i < length xs → is_slash (get_or xs i 0) ≡ false) → AllByRecursion (λ x. is_slash x ≡ false) xs
from_positions [] h = tt
from_positions (x ∷ xs) h = (h 0 (omega arith), from_positions xs (λ i lt. h (suc i) (omega arith)))

no_slash_high : (b : ℕ) → 128 ≤ b → is_slash b ≡ false
no_slash_high b h = ne_eqb b slash (λ e. absurd (let f : b ≡ 47 = e in omega arith))

-- no byte of a character other than the slash is one
no_slash_in : (c : ℕ) → is_slash c ≡ false → AllByRecursion (λ x. is_slash x ≡ false) (encode_utf8 c)
no_slash_in c h = from_positions (encode_utf8 c) (λ i lt. elim (cases_lt (get_or (encode_utf8 c) i 0) 128) [
  | inl low ↦ NoCharPasses-byte is_slash (encode_utf8 c) i (c ∷ [], append-nil (encode_utf8 c), (h, tt)) lt low
  | inr high ↦ no_slash_high (get_or (encode_utf8 c) i 0) high
])

-- the pieces of some characters: the first, and the others, all of text
pub record Pieces (bs : List ℕ) : Type 0 where
  pub first : List ℕ
  pub others : List (List ℕ)
  pub are : slice_split is_slash bs ≡ first ∷ others
  pub first_text : IsUtf8 first
  pub others_text : AllByRecursion IsUtf8 others

pieces_of_chars : (cs : List ℕ) → all_scalars cs ≡ true → Pieces (encode_utf8_all cs)
pieces_of_chars [] h = record { first = []; others = []; are = refl; first_text = IsUtf8-nil; others_text = tt }
pieces_of_chars (c ∷ cs) h =
    let k = both (scalar c) (all_scalars cs) h in
    let rest : Pieces (encode_utf8_all cs) = pieces_of_chars cs k.1 in
    elim (cases_Bool (is_slash c)) [
      | inl t ↦ (
          let same : c ≡ slash = eqb-true c slash t in
          let one : encode_utf8 c ≡ c ∷ [] = encode_ascii c (let e : c ≡ 47 = same in omega arith) in
          record {
            first = [];
            others = rest.first ∷ rest.others;
            are =
                ap (λ x. slice_split is_slash (x ++ encode_utf8_all cs)) one
                ∙ slice_split-cons_yes is_slash c (encode_utf8_all cs) t ∙ ap (λ p. [] ∷ p) rest.are;
            first_text = IsUtf8-nil;
            others_text = (rest.first_text, rest.others_text);
          })
      | inr u ↦ record {
        first = encode_utf8 c ++ rest.first;
        others = rest.others;
        are = before_first_piece (encode_utf8 c) rest.first rest.others (encode_utf8_all cs) (no_slash_in c u) rest.are;
        first_text = IsUtf8-append (encode_utf8 c) rest.first (IsUtf8-encode c k.0) rest.first_text;
        others_text = rest.others_text;
      }
    ]

pieces_text : (word : List ℕ) → IsUtf8 word → AllByRecursion IsUtf8 (pieces_of word)
pieces_text word u =
    let p : Pieces (encode_utf8_all u.0) = pieces_of_chars u.0 u.1.0 in
    subst (λ x. AllByRecursion IsUtf8 (pieces_of x)) u.1.1 (subst (λ l. AllByRecursion IsUtf8 l) (sym p.are) (p.first_text, p.others_text))

kept_text : (pieces : List (List ℕ)) → AllByRecursion IsUtf8 pieces → AllByRecursion IsUtf8 (filter is_part pieces)
kept_text [] h = tt
kept_text (x ∷ xs) h = kept (is_part x) (kept_text xs h.1)
  where
    kept : (b : Bool) → AllByRecursion IsUtf8 (filter is_part xs) → AllByRecursion IsUtf8 (cond b (x ∷ filter is_part xs) (filter is_part xs))
    kept true more = (h.0, more)
    kept false more = more

-- the slash is text
slash_text : IsUtf8 (slash ∷ [])
unfolding lib.Utf8.encode
slash_text = (slash ∷ [], (refl, refl))

behind_slashes : (parts : List (List ℕ)) → AllByRecursion IsUtf8 parts → IsUtf8 (flat_map (λ other. slash ∷ other) parts)
behind_slashes [] h = IsUtf8-nil
behind_slashes (x ∷ xs) h =
    IsUtf8-append (slash ∷ x) (flat_map (λ other. slash ∷ other) xs) (IsUtf8-append (slash ∷ []) x slash_text h.0) (behind_slashes xs h.1)

joined_text : (parts : List (List ℕ)) → AllByRecursion IsUtf8 parts → IsUtf8 (joined_parts parts)
joined_text [] h = IsUtf8-nil
joined_text (x ∷ xs) h = IsUtf8-append x (flat_map (λ other. slash ∷ other) xs) h.0 (behind_slashes xs h.1)

root_text : (word : List ℕ) → IsUtf8 (root_of word)
root_text word = by (starts_with nat_eq word (slash ∷ []))
  where
    by : (b : Bool) → IsUtf8 (cond b (slash ∷ []) [])
    by true = slash_text
    by false = IsUtf8-nil

some_name : (text name : List ℕ) → named text ≡ Some name → text ≡ name
some_name [] name e = absurd (none-some name e)
some_name (b ∷ bs) name e = cc

-- the names of files and of coverages that a word of text spells are text
file_text : (word name : List ℕ) → IsUtf8 word → file_name word ≡ Some name → IsUtf8 name
file_text word name u e =
    subst IsUtf8 (some_name (root_of word ++ joined_parts (parts_of word)) name e)
    (IsUtf8-append (root_of word) (joined_parts (parts_of word)) (root_text word)
    (joined_text (parts_of word) (kept_text (pieces_of word) (pieces_text word u))))

coverage_text : (word name : List ℕ) → IsUtf8 word → coverage_name word ≡ Some name → IsUtf8 name
coverage_text word name u e =
    subst IsUtf8 (some_name (joined_parts (parts_of word)) name e) (joined_text (parts_of word) (kept_text (pieces_of word) (pieces_text word u)))

-- a name that a word spells isn't empty
some_named : (text name : List ℕ) → named text ≡ Some name → name ≢ []
some_named [] name e none = absurd (none-some name e)
some_named (b ∷ bs) name e none = absurd (let same : b ∷ bs ≡ [] = some_name (b ∷ bs) name e ∙ none in cc)

-- what the words of a request spell
record AreSpelled (lib cov out : Option (List ℕ)) (request : MakeRequest) : Type 0 where
  coverage : cov ≡ Some request.cov
  folder : out ≡ Some request.out

spelled_so : (lib cov out : Option (List ℕ)) (request : MakeRequest) → make_request_of lib cov out ≡ Some request → AreSpelled lib cov out request
spelled_so None cov out request h = absurd cc
spelled_so (Some lib) None out request h = absurd cc
spelled_so (Some lib) (Some cov) None request h = absurd cc
spelled_so (Some lib) (Some cov) (Some out) request h = by (is_in_folder lib out) h
  where
    by : (b : Bool) → cond {A = Option MakeRequest} b None (Some (record { lib = lib; cov = cov; out = out })) ≡ Some request
        → AreSpelled (Some lib) (Some cov) (Some out) request
    by true e = absurd cc
    by false e = record {
      coverage = ap Some (let same : cov ≡ request.cov = cc in same);
      folder = ap Some (let same : out ≡ request.out = cc in same);
    }

-- words of text spell requests whose names are text
pub requests_have_names : RequestsHaveNames
requests_have_names [] request all h = absurd cc
requests_have_names (a ∷ []) request all h = absurd cc
requests_have_names (a ∷ b ∷ []) request all h = absurd cc
requests_have_names (lib ∷ cov ∷ out ∷ []) request all h =
    let spelled = spelled_so (file_name lib) (coverage_name cov) (file_name out) request h in
    record {
      out = file_text out request.out all.1.1.0 spelled.folder;
      cov = coverage_text cov request.cov all.1.0 spelled.coverage;
      named = some_named (joined_parts (parts_of cov)) request.cov spelled.coverage;
    }
requests_have_names (a ∷ b ∷ c ∷ d ∷ words) request all h = absurd cc
