-- The names of the files of a folder that items name: ASCII without a slash, and so are those of their variable-length indexes.
use Rattle.std.proofs.Common.{[], ◌≡◌, ◌≢◌, ◌<◌, ℕ, Bool, true, false, cond, List, ◌∷◌, ◌++◌, Some, None, refl, sym, ap, subst, ◌∙◌, arith}
use Rattle.std.specs.Prelude.{IsUtf8, codes, encode_utf8}
use Rattle.std.specs.Char.{IsScalar, to_ascii_lowercase}
use Rattle.std.specs.List.{AllByRecursion}
use Rattle.std.specs.Str.{IsAscii}
use lib.Utf8.{low_scalar}
use Rattle.std.proofs.lemmas.Bool.Decides.{nat_tests}
use Rattle.std.proofs.lemmas.List.Elements.{recursion_from_All}
use Rattle.std.proofs.lemmas.Option.{same_Some}
use Rattle.std.proofs.lemmas.Str.{IsUtf8-from_ascii, encode_ascii}
use Rattle.std.proofs.lemmas.Str.Ascii.{IsAscii-cons, IsAscii-nil, lowercase_ascii}
use Rattle.vpf_source.specs.Names.Indexes.{index_name}
use Rattle.vpf_source.specs.Names.Items.{is_plain_name, small, trimmed}
use Rattle.vpf_source.specs.Names.Naming.{slash}
use Rattle.vpf_library_files.specs.Tileref.Paths.{IsFolder, IsLetter}
use Rattle.vpf_library_files.specs.Inner.Tileref.PathLaws.{folder_decides}
use Rattle.vpf_library_files.specs.Loading.Loading.{within}
use Rattle.vpf_feature_writing.specs.FeatureReading.Laws.{IsOwnFile}
use Rattle.vpf_tiler.specs.Inner.TiledFiles.StemLaws.{index_behind, within_utf8}
use Rattle.vpf_tiler.specs.Inner.TiledFiles.TableLaws.{all_front}
use Rattle.vpf_base.proofs.Lists.{all_joined as all_both}
use Rattle.vpf_tiler.specs.Inner.TiledFiles.TileLaws.{last_behind}

-- an ASCII byte that isn't a slash
pub record IsStraight (b : ℕ) : Type 0 where
  pub ascii : b < 128
  pub straight : b ≢ slash

-- a name of such bytes; it isn't empty, and so has a last letter
pub record IsOwnName (name : List ℕ) : Type 0 where
  pub front : List ℕ
  pub last : ℕ
  pub is : name ≡ front ++ last ∷ []
  pub letters : AllByRecursion IsStraight name

-- ---- the name that an item gives

-- a letter made small
small_letter : (b : ℕ) → IsLetter b → IsStraight (to_ascii_lowercase b)
small_letter b l = record { ascii = lowercase_ascii b (let h = l.to_last in omega arith); straight = grind (arith, nat_tests, l.straight) }

small_letters : (name : List ℕ) → AllByRecursion IsLetter name → AllByRecursion IsStraight (small name)
small_letters [] all = tt
small_letters (b ∷ name) all = (small_letter b all.0, small_letters name all.1)

-- a list that isn't empty has a last member
record HasLast (list : List ℕ) : Type 0 where
  front : List ℕ
  last : ℕ
  is : list ≡ front ++ last ∷ []

last_in : (x : ℕ) (list : List ℕ) → HasLast (x ∷ list)
last_in x [] = record { front = []; last = x; is = refl }
last_in x (y ∷ list) =
    let rest = last_in y list in
    record { front = x ∷ rest.front; last = rest.last; is = ap (λ (l : List ℕ). x ∷ l) rest.is }

plain_is : (name : List ℕ) → IsFolder name → IsOwnName (small name)
plain_is [] folder = absurd (folder.some refl)
plain_is (b ∷ name) folder =
    let last = last_in (to_ascii_lowercase b) (small name) in
    record {
      front = last.front;
      last = last.last;
      is = last.is;
      letters = small_letters (b ∷ name) (recursion_from_All IsLetter (b ∷ name) folder.letters);
    }

beside_is : (plain : Bool) (name file : List ℕ) → is_plain_name name ≡ plain → cond plain (Some (small name)) None ≡ Some file → IsOwnName file
beside_is true name file e f = subst IsOwnName (same_Some (small name) file f) (plain_is name ((folder_decides name).0 e))
beside_is false name file e f = absurd (cc f)

pub own_is : (file : List ℕ) → IsOwnFile file → IsOwnName file
own_is file own = beside_is (is_plain_name (trimmed own.item)) (trimmed own.item) file refl own.named

-- that of a schema table
pub schema_is : IsOwnName (codes "fcs")
schema_is = record {
  front = codes "fc";
  last = 115;
  is = refl;
  letters = (
    record { ascii = omega arith; straight = λ e. omega (arith, e) },
    (record { ascii = omega arith; straight = λ e. omega (arith, e) }, (record { ascii = omega arith; straight = λ e. omega (arith, e) }, tt)),
  );
}

-- ---- indexes

all_ascii : (name : List ℕ) → AllByRecursion IsStraight name → IsAscii name
all_ascii [] all = IsAscii-nil
all_ascii (b ∷ name) all = IsAscii-cons b name all.0.ascii (all_ascii name all.1)

-- the letters before the last, and the last
pub record HasParts (front : List ℕ) (last : ℕ) : Type 0 where
  pub utf8 : IsUtf8 front
  pub scalar : IsScalar last
  pub alone : encode_utf8 last ≡ last ∷ []
  pub letters : AllByRecursion IsStraight front

parts : (front : List ℕ) (last : ℕ) → AllByRecursion IsStraight front → last < 128 → HasParts front last
parts front last all ascii = record {
  utf8 = IsUtf8-from_ascii front (all_ascii front all);
  scalar = low_scalar last (omega (arith, ascii));
  alone = encode_ascii last ascii;
  letters = all;
}

last_of_all : (front : List ℕ) (last : ℕ) → AllByRecursion IsStraight (front ++ last ∷ []) → IsStraight last
last_of_all [] last all = all.0
last_of_all (x ∷ front) last all = last_of_all front last all.1

pub has_parts : (name : List ℕ) → (own : IsOwnName name) → HasParts own.front own.last
has_parts name own =
    let all : AllByRecursion IsStraight (own.front ++ own.last ∷ []) = subst (AllByRecursion IsStraight) own.is own.letters in
    parts own.front own.last (all_front IsStraight own.front (own.last ∷ []) all) (last_of_all own.front own.last all).ascii

-- a file stands in the folder under a name without a slash
pub record IsIn (folder name : List ℕ) : Type 0 where
  pub inner : List ℕ
  pub is : name ≡ within folder inner
  pub letters : AllByRecursion IsStraight inner

pub own_in : (folder name : List ℕ) → IsOwnName name → IsIn folder (within folder name)
own_in folder name own = record { inner = name; is = refl; letters = own.letters }

-- so does its index
pub index_in : (folder name : List ℕ) → IsUtf8 folder → IsOwnName name → IsIn folder (index_name (within folder name))
index_in folder name u own =
    let p = has_parts name own in
    let behind : within folder name ≡ within folder own.front ++ own.last ∷ [] = ap (within folder) own.is ∙ last_behind folder own.front own.last in
    record {
      inner = own.front ++ codes "x";
      is = ap index_name behind ∙ index_behind (within folder own.front) own.last (within_utf8 folder own.front u p.utf8) p.scalar p.alone
          ∙ sym (last_behind folder own.front 120);
      letters = all_both IsStraight own.front (codes "x") p.letters (record { ascii = omega arith; straight = λ e. omega (arith, e) }, tt);
    }
