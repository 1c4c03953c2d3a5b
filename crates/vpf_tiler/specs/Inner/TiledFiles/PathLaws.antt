-- The text of a path: it isn't empty, has no slash at its end, and is text.
use Rattle.std.proofs.Common.{[], ◌≡◌, ◌≢◌, ℕ, false, List, ◌∷◌, ◌<◌, Bool, true, ◌++◌, refl, sym, ap, ◌∙◌, arith, append_assoc, append-nil}
use Rattle.std.specs.Prelude.{IsUtf8, nat_eq, All, ◌&&◌}
use Rattle.std.specs.List.{ends_with}
use Rattle.vpf_source.specs.Names.Naming.{slash}
use Rattle.std.specs.Str.{IsAscii}
use Rattle.std.proofs.lemmas.Bool.{ne_eqb}
use Rattle.std.proofs.lemmas.List.Elements.{All-head, All-tail, All-weaker}
use Rattle.std.proofs.lemmas.Str.{IsAscii-append, IsUtf8-from_ascii}
use Rattle.std.proofs.lemmas.Slice.Eq.{bytes_eq-Decides}
use Rattle.std.proofs.lemmas.Str.Ascii.{IsAscii-cons, IsAscii-from_all}
use Rattle.vpf_library_files.specs.Tileref.Paths.{IsFolder, IsLetter, IsPath, TilePath, path_text}
use Rattle.vpf_library_files.specs.Inner.Tileref.PathLaws.{path_decides, same_decides}
use Rattle.vpf_library_files.specs.Inner.Tileref.TextLaws.{text_tells}
use Rattle.vpf_tiler.specs.Inner.TiledFiles.StemLaws.{ends_behind}

-- a text that can be the name of a folder within another
pub record IsInner (text : List ℕ) : Type 0 where
  pub some : text ≢ []
  pub last : ends_with nat_eq text (slash ∷ []) ≡ false
  pub utf8 : IsUtf8 text

-- letters don't end in a slash
letters_open : (name : List ℕ) → name ≢ [] → All IsLetter name → ends_with nat_eq name (slash ∷ []) ≡ false
letters_open [] some all = absurd (some refl)
letters_open (b ∷ []) some all =
    ap (λ (t : Bool). t && true) (ne_eqb slash b (λ e. (All-head IsLetter b [] all).straight (sym e)))
letters_open (b ∷ c ∷ name) some all =
    ends_behind (b ∷ []) (c ∷ name) (λ e. cc) ∙ letters_open (c ∷ name) (λ e. cc) (All-tail IsLetter b (c ∷ name) all)

-- they are ASCII
letters_ascii : (name : List ℕ) → All IsLetter name → IsAscii name
letters_ascii name all = IsAscii-from_all name (All-weaker IsLetter (λ b. b < 128) (λ b l. (let h = l.to_last in omega arith)) name all)

some_behind : (front : List ℕ) (x : ℕ) (list : List ℕ) → front ++ x ∷ list ≢ []
some_behind [] x list e = cc
some_behind (y ∷ front) x list e = cc

-- the text of some folders
path_inner : (first : List ℕ) (others : TilePath) → IsFolder first → All IsFolder others
    → (path_text (first ∷ others) ≢ []) × (ends_with nat_eq (path_text (first ∷ others)) (slash ∷ []) ≡ false) × IsAscii (path_text (first ∷ others))
path_inner first [] folder all =
    let e : first ++ [] ≡ first = append-nil first in
    rw e (folder.some, letters_open first folder.some folder.letters, letters_ascii first folder.letters)
path_inner first (other ∷ others) folder all =
    let rest = path_inner other others (All-head IsFolder other others all) (All-tail IsFolder other others all) in
    let text = path_text (other ∷ others) in
    let last : ends_with nat_eq (first ++ slash ∷ text) (slash ∷ []) ≡ false =
    ap (λ (x : List ℕ). ends_with nat_eq x (slash ∷ [])) (sym (append_assoc first (slash ∷ []) text))
    ∙ ends_behind (first ++ slash ∷ []) text rest.0 ∙ rest.1 in (
      some_behind first slash text,
      last,
      IsAscii-append first (slash ∷ text) (letters_ascii first folder.letters) (IsAscii-cons slash text (let h : slash < 128 = omega arith in h) rest.2),
    )

-- so is that of a path
pub path_is_inner : (path : TilePath) → IsPath path → IsInner (path_text path)
path_is_inner [] p = absurd (p.some refl)
path_is_inner (first ∷ others) p =
    let r = path_inner first others (All-head IsFolder first others p.folders) (All-tail IsFolder first others p.folders) in
    record { some = r.0; last = r.1; utf8 = IsUtf8-from_ascii (path_text (first ∷ others)) r.2 }

-- paths of one text are one
pub one_path : (p q : TilePath) → IsPath p → IsPath q → path_text p ≡ path_text q → p ≡ q
one_path p q v w e =
    let told = text_tells p q ((path_decides p).1 v) ((path_decides q).1 w) in
    (same_decides p q).0 (sym told ∙ (bytes_eq-Decides (path_text p) (path_text q)).1 e)
