-- A tree that lacks the files of a folder which aren't among some: it holds exactly those, and the whole tree holds what it does.
use Rattle.std.proofs.Common.{[], ◌≡◌, ◌⊎◌, inl, inr, ℕ, Bool, true, false, cond, List, ◌∷◌, ◌++◌, Option, Some, None, refl, sym, ap, ◌∙◌}
use Rattle.std.specs.Prelude.{bytes_eq}
use Rattle.std.specs.List.{AllByRecursion}
use Rattle.std.proofs.lemmas.List.{append_cancel_left}
use Rattle.std.proofs.lemmas.Slice.Eq.{bytes_eq-Decides}
use Rattle.vpf_source.specs.Files.{Files}
use Rattle.vpf_source.specs.declared.file.File.{File}
use Rattle.vpf_library_files.specs.Loading.Holding.{AreHeld}
use Rattle.vpf_library_files.specs.Loading.Loading.{within}
use Rattle.vpf_tiler.specs.Inner.TiledFiles.Folders.{HoldsExactly}
use Rattle.vpf_tiler.specs.Inner.TiledFiles.AbsentLaws.{IsOtherName as IsOther}
use Rattle.vpf_tiler.specs.Inner.TiledFiles.StemLaws.{within_is}
use Rattle.vpf_tiler.specs.Inner.TiledFiles.PairLaws.{all_weaker}
use Rattle.vpf_tiler.specs.Inner.TiledFiles.TableLaws.{all_front}
use Rattle.vpf_base.proofs.Lists.{all_joined as all_both}

-- the tree with nothing but what it holds under the names of these files within the folder
abbrev pub only : (folder : List ℕ) → List File → Files → Files
only folder [] held name = None
only folder (file ∷ files) held name = cond (bytes_eq (within folder file.name) name) (held name) (only folder files held name)

-- two names within one folder are one name
pub one_name : (folder a b : List ℕ) → within folder a ≡ within folder b → a ≡ b
one_name folder a b e = append_cancel_left (within folder []) a b (sym (within_is folder a) ∙ e ∙ within_is folder b)

-- ---- what it holds

-- the whole tree holds it
kept : (b : Bool) (all rest : Option (List ℕ)) (bytes : List ℕ) → (rest ≡ Some bytes → all ≡ Some bytes) → cond b all rest ≡ Some bytes → all ≡ Some bytes
kept true all rest bytes later e = e
kept false all rest bytes later e = later e

pub held_too : (folder : List ℕ) (files : List File) (held : Files) (name bytes : List ℕ) → only folder files held name ≡ Some bytes → held name ≡ Some bytes
held_too folder [] held name bytes e = absurd (cc e)
held_too folder (file ∷ files) held name bytes e =
    kept (bytes_eq (within folder file.name) name) (held name) (only folder files held name) bytes (held_too folder files held name bytes) e

-- so what is held in it is held in the whole
pub all_held_too : (folder : List ℕ) (files : List File) (held : Files) (loaded : List File) → AreHeld (only folder files held) loaded → AreHeld held loaded
all_held_too folder files held [] h = tt
all_held_too folder files held (file ∷ loaded) h =
    (held_too folder files held file.name file.bytes h.0, h.1, all_held_too folder files held loaded h.2)

-- each of the files is in it as it is in the whole
abbrev IsKept : (folder : List ℕ) → List File → Files → File → Type 0
IsKept folder files held file = only folder files held (within folder file.name) ≡ held (within folder file.name)

either_way : (b : Bool) (all rest : Option (List ℕ)) → rest ≡ all → cond b all rest ≡ all
either_way true all rest e = refl
either_way false all rest e = e

first_way : (b : Bool) (all rest : Option (List ℕ)) → b ≡ true → cond b all rest ≡ all
first_way b all rest e = rw e refl

all_kept : (folder : List ℕ) (files : List File) (held : Files) → AllByRecursion (IsKept folder files held) files
all_kept folder [] held = tt
all_kept folder (first ∷ files) held = (
  first_way (bytes_eq (within folder first.name) (within folder first.name)) (held (within folder first.name))
      (only folder files held (within folder first.name)) ((bytes_eq-Decides (within folder first.name) (within folder first.name)).1 refl),
  all_weaker (IsKept folder files held) (IsKept folder (first ∷ files) held)
      (λ file same. either_way (bytes_eq (within folder first.name) (within folder file.name)) (held (within folder file.name))
      (only folder files held (within folder file.name)) same) files (all_kept folder files held),
)

-- ---- what it lacks

no_way : (b : Bool) (P : Type 0) → (b ≡ true → P) → (P → ⊥) → b ≡ false
no_way true P tells none = absurd (none (tells refl))
no_way false P tells none = refl

second_way : (b : Bool) (all : Option (List ℕ)) → b ≡ false → cond b all None ≡ None
second_way b all e = rw e refl

none_kept : (folder : List ℕ) (files : List File) (held : Files) (name : List ℕ) → AllByRecursion (IsOther name) files
    → only folder files held (within folder name) ≡ None
none_kept folder [] held name others = refl
none_kept folder (file ∷ files) held name others =
    let test = bytes_eq (within folder file.name) (within folder name) in
    let other : test ≡ false =
    no_way test (within folder file.name ≡ within folder name) (bytes_eq-Decides (within folder file.name) (within folder name)).0
    (λ e. others.0 (one_name folder file.name name e)) in
    ap (λ (rest : Option (List ℕ)). cond test (held (within folder name)) rest) (none_kept folder files held name others.1)
    ∙ second_way test (held (within folder name)) other

-- a name that it lacks is no file's, or the whole lacks it too
lacks_here : (b : Bool) (all rest : Option (List ℕ)) (P Q : Type 0) → (b ≡ false → P) → (rest ≡ None → (all ≡ None) ⊎ Q) → cond b all rest ≡ None
    → (all ≡ None) ⊎ (P × Q)
lacks_here true all rest P Q other later e = inl e
lacks_here false all rest P Q other later e = elim (later e) [ inl none ↦ inl none | inr q ↦ inr (other refl, q) ]

false_true : (b : Bool) → b ≡ false → b ≡ true → ⊥
false_true b e f = cc (sym e ∙ f)

pub lacked : (folder : List ℕ) (files : List File) (held : Files) (name : List ℕ) → only folder files held (within folder name) ≡ None
    → (held (within folder name) ≡ None) ⊎ AllByRecursion (IsOther name) files
lacked folder [] held name e = inr tt
lacked folder (file ∷ files) held name e =
    let test = bytes_eq (within folder file.name) (within folder name) in
    lacks_here test (held (within folder name)) (only folder files held (within folder name)) (IsOther name file) (AllByRecursion (IsOther name) files)
    (λ f same. false_true test f ((bytes_eq-Decides (within folder file.name) (within folder name)).1 (ap (within folder) same)))
    (lacked folder files held name) e

-- ---- the folder

there_kept : (folder : List ℕ) (files whole : List File) (held : Files) → AllByRecursion (IsKept folder whole held) files
    → AllByRecursion (λ file. held (within folder file.name) ≡ Some file.bytes) files
    → AllByRecursion (λ file. only folder whole held (within folder file.name) ≡ Some file.bytes) files
there_kept folder [] whole held kept there = tt
there_kept folder (file ∷ files) whole held kept there = (kept.0 ∙ there.0, there_kept folder files whole held kept.1 there.1)

-- it holds exactly these files, where the whole holds others besides
pub holds_only : (held : Files) (folder : List ℕ) (files others : List File) → HoldsExactly held folder (files ++ others)
    → HoldsExactly (only folder files held) folder files
holds_only held folder files others exactly = record {
  there = there_kept folder files files held (all_kept folder files held)
      (all_front (λ (file : File). held (within folder file.name) ≡ Some file.bytes) files others exactly.there);
  others = λ name none. none_kept folder files held name none;
}

-- a name that it lacks is one that the whole lacks, unless it is that of one of the others
pub lacked_too : (held : Files) (folder : List ℕ) (files others : List File) (name : List ℕ) → HoldsExactly held folder (files ++ others)
    → AllByRecursion (IsOther name) others → only folder files held (within folder name) ≡ None → held (within folder name) ≡ None
lacked_too held folder files others name exactly apart e = elim (lacked folder files held name e) [
  | inl none ↦ none
  | inr all ↦ exactly.others name (all_both (IsOther name) files others all apart)
]
