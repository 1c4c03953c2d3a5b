-- Files that are among others, no two of one name, have no more bytes than those.
use Rattle.std.proofs.Common.{[], ◌≡◌, ◌⊎◌, inl, inr, ◌+◌, ◌≤◌, ℕ, Bool, true, false, cond, List, ◌∷◌, length, map, Option, Some, refl, sym, ap, ◌∙◌, arith}
use Rattle.std.specs.Prelude.{bytes_eq}
use Rattle.std.specs.List.{AllByRecursion}
use Rattle.std.proofs.lemmas.Option.{same_Some}
use Rattle.std.proofs.lemmas.Slice.Eq.{bytes_eq-Decides}
use Rattle.vpf_source.specs.Files.{Files}
use Rattle.vpf_source.specs.declared.file.File.{File}
use Rattle.vpf_library_files.specs.Loading.Holding.{AreHeld, bytes_in}
use Rattle.vpf_library_files.specs.Loading.Loading.{within}
use Rattle.vpf_tiler.specs.Inner.TiledFiles.Names.{file_in}
use Rattle.vpf_tiler.specs.Inner.TiledFiles.PairLaws.{Apart}
use Rattle.vpf_tiler.specs.Inner.TiledFiles.TableLaws.{bytes_moved}
use Rattle.vpf_tiler.proofs.tiled_features.CoverageNames.{names}
use Rattle.vpf_tiler.proofs.tiled_features.TilePaths.{OtherText}
use Rattle.vpf_tiler.proofs.tiled_features.Trees.{only}

-- two files of one name with the same bytes
record IsSame (a b : File) : Type 0 where
  name : a.name ≡ b.name
  bytes : a.bytes ≡ b.bytes

-- a file is among some
abbrev IsAmong : List File → File → Type 0
IsAmong [] file = ⊥
IsAmong (first ∷ files) file = IsSame first file ⊎ IsAmong files file

-- the others among them
others : (files : List File) (file : File) → IsAmong files file → List File
others [] file h = []
others (first ∷ files) file (inl same) = files
others (first ∷ files) file (inr later) = first ∷ others files file later

others_count : (files : List File) (file : File) → (h : IsAmong files file) → bytes_in files ≡ length file.bytes + bytes_in (others files file h)
unfolding others
others_count [] file h = absurd h
others_count (first ∷ files) file (inl same) = ap (λ (n : ℕ). n + bytes_in files) (ap length same.bytes)
others_count (first ∷ files) file (inr later) =
    let rest = others_count files file later in
    omega (arith, rest)

still_among : (files : List File) (file other : File) → (h : IsAmong files file) → OtherText file.name other.name → IsAmong files other
    → IsAmong (others files file h) other
unfolding others
still_among [] file other h ne there = absurd there
still_among (first ∷ files) file other (inl same) ne (inl also) = absurd (ne (sym same.name ∙ also.name))
still_among (first ∷ files) file other (inl same) ne (inr there) = there
still_among (first ∷ files) file other (inr later) ne (inl also) = inl also
still_among (first ∷ files) file other (inr later) ne (inr there) = inr (still_among files file other later ne there)

all_still : (files : List File) (file : File) → (h : IsAmong files file) → (rest : List File) → AllByRecursion (OtherText file.name) (names rest)
    → AllByRecursion (IsAmong files) rest → AllByRecursion (IsAmong (others files file h)) rest
all_still files file h [] apart all = tt
all_still files file h (other ∷ rest) apart all = (still_among files file other h apart.0 all.0, all_still files file h rest apart.1 all.1)

no_more : (loaded files : List File) → Apart OtherText (names loaded) → AllByRecursion (IsAmong files) loaded → bytes_in loaded ≤ bytes_in files
no_more [] files apart all = omega arith
no_more (file ∷ loaded) files apart all =
    let rest = no_more loaded (others files file all.0) apart.1 (all_still files file all.0 loaded apart.0 all.1) in
    let count = others_count files file all.0 in
    omega (arith, rest, count)

-- ---- the files that a tree holds of these alone

found : (test : Bool) (name asked bytes own : List ℕ) (here rest : Option (List ℕ)) (P : Type 0) → (test ≡ true → name ≡ asked)
    → (name ≡ asked → here ≡ Some own) → (rest ≡ Some bytes → P) → cond test here rest ≡ Some bytes
    → ((name ≡ asked) × (own ≡ bytes)) ⊎ P
found true name asked bytes own here rest P same is later e =
    let one = same refl in inl (one, same_Some own bytes (sym (is one) ∙ e))
found false name asked bytes own here rest P same is later e = inr (later e)

among : (folder : List ℕ) (files : List File) (held : Files) (file : File)
    → AllByRecursion (λ (f : File). held (within folder f.name) ≡ Some f.bytes) files → only folder files held file.name ≡ Some file.bytes
    → IsAmong (map (file_in folder) files) file
among folder [] held file there e = absurd (cc e)
among folder (first ∷ files) held file there e =
    let name = within folder first.name in
    elim (found (bytes_eq name file.name) name file.name file.bytes first.bytes (held file.name) (only folder files held file.name)
    (IsAmong (map (file_in folder) files) file) (bytes_eq-Decides name file.name).0 (λ same. ap held (sym same) ∙ there.0)
    (among folder files held file there.1) e) [
      | inl here ↦ inl (record { name = here.0; bytes = here.1 })
      | inr later ↦ inr later
    ]

all_among : (folder : List ℕ) (files : List File) (held : Files) (loaded : List File)
    → AllByRecursion (λ (f : File). held (within folder f.name) ≡ Some f.bytes) files → AreHeld (only folder files held) loaded
    → AllByRecursion (IsAmong (map (file_in folder) files)) loaded
all_among folder files held [] there h = tt
all_among folder files held (file ∷ loaded) there h = (among folder files held file there h.0, all_among folder files held loaded there h.2)

-- they have no more bytes than these
pub no_more_bytes : (folder : List ℕ) (files : List File) (held : Files) (loaded : List File)
    → AllByRecursion (λ (f : File). held (within folder f.name) ≡ Some f.bytes) files → AreHeld (only folder files held) loaded
    → Apart OtherText (names loaded) → bytes_in loaded ≤ bytes_in files
no_more_bytes folder files held loaded there h apart =
    let most = no_more loaded (map (file_in folder) files) apart (all_among folder files held loaded there h) in
    let same = bytes_moved folder files in
    omega (arith, most, same)
