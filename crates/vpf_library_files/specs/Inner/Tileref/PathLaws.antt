-- Tests of paths tell what they are to tell.
use Rattle.std.proofs.Common.{[], ◌≡◌, ℕ, ◌≤◌, List, ◌∷◌, length, refl, inl, inr, arith}
use Rattle.std.specs.Prelude.{◌==◌, nat_le, codes}
use Rattle.std.specs.Bool.{Decides}
use Rattle.std.specs.List.{list_all}
use Rattle.std.proofs.lemmas.Bool.Decides.{nat_tests, Decides-eqb, Decides-like, Decides-not, Decides-and, Decides-or, Decides-by_and}
use Rattle.std.proofs.lemmas.Slice.Eq.{bytes_eq-Decides, slice_eq-Decides}
use Rattle.vpf_base.specs.Bytes.{backslash}
use Rattle.vpf_source.specs.Names.Naming.{slash}
use Rattle.vpf_source.specs.Names.Items.{is_letter, is_plain_name}
use Rattle.vpf_library_files.specs.Tileref.Paths.{TilePath, is_path, same_path, IsLetter, IsFolder, IsPath}

at_most : (a b : ℕ) → Decides (nat_le a b) (a ≤ b)
at_most a b = (λ h. grind (arith, nat_tests), λ h. grind (arith, nat_tests))

letter : (b : ℕ) → Decides (is_letter b) (IsLetter b)
letter b =
    Decides-like (is_letter b)
    (λ h. record { from_first = h.0.0.0; to_last = h.0.0.1; straight = h.0.1; other = h.1 })
    (λ l. (((l.from_first, l.to_last), l.straight), l.other))
    (Decides-and _ _ (Decides-and _ _ (Decides-and _ _ (at_most 33 b) (at_most b 126)) (Decides-not _ (Decides-eqb b slash)))
    (Decides-not _ (Decides-eqb b backslash)))

-- a list has no elements
none : {X : Type 0} (xs : List X) → Decides (length xs == 0) (xs ≡ [])
none [] = (λ h. refl, λ h. refl)
none (x ∷ xs) = (λ h. absurd (grind (arith, nat_tests)), λ h. absurd cc)

pub folder_decides : (name : List ℕ) → Decides (is_plain_name name) (IsFolder name)
folder_decides name =
    Decides-like (is_plain_name name)
    (λ h. record { some = h.0.0; here = λ e. h.0.1 (inl e); around = λ e. h.0.1 (inr e); letters = h.1 })
    (λ f. ((f.some, elim [ inl e ↦ f.here e | inr e ↦ f.around e ]), f.letters))
    (Decides-and _ _
    (Decides-and _ _ (Decides-not _ (none name)) (Decides-not _ (Decides-or _ _ (bytes_eq-Decides name (codes ".")) (bytes_eq-Decides name (codes "..")))))
    (Decides-by_and is_letter IsLetter (list_all is_letter) letter refl (λ _ _. refl) name))

-- a path is tested for what makes it one
pub path_decides : (path : TilePath) → Decides (is_path path) (IsPath path)
path_decides path =
    Decides-like (is_path path)
    (λ h. record { some = h.0; folders = h.1 })
    (λ p. (p.some, p.folders))
    (Decides-and _ _ (Decides-not _ (none path)) (Decides-by_and is_plain_name IsFolder (list_all is_plain_name) folder_decides refl (λ _ _. refl) path))

-- two paths are told apart exactly where they are two
pub same_decides : (p q : TilePath) → Decides (same_path p q) (p ≡ q)
same_decides p q = slice_eq-Decides bytes_eq-Decides p q (same_path p q) refl
