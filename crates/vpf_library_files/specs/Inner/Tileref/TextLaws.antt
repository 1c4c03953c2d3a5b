-- Paths in one text.
use Rattle.std.proofs.Common.{[], ◌≡◌, ℕ, true, false, List, ◌∷◌, length, append-nil, refl, sym, ap, ◌∙◌}
use Rattle.std.specs.Prelude.{◌==◌, All, not}
use Rattle.std.specs.List.{list_all, slice_split}
use Rattle.std.specs.Str.{bytes_eq}
use Rattle.std.proofs.lemmas.Bool.{ne_eqb}
use Rattle.std.proofs.lemmas.Bool.Decides.{Decides-like, same_from_decides}
use Rattle.std.proofs.lemmas.List.Elements.{All-weaker}
use Rattle.std.proofs.lemmas.List.Splits.{slice_split_at, slice_split_none}
use Rattle.std.proofs.lemmas.Slice.Eq.{bytes_eq-Decides}
use Rattle.vpf_base.proofs.Booleans.{both}
use Rattle.vpf_source.specs.Names.Naming.{slash}
use Rattle.vpf_source.specs.Names.Items.{is_plain_name}
use Rattle.vpf_library_files.specs.Tileref.Paths.{TilePath, is_path, same_path, path_text, IsLetter}
use Rattle.vpf_library_files.specs.Inner.Tileref.PathLaws.{folder_decides, same_decides}

-- a folder's name has no slash
no_slash : (name : List ℕ) → is_plain_name name ≡ true → All (λ b. (b == slash) ≡ false) name
no_slash name plain = All-weaker IsLetter (λ b. (b == slash) ≡ false) (λ b l. ne_eqb b slash l.straight) name ((folder_decides name).0 plain).letters

-- the text of a path is cut back into its folders
cut_back : (first : List ℕ) (others : List (List ℕ)) → is_plain_name first ≡ true → list_all is_plain_name others ≡ true
    → slice_split (λ b. b == slash) (path_text (first ∷ others)) ≡ first ∷ others
cut_back first [] plain all = rw append-nil (slice_split_none (λ (b : ℕ). b == slash) first (no_slash first plain))
cut_back first (other ∷ others) plain all =
    let rest = both (is_plain_name other) (list_all is_plain_name others) all in
    slice_split_at (λ (b : ℕ). b == slash) first slash (path_text (other ∷ others)) (no_slash first plain) refl
    ∙ ap (λ (v : List (List ℕ)). first ∷ v) (cut_back other others rest.0 rest.1)

cut_path : (path : TilePath) → is_path path ≡ true → slice_split (λ b. b == slash) (path_text path) ≡ path
cut_path [] h = absurd cc
cut_path (first ∷ others) h =
    let each = (both (not (length (first ∷ others) == 0)) (list_all is_plain_name (first ∷ others)) h).1 in
    let all = both (is_plain_name first) (list_all is_plain_name others) each in
    cut_back first others all.0 all.1

-- paths of one text are the same
one_text : (p q : TilePath) → is_path p ≡ true → is_path q ≡ true → path_text p ≡ path_text q → p ≡ q
one_text p q v w e = sym (cut_path p v) ∙ ap (slice_split (λ b. b == slash)) e ∙ cut_path q w

-- so they may be compared by their texts
pub text_tells : (p q : TilePath) → is_path p ≡ true → is_path q ≡ true → bytes_eq (path_text p) (path_text q) ≡ same_path p q
text_tells p q v w =
    same_from_decides (bytes_eq (path_text p) (path_text q)) (same_path p q)
    (Decides-like (bytes_eq (path_text p) (path_text q)) (one_text p q v w) (ap path_text) (bytes_eq-Decides (path_text p) (path_text q)))
    (same_decides p q)
