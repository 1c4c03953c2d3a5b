-- Names that no made file has: those of the edges where a folder has no tables, and of entity nodes where there are none.
use Rattle.std.proofs.Common.{[], ◌≡◌, ◌≢◌, ℕ, false, List, ◌∷◌, ◌++◌, sym, ap, ◌∙◌, append_assoc}
use Rattle.std.specs.Prelude.{nat_eq}
use Rattle.std.specs.List.{ends_with}
use Rattle.std.proofs.lemmas.List.{append_cancel_left, append_cancel_right}
use Rattle.vpf_source.specs.declared.file.File.{File}
use Rattle.vpf_source.specs.Names.Naming.{slash}
use Rattle.vpf_library_files.specs.Loading.Loading.{within}
use Rattle.vpf_tiler.specs.Inner.TiledFiles.StemLaws.{ends_behind, within_is}
use Rattle.vpf_tiler.specs.Inner.TiledFiles.PathLaws.{IsInner}

-- a file of another name
abbrev pub IsOtherName : List ℕ → File → Type 0
IsOtherName name file = file.name ≢ name

-- a slash stands behind the folder of a tile
inner_stem : (cov path : List ℕ) → IsInner path → within (within cov path) [] ≡ within cov [] ++ (path ++ slash ∷ [])
inner_stem cov path inner =
    let last : ends_with nat_eq (within cov path) (slash ∷ []) ≡ false =
    ap (λ (x : List ℕ). ends_with nat_eq x (slash ∷ [])) (within_is cov path) ∙ ends_behind (within cov []) path inner.some ∙ inner.last in
    rw last (ap (λ (x : List ℕ). x ++ slash ∷ []) (within_is cov path) ∙ append_assoc (within cov []) path (slash ∷ []))

-- tiles of one folder have one path
pub one_folder : (cov p q : List ℕ) → IsInner p → IsInner q → within (within cov p) [] ≡ within (within cov q) [] → p ≡ q
one_folder cov p q v w e =
    append_cancel_right p q (slash ∷ [])
    (append_cancel_left (within cov []) (p ++ slash ∷ []) (q ++ slash ∷ []) (sym (inner_stem cov p v) ∙ e ∙ inner_stem cov q w))
