-- Counts of tables that are opened one after another.
use Rattle.std.proofs.Common.{Bor, ◌≡◌, ◌∙◌, ℕ, inl, inr, List, ◌∷◌, Option, Some, None, Ok, sym, ap, subst}
use Rattle.std.specs.Prelude.{IfSome}
use Rattle.vpf_base.proofs.Results.{ok_is}
use Rattle.vpf_source.specs.declared.file.File.{File}
use Rattle.vpf_table.specs.Grid.{Grid}
use Rattle.vpf_table.specs.Inner.Counts.{IsCountOf}
use Rattle.vpf_table.specs.Reading.{table_of}
use Rattle.vpf_table.specs.declared.counted.Counted.{Counted}
use Rattle.vpf_library_files.specs.Tileref.Stops.{path_texts}
use Rattle.vpf_library_files.specs.Inner.Loading.Counting.{AreCounted, IsFirstCounted, IsFirstNamed}
use Rattle.vpf_library_files.specs.Inner.Loading.StepLaws.{never_vary_both_ways}
use Rattle.vpf_coverage.specs.Inner.Opening.OpenLaws.{OpenedReads}
use Rattle.vpf_coverage.specs.Inner.Opening.Opens.{Opens}
use Rattle.vpf_coverage.proofs.opening.OpenLemmas.{SpelledOpens, table_opens}

first_same : (a b : File) (r s : List File) → a ∷ r ≡ b ∷ s → a ≡ b
first_same a b r s e = cc

rest_same : (a b : File) (r s : List File) → a ∷ r ≡ b ∷ s → r ≡ s
rest_same a b r s e = cc

one_grid : (a b : File) (x y : Grid) → a ≡ b → table_of a.bytes ≡ Ok x → table_of b.bytes ≡ Ok y → x ≡ y
one_grid a b x y same e f = ok_is (sym e ∙ ap (λ (file : File). table_of file.bytes) same ∙ f)

-- files are opened as one table, and what is behind it is the same
one_rest : (x y : Grid) (r s files : List File) → Opens x r files → Opens y s files → r ≡ s
one_rest x y r s files (inl p) (inl q) = rest_same p.file q.file r s (sym p.are ∙ q.are)
one_rest x y r s files (inl p) (inr q) =
    let e = sym p.are ∙ q.are in
    absurd (never_vary_both_ways x y (one_grid p.file q.file x y (first_same p.file q.file r (q.index ∷ s) e) p.read q.read) p.one_length q.varies)
one_rest x y r s files (inr p) (inl q) =
    let e = sym q.are ∙ p.are in
    absurd (never_vary_both_ways y x (one_grid q.file p.file y x (first_same q.file p.file s (p.index ∷ r) e) q.read p.read) q.one_length p.varies)
one_rest x y r s files (inr p) (inr q) =
    let e = rest_same p.file q.file (p.index ∷ r) (q.index ∷ s) (sym p.are ∙ q.are) in
    rest_same p.index q.index r s e

-- the others are those of the tables behind it
pub others_counted : SpelledOpens → OpenedReads → (grid : Grid) (left files : List File) (c : Counted) (counts : List Counted) → Opens grid left files
    → AreCounted files (c ∷ counts) → AreCounted left counts
others_counted spelled read grid left files c counts opens (here, rest, are, table, others) =
    let own : Opens table.grid rest files = subst (λ (x : List File). Opens table.grid rest x) (sym are) (table_opens spelled read table.name table.grid here rest table.are) in
    subst (λ (x : List File). AreCounted x counts) (one_rest table.grid grid rest left files own opens) others

-- the count of the first file
pub count_of_first : (file : File) (rest : List File) (counted : Option Counted) → IfSome counted (IsFirstCounted (file ∷ rest)) → IfSome counted (IsCountOf file.bytes)
count_of_first file rest None h = tt
count_of_first file rest (Some c) h = h

-- ---- the paths that the first table names

first_paths : OpenedReads → (grid : Grid) (rest files : List File) (paths : List (List ℕ)) → Opens grid rest files → IsFirstNamed files paths → paths ≡ path_texts grid
first_paths read grid rest files paths (inl p) h =
    let (own, opened, is) = subst (λ (x : List File). IsFirstNamed x paths) p.are h in
    is ∙ ap path_texts (ok_is (sym opened ∙ p.read))
first_paths read grid rest files paths (inr p) h =
    let (own, opened, is) = subst (λ (x : List File). IsFirstNamed x paths) p.are h in
    is ∙ ap path_texts (ok_is (sym opened ∙ p.read))

-- they are those of the table that is opened
pub known_paths : OpenedReads → (grid table : Grid) (rest files : List File) (known : Option (Bor (List (List ℕ)))) → Opens grid rest files → table ≡ grid
    → IfSome known (λ paths. IsFirstNamed files paths.now) → IfSome known (λ paths. paths.now ≡ path_texts table)
known_paths read grid table rest files None opens is h = tt
known_paths read grid table rest files (Some paths) opens is h = first_paths read grid rest files paths.now opens h ∙ ap path_texts (sym is)
