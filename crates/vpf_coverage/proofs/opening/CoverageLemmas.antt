-- A coverage is opened as a tiled one or as an untiled one.
use Rattle.std.proofs.Common.{◌≡◌, ℕ, true, inl, inr, List, [], ◌∷◌, Option, Some, None, refl, ap, sym, subst, ◌∙◌}
use Rattle.vpf_source.specs.declared.file.File.{File}
use Rattle.vpf_prims.specs.declared.views.PrimitiveViews.{PrimitiveViews}
use Rattle.vpf_prims.specs.Coverages.{CoverageTables, tiled_coverage, untiled_coverage}
use Rattle.vpf_prims.specs.Reading.{PrimitiveTables}
use Rattle.vpf_prims.specs.Tables.{TileTables}
use Rattle.vpf_prims.specs.Inner.Views.{tables_in_view}
use Rattle.vpf_coverage.specs.Inner.Opening.Opens.{IsOpeningFolder, OpensFolder}
use Rattle.vpf_coverage.specs.Inner.Opening.OpensTiles.{OpensCoverage, OpensTiled, OpensTiles}
use Rattle.vpf_coverage.specs.Inner.Opening.Opened.{placed_views, tables_in_views}
use Rattle.vpf_coverage.proofs.opening.LoopLemmas.{some_same}

-- the tiles behind the table of tiles
pub tiles_ahead : (folder : List ℕ) (at first : ℕ) (paths texts : List (List ℕ)) (tiles : List (Option TileTables)) (files behind : List File)
    → at ≡ first → paths ≡ texts → files ≡ behind → OpensTiles folder first texts tiles behind → OpensTiles folder at paths tiles files
tiles_ahead folder at first paths texts tiles files behind a p f h = rw (a, p, f) h

pub tiled_is : (c : CoverageTables) (paths texts : List (List ℕ)) (firsts : List ℕ) (views : List (Option PrimitiveViews)) (tiles : List (Option TileTables))
    → c ≡ tiled_coverage texts tiles → paths ≡ texts → placed_views firsts views ≡ None ∷ tiles
    → record { is_tiled = true; paths = paths; tiles = placed_views firsts views } ≡ c
tiled_is c paths texts firsts views tiles is p e = rw (is, p, e) refl

-- a coverage's own folder is looked at first
pub own_folder : (folder : List ℕ) (c : CoverageTables) (files : List File) → OpensCoverage folder c files → IsOpeningFolder folder files
own_folder folder c files (inl u) = (Some u.tables, [], u.are)
own_folder folder c files (inr t) = (None, files, t.none)

abbrev pub OpensViews : (folder : List ℕ) → Option PrimitiveViews → List File → Type 0
OpensViews folder views files = (tables : Option PrimitiveTables) (rest : List File) → OpensFolder folder tables rest files → tables_in_views views ≡ tables

abbrev pub LeavesFiles : (folder : List ℕ) → (new files : List File) → Type 0
LeavesFiles folder new files = (tables : Option PrimitiveTables) (rest : List File) → OpensFolder folder tables rest files → new ≡ rest

-- where it has no tables, the coverage is tiled
pub none_tiled : (folder : List ℕ) (c : CoverageTables) (views : Option PrimitiveViews) (files new : List File)
    → views ≡ None → OpensViews folder views files → LeavesFiles folder new files → OpensCoverage folder c files → OpensTiled folder c new
none_tiled folder c views files new none opened behind (inl u) =
    let e : tables_in_views None ≡ Some u.tables = sym (ap tables_in_views none) ∙ opened (Some u.tables) [] u.are in
    absurd cc
none_tiled folder c views files new none opened behind (inr t) = subst (OpensTiled folder c) (sym (behind None files t.none)) t

-- where it has tables, it is untiled
pub some_untiled : (folder : List ℕ) (c : CoverageTables) (views : Option PrimitiveViews) (v : PrimitiveViews) (files : List File)
    → views ≡ Some v → OpensViews folder views files → OpensCoverage folder c files → untiled_coverage (record { first = 0; tables = tables_in_view v }) ≡ c
some_untiled folder c views v files some opened (inl u) =
    let e : Some (tables_in_view v) ≡ Some u.tables = sym (ap tables_in_views some) ∙ opened (Some u.tables) [] u.are in
    let same = some_same (tables_in_view v) u.tables e in
    ap (λ (tables : PrimitiveTables). untiled_coverage (record { first = 0; tables = tables })) same ∙ sym u.is
some_untiled folder c views v files some opened (inr t) =
    let e : Some (tables_in_view v) ≡ None = sym (ap tables_in_views some) ∙ opened None files t.none in
    absurd cc
