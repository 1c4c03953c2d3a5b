-- The answer of `drill`: there is one, and only one.
use Rattle.std.proofs.Common.{[], ◌≡◌, ℕ, suc, ◌+◌, List, ◌∷◌, length, map, max, Result, Ok, refl, sym, ap, ◌∙◌, subst}
use Rattle.std.proofs.lemmas.List.{length-map}
use Rattle.vpf_source.specs.Files.{Files}
use Rattle.vpf_darts.specs.declared.darts.TileDart.{TileDart}
use Rattle.vpf_darts.specs.Darts.{tile_dart_code}
use Rattle.vpf_darts.specs.Listings.{numbers_of}
use Rattle.vpf_prims.specs.Coverages.{CoverageTables, last_tile}
use Rattle.vpf_prims.specs.Libraries.{library_of}
use Rattle.vpf_library_files.specs.Loading.Loading.{LoadedCoverage, read_coverage}
use Rattle.vpf_library_files.specs.declared.loading.loading.LoadStop.{LoadStop}
use Rattle.vpf_source.specs.declared.file.File.{File}
use Rattle.vpf_library_commands.specs.Counting.{all_edges}
use Rattle.vpf_library_commands.specs.TraceLaws.{LibraryHasTrace, OneTrace}
use Rattle.vpf_library_commands.specs.TraceTracing.{IsTrace}
use Rattle.vpf_replies.specs.Answer.{done}
use Rattle.vpf_replies.specs.Listings.{listing_text}
use Rattle.vpf_library_commands.specs.Inner.TraceLaws.{darts_of, lists_are, text_same}
use Rattle.vpf_drill.specs.GridCutting.Reading.{grid_request}
use Rattle.vpf_drill.specs.Counting.{dart_count, longest}
use Rattle.vpf_drill.specs.Digest.{digest}
use Rattle.vpf_drill.specs.Drill.{cut_grid}
use Rattle.vpf_drill.specs.declared.numbers.TiledNumbers.{TiledNumbers}
use Rattle.vpf_drill.specs.Inner.Laws.{GridIsTiled, HasDrill, OneDrill}
use Rattle.vpf_drill.specs.Numbers.{numbers_text, source_numbers, tiled_numbers}
use Rattle.vpf_base.proofs.Options.{some_is as some_same}

-- ---- what is counted of darts goes by their numbers

-- darts by their numbers
counted_same : (xs ys : List (List TileDart)) → numbers_of xs ≡ numbers_of ys → (length xs ≡ length ys) × (dart_count xs ≡ dart_count ys) × (longest xs ≡ longest ys)
counted_same [] [] e = (refl, refl, refl)
counted_same [] (y ∷ ys) e = absurd cc
counted_same (x ∷ xs) [] e = absurd cc
counted_same (x ∷ xs) (y ∷ ys) e =
    let first : map tile_dart_code x ≡ map tile_dart_code y = cc in
    let rest : numbers_of xs ≡ numbers_of ys = cc in
    let few : length x ≡ length y = sym (length-map x tile_dart_code) ∙ ap length first ∙ length-map y tile_dart_code in
    let others = counted_same xs ys rest in
    (ap suc others.0, ap (λ n. n + dart_count xs) few ∙ ap (λ n. length y + n) others.1, ap (λ n. max n (longest xs)) few ∙ ap (max (length y)) others.2)

-- a coverage that is read
abbrev ok_read : LoadedCoverage → Result LoadedCoverage LoadStop
ok_read c = Ok c

-- these numbers of a tiled coverage
numbers_with : CoverageTables → (cycles darts most sum : ℕ) → TiledNumbers
numbers_with c cycles darts most sum = record { tiles = last_tile c; copies = all_edges c; cycles = cycles; darts = darts; longest = most; digest = sum }

numbers_same : (c : CoverageTables) (xs ys : List (List TileDart)) (made : List File) → numbers_of xs ≡ numbers_of ys → tiled_numbers c xs made ≡ tiled_numbers c ys made
unfolding numbers_with
numbers_same c xs ys made e =
    let counted = counted_same xs ys e in
    ap (λ n. numbers_with c n (dart_count xs) (longest xs) (digest made (listing_text xs))) counted.0
    ∙ ap (λ n. numbers_with c (length ys) n (longest xs) (digest made (listing_text xs))) counted.1
    ∙ ap (λ n. numbers_with c (length ys) (dart_count ys) n (digest made (listing_text xs))) counted.2
    ∙ ap (λ t. numbers_with c (length ys) (dart_count ys) (longest ys) (digest made t)) (text_same xs ys e)

ok_same : (a b : LoadedCoverage) → ok_read a ≡ ok_read b → a ≡ b
ok_same a b e = cc

-- ---- one answer

pub one_drill : OneTrace → OneDrill
one_drill law n a b x y =
    let source : x.source ≡ y.source = ok_same x.source y.source (sym x.is_source ∙ y.is_source) in
    let after : x.after ≡ y.after = some_same x.after y.after (sym x.is_after ∙ y.is_after) in
    let tiled : x.tiled ≡ y.tiled =
    ok_same x.tiled y.tiled (sym x.is_tiled ∙ ap (λ (f : Files). (read_coverage f grid_request.out grid_request.cov 0).0) after ∙ y.is_tiled) in
    let listed : IsTrace (library_of y.tiled.coverage) (numbers_of x.cycles) = subst (λ (c : LoadedCoverage). IsTrace (library_of c.coverage) (numbers_of x.cycles)) tiled x.are in
    let numbers : numbers_of x.cycles ≡ numbers_of y.cycles = law (library_of y.tiled.coverage) (numbers_of x.cycles) (numbers_of y.cycles) listed y.are in
    x.is
    ∙ ap (λ (c : LoadedCoverage). done (numbers_text n (source_numbers c.coverage) (tiled_numbers x.tiled.coverage x.cycles (cut_grid n)))) source
    ∙ ap (λ (c : LoadedCoverage). done (numbers_text n (source_numbers y.source.coverage) (tiled_numbers c.coverage x.cycles (cut_grid n)))) tiled
    ∙ ap (λ (m : TiledNumbers). done (numbers_text n (source_numbers y.source.coverage) m)) (numbers_same y.tiled.coverage x.cycles y.cycles (cut_grid n) numbers)
    ∙ sym y.is

-- ---- there is one

pub has_drill : GridIsTiled → LibraryHasTrace → HasDrill
has_drill law traces n can =
    let t = law n can in
    let lists = traces (library_of t.tiled.coverage) t.rows_agree in
    let cycles : List (List TileDart) = darts_of lists.0 in (
      done (numbers_text n (source_numbers t.source.coverage) (tiled_numbers t.tiled.coverage cycles (cut_grid n))),
      record {
        source = t.source;
        is_source = t.source_read;
        after = t.after;
        is_after = t.made;
        tiled = t.tiled;
        is_tiled = t.tiled_read;
        cycles = cycles;
        are = subst (IsTrace (library_of t.tiled.coverage)) (sym (lists_are lists.0)) lists.1;
        is = refl;
      },
    )
