-- The names of the files that are made of the worked coverage: no two are one, and the edges of an untiled coverage are none of them.
use Rattle.std.proofs.Common.{[], ◌≡◌, ◌≢◌, ℕ, Bool, true, false, List, ◌∷◌, ◌++◌, map, codes, refl, sym, ap, ◌∙◌, subst, arith}
use Rattle.std.specs.Prelude.{◌&&◌, AllPairs, IsUtf8, not}
use Rattle.std.specs.List.{AllByRecursion, list_all}
use Rattle.std.specs.Str.{bytes_eq}
use Rattle.std.proofs.lemmas.List.Elements.{All-from_recursion}
use Rattle.std.proofs.lemmas.List.Kept.{AllPairs-cons}
use Rattle.std.proofs.lemmas.Str.{encode_ascii}
use Rattle.std.proofs.lemmas.Slice.Eq.{bytes_eq-Decides}
use Rattle.vpf_base.proofs.Booleans.{both}
use Rattle.vpf_source.specs.Inner.Names.LetterLaws.{last_dropped}
use Rattle.vpf_source.specs.Names.Indexes.{index_name, without_last}
use Rattle.vpf_source.specs.declared.file.File.{File}
use Rattle.vpf_library_files.specs.TableFiles.Adding.{files_made}
use Rattle.vpf_library_commands.specs.Made.{file_within}
use Rattle.vpf_library_commands.specs.TileTheorem.Tilings.Cutting.{cut_files, cut_tables, files_in_made}
use Rattle.vpf_feature_writing.specs.Making.{Made}
use Rattle.vpf_drill.specs.Inner.Worked.Request.{worked_parts, worked_request, worked_tile_tables}
use Rattle.vpf_drill.proofs.grid_cutting.WordLemmas.{text_tested}
use Rattle.vpf_drill.proofs.worked.CutLemmas.{feature_list, features_are}

-- a name is none of some names
abbrev is_none : List ℕ → List (List ℕ) → Bool
is_none name names = list_all (λ other. not (bytes_eq other name)) names

-- no two of some names are one
abbrev all_differ : List (List ℕ) → Bool
all_differ [] = true
all_differ (name ∷ names) = is_none name names && all_differ names

-- the names of files
abbrev names_of : List File → List (List ℕ)
names_of files = map (λ (file : File). file.name) files

-- what the tests say
other_name : (a b : List ℕ) → not (bytes_eq a b) ≡ true → b ≢ a
other_name a b h e = by (bytes_eq a b) ((bytes_eq-Decides a b).1 (sym e)) h
  where
    by : (x : Bool) → x ≡ true → not x ≡ true → ⊥
    by true e h = absurd cc
    by false e h = absurd cc

none_named : (name : List ℕ) (files : List File) → is_none name (names_of files) ≡ true → AllByRecursion (λ (file : File). name ≢ file.name) files
none_named name [] h = tt
none_named name (file ∷ files) h =
    let p = both (not (bytes_eq file.name name)) (is_none name (names_of files)) h in
    (other_name file.name name p.0, none_named name files p.1)

-- no two files have one name
abbrev pub Differ : File → File → Type 0
Differ a b = a.name ≢ b.name

apart_named : (files : List File) → all_differ (names_of files) ≡ true → AllPairs Differ files
apart_named [] h = λ i j d lt within. absurd (omega (arith, within))
apart_named (file ∷ files) h =
    let p = both (is_none file.name (names_of files)) (all_differ (names_of files)) h in
    AllPairs-cons Differ file files (All-from_recursion (Differ file) files (none_named file.name files p.0)) (apart_named files p.1)

-- the files that are made of the worked coverage
unfoldable pub made_list : List File
made_list = map (file_within (codes "out")) (files_made (cut_tables worked_request worked_parts worked_tile_tables) ++ feature_list)

pub made_are : cut_files worked_request worked_parts worked_tile_tables ≡ made_list
unfolding made_list
made_are =
    ap (λ (made : Made). map (file_within (codes "out")) (files_made (cut_tables worked_request worked_parts worked_tile_tables) ++ files_in_made made)) features_are

-- ---- their names

-- all names
abbrev made_names : List (List ℕ)
made_names =
    codes "out/tileref/tileref.aft"
    ∷ codes "out/roads/west/edg"
    ∷ codes "out/roads/west/edx"
    ∷ codes "out/roads/west/fac"
    ∷ codes "out/roads/west/rng"
    ∷ codes "out/roads/west/cnd"
    ∷ codes "out/roads/east/edg"
    ∷ codes "out/roads/east/edx"
    ∷ codes "out/roads/east/fac"
    ∷ codes "out/roads/east/rng"
    ∷ codes "out/roads/east/cnd"
    ∷ codes "out/roads/fcs"
    ∷ codes "out/roads/road.lft"
    ∷ codes "out/roads/lanes.ti"
    ∷ []

-- a table whose name ends in `g` has an index whose name ends in `x`
index_is : (front : List ℕ) → IsUtf8 front → index_name (front ++ codes "g") ≡ front ++ codes "x"
index_is front text =
    ap (λ (before : List ℕ). before ++ codes "x")
    (ap (λ (end : List ℕ). without_last (front ++ end)) (sym (encode_ascii 103 (omega arith))) ∙ last_dropped front 103 text refl)

west_index : index_name (codes "roads/west/edg") ≡ codes "roads/west/edx"
west_index = index_is (codes "roads/west/ed") (text_tested (codes "roads/west/ed") refl)

east_index : index_name (codes "roads/east/edg") ≡ codes "roads/east/edx"
east_index = index_is (codes "roads/east/ed") (text_tested (codes "roads/east/ed") refl)

names_are : names_of made_list ≡ made_names
unfolding made_list
names_are = rw (west_index, east_index) refl

pub they_differ : AllPairs Differ made_list
they_differ =
    let differ : all_differ made_names ≡ true = refl in
    apart_named made_list (subst (λ (names : List (List ℕ)). all_differ names ≡ true) (sym names_are) differ)
