-- Names that no made file has: those of the edges where a folder has no tables, and of entity nodes where there are none.
use Rattle.std.proofs.Common.{[], ◌≡◌, ◌≢◌, ◌<◌, ◌≤◌, ℕ, suc, Bool, true, false, List, ◌∷◌, ◌++◌, length, get_or, Option, Some, None, refl, sym, ap, subst, ◌∙◌, arith}
use Rattle.std.specs.Prelude.{IsUtf8, codes, nat_eq, if◌then◌else◌}
use Rattle.std.specs.Char.{IsScalar}
use Rattle.std.specs.List.{AllByRecursion, ends_with}
use Rattle.std.proofs.lemmas.List.{length-append}
use Rattle.std.proofs.lemmas.List.Concat.{flat_map-append}
use Rattle.std.proofs.lemmas.Str.{encode_ascii}
use Rattle.vpf_source.specs.Names.Indexes.{index_name}
use Rattle.vpf_source.specs.Names.Naming.{slash}
use Rattle.vpf_table.specs.Canonical.{canonical_index}
use Rattle.vpf_table.specs.Grid.{Grid}
use Rattle.vpf_prims.specs.Reading.{PrimitiveTables}
use Rattle.vpf_write.specs.Made.Files.{index_files, table_files}
use Rattle.vpf_library_files.specs.Loading.Loading.{within}
use Rattle.vpf_library_files.specs.TableFiles.Adding.{files_made, files_of_table, table_within}
use Rattle.vpf_tiler.specs.Inner.TiledFiles.StemLaws.{cut_ends, index_behind, within_utf8, within_is}
use Rattle.vpf_tiler.specs.Inner.TiledFiles.PathLaws.{IsInner}
use Rattle.vpf_base.proofs.Lists.{all_joined as all_both}
use Rattle.vpf_tiler.proofs.tiled_files.ReadTiles.{all_tables}
use Rattle.vpf_tiler.specs.Inner.TiledFiles.TileLaws.{ascii, end_in, last_behind, tables_held as tables_in}
use Rattle.vpf_tiler.specs.Inner.TiledFiles.AbsentLaws.{IsOtherName as IsOther}

-- ---- the files of one table

table_apart : (name wanted : List ℕ) (g : Grid) → name ≢ wanted → index_name name ≢ wanted → AllByRecursion (IsOther wanted) (table_files name g)
table_apart name wanted g h k = (h, by (canonical_index g))
  where
    by : (o : Option (List ℕ)) → AllByRecursion (IsOther wanted) (index_files name o)
    by None = tt
    by (Some bytes) = (k, tt)

-- a name of three letters behind a stem isn't that of a table with other letters or another stem, nor that of an index
pub letters_apart : (name stem st : List ℕ) (a b c d e f : ℕ) (g : Grid) → name ≡ stem ++ a ∷ b ∷ c ∷ [] → index_name name ≡ stem ++ a ∷ b ∷ 120 ∷ []
    → (stem ≡ st → a ≡ d → b ≡ e → c ≡ f → ⊥) → 120 ≢ f → AllByRecursion (IsOther (st ++ d ∷ e ∷ f ∷ [])) (table_files name g)
letters_apart name stem st a b c d e f g is index apart last =
    table_apart name (st ++ d ∷ e ∷ f ∷ []) g
    (λ h. let cut = cut_ends stem st (a ∷ b ∷ c ∷ []) (d ∷ e ∷ f ∷ []) refl (sym is ∙ h) in
    apart cut.0 (ap (λ (x : List ℕ). get_or x 0 0) cut.1) (ap (λ (x : List ℕ). get_or x 1 0) cut.1) (ap (λ (x : List ℕ). get_or x 2 0) cut.1))
    (λ h. let cut = cut_ends stem st (a ∷ b ∷ 120 ∷ []) (d ∷ e ∷ f ∷ []) refl (sym index ∙ h) in
    last (ap (λ (x : List ℕ). get_or x 2 0) cut.1))

three_apart : (folder st : List ℕ) (a b c d e f : ℕ) (g : Grid) → IsUtf8 folder → a < 128 → b < 128 → c < 128 → IsScalar c
    → (within folder [] ≡ st → a ≡ d → b ≡ e → c ≡ f → ⊥) → 120 ≢ f
    → AllByRecursion (IsOther (st ++ d ∷ e ∷ f ∷ [])) (files_of_table (table_within folder (a ∷ b ∷ c ∷ []) g))
three_apart folder st a b c d e f g u h k l s apart last =
    let index : index_name (within folder (a ∷ b ∷ c ∷ [])) ≡ within folder [] ++ a ∷ b ∷ 120 ∷ [] =
    ap index_name (last_behind folder (a ∷ b ∷ []) c)
    ∙ index_behind (within folder (a ∷ b ∷ [])) c (within_utf8 folder (a ∷ b ∷ []) u (ascii a b h k)) s (encode_ascii c l)
    ∙ sym (last_behind folder (a ∷ b ∷ []) 120) ∙ within_is folder (a ∷ b ∷ 120 ∷ []) in
    letters_apart (within folder (a ∷ b ∷ c ∷ [])) (within folder []) st a b c d e f g (within_is folder (a ∷ b ∷ c ∷ [])) index apart last

-- ---- the files of one tile

-- none is the table of edges of another folder
tile_edges_apart : (folder st : List ℕ) (P : PrimitiveTables) → IsUtf8 folder → within folder [] ≢ st
    → AllByRecursion (IsOther (st ++ codes "edg")) (files_made (tables_in folder P))
tile_edges_apart folder st P u ne =
    let Q = IsOther (st ++ codes "edg") in
    all_both Q (files_of_table (table_within folder (codes "edg") P.edg)) _
    (three_apart folder st 101 100 103 101 100 103 P.edg u (omega arith) (omega arith) (omega arith) refl (λ s h k l. ne s) (λ h. omega (arith, h)))
    (all_both Q (files_of_table (table_within folder (codes "fac") P.fac)) _
    (three_apart folder st 102 97 99 101 100 103 P.fac u (omega arith) (omega arith) (omega arith) refl (λ s h k l. omega (arith, h)) (λ h. omega (arith, h)))
    (all_both Q (files_of_table (table_within folder (codes "rng") P.rng)) _
    (three_apart folder st 114 110 103 101 100 103 P.rng u (omega arith) (omega arith) (omega arith) refl (λ s h k l. omega (arith, h)) (λ h. omega (arith, h)))
    (all_both Q (files_of_table (table_within folder (codes "cnd") P.cnd)) _
    (three_apart folder st 99 110 100 101 100 103 P.cnd u (omega arith) (omega arith) (omega arith) refl (λ s h k l. omega (arith, h)) (λ h. omega (arith, h)))
    (by P.end))))
  where
    by : (end : Option Grid) → AllByRecursion (IsOther (st ++ codes "edg")) (files_made (end_in folder end))
    by None = tt
    by (Some g) =
        all_both (IsOther (st ++ codes "edg")) (files_of_table (table_within folder (codes "end") g)) []
        (three_apart folder st 101 110 100 101 100 103 g u (omega arith) (omega arith) (omega arith) refl (λ s h k l. omega (arith, k)) (λ h. omega (arith, h)))
        tt

-- where there are no entity nodes none is a table of them
tile_ends_apart : (folder st : List ℕ) (P : PrimitiveTables) → IsUtf8 folder → P.end ≡ None
    → AllByRecursion (IsOther (st ++ codes "end")) (files_made (tables_in folder P))
tile_ends_apart folder st P u none =
    let Q = IsOther (st ++ codes "end") in
    all_both Q (files_of_table (table_within folder (codes "edg") P.edg)) _
    (three_apart folder st 101 100 103 101 110 100 P.edg u (omega arith) (omega arith) (omega arith) refl (λ s h k l. omega (arith, k)) (λ h. omega (arith, h)))
    (all_both Q (files_of_table (table_within folder (codes "fac") P.fac)) _
    (three_apart folder st 102 97 99 101 110 100 P.fac u (omega arith) (omega arith) (omega arith) refl (λ s h k l. omega (arith, h)) (λ h. omega (arith, h)))
    (all_both Q (files_of_table (table_within folder (codes "rng") P.rng)) _
    (three_apart folder st 114 110 103 101 110 100 P.rng u (omega arith) (omega arith) (omega arith) refl (λ s h k l. omega (arith, h)) (λ h. omega (arith, h)))
    (all_both Q (files_of_table (table_within folder (codes "cnd") P.cnd)) _
    (three_apart folder st 99 110 100 101 110 100 P.cnd u (omega arith) (omega arith) (omega arith) refl (λ s h k l. omega (arith, h)) (λ h. omega (arith, h)))
    (subst (λ (end : Option Grid). AllByRecursion Q (files_made (end_in folder end))) (sym none) tt))))

-- ---- the files of all tiles

-- none is the table of edges of a folder that is that of no tile with tables
pub edges_apart : (cov st : List ℕ) (paths : List (List ℕ)) (tiles : List (Option PrimitiveTables)) → IsUtf8 cov → AllByRecursion IsInner paths
    → ((k : ℕ) (P : PrimitiveTables) → get_or tiles k None ≡ Some P → within (within cov (get_or paths k [])) [] ≢ st)
    → AllByRecursion (IsOther (st ++ codes "edg")) (files_made (all_tables cov paths tiles))
edges_apart cov st [] tiles u inner apart = tt
edges_apart cov st (path ∷ paths) [] u inner apart = tt
edges_apart cov st (path ∷ paths) (None ∷ tiles) u inner apart = edges_apart cov st paths tiles u inner.1 (λ k. apart (suc k))
edges_apart cov st (path ∷ paths) (Some P ∷ tiles) u inner apart =
    subst (AllByRecursion (IsOther (st ++ codes "edg"))) (sym (flat_map-append files_of_table (tables_in (within cov path) P) (all_tables cov paths tiles)))
    (all_both (IsOther (st ++ codes "edg")) (files_made (tables_in (within cov path) P)) (files_made (all_tables cov paths tiles))
    (tile_edges_apart (within cov path) st P (within_utf8 cov path u inner.0.utf8) (apart 0 P refl))
    (edges_apart cov st paths tiles u inner.1 (λ k. apart (suc k))))

-- none is a table of entity nodes, where no tile has one
pub ends_apart : (cov st : List ℕ) (paths : List (List ℕ)) (tiles : List (Option PrimitiveTables)) → IsUtf8 cov → AllByRecursion IsInner paths
    → ((k : ℕ) (P : PrimitiveTables) → get_or tiles k None ≡ Some P → P.end ≡ None)
    → AllByRecursion (IsOther (st ++ codes "end")) (files_made (all_tables cov paths tiles))
ends_apart cov st [] tiles u inner none = tt
ends_apart cov st (path ∷ paths) [] u inner none = tt
ends_apart cov st (path ∷ paths) (None ∷ tiles) u inner none = ends_apart cov st paths tiles u inner.1 (λ k. none (suc k))
ends_apart cov st (path ∷ paths) (Some P ∷ tiles) u inner none =
    subst (AllByRecursion (IsOther (st ++ codes "end"))) (sym (flat_map-append files_of_table (tables_in (within cov path) P) (all_tables cov paths tiles)))
    (all_both (IsOther (st ++ codes "end")) (files_made (tables_in (within cov path) P)) (files_made (all_tables cov paths tiles))
    (tile_ends_apart (within cov path) st P (within_utf8 cov path u inner.0.utf8) (none 0 P refl))
    (ends_apart cov st paths tiles u inner.1 (λ k. none (suc k))))

-- ---- the table of tiles

-- it is under no such name
pub tileref_apart : (st : List ℕ) (d e f : ℕ) (g : Grid) → 116 ≢ f → 120 ≢ f
    → AllByRecursion (IsOther (st ++ d ∷ e ∷ f ∷ [])) (files_of_table (table_within (codes "tileref") (codes "tileref.aft") g))
unfolding lib.Utf8.encode
tileref_apart st d e f g ne last =
    let utf8 : IsUtf8 (codes "tileref/tileref.af") = (codes "tileref/tileref.af", (refl, refl)) in
    letters_apart (codes "tileref/tileref.aft") (codes "tileref/tileref.") st 97 102 116 d e f g refl
    (index_behind (codes "tileref/tileref.af") 116 utf8 refl (encode_ascii 116 (omega arith))) (λ s h k l. ne l) last

-- ---- folders

-- a folder with a slash behind it is no shorter
opened_long : (folder : List ℕ) → length folder ≤ length (within folder [])
opened_long folder = by (ends_with nat_eq folder (slash ∷ []))
  where
    by : (b : Bool) → length folder ≤ length (if b then folder ++ [] else folder ++ slash ∷ [])
    by true = omega (arith, length-append folder [])
    by false = omega (arith, length-append folder (slash ∷ []))

some_long : (path : List ℕ) → path ≢ [] → 0 < length path
some_long [] h = absurd (h refl)
some_long (x ∷ path) h = omega arith

-- the folder of a tile isn't that of the coverage
pub own_apart : (cov path : List ℕ) → IsInner path → within (within cov path) [] ≢ within cov []
own_apart cov path inner e =
    let long = opened_long (within cov path) in
    let some = some_long path inner.some in
    omega (arith, long, some, ap length e, ap length (within_is cov path), length-append (within cov []) path)
