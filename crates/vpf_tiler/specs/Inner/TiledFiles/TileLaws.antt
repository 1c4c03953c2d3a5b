-- The files of tiles within a folder, as they are read there.
use Rattle.std.proofs.Common.{[], ◌≡◌, ◌≢◌, ℕ, List, ◌∷◌, ◌++◌, Option, Some, None, sym, ap, ◌∙◌, append_assoc, ◌<◌}
use Rattle.std.specs.Prelude.{IsUtf8, codes}
use Rattle.vpf_table.specs.Canonical.{IsWritable}
use Rattle.vpf_table.specs.Grid.{Grid}
use Rattle.vpf_write.specs.Writing.{first_limit}
use Rattle.vpf_prims.specs.Reading.{PrimitiveTables}
use Rattle.vpf_library_files.specs.Loading.Loading.{within}
use Rattle.vpf_library_files.specs.TableFiles.Adding.{NamedTable, table_within}
use Rattle.vpf_tiler.specs.Inner.TiledFiles.StemLaws.{some_after, within_utf8, within_within, within_is}
use Rattle.vpf_tiler.specs.Inner.TiledFiles.PathLaws.{IsInner}
use Rattle.vpf_tiler.specs.Inner.TiledFiles.WrittenLaws.{OpensWritten as Opens}
use Rattle.std.proofs.lemmas.Str.{IsUtf8-from_ascii}
use Rattle.std.proofs.lemmas.Str.Ascii.{IsAscii-cons, IsAscii-nil}

-- the tables of a tile in its folder
abbrev pub end_in : (folder : List ℕ) → Option Grid → List NamedTable
end_in folder None = []
end_in folder (Some grid) = table_within folder (codes "end") grid ∷ []

abbrev pub tables_held : (folder : List ℕ) → PrimitiveTables → List NamedTable
tables_held folder P =
    table_within folder (codes "edg") P.edg ∷ table_within folder (codes "fac") P.fac ∷ table_within folder (codes "rng") P.rng
    ∷ table_within folder (codes "cnd") P.cnd ∷ end_in folder P.end

-- its last letter stands behind the rest
pub last_behind : (folder rest : List ℕ) (c : ℕ) → within folder (rest ++ c ∷ []) ≡ within folder rest ++ c ∷ []
last_behind folder rest c =
    within_is folder (rest ++ c ∷ []) ∙ sym (append_assoc (within folder []) rest (c ∷ [])) ∙ ap (λ (x : List ℕ). x ++ c ∷ []) (sym (within_is folder rest))

-- a folder that is read: its name within the one around it
pub record IsTilePlace (out folder place : List ℕ) : Type 0 where
  pub out_utf8 : IsUtf8 out
  pub utf8 : IsUtf8 folder
  pub some : folder ≢ []
  pub is : within out folder ≡ place

-- what reading asks for a table to be opened
abbrev pub EachOpens : Type 0
EachOpens = (g : Grid) → IsWritable g → first_limit g ≡ None → Opens g

-- the folder of a tile within that of the coverage
pub tile_place : (out cov path : List ℕ) → IsUtf8 out → IsUtf8 cov → cov ≢ [] → IsInner path → IsTilePlace out (within cov path) (within (within out cov) path)
tile_place out cov path u v some inner = record {
  out_utf8 = u;
  utf8 = within_utf8 cov path v inner.utf8;
  some = λ e. some_after (within cov []) path inner.some (sym (within_is cov path) ∙ e);
  is = within_within out cov path some;
}

pub ascii : (a b : ℕ) → a < 128 → b < 128 → IsUtf8 (a ∷ b ∷ [])
ascii a b h k = IsUtf8-from_ascii (a ∷ b ∷ []) (IsAscii-cons a (b ∷ []) h (IsAscii-cons b [] k IsAscii-nil))
