-- The words for why a file is refused.
use Rattle.std.specs.Prelude.{ℕ, List, codes as text}
use Rattle.vpf_triplet.specs.declared.places.Code.{Code}
use Rattle.vpf_triplet.specs.declared.places.Code.TheVariants as codes

-- the word of a code, as refusals print it
abbrev pub code_text : Code → List ℕ
code_text codes.NumberCut = text "number-cut"
code_text (codes.LimitHeader found) = text "limit-header"
code_text codes.HeaderCut = text "header-cut"
code_text (codes.LimitColumns found) = text "limit-columns"
code_text codes.ItemEnd = text "item-end"
code_text codes.ItemSeparator = text "item-separator"
code_text (codes.LimitName found) = text "limit-name"
code_text codes.ItemByte = text "item-byte"
code_text codes.NameEmpty = text "name-empty"
code_text codes.NameRepeat = text "name-repeat"
code_text codes.Kind = text "kind"
code_text codes.Count = text "count"
code_text codes.Key = text "key"
code_text codes.NoData = text "no-data"
code_text codes.AfterHeader = text "after-header"
code_text (codes.LimitRows found) = text "limit-rows"
code_text codes.CellCut = text "cell-cut"
code_text codes.Triplet = text "triplet"
code_text codes.IndexCut = text "index-cut"
code_text codes.IndexExtra = text "index-extra"
code_text codes.IndexCount = text "index-count"
code_text codes.IndexRow = text "index-row"
code_text codes.ThemeCut = text "theme-cut"
code_text codes.ThemeForm = text "theme-form"
code_text codes.ThemeKind = text "theme-kind"
code_text codes.ThemeCount = text "theme-count"
code_text codes.ThemeRowtype = text "theme-rowtype"
code_text codes.ThemeSize = text "theme-size"
code_text codes.ThemeSort = text "theme-sort"
code_text codes.ThemeSpan = text "theme-span"
code_text codes.ThemeRow = text "theme-row"
code_text codes.ThemePad = text "theme-pad"
