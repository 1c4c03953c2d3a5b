-- `check` is done exactly where the coverage agrees.
use Rattle.std.proofs.Common.{◌≡◌, ℕ, List}
use Rattle.vpf_triplet.specs.declared.places.Place.{Place}
use Rattle.vpf_triplet.specs.declared.places.Code.{Code}
use Rattle.vpf_triplet.specs.declared.places.Code.TheVariants as codes
use Rattle.vpf_replies.specs.declared.verdict.Verdict.TheVariants.{Done}
use Rattle.vpf_replies.specs.Tables.{answer_by}
use Rattle.vpf_library_files.specs.declared.loading.loading.LoadStop.{LoadStop}
use Rattle.vpf_library_files.specs.declared.loading.loading.LoadStop.TheVariants as stops
use Rattle.vpf_featured.specs.LoadReplies.Stopping.{stop_answer}

pub fault_refuses : (name : List ℕ) (place : Place) (code : Code) → (answer_by name place code).verdict ≡ Done → ⊥
fault_refuses name place (codes.LimitHeader found) h = absurd cc
fault_refuses name place (codes.LimitColumns found) h = absurd cc
fault_refuses name place (codes.LimitName found) h = absurd cc
fault_refuses name place (codes.LimitRows found) h = absurd cc
fault_refuses name place codes.NumberCut h = absurd cc
fault_refuses name place codes.HeaderCut h = absurd cc
fault_refuses name place codes.ItemEnd h = absurd cc
fault_refuses name place codes.ItemSeparator h = absurd cc
fault_refuses name place codes.ItemByte h = absurd cc
fault_refuses name place codes.NameEmpty h = absurd cc
fault_refuses name place codes.NameRepeat h = absurd cc
fault_refuses name place codes.Kind h = absurd cc
fault_refuses name place codes.Count h = absurd cc
fault_refuses name place codes.Key h = absurd cc
fault_refuses name place codes.NoData h = absurd cc
fault_refuses name place codes.AfterHeader h = absurd cc
fault_refuses name place codes.CellCut h = absurd cc
fault_refuses name place codes.Triplet h = absurd cc
fault_refuses name place codes.IndexCut h = absurd cc
fault_refuses name place codes.IndexExtra h = absurd cc
fault_refuses name place codes.IndexCount h = absurd cc
fault_refuses name place codes.IndexRow h = absurd cc
fault_refuses name place codes.ThemeCut h = absurd cc
fault_refuses name place codes.ThemeForm h = absurd cc
fault_refuses name place codes.ThemeKind h = absurd cc
fault_refuses name place codes.ThemeCount h = absurd cc
fault_refuses name place codes.ThemeRowtype h = absurd cc
fault_refuses name place codes.ThemeSize h = absurd cc
fault_refuses name place codes.ThemeSort h = absurd cc
fault_refuses name place codes.ThemeSpan h = absurd cc
fault_refuses name place codes.ThemeRow h = absurd cc
fault_refuses name place codes.ThemePad h = absurd cc

pub stop_refuses : (stop : LoadStop) → (stop_answer stop).verdict ≡ Done → ⊥
stop_refuses (stops.Missing name) h = absurd cc
stop_refuses (stops.Place name place) h = fault_refuses name place place.code h
stop_refuses (stops.Limit name limit) h = absurd cc
stop_refuses (stops.Finding name f) h = absurd cc
stop_refuses (stops.Varies name) h = absurd cc
stop_refuses stops.Fault h = absurd cc
stop_refuses stops.NoMemory h = absurd cc
