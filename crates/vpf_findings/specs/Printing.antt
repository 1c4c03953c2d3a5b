-- Findings as they are printed.
use Rattle.std.specs.Prelude.{ℕ, List, codes}
use Rattle.std.specs.Fmt.{decimal, signed_decimal}
use Rattle.vpf_value.specs.Kinds.{kind_text, count_text}
use Rattle.vpf_findings.specs.Text.Texts.{◌&◌}
use Rattle.vpf_findings.specs.Text.Bytes.{printed}
use Rattle.vpf_findings.specs.Text.Cells.{cell_text}
use Rattle.vpf_darts.specs.Darts.{tile_dart_text}
use Rattle.vpf_findings.specs.declared.finding.SeenWord.{SeenWord}
use Rattle.vpf_findings.specs.declared.finding.SeenWord.TheVariants as words
use Rattle.vpf_findings.specs.declared.own.OwnFinding.{OwnFinding}
use Rattle.vpf_findings.specs.Findings.{Sight, NumberSeen, CellSeen, KindSeen, RangeSeen, DartSeen, WordSeen, Disagreement}

-- a word for what is seen or wanted
abbrev pub seen_word_text : SeenWord → List ℕ
seen_word_text words.Absent = codes "none"
seen_word_text words.Number = codes "number"
seen_word_text words.Reference = codes "reference"
seen_word_text words.Mark = codes "mark"
seen_word_text words.Text = codes "text"
seen_word_text words.Path = codes "path"
seen_word_text words.Plain = codes "plain"
seen_word_text words.Tile = codes "tile"
seen_word_text words.Inside = codes "inside"
seen_word_text words.Other = codes "other"
seen_word_text words.Dart = codes "dart"
seen_word_text words.Node = codes "node"
seen_word_text words.Sign = codes "sign"

-- what is seen or wanted
abbrev pub sight_text : Sight → List ℕ
sight_text (NumberSeen n) = signed_decimal n
sight_text (CellSeen kind value) = cell_text kind value
sight_text (KindSeen kind count) = kind_text kind & codes "," & count_text count
sight_text (RangeSeen low high) = decimal low & codes " to " & decimal high
sight_text (DartSeen dart) = tile_dart_text dart
sight_text (WordSeen word) = seen_word_text word

-- a place that disagrees, without the name of its file
abbrev pub unnamed_text : Disagreement → List ℕ
unnamed_text d = codes "disagree " & decimal d.rule & codes " row " & decimal d.row & codes " " & printed d.column & codes ": " & sight_text d.found & codes ", " & sight_text d.wanted

-- what a finding of its own memory holds: the printed texts of what was found and wanted
abbrev pub own_of : Disagreement → OwnFinding
own_of d = record { rule = d.rule; tile = d.tile; table = d.table; file = d.file; row = d.row; column = d.column; found = sight_text d.found; wanted = sight_text d.wanted }

-- where a finding in the file of this name is: the rule, the file, the row and the column
abbrev pub where_text : ℕ → List ℕ → ℕ → List ℕ → List ℕ
where_text rule name row column = codes "disagree " & decimal rule & codes " " & printed name & codes " row " & decimal row & codes " " & printed column

-- the line of a finding in the file of this name
abbrev pub own_text : List ℕ → OwnFinding → List ℕ
own_text name f = where_text f.rule name f.row f.column & codes ": " & f.found & codes ", " & f.wanted & codes "\n"

-- the line of a place that disagrees, in the file of this name
abbrev pub disagree_text : List ℕ → Disagreement → List ℕ
disagree_text name d = own_text name (own_of d)
