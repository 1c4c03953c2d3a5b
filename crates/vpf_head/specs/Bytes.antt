-- The bytes that have a part in the grammar of a header text.
use Rattle.std.specs.Prelude.{ℕ}

-- `;`, which ends the table's own items and the columns
abbrev pub semicolon : ℕ
semicolon = 59

-- `,`, which ends most items of a column
abbrev pub comma : ℕ
comma = 44

-- `:`, which ends a column
abbrev pub colon : ℕ
colon = 58

-- `=`, which ends a column's name
abbrev pub equals : ℕ
equals = 61

-- `-`, an absent name
abbrev pub hyphen : ℕ
hyphen = 45

-- `*`, a count that each row gives
abbrev pub star : ℕ
star = 42

-- ` `
abbrev pub space : ℕ
space = 32

-- CR
abbrev pub carriage_return : ℕ
carriage_return = 13

-- LF
abbrev pub line_feed : ℕ
line_feed = 10
